-- The notes of a bucket's journal, as the table of turns keeps them: our own.
use Rattle.turn_table.specs.declared.note.Note.{Note as NoteOf}
use Rattle.bind_buckets.specs.declared.request.Entry.{Entry}

abbrev pub Note : Type 0
Note = NoteOf Entry
