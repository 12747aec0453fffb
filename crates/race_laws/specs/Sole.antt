-- A record whose steps were made one section after the other, at tables where nobody else was: our own.
use Rattle.std.specs.Prelude.{◌≡◌, List, []}
use Rattle.std.specs.List.{flat_map}
use Rattle.list_words.specs.Lists.{Each}
use Rattle.capture_reader.specs.Captures.{Capture}
use Rattle.flat_list.specs.declared.command.Reply.{Reply}
use Rattle.flat_list.specs.Script.{Script, IsSmall}
use Rattle.sock_script.specs.Output.{flat_replies}
use Rattle.table_model.specs.Tables.{Tables, new_tables}
use Rattle.table_model.specs.Means.{IsShape}
use Rattle.race_record.specs.Lawful.{Lawful}
use Rattle.race_record.specs.Record.{Race, all_deeds, replies_of}
use Rattle.race_laws.specs.Order.{AsksNone}
use Rattle.race_laws.specs.Plays.{Plays}

abbrev pub all_replies : Race → List Reply
all_replies race = flat_map (λ replies. replies) (replies_of race)

-- One worker did all steps, one section after the other: then the replies are the flat list's.
abbrev pub SoleIsFlat : Type 0
SoleIsFlat =
    (script : Script) (capture : Capture) (race : Race) (after : Tables) → IsSmall script → IsShape script.header
    → Each AsksNone script.sections → Lawful script capture race
    → Plays (new_tables script.header.shape script.header.seed) (all_deeds race) after
    → all_replies race ≡ flat_replies script []
