-- Where a section's searches begin: our own.
use Rattle.std.specs.Prelude.{Bool, if◌then◌else◌}
use Rattle.table_model.specs.Own.{Offsets, past_offset}

-- the offsets after a search began, where one did
abbrev pub after_search : Bool → Offsets → Offsets
after_search began o = if began then past_offset o else o
