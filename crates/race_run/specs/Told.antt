-- What is reported of a race that was run: our own.
--
-- To be read from the end: `IsToldBy` is what `tell` returns, and each stands on those above it.
use Rattle.std.specs.Prelude.{◌≡◌, ℕ, List, map}
use Rattle.std.specs.List.{flat_map}
use Rattle.bind_buckets.specs.Closed.{count_in}
use Rattle.capture_reader.specs.Captures.{Capture}
use Rattle.flat_list.specs.Script.{Script}
use Rattle.list_words.specs.Lists.{Each}
use Rattle.race_record.specs.declared.record.Looked.{Looked}
use Rattle.race_record.specs.Lawful.{Lawful, looked_at}
use Rattle.race_record.specs.Record.{Race}
use Rattle.race_text.specs.Render.{Told, told}
use Rattle.table_rule.specs.Changes.{list_of}
use Rattle.table_rule.specs.Plays.{seeing}
use Rattle.race_run.specs.declared.finish.Ended.{Ended}
use Rattle.race_run.specs.declared.looker.Look.{Look}
use Rattle.race_run.specs.Finished.{HasFinished, listings_in, replies_in, told_in}
use Rattle.race_run.specs.Lookers.{looks_by}
use Rattle.race_run.specs.Races.{race_by, steps_by}

-- It is what a race left at its end: all changes of the pass into which all others were joined, how many entries each
-- bucket's journal has, what the sections replied and listed, what came of each item that a looker took, and the clock
-- as it was loaded last.
pub record IsLeftBy (e : Ended) (t : Told) : Type 0 where
  pub book : t.book ≡ list_of e.chain.pass.changes
  pub journals : t.journals ≡ map count_in e.buckets.items
  pub replies : t.replies ≡ flat_map replies_in e.outcomes.items
  pub listings : t.listings ≡ flat_map listings_in e.outcomes.items
  pub looked : Each (λ (k : Look). looked_at t.looked k.item ≡ k.looked) (flat_map told_in e.outcomes.items)
  pub clock : t.clock ≡ e.clock

-- The record of a race that has ended, by what came of its items: its steps are those of the sections, and its changes,
-- its counts and what was read of slots are those of the pass into which all others were joined.
abbrev pub race_of :
    (script : Script) (capture : Capture) (lookers passes : ℕ) (e : Ended)
    → HasFinished script passes capture.items lookers e → List Looked → Race
race_of script capture lookers passes e h looked =
    race_by script.header (looks_by passes h.tooks looked capture)
    (steps_by script.header h.part 1 script.sections h.says h.ended.done) e.buckets.items (seeing h.chain e.clock)
    e.clock

-- it is what that race left, whose record is lawful, and reports it
pub record IsToldBy (script : Script) (capture : Capture) (lookers passes : ℕ) (e : Ended) (t : Told) : Type 0 where
  pub finished : HasFinished script passes capture.items lookers e
  pub left : IsLeftBy e t
  pub lawful : Lawful script capture (race_of script capture lookers passes e finished t.looked)
  pub told_is : t ≡ told (race_of script capture lookers passes e finished t.looked)
