-- A race at its end: all workers joined, the clock loaded, the bind buckets taken. Our own.
use Rattle.std.specs.Prelude.{◌≡◌, ℕ, ◌+◌, true, List, length, map}
use Rattle.std.specs.List.{flat_map}
use Rattle.list_words.specs.Lists.{SameItems}
use Rattle.turn_table.specs.Journals.{numbers_below}
use Rattle.bind_buckets.specs.Turned.{View as BindView}
use Rattle.capture_reader.specs.declared.packet.Item.{Item}
use Rattle.chain_book.specs.declared.book.Change.{Change}
use Rattle.sock_ops.specs.Sides.{IsResting, change_of}
use Rattle.flat_list.specs.Script.{Script}
use Rattle.flat_list.specs.declared.command.Reply.{Reply}
use Rattle.sock_ops.specs.declared.tables.Tables.{Tables}
use Rattle.socket_list.specs.Listing.{Listing}
use Rattle.table_rule.specs.Changes.{are_kept}
use Rattle.table_rule.specs.Closes as closes
use Rattle.table_rule.specs.Passes.{known}
use Rattle.table_rule.specs.Plays.{seeing}
use Rattle.table_rule.specs.declared.view.View.{View}
use Rattle.race_run.specs.declared.finish.Ended.{Ended}
use Rattle.race_run.specs.declared.jobs.Outcome.{Outcome}
use Rattle.race_run.specs.declared.looker.Look.{Look}
use Rattle.race_run.specs.Joins.{Part}
use Rattle.race_run.specs.Lookers.{AllLooked, item_of}
use Rattle.race_run.specs.Races.{HasEnded}
use Rattle.race_run.specs.Said.{Said, replied_in, listed_in}

abbrev pub replies_in : Outcome → List Reply
replies_in o = o.replies.items

abbrev pub listings_in : Outcome → List Listing
listings_in o = o.listings.items

abbrev pub told_in : Outcome → List Look
told_in o = o.told.items

-- This is what the script's sections and so many lookers of these items, with so many passes a lookup, left: the chain
-- pass into which all others were joined, with all changes, the buckets, and what came of each job.
pub record HasFinished (script : Script) (passes : ℕ) (all : List Item) (lookers : ℕ) (e : Ended) : Type 0 where
  pub part : ℕ → Part
  pub turns : BindView
  pub chain : View
  pub says : List Said
  pub tooks : List (List Look)
  pub sees : known e.chain.pass ≡ seeing chain e.clock
  pub kept : are_kept e.chain.pass.changes ≡ true
  pub ended : HasEnded script.header script.sections part (length tooks) turns chain e.buckets.items says e.clock
  pub looked : AllLooked script.header passes all part (length script.sections + 1) tooks
  pub lookers_are : length tooks ≡ lookers
  pub once : SameItems (flat_map (λ took. map item_of took) tooks) (numbers_below (length all))
  pub replied : flat_map replies_in e.outcomes.items ≡ flat_map replied_in says
  pub listed : flat_map listings_in e.outcomes.items ≡ flat_map listed_in says
  pub tells : flat_map told_in e.outcomes.items ≡ flat_map (λ (took : List Look). took) tooks

-- It was left at these tables: the chain pass is one of theirs. A pass that has all parts, as this one has, is the only
-- one of its table, and knows each change that was made there.
abbrev pub IsLeftAt : Tables → Ended → Type 0
IsLeftAt t e = IsResting t.chains e.chain

-- a change that lies in memory is the one that its pass knows
abbrev pub as_known : Change → Change
as_known c = change_of (closes.change_of c)
