-- Laws of plans that go on by deeds: our own.
--
-- To be read by a law's name: each definition is one that src/laws.rt states, but for `drew_for`, `drew_in_vain`,
-- `GoesInTwo` and `told_of`.
use Rattle.std.specs.Prelude.{◌≡◌, ℕ, ◌%◌, Bool, true, false, List, ◌++◌, length, map, cond}
use Rattle.flat_list.specs.declared.header.Header.{Header}
use Rattle.flat_list.specs.declared.command.Command.{Command}
use Rattle.flat_list.specs.declared.command.Reply.{Reply}
use Rattle.flat_list.specs.declared.command.Reply.TheVariants as replies
use Rattle.turn_table.specs.Journals.{placed}
use Rattle.table_model.specs.Asking.{Asking, ends, and_then}
use Rattle.table_model.specs.Goes as goes
use Rattle.table_model.specs.Own.{Own}
use Rattle.table_model.specs.Commands.{Replied, answers, plan}
use Rattle.table_model.specs.Operations.{Did}
use Rattle.race_record.specs.Deeds.{Deed, entered, inserted, added, left, reaped, entries_in, vain_in}
use Rattle.race_record.specs.Goes.{Goes, outcome_of, was_there}
use Rattle.race_record.specs.Record.{Step}

-- what an operation did, and then what was done by its result: so a command's deeds are its operation's
abbrev pub GoesInTurn : Type 0
GoesInTurn =
    (p : Asking Did) (next : Did → Asking Replied) (xs ys : List Deed) (did : Did) (result : Replied)
    → Goes p xs did → Goes (next did) ys result → Goes (and_then p next) (xs ++ ys) result

-- deeds lead to one result
abbrev pub GoesOnce : Type 0
GoesOnce = (p : Asking Replied) (deeds : List Deed) (r s : Replied) → Goes p deeds r → Goes p deeds s → r ≡ s

-- a reply of a command that sought a slot in vain
abbrev pub drew_for : Reply → Bool
drew_for (replies.Enfile owned held) = true
drew_for (replies.NoSlot owned held) = true
drew_for _ = false

abbrev pub drew_in_vain : Step → Bool
drew_in_vain s = drew_for s.reply

-- a command sought a slot in vain once where its reply says so, and else never: so replies show how many numbers of
-- the clock belong to no change
abbrev pub RepliesTellVain : Type 0
RepliesTellVain =
    (header : Header) (own next : Own) (command : Command) (reply : Reply) (deeds : List Deed)
    → Goes (plan header own command) deeds (answers next reply) → length (vain_in deeds) ≡ cond (drew_for reply) 1 0

-- a command's deeds are an operation's, and then what its result makes
pub record GoesInTwo (p : Asking Did) (next : Did → Asking Replied) (deeds : List Deed)
    (result : Replied) : Type 0 where
  pub first : List Deed
  pub rest : List Deed
  pub did : Did
  pub joined : deeds ≡ first ++ rest
  pub goes : Goes p first did
  pub then_ : Goes (next did) rest result

abbrev pub GoesApart : Type 0
GoesApart =
    (p : Asking Did) (next : Did → Asking Replied) (deeds : List Deed) (result : Replied)
    → Goes (and_then p next) deeds result → GoesInTwo p next deeds result

-- what a deed reports to a plan, apart from the numbers of the clock: as the plans of table_model go on
abbrev pub told_of : ℕ → Deed → goes.Told
told_of buckets (entered key note) = goes.entered (placed (key % buckets) note)
told_of buckets (inserted wish tried) = goes.inserted wish.card wish.moment wish.rule (outcome_of tried)
told_of buckets (added card tried) = goes.added card (outcome_of tried)
told_of buckets (left u) = goes.left (record { bucket = u.bucket; slot = u.slot }) u.card
told_of buckets (reaped card unhash) = goes.reaps_found card (was_there unhash)

-- a plan that comes to a result by deeds is led there by what they report
abbrev pub GoesLeads : Type 0
GoesLeads =
    (buckets : ℕ) (p : Asking Replied) (deeds : List Deed) (result : Replied) → Goes p deeds result
    → goes.Leads buckets p (map (told_of buckets) deeds) (ends result)

-- and the entries of the deeds are those that they report
abbrev pub TellsEntries : Type 0
TellsEntries =
    (buckets : ℕ) (deeds : List Deed) → entries_in buckets deeds ≡ goes.entries_in (map (told_of buckets) deeds)
