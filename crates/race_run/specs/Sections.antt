-- What a section's worker did from its first command on: our own.
use Rattle.std.specs.Prelude.{◌≡◌, ℕ, ◌<◌, List, [], ◌∷◌, map}
use Rattle.std.specs.List.{flat_map}
use Rattle.list_words.specs.Lists.{Each, SameItems}
use Rattle.bind_buckets.specs.Turned.{View as BindView}
use Rattle.flat_list.specs.declared.header.Header.{Header}
use Rattle.flat_list.specs.declared.command.Command.{Command}
use Rattle.socket_list.specs.Listing.{Listing}
use Rattle.table_rule.specs.Book.{open-end}
use Rattle.table_rule.specs.declared.view.Layout.{Layout}
use Rattle.table_rule.specs.declared.view.Sight.{Sight}
use Rattle.table_model.specs.Own.{Own, new_own}
use Rattle.table_model.specs.Commands.{answers, plan}
use Rattle.race_record.specs.Deeds.{entries_in, changes_in, given_in, taken_in, vain_in}
use Rattle.race_record.specs.Goes.{Goes}
use Rattle.race_record.specs.Record.{Step, deeds_of, reply_of}
use Rattle.race_record.specs.Lawful.{AreInOrder, IsCalledBy}
use Rattle.sock_ops.specs.Sides.{Side, changes_by}
use Rattle.sock_ops.specs.Made.{IsHomeIfHash, AllHaveWords, number_of}
use Rattle.race_run.specs.Dumped.{SawAs}
use Rattle.race_run.specs.Made.{SawFree, SawKeeper, SawNone, IsBy, SawNoWait, missed_in}
use Rattle.race_run.specs.Said.{Said}

-- what a script's chains are laid out for
abbrev pub layout_in : Header → Layout
layout_in header = record { shape = header.shape; seed = header.seed }

-- the steps of these commands, from one own to another
abbrev pub Makes : Header → Own → List Command → List Step → Own → Type 0
Makes header own [] [] last = own ≡ last
Makes header own (c ∷ cs) (s ∷ ss) last =
    (next : Own) × (s.command ≡ c) × Goes (plan header own c) s.deeds (answers next s.reply)
    × Makes header next cs ss last
Makes header own _ _ last = ⊥

-- what refused a step was seen between its numbers, and so was that what it sought was gone, and what it listed
pub record IsShown (layout : Layout) (sights : List Sight) (s : Step) : Type 0 where
  pub keepers : Each (SawKeeper sights s.from (IsBy s.to)) (taken_in s.deeds)
  pub frees : Each (SawFree sights) (given_in s.deeds)
  pub nones : Each (SawNone sights (IsBy s.to) layout.shape.slots) (vain_in s.deeds)
  pub waits : Each (SawNoWait sights s.from (IsBy s.to) layout) (missed_in s.deeds)
  pub dumps : SawAs layout sights s.command s

abbrev pub listings_in : Step → List Listing
listings_in s = s.listings

-- a worker did these commands of section n from its beginning, and nothing else
pub record HasDone (header : Header) (n : ℕ) (commands : List Command) (own : Own) (v : BindView) (c : Side)
    (s : Said) : Type 0 where
  pub layout : c.layout ≡ layout_in header
  pub few : c.view.seen < open-end
  pub steps : List Step
  pub makes : Makes header (new_own header n) commands steps own
  pub replied : map reply_of steps ≡ s.replies
  pub listed : flat_map listings_in steps ≡ s.listings
  pub order : AreInOrder c.view.seen steps
  pub entries : v.mine ≡ entries_in header.shape.bind (deeds_of steps)
  pub caller : v.caller ≡ n
  pub callers : Each (IsCalledBy n) v.mine
  pub changes : changes_by c ≡ changes_in (deeds_of steps)
  pub homes : Each (IsHomeIfHash (layout_in header)) (changes_in (deeds_of steps))
  pub words : AllHaveWords c
  pub lost : SameItems c.view.book.lost (map number_of (vain_in (deeds_of steps)))
  pub shown : Each (IsShown (layout_in header) c.view.sights) steps
  pub wholes : c.view.read.wholes ≡ []
  pub taken : c.view.slot.taken ≡ 0

-- a worker that has done nothing yet
pub record HasNothing (header : Header) (n : ℕ) (v : BindView) (c : Side) : Type 0 where
  pub layout : c.layout ≡ layout_in header
  pub few : c.view.seen < open-end
  pub mine : v.mine ≡ []
  pub caller : v.caller ≡ n
  pub closed : c.view.book.closed ≡ []
  pub lost : c.view.book.lost ≡ []
  pub wholes : c.view.read.wholes ≡ []
  pub receipts : c.view.read.receipts ≡ []
  pub taken : c.view.slot.taken ≡ 0
