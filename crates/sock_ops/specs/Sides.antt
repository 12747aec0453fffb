-- What a pass at shared chains knows, as operations on sockets go by it: our own.
--
-- To be read from the beginning: what a side is and made, up to `chains_by`, and then what calls ask and say of a pass.
use Rattle.std.specs.Prelude.{◌≡◌, ℕ, ◌+◌, ◌≤◌, ◌==◌, cond, List, [], map}
use Rattle.chain_book.specs.declared.book.Act.{Act}
use Rattle.chain_book.specs.declared.book.Act.TheVariants as acts
use Rattle.chain_book.specs.declared.book.Change.{Change}
use Rattle.chain_book.specs.Chains.{Chains}
use Rattle.chain_book.specs.Homes.{home}
use Rattle.table_rule.specs.Changes.{are_kept, len_of, capacity_of}
use Rattle.table_rule.specs.Words.{card_from}
use Rattle.table_rule.specs.Calls.{IsIdle, me}
use Rattle.table_rule.specs.Passes.{IsPassOf, known}
use Rattle.table_rule.specs.declared.view.Layout.{Layout}
use Rattle.table_rule.specs.declared.view.View.{View}
use Rattle.table_rule.specs.declared.view.Change.{Change as Closed}
use Rattle.bucket_locks.specs.declared.locks.Locked.{Locked}
use Rattle.nulls_chain.specs.declared.keeping.Place.{Place}
use Rattle.established.specs.Leavings as locks
use Rattle.established.specs.Alone.{chains_of}
use Rattle.sock_ops.specs.declared.chains.table.ChainTable.{ChainTable}
use Rattle.sock_ops.specs.declared.chains.table.ChainPass.{ChainPass}

-- what a table is laid out for, what its pass knows, and the slot from which it seeks the next free one
pub record Side : Type 0 where
  pub layout : Layout
  pub view : View
  pub next : ℕ

-- that of a pass at a table
abbrev pub side_of : ChainTable → ChainPass → Side
side_of t p = record { layout = t.layout; view = known p.pass; next = p.next }

abbrev pub act_of : ℕ → Act
act_of kind = cond (kind == 1) acts.Hash acts.Unhash

-- a change that a pass closed, as a record gives it
abbrev pub change_of : Closed → Change
change_of c =
    record {
      bucket = c.bucket;
      slot = c.slot;
      card = card_from c.card;
      act = act_of c.kind;
      begin = c.begins;
      end = c.ends;
    }

-- all changes that it closed, oldest first
abbrev pub changes_by : Side → List Change
changes_by c = map change_of c.view.book.closed

-- the chains that they make, where nobody else makes any
abbrev pub chains_by : Side → Chains
chains_by c = chains_of c.layout c.next c.view.book.closed

-- it is a pass of that table, with no change under way, no bucket locked and no slot at home in its hand, and keeps
-- its changes where that table's passes do
pub record IsResting (t : ChainTable) (p : ChainPass) : Type 0 where
  pub table : IsPassOf t.chains p.pass
  pub idle : IsIdle (known p.pass).slot
  pub opened : (known p.pass).book.opened ≡ []
  pub free : (known p.pass).chain.locked ≡ []
  pub hand : (me p.pass.steps).1 ≡ []
  pub next : p.next ≤ t.layout.shape.slots
  pub kept : are_kept p.pass.changes ≡ t.keeps_changes

-- a pass that knows this has no count out, keeps no card and is in no lookup: at rest, another may take it in
pub record HoldsNothing (v : View) : Type 0 where
  pub holds : v.slot.holds ≡ []
  pub kept : v.read.kept ≡ []
  pub reader : v.read.reader ≡ []

-- it has room for so many changes more
abbrev pub HasRoom : ℕ → ChainPass → Type 0
HasRoom n p = len_of p.pass.changes + n ≤ capacity_of p.pass.changes

-- so many changes were made at most: what else there was room for there still is
abbrev pub TakesRoom : ℕ → ChainPass → ChainPass → Type 0
TakesRoom n p q = (more : ℕ) → HasRoom (more + n) p → HasRoom more q

-- the place is in the chain in which its card belongs
abbrev pub IsAtHome : ChainTable → Place → Type 0
IsAtHome t place = place.bucket ≡ home t.layout.shape t.layout.seed place.card

-- a pass that rested on that side has locked the place's bucket since, and has done nothing else
pub record HasLockSince (c : Side) (t : ChainTable) (locked : Locked) (place : Place) (p : ChainPass) : Type 0 where
  pub table : IsPassOf t.chains p.pass
  pub side_is : c ≡ record { layout = t.layout; view = c.view; next = p.next }
  pub lock : locks.HasLockSince c.view locked place.bucket (known p.pass)
  pub idle : IsIdle c.view.slot
  pub opened : c.view.book.opened ≡ []
  pub hand : (me p.pass.steps).1 ≡ []
  pub next : p.next ≤ t.layout.shape.slots
  pub kept : are_kept p.pass.changes ≡ t.keeps_changes
