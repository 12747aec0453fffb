-- What a pass sees that tries slots one after the other: our own.
use Rattle.std.specs.Prelude.{◌≡◌, ℕ, ◌<◌, ◌≤◌, ◌+◌, Bool, cond, List, ◌++◌, map}
use Rattle.list_words.specs.Lists.{Each, total}
use Rattle.table_rule.specs.Lists.{times}
use Rattle.table_rule.specs.Plays.{glimpse_of, held_of}
use Rattle.table_rule.specs.declared.view.View.{View}
use Rattle.table_rule.specs.declared.view.Layout.{Layout}
use Rattle.table_rule.specs.declared.view.Sight.{Sight}
use Rattle.sock_slots.specs.declared.fresh.Full.{Full}

-- a slot that isn't free: one that was read as owned, or else as held alone
pub record Read : Type 0 where
  pub slot : ℕ
  pub owned : Bool

abbrev pub slot_in : Read → ℕ
slot_in r = r.slot

-- what the pass has seen by it
abbrev pub sight_by : View → Read → Sight
sight_by v r = cond r.owned (glimpse_of v r.slot) (held_of v r.slot)

abbrev pub owned_in : List Read → ℕ
owned_in reads = total (λ (r : Read). cond r.owned 1 0) reads

abbrev pub held_in : List Read → ℕ
held_in reads = total (λ (r : Read). cond r.owned 0 1) reads

-- w is v with a sighting for each of so many slots read as owned, and so many as held alone, all different, and each
-- one of P
pub record Tried (v w : View) (owned held : ℕ) (P : ℕ → Type 0) : Type 0 where
  pub reads : List Read
  pub is : w ≡ record v { sights = v.sights ++ map (sight_by v) reads }
  pub owned-is : owned_in reads ≡ owned
  pub held-is : held_in reads ≡ held
  pub in-them : Each P (map slot_in reads)
  pub once : (i : ℕ) → times i (map slot_in reads) ≤ 1

-- from a on, below b
abbrev pub Between : ℕ → ℕ → ℕ → Type 0
Between a b i = (a ≤ i) × (i < b)

-- each slot was read as owned or as held alone
abbrev pub IsFull : Layout → View → View → Full → Type 0
IsFull layout v w f = (f.owned + f.held ≡ layout.shape.slots) × Tried v w f.owned f.held (Between 0 layout.shape.slots)
