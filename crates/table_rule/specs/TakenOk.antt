-- Counts taken: a state with a count is read only where some pass has taken one. Our own.
use Rattle.std.specs.Prelude.{◌≡◌, ℕ, ◌<◌, ◌≤◌, List, length}
use mathlib.Core.Option.{some}
use lib.ListN.{get_elem?}
use Rattle.list_words.specs.Lists.{total}
use Rattle.table_rule.specs.declared.view.View.{View}
use Rattle.table_rule.specs.declared.view.Sight.{Sight}

-- how many slots a pass has read as held alone
abbrev pub held_alone : List Sight → ℕ
held_alone sights = total (λ (s : Sight). length s.held) sights

-- it has read a slot as held alone only where it has taken a count itself
abbrev pub HeldByItself : View → Type 0
HeldByItself v = 0 < held_alone v.sights → 0 < v.slot.taken

abbrev pub all_taken : List View → ℕ
all_taken views = total (λ (v : View). v.slot.taken) views

pub record TakenOk (views : List View) : Type 0 where
  -- the counts that a pass has are among those that it took
  pub few : (k : ℕ) (v : View) → get_elem? views k ≡ some v → length v.slot.holds ≤ v.slot.taken
  -- a pass that was joined away has taken none
  pub gone : (k : ℕ) (v : View) → get_elem? views k ≡ some v → v.slot.parts ≡ 0 → v.slot.taken ≡ 0
  -- a slot was read as held alone only where some pass has taken a count
  pub alone : (k : ℕ) (v : View) → get_elem? views k ≡ some v → 0 < held_alone v.sights → 0 < all_taken views
