-- That a card stays as it is under a count, by the words of the table and the views alone: our own.
use Rattle.std.specs.Prelude.{◌≡◌, ℕ, ◌<◌, ◌%◌, List, length, slice_index}
use mathlib.Core.Option.{some}
use lib.ListN.{get_elem?}
use Rattle.atomic_table.specs.Table.{State}
use Rattle.table_rule.specs.Lists.{stands}
use Rattle.table_rule.specs.LinkedOk.{words_at}
use Rattle.table_rule.specs.Rule.{state_of, card_of, Holds}
use Rattle.table_rule.specs.declared.view.View.{View}
use Rattle.table_rule.specs.declared.view.Layout.{Layout}
use Rattle.table_rule.specs.declared.view.Kept.{Kept}

-- what a count that was taken with LIVE, and is not put, says of its slot
pub record StaysIn (layout : Layout) (word : ℕ → ℕ) (views : List View) (h : Kept) : Type 0 where
  -- the card words that were loaded under it are the slot's, each of them
  pub known : (w x : ℕ) → w < 4 → get_elem? h.words w ≡ some x → card_of layout word h.slot w ≡ x
  pub card : length h.words ≡ 4 → words_at (card_of layout word) h.slot ≡ h.words
  -- the slot's state has a count, so that no claim finds it 0
  pub counted : h.slot < layout.shape.slots → 0 < state_of layout word h.slot % 4611686018427387904
  -- and the slot is no pass's fresh one, whose words are still to be stored
  pub unclaimed : (k : ℕ) (u : View) → get_elem? views k ≡ some u → stands h.slot u.slot.fresh ≡ 0

-- between any two steps, of each count that any pass keeps
abbrev pub HeldStays : Type 0
HeldStays =
    (layout : Layout) (s : State (Unit {0}) View) (k n : ℕ) (v : View) (h : Kept) → Holds layout s
    → get_elem? s.views k ≡ some v → get_elem? v.read.kept n ≡ some h
    → StaysIn layout (λ q. slice_index s.words q) s.views h

-- so in any two states in which a pass keeps a count with the whole card known, the slot has the same card
abbrev pub CardStays : Type 0
CardStays =
    (layout : Layout) (s s' : State (Unit {0}) View) (k k' n n' : ℕ) (v v' : View) (h : Kept) → Holds layout s
    → Holds layout s' → get_elem? s.views k ≡ some v → get_elem? s'.views k' ≡ some v'
    → get_elem? v.read.kept n ≡ some h → get_elem? v'.read.kept n' ≡ some h → length h.words ≡ 4
    → words_at (card_of layout (λ q. slice_index s.words q)) h.slot
    ≡ words_at (card_of layout (λ q. slice_index s'.words q)) h.slot
