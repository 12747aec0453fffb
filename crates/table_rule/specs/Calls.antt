-- What the calls ask and say. Our own.
--
-- To be read by the names that contracts cite: most stand on no other here. `FirstWord` is of a private function.
use Rattle.std.specs.Prelude.{◌≡◌, ℕ, ◌<◌, ◌≤◌, ◌+◌, ◌*◌, ◌%◌, ◌⊎◌, List, [], ◌∷◌, ◌++◌, length}
use Rattle.table_rule.specs.declared.view.SlotView.{SlotView}
use Rattle.sock_card.specs.declared.words.CardWords.{CardWords}
use Rattle.atomic_table.specs.Table.{Me}
use Rattle.table_rule.specs.declared.table.Chains.{Chains}
use Rattle.table_rule.specs.declared.table.Steps.{Steps}
use Rattle.table_rule.specs.Lists.{slots_of}
use Rattle.table_rule.specs.Words.{words_of}
use Rattle.table_rule.specs.ChainsOk.{first_link}
use Rattle.table_rule.specs.CardsOk.{NoneTwice}
use Rattle.table_rule.specs.Owners.{time_waits, HasPlace}
use Rattle.table_rule.specs.Plays.{card_in, unlocking, IsAbove}
use Rattle.table_rule.specs.Rule.{drawn}
use Rattle.table_rule.specs.declared.view.Change.{Change}
use Rattle.table_rule.specs.declared.view.View.{View}
use Rattle.table_rule.specs.declared.view.Layout.{Layout}
use Rattle.table_rule.specs.declared.view.Seen.{Seen}

-- what a pass knows
abbrev pub view : Steps → View
view steps = steps.seat.me.0

-- the same, with the slots that it has at home in the table: none
abbrev pub me : Steps → Me (Unit {0}) View
me steps = steps.seat.me

-- what a table is laid out for
abbrev pub layout_of : Chains → Layout
layout_of t = t.layout

-- it is a pass of this table
abbrev pub IsOf : Chains → Steps → Type 0
IsOf t steps = (steps.seat.table_id ≡ t.table.shared.table_id) × ((view steps).layout ≡ t.layout)

-- it knows this from now on, and all else of it stays
abbrev pub Becomes : (old new : Steps) → View → Type 0
Becomes old new v = new.seat.me ≡ (v, old.seat.me.1)

-- it has given its lock back, at an instant of the clock that is no earlier than that of any sighting
abbrev pub Unlocks : (old new : Steps) → Type 0
Unlocks old new =
    (instant : ℕ) × IsAbove (view old) instant × Becomes old new (unlocking (view old) instant)

abbrev pub Stays : (old new : Steps) → Type 0
Stays old new = new.seat.me ≡ old.seat.me

-- the list's only slot, with so many card words known
abbrev pub IsSlot : ℕ → ℕ → List Seen → Type 0
IsSlot slot words xs = (s : Seen) × (s.slot ≡ slot) × (length s.words ≡ words) × (xs ≡ s ∷ [])

-- where a walk shows what follows these slots of its list
abbrev pub Tells : View → List Seen → Type 0
Tells v back = (v.chain.met ≡ 1) ⊎ (0 < length back + length v.chain.ahead)

abbrev pub link_after : ℕ → View → List Seen → ℕ
link_after b v back = first_link b (slots_of back ++ slots_of v.chain.ahead)

-- the slot is dimmed and nothing else is under way
abbrev pub IsLeaving : ℕ → View → Type 0
IsLeaving slot v = (v.slot.dimmed ≡ slot ∷ []) × (v.slot.loose ≡ []) × (v.slot.hung ≡ []) × (v.slot.tied ≡ [])

abbrev pub seen_of : ℕ → CardWords → Seen
seen_of slot card = record { slot = slot; words = words_of card }

-- the pass is in the middle of no change
abbrev pub IsIdle : SlotView → Type 0
IsIdle v = (v.fresh ≡ []) × (v.tied ≡ []) × (v.hung ≡ []) × (v.dimmed ≡ []) × (v.loose ≡ [])

-- the open change of the pass is a hash of this slot, or an unhash
abbrev pub IsHashOf : ℕ → View → Type 0
IsHashOf slot v = (c : Change) × (v.book.opened ≡ c ∷ []) × (c.kind ≡ 1) × (c.slot ≡ slot)

abbrev pub IsUnhashOf : ℕ → View → Type 0
IsUnhashOf slot v = (c : Change) × (v.book.opened ≡ c ∷ []) × (c.kind ≡ 0) × (c.slot ≡ slot)

-- the slot's card in the list is a TIME_WAIT's, or the slot is a place of the pass
abbrev pub MayUnhash : ℕ → View → Type 0
MayUnhash slot v = (time_waits (card_in slot v.chain.walked) ≡ 1) ⊎ HasPlace slot v.book

-- it lit no card under this lock beside one of its four-tuple, or no two of the list have one any more
abbrev pub MayUnlock : View → Type 0
MayUnlock v = (v.twice ≡ 0) ⊎ ((v.chain.met ≡ 1) × NoneTwice v.chain.walked)

-- the pass may draw one number more
abbrev pub HasShare : View → Type 0
HasShare v = drawn v + 1 ≤ v.slot.parts * 281474976710656

abbrev pub HasShares : ℕ → View → Type 0
HasShares n v = drawn v + n ≤ v.slot.parts * 281474976710656

-- what word q is at the start: a head is its own end, all else is 0
abbrev pub FirstWord : ℕ → ℕ → ℕ → Type 0
FirstWord buckets q x = (q % 2 ≡ 1 → q < 1 + 2 * buckets → x ≡ q) × (1 + 2 * buckets ≤ q → x ≡ 0) × (q % 2 ≡ 0 → x ≡ 0)
