-- The owners in slots beside one of them.
use Rattle.std.proofs.Common.{◌≡◌, ℕ, ◌<◌, zero, suc, List, [], ◌∷◌, length, get_or, find, position, Option, Some, None, refl, sym, ◌∙◌, ap}
use Rattle.std.proofs.Math.ListN.{set}
use Rattle.std.proofs.lemmas.List.{get_or_default}
use Rattle.bind_buckets.specs.declared.slot.Slot.{Slot}
use Rattle.bind_buckets.specs.declared.slot.Asked.{Asked}
use Rattle.bind_buckets.specs.declared.slot.Asked.TheVariants as asks
use Rattle.bind_buckets.specs.First.{drop_first}
use Rattle.bind_buckets.specs.OwnerStep.{has_name}
use Rattle.bind_buckets.specs.Slots.{owners_in, answers, has, left_at, beside}
use Rattle.bind_buckets.proofs.FirstPlace.{place_is}
use Rattle.bind_buckets.proofs.SlotSteps.{leave, first_there, none_there, left_there, none_left}

-- a slot keeps its owner as the owner leaves
owner_left_at : (place : ℕ) (slots : List Slot) (i : ℕ) (d : Slot) → (get_or (left_at place slots) i d).owner ≡ (get_or slots i d).owner
owner_left_at place [] i d = refl
owner_left_at zero (s ∷ rest) zero d = refl
owner_left_at zero (s ∷ rest) (suc i) d = refl
owner_left_at (suc place) (s ∷ rest) zero d = refl
owner_left_at (suc place) (s ∷ rest) (suc i) d = owner_left_at place rest i d

left_is : (place : ℕ) (slots : List Slot) (x : Slot) → x ≡ get_or slots place x → left_at place slots ≡ set slots place (leave x)
left_is place [] x read = refl
left_is zero (s ∷ rest) x read = ap (λ (y : Slot). leave y ∷ rest) (sym read)
left_is (suc place) (s ∷ rest) x read = ap (λ ys. s ∷ ys) (left_is place rest x read)

owner_beside : (but : Option ℕ) (slots : List Slot) (i : ℕ) (d : Slot) → (get_or (beside but slots) i d).owner ≡ (get_or slots i d).owner
owner_beside None slots i d = refl
owner_beside (Some place) slots i d = owner_left_at place slots i d

-- the owner that is found stands in that slot
pub found_beside : (asked : Asked) (but : Option ℕ) (slots : List Slot) (place : ℕ) (d : Slot) → position (has asked) (beside but slots) ≡ Some place → find (answers asked) (owners_in (beside but slots)) ≡ Some (get_or slots place d).owner
found_beside asked but slots place d at =
    let others = beside but slots in
    let x = get_or others place d in
    let lt : place < length others = (place_is (has asked) others place at).1 in
    first_there (answers asked) others place x at (get_or_default others place d x lt)
    ∙ ap Some (owner_beside but slots place d)

pub none_beside : (asked : Asked) (but : Option ℕ) (slots : List Slot) → position (has asked) (beside but slots) ≡ None → find (answers asked) (owners_in (beside but slots)) ≡ None
none_beside asked but slots nowhere = none_there (answers asked) (beside but slots) nowhere

-- without the first owner of the name
pub without_named : (name : ℕ) (slots : List Slot) (but : Option ℕ) → but ≡ position (has (asks.Named name)) slots → owners_in (beside but slots) ≡ drop_first (has_name name) (owners_in slots)
without_named name slots None is = none_left (has_name name) slots (sym is)
without_named name [] (Some place) is = refl
without_named name (s ∷ rest) (Some place) is =
    let slots = s ∷ rest in
    let x = get_or slots place s in
    let at : position (has (asks.Named name)) slots ≡ Some place = sym is in
    let lt : place < length slots = (place_is (has (asks.Named name)) slots place at).1 in
    let read = get_or_default slots place s x lt in
    ap owners_in (left_is place slots x read) ∙ left_there (has_name name) slots place x at read
