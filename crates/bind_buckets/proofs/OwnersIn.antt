-- The owners in slots, where a slot is found, changed, left or taken out.
use Rattle.std.proofs.Common.{◌≡◌, ℕ, ◌+◌, ◌<◌, zero, suc, Bool, true, false, cond, ◌&&◌, List, [], ◌∷◌, ◌++◌, length, map, filter, find, get_or, Some, refl, sym, ◌∙◌, ap, arith}
use Rattle.std.proofs.Math.ListN.{set}
use Rattle.std.specs.Option.{option_map}
use Rattle.std.proofs.lemmas.List.{map-append}
use Rattle.std.proofs.lemmas.List.Elements.{filter-append}
use Rattle.sock_card.specs.declared.owner.Owner.{Owner}
use Rattle.bind_buckets.specs.declared.slot.Slot.{Slot}
use Rattle.bind_buckets.specs.First.{change_first, drop_first}
use Rattle.bind_buckets.specs.Slots.{owners_in}

abbrev pub is_here : Slot → Bool
is_here s = s.here

abbrev pub owner_of : Slot → Owner
owner_of s = s.owner

-- one slot in front of others, whose owner is here or left
abbrev before : Bool → Slot → List Slot → List Slot
before here s rest = cond here (s ∷ filter is_here rest) (filter is_here rest)

pub owners_append : (xs ys : List Slot) → owners_in (xs ++ ys) ≡ owners_in xs ++ owners_in ys
owners_append xs ys =
    ap (map owner_of) (filter-append is_here xs ys) ∙ map-append owner_of (filter is_here xs) (filter is_here ys)

again_by : (s : Slot) (rest : List Slot) (here : Bool) → s.here ≡ here → owners_in (filter is_here rest) ≡ owners_in rest → owners_in (before here s rest) ≡ map owner_of (before here s rest)
again_by s rest true e same = rw e (ap (λ xs. s.owner ∷ xs) same)
again_by s rest false e same = same

-- none is lost where slots of owners that left are given up
pub owners_kept : (slots : List Slot) → owners_in (filter is_here slots) ≡ owners_in slots
owners_kept [] = refl
owners_kept (s ∷ rest) = again_by s rest s.here refl (owners_kept rest)

shown : (s : Slot) (rest : List Slot) → s.here ≡ true → owners_in (s ∷ rest) ≡ s.owner ∷ owners_in rest
shown s rest e = rw e refl

hidden : (s : Slot) (rest : List Slot) → s.here ≡ false → owners_in (s ∷ rest) ≡ owners_in rest
hidden s rest e = rw e refl

module _ (is : Owner → Bool) where
  abbrev has : Slot → Bool
  has s = s.here && is s.owner

  found_by : (s : Slot) (rest : List Slot) (here b : Bool) → is s.owner ≡ b → find is (owners_in rest) ≡ option_map owner_of (find has rest) → find is (map owner_of (before here s rest)) ≡ option_map owner_of (cond (here && b) (Some s) (find has rest))
  found_by s rest true true e same = rw e refl
  found_by s rest true false e same = rw e same
  found_by s rest false b e same = same

  pub owner_found : (slots : List Slot) → find is (owners_in slots) ≡ option_map owner_of (find has slots)
  owner_found [] = refl
  owner_found (s ∷ rest) = found_by s rest s.here (is s.owner) refl (owner_found rest)

  module _ (f : Owner → Owner) (g : Slot → Slot) (stays : (s : Slot) → (g s).here ≡ s.here) (becomes : (s : Slot) → (g s).owner ≡ f s.owner) where
    changed_by : (s : Slot) (rest : List Slot) (here b : Bool) → s.here ≡ here → is s.owner ≡ b → change_first is f (owners_in rest) ≡ owners_in (change_first has g rest) → change_first is f (map owner_of (before here s rest)) ≡ owners_in (cond (here && b) (g s ∷ rest) (s ∷ change_first has g rest))
    changed_by s rest true true e q same =
        rw q (ap (λ a. a ∷ owners_in rest) (sym (becomes s)) ∙ sym (shown (g s) rest (stays s ∙ e)))
    changed_by s rest true false e q same = rw (q, e) (ap (λ xs. s.owner ∷ xs) same)
    changed_by s rest false b e q same = rw e same

    pub owner_changed : (slots : List Slot) → change_first is f (owners_in slots) ≡ owners_in (change_first has g slots)
    owner_changed [] = refl
    owner_changed (s ∷ rest) = changed_by s rest s.here (is s.owner) refl refl (owner_changed rest)

  module _ (g : Slot → Slot) (leaves : (s : Slot) → (g s).here ≡ false) where
    left_by : (s : Slot) (rest : List Slot) (here b : Bool) → s.here ≡ here → is s.owner ≡ b → drop_first is (owners_in rest) ≡ owners_in (change_first has g rest) → drop_first is (map owner_of (before here s rest)) ≡ owners_in (cond (here && b) (g s ∷ rest) (s ∷ change_first has g rest))
    left_by s rest true true e q same = rw q (sym (hidden (g s) rest (leaves s)))
    left_by s rest true false e q same = rw (q, e) (ap (λ xs. s.owner ∷ xs) same)
    left_by s rest false b e q same = rw e same

    pub owner_left : (slots : List Slot) → drop_first is (owners_in slots) ≡ owners_in (change_first has g slots)
    owner_left [] = refl
    owner_left (s ∷ rest) = left_by s rest s.here (is s.owner) refl refl (owner_left rest)

count_by : (x : Slot) (rest rest' : List Slot) (here : Bool) → x.here ≡ here → length (owners_in rest') + 1 ≡ length (owners_in rest) → length (owners_in (x ∷ rest')) + 1 ≡ length (owners_in (x ∷ rest))
count_by x rest rest' true e more = rw e (omega arith)
count_by x rest rest' false e more = rw e more

-- one fewer, where an owner that was here leaves
pub one_fewer : (slots : List Slot) (i : ℕ) (y d : Slot) → i < length slots → (get_or slots i d).here ≡ true → y.here ≡ false → length (owners_in (set slots i y)) + 1 ≡ length (owners_in slots)
one_fewer [] i y d lt was left = absurd (omega arith)
one_fewer (x ∷ rest) zero y d lt was left = rw (was, left) (omega arith)
one_fewer (x ∷ rest) (suc i) y d lt was left =
    count_by x rest (set rest i y) x.here refl (one_fewer rest i y d (omega arith) was left)

many_by : (x : Slot) (rest rest' : List Slot) (here : Bool) → x.here ≡ here → length (owners_in rest') ≡ length (owners_in rest) → length (owners_in (x ∷ rest')) ≡ length (owners_in (x ∷ rest))
many_by x rest rest' true e same = rw e (omega arith)
many_by x rest rest' false e same = rw e same

as_many_by : (x y : Slot) (rest : List Slot) (here : Bool) → x.here ≡ here → y.here ≡ x.here → length (owners_in (y ∷ rest)) ≡ length (owners_in (x ∷ rest))
as_many_by x y rest true e same =
    ap length (shown y rest (same ∙ e)) ∙ sym (ap length (shown x rest e))
as_many_by x y rest false e same =
    ap length (hidden y rest (same ∙ e)) ∙ sym (ap length (hidden x rest e))

-- as many, where none comes or goes
pub as_many : (slots : List Slot) (i : ℕ) (y d : Slot) → y.here ≡ (get_or slots i d).here → length (owners_in (set slots i y)) ≡ length (owners_in slots)
as_many [] i y d here = refl
as_many (x ∷ rest) zero y d here = as_many_by x y rest x.here refl here
as_many (x ∷ rest) (suc i) y d here = many_by x rest (set rest i y) x.here refl (as_many rest i y d here)
