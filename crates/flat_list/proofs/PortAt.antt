-- Which port stands at a place of the order.
use Rattle.std.proofs.Common.{◌≡◌, ℕ, ◌+◌, ◌-◌, ◌*◌, ◌/◌, ◌%◌, ◌<◌, ◌≤◌, List, ◌++◌, length, get_or, refl, ap, ◌∙◌, arith, length-append, drop-cons, drop, find, not, ◌&&◌, Some, None, Bool, true, false, suc, [], ◌∷◌}
use Rattle.std.proofs.lemmas.List.FromFn.{get_or-map-range_with_len, length-map-range_with_len}
use Rattle.std.proofs.lemmas.List.{get_or_append_left, get_or-append-add}
use Rattle.std.proofs.Math.ListN.{drop_of_length-le}
use Rattle.flat_list.specs.declared.header.Range.{Range}
use Rattle.flat_list.specs.declared.header.First.{First}
use Rattle.flat_list.specs.declared.header.First.TheVariants as firsts
use Rattle.flat_list.specs.Ports.{size, half_from, even, odd, whole_order, is_reserved, unreserved}

pub half_at : (r : Range) (distance number d : ℕ) → number < size r / 2 → get_or (half_from r distance) number d ≡ r.low + (distance + 2 * number) % size r
half_at r distance number d within =
    get_or-map-range_with_len (λ k. r.low + (distance + 2 * k) % size r) 0 (size r / 2) number number d within (omega arith)

-- half as many ports as the range has
pub half_length : (r : Range) (distance : ℕ) → length (half_from r distance) ≡ size r / 2
half_length r distance = length-map-range_with_len (λ k. r.low + (distance + 2 * k) % size r) 0 (size r / 2)

-- in the first half, in the second, and beyond
pub first_half_at : (r : Range) (a b number d : ℕ) → number < size r / 2 → get_or (half_from r a ++ half_from r b) number d ≡ get_or (half_from r a) number d
first_half_at r a b number d within = get_or_append_left (half_from r a) (half_from r b) d number (rw (half_length r a) within)

pub second_half_at : (r : Range) (a b number d : ℕ) → size r / 2 ≤ number → get_or (half_from r a ++ half_from r b) number d ≡ get_or (half_from r b) (number - size r / 2) d
second_half_at r a b number d past =
    let place : number ≡ length (half_from r a) + (number - size r / 2) = omega (arith, half_length r a) in
    ap (λ k. get_or (half_from r a ++ half_from r b) k d) place ∙ get_or-append-add (half_from r a) (half_from r b) (number - size r / 2) d

pub order_length : (r : Range) (offset : ℕ) (first : First) → length (whole_order r offset first) ≡ size r / 2 * 2
order_length r offset firsts.Odd = omega (arith, length-append (half_from r (odd offset)) (half_from r (even offset)), half_length r (odd offset), half_length r (even offset))
order_length r offset firsts.Even = omega (arith, length-append (half_from r (even offset)) (half_from r (odd offset)), half_length r (odd offset), half_length r (even offset))

-- the search has come so far, and found nothing before
pub record Searched (suits : ℕ → Bool) (ports : List ℕ) (place : ℕ) : Type 0 where
  pub left : find suits ports ≡ find suits (drop place ports)

pub searched_none : (suits : ℕ → Bool) (ports : List ℕ) → Searched suits ports 0
searched_none suits ports = record { left = refl }

-- the port at that place doesn't suit
pub searched_more : (suits : ℕ → Bool) (ports : List ℕ) (place port d : ℕ) → Searched suits ports place → place < length ports → port ≡ get_or ports place d → suits port ≡ false → Searched suits ports (place + 1)
searched_more suits ports place port d searched within here fails =
    let next : find suits (drop place ports) ≡ find suits (drop (suc place) ports) = rw (drop-cons ports place d, ← here, fails) refl in
    record { left = searched.left ∙ next ∙ ap (λ k. find suits (drop k ports)) (let e : suc place ≡ place + 1 = omega arith in e) }

-- it suits
pub searched_here : (suits : ℕ → Bool) (ports : List ℕ) (place port d : ℕ) → Searched suits ports place → place < length ports → port ≡ get_or ports place d → suits port ≡ true → find suits ports ≡ Some port
searched_here suits ports place port d searched within here fits = searched.left ∙ rw (drop-cons ports place d, ← here, fits) refl

-- there is none left
pub searched_all : (suits : ℕ → Bool) (ports : List ℕ) (place : ℕ) → Searched suits ports place → length ports ≤ place → find suits ports ≡ None
searched_all suits ports place searched past = searched.left ∙ ap (find suits) (drop_of_length-le ports past)

-- what suits and isn't reserved is found where the reserved ports are left out
pub find_unreserved : (r : Range) (suits : ℕ → Bool) (ports : List ℕ) → find (λ port. not (is_reserved r port) && suits port) ports ≡ find suits (unreserved r ports)
find_unreserved r suits [] = refl
find_unreserved r suits (port ∷ ports) = grind (arith, find_unreserved r suits ports)
