-- The order of ports has each port of a range of even size once: both halves go round from where they begin.
use Rattle.std.proofs.Common.{◌≡◌, ℕ, ◌+◌, ◌*◌, ◌/◌, ◌%◌, ◌≤◌, zero, suc, List, [], ◌∷◌, if◌then◌else◌, map, refl, sym, ap, ◌∙◌, arith}
use Rattle.std.proofs.Math.Nat.{add-mod_right, mod-eq_of_lt}
use Rattle.std.specs.List.{range_with_len}
use Rattle.list_words.specs.Lists.{total, SameItems}
use Rattle.list_words.proofs.TotalLemmas.{total-append}
use Rattle.flat_list.specs.declared.header.Range.{Range}
use Rattle.flat_list.specs.declared.header.First.{First}
use Rattle.flat_list.specs.declared.header.First.TheVariants as firsts
use Rattle.flat_list.specs.Ports.{size, half_from, even, odd, whole_order, is_reserved, unreserved, TriesEachOnce}

-- what m numbers weigh, each greater by two than the one before
abbrev seconds : (ℕ → ℕ) → ℕ → ℕ → ℕ
seconds g s zero = 0
seconds g s (suc m) = g s + seconds g (s + 2) m

-- a half is such numbers
half_is : (f : ℕ → ℕ) (low n start a m : ℕ) → total f (map (λ k. low + (start + 2 * k) % n) (range_with_len a m)) ≡ seconds (λ x. f (low + x % n)) (start + 2 * a) m
half_is f low n start a zero = refl
half_is f low n start a (suc m) =
    let next : start + 2 * (a + 1) ≡ start + 2 * a + 2 = omega arith in
    ap (λ x. f (low + (start + 2 * a) % n) + x) (half_is f low n start (a + 1) m ∙ ap (λ s. seconds (λ x. f (low + x % n)) s m) next)

-- begun two later, the first is out and the next one in
moves : (g : ℕ → ℕ) (s m : ℕ) → seconds g (s + 2) m + g s ≡ seconds g s m + g (s + 2 * m)
moves g s zero = let same : s + 2 * 0 ≡ s = omega arith in rw same (omega arith)
moves g s (suc m) =
    let end : s + 2 + 2 * m ≡ s + 2 * suc m = omega arith in
    let same : g (s + 2 + 2 * m) ≡ g (s + 2 * suc m) = ap g end in
    omega (arith, moves g (s + 2) m, same)

-- where they go round, it doesn't matter where they begin
goes_round : (g : ℕ → ℕ) (m q s : ℕ) → ((x : ℕ) → g (x + 2 * m) ≡ g x) → seconds g (s + q * 2) m ≡ seconds g s m
goes_round g m zero s round = ap (λ x. seconds g x m) (let e : s + 0 * 2 ≡ s = omega arith in e)
goes_round g m (suc q) s round =
    let start : s + suc q * 2 ≡ s + q * 2 + 2 = omega arith in
    let moved : seconds g (s + q * 2 + 2) m ≡ seconds g (s + q * 2) m = omega (arith, moves g (s + q * 2) m, round (s + q * 2)) in
    ap (λ x. seconds g x m) start ∙ moved ∙ goes_round g m q s round

-- below the size nothing goes round
is_within : (f : ℕ → ℕ) (low n x m : ℕ) → x + 2 * m ≤ n + 1 → seconds (λ y. f (low + y % n)) x m ≡ seconds f (low + x) m
is_within f low n x zero h = refl
is_within f low n x (suc m) h =
    let here : x % n ≡ x = mod-eq_of_lt (omega arith) in
    let next : low + (x + 2) ≡ low + x + 2 = omega arith in
    rw here (ap (λ y. f (low + x) + y) (is_within f low n (x + 2) m (omega arith) ∙ ap (λ y. seconds f y m) next))

-- all numbers are every second one and the others
both_halves : (f : ℕ → ℕ) (low m : ℕ) → total f (range_with_len low (2 * m)) ≡ seconds f low m + seconds f (low + 1) m
both_halves f low zero = refl
both_halves f low (suc m) =
    let count : 2 * suc m ≡ suc (suc (2 * m)) = omega arith in
    let second : low + 1 + 1 ≡ low + 2 = omega arith in
    let third : low + 1 + 2 ≡ low + 2 + 1 = omega arith in
    rw (count, second, third) (omega (arith, both_halves f (low + 2) m))

-- what the ports of the half weigh that has the distance of that lowest bit, from an offset on
half_weighs : (f : ℕ → ℕ) (r : Range) (q b m : ℕ) → size r ≡ 2 * m → size r / 2 ≡ m → b ≤ 1 → total f (half_from r (q * 2 + b)) ≡ seconds f (r.low + b) m
half_weighs f r q b m whole half within =
    let g : ℕ → ℕ = λ x. f (r.low + x % size r) in
    let round : (x : ℕ) → g (x + 2 * m) ≡ g x = λ x. ap (λ y. f (r.low + y)) (rw (← whole) (add-mod_right x (size r))) in
    let start : q * 2 + b + 2 * 0 ≡ b + q * 2 = omega arith in
    let is : total f (half_from r (q * 2 + b)) ≡ seconds g (q * 2 + b + 2 * 0) m = rw half (half_is f r.low (size r) (q * 2 + b) 0 m) in
    is ∙ ap (λ x. seconds g x m) start ∙ goes_round g m q b round ∙ is_within f r.low (size r) b m (omega arith)

-- an offset's lowest bit cleared, or set
even_start : (r : Range) (offset : ℕ) → half_from r (even offset) ≡ half_from r (offset / 2 * 2 + 0)
even_start r offset = ap (half_from r) (let e : even offset ≡ offset / 2 * 2 + 0 = omega arith in e)

-- whichever half comes first
either_first : (f : ℕ → ℕ) (r : Range) (offset : ℕ) (first : First) (x y : ℕ) → total f (half_from r (even offset)) ≡ x → total f (half_from r (odd offset)) ≡ y → total f (whole_order r offset first) ≡ x + y
either_first f r offset firsts.Odd x y evens odds = omega (arith, total-append f (half_from r (odd offset)) (half_from r (even offset)), evens, odds)
either_first f r offset firsts.Even x y evens odds = omega (arith, total-append f (half_from r (even offset)) (half_from r (odd offset)), evens, odds)

-- the range's ports, the even distances and the odd ones apart
whole_range : (f : ℕ → ℕ) (r : Range) → size r % 2 ≡ 0 → total f (range_with_len r.low (size r)) ≡ seconds f (r.low + 0) (size r / 2) + seconds f (r.low + 1) (size r / 2)
whole_range f r is_even =
    let m : ℕ = size r / 2 in
    let whole : size r ≡ 2 * m = omega arith in
    let low : r.low + 0 ≡ r.low = omega arith in
    ap (λ n. total f (range_with_len r.low n)) whole ∙ rw low (both_halves f r.low m)

-- what the ports weigh that aren't reserved
unreserved_weighs : (f : ℕ → ℕ) (r : Range) (ports : List ℕ) → total f (unreserved r ports) ≡ total (λ port. if is_reserved r port then 0 else f port) ports
unreserved_weighs f r [] = refl
unreserved_weighs f r (port ∷ ports) = grind (arith, unreserved_weighs f r ports)

whole_once : (r : Range) (offset : ℕ) (first : First) → size r % 2 ≡ 0 → SameItems (whole_order r offset first) (range_with_len r.low (size r))
whole_once r offset first is_even f =
    let m : ℕ = size r / 2 in
    let whole : size r ≡ 2 * m = omega arith in
    let evens : total f (half_from r (even offset)) ≡ seconds f (r.low + 0) m = ap (total f) (even_start r offset) ∙ half_weighs f r (offset / 2) 0 m whole refl (omega arith) in
    let odds : total f (half_from r (odd offset)) ≡ seconds f (r.low + 1) m = half_weighs f r (offset / 2) 1 m whole refl (omega arith) in
    either_first f r offset first _ _ evens odds ∙ sym (whole_range f r is_even)

pub each_once : TriesEachOnce
each_once r offset first is_even f =
    unreserved_weighs f r (whole_order r offset first) ∙ whole_once r offset first is_even (λ port. if is_reserved r port then 0 else f port)
    ∙ sym (unreserved_weighs f r (range_with_len r.low (size r)))
