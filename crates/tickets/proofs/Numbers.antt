-- What the numbers below a bound weigh, and what a pass may still draw in vain.
use Rattle.std.proofs.Common.{◌≡◌, ℕ, zero, suc, ◌+◌, ◌<◌, ◌≤◌, List, [], ◌∷◌, length, max, refl, ap, ◌∙◌, ⊎_elim, arith, length-append}
use Rattle.std.proofs.lemmas.Bool.{cases_lt}
use Rattle.std.proofs.lemmas.Bool.Decides.{nat_tests}
use Rattle.list_words.specs.Lists.{total}
use Rattle.list_words.proofs.TotalLemmas.{total-append}
use Rattle.turn_table.specs.Journals.{numbers_below}
use Rattle.tickets.specs.Views.{newcomer, cut, joined, drawing, missing}
use Rattle.tickets.specs.Numbered.{misses}
use Rattle.tickets.specs.declared.view.TicketView.{TicketView}

-- a sum of sums
pub total-sum : {A : Type 0} (g h : A → ℕ) (l : List A) → total (λ (x : A). g x + h x) l ≡ total g l + total h l
total-sum g h [] = omega arith
total-sum g h (x ∷ xs) = omega (arith, total-sum g h xs)

-- where each item weighs no more by one measure than by another, so do all
pub total-le : {A : Type 0} (g h : A → ℕ) (l : List A) → ((x : A) → g x ≤ h x) → total g l ≤ total h l
total-le g h [] p = omega arith
total-le g h (x ∷ xs) p = omega (arith, p x, total-le g h xs p)

-- one number more
pub below_more : (f : ℕ → ℕ) (n : ℕ) → total f (numbers_below (n + 1)) ≡ total f (numbers_below n) + f n
below_more f n = let e : n + 1 ≡ suc n = omega arith in ap (λ (k : ℕ). total f (numbers_below k)) e ∙ omega (arith, total-append f (numbers_below n) (n ∷ []))

-- as many numbers as the bound says
pub below_ones : (n : ℕ) → total (λ (x : ℕ). 1) (numbers_below n) ≡ n
below_ones zero = refl
below_ones (suc n) = omega (arith, below_ones n, total-append (λ (x : ℕ). 1) (numbers_below n) (n ∷ []))

-- an open pass counts its parts, and another counts none
pub misses_open : (n : ℕ) (v : TicketView) → v.seen ≤ n → misses n v ≡ length v.vain + v.parts
misses_open n v h = grind (arith, nat_tests)

pub misses_shut : (n : ℕ) (v : TicketView) → n < v.seen → misses n v ≡ length v.vain
misses_shut n v h = grind (arith, nat_tests)

-- it counts its numbers in vain, and no more than its parts beside them
pub misses_more : (n : ℕ) (v : TicketView) → length v.vain ≤ misses n v
misses_more n v = ⊎_elim (λ (h : n < v.seen). omega (arith, misses_shut n v h)) (λ (h : v.seen ≤ n). omega (arith, misses_open n v h)) (cases_lt n v.seen)

pub misses_less : (n : ℕ) (v : TicketView) → misses n v ≤ length v.vain + v.parts
misses_less n v = ⊎_elim (λ (h : n < v.seen). omega (arith, misses_shut n v h)) (λ (h : v.seen ≤ n). omega (arith, misses_open n v h)) (cases_lt n v.seen)

-- an open pass that draws counts as before
pub misses_draw : (n x : ℕ) (v : TicketView) → v.seen ≤ n → x < n → misses n (drawing v x) ≡ misses n v
misses_draw n x v before inside = omega (arith, misses_open n v before, misses_open n (drawing v x) (omega arith))

-- one that draws in vain counts no part any more
pub misses_miss : (n x : ℕ) (v : TicketView) → v.seen ≤ n → n ≤ x → 0 < v.parts → misses n (missing v x) ≤ misses n v
misses_miss n x v before past some-part = omega (arith, misses_open n v before, misses_shut n (missing v x) (omega arith), length-append v.vain (x ∷ []))

-- and one that gives a part away has one less to count
pub misses_cut : (n : ℕ) (v : TicketView) → 0 < v.parts → misses n (cut v) + misses n (newcomer v.limit v.seen) ≡ misses n v
misses_cut n v some-part = ⊎_elim
    (λ (h : n < v.seen). omega (arith, misses_shut n v h, misses_shut n (cut v) h, misses_shut n (newcomer v.limit v.seen) h))
    (λ (h : v.seen ≤ n). omega (arith, misses_open n v h, misses_open n (cut v) h, misses_open n (newcomer v.limit v.seen) h))
    (cases_lt n v.seen)

-- two that come together count no more than both
pub misses_joined : (n : ℕ) (v w : TicketView) → misses n (joined v w) ≤ misses n v + misses n w
misses_joined n v w = ⊎_elim
    (λ (h : n < max v.seen w.seen). omega (arith, misses_shut n (joined v w) h, misses_more n v, misses_more n w, length-append v.vain w.vain))
    (λ (h : max v.seen w.seen ≤ n). omega (arith, misses_open n (joined v w) h, misses_open n v (omega arith), misses_open n w (omega arith), length-append v.vain w.vain))
    (cases_lt n (max v.seen w.seen))
