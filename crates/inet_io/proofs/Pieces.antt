-- Lists cut into pieces.
use Rattle.std.proofs.Common.{ℕ, ◌≡◌, ◌+◌, ◌-◌, ◌≤◌, List, ◌++◌, length, take, drop, arith, sym, ap, ap₂, ◌∙◌, append_assoc, length-append, subst}
use Rattle.std.proofs.lemmas.List.{take-append-drop, take-take, drop-take, drop-drop, length-take-le, drop_at}
use Rattle.std.proofs.Math.Seq.{take-append_seam}
use Rattle.inet_io.specs.Texts.{PutsAt}

-- a front, and then the front of the rest
take-more : (n k : ℕ) (xs : List ℕ) → take n xs ++ take k (drop n xs) ≡ take (n + k) xs
take-more n k xs =
    ap₂ (λ a b. a ++ b) (sym (take-take n (n + k) xs (omega arith))) (sym (drop-take n k xs))
    ∙ take-append-drop n (take (n + k) xs)

-- what was taken, and then the front of the rest `&xs[n..]`
pub take_further : (n k : ℕ) (xs : List ℕ) → k ≤ length xs - n
    → take n xs ++ take k (take (length xs - n) (drop n xs)) ≡ take (n + k) xs
take_further n k xs h = ap (λ b. take n xs ++ b) (take-take k (length xs - n) (drop n xs) h) ∙ take-more n k xs

-- what a piece gives, and what is left behind it
pub gives_piece : (at k : ℕ) (xs piece rest : List ℕ) → piece ≡ take k (drop at xs) → length piece ≡ k
    → drop at xs ≡ take k (piece ++ rest) ++ drop (at + k) xs
gives_piece at k xs piece rest e n =
    let whole : take k (piece ++ rest) ≡ piece = ap (λ j. take j (piece ++ rest)) (sym n) ∙ take-append_seam piece rest in
    sym (take-append-drop k (drop at xs)) ∙ ap₂ (λ a b. a ++ b) (sym e ∙ sym whole) (drop-drop k at xs)

-- a text put behind another one
pub puts_both : (old mid new x y : List ℕ) (at : ℕ) → at + length x ≤ length old
    → mid ≡ take at old ++ (x ++ drop (at + length x) old)
    → new ≡ take (at + length x) mid ++ (y ++ drop (at + length x + length y) mid)
    → new ≡ take at old ++ ((x ++ y) ++ drop (at + length (x ++ y)) old)
puts_both old mid new x y at room first second =
    let start : List ℕ = take at old ++ x in
    let end : List ℕ = drop (at + length x) old in
    let long : length start ≡ at + length x = length-append (take at old) x ∙ ap (λ n. n + length x) (length-take-le at old (omega arith)) in
    let split : mid ≡ start ++ end = first ∙ sym (append_assoc (take at old) x end) in
    let front : take (at + length x) mid ≡ start =
    ap₂ (λ n l. take n l) (sym long) split ∙ take-append_seam start end in
    let back : drop (at + length x) mid ≡ end = ap (drop (at + length x)) split ∙ drop_at start end (at + length x) long in
    let total : at + length x + length y ≡ at + length (x ++ y) = omega (arith, length-append x y) in
    let rest : drop (at + length x + length y) mid ≡ drop (at + length (x ++ y)) old =
    sym (drop-drop (length y) (at + length x) mid) ∙ ap (drop (length y)) back ∙ drop-drop (length y) (at + length x) old ∙ ap (λ n. drop n old) total in
    second ∙ ap₂ (λ a b. a ++ (y ++ b)) front rest ∙ append_assoc (take at old) x _ ∙ ap (λ l. take at old ++ l) (sym (append_assoc x y _))

-- the text stands at `at`, and `place` is the place after it
pub record Put (old : List ℕ) (at : ℕ) (text new : List ℕ) (place : ℕ) : Type 0 where
  pub place_is : place ≡ at + length text
  pub put : PutsAt old at text new

-- one text more put behind what was put
pub put_next : (old mid new x y : List ℕ) (at place after : ℕ) → at + length (x ++ y) ≤ length old
    → Put old at x mid place → after ≡ place + length y → PutsAt mid place y new → Put old at (x ++ y) new after
put_next old mid new x y at place after room first after_is second =
    let same : PutsAt mid (at + length x) y new = subst (λ (p : ℕ). PutsAt mid p y new) first.place_is second in
    let fits : at + length x ≤ length old = omega (arith, length-append x y) in
    record {
      place_is = omega (arith, length-append x y, first.place_is);
      put = puts_both old mid new x y at fits first.put same;
    }

-- room for both is room for the first
pub shorter : (at room : ℕ) (x y : List ℕ) → at + length (x ++ y) ≤ room → at + length x ≤ room
shorter at room x y h = omega (arith, length-append x y)
