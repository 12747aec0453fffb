-- The number that a word is, where it is one.
use Rattle.std.proofs.Common.{◌≡◌, ℕ, ◌+◌, ◌-◌, ◌^◌, ◌<◌, ◌≤◌, Bool, true, false, ◌&&◌, ltb, List, Option, Some, None, IfSome, IfNone, refl, sym, ap, ◌∙◌, subst, arith, decimal, if◌then◌else◌}
use Rattle.std.proofs.lemmas.Bool.{lt-ltb, ltb-true}
use Rattle.std.proofs.lemmas.Fmt.{decimal_is_IsNumeral}
use Rattle.std.proofs.lemmas.Slice.Eq.{bytes_eq-Decides}
use Rattle.std.specs.Prelude.{bytes_eq, nat_lt}
use Rattle.std.specs.Str.Parse.{digits_value}
use Rattle.race_picture.specs.Rows.{count_in}
use Rattle.race_picture.proofs.Plain.{and_both, and_first, and_second}

chosen : (c : Bool) (v : ℕ) → c ≡ true → Some v ≡ (if c then Some v else None)
chosen true v h = refl
chosen false v h = cc

unchosen : (c : Bool) (v : ℕ) → (c ≡ true → ⊥) → None ≡ (if c then Some v else None)
unchosen true v h = absurd (h refl)
unchosen false v h = refl

spelled : (n : ℕ) → n < 2 ^ 64 → Some n ≡ count_in (decimal n)
spelled n fits =
    let value : digits_value 10 (decimal n) ≡ n = (decimal_is_IsNumeral n fits).1 in
    let test = bytes_eq (decimal n) (decimal (digits_value 10 (decimal n))) && nat_lt (digits_value 10 (decimal n)) (2 ^ 64) in
    let same : bytes_eq (decimal n) (decimal (digits_value 10 (decimal n))) ≡ true =
    (bytes_eq-Decides (decimal n) (decimal (digits_value 10 (decimal n)))).1 (ap decimal (sym value)) in
    let small : nat_lt (digits_value 10 (decimal n)) (2 ^ 64) ≡ true = lt-ltb _ _ (omega (arith, value)) in
    ap Some (sym value) ∙ chosen test (digits_value 10 (decimal n)) (and_both _ _ same small)

-- what a reader of numbers answers is the number that the word is
pub counted : (word : List ℕ) (r : Option ℕ) → IfSome r (λ n. word ≡ decimal n) → IfSome r (λ n. (0 ≤ n) × (n ≤ 2 ^ 64 - 1))
    → IfNone r ((n : ℕ) → word ≡ decimal n → 0 ≤ n → n ≤ 2 ^ 64 - 1 → ⊥) → r ≡ count_in word
counted word (Some n) e range none = spelled n (omega arith) ∙ ap count_in (sym e)
counted word None e range none =
    let v = digits_value 10 word in
    unchosen (bytes_eq word (decimal v) && nat_lt v (2 ^ 64)) v
    (λ h. none v ((bytes_eq-Decides word (decimal v)).0 (and_first (bytes_eq word (decimal v)) (nat_lt v (2 ^ 64)) h)) (omega arith)
    (omega (arith, ltb-true v (2 ^ 64) (and_second (bytes_eq word (decimal v)) (nat_lt v (2 ^ 64)) h))))
