-- A number to 255 by its digits, which are three at most.
use Rattle.std.proofs.Common.{◌≡◌, ℕ, ◌+◌, ◌*◌, ◌/◌, ◌%◌, ◌<◌, ◌≤◌, ◌^◌, List, [], ◌∷◌, ◌++◌, length, take, get_or, decimal, arith, subst, sym, ap, ◌∙◌, refl, true, false, Option, Some, None, is_some}
use Rattle.std.specs.Prelude.{IfSome, IfNone}
use Rattle.std.specs.Char.{digit_value, is_ascii_digit}
use Rattle.std.specs.Str.Parse.{AllDigits}
use Rattle.std.proofs.lemmas.Bool.{false≢true}
use Rattle.std.proofs.lemmas.Bool.Decides.{nat_tests}
use Rattle.std.proofs.lemmas.Fmt.{decimal_is_IsNumeral, decimal_digit, decimal_step, decimal_injective, length-decimal-le}
use Rattle.inet_io.specs.Fronts.{NoDigit, IsPlain, BeginsWith}
use Rattle.inet_io.proofs.Fronts.{one_front, no_more, decimal_plain}

-- the byte of a digit has its value
value_of : (d : ℕ) → d < 10 → digit_value (48 + d) ≡ d
value_of d small = grind (arith, nat_tests)

is_digit_byte : (d : ℕ) → d < 10 → is_ascii_digit (48 + d) ≡ true
is_digit_byte d small = grind (arith, nat_tests)

is_one : (d : ℕ) → d < 10 → digit_value (48 + d) < 10
is_one d small = omega (arith, value_of d small)

-- the text of a number of two digits
pub two_digits : (a b : ℕ) → 1 ≤ a → a < 10 → b < 10 → decimal (a * 10 + b) ≡ (48 + a) ∷ (48 + b) ∷ []
two_digits a b some fa fb =
    let n : ℕ = a * 10 + b in
    let high : n / 10 ≡ a = omega arith in
    let low : n % 10 ≡ b = omega arith in
    decimal_step n (omega arith) (omega arith) ∙ (λ i. decimal (high i) ++ (48 + low i) ∷ []) ∙ ap (λ ds. ds ++ (48 + b) ∷ []) (decimal_digit a fa)

-- and of one of three
pub three_digits : (a b c : ℕ) → 1 ≤ a → a < 10 → b < 10 → c < 10 → decimal (a * 100 + b * 10 + c) ≡ (48 + a) ∷ (48 + b) ∷ (48 + c) ∷ []
three_digits a b c some fa fb fc =
    let n : ℕ = a * 100 + b * 10 + c in
    let high : n / 10 ≡ a * 10 + b = omega arith in
    let low : n % 10 ≡ c = omega arith in
    decimal_step n (omega arith) (omega arith) ∙ (λ i. decimal (high i) ++ (48 + low i) ∷ []) ∙ ap (λ ds. ds ++ (48 + c) ∷ []) (two_digits a b some fa fb)

-- some digits that end are those of the number that the text begins with
digits_are : (ds more text : List ℕ) (most n : ℕ) (rest : List ℕ) → AllDigits 10 ds → NoDigit more → text ≡ ds ++ more → BeginsWith most text n rest → ds ≡ decimal n
digits_are ds more text most n rest digits ends is h =
    (one_front ds (decimal n) more rest digits (decimal_is_IsNumeral n (omega (arith, h.short))).0.1 ends h.ends (sym is ∙ h.spelled)).0

module _ (text : List ℕ) (n : ℕ) (rest : List ℕ) (h : BeginsWith 255 text n rest) where
  small : n < 2 ^ 64
  small = omega (arith, h.high)

  -- a text that begins with no digit
  pub no_digit : NoDigit text → ⊥
  no_digit ends =
      let none : [] ≡ decimal n = digits_are [] text text 255 n rest tt ends refl h in
      omega (arith, ap length none, (decimal_plain n small).0)

  -- a zero before another digit
  zero_at : (ds r more : List ℕ) (b : ℕ) → b < 10 → IsPlain ds → NoDigit r → ds ++ r ≡ 48 ∷ (48 + b) ∷ more → ⊥
  zero_at [] r more b fb plain ends e = omega (arith, plain.0)
  zero_at (x ∷ []) [] more b fb plain ends e = omega (arith, ap length e)
  zero_at (x ∷ []) (y ∷ r) more b fb plain ends e =
      let same : y ≡ 48 + b = ap (λ l. get_or l 1 0) e in
      false≢true (sym ends ∙ ap is_ascii_digit same ∙ is_digit_byte b fb)
  zero_at (x ∷ y ∷ ds) r more b fb plain ends e =
      let first : x ≡ 48 = ap (λ l. get_or l 0 0) e in
      omega (arith, plain.1 first)

  pub zero_leads : (b : ℕ) (more : List ℕ) → b < 10 → text ≡ 48 ∷ (48 + b) ∷ more → ⊥
  zero_leads b more fb is = zero_at (decimal n) rest more b fb (decimal_plain n small) h.ends (sym h.spelled ∙ is)

  -- four digits
  pub four_digits : (a b c d : ℕ) (more : List ℕ) → a < 10 → b < 10 → c < 10 → d < 10 → text ≡ (48 + a) ∷ (48 + b) ∷ (48 + c) ∷ (48 + d) ∷ more → ⊥
  four_digits a b c d more fa fb fc fd is =
      let spelled : decimal n ++ rest ≡ (48 + a) ∷ (48 + b) ∷ (48 + c) ∷ (48 + d) ∷ more = sym h.spelled ∙ is in
      let few = length-decimal-le 3 n (omega arith) (omega (arith, h.high)) small in
      no_more (decimal n) rest 4 h.ends (omega (arith, few)) (subst (λ t. 4 ≤ length t) (sym spelled) (omega arith))
      (subst (λ t. AllDigits 10 (take 4 t)) (sym spelled) (is_one a fa, (is_one b fb, (is_one c fc, (is_one d fd, tt)))))

  -- three digits of a number past 255
  pub past_octets : (a b c : ℕ) (more : List ℕ) → 1 ≤ a → a < 10 → b < 10 → c < 10 → 255 < a * 100 + b * 10 + c → NoDigit more → text ≡ (48 + a) ∷ (48 + b) ∷ (48 + c) ∷ more → ⊥
  past_octets a b c more some fa fb fc past ends is =
      let ds : List ℕ = (48 + a) ∷ (48 + b) ∷ (48 + c) ∷ [] in
      let same : ds ≡ decimal n = digits_are ds more text 255 n rest (is_one a fa, (is_one b fb, (is_one c fc, tt))) ends is h in
      let value = decimal_injective (a * 100 + b * 10 + c) n (omega arith) small (three_digits a b c some fa fb fc ∙ same) in
      omega (arith, value, h.high)

-- a number to 255 in front of what isn't a digit
pub octet_of : (text : List ℕ) (n : ℕ) (rest : List ℕ) → n ≤ 255 → text ≡ decimal n ++ rest → NoDigit rest → BeginsWith 255 text n rest
octet_of text n rest high spelled ends = record { high = high; short = omega (arith, high); spelled = spelled; ends = ends }

-- what is there, by the test for it
pub some_of : {A : Type 0} (r : Option A) (P : A → Type 0) → is_some r ≡ true → IfSome r P → (a : A) × P a
some_of (Some a) P e h = (a, h)
some_of None P e h = absurd (false≢true e)

pub none_of : {A : Type 0} (r : Option A) (Q : Type 0) → is_some r ≡ false → IfNone r Q → Q
none_of (Some a) Q e h = absurd (false≢true (sym e))
none_of None Q e h = h
