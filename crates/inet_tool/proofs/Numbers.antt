-- The numbers that clap takes, and those that a program writes in decimal digits.
use Rattle.std.proofs.Common.{◌≡◌, ◌<◌, ◌≤◌, ◌==◌, ◌^◌, ℕ, Bool, true, false, cond, List, [], ◌∷◌, Option, Some, None, refl, ap, arith, drop, decimal}
use Rattle.std.specs.Prelude.{pos, unwrap_or, Ok, Err, Result, if◌then◌else◌}
use Rattle.std.specs.Str.{bytes_eq}
use Rattle.std.specs.Str.Parse.{IsNumeral, ParsesUnsigned, digits_value, starts_with_minus, without_leading_plus}
use Rattle.std.proofs.lemmas.Bool.{ne_eqb}
use Rattle.std.proofs.lemmas.Fmt.{decimal_is_IsNumeral}
use Rattle.std.proofs.lemmas.Int.{ints}
use Rattle.std.proofs.lemmas.Str.Parse.{digit_from_value}
use Rattle.clap.specs.Lexer.{long_of, short_of, without_minus}
use Rattle.clap.specs.Matches.{ReadsOne}
use Rattle.clap.specs.Values.{IsSignedIn}
use Rattle.clap.specs.Walk.{Text}
use Rattle.clap.specs.declared.builder.value_parser.ValueParser.TheVariants.{Signed}
use Rattle.clap.specs.declared.error.kind.ErrorKind.{ErrorKind}
use Rattle.clap.proofs.ValueTestLemmas.{accepts-Accepts, Accepts-accepts}
use Rattle.inet_tool.proofs.MakeWords.{Passes}

-- the digits that clap reads of a text
abbrev pub digits : Text → Text
digits text = without_leading_plus (without_minus text)

-- a first hyphen goes where the text begins with one
without_minus-cond : (text : Text) → without_minus text ≡ cond (starts_with_minus text) (drop 1 text) text
without_minus-cond [] = refl
without_minus-cond (x ∷ xs) = go (x == 45)
  where
    go : (b : Bool) → unwrap_or (cond b (Some xs) None) (x ∷ xs) ≡ cond b xs (x ∷ xs)
    go true = refl
    go false = refl

-- digits begin with no plus
no_plus : (text : Text) → IsNumeral 10 text → without_leading_plus text ≡ text
no_plus [] h = refl
no_plus (d ∷ ds) h =
    let plus : (d == 43) ≡ false = ne_eqb _ _ (λ e. omega (arith, digit_from_value d h.1.0)) in
    ap (λ (b : Bool). drop (cond b 1 0) (d ∷ ds)) plus

-- nor with a minus
no_minus : (text : Text) → IsNumeral 10 text → starts_with_minus text ≡ false
no_minus [] h = absurd (omega (arith, h.0))
no_minus (d ∷ ds) h = ne_eqb _ _ (λ e. omega (arith, digit_from_value d h.1.0))

-- a text that a range takes passes its test
passed : (b : Bool) (k : ErrorKind) → (if b then [] else k ∷ []) ≡ [] → b ≡ true
passed true k none = refl
passed false k none = cc

-- a text that passes has digits, and their number is in the range
pub reads : (least most : ℕ) (text : Text) → Passes least most text
    → IsNumeral 10 (digits text) × (least ≤ digits_value 10 (digits text)) × (digits_value 10 (digits text) ≤ most)
reads least most text passes = go (starts_with_minus text) refl
  where
    accepted : IsSignedIn (pos least) (pos most) text
    accepted = accepts-Accepts false (Signed (pos least) (pos most)) text (passed _ _ passes)

    go : (b : Bool) → starts_with_minus text ≡ b
        → IsNumeral 10 (digits text) × (least ≤ digits_value 10 (digits text)) × (digits_value 10 (digits text) ≤ most)
    go true minus =
        let low_ok = rw minus at accepted.2 in
        let numeral : IsNumeral 10 (drop 1 text) = rw minus at accepted.0 in
        let is : digits text ≡ drop 1 text = rw (without_minus-cond text, minus) (no_plus (drop 1 text) numeral) in
        rw is (numeral, omega (arith, ints), omega (arith, ints))
    go false minus =
        let numeral : IsNumeral 10 (without_leading_plus text) = rw minus at accepted.0 in
        let low_ok = rw minus at accepted.2 in
        let high_ok = rw minus at accepted.3 in
        let is : digits text ≡ without_leading_plus text = rw (without_minus-cond text, minus) refl in
        rw is (numeral, omega (arith, ints), omega (arith, ints))

-- what `u32` reads of digits
pub u32_reads : (E : Type 0) (G : List ℕ → Result ℕ E → Type 0) (text : Text) (r : Option ℕ) → ReadsOne G text r
    → ((u : List ℕ) (x : Result ℕ E) → G u x → ParsesUnsigned 32 10 u x)
    → IsNumeral 10 (without_leading_plus text) → digits_value 10 (without_leading_plus text) < 2 ^ 32
    → r ≡ Some (digits_value 10 (without_leading_plus text))
u32_reads E G text (Some n) read only numeral small = ap Some (only text (Ok n) read).1
u32_reads E G text None read only numeral small = absurd (only text (Err read.0) read.1 (numeral, small))

-- a number in decimal digits is no flag
pub decimal_is_plain : (n : ℕ) → n < 2 ^ 64 → (bytes_eq (decimal n) (45 ∷ 45 ∷ []) ≡ false) × (long_of (decimal n) ≡ None) × (short_of (decimal n) ≡ None)
decimal_is_plain n small = go (decimal n) (decimal_is_IsNumeral n small).0
  where
    go : (text : Text) → IsNumeral 10 text → (bytes_eq text (45 ∷ 45 ∷ []) ≡ false) × (long_of text ≡ None) × (short_of text ≡ None)
    go [] h = absurd (omega (arith, h.0))
    go (d ∷ ds) h =
        let no : (d == 45) ≡ false = ne_eqb _ _ (λ e. omega (arith, digit_from_value d h.1.0)) in
        (rw no refl, rw no refl, rw no refl)

-- its digits are its own
pub decimal-digits : (n : ℕ) → n < 2 ^ 64 → digits (decimal n) ≡ decimal n
decimal-digits n small =
    let numeral = (decimal_is_IsNumeral n small).0 in
    rw (without_minus-cond (decimal n), no_minus (decimal n) numeral) (no_plus (decimal n) numeral)

-- and clap reads it
pub digits_value-decimal : (n : ℕ) → n < 2 ^ 64 → digits_value 10 (digits (decimal n)) ≡ n
digits_value-decimal n small = rw (decimal-digits n small) (decimal_is_IsNumeral n small).1

-- it passes where it is in range
pub decimal_passes : (least most n : ℕ) → least ≤ n → n ≤ most → n < 2 ^ 63 → Passes least most (decimal n)
decimal_passes least most n low high small =
    let numeral = decimal_is_IsNumeral n (omega arith) in
    let plus = no_plus (decimal n) numeral.0 in
    let minus = no_minus (decimal n) numeral.0 in
    let accepted : IsSignedIn (pos least) (pos most) (decimal n) =
    rw (minus, plus, numeral.1) (numeral.0, record { sfits = small }, omega (arith, ints), omega (arith, ints)) in
    rw (Accepts-accepts false (Signed (pos least) (pos most)) (decimal n) accepted) refl
