-- Plain words: of one byte or more, each above the space.
use Rattle.std.proofs.Common.{◌≡◌, ℕ, ◌/◌, ◌%◌, ◌^◌, ◌<◌, ◌==◌, ◌&&◌, ◌||◌, nat_lt, nat_le, true, List, [], ◌∷◌, ◌++◌, length, length-append, codes, decimal, refl, ◌∙◌, arith, inl, inr}
use Rattle.std.specs.List.{list_all}
use Rattle.std.specs.Char.{is_ascii_alphanumeric}
use Rattle.std.specs.Int.{is_in_range}
use Rattle.std.specs.Str.Parse.{AllDigits}
use Rattle.std.proofs.lemmas.Bool.{lt-ltb, ltb-true, leb-true, eqb-true, and_from, or_cases}
use Rattle.std.proofs.lemmas.Fmt.{decimal_is_IsNumeral}
use Rattle.std.proofs.lemmas.Str.Parse.{tells_digits}
use Rattle.std.proofs.lemmas.List.Folds.{list_all-append}
use Rattle.inet_io.specs.Labels.{is_label, is_label_byte}
use Rattle.inet_io.specs.Texts.{addr_text, end_text}
use Rattle.race_book.proofs.Checks.{and_left, and_right}
use Rattle.record_reader.specs.Forms.{is_plain}

-- each byte is above the space
abbrev pub IsClear : List ℕ → Type 0
IsClear bytes = list_all (nat_lt 32) bytes ≡ true

pub clear_append : (xs ys : List ℕ) → IsClear xs → IsClear ys → IsClear (xs ++ ys)
clear_append xs ys p q = list_all-append (nat_lt 32) xs ys ∙ and_from (list_all (nat_lt 32) xs) (list_all (nat_lt 32) ys) p q

pub plain : (word : List ℕ) → 0 < length word → IsClear word → is_plain word ≡ true
plain word some clear = and_from (nat_lt 0 (length word)) (list_all (nat_lt 32) word) (lt-ltb 0 (length word) some) clear

pub plain_clear : (word : List ℕ) → is_plain word ≡ true → IsClear word
plain_clear word p = and_right (nat_lt 0 (length word)) (list_all (nat_lt 32) word) p

pub plain_some : (word : List ℕ) → is_plain word ≡ true → 0 < length word
plain_some word p = ltb-true 0 (length word) (and_left (nat_lt 0 (length word)) (list_all (nat_lt 32) word) p)

pub plain_front : (xs ys : List ℕ) → is_plain xs ≡ true → IsClear ys → is_plain (xs ++ ys) ≡ true
plain_front xs ys p c =
    plain (xs ++ ys) (omega (arith, length-append xs ys, plain_some xs p)) (clear_append xs ys (plain_clear xs p) c)

digits_clear : (xs : List ℕ) → AllDigits 10 xs → IsClear xs
digits_clear [] h = refl
digits_clear (c ∷ cs) h =
    let r = tells_digits.parts c cs h in
    and_from (nat_lt 32 c) (list_all (nat_lt 32) cs) (lt-ltb 32 c (omega (arith, r.0.0))) (digits_clear cs r.1)

pub decimal_plain : (n : ℕ) → n < 2 ^ 64 → is_plain (decimal n) ≡ true
decimal_plain n fits =
    let d = (decimal_is_IsNumeral n fits).0 in plain (decimal n) d.0 (digits_clear (decimal n) d.1)

pub decimal_clear : (n : ℕ) → n < 2 ^ 64 → IsClear (decimal n)
decimal_clear n fits = plain_clear (decimal n) (decimal_plain n fits)

dotted : (xs : List ℕ) (n : ℕ) → is_plain xs ≡ true → n < 2 ^ 64 → is_plain (xs ++ codes "." ++ decimal n) ≡ true
dotted xs n p fits = plain_front (xs ++ codes ".") (decimal n) (plain_front xs (codes ".") p refl) (decimal_clear n fits)

addr_plain : (addr : ℕ) → addr < 2 ^ 32 → is_plain (addr_text addr) ≡ true
addr_plain addr fits =
    dotted (decimal (addr / 2 ^ 24) ++ codes "." ++ decimal (addr / 2 ^ 16 % 256) ++ codes "." ++ decimal (addr / 2 ^ 8 % 256)) (addr % 256)
    (dotted (decimal (addr / 2 ^ 24) ++ codes "." ++ decimal (addr / 2 ^ 16 % 256)) (addr / 2 ^ 8 % 256)
    (dotted (decimal (addr / 2 ^ 24)) (addr / 2 ^ 16 % 256) (decimal_plain (addr / 2 ^ 24) (omega arith)) (omega arith)) (omega arith)) (omega arith)

pub end_plain : (addr port : ℕ) → addr < 2 ^ 32 → port < 2 ^ 16 → is_plain (end_text addr port) ≡ true
end_plain addr port fa fp =
    plain_front (addr_text addr ++ codes ":") (decimal port) (plain_front (addr_text addr) (codes ":") (addr_plain addr fa) refl)
    (decimal_clear port (omega arith))

in_range_clear : (low high b : ℕ) → 32 < low → is_in_range low high b ≡ true → 32 < b
in_range_clear low high b far e = omega (arith, leb-true low b (and_left (nat_le low b) (nat_le b high) e))

letter_clear : (b : ℕ) → is_ascii_alphanumeric b ≡ true → 32 < b
letter_clear b e = elim (or_cases (is_in_range 48 57 b || is_in_range 65 90 b) (is_in_range 97 122 b) e) as (λ _. 32 < b) [
  | inl p ↦ elim (or_cases (is_in_range 48 57 b) (is_in_range 65 90 b) p) as (λ _. 32 < b) [
    | inl q ↦ in_range_clear 48 57 b (omega arith) q
    | inr q ↦ in_range_clear 65 90 b (omega arith) q
  ]
  | inr p ↦ in_range_clear 97 122 b (omega arith) p
]

byte_clear : (b : ℕ) → is_label_byte b ≡ true → 32 < b
byte_clear b e = elim (or_cases (is_ascii_alphanumeric b || (b == 95)) (b == 45) e) as (λ _. 32 < b) [
  | inl p ↦ elim (or_cases (is_ascii_alphanumeric b) (b == 95) p) as (λ _. 32 < b) [
    | inl q ↦ letter_clear b q
    | inr q ↦ omega (arith, eqb-true b 95 q)
  ]
  | inr p ↦ omega (arith, eqb-true b 45 p)
]

bytes_clear : (bytes : List ℕ) → list_all is_label_byte bytes ≡ true → IsClear bytes
bytes_clear [] e = refl
bytes_clear (b ∷ bs) e =
    and_from (nat_lt 32 b) (list_all (nat_lt 32) bs) (lt-ltb 32 b (byte_clear b (and_left (is_label_byte b) (list_all is_label_byte bs) e)))
    (bytes_clear bs (and_right (is_label_byte b) (list_all is_label_byte bs) e))

-- a label is a plain word
pub label_plain : (label : List ℕ) → is_label label ≡ true → is_plain label ≡ true
label_plain label e =
    let front = and_left (nat_le 1 (length label) && nat_le (length label) 16) (list_all is_label_byte label) e in
    plain label (omega (arith, leb-true 1 (length label) (and_left (nat_le 1 (length label)) (nat_le (length label) 16) front)))
    (bytes_clear label (and_right (nat_le 1 (length label) && nat_le (length label) 16) (list_all is_label_byte label) e))
