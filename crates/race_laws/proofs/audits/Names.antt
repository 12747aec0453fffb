-- The name of a section and a label.
use Rattle.std.proofs.Common.{◌≡◌, ℕ, zero, suc, ◌-◌, ◌<◌, ◌≤◌, ◌==◌, ◌&&◌, ◌||◌, nat_le, true, List, [], ◌∷◌, ◌++◌, length, take, drop, replicate, get_or, codes, decimal, refl, sym, subst, arith, IsTrue, inl, inr, length-drop}
use Rattle.std.specs.Int.{w64, to_be_bytes, from_be_bytes, is_in_range}
use Rattle.std.specs.List.{list_all}
use Rattle.std.specs.Char.{is_ascii_alphanumeric}
use Rattle.std.proofs.lemmas.Bool.{leb-true, eqb-true, or_cases}
use Rattle.std.proofs.lemmas.List.{length-take}
use Rattle.std.proofs.lemmas.Nat.{be_bytes_8}
use Rattle.inet_io.specs.Labels.{is_label, is_label_byte}
use Rattle.list_words.specs.Lists.{Each}
use Rattle.list_words.proofs.EachLemmas.{each_append}
use Rattle.race_book.proofs.Checks.{and_left, and_right}
use Rattle.record_reader.specs.Names.{NameFits, label_of, name_of, name_text, padded}
use Rattle.record_reader.proofs.Labels.{from_halves, sixteen}

abbrev pub AreBytes : List ℕ → Type 0
AreBytes bytes = Each (λ b. b < 256) bytes

in_range_below : (low high b : ℕ) → high < 256 → is_in_range low high b ≡ true → b < 256
in_range_below low high b near e = omega (arith, leb-true b high (and_right (nat_le low b) (nat_le b high) e))

byte_below : (b : ℕ) → is_label_byte b ≡ true → b < 256
byte_below b e = elim (or_cases (is_ascii_alphanumeric b || (b == 95)) (b == 45) e) as (λ _. b < 256) [
  | inl p ↦ elim (or_cases (is_ascii_alphanumeric b) (b == 95) p) as (λ _. b < 256) [
    | inl q ↦ elim (or_cases (is_in_range 48 57 b || is_in_range 65 90 b) (is_in_range 97 122 b) q) as (λ _. b < 256) [
      | inl r ↦ elim (or_cases (is_in_range 48 57 b) (is_in_range 65 90 b) r) as (λ _. b < 256) [
        | inl s ↦ in_range_below 48 57 b (omega arith) s
        | inr s ↦ in_range_below 65 90 b (omega arith) s
      ]
      | inr r ↦ in_range_below 97 122 b (omega arith) r
    ]
    | inr q ↦ omega (arith, eqb-true b 95 q)
  ]
  | inr p ↦ omega (arith, eqb-true b 45 p)
]

bytes_below : (bytes : List ℕ) → list_all is_label_byte bytes ≡ true → AreBytes bytes
bytes_below [] e = tt
bytes_below (b ∷ bs) e =
    (byte_below b (and_left (is_label_byte b) (list_all is_label_byte bs) e), bytes_below bs (and_right (is_label_byte b) (list_all is_label_byte bs) e))

zeros_below : (n : ℕ) → AreBytes (replicate n 0)
zeros_below zero = tt
zeros_below (suc n) = (omega arith, zeros_below n)

pub taken_below : (n : ℕ) (bytes : List ℕ) → AreBytes bytes → AreBytes (take n bytes)
taken_below zero bytes h = tt
taken_below (suc n) [] h = tt
taken_below (suc n) (b ∷ bs) h = (h.0, taken_below n bs h.1)

pub left_below : (n : ℕ) (bytes : List ℕ) → AreBytes bytes → AreBytes (drop n bytes)
left_below zero bytes h = h
left_below (suc n) [] h = tt
left_below (suc n) (b ∷ bs) h = left_below n bs h.1

pub at_below : (bytes : List ℕ) → AreBytes bytes → (i : ℕ) → get_or bytes i 0 < 256
at_below [] h i = omega arith
at_below (b ∷ bs) h zero = h.0
at_below (b ∷ bs) h (suc i) = at_below bs h.1 i

label_few : (label : List ℕ) → is_label label ≡ true → length label ≤ 16
label_few label e = leb-true (length label) 16 (and_right (nat_le 1 (length label)) (nat_le (length label) 16)
    (and_left (nat_le 1 (length label) && nat_le (length label) 16) (list_all is_label_byte label) e))

field_below : (label : List ℕ) → is_label label ≡ true → AreBytes (padded label)
field_below label e =
    each_append (λ b. b < 256) label (replicate (16 - length label) 0)
    (bytes_below label (and_right (nat_le 1 (length label) && nat_le (length label) 16) (list_all is_label_byte label) e)) (zeros_below (16 - length label))

-- a name gives its label back
pub label_back : (section : ℕ) (label : List ℕ) → is_label label ≡ true → label_of (name_of section label) ≡ label
unfolding label_of name_of
label_back section label e =
    let field = padded label in
    let few = label_few label e in
    let below = field_below label e in
    let long : length field ≡ 16 = sixteen label few in
    let high = take 8 field in
    let low = take 8 (drop 8 field) in
    from_halves label field (to_be_bytes w64 (from_be_bytes w64 high)) (to_be_bytes w64 (from_be_bytes w64 low)) few refl
    (be_bytes_8 high (from_be_bytes w64 high) (omega (arith, length-take 8 field)) (at_below high (taken_below 8 field below)) refl)
    (be_bytes_8 low (from_be_bytes w64 low) (omega (arith, length-take 8 (drop 8 field), length-drop 8 field)) (at_below low (taken_below 8 (drop 8 field) (left_below 8 field below))) refl)

section_back : (section : ℕ) (label : List ℕ) → (name_of section label).section ≡ section
unfolding name_of
section_back section label = refl

pub name_fits : (section : ℕ) (label : List ℕ) → 1 ≤ section → section ≤ 64 → is_label label ≡ true → NameFits (name_of section label)
name_fits section label low high e =
    let named = section_back section label in
    let told = label_back section label e in record {
      section = (omega arith, omega arith);
      label = subst (λ t. IsTrue (is_label t)) (sym told) e;
      numbers = λ i. name_of (sym named i) (sym told i);
    }

pub name_text_is : (section : ℕ) (label : List ℕ) → is_label label ≡ true → name_text (name_of section label) ≡ decimal section ++ codes "." ++ label
unfolding name_text
name_text_is section label e = λ i. decimal (section_back section label i) ++ codes "." ++ label_back section label e i
