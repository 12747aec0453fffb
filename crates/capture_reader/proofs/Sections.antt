-- Bytes begin with one section at most.
use Rattle.std.proofs.Common.{◌≡◌, ℕ, ◌≤◌, ◌⊎◌, List, length, refl, ap, ◌∙◌, subst, arith, inl, inr, length-append}
use Rattle.std.proofs.lemmas.Bool.{cases_lt, cases_eq}
use Rattle.capture_reader.specs.declared.number.Order.{Order}
use Rattle.capture_reader.specs.declared.number.Order.TheVariants as orders
use Rattle.capture_reader.specs.Numbers.{number, AreBytes}
use Rattle.capture_reader.specs.Header.{IsMagic, IsWhole, IsSectionBlock, BeginsWithSection, section_type}
use Rattle.capture_reader.proofs.Wholes.{number_in, fits_drop, one_whole, some_whole}

-- no mark reads as one from both ends
one_way : (bytes : List ℕ) → AreBytes bytes → number orders.Big 4 8 bytes ≡ 0x1a2b3c4d → number orders.Little 4 8 bytes ≡ 0x1a2b3c4d → ⊥
unfolding number
one_way bytes fits h k =
    let f = fits_drop 8 bytes fits in
    omega (arith, f 0, f 1, f 2, f 3)

-- bytes have a mark in one order at most
pub one_mark : (bytes : List ℕ) (a b : Order) → AreBytes bytes → number a 4 8 bytes ≡ 0x1a2b3c4d → number b 4 8 bytes ≡ 0x1a2b3c4d → a ≡ b
one_mark bytes orders.Big orders.Big fits h k = refl
one_mark bytes orders.Big orders.Little fits h k = absurd (one_way bytes fits h k)
one_mark bytes orders.Little orders.Big fits h k = absurd (one_way bytes fits k h)
one_mark bytes orders.Little orders.Little fits h k = refl

-- the type of a section's first block reads the same in either order
pub type_reads : (bytes : List ℕ) (order : Order) → AreBytes bytes → number orders.Big 4 0 bytes ≡ section_type → number order 4 0 bytes ≡ section_type
unfolding number
type_reads bytes orders.Big fits h = h
type_reads bytes orders.Little fits h = omega (arith, fits 0, fits 1, fits 2, fits 3)

-- it is no magic number
pub no_magic : (bytes : List ℕ) (order : Order) → AreBytes bytes → number orders.Big 4 0 bytes ≡ section_type → IsMagic (number order 4 0 bytes) → ⊥
no_magic bytes order fits h (inl e) = omega (arith, type_reads bytes order fits h)
no_magic bytes order fits h (inr e) = omega (arith, type_reads bytes order fits h)

-- what the first bytes of a section say
pub record Front (bytes : List ℕ) (order : Order) : Type 0 where
  pub least : 28 ≤ length bytes
  pub kind : number orders.Big 4 0 bytes ≡ section_type
  pub mark : number order 4 8 bytes ≡ 0x1a2b3c4d

pub front : (bytes : List ℕ) (order : Order) (rest : List ℕ) → BeginsWithSection bytes order rest → Front bytes order
front bytes order rest h =
    let s = h.2 in
    record {
      least = omega (arith, s.least, ap length h.1 ∙ length-append h.0 rest);
      kind = number_in orders.Big 4 0 bytes h.0 rest h.1 (omega (arith, s.least)) ∙ s.kind;
      mark = number_in order 4 8 bytes h.0 rest h.1 (omega (arith, s.least)) ∙ s.mark;
    }

-- bytes that begin with a section do so in the order in which its mark stands there
pub section_in : (bytes : List ℕ) (order o : Order) (rest : List ℕ) → AreBytes bytes → number order 4 8 bytes ≡ 0x1a2b3c4d → BeginsWithSection bytes o rest → BeginsWithSection bytes order rest
section_in bytes order o rest fits mark h =
    let same : o ≡ order = one_mark bytes o order fits (front bytes o rest h).mark mark in
    subst (λ (p : Order). BeginsWithSection bytes p rest) same h

-- bytes begin with one section at most
pub one_section : (bytes : List ℕ) (a b : Order) (r q : List ℕ) → AreBytes bytes → BeginsWithSection bytes a r → BeginsWithSection bytes b q → (a ≡ b) × (r ≡ q)
one_section bytes a b r q fits h k =
    let order : a ≡ b = one_mark bytes a b fits (front bytes a r h).mark (front bytes b q k).mark in
    let again = section_in bytes a b q fits (front bytes a r h).mark k in
    (order, (one_whole a bytes h.0 r again.0 q h.1 h.2.whole again.1 again.2.whole).1)

-- whether a whole block begins a section
is_section : (order : Order) (block : List ℕ) → IsWhole order block → IsSectionBlock order block ⊎ (IsSectionBlock order block → ⊥)
is_section order block whole =
    elim (cases_lt (length block) 28) [
      | inl few ↦ inr (λ s. omega (arith, s.least))
      | inr least ↦ elim (cases_eq (number orders.Big 4 0 block) section_type) [
        | inr other ↦ inr (λ s. other s.kind)
        | inl kind ↦ elim (cases_eq (number order 4 8 block) 0x1a2b3c4d) [
          | inr other ↦ inr (λ s. other s.mark)
          | inl mark ↦ elim (cases_eq (number order 2 12 block) 1) [
            | inr other ↦ inr (λ s. other s.major)
            | inl major ↦ inl (record { whole = whole; least = least; kind = kind; mark = mark; major = major })
          ]
        ]
      ]
    ]

-- bytes begin with a section in that order, or with none in it
section_or_none : (bytes : List ℕ) (order : Order) → ((rest : List ℕ) × BeginsWithSection bytes order rest) ⊎ ((rest : List ℕ) → BeginsWithSection bytes order rest → ⊥)
section_or_none bytes order =
    elim (some_whole order bytes) [
      | inr none ↦ inr (λ rest h. none h.0 rest h.1 h.2.whole)
      | inl w ↦ elim (is_section order w.0 w.3) [
        | inl s ↦ inl (w.1, (w.0, w.2, s))
        | inr none ↦ inr (λ rest h. none (subst (λ (b : List ℕ). IsSectionBlock order b) (one_whole order bytes h.0 rest w.0 w.1 h.1 h.2.whole w.2 w.3).0 h.2))
      ]
    ]

-- bytes begin with a section, or with none
pub some_section : (bytes : List ℕ) → ((order : Order) × (rest : List ℕ) × BeginsWithSection bytes order rest) ⊎ ((order : Order) (rest : List ℕ) → BeginsWithSection bytes order rest → ⊥)
some_section bytes =
    elim (section_or_none bytes orders.Big) [
      | inl s ↦ inl (orders.Big, s.0, s.1)
      | inr no_big ↦ elim (section_or_none bytes orders.Little) [
        | inl s ↦ inl (orders.Little, s.0, s.1)
        | inr no_little ↦ inr (λ order. elim order as (λ (o : Order). (rest : List ℕ) → BeginsWithSection bytes o rest → ⊥) [ orders.Big ↦ no_big | orders.Little ↦ no_little ])
      ]
    ]
