-- Bytes begin with one whole block at most.
use Rattle.std.proofs.Common.{◌≡◌, ℕ, zero, suc, ◌+◌, ◌-◌, ◌%◌, ◌≤◌, ◌⊎◌, List, ◌++◌, length, take, drop, get_or, refl, ap, sym, ◌∙◌, subst, arith, inl, inr, length-append, length-drop}
use Rattle.std.proofs.lemmas.Bool.{cases_lt, cases_eq}
use Rattle.std.proofs.lemmas.List.{take_at, drop_at, take-append-drop, drop-append-le, get_or-drop, get_or-append-add, get_or_append_left}
use Rattle.byteorder.specs.Endian.{big_from, little_from}
use Rattle.capture_reader.specs.declared.number.Order.{Order}
use Rattle.capture_reader.specs.declared.number.Order.TheVariants as orders
use Rattle.capture_reader.specs.Numbers.{number, AreBytes}
use Rattle.capture_reader.specs.Header.{IsWhole}

-- a number is the same where more bytes follow, the highest first
big_front : (i n : ℕ) (xs ys : List ℕ) → i + n ≤ length xs → big_from i n (xs ++ ys) ≡ big_from i n xs
big_front i zero xs ys h = refl
big_front i (suc n) xs ys h =
    let here = get_or_append_left xs ys 0 i (omega arith) in
    let more = big_front (suc i) n xs ys (omega arith) in
    cc

-- and the lowest first
little_front : (i n : ℕ) (xs ys : List ℕ) → i + n ≤ length xs → little_from i n (xs ++ ys) ≡ little_from i n xs
little_front i zero xs ys h = refl
little_front i (suc n) xs ys h =
    let here = get_or_append_left xs ys 0 i (omega arith) in
    let more = little_front (suc i) n xs ys (omega arith) in
    cc

-- a number is the same where more bytes follow
pub number_front : (order : Order) (n place : ℕ) (xs ys : List ℕ) → place + n ≤ length xs → number order n place (xs ++ ys) ≡ number order n place xs
unfolding number
number_front orders.Big n place xs ys h =
    ap (big_from 0 n) (drop-append-le place xs ys (omega arith)) ∙ big_front 0 n (drop place xs) ys (omega (arith, length-drop place xs))
number_front orders.Little n place xs ys h =
    ap (little_from 0 n) (drop-append-le place xs ys (omega arith)) ∙ little_front 0 n (drop place xs) ys (omega (arith, length-drop place xs))

-- what is left of bytes is bytes
pub fits_drop : (n : ℕ) (bytes : List ℕ) → AreBytes bytes → AreBytes (drop n bytes)
fits_drop n bytes fits = λ i. omega (arith, get_or-drop n bytes i 0, fits (n + i))

-- what follows bytes is bytes
pub fits_rest : (bytes whole rest : List ℕ) → bytes ≡ whole ++ rest → AreBytes bytes → AreBytes rest
fits_rest bytes whole rest e fits = λ i.
    let same : get_or bytes (length whole + i) 0 ≡ get_or rest i 0 = ap (λ (xs : List ℕ). get_or xs (length whole + i) 0) e ∙ get_or-append-add whole rest i 0 in
    omega (arith, fits (length whole + i), same)

-- a number of a block is that of the bytes that begin with it
pub number_in : (order : Order) (n place : ℕ) (bytes whole rest : List ℕ) → bytes ≡ whole ++ rest → place + n ≤ length whole → number order n place bytes ≡ number order n place whole
number_in order n place bytes whole rest e h = ap (number order n place) e ∙ number_front order n place whole rest h

-- how many bytes a whole block has, as the bytes say that begin with it
pub told : (order : Order) (bytes whole rest : List ℕ) → bytes ≡ whole ++ rest → IsWhole order whole → number order 4 4 bytes ≡ length whole
told order bytes whole rest e w = number_in order 4 4 bytes whole rest e (omega (arith, w.least)) ∙ w.front

-- they are there
pub is_there : (order : Order) (bytes whole rest : List ℕ) → bytes ≡ whole ++ rest → IsWhole order whole → (12 ≤ number order 4 4 bytes) × (number order 4 4 bytes ≤ length bytes)
is_there order bytes whole rest e w =
    let count = told order bytes whole rest e w in
    let parts = ap length e ∙ length-append whole rest in
    (omega (arith, count, w.least), omega (arith, count, parts))

-- a whole block is as many of the first bytes as these say
pub whole_is : (order : Order) (bytes whole rest : List ℕ) → bytes ≡ whole ++ rest → IsWhole order whole → take (number order 4 4 bytes) bytes ≡ whole
whole_is order bytes whole rest e w =
    ap (take (number order 4 4 bytes)) e ∙ take_at whole rest (number order 4 4 bytes) (sym (told order bytes whole rest e w))

-- and the rest follows
pub rest_is : (order : Order) (bytes whole rest : List ℕ) → bytes ≡ whole ++ rest → IsWhole order whole → drop (number order 4 4 bytes) bytes ≡ rest
rest_is order bytes whole rest e w =
    ap (drop (number order 4 4 bytes)) e ∙ drop_at whole rest (number order 4 4 bytes) (sym (told order bytes whole rest e w))

-- bytes begin with one whole block at most
pub one_whole : (order : Order) (bytes a r b q : List ℕ) → bytes ≡ a ++ r → IsWhole order a → bytes ≡ b ++ q → IsWhole order b → (a ≡ b) × (r ≡ q)
one_whole order bytes a r b q e v f w =
    (sym (whole_is order bytes a r e v) ∙ whole_is order bytes b q f w, sym (rest_is order bytes a r e v) ∙ rest_is order bytes b q f w)

-- whether a list is a whole block
is_whole : (order : Order) (block : List ℕ) → IsWhole order block ⊎ (IsWhole order block → ⊥)
is_whole order block =
    elim (cases_lt (length block) 12) [
      | inl few ↦ inr (λ w. omega (arith, w.least))
      | inr least ↦ elim (cases_eq (length block % 4) 0) [
        | inr odd ↦ inr (λ w. odd w.fours)
        | inl fours ↦ elim (cases_eq (number order 4 4 block) (length block)) [
          | inr other ↦ inr (λ w. other w.front)
          | inl front ↦ elim (cases_eq (number order 4 (length block - 4) block) (length block)) [
            | inr other ↦ inr (λ w. other w.back)
            | inl back ↦ inl (record { least = least; fours = fours; front = front; back = back })
          ]
        ]
      ]
    ]

-- bytes begin with a whole block, or with none
pub some_whole : (order : Order) (bytes : List ℕ) → ((whole : List ℕ) × (rest : List ℕ) × (bytes ≡ whole ++ rest) × IsWhole order whole) ⊎ ((whole rest : List ℕ) → bytes ≡ whole ++ rest → IsWhole order whole → ⊥)
some_whole order bytes =
    let n : ℕ = number order 4 4 bytes in
    elim (is_whole order (take n bytes)) [
      | inl w ↦ inl (take n bytes, drop n bytes, sym (take-append-drop n bytes), w)
      | inr none ↦ inr (λ whole rest e w. none (subst (λ (b : List ℕ). IsWhole order b) (sym (whole_is order bytes whole rest e w)) w))
    ]
