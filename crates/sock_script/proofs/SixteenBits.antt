-- Sixteen bytes looked at together: what a bit for each says of where pieces end.
use Rattle.std.proofs.Common.{◌≡◌, ℕ, ◌+◌, ◌-◌, ◌%◌, ◌<◌, ◌≤◌, ◌^◌, map, ◌∙◌, ◌⊎◌, inl, inr, ⊎_elim, ◌↔◌, List, length, slice_index, replicate, bit_or, Bool, true, false, ◌==◌, ◌||◌, cond, eqb, get_or, refl, sym, ap, subst, arith, w8, w64}
use Rattle.std.specs.Int.{bit_at, trailing_zeros}
use Rattle.std.specs.Simd.Lanes.{zip2, mask_l, top}
use Rattle.std.proofs.lemmas.Bool.{cases_eq, cases_lt, false_from_ne_true, eqb-true, eqb-false, or_cases}
use Rattle.std.proofs.lemmas.List.{get_or_past}
use Rattle.std.proofs.lemmas.Nat.Bits.{bit_at_or, bit_at-lt, bit_at-zero, bit_at-trailing_zeros}
use Rattle.std.proofs.lemmas.Simd.{length-zip2, get_or-zip2, get_or-replicate, bit_mask_l, tops_compared, mask_l-mod}
use Rattle.sock_script.specs.Pieces.{is_end, GoesOn, EndsPiece, MarksByte, MarksEnds}

-- ---- the lanes that hold a byte

bit_tells : (x y : ℕ) (b : Bool) → eqb x y ≡ b → (cond {A = ℕ} b 1 0 ≡ 1) ↔ (x ≡ y)
bit_tells x y true e = (λ h. eqb-true x y e, λ h. refl)
bit_tells x y false e = (λ h. absurd (omega arith), λ h. absurd (eqb-false x y e h))

module _ (lanes : List ℕ) (byte : ℕ) (long : length lanes ≡ 16) where
  same : List Bool
  same = zip2 eqb lanes (replicate 16 byte)

  same_long : length same ≡ 16
  unfolding same
  same_long = length-zip2 eqb lanes (replicate 16 byte) long ∙ long

  same_at : (k : ℕ) → k < 16 → get_or same k false ≡ eqb (get_or lanes k 0) byte
  unfolding same
  same_at k lt =
      get_or-zip2 eqb lanes (replicate 16 byte) k 0 0 false (omega arith) lt
      ∙ ap (eqb (get_or lanes k 0)) (get_or-replicate 16 k byte 0 lt)

  no_more : (k : ℕ) → bit_at (mask_l same) k ≡ 1 → k < 16
  no_more k set =
      ⊎_elim (λ lt. lt)
      (λ ge.
      let none : get_or same k false ≡ false = get_or_past same k false (omega (arith, same_long)) in
      let zero : bit_at (mask_l same) k ≡ 0 = bit_mask_l same k ∙ ap (λ b. cond {A = ℕ} b 1 0) none in
      absurd (omega arith))
      (cases_lt k 16)

  mask_marks : MarksByte lanes byte (mask_l same)
  mask_marks = record {
    few = no_more;
    each = λ k lt.
        let e = bit_mask_l same k ∙ ap (λ b. cond {A = ℕ} b 1 0) (same_at k lt) in
        let t = bit_tells (get_or lanes k 0) byte _ refl in
        (λ h. t.0 (sym e ∙ h), λ h. e ∙ t.1 h);
  }

  pub bits_mark : MarksByte lanes byte (mask_l (map (top 7) (zip2 (λ a b. cond (eqb a b) 255 0) lanes (replicate 16 byte))) % 2 ^ 64)
  unfolding same
  bits_mark =
      let is = ap (λ ms. mask_l ms % 2 ^ 64) (tops_compared w8 eqb lanes (replicate 16 byte)) ∙ mask_l-mod same 64 (omega (arith, same_long)) in
      subst (MarksByte lanes byte) (sym is) mask_marks

-- ---- the places at which pieces end

one_of : (a b k : ℕ) → bit_at (bit_or a b) k ≡ 1 → (bit_at a k ≡ 1) ⊎ (bit_at b k ≡ 1)
one_of a b k h =
    ⊎_elim (λ yes. inl yes) (λ no. inr (omega (arith, no, bit_at_or a b k, bit_at-lt a k, bit_at-lt b k))) (cases_eq (bit_at a k) 1)

left_of : (a b k : ℕ) → bit_at a k ≡ 1 → bit_at (bit_or a b) k ≡ 1
left_of a b k h = omega (arith, bit_at_or a b k, bit_at-lt a k, bit_at-lt b k)

right_of : (a b k : ℕ) → bit_at b k ≡ 1 → bit_at (bit_or a b) k ≡ 1
right_of a b k h = omega (arith, bit_at_or a b k, bit_at-lt a k, bit_at-lt b k)

module _ (text lanes : List ℕ) (at : ℕ) (here : (k : ℕ) → k < 16 → slice_index lanes k ≡ slice_index text (at + k)) (a b c : ℕ)
    (feeds : MarksByte lanes 10 a) (spaces : MarksByte lanes 32 b) (tabs : MarksByte lanes 9 c) where
  module _ (k : ℕ) where
    of_three : {Q : Type 0} → (bit_at a k ≡ 1 → Q) → (bit_at b k ≡ 1 → Q) → (bit_at c k ≡ 1 → Q) → bit_at (bit_or (bit_or a b) c) k ≡ 1 → Q
    of_three f s t h =
        ⊎_elim (λ two. ⊎_elim f s (one_of a b k two)) t (one_of (bit_or a b) c k h)

    holds : (lt : k < 16) (bits byte : ℕ) → MarksByte lanes byte bits → bit_at bits k ≡ 1 → is_end byte ≡ true → is_end (slice_index text (at + k)) ≡ true
    holds lt bits byte marks set ends = subst (λ x. is_end x ≡ true) (sym ((marks.each k lt).0 set) ∙ here k lt) ends

    is_marked : (lt : k < 16) (bits byte : ℕ) → MarksByte lanes byte bits → (slice_index text (at + k) == byte) ≡ true → bit_at bits k ≡ 1
    is_marked lt bits byte marks e = (marks.each k lt).1 (here k lt ∙ eqb-true _ byte e)

  pub ends_marked : MarksEnds text at (bit_or (bit_or a b) c)
  ends_marked = record {
    few = λ k. of_three k (feeds.few k) (spaces.few k) (tabs.few k);
    each = λ k lt. (
      of_three k (λ set. holds k lt a 10 feeds set refl) (λ set. holds k lt b 32 spaces set refl) (λ set. holds k lt c 9 tabs set refl),
      λ ends.
          let x = slice_index text (at + k) in
          ⊎_elim (λ feed. left_of (bit_or a b) c k (left_of a b k (is_marked k lt a 10 feeds feed)))
          (λ blank.
          ⊎_elim (λ space. left_of (bit_or a b) c k (right_of a b k (is_marked k lt b 32 spaces space)))
          (λ tab. right_of (bit_or a b) c k (is_marked k lt c 9 tabs tab)) (or_cases (x == 32) (x == 9) blank))
          (or_cases (x == 10) (x == 32 || x == 9) ends),
    );
  }

module _ (text : List ℕ) (start at : ℕ) (low : start ≤ at) (goes : GoesOn text start at) where
  module _ (bits : ℕ) (marks : MarksEnds text at bits) where
    -- where the bits before one are none, no piece ends there
    goes_far : (n : ℕ) → n ≤ 16 → ((j : ℕ) → j < n → bit_at bits j ≡ 0) → GoesOn text start (at + n)
    goes_far n le clear k from before =
        ⊎_elim (λ lt. goes k from lt)
        (λ ge.
        let j = k - at in
        let there : at + j ≡ k = omega arith in
        false_from_ne_true _
        (λ ends.
        let set : bit_at bits j ≡ 1 = (marks.each j (omega arith)).1 (subst (λ i. is_end (slice_index text i) ≡ true) (sym there) ends) in
        let zero = clear j (omega arith) in absurd (omega arith)))
        (cases_lt k at)

    -- the lowest bit is where the piece ends
    pub ends_at : at + 16 ≤ length text → 0 < bits → bits < 2 ^ 64 → EndsPiece text start (at + trailing_zeros w64 bits)
    ends_at room some fits =
        let h = bit_at-trailing_zeros w64 bits some fits in
        let k = trailing_zeros w64 bits in
        let few : k < 16 = marks.few k h.1 in
        record {
          low = omega arith;
          high = omega arith;
          goes_on = goes_far k (omega arith) h.2;
          stops = λ lt. (marks.each k few).0 h.1;
        }

    -- where no bit is set it goes on
    pub goes_past : bits ≡ 0 → GoesOn text start (at + 16)
    goes_past none = goes_far 16 (omega arith) (λ j lt. ap (λ m. bit_at m j) none ∙ bit_at-zero j)

  -- and so from a later place on
  pub ends_later : (end : ℕ) → EndsPiece text at end → EndsPiece text start end
  ends_later end ends =
      let first = ends.low in
      record {
        low = omega arith;
        high = ends.high;
        goes_on = λ k from before. ⊎_elim (λ lt. goes k from lt) (λ ge. ends.goes_on k ge before) (cases_lt k at);
        stops = ends.stops;
      }
