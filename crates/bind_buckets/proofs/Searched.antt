-- A search through the slots that are filed under one key or another, oldest first.
use Rattle.std.proofs.Common.{◌≡◌, ℕ, ◌+◌, ◌<◌, ◌≤◌, Bool, true, false, cond, List, [], ◌∷◌, length, get_or, Option, Some, None, ◌⊎◌, inl, inr, min, position, refl, sym, ◌∙◌, ap, subst, arith, ⊎_elim, nat_lt}
use Rattle.std.specs.List.{position_or_len}
use Rattle.std.proofs.lemmas.Bool.{or_cases, cases_lt, eqb-true, false_from_ne_true, true≢false}
use Rattle.std.proofs.lemmas.List.Sums.{position_or_len_is}
use Rattle.bind_buckets.specs.declared.slot.Slot.{Slot}
use Rattle.bind_buckets.specs.declared.slot.Asked.{Asked}
use Rattle.bind_buckets.specs.Links.{place_or_end, IsFirstIn}
use Rattle.bind_buckets.specs.Slots.{has, beside, is_other, earlier, HoldsAt, IsStep, IsAfterOther}
use Rattle.bind_buckets.proofs.Sought.{places_left}
use Rattle.bind_buckets.proofs.LeftOut.{beside_length, beside_elsewhere, beside_there}

-- the first place of all is the position
module _ (is : Slot → Bool) (slots : List Slot) where
  position_by : (n : ℕ) (first : Option ℕ) → position_or_len is slots ≡ place_or_end first n → ((place : ℕ) → first ≡ Some place → place < n) → cond (nat_lt (position_or_len is slots) n) (Some (position_or_len is slots)) None ≡ first
  position_by n None e within = rw e (grind arith)
  position_by n (Some place) e within = let lt : place < n = within place refl in rw e (grind arith)

  limit_passes : (first : Option ℕ) (d : Slot) → IsFirstIn is slots 0 (length slots) first → place_or_end first (length slots) < length slots → is (get_or slots (place_or_end first (length slots)) d) ≡ true
  limit_passes None d from lt = absurd (omega arith)
  limit_passes (Some place) d from lt = from.passes place d refl

  limit_within : (first : Option ℕ) → IsFirstIn is slots 0 (length slots) first → place_or_end first (length slots) ≤ length slots
  limit_within None from = omega arith
  limit_within (Some place) from = let lt = from.within place refl in omega arith

  position_with : (first : Option ℕ) (d : Slot) → IsFirstIn is slots 0 (length slots) first → position is slots ≡ first
  position_with first d from =
      position_by (length slots) first
      (position_or_len_is is slots (place_or_end first (length slots)) d (limit_within first from)
      (λ j lt. from.fails j d (omega arith) lt) (limit_passes first d from))
      from.within

position_if : (is : Slot → Bool) (slots : List Slot) (first : Option ℕ) → IsFirstIn is slots 0 (length slots) first → position is slots ≡ first
position_if is [] None from = refl
position_if is [] (Some place) from = absurd (let lt = from.within place refl in omega arith)
position_if is (x ∷ xs) first from = position_with is (x ∷ xs) first x from

-- what is said of the earlier of two places
least : (near far : Option ℕ) (place end : ℕ) → earlier near far ≡ Some place → place < end → (place ≤ place_or_end near end) × (place ≤ place_or_end far end)
least None (Some b) place end e lt = let same : b ≡ place = cc in (omega arith, omega arith)
least (Some a) None place end e lt = let same : a ≡ place = cc in (omega arith, omega arith)
least (Some a) (Some b) place end e lt = let same : min a b ≡ place = cc in (omega arith, omega arith)
least None None place end e lt = absurd (cc)

one_of : (near far : Option ℕ) (place : ℕ) → earlier near far ≡ Some place → (near ≡ Some place) ⊎ (far ≡ Some place)
one_of None far place e = inr e
one_of (Some a) None place e = inl e
one_of (Some a) (Some b) place e =
    let m : min a b ≡ place = cc in
    ⊎_elim (λ lt. let same : a ≡ place = omega arith in inl (ap Some same))
    (λ ge. let same : b ≡ place = omega arith in inr (ap Some same))
    (cases_lt a b)

both_reach : (near far : Option ℕ) (k end : ℕ) → k ≤ place_or_end near end → k ≤ place_or_end far end → k ≤ place_or_end (earlier near far) end
both_reach None far k end n f = f
both_reach (Some a) None k end n f = n
both_reach (Some a) (Some b) k end n f = omega arith

none_left : (near far : Option ℕ) → earlier near far ≡ None → (near ≡ None) × (far ≡ None)
none_left None far e = (refl, e)
none_left (Some a) None e = absurd (cc)
none_left (Some a) (Some b) e = absurd (cc)

module _ (is : ℕ → Bool) (keys : List ℕ) (from place : ℕ) where
  -- what comes first behind a place comes first behind a later one that it isn't before
  pub later : (first : Option ℕ) → IsFirstIn is keys from (length keys) first → from ≤ place → place < place_or_end first (length keys) → IsFirstIn is keys (place + 1) (length keys) first
  later first h le lt =
      record {
        reaches = omega arith;
        within = h.within;
        passes = h.passes;
        fails = λ j d above below. h.fails j d (omega arith) below;
      }

-- slots that are searched up to some place: what comes first behind it, under either key
pub record IsSearched (asked : Asked) (but : Option ℕ) (one : ℕ) (other : Option ℕ) (keys : List ℕ) (slots : List Slot) (near far : Option ℕ) : Type 0 where
  pub from : ℕ
  pub near_is : IsFirstIn (is_other (Some one)) keys from (length keys) near
  pub far_is : IsFirstIn (is_other other) keys from (length keys) far
  pub failed : (j : ℕ) (d : Slot) → j < from → has asked (get_or (beside but slots) j d) ≡ false

-- a place of that key, where one is named
after_other : (other : Option ℕ) (keys : List ℕ) (from : ℕ) (at : Option ℕ) → IsFirstIn (is_other other) keys from (length keys) at → IsAfterOther other at keys
after_other None keys from None first = refl
after_other None keys from (Some place) first = absurd (true≢false (sym (first.passes place 0 refl)))
after_other (Some key) keys from at first =
    record { within = first.within; same = λ place e. eqb-true _ _ (first.passes place 0 e) }

module _ (asked : Asked) (but : Option ℕ) (one : ℕ) (other : Option ℕ) (keys : List ℕ) (slots : List Slot) (many : length keys ≡ length slots) (holds : HoldsAt asked one other keys slots) where
  -- it doesn't hold of a slot that has neither key
  unkeyed : (j : ℕ) (d : Slot) → j < length slots → is_other (Some one) (get_or keys j 0) ≡ false → is_other other (get_or keys j 0) ≡ false → has asked (get_or slots j d) ≡ false
  unkeyed j d lt near far =
      false_from_ne_true _
      (λ passing.
      ⊎_elim (λ t. true≢false (sym t ∙ near)) (λ t. true≢false (sym t ∙ far))
      (or_cases _ (is_other other (get_or keys j 0)) (holds j d lt passing)))

  but_there : (j : ℕ) (d : Slot) → j < length slots → has asked (get_or slots j d) ≡ false → has asked (get_or (beside but slots) j d) ≡ false
  but_there j d lt failing =
      false_from_ne_true _
      (λ passing.
      let named : but ≡ Some j → ⊥ = λ e. true≢false (sym passing ∙ beside_there asked but j slots d e lt) in
      true≢false (sym passing ∙ ap (has asked) (beside_elsewhere but j slots d named) ∙ failing))

  module _ (near far : Option ℕ) (searched : IsSearched asked but one other keys slots near far) where
    pub far_after : IsAfterOther other far keys
    far_after = after_other other keys searched.from far searched.far_is

    -- no slot holds it before both
    none_between : (j : ℕ) (d : Slot) → j < length slots → j < place_or_end near (length keys) → j < place_or_end far (length keys) → has asked (get_or (beside but slots) j d) ≡ false
    none_between j d lt near_lt far_lt =
        ⊎_elim (λ below. searched.failed j d below)
        (λ above. but_there j d lt (unkeyed j d lt (searched.near_is.fails j 0 above near_lt) (searched.far_is.fails j 0 above far_lt)))
        (cases_lt j searched.from)

    pub search_ends : earlier near far ≡ None → position (has asked) (beside but slots) ≡ None
    search_ends e =
        let none = none_left near far e in
        let size = beside_length but slots in
        position_if (has asked) (beside but slots) None
        (record {
          reaches = omega arith;
          within = λ place q. absurd (cc);
          passes = λ place d q. absurd (cc);
          fails = λ j d above below.
              none_between j d (omega arith)
              (subst (λ o. j < place_or_end o (length keys)) (sym none.0) (omega arith))
              (subst (λ o. j < place_or_end o (length keys)) (sym none.1) (omega arith));
        })

    module _ (place : ℕ) (e : earlier near far ≡ Some place) where
      from_there : (searched.from ≤ place) × (place < length keys)
      from_there =
          ⊎_elim
          (λ here. let r = subst (λ o. searched.from ≤ place_or_end o (length keys)) here searched.near_is.reaches in (r, searched.near_is.within place here))
          (λ here. let r = subst (λ o. searched.from ≤ place_or_end o (length keys)) here searched.far_is.reaches in (r, searched.far_is.within place here))
          (one_of near far place e)

      pub within_slots : place < length slots
      within_slots = let w = from_there.1 in omega arith

      bounds : (place ≤ place_or_end near (length keys)) × (place ≤ place_or_end far (length keys))
      bounds = least near far place (length keys) e from_there.1

      before_it : (j : ℕ) (d : Slot) → j < place → has asked (get_or (beside but slots) j d) ≡ false
      before_it j d lt =
          let b = bounds in
          let near_le : place ≤ place_or_end near (length keys) = b.0 in
          let far_le : place ≤ place_or_end far (length keys) = b.1 in
          let w = within_slots in
          none_between j d (omega arith) (omega arith) (omega arith)

      pub search_finds : ((d : Slot) → true ≡ has asked (get_or (beside but slots) place d)) → position (has asked) (beside but slots) ≡ Some place
      search_finds passing =
          let size = beside_length but slots in
          let w = within_slots in
          position_if (has asked) (beside but slots) (Some place)
          (record {
            reaches = omega arith;
            within = λ p q. let same : place ≡ p = cc in omega arith;
            passes = λ p d q. let same : place ≡ p = cc in subst (λ i. has asked (get_or (beside but slots) i d) ≡ true) same (sym (passing d));
            fails = λ j d above below. before_it j d below;
          })

      pub search_goes_on : (near' far' : Option ℕ) → ((d : Slot) → false ≡ has asked (get_or (beside but slots) place d)) → IsStep place (is_other (Some one)) keys near near' → IsStep place (is_other other) keys far far' → IsSearched asked but one other keys slots near' far'
      search_goes_on near' far' failing near_step far_step =
          let there = from_there in
          record {
            from = place + 1;
            near_is = near_step searched.from searched.near_is there.0 bounds.0 there.1;
            far_is = far_step searched.from searched.far_is there.0 bounds.1 there.1;
            failed = λ j d below.
                ⊎_elim (λ lt. before_it j d lt)
                (λ ge. let same : place ≡ j = omega arith in subst (λ i. has asked (get_or (beside but slots) i d) ≡ false) same (sym (failing d)))
                (cases_lt j place);
          }

      pub search_shortens : (near' far' : Option ℕ) → IsStep place (is_other (Some one)) keys near near' → IsStep place (is_other other) keys far far' → places_left (earlier near' far') (length keys) < places_left (earlier near far) (length keys)
      search_shortens near' far' near_step far_step =
          let there = from_there in
          let near_first = near_step searched.from searched.near_is there.0 bounds.0 there.1 in
          let far_first = far_step searched.from searched.far_is there.0 bounds.1 there.1 in
          let reach = both_reach near' far' (place + 1) (length keys) near_first.reaches far_first.reaches in
          let within : place < length keys = there.1 in
          subst (λ o. places_left (earlier near' far') (length keys) < places_left o (length keys)) (sym e) (omega arith)
