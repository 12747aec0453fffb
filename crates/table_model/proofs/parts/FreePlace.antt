-- The first free place of a bucket is that of the lowest number that no group has.
use Rattle.std.proofs.Common.{◌≡◌, ℕ, suc, ◌+◌, ◌*◌, ◌%◌, ◌^◌, ◌<◌, ◌≤◌, ◌==◌, Bool, true, false, ◌||◌, not, cond, ltb, List, [], ◌∷◌, length, get_or, find, position, Option, Some, None, ◌⊎◌, inl, inr, refl, sym, ap, subst, ◌∙◌, arith}
use Rattle.std.specs.Prelude.{is_some}
use Rattle.std.specs.List.{list_any, position_or_len, range_with_len}
use Rattle.std.specs.Option.{option_map}
use Rattle.std.proofs.lemmas.Bool.{ne_eqb, lt-ltb, le-ltb, cond-true, cond-false, cases_lt}
use Rattle.std.proofs.lemmas.List.{length-map}
use Rattle.list_words.specs.Lists.{Each}
use Rattle.list_words.proofs.EachLemmas.{each_found}
use Rattle.flat_list.specs.Groups.{Group, free_number}
use Rattle.bind_buckets.specs.OwnerStep.{is_free}
use Rattle.table_model.proofs.parts.GroupPlaces.{at_number, GroupsAt, members_in}

-- one place later
abbrev pub later : Option ℕ → Option ℕ
later o = option_map (λ (i : ℕ). 1 + i) o

module _ {A : Type 0} (p : A → Bool) where
  any_at : (x : A) (xs : List A) (b : Bool) → list_any p xs ≡ is_some (find p xs) → (b || list_any p xs) ≡ is_some (cond b (Some x) (find p xs))
  any_at x xs true h = refl
  any_at x xs false h = h

  -- some passes where one is found
  pub any_found : (xs : List A) → list_any p xs ≡ is_some (find p xs)
  any_found [] = refl
  any_found (x ∷ xs) = any_at x xs (p x) (any_found xs)

  later_by : (n len : ℕ) → (n < len) ⊎ (len ≤ n) → cond (ltb (1 + n) (suc len)) (Some (1 + n)) None ≡ later (cond (ltb n len) (Some n) None)
  later_by n len (inl l) =
      cond-true (ltb (1 + n) (suc len)) (Some (1 + n)) None (lt-ltb (1 + n) (suc len) (omega arith))
      ∙ ap later (sym (cond-true (ltb n len) (Some n) None (lt-ltb n len l)))
  later_by n len (inr l) =
      cond-false (ltb (1 + n) (suc len)) (Some (1 + n)) None (le-ltb (1 + n) (suc len) (omega arith))
      ∙ ap later (sym (cond-false (ltb n len) (Some n) None (le-ltb n len l)))

  -- the first place behind an item that fails
  pub position_later : (x : A) (xs : List A) → p x ≡ false → position p (x ∷ xs) ≡ later (position p xs)
  position_later x xs e =
      rw e (later_by (position_or_len p xs) (length xs) (cases_lt (position_or_len p xs) (length xs)))

  -- and at one that passes
  pub position_here : (x : A) (xs : List A) → p x ≡ true → position p (x ∷ xs) ≡ Some 0
  position_here x xs e =
      rw e (cond-true (ltb 0 (suc (length xs))) (Some 0) None (lt-ltb 0 (suc (length xs)) (omega arith)))

  shifted : (start : ℕ) (o : Option ℕ) → option_map (λ (i : ℕ). (start + 1) + i) o ≡ option_map (λ (i : ℕ). start + i) (later o)
  shifted start None = refl
  shifted start (Some i) = let e : (start + 1) + i ≡ start + (1 + i) = omega arith in ap (λ (j : ℕ). Some j) e

  range_at : (q : ℕ → Bool) (x : A) (xs : List A) (start : ℕ) (b : Bool) → p x ≡ b → q start ≡ b
      → find q (range_with_len (start + 1) (length xs)) ≡ option_map (λ (i : ℕ). (start + 1) + i) (position p xs)
      → cond b (Some start) (find q (range_with_len (start + 1) (length xs))) ≡ option_map (λ (i : ℕ). start + i) (position p (x ∷ xs))
  range_at q x xs start true e f h =
      let z : start ≡ start + 0 = omega arith in
      ap (λ (j : ℕ). Some j) z ∙ sym (ap (option_map (λ (i : ℕ). start + i)) (position_here x xs e))
  range_at q x xs start false e f h =
      h ∙ (shifted start (position p xs) ∙ sym (ap (option_map (λ (i : ℕ). start + i)) (position_later x xs e)))

  -- the first number that passes is that of the first place that does
  pub find_range : (q : ℕ → Bool) (xs : List A) (start : ℕ) (d : A) → ((i : ℕ) → i < length xs → q (start + i) ≡ p (get_or xs i d))
      → find q (range_with_len start (length xs)) ≡ option_map (λ (i : ℕ). start + i) (position p xs)
  find_range q [] start d h = refl
  find_range q (x ∷ xs) start d h =
      let here : q start ≡ p x = subst (λ (j : ℕ). q j ≡ p x) (omega arith) (h 0 (omega arith)) in
      ap (λ b. cond b (Some start) (find q (range_with_len (start + 1) (length xs)))) here
      ∙ range_at q x xs start (p x) refl here
      (find_range q xs (start + 1) d (λ i l. subst (λ (j : ℕ). q j ≡ p (get_or xs i d)) (omega arith) (h (suc i) (omega arith))))

-- a group has a member
abbrev pub HasSome : Group → Type 0
HasSome g = 1 ≤ length g.members

none_there : (n : ℕ) (groups : List Group) (o : Option Group) → find (at_number n) groups ≡ o → Each HasSome groups → not (list_any (at_number n) groups) ≡ (length (members_in o) == 0)
none_there n groups None e some = ap not (any_found (at_number n) groups ∙ ap is_some e)
none_there n groups (Some g) e some =
    let has : 1 ≤ length g.members = each_found HasSome (at_number n) groups g some e in
    ap not (any_found (at_number n) groups ∙ ap is_some e) ∙ sym (ne_eqb (length g.members) 0 (λ q. absurd (omega arith)))

module _ (bucket : ℕ) (places : List (List ℕ)) (groups : List Group) (eight : length places ≡ 8) (means : GroupsAt bucket places groups) (some : Each HasSome groups) where
  -- no group has the number of a free place
  pub free_there : (place : ℕ) → place < 8 → not (list_any (at_number (8 * bucket + place)) groups) ≡ is_free (get_or places place [])
  free_there place l =
      none_there (8 * bucket + place) groups (find (at_number (8 * bucket + place)) groups) refl some
      ∙ ap (λ (n : ℕ). n == 0) (sym (ap length (means place l)) ∙ length-map (get_or places place []) (λ m. m % 2 ^ 64))

  -- the lowest number that no group has
  pub free_is : free_number bucket groups ≡ option_map (λ (i : ℕ). 8 * bucket + i) (position is_free places)
  free_is =
      ap (λ (n : ℕ). find (λ k. not (list_any (at_number k) groups)) (range_with_len (8 * bucket) n)) (sym eight)
      ∙ find_range is_free (λ k. not (list_any (at_number k) groups)) places (8 * bucket) [] (λ i l. free_there i (omega arith))
