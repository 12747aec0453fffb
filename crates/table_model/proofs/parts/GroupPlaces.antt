-- Where the members of a group stand in the buckets, by its number.
use Rattle.std.proofs.Common.{◌≡◌, ◌≢◌, ℕ, ◌+◌, ◌*◌, ◌/◌, ◌%◌, ◌<◌, ◌≤◌, ◌==◌, Bool, true, false, cond, ltb, List, [], ◌∷◌, length, get_or, find, position, Option, Some, None, unwrap_or, refl, sym, ap, subst, ◌∙◌, arith}
use Rattle.std.specs.Prelude.{count_by}
use Rattle.std.specs.List.{list_any, position_or_len}
use Rattle.std.specs.Option.{option_map}
use Rattle.std.proofs.lemmas.Bool.{eqb-true, eq-eqb, ne_eqb, lt-ltb, both_ways, false_from_ne_true, cond-true, cond-false}
use Rattle.std.proofs.lemmas.List.Sums.{position_or_len_is, sum_by-cons}
use Rattle.list_words.specs.Lists.{Each, Pairs}
use Rattle.list_words.proofs.EachLemmas.{each_weaken, each_found, found_passes, some_same}
use Rattle.flat_list.specs.Groups.{Group, has_member}
use Rattle.flat_list.specs.Sound.{NumbersDiffer}
use Rattle.bind_buckets.specs.Members.{has_member as is_member}
use Rattle.table_model.specs.Means.{names_in, members_of}

module _ {A : Type 0} (p : A → Bool) where
  none_at : (x : A) (xs : List A) (b : Bool) → p x ≡ b → cond {A = ℕ} b 1 0 + count_by p xs ≡ 0 → (count_by p xs ≡ 0 → Each (λ y. p y ≡ false) xs) → Each (λ y. p y ≡ false) (x ∷ xs)
  none_at x xs true e h next = absurd (omega arith)
  none_at x xs false e h next = (e, next (omega arith))

  -- one item more
  pub count_cons : (x : A) (xs : List A) → count_by p (x ∷ xs) ≡ cond {A = ℕ} (p x) 1 0 + count_by p xs
  count_cons x xs = sum_by-cons (λ (y : A). cond {A = ℕ} (p y) 1 0) x xs

  -- none passes where the count is 0
  pub count_none : (xs : List A) → count_by p xs ≡ 0 → Each (λ y. p y ≡ false) xs
  count_none [] h = tt
  count_none (x ∷ xs) h = none_at x xs (p x) refl (sym (count_cons x xs) ∙ h) (count_none xs)

  one_at : (x s : A) (xs : List A) (b : Bool) → p x ≡ b → cond {A = ℕ} b 1 0 + count_by p xs ≤ 1 → cond b (Some x) (find p xs) ≡ Some s
      → (count_by p xs ≤ 1 → find p xs ≡ Some s → Each (λ y. p y ≡ true → y ≡ s) xs) → Each (λ y. p y ≡ true → y ≡ s) (x ∷ xs)
  one_at x s xs true e h f next =
      let is : x ≡ s = some_same x s f in
      let none : count_by p xs ≡ 0 = omega arith in
      (λ q. is, each_weaken (λ y. p y ≡ false) (λ y. p y ≡ true → y ≡ s) xs (λ y n q. absurd (both_ways (p y) n q)) (count_none xs none))
  one_at x s xs false e h f next = (λ q. absurd (both_ways (p x) e q), next (omega arith) f)

  -- where at most one passes, only the one that is found does
  pub one_only : (xs : List A) (s : A) → count_by p xs ≤ 1 → find p xs ≡ Some s → Each (λ y. p y ≡ true → y ≡ s) xs
  one_only [] s h f = tt
  one_only (x ∷ xs) s h f = one_at x s xs (p x) refl (subst (λ n. n ≤ 1) (count_cons x xs) h) f (one_only xs s)

  none_found_at : (x : A) (xs : List A) (b : Bool) → p x ≡ b → cond b (Some x) (find p xs) ≡ None → (find p xs ≡ None → Each (λ y. p y ≡ false) xs) → Each (λ y. p y ≡ false) (x ∷ xs)
  none_found_at x xs true e h next = absurd (cc)
  none_found_at x xs false e h next = (e, next h)

  -- none passes where none is found
  pub none_found : (xs : List A) → find p xs ≡ None → Each (λ y. p y ≡ false) xs
  none_found [] h = tt
  none_found (x ∷ xs) h = none_found_at x xs (p x) refl h (none_found xs)

  -- the first place that passes
  pub position_is : (xs : List A) (i : ℕ) (d : A) → i < length xs → p (get_or xs i d) ≡ true → ((k : ℕ) → k < i → p (get_or xs k d) ≡ false) → position p xs ≡ Some i
  position_is xs i d l here before =
      let at : position_or_len p xs ≡ i = position_or_len_is p xs i d (omega arith) before (λ _. here) in
      rw at (cond-true (ltb i (length xs)) (Some i) None (lt-ltb i (length xs) l))

abbrev pub at_number : ℕ → Group → Bool
at_number n g = g.number == n

abbrev pub is_name : ℕ → ℕ → Bool
is_name name m = m == name

-- groups that have that member have that number
abbrev pub OnlyAt : ℕ → ℕ → List Group → Type 0
OnlyAt name number groups = Each (λ (g : Group). has_member name g ≡ true → g.number ≡ number) groups

-- a member in the words is one by the names
pub any_names : (name : ℕ) (ms : List ℕ) → is_member name ms ≡ list_any (is_name name) (names_in ms)
any_names name [] = refl
any_names name (m ∷ ms) = rw (any_names name ms) refl

number_at : (p : Group → Bool) (g x : Group) (groups : List Group) (b : Bool) → Pairs NumbersDiffer (x ∷ groups) → cond b (Some x) (find p groups) ≡ Some g → (find p groups ≡ Some g → find (at_number g.number) groups ≡ Some g) → find (at_number g.number) (x ∷ groups) ≡ Some g
number_at p g x groups true d h next =
    let is : x ≡ g = some_same x g h in
    cond-true (x.number == g.number) (Some x) (find (at_number g.number) groups) (eq-eqb _ _ (ap (λ (y : Group). y.number) is)) ∙ h
number_at p g x groups false d h next =
    cond-false (x.number == g.number) (Some x) (find (at_number g.number) groups) (ne_eqb _ _ (each_found (NumbersDiffer x) p groups g d.0 h)) ∙ next h

-- the group that is found is found by its number
pub found_number : (p : Group → Bool) (g : Group) (groups : List Group) → Pairs NumbersDiffer groups → find p groups ≡ Some g → find (at_number g.number) groups ≡ Some g
found_number p g [] d h = absurd (cc)
found_number p g (x ∷ groups) d h = number_at p g x groups (p x) d h (found_number p g groups d.1)

abbrev pub members_in : Option Group → List ℕ
members_in o = unwrap_or (option_map (λ (g : Group). g.members) o) []

no_member_by : (name n number : ℕ) (groups : List Group) (o : Option Group) → find (at_number n) groups ≡ o → OnlyAt name number groups → n ≢ number → list_any (is_name name) (members_in o) ≡ false
no_member_by name n number groups None e only apart = refl
no_member_by name n number groups (Some g) e only apart =
    false_from_ne_true (has_member name g)
    (λ q.
    let is : g.number ≡ n = eqb-true _ _ (found_passes (at_number n) groups g e) in
    let here : g.number ≡ number = each_found (λ (y : Group). has_member name y ≡ true → y.number ≡ number) (at_number n) groups g only e q in
    apart (sym is ∙ here))

-- a name is no member at another number
pub no_member : (name n number : ℕ) (groups : List Group) → OnlyAt name number groups → n ≢ number → list_any (is_name name) (members_of n groups) ≡ false
no_member name n number groups only apart =
    no_member_by name n number groups (find (at_number n) groups) refl only apart

-- the members at the places of a bucket are those of its groups
abbrev pub GroupsAt : ℕ → List (List ℕ) → List Group → Type 0
GroupsAt bucket places groups = (place : ℕ) → place < 8 → names_in (get_or places place []) ≡ members_of (8 * bucket + place) groups

module _ (bucket : ℕ) (places : List (List ℕ)) (groups : List Group) (eight : length places ≡ 8) (means : GroupsAt bucket places groups) where
  -- whether a name is a member at a place
  pub member_there : (name place : ℕ) → place < 8 → is_member name (get_or places place []) ≡ list_any (is_name name) (members_of (8 * bucket + place) groups)
  member_there name place l = any_names name (get_or places place []) ∙ ap (list_any (is_name name)) (means place l)

  -- the place of a group in its bucket, by one of its members
  pub place_of_group : (name : ℕ) (g : Group) → Pairs NumbersDiffer groups → find (has_member name) groups ≡ Some g → OnlyAt name g.number groups → g.number / 8 ≡ bucket → position (is_member name) places ≡ Some (g.number % 8)
  place_of_group name g differ found only here =
      let place = g.number % 8 in
      let l : place < 8 = omega arith in
      let number : 8 * bucket + place ≡ g.number = omega arith in
      let is : members_of g.number groups ≡ g.members = ap members_in (found_number (has_member name) g groups differ found) in
      let has : is_member name (get_or places place []) ≡ true = member_there name place l ∙ ap (λ n. list_any (is_name name) (members_of n groups)) number ∙ ap (list_any (is_name name)) is ∙ found_passes (has_member name) groups g found in
      position_is (is_member name) places place [] (omega arith) has
      (λ k below. member_there name k (omega arith) ∙ no_member name (8 * bucket + k) g.number groups only (λ e. absurd (omega arith)))
