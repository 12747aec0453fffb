-- A member leaves its group: the last one takes its place, and an empty group is gone.
use Rattle.std.proofs.Common.{◌≡◌, ◌≢◌, ℕ, zero, suc, ◌+◌, ◌-◌, ◌*◌, ◌%◌, ◌^◌, ◌<◌, ◌≤◌, ◌==◌, Bool, true, false, cond, List, [], ◌∷◌, length, get_or, take, map, find, Some, None, ◌⊎◌, inl, inr, refl, sym, ap, subst, ◌∙◌, arith}
use Rattle.std.specs.List.{list_any}
use Rattle.std.proofs.lemmas.Bool.{eqb-true, eq-eqb, ne_eqb, both_ways, ltb-false, cond-true, cond-false, cases_eq, cases_lt, false_from_ne_true}
use Rattle.std.proofs.lemmas.List.{length-map, take-map, get_or-map, get_or_past, nil_from_length}
use Rattle.list_words.specs.Lists.{Each, Pairs}
use Rattle.list_words.proofs.EachLemmas.{each_weaken}
use Rattle.bind_buckets.specs.First.{change_first}
use Rattle.bind_buckets.specs.Members.{is_named, has_member as is_member, without_member as left_in}
use Rattle.flat_list.specs.Groups.{Group, has_member, has_members, left_by, leave_group, leave}
use Rattle.flat_list.specs.Sound.{NumbersDiffer}
use Rattle.flat_list.proofs.GroupsStay.{number_left}
use Rattle.table_model.specs.Means.{names_in, members_of}
use Rattle.table_model.proofs.parts.GroupPlaces.{at_number, is_name, GroupsAt, OnlyAt, members_in, any_names, no_member, member_there}

-- the members after one of that name has left, if it was one
abbrev pub names_left : ℕ → List ℕ → List ℕ
names_left name xs = cond (list_any (is_name name) xs) (left_by name xs) xs

leave_members : (name : ℕ) (g : Group) (b : Bool) → has_member name g ≡ b → (leave_group name g).members ≡ cond b (left_by name g.members) g.members
leave_members name g true e = rw e refl
leave_members name g false e = rw e refl

-- the members that are left
pub left_members : (name : ℕ) (g : Group) → (leave_group name g).members ≡ names_left name g.members
left_members name g = leave_members name g (has_member name g) refl

none_kept : (n : ℕ) (x : Group) (ys : List Group) (b : Bool) → at_number n x ≡ false → find (at_number n) (cond b (x ∷ ys) ys) ≡ find (at_number n) ys
none_kept n x ys true e = cond-false (at_number n x) (Some x) (find (at_number n) ys) e
none_kept n x ys false e = refl

other_number : (name n : ℕ) (g : Group) → g.number ≢ n → at_number n (leave_group name g) ≡ false
other_number name n g d = ne_eqb (leave_group name g).number n (λ e. d (sym (number_left name g) ∙ e))

-- no group of that number comes by it
none_after : (name n : ℕ) (groups : List Group) → Each (λ (g : Group). g.number ≢ n) groups → find (at_number n) (leave name groups) ≡ None
none_after name n [] h = refl
none_after name n (g ∷ groups) h =
    none_kept n (leave_group name g) (leave name groups) (has_members (leave_group name g)) (other_number name n g h.0)
    ∙ none_after name n groups h.1

gone_by : (name n : ℕ) (g : Group) (rest : List Group) (b : Bool) → has_members (leave_group name g) ≡ b → g.number ≡ n → find (at_number n) rest ≡ None
    → members_in (find (at_number n) (cond b (leave_group name g ∷ rest) rest)) ≡ names_left name g.members
gone_by name n g rest true e is none =
    ap members_in (cond-true (at_number n (leave_group name g)) (Some (leave_group name g)) (find (at_number n) rest) (eq-eqb _ _ (number_left name g ∙ is)))
    ∙ left_members name g
gone_by name n g rest false e is none =
    let empty : length (leave_group name g).members ≤ 0 = ltb-false 0 (length (leave_group name g).members) e in
    ap members_in none ∙ (sym (nil_from_length (leave_group name g).members (omega arith)) ∙ left_members name g)

left_at : (name n : ℕ) (g : Group) (groups : List Group) → (g.number ≡ n) ⊎ (g.number ≢ n) → Each (NumbersDiffer g) groups
    → members_of n (leave name groups) ≡ names_left name (members_of n groups)
    → members_of n (leave name (g ∷ groups)) ≡ names_left name (members_of n (g ∷ groups))
left_at name n g groups (inl is) differ later =
    let none : find (at_number n) (leave name groups) ≡ None = none_after name n groups
    (each_weaken (NumbersDiffer g) (λ (y : Group). y.number ≢ n) groups (λ y d q. d (is ∙ sym q)) differ) in
    gone_by name n g (leave name groups) (has_members (leave_group name g)) refl is none
    ∙ ap (λ o. names_left name (members_in o)) (sym (cond-true (at_number n g) (Some g) (find (at_number n) groups) (eq-eqb g.number n is)))
left_at name n g groups (inr is) differ later =
    ap members_in (none_kept n (leave_group name g) (leave name groups) (has_members (leave_group name g)) (other_number name n g is))
    ∙ (later ∙ ap (λ o. names_left name (members_in o)) (sym (cond-false (at_number n g) (Some g) (find (at_number n) groups) (ne_eqb g.number n is))))

-- each group of the list has the members that are left
pub members_left : (name n : ℕ) (groups : List Group) → Pairs NumbersDiffer groups → members_of n (leave name groups) ≡ names_left name (members_of n groups)
members_left name n [] differ = refl
members_left name n (g ∷ groups) differ =
    left_at name n g groups (cases_eq g.number n) differ.0 (members_left name n groups differ.1)

abbrev with_last : ℕ → ℕ → ℕ → ℕ
with_last name last m = cond (m == name) last m

fixed : (name last : ℕ) (xs : List ℕ) → Each (λ m. name ≢ m) xs → map (with_last name last) xs ≡ xs
fixed name last [] h = refl
fixed name last (x ∷ xs) h =
    ap (λ b. cond b last x ∷ map (with_last name last) xs) (ne_eqb x name (λ e. h.0 (sym e))) ∙ ap (λ l. x ∷ l) (fixed name last xs h.1)

changed_at : (name last x : ℕ) (xs : List ℕ) (b : Bool) → (x == name) ≡ b → Each (λ m. x ≢ m) xs → change_first (is_name name) (λ _. last) xs ≡ map (with_last name last) xs
    → cond b (last ∷ xs) (x ∷ change_first (is_name name) (λ _. last) xs) ≡ cond b last x ∷ map (with_last name last) xs
changed_at name last x xs true e h later =
    let is : x ≡ name = eqb-true x name e in
    ap (λ l. last ∷ l) (sym (fixed name last xs (subst (λ n. Each (λ m. n ≢ m) xs) is h)))
changed_at name last x xs false e h later = ap (λ l. x ∷ l) later

-- where the names differ, the first of that name is the only one
changed_once : (name last : ℕ) (xs : List ℕ) → Pairs (λ a b. a ≢ b) xs → change_first (is_name name) (λ _. last) xs ≡ map (with_last name last) xs
changed_once name last [] h = refl
changed_once name last (x ∷ xs) h = changed_at name last x xs (x == name) refl h.0 (changed_once name last xs h.1)

words_at : (name last m : ℕ) (ms : List ℕ) (b : Bool) → names_in (change_first (is_named name) (λ _. last) ms) ≡ change_first (is_name name) (λ _. last % 2 ^ 64) (names_in ms)
    → names_in (cond b (last ∷ ms) (m ∷ change_first (is_named name) (λ _. last) ms)) ≡ cond b (last % 2 ^ 64 ∷ names_in ms) (m % 2 ^ 64 ∷ change_first (is_name name) (λ _. last % 2 ^ 64) (names_in ms))
words_at name last m ms true later = refl
words_at name last m ms false later = ap (λ l. m % 2 ^ 64 ∷ l) later

-- the names of words of which the first of a name changed
names_changed : (name last : ℕ) (ms : List ℕ) → names_in (change_first (is_named name) (λ _. last) ms) ≡ change_first (is_name name) (λ _. last % 2 ^ 64) (names_in ms)
names_changed name last [] = refl
names_changed name last (m ∷ ms) = words_at name last m ms (m % 2 ^ 64 == name) (names_changed name last ms)

last_by : (ms : List ℕ) (i : ℕ) → (i < length ms) ⊎ (length ms ≤ i) → get_or ms i 0 % 2 ^ 64 ≡ get_or (names_in ms) i 0
last_by ms i (inl l) = sym (get_or-map (λ m. m % 2 ^ 64) ms i 0 0 l)
last_by ms i (inr l) =
    ap (λ m. m % 2 ^ 64) (get_or_past ms i 0 l) ∙ sym (get_or_past (names_in ms) i 0 (omega (arith, length-map ms (λ m. m % 2 ^ 64), l)))

-- the names in the words that are left are the names that are left
pub words_left : (name : ℕ) (ms : List ℕ) → Pairs (λ a b. a ≢ b) (names_in ms) → names_in (left_in name ms) ≡ left_by name (names_in ms)
words_left name ms differ =
    let long : length (names_in ms) ≡ length ms = length-map ms (λ m. m % 2 ^ 64) in
    let last = length ms - 1 in
    let all : names_in (change_first (is_named name) (λ _. get_or ms last 0) ms) ≡ map (with_last name (get_or (names_in ms) last 0)) (names_in ms) =
    names_changed name (get_or ms last 0) ms
    ∙ (ap (λ z. change_first (is_name name) (λ _. z) (names_in ms)) (last_by ms last (cases_lt last (length ms)))
    ∙ changed_once name (get_or (names_in ms) last 0) (names_in ms) differ) in
    sym (take-map (λ m. m % 2 ^ 64) last (change_first (is_named name) (λ _. get_or ms last 0) ms))
    ∙ (ap (take last) all ∙ ap (λ n. take (n - 1) (map (with_last name (get_or (names_in ms) (n - 1) 0)) (names_in ms))) (sym long))

words_by : (name : ℕ) (ms : List ℕ) (b : Bool) → Pairs (λ a b. a ≢ b) (names_in ms) → names_in (cond b (left_in name ms) ms) ≡ cond b (left_by name (names_in ms)) (names_in ms)
words_by name ms true differ = words_left name ms differ
words_by name ms false differ = refl

module _ {A : Type 0} (p : A → Bool) (f : A → A) (d : A) (past : p d ≡ false) where
  read_at : (x : A) (xs : List A) (b : Bool) (i : ℕ) → p x ≡ b → ((j k : ℕ) → p (get_or (x ∷ xs) j d) ≡ true → p (get_or (x ∷ xs) k d) ≡ true → j ≡ k)
      → ((i : ℕ) → ((j k : ℕ) → p (get_or xs j d) ≡ true → p (get_or xs k d) ≡ true → j ≡ k) → get_or (change_first p f xs) i d ≡ cond (p (get_or xs i d)) (f (get_or xs i d)) (get_or xs i d))
      → get_or (cond b (f x ∷ xs) (x ∷ change_first p f xs)) i d ≡ cond (p (get_or (x ∷ xs) i d)) (f (get_or (x ∷ xs) i d)) (get_or (x ∷ xs) i d)
  read_at x xs true zero e once later = sym (cond-true (p x) (f x) x e)
  read_at x xs true (suc i) e once later =
      sym (cond-false (p (get_or xs i d)) (f (get_or xs i d)) (get_or xs i d) (false_from_ne_true (p (get_or xs i d)) (λ q. let z : 0 ≡ suc i = once 0 (suc i) e q in absurd (omega arith))))
  read_at x xs false zero e once later = sym (cond-false (p x) (f x) x e)
  read_at x xs false (suc i) e once later = later i (λ j k q r. let z : suc j ≡ suc k = once (suc j) (suc k) q r in omega arith)

  -- an item after the first that passes has changed, where no other passes
  pub change_read : (xs : List A) (i : ℕ) → ((j k : ℕ) → p (get_or xs j d) ≡ true → p (get_or xs k d) ≡ true → j ≡ k) → get_or (change_first p f xs) i d ≡ cond (p (get_or xs i d)) (f (get_or xs i d)) (get_or xs i d)
  change_read [] i once = sym (cond-false (p d) (f d) d past)
  change_read (x ∷ xs) i once = read_at x xs (p x) i refl once (λ j o. change_read xs j o)

-- a name that isn't among them leaves them as they are
pub names_stay : (name n : ℕ) (groups : List Group) → Pairs NumbersDiffer groups → list_any (is_name name) (members_of n groups) ≡ false → members_of n (leave name groups) ≡ members_of n groups
names_stay name n groups differ none =
    members_left name n groups differ
    ∙ cond-false (list_any (is_name name) (members_of n groups)) (left_by name (members_of n groups)) (members_of n groups) none

module _ (bucket : ℕ) (places : List (List ℕ)) (groups : List Group) (eight : length places ≡ 8) (means : GroupsAt bucket places groups) (name number : ℕ)
    (differ : Pairs NumbersDiffer groups) (names : (n : ℕ) → Pairs (λ a b. a ≢ b) (members_of n groups)) (only : OnlyAt name number groups) where
  abbrev placed : ℕ → Bool
  placed j = is_member name (get_or places j [])

  below : (j : ℕ) → (j < 8) ⊎ (8 ≤ j) → placed j ≡ true → j < 8
  below j (inl l) e = l
  below j (inr l) e =
      absurd (both_ways (placed j) (ap (is_member name) (get_or_past places j [] (omega arith))) e)

  number_is : (j : ℕ) → placed j ≡ true → (8 * bucket + j ≡ number) ⊎ (8 * bucket + j ≢ number) → 8 * bucket + j ≡ number
  number_is j e (inl is) = is
  number_is j e (inr is) =
      absurd (both_ways (placed j) (member_there bucket places groups eight means name j (below j (cases_lt j 8) e) ∙ no_member name (8 * bucket + j) number groups only is) e)

  once : (j k : ℕ) → placed j ≡ true → placed k ≡ true → j ≡ k
  once j k p q =
      let a : 8 * bucket + j ≡ number = number_is j p (cases_eq (8 * bucket + j) number) in
      let b : 8 * bucket + k ≡ number = number_is k q (cases_eq (8 * bucket + k) number) in
      omega arith

  -- the places of the bucket are those of the groups that are left
  pub leaves_at : GroupsAt bucket (change_first (is_member name) (left_in name) places) (leave name groups)
  leaves_at k l =
      let ms = get_or places k [] in
      let distinct : Pairs (λ a b. a ≢ b) (names_in ms) = subst (Pairs (λ (a b : ℕ). a ≢ b)) (sym (means k l)) (names (8 * bucket + k)) in
      ap names_in (change_read (is_member name) (left_in name) [] refl places k once)
      ∙ (words_by name ms (is_member name ms) distinct
      ∙ (ap (λ b. cond b (left_by name (names_in ms)) (names_in ms)) (any_names name ms)
      ∙ (ap (names_left name) (means k l) ∙ sym (members_left name (8 * bucket + k) groups differ))))
