-- A member joins the group of its mate, or begins one.
use Rattle.std.proofs.Common.{◌≡◌, ◌≢◌, ℕ, ◌+◌, ◌*◌, ◌%◌, ◌^◌, ◌<◌, ◌==◌, Bool, true, false, cond, List, [], ◌∷◌, ◌++◌, length, get_or, map, find, Option, Some, None, ◌⊎◌, inl, inr, refl, sym, ap, ◌∙◌, arith}
use Rattle.std.proofs.Math.ListN.{set}
use Rattle.std.specs.List.{list_any}
use Rattle.std.specs.Option.{option_map, option_or}
use Rattle.std.proofs.lemmas.Bool.{eqb-true, eq-eqb, ne_eqb, both_ways, false_from_ne_true, cond-true, cond-false, cases_eq}
use Rattle.std.proofs.lemmas.List.{map-append, get_or-set_same, get_or-set_other}
use Rattle.std.proofs.lemmas.List.Folds.{find-append}
use Rattle.list_words.specs.Lists.{Pairs}
use Rattle.list_words.proofs.EachLemmas.{each_found, found_passes, each_unless_any}
use Rattle.flat_list.specs.Groups.{Group, has_member, join_group, with_group}
use Rattle.flat_list.specs.Sound.{NumbersDiffer}
use Rattle.bind_buckets.specs.Members.{joined_by}
use Rattle.table_model.specs.Means.{names_in, members_of}
use Rattle.table_model.proofs.parts.GroupPlaces.{at_number, OnlyAt, GroupsAt, members_in, found_number}

join_kept : (mate name : ℕ) (g : Group) (b : Bool) → has_member mate g ≡ b → (join_group mate name g).number ≡ g.number
join_kept mate name g true e = rw e refl
join_kept mate name g false e = rw e refl

joined_at : (mate name n : ℕ) (g : Group) (groups : List Group) (b : Bool) → at_number n g ≡ b → find (at_number n) (map (join_group mate name) groups) ≡ option_map (join_group mate name) (find (at_number n) groups)
    → find (at_number n) (map (join_group mate name) (g ∷ groups)) ≡ option_map (join_group mate name) (cond b (Some g) (find (at_number n) groups))
joined_at mate name n g groups true e later =
    let same : at_number n (join_group mate name g) ≡ true = ap (λ m. m == n) (join_kept mate name g (has_member mate g) refl) ∙ e in
    cond-true (at_number n (join_group mate name g)) (Some (join_group mate name g)) _ same
joined_at mate name n g groups false e later =
    let same : at_number n (join_group mate name g) ≡ false = ap (λ m. m == n) (join_kept mate name g (has_member mate g) refl) ∙ e in
    cond-false (at_number n (join_group mate name g)) (Some (join_group mate name g)) _ same ∙ later

-- a group of a number, after a member joined a group
pub found_joined : (mate name n : ℕ) (groups : List Group) → find (at_number n) (map (join_group mate name) groups) ≡ option_map (join_group mate name) (find (at_number n) groups)
found_joined mate name n [] = refl
found_joined mate name n (g ∷ groups) = joined_at mate name n g groups (at_number n g) refl (found_joined mate name n groups)

module _ (mate name : ℕ) (groups : List Group) where
  -- the group of the mate has one member more
  pub members_joined : (g : Group) → Pairs NumbersDiffer groups → find (has_member mate) groups ≡ Some g → members_of g.number (map (join_group mate name) groups) ≡ members_of g.number groups ++ name ∷ []
  members_joined g differ found =
      let at : find (at_number g.number) groups ≡ Some g = found_number (has_member mate) g groups differ found in
      let has : has_member mate g ≡ true = found_passes (has_member mate) groups g found in
      ap members_in (found_joined mate name g.number groups)
      ∙ (ap (λ o. members_in (option_map (join_group mate name) o)) at
      ∙ (ap (λ (y : Group). y.members) (cond-true (has_member mate g) (record g { members = g.members ++ name ∷ [] }) g has)
      ∙ ap (λ l. l ++ name ∷ []) (sym (ap members_in at))))

  kept_by : (n number : ℕ) (o : Option Group) → find (at_number n) groups ≡ o → OnlyAt mate number groups → n ≢ number → members_in (option_map (join_group mate name) o) ≡ members_in o
  kept_by n number None e only apart = refl
  kept_by n number (Some g) e only apart =
      let is : g.number ≡ n = eqb-true _ _ (found_passes (at_number n) groups g e) in
      let none : has_member mate g ≡ false = false_from_ne_true (has_member mate g)
      (λ q. apart (sym is ∙ each_found (λ (y : Group). has_member mate y ≡ true → y.number ≡ number) (at_number n) groups g only e q)) in
      ap (λ (y : Group). y.members) (cond-false (has_member mate g) (record g { members = g.members ++ name ∷ [] }) g none)

  -- the others have those that they had
  pub members_kept : (n number : ℕ) → OnlyAt mate number groups → n ≢ number → members_of n (map (join_group mate name) groups) ≡ members_of n groups
  members_kept n number only apart =
      ap members_in (found_joined mate name n groups) ∙ kept_by n number (find (at_number n) groups) refl only apart

  -- a group that begins has that member
  begun_by : (number : ℕ) (o : Option Group) → find (at_number number) groups ≡ o → list_any (at_number number) groups ≡ false → members_in (option_or o (Some (record { number = number; members = name ∷ [] }))) ≡ name ∷ []
  begun_by number None e none = refl
  begun_by number (Some g) e none =
      let no : at_number number g ≡ false = each_found (λ g. at_number number g ≡ false) (at_number number) groups g (each_unless_any (at_number number) groups none) e in
      absurd (both_ways (at_number number g) no (found_passes (at_number number) groups g e))

  abbrev begun : ℕ → Group
  begun number = record { number = number; members = name ∷ [] }

  found_begun : (n number : ℕ) (b : Bool) → (number == n) ≡ b → find (at_number n) (with_group name number groups) ≡ option_or (find (at_number n) groups) (cond b (Some (begun number)) None)
  found_begun n number b e =
      find-append (at_number n) groups (begun number ∷ []) ∙ ap (λ q. option_or (find (at_number n) groups) (cond q (Some (begun number)) None)) e

  pub members_begun : (number : ℕ) → list_any (at_number number) groups ≡ false → members_of number (with_group name number groups) ≡ name ∷ []
  members_begun number none =
      ap members_in (found_begun number number true (eq-eqb number number refl)) ∙ begun_by number (find (at_number number) groups) refl none

  beside : (o : Option Group) → members_in (option_or o None) ≡ members_in o
  beside None = refl
  beside (Some g) = refl

  -- beside the groups that were there
  pub members_beside : (n number : ℕ) → n ≢ number → members_of n (with_group name number groups) ≡ members_of n groups
  members_beside n number apart =
      ap members_in (found_begun n number false (ne_eqb number n (λ e. apart (sym e)))) ∙ beside (find (at_number n) groups)

-- the members at a place of a bucket after one joined there
abbrev pub joined_at_place : ℕ → ℕ → List (List ℕ) → List (List ℕ)
joined_at_place place m places = set places place (joined_by m (get_or places place []))

module _ (bucket name m place : ℕ) (places : List (List ℕ)) (groups after : List Group) (eight : length places ≡ 8) (l : place < 8) (named : m % 2 ^ 64 ≡ name) where
  there_at : (k : ℕ) → k < 8 → (k ≡ place) ⊎ (k ≢ place) → GroupsAt bucket places groups → members_of (8 * bucket + place) after ≡ members_of (8 * bucket + place) groups ++ name ∷ []
      → ((n : ℕ) → n ≢ 8 * bucket + place → members_of n after ≡ members_of n groups) → names_in (get_or (joined_at_place place m places) k []) ≡ members_of (8 * bucket + k) after
  there_at k below (inl e) means more others =
      let read : get_or (joined_at_place place m places) k [] ≡ get_or places place [] ++ m ∷ [] =
      ap (λ j. get_or (joined_at_place place m places) j []) e ∙ get_or-set_same places place (joined_by m (get_or places place [])) [] (omega arith) in
      ap names_in read
      ∙ (map-append (λ j. j % 2 ^ 64) (get_or places place []) (m ∷ [])
      ∙ (ap (λ j. names_in (get_or places place []) ++ j ∷ []) named
      ∙ (ap (λ l. l ++ name ∷ []) (means place l) ∙ (sym more ∙ ap (λ j. members_of (8 * bucket + j) after) (sym e)))))
  there_at k below (inr q) means more others =
      ap names_in (get_or-set_other places place k (joined_by m (get_or places place [])) [] q)
      ∙ (means k below ∙ sym (others (8 * bucket + k) (λ e. q (omega arith))))

  -- its group has it in the list too, and no other group is another
  pub joins_at : GroupsAt bucket places groups → members_of (8 * bucket + place) after ≡ members_of (8 * bucket + place) groups ++ name ∷ []
      → ((n : ℕ) → n ≢ 8 * bucket + place → members_of n after ≡ members_of n groups) → GroupsAt bucket (joined_at_place place m places) after
  joins_at means more others k below = there_at k below (cases_eq k place) means more others
