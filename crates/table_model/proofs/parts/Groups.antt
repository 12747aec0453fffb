-- The groups of tables that mean a list, as chains change, and as one bucket's groups do.
use Rattle.std.proofs.Common.{◌≡◌, ◌≢◌, ℕ, zero, suc, ◌+◌, ◌*◌, ◌/◌, ◌%◌, ◌^◌, ◌<◌, ◌==◌, Bool, true, false, ◌||◌, List, [], ◌∷◌, length, get_or, map, find, Option, Some, None, ◌⊎◌, inl, inr, refl, sym, ap, subst, ◌∙◌, arith}
use Rattle.std.proofs.Math.ListN.{set}
use Rattle.std.specs.List.{list_any}
use Rattle.std.proofs.lemmas.Bool.{eq-eqb, both_ways, true_from_ne_false, cases_eq, or_left, or_right, and_from}
use Rattle.std.proofs.lemmas.List.{length-map, length-set, get_or-set_same, get_or-set_other}
use Rattle.list_words.specs.Lists.{Each}
use Rattle.list_words.proofs.EachLemmas.{each_weaken, each_both, each_map, each_found, each_unless_any, each_unmap}
use Rattle.sock_card.specs.declared.card.Card.{Card}
use Rattle.bind_buckets.specs.Journal.{Standing}
use Rattle.bind_buckets.specs.Members.{member}
use Rattle.chain_book.specs.declared.outcome.Hashed.{Hashed}
use Rattle.chain_book.specs.Chains.{Chains, placed}
use Rattle.flat_list.specs.Flat.{Flat}
use Rattle.flat_list.specs.Groups.{Group, has_member}
use Rattle.table_model.specs.Tables.{Tables}
use Rattle.bind_buckets.specs.BindHash.{untouched}
use Rattle.table_model.specs.Means.{GroupsMean, names_in, members_of, stands_as, stands_in_some}
use Rattle.table_model.proofs.questions.Asked.{groups_in}
use Rattle.table_model.proofs.parts.GroupPlaces.{at_number, is_name, GroupsAt, members_in}

module _ {A : Type 0} where
  -- a fact of the item at each place is one of each item
  pub each_by_place : (P : A → Type 0) (xs : List A) (d : A) → ((i : ℕ) → i < length xs → P (get_or xs i d)) → Each P xs
  each_by_place P [] d h = tt
  each_by_place P (x ∷ xs) d h = (h 0 (omega arith), each_by_place P xs d (λ i l. h (suc i) (omega arith)))

  -- and the other way round
  pub each_at : (P : A → Type 0) (xs : List A) (i : ℕ) (d : A) → Each P xs → i < length xs → P (get_or xs i d)
  each_at P [] i d h l = absurd (omega arith)
  each_at P (x ∷ xs) zero d h l = h.0
  each_at P (x ∷ xs) (suc i) d h l = each_at P xs i d h.1 (omega arith)

-- what is read of a list that was made from another
pub read_map : {A B : Type 0} (f : A → B) (xs : List A) (i : ℕ) (d : A) → get_or (map f xs) i (f d) ≡ f (get_or xs i d)
read_map f [] i d = refl
read_map f (x ∷ xs) zero d = refl
read_map f (x ∷ xs) (suc i) d = read_map f xs i d

each_self : (xs : List ℕ) → Each (λ k. list_any (is_name k) xs ≡ true) xs
each_self [] = tt
each_self (x ∷ xs) = (
  or_left (x == x) (list_any (is_name x) xs) (eq-eqb x x refl),
  each_weaken (λ k. list_any (is_name k) xs ≡ true) (λ k. list_any (is_name k) (x ∷ xs) ≡ true) xs (λ k h. or_right (x == k) (list_any (is_name k) xs) h) (each_self xs),
)

-- what is found and passes another test passes it in the list
pub any_by_found : {A : Type 0} (p q : A → Bool) (x : A) (xs : List A) → find q xs ≡ Some x → p x ≡ true → list_any p xs ≡ true
any_by_found p q x xs found passes =
    true_from_ne_false (list_any p xs)
    (λ e. both_ways (p x) (each_found (λ y. p y ≡ false) q xs x (each_unless_any p xs e) found) passes)

-- some group of the list has that member
abbrev pub IsGrouped : List Group → ℕ → Type 0
IsGrouped groups name = list_any (has_member name) groups ≡ true

nobody_grouped : (name : ℕ) (groups : List Group) → Each (λ g. has_member name g ≡ false) groups → IsGrouped groups name → ⊥
nobody_grouped name [] none is = absurd (cc)
nobody_grouped name (g ∷ groups) none is =
    nobody_grouped name groups none.1 (sym (ap (λ b. b || list_any (has_member name) groups) none.0) ∙ is)

-- where no group has a name, members have others
pub others_grouped : (name : ℕ) (groups : List Group) → Each (λ g. has_member name g ≡ false) groups → (k : ℕ) → IsGrouped groups k → k ≢ name
others_grouped name groups none k is = λ e. nobody_grouped name groups none (subst (IsGrouped groups) e is)

grouped_by : (n : ℕ) (groups : List Group) (o : Option Group) → find (at_number n) groups ≡ o → Each (IsGrouped groups) (members_in o)
grouped_by n groups None e = tt
grouped_by n groups (Some g) e =
    each_weaken (λ k. list_any (is_name k) g.members ≡ true) (IsGrouped groups) g.members
    (λ k h. any_by_found (has_member k) (at_number n) g groups e h) (each_self g.members)

-- members of a group are grouped
pub members_grouped : (n : ℕ) (groups : List Group) → Each (IsGrouped groups) (members_of n groups)
members_grouped n groups = grouped_by n groups (find (at_number n) groups) refl

-- the places of a bucket
abbrev pub places_of : Tables → ℕ → List (List ℕ)
places_of t number = (get_or t.buckets number untouched).held.groups

-- each member at these places stands in the rows
abbrev pub PlacesStand : List (List Hashed) → List (List ℕ) → Type 0
PlacesStand rows places = Each (λ members. Each (λ m. stands_in_some m rows ≡ true) members) places

-- the members of a bucket are grouped
pub words_grouped : (t : Tables) (flat : Flat) → GroupsMean t flat → (number place : ℕ) → number < length t.buckets → place < 8
    → Each (λ m. IsGrouped flat.groups (m % 2 ^ 64)) (get_or (places_of t number) place [])
words_grouped t flat gm number place l k =
    each_unmap (IsGrouped flat.groups) (λ m. m % 2 ^ 64) (get_or (places_of t number) place [])
    (subst (Each (IsGrouped flat.groups)) (sym (gm.members number place l k)) (members_grouped (8 * number + place) flat.groups))

module _ (t after : Tables) (flat left : Flat) (gm : GroupsMean t flat) where
  same_places : map groups_in after.buckets ≡ map groups_in t.buckets → (number : ℕ) → places_of after number ≡ places_of t number
  same_places same number =
      sym (read_map groups_in after.buckets number untouched)
      ∙ (ap (λ l. get_or l number (groups_in untouched)) same ∙ read_map groups_in t.buckets number untouched)

  same_length : map groups_in after.buckets ≡ map groups_in t.buckets → length after.buckets ≡ length t.buckets
  same_length same =
      sym (length-map after.buckets groups_in) ∙ (ap (λ l. length l) same ∙ length-map t.buckets groups_in)

  -- members that stood stand in the rows afterwards, bucket by bucket
  pub stand_there : ((m : ℕ) → IsGrouped flat.groups (m % 2 ^ 64) → stands_in_some m t.chains.rows ≡ true → stands_in_some m after.chains.rows ≡ true)
      → (number : ℕ) → number < length t.buckets → PlacesStand after.chains.rows (places_of t number)
  stand_there keeps number l =
      let rows = t.chains.rows in
      let eight : length (places_of t number) ≡ 8 = each_at (λ (s : Standing). length s.held.groups ≡ 8) t.buckets number untouched gm.places l in
      let stood : PlacesStand rows (places_of t number) = each_at (λ (s : Standing). PlacesStand rows s.held.groups) t.buckets number untouched gm.stand l in
      each_by_place (λ members. Each (λ m. stands_in_some m after.chains.rows ≡ true) members) (places_of t number) []
      (λ place k.
      let ms = get_or (places_of t number) place [] in
      each_weaken (λ m. IsGrouped flat.groups (m % 2 ^ 64) × (stands_in_some m rows ≡ true)) (λ m. stands_in_some m after.chains.rows ≡ true) ms (λ m h. keeps m h.0 h.1)
      (each_both (λ m. IsGrouped flat.groups (m % 2 ^ 64)) (λ m. stands_in_some m rows ≡ true) ms (words_grouped t flat gm number place l (omega arith))
      (each_at (λ members. Each (λ m. stands_in_some m rows ≡ true) members) (places_of t number) place [] stood k)))

  -- tables with the same groups, in whose rows each member stands that stood
  pub groups_stay : map groups_in after.buckets ≡ map groups_in t.buckets → left.groups ≡ flat.groups
      → ((m : ℕ) → IsGrouped flat.groups (m % 2 ^ 64) → stands_in_some m t.chains.rows ≡ true → stands_in_some m after.chains.rows ≡ true)
      → GroupsMean after left
  groups_stay same groups keeps = record {
    members = λ number place l k.
        ap (λ places. names_in (get_or places place [])) (same_places same number)
        ∙ (gm.members number place (subst (λ n. number < n) (same_length same) l) k ∙ ap (members_of (8 * number + place)) (sym groups));
    places =
        each_unmap (λ places. length places ≡ 8) groups_in after.buckets
        (subst (Each (λ places. length places ≡ 8)) (sym same) (each_map (λ places. length places ≡ 8) groups_in t.buckets gm.places));
    stand = each_by_place (λ (s : Standing). PlacesStand after.chains.rows s.held.groups) after.buckets untouched
        (λ number l. subst (PlacesStand after.chains.rows) (sym (same_places same number)) (stand_there keeps number (subst (λ n. number < n) (same_length same) l)));
  }

-- one bucket's groups have changed
module _ (t : Tables) (flat left : Flat) (chains : Chains) (gm : GroupsMean t flat) (bucket : ℕ) (new : Standing) (inside : bucket < length t.buckets) where
  abbrev pub set_tables : Tables
  set_tables = record { buckets = set t.buckets bucket new; chains = chains }

  here : places_of set_tables bucket ≡ new.held.groups
  here = ap groups_in (get_or-set_same t.buckets bucket new untouched inside)

  there : (number : ℕ) → number ≢ bucket → places_of set_tables number ≡ places_of t number
  there number d = ap groups_in (get_or-set_other t.buckets bucket number new untouched d)

  set_length : length (set t.buckets bucket new) ≡ length t.buckets
  set_length = length-set t.buckets bucket new

  by_bucket : (P : ℕ → List (List ℕ) → Type 0) → P bucket new.held.groups → ((number : ℕ) → number < length t.buckets → number ≢ bucket → P number (places_of t number))
      → (number : ℕ) → number < length t.buckets → (number ≡ bucket) ⊎ (number ≢ bucket) → P number (places_of set_tables number)
  by_bucket P p q number l (inl e) =
      subst (λ n. P n (places_of set_tables n)) (sym e) (subst (P bucket) (sym here) p)
  by_bucket P p q number l (inr d) = subst (P number) (sym (there number d)) (q number l d)

  -- its places are those of the list's groups then, the others' groups are as they were, and all members stand
  pub groups_set : length new.held.groups ≡ 8 → GroupsAt bucket new.held.groups left.groups
      → ((number place : ℕ) → number ≢ bucket → place < 8 → members_of (8 * number + place) left.groups ≡ members_of (8 * number + place) flat.groups)
      → PlacesStand chains.rows new.held.groups
      → ((number : ℕ) → number < length t.buckets → number ≢ bucket → PlacesStand chains.rows (places_of t number))
      → GroupsMean set_tables left
  groups_set eight at others stand stand_others = record {
    members = λ number place l k.
        by_bucket (λ n places. names_in (get_or places place []) ≡ members_of (8 * n + place) left.groups) (at place k)
        (λ n below d. gm.members n place below k ∙ sym (others n place d k)) number (subst (λ n. number < n) set_length l) (cases_eq number bucket);
    places = each_by_place (λ (s : Standing). length s.held.groups ≡ 8) (set t.buckets bucket new) untouched
        (λ number l. by_bucket (λ n places. length places ≡ 8) eight
        (λ n below d. each_at (λ (s : Standing). length s.held.groups ≡ 8) t.buckets n untouched gm.places below)
        number (subst (λ n. number < n) set_length l) (cases_eq number bucket));
    stand = each_by_place (λ (s : Standing). PlacesStand chains.rows s.held.groups) (set t.buckets bucket new) untouched
        (λ number l. by_bucket (λ n places. PlacesStand chains.rows places) stand stand_others number (subst (λ n. number < n) set_length l) (cases_eq number bucket));
  }

-- members in rows
module _ (m : ℕ) where
  any_new : (rows : List (List Hashed)) (b : ℕ) (new : Hashed) → b < length rows → stands_as m new ≡ true → stands_in_some m (set rows b (new ∷ get_or rows b [])) ≡ true
  any_new [] b new l h = absurd (omega arith)
  any_new (r ∷ rows) zero new l h =
      or_left (stands_as m new || list_any (stands_as m) r) (stands_in_some m rows) (or_left (stands_as m new) (list_any (stands_as m) r) h)
  any_new (r ∷ rows) (suc b) new l h =
      or_right (list_any (stands_as m) r) (stands_in_some m (set rows b (new ∷ get_or rows b []))) (any_new rows b new (omega arith) h)

-- the newcomer is named by its own word
pub stands_new : (c : Chains) (b slot : ℕ) (card : Card) → b < length c.rows → card.name < 2 ^ 64 → stands_in_some (member slot card.name) (placed c b slot card).rows ≡ true
stands_new c b slot card l small =
    any_new (member slot card.name) c.rows b (record { slot = slot; card = card }) l
    (and_from (slot == member slot card.name / 2 ^ 64) (card.name == member slot card.name % 2 ^ 64)
    (eq-eqb slot (member slot card.name / 2 ^ 64) (omega arith)) (eq-eqb card.name (member slot card.name % 2 ^ 64) (omega arith)))
