-- In which group a listener's card says it is, as another joins or leaves.
use Rattle.std.proofs.Common.{◌≡◌, ◌≢◌, ℕ, suc, ◌+◌, ◌-◌, ◌==◌, Bool, true, false, ◌||◌, cond, ltb, List, [], ◌∷◌, ◌++◌, length, get_or, take, map, find, Option, Some, None, refl, sym, ap, subst, ◌∙◌, arith}
use Rattle.std.specs.List.{list_any}
use Rattle.std.specs.Option.{option_map_or, option_or}
use Rattle.std.proofs.lemmas.Bool.{eqb-true, eq-eqb, ne_eqb, both_ways, lt-ltb, cond-true, cond-false}
use Rattle.std.proofs.lemmas.List.Folds.{list_any-append, find-append}
use Rattle.list_words.specs.Lists.{Each, Pairs, total}
use Rattle.list_words.proofs.EachLemmas.{each_found, found_passes}
use Rattle.flat_list.specs.Groups.{Group, has_member, join_group, with_group, leave_group, leave, has_members, left_by}
use Rattle.flat_list.proofs.GroupsStay.{number_left}
use Rattle.table_model.proofs.lists.Passing.{ind, any_weighs, same_answer}
use Rattle.table_model.proofs.parts.GroupPlaces.{is_name}
use Rattle.table_model.proofs.parts.Leaving.{left_members}

-- the number of the group of that name and 1, or 0 where it is in none
abbrev pub extra_of : ℕ → List Group → ℕ
extra_of name groups = option_map_or (λ (g : Group). g.number + 1) (find (has_member name) groups) 0

-- two that find groups of one number
same_at : (name : ℕ) (g h : Group) (gs hs : List Group) (b : Bool) → has_member name g ≡ b → has_member name h ≡ b → h.number ≡ g.number → extra_of name hs ≡ extra_of name gs → extra_of name (h ∷ hs) ≡ extra_of name (g ∷ gs)
same_at name g h gs hs true e f n later =
    ap (λ o. option_map_or (λ (y : Group). y.number + 1) o 0) (cond-true (has_member name h) (Some h) (find (has_member name) hs) f)
    ∙ (ap (λ k. k + 1) n ∙ sym (ap (λ o. option_map_or (λ (y : Group). y.number + 1) o 0) (cond-true (has_member name g) (Some g) (find (has_member name) gs) e)))
same_at name g h gs hs false e f n later =
    ap (λ o. option_map_or (λ (y : Group). y.number + 1) o 0) (cond-false (has_member name h) (Some h) (find (has_member name) hs) f)
    ∙ (later ∙ sym (ap (λ o. option_map_or (λ (y : Group). y.number + 1) o 0) (cond-false (has_member name g) (Some g) (find (has_member name) gs) e)))

pub or_no : (b : Bool) → (b || false) ≡ b
or_no true = refl
or_no false = refl

-- no other name joins
not_joined : (mate name other : ℕ) (g : Group) (b : Bool) → has_member mate g ≡ b → name ≢ other → (has_member other (join_group mate name g) ≡ has_member other g) × ((join_group mate name g).number ≡ g.number)
not_joined mate name other g true e d =
    let is : join_group mate name g ≡ record g { members = g.members ++ name ∷ [] } = cond-true (has_member mate g) (record g { members = g.members ++ name ∷ [] }) g e in (
      ap (has_member other) is
          ∙ (list_any-append (is_name other) g.members (name ∷ [])
          ∙ (ap (λ b. list_any (is_name other) g.members || (b || false)) (ne_eqb name other d) ∙ or_no (list_any (is_name other) g.members))),
      ap (λ (y : Group). y.number) is,
    )
not_joined mate name other g false e d =
    let is : join_group mate name g ≡ g = cond-false (has_member mate g) (record g { members = g.members ++ name ∷ [] }) g e in
    (ap (has_member other) is, ap (λ (y : Group). y.number) is)

-- the others are in the groups in which they were, as one joins
pub extra_joined : (mate name other : ℕ) (groups : List Group) → name ≢ other → extra_of other (map (join_group mate name) groups) ≡ extra_of other groups
extra_joined mate name other [] d = refl
extra_joined mate name other (g ∷ groups) d =
    let same = not_joined mate name other g (has_member mate g) refl d in
    same_at other g (join_group mate name g) groups (map (join_group mate name) groups) (has_member other g) refl same.0 same.1 (extra_joined mate name other groups d)

or_none : (o : Option Group) → option_or o None ≡ o
or_none None = refl
or_none (Some g) = refl

-- and as one begins a group
pub extra_begun : (name other number : ℕ) (groups : List Group) → name ≢ other → extra_of other (with_group name number groups) ≡ extra_of other groups
extra_begun name other number groups d =
    let new : Group = record { number = number; members = name ∷ [] } in
    ap (λ o. option_map_or (λ (y : Group). y.number + 1) o 0)
    (find-append (has_member other) groups (new ∷ [])
    ∙ (ap (λ b. option_or (find (has_member other) groups) (cond (b || false) (Some new) None)) (ne_eqb name other d) ∙ or_none (find (has_member other) groups)))

-- the group of the mate, for who has joined it
joins_by : (mate name : ℕ) (g : Group) (b : Bool) → has_member mate g ≡ b → has_member name g ≡ false → (has_member name (join_group mate name g) ≡ b) × ((join_group mate name g).number ≡ g.number)
joins_by mate name g true e none =
    let is : join_group mate name g ≡ record g { members = g.members ++ name ∷ [] } = cond-true (has_member mate g) (record g { members = g.members ++ name ∷ [] }) g e in (
      ap (has_member name) is ∙ (list_any-append (is_name name) g.members (name ∷ []) ∙ (ap (λ b. b || ((name == name) || false)) none ∙ ap (λ b. b || false) (eq-eqb name name refl))),
      ap (λ (y : Group). y.number) is,
    )
joins_by mate name g false e none =
    let is : join_group mate name g ≡ g = cond-false (has_member mate g) (record g { members = g.members ++ name ∷ [] }) g e in
    (ap (has_member name) is ∙ none, ap (λ (y : Group). y.number) is)

extra_at : (mate name : ℕ) (g h : Group) (gs hs : List Group) (b : Bool) → has_member mate g ≡ b → has_member name h ≡ b → h.number ≡ g.number → extra_of name hs ≡ extra_of mate gs → extra_of name (h ∷ hs) ≡ extra_of mate (g ∷ gs)
extra_at mate name g h gs hs true e f n later =
    ap (λ o. option_map_or (λ (y : Group). y.number + 1) o 0) (cond-true (has_member name h) (Some h) (find (has_member name) hs) f)
    ∙ (ap (λ k. k + 1) n ∙ sym (ap (λ o. option_map_or (λ (y : Group). y.number + 1) o 0) (cond-true (has_member mate g) (Some g) (find (has_member mate) gs) e)))
extra_at mate name g h gs hs false e f n later =
    ap (λ o. option_map_or (λ (y : Group). y.number + 1) o 0) (cond-false (has_member name h) (Some h) (find (has_member name) hs) f)
    ∙ (later ∙ sym (ap (λ o. option_map_or (λ (y : Group). y.number + 1) o 0) (cond-false (has_member mate g) (Some g) (find (has_member mate) gs) e)))

-- who joins is in its mate's group
pub extra_joins : (mate name : ℕ) (groups : List Group) → Each (λ g. has_member name g ≡ false) groups → extra_of name (map (join_group mate name) groups) ≡ extra_of mate groups
extra_joins mate name [] none = refl
extra_joins mate name (g ∷ groups) none =
    let same = joins_by mate name g (has_member mate g) refl none.0 in
    extra_at mate name g (join_group mate name g) groups (map (join_group mate name) groups) (has_member mate g) refl same.0 same.1 (extra_joins mate name groups none.1)

begins_by : (name number : ℕ) (groups : List Group) (o : Option Group) → find (has_member name) groups ≡ o → Each (λ g. has_member name g ≡ false) groups
    → option_map_or (λ (y : Group). y.number + 1) (option_or o (Some (record { number = number; members = name ∷ [] }))) 0 ≡ number + 1
begins_by name number groups None e none = refl
begins_by name number groups (Some g) e none =
    absurd (both_ways (has_member name g) (each_found (λ y. has_member name y ≡ false) (has_member name) groups g none e) (found_passes (has_member name) groups g e))

-- who begins a group is in that
pub extra_begins : (name number : ℕ) (groups : List Group) → Each (λ g. has_member name g ≡ false) groups → extra_of name (with_group name number groups) ≡ number + 1
extra_begins name number groups none =
    let new : Group = record { number = number; members = name ∷ [] } in
    ap (λ o. option_map_or (λ (y : Group). y.number + 1) o 0)
    (find-append (has_member name) groups (new ∷ []) ∙ ap (λ b. option_or (find (has_member name) groups) (cond (b || false) (Some new) None)) (eq-eqb name name refl))
    ∙ begins_by name number groups (find (has_member name) groups) refl none

-- the last of a list, and the others
pub total_last : (f : ℕ → ℕ) (x : ℕ) (xs : List ℕ) → total f (take (length xs) (x ∷ xs)) + f (get_or (x ∷ xs) (length xs) 0) ≡ f x + total f xs
total_last f x [] = omega arith
total_last f x (y ∷ ys) = omega (arith, total_last f y ys)

abbrev with_last : ℕ → ℕ → ℕ → ℕ
with_last name last m = cond (m == name) last m

unchanged : (f : ℕ → ℕ) (name last : ℕ) (xs : List ℕ) → Each (λ m. name ≢ m) xs → total f (map (with_last name last) xs) ≡ total f xs
unchanged f name last [] h = refl
unchanged f name last (x ∷ xs) h =
    omega (arith, ap (λ b. f (cond b last x)) (ne_eqb x name (λ e. h.0 (sym e))), unchanged f name last xs h.1)

one_changed : (f : ℕ → ℕ) (name last x : ℕ) (xs : List ℕ) (b : Bool) → (x == name) ≡ b → Each (λ m. x ≢ m) xs → (b || list_any (is_name name) xs) ≡ true
    → (list_any (is_name name) xs ≡ true → total f (map (with_last name last) xs) + f name ≡ total f xs + f last)
    → f (cond b last x) + total f (map (with_last name last) xs) + f name ≡ f x + total f xs + f last
one_changed f name last x xs true e h has later =
    let is : x ≡ name = eqb-true x name e in
    omega (arith, ap f is, unchanged f name last xs (subst (λ n. Each (λ m. n ≢ m) xs) is h))
one_changed f name last x xs false e h has later = omega (arith, later has)

-- one of that name weighs as the last one now
total_changed : (f : ℕ → ℕ) (name last : ℕ) (xs : List ℕ) → Pairs (λ a b. a ≢ b) xs → list_any (is_name name) xs ≡ true → total f (map (with_last name last) xs) + f name ≡ total f xs + f last
total_changed f name last [] h has = absurd (cc)
total_changed f name last (x ∷ xs) h has =
    omega (arith, one_changed f name last x xs (x == name) refl h.0 has (total_changed f name last xs h.1))

last_stays : (name last : ℕ) (b : Bool) → cond {A = ℕ} b last last ≡ last
last_stays name last true = refl
last_stays name last false = refl

get_or-mapped : (f : ℕ → ℕ) (xs : List ℕ) (x : ℕ) → get_or (map f (x ∷ xs)) (length xs) 0 ≡ f (get_or (x ∷ xs) (length xs) 0)
get_or-mapped f [] x = refl
get_or-mapped f (y ∷ ys) x = get_or-mapped f ys y

length-mapped : (f : ℕ → ℕ) (xs : List ℕ) → length (map f xs) ≡ length xs
length-mapped f [] = refl
length-mapped f (x ∷ xs) = ap suc (length-mapped f xs)

minus_one : (n : ℕ) → suc n - 1 ≡ n
minus_one n = omega arith

-- who leaves weighs no more, where names differ
pub total_left : (f : ℕ → ℕ) (name : ℕ) (xs : List ℕ) → Pairs (λ a b. a ≢ b) xs → list_any (is_name name) xs ≡ true → total f (left_by name xs) + f name ≡ total f xs
total_left f name [] h has = absurd (cc)
total_left f name (x ∷ xs) h has =
    let last : ℕ = get_or (x ∷ xs) (length xs) 0 in
    let g : ℕ → ℕ = with_last name last in
    let is : left_by name (x ∷ xs) ≡ take (length xs) (map g (x ∷ xs)) =
    ap (λ n. take n (map (with_last name (get_or (x ∷ xs) n 0)) (x ∷ xs))) (minus_one (length xs)) in
    let behind : total f (take (length xs) (map g (x ∷ xs))) + f last ≡ total f (map g (x ∷ xs)) =
    subst (λ n. total f (take n (map g (x ∷ xs))) + f last ≡ total f (map g (x ∷ xs))) (length-mapped g xs)
    (subst (λ k. total f (take (length (map g xs)) (map g (x ∷ xs))) + f k ≡ total f (map g (x ∷ xs)))
    (ap (λ n. get_or (map g (x ∷ xs)) n 0) (length-mapped g xs) ∙ (get_or-mapped g xs x ∙ last_stays name last (last == name)))
    (total_last f (g x) (map g xs))) in
    omega (arith, ap (total f) is, behind, total_changed f name last (x ∷ xs) h has)

-- another name is a member as before
other_left : (name other : ℕ) (xs : List ℕ) (b : Bool) → list_any (is_name name) xs ≡ b → Pairs (λ a b. a ≢ b) xs → name ≢ other → list_any (is_name other) (cond b (left_by name xs) xs) ≡ list_any (is_name other) xs
other_left name other xs true has h d =
    same_answer (list_any (is_name other) (left_by name xs)) (list_any (is_name other) xs) (total (ind (is_name other)) (left_by name xs)) (total (ind (is_name other)) xs)
    (any_weighs (is_name other) (left_by name xs)) (any_weighs (is_name other) xs)
    (omega (arith, total_left (ind (is_name other)) name xs h has, ap (λ (b : Bool). cond {A = ℕ} b 1 0) (ne_eqb name other d)))
other_left name other xs false has h d = refl

member_kept : (name other : ℕ) (g : Group) → Pairs (λ a b. a ≢ b) g.members → name ≢ other → has_member other (leave_group name g) ≡ has_member other g
member_kept name other g h d =
    ap (list_any (is_name other)) (left_members name g) ∙ other_left name other g.members (list_any (is_name name) g.members) refl h d

some_members : (other : ℕ) (xs : List ℕ) → list_any (is_name other) xs ≡ true → ltb 0 (length xs) ≡ true
some_members other [] h = absurd (cc)
some_members other (x ∷ xs) h = lt-ltb 0 (suc (length xs)) (omega arith)

not_there : (other : ℕ) (g h : Group) (gs hs : List Group) (c : Bool) → has_member other h ≡ false → has_member other g ≡ false → h.number ≡ g.number → extra_of other hs ≡ extra_of other gs
    → extra_of other (cond c (h ∷ hs) hs) ≡ extra_of other (g ∷ gs)
not_there other g h gs hs true f e n later = same_at other g h gs hs false e f n later
not_there other g h gs hs false f e n later =
    later ∙ sym (ap (λ o. option_map_or (λ (y : Group). y.number + 1) o 0) (cond-false (has_member other g) (Some g) (find (has_member other) gs) e))

kept_or_not : (other : ℕ) (g h : Group) (gs hs : List Group) (b : Bool) → has_member other h ≡ b → has_member other g ≡ b → h.number ≡ g.number → extra_of other hs ≡ extra_of other gs
    → extra_of other (cond (has_members h) (h ∷ hs) hs) ≡ extra_of other (g ∷ gs)
kept_or_not other g h gs hs true f e n later =
    ap (extra_of other) (cond-true (has_members h) (h ∷ hs) hs (some_members other h.members f)) ∙ same_at other g h gs hs true e f n later
kept_or_not other g h gs hs false f e n later = not_there other g h gs hs (has_members h) f e n later

-- the others are in the groups in which they were, as one leaves
pub extra_left : (name other : ℕ) (groups : List Group) → Each (λ (g : Group). Pairs (λ a b. a ≢ b) g.members) groups → name ≢ other → extra_of other (leave name groups) ≡ extra_of other groups
extra_left name other [] h d = refl
extra_left name other (g ∷ groups) h d =
    kept_or_not other g (leave_group name g) groups (leave name groups) (has_member other g) (member_kept name other g h.0 d) refl (number_left name g) (extra_left name other groups h.1 d)
