-- Who is in a group after a socket joined it or left it.
use Rattle.std.proofs.Common.{◌≡◌, ◌≢◌, ℕ, ◌+◌, ◌-◌, ◌≤◌, ◌==◌, Bool, true, false, ◌&&◌, ◌||◌, if◌then◌else◌, List, [], ◌∷◌, ◌++◌, length, map, take, arith, refl, sym, ap, subst, ◌∙◌, length-take}
use Rattle.std.specs.List.{list_any}
use Rattle.std.proofs.lemmas.Bool.{both_ways, cond_both, eqb-true, eq-eqb, ne_eqb}
use Rattle.std.proofs.lemmas.List.{length-map, take-map, take_more}
use Rattle.std.proofs.Math.Seq.{take-length}
use Rattle.list_words.specs.Lists.{Each, Pairs}
use Rattle.list_words.proofs.EachLemmas.{each_weaken, each_map, none_any}
use Rattle.list_words.proofs.PairsLemmas.{pairs_map, pairs_weaken, pairs_both, pairs_of_each}
use Rattle.flat_list.specs.Groups.{Group, has_member, last_of, renamed, left_by, join_group}
use Rattle.flat_list.proofs.Counted.{any_push}

abbrev pub Differ : List ℕ → Type 0
Differ xs = Pairs (λ a b. a ≢ b) xs

-- whether a name is among these
abbrev pub among : ℕ → List ℕ → Bool
among q xs = list_any (λ m. m == q) xs

-- each of these is among them
each_later : (P : ℕ → Bool) (x : ℕ) (xs : List ℕ) → Each (λ m. P m ≡ true) xs → Each (λ m. ((x == m) || P m) ≡ true) xs
each_later P x xs h = each_weaken (λ m. P m ≡ true) (λ m. ((x == m) || P m) ≡ true) xs (λ m e. grind (arith, e)) h

pub each_among : (xs : List ℕ) → Each (λ m. among m xs ≡ true) xs
each_among [] = tt
each_among (x ∷ xs) = (rw (eq-eqb x x refl) refl, each_later (λ m. among m xs) x xs (each_among xs))

-- the group after a socket joined
joined_if : (q mate name : ℕ) (g : Group) (b : Bool) → has_member mate g ≡ b → has_member q (join_group mate name g) ≡ (has_member q g || (b && (name == q)))
joined_if q mate name g true e = rw e (any_push (λ m. m == q) g.members name)
joined_if q mate name g false e = rw e (or_false (has_member q g))
  where
    or_false : (b : Bool) → b ≡ (b || false)
    or_false true = refl
    or_false false = refl

pub joined_member : (q mate name : ℕ) (g : Group) → has_member q (join_group mate name g) ≡ (has_member q g || (has_member mate g && (name == q)))
joined_member q mate name g = joined_if q mate name g (has_member mate g) refl

pub joined_other : (q mate name : ℕ) (g : Group) → name ≢ q → has_member q (join_group mate name g) ≡ has_member q g
joined_other q mate name g differ =
    joined_member q mate name g ∙ at (has_member q g) (has_member mate g) (name == q) (ne_eqb name q differ)
  where
    at : (a b c : Bool) → c ≡ false → (a || (b && c)) ≡ a
    at true b c e = refl
    at false true c e = e
    at false false c e = refl

pub joined_itself : (mate name : ℕ) (g : Group) → has_member name g ≡ false → has_member name (join_group mate name g) ≡ has_member mate g
joined_itself mate name g out =
    joined_member name mate name g ∙ at (has_member name g) (has_member mate g) (name == name) out (eq-eqb name name refl)
  where
    at : (a b c : Bool) → a ≡ false → c ≡ true → (a || (b && c)) ≡ b
    at false true c e f = f
    at false false c e f = refl
    at true b c e f = absurd (both_ways true e refl)

-- a list that isn't empty ends in its last
ends_in : (xs : List ℕ) → 1 ≤ length xs → xs ≡ take (length xs - 1) xs ++ last_of xs ∷ []
ends_in xs h =
    let last : ℕ = length xs - 1 in
    let whole : last + 1 ≡ length xs = omega arith in
    sym (take-length xs) ∙ ap (λ n. take n xs) (sym whole) ∙ take_more xs last 0 (omega arith)

-- who is among names of which one was replaced
renamed_is : (q old new y : ℕ) (b : Bool) → (y == old) ≡ b → (renamed old new y == q) ≡ (if b then new == q else y == q)
renamed_is q old new y true e = rw e refl
renamed_is q old new y false e = rw e refl

folded : (l a n : Bool) → (l || (a || (n && l))) ≡ (a || l)
folded true true n = refl
folded true false n = refl
folded false true n = refl
folded false false true = refl
folded false false false = refl

regrouped : (a b c : Bool) → (a || (b || c)) ≡ ((a || b) || c)
regrouped true b c = refl
regrouped false b c = refl

-- n: this one is replaced, a: this one is sought, l: the new one is
other_step : (n a l more olds : Bool) → (n ≡ true → a ≡ false) → ((if n then l else a) || (more || (olds && l))) ≡ ((a || more) || ((n || olds) && l))
other_step true a l more olds h = rw (h refl) (folded l more olds)
other_step false a l more olds h = regrouped a more (olds && l)

among_others : (q old new : ℕ) (ys : List ℕ) → old ≢ q → among q (map (renamed old new) ys) ≡ (among q ys || (among old ys && (new == q)))
among_others q old new [] differ = refl
among_others q old new (y ∷ ys) differ =
    ap (λ b. b || among q (map (renamed old new) ys)) (renamed_is q old new y (y == old) refl)
    ∙ ap (λ b. (if y == old then new == q else y == q) || b) (among_others q old new ys differ)
    ∙ other_step (y == old) (y == q) (new == q) (among q ys) (among old ys) (λ e. ne_eqb y q (λ f. differ (sym (eqb-true y old e) ∙ f)))

own_step : (n l olds : Bool) → ((if n then l else n) || (olds && l)) ≡ ((n || olds) && l)
own_step true true olds = refl
own_step true false true = refl
own_step true false false = refl
own_step false l olds = refl

among_itself : (old new : ℕ) (ys : List ℕ) → among old (map (renamed old new) ys) ≡ (among old ys && (new == old))
among_itself old new [] = refl
among_itself old new (y ∷ ys) =
    ap (λ b. b || among old (map (renamed old new) ys)) (renamed_is old old new y (y == old) refl)
    ∙ ap (λ b. (if y == old then new == old else y == old) || b) (among_itself old new ys)
    ∙ own_step (y == old) (new == old) (among old ys)

-- a list without its last
each_front : {A : Type 0} (P : A → Type 0) (xs : List A) (x : A) → Each P (xs ++ x ∷ []) → Each P xs × P x
each_front P [] x h = (tt, h.0)
each_front P (y ∷ xs) x h = let rest = each_front P xs x h.1 in ((h.0, rest.0), rest.1)

pairs_front : {A : Type 0} (R : A → A → Type 0) (xs : List A) (x : A) → Pairs R (xs ++ x ∷ []) → Pairs R xs × Each (λ y. R y x) xs
pairs_front R [] x h = (tt, tt)
pairs_front R (y ∷ xs) x h =
    let first = each_front (R y) xs x h.0 in
    let rest = pairs_front R xs x h.1 in
    ((first.0, rest.0), (first.1, rest.1))

-- a member leaves, and the last one, that stands apart, takes its place
record Parted (name : ℕ) (xs : List ℕ) : Type 0 where
  front : List ℕ
  last : ℕ
  whole : xs ≡ front ++ last ∷ []
  left : left_by name xs ≡ map (renamed name last) front
  differ : Differ front
  apart : Each (λ y. y ≢ last) front

parted : (name : ℕ) (xs : List ℕ) → 1 ≤ length xs → Differ xs → Parted name xs
parted name xs some differ =
    let whole = ends_in xs some in
    let parts = pairs_front (λ a b. a ≢ b) (take (length xs - 1) xs) (last_of xs) (subst Differ whole differ) in
    record {
      front = take (length xs - 1) xs;
      last = last_of xs;
      whole = whole;
      left = take-map (renamed name (last_of xs)) (length xs - 1) xs;
      differ = parts.0;
      apart = parts.1;
    }

was_among : (name : ℕ) (xs : List ℕ) (p : Parted name xs) (q : ℕ) → among q xs ≡ (among q p.front || (p.last == q))
was_among name xs p q = ap (among q) p.whole ∙ any_push (λ m. m == q) p.front p.last

-- n: the leaver stands before the last, k: it is the last, l: the last is sought
last_counts : (a n k l : Bool) → (n || k) ≡ true → (l ≡ true → k ≡ false) → (a || (n && l)) ≡ (a || l)
last_counts true n k l h f = refl
last_counts false true k l h f = refl
last_counts false false k false h f = refl
last_counts false false k true h f = absurd (both_ways k (f refl) h)

pub left_others : (name : ℕ) (xs : List ℕ) (q : ℕ) → 1 ≤ length xs → Differ xs → among name xs ≡ true → name ≢ q → among q (left_by name xs) ≡ among q xs
left_others name xs q some differ member other =
    let p = parted name xs some differ in
    let there : (among name p.front || (p.last == name)) ≡ true = sym (was_among name xs p name) ∙ member in
    ap (among q) p.left ∙ among_others q name p.last p.front other
    ∙ last_counts (among q p.front) (among name p.front) (p.last == name) (p.last == q) there (λ e. ne_eqb p.last name (λ f. other (sym f ∙ eqb-true p.last q e)))
    ∙ sym (was_among name xs p q)

not_both : (n l : Bool) → (l ≡ true → n ≡ false) → (n && l) ≡ false
not_both n true h = rw (h refl) refl
not_both true false h = refl
not_both false false h = refl

pub left_itself : (name : ℕ) (xs : List ℕ) → 1 ≤ length xs → Differ xs → among name (left_by name xs) ≡ false
left_itself name xs some differ =
    let p = parted name xs some differ in
    ap (among name) p.left ∙ among_itself name p.last p.front
    ∙ not_both (among name p.front) (p.last == name)
    (λ e. none_any (λ m. m == name) p.front (each_weaken (λ y. y ≢ p.last) (λ y. (y == name) ≡ false) p.front (λ y apart. ne_eqb y name (λ f. apart (f ∙ sym (eqb-true p.last name e)))) p.apart))

renamed_apart : (name last x y : ℕ) (b c : Bool) → (x == name) ≡ b → (y == name) ≡ c → x ≢ y → x ≢ last → y ≢ last → renamed name last x ≢ renamed name last y
renamed_apart name last x y true true e f differ p q = λ same. differ (eqb-true x name e ∙ sym (eqb-true y name f))
renamed_apart name last x y true false e f differ p q = λ same. q (sym (rw (e, f) at same))
renamed_apart name last x y false true e f differ p q = λ same. p (rw (e, f) at same)
renamed_apart name last x y false false e f differ p q = λ same. differ (rw (e, f) at same)

pub left_differ : (name : ℕ) (xs : List ℕ) → 1 ≤ length xs → Differ xs → Differ (left_by name xs)
left_differ name xs some differ =
    let p = parted name xs some differ in
    let Away : ℕ → Type 0 = λ y. y ≢ p.last in
    subst Differ (sym p.left)
    (pairs_map (λ a b. a ≢ b) (renamed name p.last) p.front
    (pairs_weaken (λ x y. (x ≢ y) × (Away x × Away y)) (λ x y. renamed name p.last x ≢ renamed name p.last y) p.front
    (λ x y h. renamed_apart name p.last x y (x == name) (y == name) refl refl h.0 h.1.0 h.1.1)
    (pairs_both (λ x y. x ≢ y) (λ x y. Away x × Away y) p.front p.differ (pairs_of_each Away p.front p.apart))))

-- what holds of the names holds of those that are left
pub each_left : (P : ℕ → Type 0) (name : ℕ) (xs : List ℕ) → 1 ≤ length xs → Differ xs → Each P xs → Each P (left_by name xs)
each_left P name xs some differ each =
    let p = parted name xs some differ in
    let parts = each_front P p.front p.last (subst (Each P) p.whole each) in
    subst (Each P) (sym p.left)
    (each_map P (renamed name p.last) p.front (each_weaken P (λ y. P (renamed name p.last y)) p.front (λ y q. cond_both (y == name) p.last y P (λ _. parts.1) (λ _. q)) parts.0))

pub left_length : (name : ℕ) (xs : List ℕ) → length (left_by name xs) ≤ length xs
left_length name xs = simp (length-take, length-map) (omega arith)
