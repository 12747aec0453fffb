-- How counts change with a list, and what a count of 0 rules out.
use Rattle.std.proofs.Common.{◌≡◌, ℕ, ◌+◌, Bool, true, false, cond, ◌&&◌, ◌||◌, List, [], ◌∷◌, ◌++◌, find, Some, None, ◌⊎◌, inl, inr, ⊎_elim, arith, refl, ap}
use Rattle.std.specs.Prelude.{count_by}
use Rattle.std.proofs.lemmas.Bool.{cases_Bool, true≢false, or_cases, or_left}
use Rattle.std.proofs.lemmas.List.Sums.{sum_by-cons, sum_by_push}
use Rattle.list_words.proofs.EachLemmas.{some_same}
use Rattle.bind_buckets.specs.First.{change_first, drop_first}

abbrev pub one_if : Bool → ℕ
one_if b = cond b 1 0

count_cons : {A : Type 0} (q : A → Bool) (x : A) (xs : List A) → count_by q (x ∷ xs) ≡ one_if (q x) + count_by q xs
count_cons q x xs = sum_by-cons (λ y. one_if (q y)) x xs

pub count_come : {A : Type 0} (q : A → Bool) (xs : List A) (x : A) → count_by q (xs ++ x ∷ []) ≡ count_by q xs + one_if (q x)
count_come q xs x = sum_by_push (λ y. one_if (q y)) xs x

drops_here : {A : Type 0} (is : A → Bool) (x : A) (xs : List A) → is x ≡ true → drop_first is (x ∷ xs) ≡ xs
drops_here is x xs e = rw e refl

drops_later : {A : Type 0} (is : A → Bool) (x : A) (xs : List A) → is x ≡ false → drop_first is (x ∷ xs) ≡ x ∷ drop_first is xs
drops_later is x xs e = rw e refl

changes_here : {A : Type 0} (is : A → Bool) (f : A → A) (x : A) (xs : List A) → is x ≡ true → change_first is f (x ∷ xs) ≡ f x ∷ xs
changes_here is f x xs e = rw e refl

changes_later : {A : Type 0} (is : A → Bool) (f : A → A) (x : A) (xs : List A) → is x ≡ false → change_first is f (x ∷ xs) ≡ x ∷ change_first is f xs
changes_later is f x xs e = rw e refl

go_case : {A : Type 0} (is q : A → Bool) (x : A) (xs : List A) (o : A) → (is x ≡ true) ⊎ (is x ≡ false) → (find is xs ≡ Some o → count_by q xs ≡ count_by q (drop_first is xs) + one_if (q o)) → find is (x ∷ xs) ≡ Some o → count_by q (x ∷ xs) ≡ count_by q (drop_first is (x ∷ xs)) + one_if (q o)
go_case is q x xs o (inl e) next h =
    omega (arith, count_cons q x xs, ap (count_by q) (drops_here is x xs e), ap (λ y. one_if (q y)) (some_same x o (rw e at h)))
go_case is q x xs o (inr e) next h =
    omega (arith, count_cons q x xs, ap (count_by q) (drops_later is x xs e), count_cons q x (drop_first is xs), next (rw e at h))

pub count_go : {A : Type 0} (is q : A → Bool) (xs : List A) (o : A) → find is xs ≡ Some o → count_by q xs ≡ count_by q (drop_first is xs) + one_if (q o)
count_go is q [] o h = absurd (cc)
count_go is q (x ∷ xs) o h = go_case is q x xs o (cases_Bool (is x)) (count_go is q xs o) h

change_case : {A : Type 0} (is q : A → Bool) (f : A → A) (x : A) (xs : List A) (o : A) → (is x ≡ true) ⊎ (is x ≡ false) → (find is xs ≡ Some o → count_by q (change_first is f xs) ≡ count_by q (drop_first is xs) + one_if (q (f o))) → find is (x ∷ xs) ≡ Some o → count_by q (change_first is f (x ∷ xs)) ≡ count_by q (drop_first is (x ∷ xs)) + one_if (q (f o))
change_case is q f x xs o (inl e) next h =
    omega (arith, ap (count_by q) (changes_here is f x xs e), ap (count_by q) (drops_here is x xs e), count_cons q (f x) xs, ap (λ y. one_if (q (f y))) (some_same x o (rw e at h)))
change_case is q f x xs o (inr e) next h =
    omega (arith, ap (count_by q) (changes_later is f x xs e), ap (count_by q) (drops_later is x xs e), count_cons q x (change_first is f xs), count_cons q x (drop_first is xs), next (rw e at h))

count_change : {A : Type 0} (is q : A → Bool) (f : A → A) (xs : List A) (o : A) → find is xs ≡ Some o → count_by q (change_first is f xs) ≡ count_by q (drop_first is xs) + one_if (q (f o))
count_change is q f [] o h = absurd (cc)
count_change is q f (x ∷ xs) o h = change_case is q f x xs o (cases_Bool (is x)) (count_change is q f xs o) h

-- where one changes, as many are counted as where it goes and comes
pub count_anew : {A : Type 0} (is q : A → Bool) (f : A → A) (xs : List A) (o y : A) → find is xs ≡ Some o → f o ≡ y → count_by q (drop_first is xs ++ y ∷ []) ≡ count_by q (change_first is f xs)
count_anew is q f xs o y h e =
    omega (arith, count_come q (drop_first is xs) y, count_change is q f xs o h, ap (λ z. one_if (q z)) e)

-- where one changes that passes as it did before, as many pass
pub count_kept : {A : Type 0} (is q : A → Bool) (f : A → A) (xs : List A) (o y : A) → find is xs ≡ Some o → f o ≡ y → q o ≡ q y → count_by q xs ≡ count_by q (change_first is f xs)
count_kept is q f xs o y h e same =
    omega (arith, count_go is q xs o h, count_change is q f xs o h, ap (λ z. one_if (q z)) e, ap one_if same)

uncounted : (b : Bool) → one_if b ≡ 0 → b ≡ false
uncounted true e = absurd (omega arith)
uncounted false e = refl

-- what is counted nowhere is nowhere
pub none_counted : {A : Type 0} (q r : A → Bool) (xs : List A) → ((x : A) → q x ≡ false → r x ≡ false) → count_by q xs ≡ 0 → find r xs ≡ None
none_counted q r [] h e = refl
none_counted q r (x ∷ xs) h e =
    let parts = count_cons q x xs in
    rw (h x (uncounted (q x) (omega (arith, parts)))) (none_counted q r xs h (omega (arith, parts)))

pub counted_less : {A : Type 0} (q r : A → Bool) (xs : List A) → ((x : A) → q x ≡ false → r x ≡ false) → count_by q xs ≡ 0 → count_by r xs ≡ 0
counted_less q r [] h e = refl
counted_less q r (x ∷ xs) h e =
    let parts = count_cons q x xs in
    let first = ap one_if (h x (uncounted (q x) (omega (arith, parts)))) in
    omega (arith, count_cons r x xs, first, counted_less q r xs h (omega (arith, parts)))

left_case : {A : Type 0} (is r : A → Bool) (x : A) (xs : List A) → (is x ≡ true) ⊎ (is x ≡ false) → r x ≡ false → find r xs ≡ None → find r (drop_first is xs) ≡ None → find r (drop_first is (x ∷ xs)) ≡ None
left_case is r x xs (inl e) first rest next = rw e rest
left_case is r x xs (inr e) first rest next = rw (e, first) next

fails_first : {A : Type 0} (r : A → Bool) (x : A) (xs : List A) → (r x ≡ true) ⊎ (r x ≡ false) → find r (x ∷ xs) ≡ None → (r x ≡ false) × (find r xs ≡ None)
fails_first r x xs (inl e) h = absurd (let k = rw e at h in cc)
fails_first r x xs (inr e) h = (e, rw e at h)

-- what none of all passes none of those that are left passes
pub none_left : {A : Type 0} (is r : A → Bool) (xs : List A) → find r xs ≡ None → find r (drop_first is xs) ≡ None
none_left is r [] h = refl
none_left is r (x ∷ xs) h =
    let parts = fails_first r x xs (cases_Bool (r x)) h in
    left_case is r x xs (cases_Bool (is x)) parts.0 parts.1 (none_left is r xs parts.1)

-- where all that pass pass one test more, or one of two, none passes where none passes with those
where_case : {A : Type 0} (f g r : A → Bool) (x : A) (xs : List A) → (r x ≡ true) ⊎ (r x ≡ false) → (r x ≡ true → (f x || g x) ≡ true) → (f x && r x) ≡ false → (g x && r x) ≡ false → find r xs ≡ None → find r (x ∷ xs) ≡ None
where_case f g r x xs (inl e) either left right rest = absurd (⊎_elim (λ (p : f x ≡ true). true≢false (rw (p, e) at left)) (λ (p : g x ≡ true). true≢false (rw (p, e) at right)) (or_cases (f x) (g x) (either e)))
where_case f g r x xs (inr e) either left right rest = rw e rest

pub none_of_both : {A : Type 0} (f g r : A → Bool) (xs : List A) → ((x : A) → r x ≡ true → (f x || g x) ≡ true) → find (λ x. f x && r x) xs ≡ None → find (λ x. g x && r x) xs ≡ None → find r xs ≡ None
none_of_both f g r [] either left right = refl
none_of_both f g r (x ∷ xs) either left right =
    let first = fails_first (λ y. f y && r y) x xs (cases_Bool (f x && r x)) left in
    let second = fails_first (λ y. g y && r y) x xs (cases_Bool (g x && r x)) right in
    where_case f g r x xs (cases_Bool (r x)) (either x) first.0 second.0 (none_of_both f g r xs either first.1 second.1)

pub none_where : {A : Type 0} (f r : A → Bool) (xs : List A) → ((x : A) → r x ≡ true → f x ≡ true) → find (λ x. f x && r x) xs ≡ None → find r xs ≡ None
none_where f r xs all none = none_of_both f f r xs (λ x p. or_left (f x) (f x) (all x p)) none none
