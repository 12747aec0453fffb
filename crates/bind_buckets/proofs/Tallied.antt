-- What tallies count as owners come, go and change.
use Rattle.std.proofs.Common.{◌≡◌, ℕ, ◌-◌, ◌<◌, ◌≤◌, Bool, true, false, cond, eqb, ◌&&◌, List, [], ◌∷◌, ◌++◌, length, ltb, set, get_or, take, replicate, find, Some, ◌⊎◌, inl, inr, arith, refl, ap, sym, subst, ◌∙◌}
use Rattle.std.specs.Prelude.{count_by}
use Rattle.std.proofs.lemmas.Bool.Decides.{nat_tests}
use Rattle.std.proofs.lemmas.Bool.{cases_eq, cases_lt, eqb-true, ne_eqb, eq-eqb, and_left}
use Rattle.std.proofs.lemmas.List.{get_or-set_same, get_or-set_other, get_or-replicate, get_or_past, get_or_append_left, get_or-append_right, length-set, length-append, length-replicate, take_all}
use Rattle.sock_card.specs.declared.owner.Owner.{Owner}
use Rattle.bind_buckets.specs.declared.tally.Tally.{Tally}
use Rattle.bind_buckets.specs.declared.tally.Spot.{Spot}
use Rattle.bind_buckets.specs.First.{change_first, drop_first}
use Rattle.bind_buckets.specs.Tally.{Counts, CountAlike, IsTallyOf, IsCount, count_limit, more, less, AreMade, is_made, tally_at, has_place, empty_tally, spot_of, is_exclusive, is_unshared}
use Rattle.bind_buckets.proofs.Counted.{one_if, count_come, count_go, count_anew, count_kept, counted_less}

pub counts_here : (x y z : Bool) → x ≡ true → z ≡ y → (x && y) ≡ z
counts_here x y z e f = rw e (sym f)

-- a count of 0 is of none
pub none_of : (count many : ℕ) → count ≡ 0 → IsCount count many → many ≡ 0
none_of count many e is = sym (is (omega (arith, e))) ∙ e

pub more_counts : (q : Owner → Bool) (owners : List Owner) (a : Owner) (n r : ℕ) (c : Bool) → q a ≡ c → r ≡ more n c → IsCount n (count_by q owners) → IsCount r (count_by q (owners ++ a ∷ []))
more_counts q owners a n r c e step is = λ below.
    let few : n < count_limit = omega (arith, below, step) in
    omega (arith, below, step, is few, count_come q owners a, ap one_if e)

below_case : (b : Bool) (n k r : ℕ) → b ≡ ltb n count_limit → r ≡ cond b (n - k) n → r < count_limit → (n < count_limit) × (r ≡ n - k)
below_case true n k r e step below = (grind (arith, nat_tests), step)
below_case false n k r e step below = absurd (grind (arith, nat_tests))

pub less_counts : (q is : Owner → Bool) (owners : List Owner) (a : Owner) (n r : ℕ) (c : Bool) → q a ≡ c → find is owners ≡ Some a → r ≡ less n c → IsCount n (count_by q owners) → IsCount r (count_by q (drop_first is owners))
less_counts q is owners a n r c e found step is_count = λ below.
    let fewer = below_case _ n (cond c 1 0) r refl step below in
    omega (arith, is_count fewer.0, fewer.1, count_go is q owners a found, ap one_if e)

unshared_case : (at has_mark : Owner → Bool) (t : Tally) (owners : List Owner) (uid user : ℕ) (b : Bool) → eqb t.owners 0 ≡ b → user ≡ cond b uid t.uid → Counts at has_mark t owners → IsCount t.unshared (count_by (λ a. at a && is_unshared user a) owners)
unshared_case at has_mark t owners uid user true none e k = λ below.
    let nobody = none_of t.owners (count_by at owners) (eqb-true t.owners 0 none) k.owners in
    k.unshared below
    ∙ counted_less at (λ a. at a && is_unshared t.uid a) owners (λ a out. and_left (at a) (is_unshared t.uid a) out) nobody
    ∙ sym (counted_less at (λ a. at a && is_unshared user a) owners (λ a out. and_left (at a) (is_unshared user a) out) nobody)
unshared_case at has_mark t owners uid user false some e k = rw e k.unshared

-- as many are unshared, whoever comes first to an empty place
pub unshared_with : (at has_mark : Owner → Bool) (t : Tally) (owners : List Owner) (uid user : ℕ) → user ≡ cond (eqb t.owners 0) uid t.uid → Counts at has_mark t owners → IsCount t.unshared (count_by (λ a. at a && is_unshared user a) owners)
unshared_with at has_mark t owners uid user e k = unshared_case at has_mark t owners uid user (eqb t.owners 0) refl e k

-- counts follow where every test counts as many
recount : (at has_mark : Owner → Bool) (t : Tally) (xs ys : List Owner) → ((q : Owner → Bool) → count_by q xs ≡ count_by q ys) → Counts at has_mark t xs → Counts at has_mark t ys
recount at has_mark t xs ys same k =
    record {
      owners = λ below. k.owners below ∙ same at;
      exclusive = λ below. k.exclusive below ∙ same (λ a. at a && is_exclusive a);
      unshared = λ below. k.unshared below ∙ same (λ a. at a && is_unshared t.uid a);
      marked = λ below. k.marked below ∙ same (λ a. at a && has_mark a);
    }

-- counts of others stay, where one comes or goes that they don't count
elsewhere : (at has_mark : Owner → Bool) (t : Tally) (a : Owner) (xs ys : List Owner) → at a ≡ false → ((q : Owner → Bool) → q a ≡ false → count_by q xs ≡ count_by q ys) → Counts at has_mark t xs → Counts at has_mark t ys
elsewhere at has_mark t a xs ys out same k =
    record {
      owners = λ below. k.owners below ∙ same at out;
      exclusive = λ below. k.exclusive below ∙ same (λ b. at b && is_exclusive b) (and_left (at a) (is_exclusive a) out);
      unshared = λ below. k.unshared below ∙ same (λ b. at b && is_unshared t.uid b) (and_left (at a) (is_unshared t.uid a) out);
      marked = λ below. k.marked below ∙ same (λ b. at b && has_mark b) (and_left (at a) (has_mark a) out);
    }

counts_at : (p : Owner → ℕ) (m : Owner → Bool) (ts : List Tally) (a : Owner) (r : Tally) (xs ys : List Owner) (k : ℕ) → p a < length ts → Counts (has_place p (p a)) m r ys → ((q : Owner → Bool) → q a ≡ false → count_by q xs ≡ count_by q ys) → IsTallyOf p m ts xs
    → (k ≡ p a) ⊎ (k ≡ p a → ⊥) → Counts (has_place p k) m (tally_at (set ts (p a) r) k) ys
counts_at p m ts a r xs ys k within here same tallied (inl e) =
    rw (e, get_or-set_same ts (p a) r empty_tally within) here
counts_at p m ts a r xs ys k within here same tallied (inr other) =
    rw (get_or-set_other ts (p a) k r empty_tally other)
    (elsewhere (has_place p k) m (tally_at ts k) a xs ys (ne_eqb _ _ (λ e. other (sym e))) same (tallied.counts k))

put_tallied : (p : Owner → ℕ) (m : Owner → Bool) (ts : List Tally) (a : Owner) (r : Tally) (xs ys : List Owner) → AreMade ts → p a < 256 → Counts (has_place p (p a)) m r ys → ((q : Owner → Bool) → q a ≡ false → count_by q xs ≡ count_by q ys) → IsTallyOf p m ts xs → IsTallyOf p m (set ts (p a) r) ys
put_tallied p m ts a r xs ys made within here same tallied =
    record {
      made = λ _. rw length-set made;
      counts = λ k. counts_at p m ts a r xs ys k (omega (arith, made, within)) here same tallied (cases_eq k (p a));
    }

pub made_if : (ts : List Tally) → is_made ts ≡ true → AreMade ts
made_if ts e = grind (arith, nat_tests)

-- a tally that counts one owner more, or less
abbrev pub CountsMore : Owner → Bool → Tally → Tally → Type 0
CountsMore a marked t r = (at has_mark : Owner → Bool) (owners : List Owner) → at a ≡ true → has_mark a ≡ marked → Counts at has_mark t owners → Counts at has_mark r (owners ++ a ∷ [])

abbrev pub CountsLess : Owner → Bool → Tally → Tally → Type 0
CountsLess a marked t r = (at has_mark is : Owner → Bool) (owners : List Owner) → at a ≡ true → has_mark a ≡ marked → find is owners ≡ Some a → Counts at has_mark t owners → Counts at has_mark r (drop_first is owners)

uncounted_more : (q : Owner → Bool) (owners : List Owner) (a : Owner) → q a ≡ false → count_by q owners ≡ count_by q (owners ++ a ∷ [])
uncounted_more q owners a out = omega (arith, count_come q owners a, ap one_if out)

uncounted_less : (q is : Owner → Bool) (owners : List Owner) (a : Owner) → find is owners ≡ Some a → q a ≡ false → count_by q owners ≡ count_by q (drop_first is owners)
uncounted_less q is owners a found out = omega (arith, count_go is q owners a found, ap one_if out)

own_place : (p : Owner → ℕ) (a : Owner) → has_place p (p a) a ≡ true
own_place p a = eq-eqb _ _ refl

pub come_tallied : (p : Owner → ℕ) (m : Owner → Bool) (ts : List Tally) (a : Owner) (r : Tally) (spot : Spot) (owners : List Owner) → spot_of p m a ≡ spot → spot.place < 256 → AreMade ts → CountsMore a spot.marked (tally_at ts spot.place) r → IsTallyOf p m ts owners → IsTallyOf p m (set ts spot.place r) (owners ++ a ∷ [])
come_tallied p m ts a r spot owners at within made step tallied =
    rw (← at)
    (put_tallied p m ts a r owners (owners ++ a ∷ []) made (subst (λ (s : Spot). s.place < 256) (sym at) within)
    (rw (← at) at step _ m owners (own_place p a) refl (tallied.counts (p a)))
    (λ q out. uncounted_more q owners a out) tallied)

some_there : (is : Owner → Bool) (owners : List Owner) (a : Owner) → find is owners ≡ Some a → 0 < length owners
some_there is [] a h = absurd (cc)
some_there is (b ∷ owners) a h = omega arith

pub go_tallied : (p : Owner → ℕ) (m : Owner → Bool) (ts : List Tally) (a : Owner) (r : Tally) (spot : Spot) (is : Owner → Bool) (owners : List Owner) → spot_of p m a ≡ spot → spot.place < 256 → CountsLess a spot.marked (tally_at ts spot.place) r → find is owners ≡ Some a → IsTallyOf p m ts owners → IsTallyOf p m (set ts spot.place r) (drop_first is owners)
go_tallied p m ts a r spot is owners at within step found tallied =
    rw (← at)
    (put_tallied p m ts a r owners (drop_first is owners) (tallied.made (some_there is owners a found)) (subst (λ (s : Spot). s.place < 256) (sym at) within)
    (rw (← at) at step _ m is owners (own_place p a) refl found (tallied.counts (p a)))
    (λ q out. uncounted_less q is owners a found out) tallied)

pub change_tallied : (p : Owner → ℕ) (m : Owner → Bool) (ts : List Tally) (was a : Owner) (r s : Tally) (from spot : Spot) (is : Owner → Bool) (become : Owner → Owner) (owners : List Owner) → spot_of p m was ≡ from → from.place < 256 → spot_of p m a ≡ spot → spot.place < 256
    → CountsLess was from.marked (tally_at ts from.place) r → CountsMore a spot.marked (tally_at (set ts from.place r) spot.place) s
    → find is owners ≡ Some was → become was ≡ a → IsTallyOf p m ts owners → IsTallyOf p m (set (set ts from.place r) spot.place s) (change_first is become owners)
change_tallied p m ts was a r s from spot is become owners was_at was_within at within gone come found e tallied =
    let made : AreMade (set ts from.place r) = rw length-set (tallied.made (some_there is owners was found)) in
    let rest = go_tallied p m ts was r from is owners was_at was_within gone found tallied in
    let back = come_tallied p m (set ts from.place r) a s spot (drop_first is owners) at within made come rest in
    record {
      made = λ _. rw length-set made;
      counts = λ k. recount (has_place p k) m (tally_at (set (set ts from.place r) spot.place s) k) (drop_first is owners ++ a ∷ []) (change_first is become owners) (λ q. count_anew is q become owners was a found e) (back.counts k);
    }

-- where one changes that counts alike before and after, all counts stay
both_same : {x y z w : Bool} → x ≡ z → y ≡ w → (x && y) ≡ (z && w)
both_same e f = cc

unshared_same : (uid : ℕ) (was a : Owner) → CountAlike was a → is_unshared uid was ≡ is_unshared uid a
unshared_same uid was a alike = let port = alike.reuseport in let user = alike.uid in cc

alike_counts : (p : Owner → ℕ) (m : Owner → Bool) (k : ℕ) (t : Tally) (was a : Owner) (xs ys : List Owner) → p was ≡ p a → m was ≡ m a → CountAlike was a → ((q : Owner → Bool) → q was ≡ q a → count_by q xs ≡ count_by q ys) → Counts (has_place p k) m t xs → Counts (has_place p k) m t ys
alike_counts p m k t was a xs ys place mark alike same c =
    let here = ap (λ n. eqb n k) place in
    record {
      owners = λ below. c.owners below ∙ same (has_place p k) here;
      exclusive = λ below. c.exclusive below ∙ same (λ b. has_place p k b && is_exclusive b) (both_same here alike.exclusive);
      unshared = λ below. c.unshared below ∙ same (λ b. has_place p k b && is_unshared t.uid b) (both_same here (unshared_same t.uid was a alike));
      marked = λ below. c.marked below ∙ same (λ b. has_place p k b && m b) (both_same here mark);
    }

pub alike_tallied : (p : Owner → ℕ) (m : Owner → Bool) (ts : List Tally) (was a : Owner) (is : Owner → Bool) (become : Owner → Owner) (owners : List Owner) → spot_of p m was ≡ spot_of p m a → CountAlike was a
    → find is owners ≡ Some was → become was ≡ a → IsTallyOf p m ts owners → IsTallyOf p m ts (change_first is become owners)
alike_tallied p m ts was a is become owners spots alike found e tallied =
    record {
      made = λ _. tallied.made (some_there is owners was found);
      counts = λ k. alike_counts p m k (tally_at ts k) was a owners (change_first is become owners) (ap (λ (s : Spot). s.place) spots) (ap (λ (s : Spot). s.marked) spots) alike (λ q same. count_kept is q become owners was a found e same) (tallied.counts k);
    }

past_end : (n k : ℕ) → (k < n) ⊎ (n ≤ k) → get_or (replicate n empty_tally) k empty_tally ≡ empty_tally
past_end n k (inl h) = get_or-replicate n k empty_tally empty_tally h
past_end n k (inr h) = get_or_past (replicate n empty_tally) k empty_tally (rw length-replicate h)

same_tally : (xs : List Tally) (n k : ℕ) → (k < length xs) ⊎ (length xs ≤ k) → get_or (xs ++ replicate n empty_tally) k empty_tally ≡ get_or xs k empty_tally
same_tally xs n k (inl h) = get_or_append_left xs (replicate n empty_tally) empty_tally k h
same_tally xs n k (inr h) =
    get_or-append_right xs (replicate n empty_tally) (length xs) k empty_tally refl h
    ∙ past_end n (k - length xs) (cases_lt (k - length xs) n) ∙ sym (get_or_past xs k empty_tally h)

-- the tallies that come with the memory are empty
pub reserve_tallied : (p : Owner → ℕ) (m : Owner → Bool) (ts us : List Tally) (n : ℕ) (owners : List Owner) → n ≡ length ts → n < 256 → us ≡ take 256 ts ++ replicate (256 - n) empty_tally → IsTallyOf p m ts owners → IsTallyOf p m us owners
reserve_tallied p m ts us n owners len less items tallied =
    let all = take_all 256 ts (omega (arith, len, less)) in
    let longer : us ≡ ts ++ replicate (256 - n) empty_tally = rw all at items in
    record {
      made = λ _. rw (longer, length-append, length-replicate) (omega (arith, len, less));
      counts = λ k. rw (longer, same_tally ts (256 - n) k (cases_lt k (length ts))) (tallied.counts k);
    }
