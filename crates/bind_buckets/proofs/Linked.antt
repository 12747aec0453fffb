-- The first and the last items that pass, where the end moves by one; and the links between places of one home.
use Rattle.std.proofs.Common.{◌≡◌, ℕ, ◌+◌, ◌%◌, ◌<◌, ◌≤◌, Bool, true, false, eqb, List, [], ◌∷◌, ◌++◌, length, get_or, Option, Some, None, refl, sym, ◌∙◌, ap, subst, arith, ⊎_elim}
use Rattle.std.proofs.Math.ListN.{set}
use Rattle.std.proofs.lemmas.Bool.{eqb-true, eqb-false, eq-eqb, cases_lt}
use Rattle.std.proofs.lemmas.List.{get_or_append_left, get_or_default, map-append, length-set, length-map, get_or-set_same, get_or-set_other}
use Rattle.bind_buckets.specs.declared.links.Place.{Place}
use Rattle.bind_buckets.specs.declared.links.Ends.{Ends}
use Rattle.bind_buckets.specs.Links.{place_or_end, IsFirstIn, IsLastIn, is_home, keys_in, newers_in, no_ends, ends_with, home_at, most_places, AreLinked, AreInHomes}

pub false_ne_true : false ≡ true → ⊥
false_ne_true e = absurd (cc)

some_ne_none : (p : ℕ) → Some p ≡ None → ⊥
some_ne_none p e = absurd (cc)

module _ {A : Type 0} (is : A → Bool) (items : List A) where
  first_stays : (from k p : ℕ) → IsFirstIn is items from k (Some p) → IsFirstIn is items from (k + 1) (Some p)
  first_stays from k p first =
      record {
        reaches = first.reaches;
        within = λ place e. let lt = first.within place e in omega arith;
        passes = first.passes;
        fails = first.fails;
      }

  none_yet : (from k : ℕ) → IsFirstIn is items from k None → ((d : A) → is (get_or items k d) ≡ false) → IsFirstIn is items from (k + 1) None
  none_yet from k first failing =
      record {
        reaches = let r = first.reaches in omega arith;
        within = λ place e. absurd (cc);
        passes = λ place d e. absurd (cc);
        fails = λ j d above below.
            ⊎_elim (λ lt. first.fails j d above lt)
            (λ ge. let same : k ≡ j = omega arith in subst (λ i. is (get_or items i d) ≡ false) same (failing d))
            (cases_lt j k);
      }

  pub first_found : (from k : ℕ) → IsFirstIn is items from k None → ((d : A) → is (get_or items k d) ≡ true) → IsFirstIn is items from (k + 1) (Some k)
  first_found from k first passing =
      record {
        reaches = first.reaches;
        within = λ place e. let same : k ≡ place = cc in omega arith;
        passes = λ place d e. let same : k ≡ place = cc in subst (λ i. is (get_or items i d) ≡ true) same (passing d);
        fails = first.fails;
      }

  -- the item at the end doesn't pass
  pub first_goes_on : (from k : ℕ) (first : Option ℕ) → IsFirstIn is items from k first → ((d : A) → is (get_or items k d) ≡ false) → IsFirstIn is items from (k + 1) first
  first_goes_on from k None first failing = none_yet from k first failing
  first_goes_on from k (Some p) first failing = first_stays from k p first

  pub last_goes_on : (k : ℕ) (last : Option ℕ) → IsLastIn is items k last → ((d : A) → is (get_or items k d) ≡ false) → IsLastIn is items (k + 1) last
  last_goes_on k last h failing =
      record {
        within = λ place e. let lt = h.within place e in omega arith;
        passes = h.passes;
        fails = λ j d above below.
            ⊎_elim (λ lt. h.fails j d above lt)
            (λ ge. let same : k ≡ j = omega arith in subst (λ i. is (get_or items i d) ≡ false) same (failing d))
            (cases_lt j k);
      }

  pub last_found : (k : ℕ) → ((d : A) → is (get_or items k d) ≡ true) → IsLastIn is items (k + 1) (Some k)
  last_found k passing =
      record {
        within = λ place e. let same : k ≡ place = cc in omega arith;
        passes = λ place d e. let same : k ≡ place = cc in subst (λ i. is (get_or items i d) ≡ true) same (passing d);
        fails = λ j d above below. absurd (omega arith);
      }

  -- what is first behind the last that passes
  behind_last : (k q : ℕ) (next : Option ℕ) (d : A) → IsLastIn is items k (Some q) → IsFirstIn is items (q + 1) k next → next ≡ None
  behind_last k q None d last first = refl
  behind_last k q (Some r) d last first =
      absurd (let above = first.reaches in let below = first.within r refl in let t = first.passes r d refl in let f = last.fails r d above below in cc)

-- a place that is linked behind those before it
module _ (n : ℕ) (keys : List ℕ) (k : ℕ) where
  abbrev home : ℕ
  home = get_or keys k 0 % n

  module _ (within : k < length keys) where
    at_end : (h : ℕ) (b : Bool) → eqb home h ≡ b → (d : ℕ) → is_home n h (get_or keys k d) ≡ b
    at_end h b e d = ap (λ i. eqb (i % n) h) (get_or_default keys k d 0 within) ∙ e

    here : (d : ℕ) → is_home n home (get_or keys k d) ≡ true
    here = at_end home true (eq-eqb home home refl)

    -- no place of another home is changed by it
    first_elsewhere : (from h : ℕ) (first : Option ℕ) → eqb home h ≡ false → IsFirstIn (is_home n h) keys from k first → IsFirstIn (is_home n h) keys from (k + 1) first
    first_elsewhere from h first e are = first_goes_on (is_home n h) keys from k first are (at_end h false e)

    last_elsewhere : (h : ℕ) (last : Option ℕ) → eqb home h ≡ false → IsLastIn (is_home n h) keys k last → IsLastIn (is_home n h) keys (k + 1) last
    last_elsewhere h last e are = last_goes_on (is_home n h) keys k last are (at_end h false e)

    abbrev linked_in : List Ends → Ends → List Ends
    linked_in homes ends = set homes home (ends_with ends k)

    oldest_here : (h : ℕ) (oldest : Option ℕ) → eqb home h ≡ true → IsFirstIn (is_home n h) keys 0 k oldest → IsFirstIn (is_home n h) keys 0 (k + 1) (Some (place_or_end oldest k))
    oldest_here h None e first = first_found (is_home n h) keys 0 k first (at_end h true e)
    oldest_here h (Some oldest) e first = first_stays (is_home n h) keys 0 k oldest first

    last_here : (h : ℕ) → eqb home h ≡ true → IsLastIn (is_home n h) keys (k + 1) (Some k)
    last_here h e = last_found (is_home n h) keys k (at_end h true e)

    module _ (homes : List Ends) (len : length homes ≡ n) (some : 0 < n) (ends : Ends) (is : home_at homes home ≡ ends) where
      there : (h : ℕ) → eqb home h ≡ true → home_at (linked_in homes ends) h ≡ ends_with ends k
      there h e =
          let within : home < length homes = omega arith in
          subst (λ i. home_at (linked_in homes ends) i ≡ ends_with ends k) (eqb-true _ _ e)
          (get_or-set_same homes home (ends_with ends k) no_ends within)

      elsewhere : (h : ℕ) → eqb home h ≡ false → home_at (linked_in homes ends) h ≡ home_at homes h
      elsewhere h e = get_or-set_other homes home h _ no_ends (λ at. eqb-false _ _ e (sym at))

      oldest_by : (h : ℕ) (b : Bool) → eqb home h ≡ b → IsFirstIn (is_home n h) keys 0 k (home_at homes h).oldest → IsFirstIn (is_home n h) keys 0 (k + 1) (home_at (linked_in homes ends) h).oldest
      oldest_by h true e first =
          rw (there h e)
          (oldest_here h ends.oldest e (subst (λ (o : Ends). IsFirstIn (is_home n h) keys 0 k o.oldest) (ap (home_at homes) (sym (eqb-true _ _ e)) ∙ is) first))
      oldest_by h false e first = rw (elsewhere h e) (first_elsewhere 0 h _ e first)

      newest_by : (h : ℕ) (b : Bool) → eqb home h ≡ b → IsLastIn (is_home n h) keys k (home_at homes h).newest → IsLastIn (is_home n h) keys (k + 1) (home_at (linked_in homes ends) h).newest
      newest_by h true e last = rw (there h e) (last_here h e)
      newest_by h false e last = rw (elsewhere h e) (last_elsewhere h _ e last)

    -- the next of a home, once the place is linked behind what was the last of its home
    module _ (newers newers' : List (Option ℕ)) (last : Option ℕ) (last_is : IsLastIn (is_home n home) keys k last) (end : get_or newers' k None ≡ None) (behind : (q : ℕ) → last ≡ Some q → get_or newers' q None ≡ Some k) (others : (j : ℕ) → j < k → (last ≡ Some j → ⊥) → get_or newers' j None ≡ get_or newers j None) where
      -- a place of that home behind which there is none is the last
      only_last : (p q : ℕ) → IsLastIn (is_home n home) keys k (Some q) → p < k → get_or keys p 0 % n ≡ home → IsFirstIn (is_home n home) keys (p + 1) k None → q ≡ p
      only_last p q is_last lt at first =
          ⊎_elim
          (λ less. let above : p + 1 ≤ q = omega arith in absurd (false_ne_true (sym (first.fails q 0 above (is_last.within q refl)) ∙ is_last.passes q 0 refl)))
          (λ rest.
          ⊎_elim
          (λ more. let above : q + 1 ≤ p = omega arith in absurd (false_ne_true (sym (is_last.fails p 0 above lt) ∙ ap (λ i. eqb i home) at ∙ eq-eqb home home refl)))
          (λ le. let same : q ≡ p = omega arith in same)
          (cases_lt q p))
          (cases_lt p q)

      -- the next of a place of that home
      newer_here : (p : ℕ) (last' next : Option ℕ) → last ≡ last' → get_or newers p None ≡ next → p < k → get_or keys p 0 % n ≡ home → IsFirstIn (is_home n home) keys (p + 1) k next → IsFirstIn (is_home n home) keys (p + 1) (k + 1) (get_or newers' p None)
      newer_here p None next e m lt at first =
          let failing = (subst (IsLastIn (is_home n home) keys k) e last_is).fails p 0 (omega arith) lt in
          absurd (false_ne_true (sym failing ∙ ap (λ i. eqb i home) at ∙ eq-eqb home home refl))
      newer_here p (Some q) None e m lt at first =
          let is_last = subst (IsLastIn (is_home n home) keys k) e last_is in
          let same : q ≡ p = only_last p q is_last lt at first in
          rw (ap (λ j. get_or newers' j None) (sym same) ∙ behind q e)
          (first_found (is_home n home) keys (p + 1) k first here)
      newer_here p (Some q) (Some r) e m lt at first =
          let is_last = subst (IsLastIn (is_home n home) keys k) e last_is in
          let other : last ≡ Some p → ⊥ = λ same.
          some_ne_none _ (behind_last (is_home n home) keys k p (Some r) 0 (subst (IsLastIn (is_home n home) keys k) same last_is) first) in
          rw (others p lt other ∙ m) (first_stays (is_home n home) keys (p + 1) k r first)

      newer_elsewhere : (p : ℕ) → p < k → eqb home (get_or keys p 0 % n) ≡ false → IsFirstIn (is_home n (get_or keys p 0 % n)) keys (p + 1) k (get_or newers p None) → IsFirstIn (is_home n (get_or keys p 0 % n)) keys (p + 1) (k + 1) (get_or newers' p None)
      newer_elsewhere p lt away first =
          let other : last ≡ Some p → ⊥ = λ same. eqb-false _ _ away (sym (eqb-true _ _ (last_is.passes p 0 same))) in
          rw (others p lt other) (first_elsewhere (p + 1) (get_or keys p 0 % n) _ away first)

      newer_by : (p : ℕ) (b : Bool) → eqb home (get_or keys p 0 % n) ≡ b → p < k → IsFirstIn (is_home n (get_or keys p 0 % n)) keys (p + 1) k (get_or newers p None) → IsFirstIn (is_home n (get_or keys p 0 % n)) keys (p + 1) (k + 1) (get_or newers' p None)
      newer_by p true e lt first =
          let at : home ≡ get_or keys p 0 % n = eqb-true _ _ e in
          subst (λ h. IsFirstIn (is_home n h) keys (p + 1) (k + 1) (get_or newers' p None)) at
          (newer_here p last (get_or newers p None) refl refl lt (sym at)
          (subst (λ h. IsFirstIn (is_home n h) keys (p + 1) k (get_or newers p None)) (sym at) first))
      newer_by p false e lt first = newer_elsewhere p lt e first

      -- none is behind the place itself
      newer_at_end : IsFirstIn (is_home n home) keys (k + 1) (k + 1) (get_or newers' k None)
      newer_at_end =
          rw end
          (record {
            reaches = omega arith;
            within = λ place e. absurd (cc);
            passes = λ place d e. absurd (cc);
            fails = λ j d above below. absurd (omega arith);
          })

      newer_more : ((p : ℕ) → p < k → IsFirstIn (is_home n (get_or keys p 0 % n)) keys (p + 1) k (get_or newers p None)) → (p : ℕ) → p < k + 1 → IsFirstIn (is_home n (get_or keys p 0 % n)) keys (p + 1) (k + 1) (get_or newers' p None)
      newer_more are p lt =
          ⊎_elim (λ below. newer_by p (eqb home (get_or keys p 0 % n)) refl below (are p below))
          (λ ge. let same : k ≡ p = omega arith in subst (λ i. IsFirstIn (is_home n (get_or keys i 0 % n)) keys (i + 1) (k + 1) (get_or newers' i None)) same newer_at_end)
          (cases_lt p k)

abbrev key_of : Place → ℕ
key_of p = p.key

abbrev newer_of : Place → Option ℕ
newer_of p = p.newer

-- keys and links of places, once one is linked
module _ (places places' : List Place) (homes : List Ends) (k : ℕ) (within : k < length places) (some : 0 < length homes) (same : keys_in places' ≡ keys_in places) (linked : AreLinked places homes k) where
  abbrev keys : List ℕ
  keys = keys_in places

  abbrev many : ℕ
  many = length homes

  pub filed : k < length keys
  filed = let len = length-map places key_of in omega arith

  pub linked_more : (ends : Ends) → home_at homes (get_or keys k 0 % many) ≡ ends → get_or (newers_in places') k None ≡ None → ((q : ℕ) → ends.newest ≡ Some q → get_or (newers_in places') q None ≡ Some k) → ((j : ℕ) → j < k → (ends.newest ≡ Some j → ⊥) → get_or (newers_in places') j None ≡ get_or (newers_in places) j None) → AreLinked places' (linked_in many keys k filed homes ends) (k + 1)
  linked_more ends is end behind others =
      let at_home : get_or keys k 0 % many < many = omega arith in
      let last_is = subst (λ (e : Ends). IsLastIn (is_home many (get_or keys k 0 % many)) keys k e.newest) is (linked.newest_is (get_or keys k 0 % many) at_home) in
      let len : length (linked_in many keys k filed homes ends) ≡ many = length-set homes _ _ in
      record {
        oldest_is = rw (len, same)
            (λ h lt. oldest_by many keys k filed homes refl some ends is h (eqb (get_or keys k 0 % many) h) refl (linked.oldest_is h lt));
        newest_is = rw (len, same)
            (λ h lt. newest_by many keys k filed homes refl some ends is h (eqb (get_or keys k 0 % many) h) refl (linked.newest_is h lt));
        newer_is = rw (len, same)
            (newer_more many keys k filed (newers_in places) (newers_in places') ends.newest last_is end behind others linked.newer_is);
      }

  within_newers : k < length (newers_in places)
  within_newers = let len = length-map places newer_of in omega arith

  -- the place is the first of its home
  pub linked_first : (home : ℕ) (ends : Ends) → get_or keys k 0 % many ≡ home → home_at homes home ≡ ends → ends.newest ≡ None → newers_in places' ≡ set (newers_in places) k None → AreLinked places' (set homes home (ends_with ends k)) (k + 1)
  linked_first home ends at is none newers =
      subst (λ h. AreLinked places' (set homes h (ends_with ends k)) (k + 1)) at
      (linked_more ends (ap (home_at homes) at ∙ is)
      (ap (λ xs. get_or xs k None) newers ∙ get_or-set_same (newers_in places) k None None within_newers)
      (λ q e. absurd (cc))
      (λ j lt other. ap (λ xs. get_or xs j None) newers ∙ get_or-set_other (newers_in places) k j None None (λ e. omega arith)))

  -- it stands behind the last of its home
  pub linked_behind : (home : ℕ) (ends : Ends) (newest : ℕ) → get_or keys k 0 % many ≡ home → home_at homes home ≡ ends → ends.newest ≡ Some newest → newers_in places' ≡ set (set (newers_in places) k None) newest (Some k) → AreLinked places' (set homes home (ends_with ends k)) (k + 1)
  linked_behind home ends newest at is last_is newers =
      let at_home : get_or keys k 0 % many < many = omega arith in
      let there : home_at homes (get_or keys k 0 % many) ≡ ends = ap (home_at homes) at ∙ is in
      let last = subst (λ (e : Ends). IsLastIn (is_home many (get_or keys k 0 % many)) keys k e.newest) there (linked.newest_is (get_or keys k 0 % many) at_home) in
      let before : newest < k = last.within newest last_is in
      let len = length-set (newers_in places) k None in
      let many_newers : newest < length (set (newers_in places) k None) = let w = within_newers in omega arith in
      subst (λ h. AreLinked places' (set homes h (ends_with ends k)) (k + 1)) at
      (linked_more ends there
      (ap (λ xs. get_or xs k None) newers
      ∙ get_or-set_other (set (newers_in places) k None) newest k (Some k) None (λ e. omega arith)
      ∙ get_or-set_same (newers_in places) k None None within_newers)
      (λ q e. let same : newest ≡ q = cc in
      ap (λ xs. get_or xs q None) newers
      ∙ subst (λ i. get_or (set (set (newers_in places) k None) newest (Some k)) i None ≡ Some k) same
      (get_or-set_same (set (newers_in places) k None) newest (Some k) None many_newers))
      (λ j lt other.
      ap (λ xs. get_or xs j None) newers
      ∙ get_or-set_other (set (newers_in places) k None) newest j (Some k) None (λ e. other (last_is ∙ ap Some (sym e)))
      ∙ get_or-set_other (newers_in places) k j None None (λ e. omega arith)))

below_end : (first : Option ℕ) (end j : ℕ) → j < place_or_end first end → ((place : ℕ) → first ≡ Some place → place < end) → j < end
below_end None end j lt within = lt
below_end (Some place) end j lt within = let w = within place refl in omega arith

-- what stands before an end isn't changed by items behind it
first_before : (is : ℕ → Bool) (items more : List ℕ) (from end : ℕ) (first : Option ℕ) → end ≤ length items → IsFirstIn is items from end first → IsFirstIn is (items ++ more) from end first
first_before is items more from end first le h =
    let same : (j d : ℕ) → j < end → get_or (items ++ more) j d ≡ get_or items j d = λ j d lt. get_or_append_left items more d j (omega arith) in
    record {
      reaches = h.reaches;
      within = h.within;
      passes = λ place d e. rw (same place d (h.within place e)) (h.passes place d e);
      fails = λ j d above below. rw (same j d (let lt = below_end first end j below h.within in lt)) (h.fails j d above below);
    }

last_before : (is : ℕ → Bool) (items more : List ℕ) (end : ℕ) (last : Option ℕ) → end ≤ length items → IsLastIn is items end last → IsLastIn is (items ++ more) end last
last_before is items more end last le h =
    let same : (j d : ℕ) → j < end → get_or (items ++ more) j d ≡ get_or items j d = λ j d lt. get_or_append_left items more d j (omega arith) in
    record {
      within = h.within;
      passes = λ place d e. rw (same place d (h.within place e)) (h.passes place d e);
      fails = λ j d above below. rw (same j d below) (h.fails j d above below);
    }

-- a place behind those that are linked changes nothing
pub linked_before : (places : List Place) (homes : List Ends) (p : Place) → AreLinked places homes (length places) → AreLinked (places ++ p ∷ []) homes (length places)
linked_before places homes p linked =
    let keys = keys_in places in
    let many : length places ≤ length keys = let len = length-map places key_of in omega arith in
    let keys_are : keys_in (places ++ p ∷ []) ≡ keys ++ p.key ∷ [] = map-append key_of places (p ∷ []) in
    let newers_are : newers_in (places ++ p ∷ []) ≡ newers_in places ++ p.newer ∷ [] = map-append newer_of places (p ∷ []) in
    record {
      oldest_is = rw keys_are (λ h lt. first_before _ keys (p.key ∷ []) 0 (length places) _ many (linked.oldest_is h lt));
      newest_is = rw keys_are (λ h lt. last_before _ keys (p.key ∷ []) (length places) _ many (linked.newest_is h lt));
      newer_is = rw (keys_are, newers_are)
          (λ place lt.
          let key : get_or (keys ++ p.key ∷ []) place 0 ≡ get_or keys place 0 = get_or_append_left keys (p.key ∷ []) 0 place (omega arith) in
          let len = length-map places newer_of in
          let newer : get_or (newers_in places ++ p.newer ∷ []) place None ≡ get_or (newers_in places) place None = get_or_append_left (newers_in places) (p.newer ∷ []) None place (omega arith) in
          rw (key, newer) (first_before _ keys (p.key ∷ []) (place + 1) (length places) _ many (linked.newer_is place lt)));
    }

-- so many places are linked anew
pub record AreRelinked (old new : List Place) (homes : List Ends) (count : ℕ) : Type 0 where
  pub linked : AreLinked new homes count
  pub keys : keys_in new ≡ keys_in old
  pub some : 0 < length homes

pub same_in_homes : (places places' : List Place) (homes homes' : List Ends) (capacity : ℕ) → places' ≡ places → homes' ≡ homes → 0 < length homes → AreLinked places homes (length places) → length places ≤ most_places → AreInHomes places' homes' capacity
same_in_homes places places' homes homes' capacity p q some linked fits =
    rw (p, q) (record { linked = linked; some = λ has. some; fits = fits })
