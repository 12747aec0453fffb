-- A walk through the places of a home, from the oldest to the newest, to one that has a key.
use Rattle.std.proofs.Common.{◌≡◌, ℕ, ◌+◌, ◌-◌, ◌%◌, ◌<◌, ◌≤◌, true, false, eqb, List, length, get_or, Option, Some, None, refl, sym, ◌∙◌, ap, subst, arith, ⊎_elim}
use Rattle.std.proofs.lemmas.Bool.{eqb-true, eq-eqb, cases_lt, false_from_ne_true}
use Rattle.std.proofs.lemmas.List.{get_or-map, length-map}
use Rattle.bind_buckets.specs.declared.links.Place.{Place}
use Rattle.bind_buckets.specs.declared.links.Ends.{Ends}
use Rattle.bind_buckets.specs.Links.{place_or_end, IsFirstIn, is_key, is_home, keys_in, newers_in, AreLinked}
use Rattle.bind_buckets.proofs.Linked.{false_ne_true}

-- how many places may be left
abbrev pub places_left : Option ℕ → ℕ → ℕ
places_left next end = end - place_or_end next end

module _ (key : ℕ) (places : List Place) (homes : List Ends) where
  abbrev keys : List ℕ
  keys = keys_in places

  abbrev many : ℕ
  many = length homes

  pub record IsSought (start : ℕ) (next : Option ℕ) : Type 0 where
    pub from : ℕ
    pub begins : start ≤ from
    pub next_is : IsFirstIn (is_home many (key % many)) keys from (length places) next
    pub passed : (j : ℕ) (d : ℕ) → start ≤ j → j < from → is_key key (get_or keys j d) ≡ false

  -- a place of another home has another key
  elsewhere : (k : ℕ) → is_home many (key % many) k ≡ false → is_key key k ≡ false
  elsewhere k away =
      false_from_ne_true _
      (λ same. false_ne_true (sym away ∙ eq-eqb (k % many) (key % many) (ap (λ i. i % many) (eqb-true _ _ same))))

  pub begun : (start : ℕ) (next : Option ℕ) → IsFirstIn (is_home many (key % many)) keys start (length places) next → IsSought start next
  begun start next first =
      record { from = start; begins = omega arith; next_is = first; passed = λ j d above below. absurd (omega arith) }

  module _ (start : ℕ) (next : Option ℕ) (sought : IsSought start next) where
    -- none before the next has the key
    none_before : (j d : ℕ) → start ≤ j → j < place_or_end next (length places) → is_key key (get_or keys j d) ≡ false
    none_before j d above below =
        ⊎_elim (λ lt. sought.passed j d above lt)
        (λ ge. elsewhere (get_or keys j d) (sought.next_is.fails j d ge below))
        (cases_lt j sought.from)

    reached : start ≤ place_or_end next (length places)
    reached = let r = sought.next_is.reaches in let b = sought.begins in omega arith

  pub none_found : (start : ℕ) → IsSought start None → IsFirstIn (is_key key) keys start (length places) None
  none_found start sought =
      record {
        reaches = reached start None sought;
        within = λ place e. absurd (cc);
        passes = λ place d e. absurd (cc);
        fails = none_before start None sought;
      }

  module _ (start place : ℕ) (sought : IsSought start (Some place)) where
    pub place_within : place < length places
    place_within = sought.next_is.within place refl

    key_at : (x : Place) (d : ℕ) → get_or keys place d ≡ (get_or places place x).key
    key_at x d = get_or-map (λ (p : Place). p.key) places place x d place_within

    pub found_there : (x : Place) → eqb (get_or places place x).key key ≡ true → IsFirstIn (is_key key) keys start (length places) (Some place)
    found_there x same =
        record {
          reaches = reached start (Some place) sought;
          within = λ p e. let is : place ≡ p = cc in let lt = place_within in omega arith;
          passes = λ p d e.
              let is : place ≡ p = cc in
              subst (λ i. is_key key (get_or keys i d) ≡ true) is (ap (λ k. eqb k key) (key_at x d) ∙ same);
          fails = none_before start (Some place) sought;
        }

    newer_at : (x : Place) → x ≡ get_or places place x → get_or (newers_in places) place None ≡ x.newer
    newer_at x read =
        get_or-map (λ (p : Place). p.newer) places place x None place_within ∙ ap (λ (p : Place). p.newer) (sym read)

    pub goes_on : (x : Place) → x ≡ get_or places place x → (x.key ≡ key → ⊥) → AreLinked places homes (length places) → IsSought start x.newer
    goes_on x read other linked =
        let home : get_or keys place 0 % many ≡ key % many = eqb-true _ _ (sought.next_is.passes place 0 refl) in
        let newer : get_or (newers_in places) place None ≡ x.newer = newer_at x read in
        let b = reached start (Some place) sought in
        record {
          from = place + 1;
          begins = omega arith;
          next_is =
              subst (IsFirstIn (is_home many (key % many)) keys (place + 1) (length places)) newer
              (subst (λ h. IsFirstIn (is_home many h) keys (place + 1) (length places) (get_or (newers_in places) place None)) home
              (linked.newer_is place place_within));
          passed = λ j d above below.
              ⊎_elim (λ lt. none_before start (Some place) sought j d above lt)
              (λ ge.
              let is : place ≡ j = omega arith in
              subst (λ i. is_key key (get_or keys i d) ≡ false) is (ap (λ k. eqb k key) (key_at x d ∙ ap (λ (p : Place). p.key) (sym read)) ∙ false_from_ne_true _ (λ t. other (eqb-true _ _ t))))
              (cases_lt j place);
        }

    pub fewer_left : (x : Place) → x ≡ get_or places place x → AreLinked places homes (length places) → places_left x.newer (length places) < places_left (Some place) (length places)
    fewer_left x read linked =
        let newer : get_or (newers_in places) place None ≡ x.newer = newer_at x read in
        let first = subst (IsFirstIn _ keys (place + 1) (length places)) newer (linked.newer_is place place_within) in
        let r = first.reaches in
        let lt = place_within in
        omega arith

-- behind a place of that key, its home goes on
pub behind : (key : ℕ) (places : List Place) (homes : List Ends) (place : ℕ) (x : Place) → AreLinked places homes (length places) → place < length (keys_in places) → get_or (keys_in places) place 0 ≡ key → IsFirstIn (is_home (length homes) (key % length homes)) (keys_in places) (place + 1) (length places) (get_or places place x).newer
behind key places homes place x linked within same =
    let lt : place < length places = let len = length-map places (λ (p : Place). p.key) in omega arith in
    subst (IsFirstIn (is_home (length homes) (key % length homes)) (keys_in places) (place + 1) (length places))
    (get_or-map (λ (p : Place). p.newer) places place x None lt)
    (subst (λ k. IsFirstIn (is_home (length homes) (k % length homes)) (keys_in places) (place + 1) (length places) (get_or (newers_in places) place None)) same
    (linked.newer_is place lt))
