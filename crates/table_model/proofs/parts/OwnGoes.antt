-- What a section knows of itself, as one of its open sockets goes, or waits.
use Rattle.std.proofs.Common.{◌≡◌, ◌≢◌, ℕ, ◌/◌, ◌%◌, ◌^◌, ◌≤◌, ◌==◌, Bool, true, false, ◌&&◌, not, cond, List, [], ◌∷◌, ◌++◌, length, map, filter, refl, ap, sym, ◌∙◌, subst, arith}
use Rattle.std.specs.List.{list_any}
use Rattle.std.proofs.lemmas.Bool.{eqb-true, eq-eqb, ne_eqb, both_ways, and_parts, not-true}
use Rattle.list_words.specs.Lists.{Each, Pairs, total}
use Rattle.list_words.proofs.EachLemmas.{each_weaken, each_found, each_push, each_map, each_of_all, each_unmap}
use Rattle.list_words.proofs.TotalLemmas.{total-append}
use Rattle.list_words.proofs.MapLemmas.{map_push}
use Rattle.sock_card.specs.declared.owner.Owner.{Owner}
use Rattle.sock_card.specs.Conflict.{is_time_wait}
use Rattle.flat_list.specs.declared.socket.Socket.{Socket}
use Rattle.flat_list.specs.Flat.{Flat}
use Rattle.flat_list.specs.Groups.{Group}
use Rattle.flat_list.specs.Sections.{labels_of}
use Rattle.flat_list.specs.Sockets.{has_name, kind_of, put, without, is_open_in}
use Rattle.flat_list.specs.Sound.{IsSound, IsGiven, IsAwakeIfNamed}
use Rattle.flat_list.specs.Step.{waiting}
use Rattle.table_model.specs.Tables.{Tables}
use Rattle.table_model.specs.Own as own_words
use Rattle.table_model.specs.Own.{Own, Mine, is_named, with_wait}
use Rattle.table_model.specs.Means.{OwnMeans, StandsAs, IsNameOf, owner_of, owner_in, name_in, weighs_if_there, weighs_as_wait}
use Rattle.table_model.proofs.lists.Passing.{total_each, total_same}
use Rattle.table_model.proofs.parts.OwnWaits.{any_without}
use Rattle.table_model.proofs.lists.Listed.{Listed, put_weighs, without_weighs}
use Rattle.table_model.proofs.parts.Own.{any_put}
use Rattle.table_model.proofs.parts.Sections.{same_labels}
use Rattle.table_model.proofs.parts.WaitNames.{listed_there}

module _ {A : Type 0} (P : A → Type 0) (q : A → Bool) where
  kept_if : (x : A) (xs ys : List A) (b : Bool) → q x ≡ b → Each P (cond b (x ∷ ys) ys) → (q x ≡ true → P x) × Each P ys
  kept_if x xs ys true e h = (λ _. h.0, h.1)
  kept_if x xs ys false e h = (λ f. absurd (both_ways (q x) e f), h)

  -- what holds of all that are kept holds of each that passes
  pub each_if_kept : (xs : List A) → Each P (filter q xs) → Each (λ x. q x ≡ true → P x) xs
  each_if_kept [] h = tt
  each_if_kept (x ∷ xs) h =
      let parts = kept_if x xs (filter q xs) (q x) refl h in (parts.0, each_if_kept xs parts.1)

  keep_if : (x : A) (ys : List A) (b : Bool) → q x ≡ b → (q x ≡ true → P x) → Each P ys → Each P (cond b (x ∷ ys) ys)
  keep_if x ys true e p h = (p e, h)
  keep_if x ys false e p h = h

  -- and the other way round
  pub each_keep_if : (xs : List A) → Each (λ x. q x ≡ true → P x) xs → Each P (filter q xs)
  each_keep_if [] h = tt
  each_keep_if (x ∷ xs) h = keep_if x (filter q xs) (q x) refl h.0 (each_keep_if xs h.1)

last_part : (P : ℕ → Type 0) (xs ys : List ℕ) → Each P (xs ++ ys) → Each P ys
last_part P [] ys h = h
last_part P (x ∷ xs) ys h = last_part P xs ys h.1

-- of two lists, each of one and each of the other
pub pairs_across : (R : ℕ → ℕ → Type 0) (xs ys : List ℕ) → Pairs R (xs ++ ys) → Each (λ x. Each (R x) ys) xs
pairs_across R [] ys h = tt
pairs_across R (x ∷ xs) ys h = (last_part (R x) xs ys h.0, pairs_across R xs ys h.1)

pairs_keep : (R : ℕ → ℕ → Type 0) (x : Mine) (zs : List Mine) (ys : List ℕ) (b : Bool) → Each (R x.owner.name) (map name_in zs ++ ys) → Pairs R (map name_in zs ++ ys) → Pairs R (map name_in (cond b (x ∷ zs) zs) ++ ys)
pairs_keep R x zs ys true p h = (p, h)
pairs_keep R x zs ys false p h = h

fewer_by : (P : ℕ → Type 0) (x : Mine) (zs : List Mine) (ys : List ℕ) (b : Bool) → P x.owner.name → Each P (map name_in zs ++ ys) → Each P (map name_in (cond b (x ∷ zs) zs) ++ ys)
fewer_by P x zs ys true p h = (p, h)
fewer_by P x zs ys false p h = h

each_fewer : (P : ℕ → Type 0) (q : Mine → Bool) (xs : List Mine) (ys : List ℕ) → Each P (map name_in xs ++ ys) → Each P (map name_in (filter q xs) ++ ys)
each_fewer P q [] ys h = h
each_fewer P q (x ∷ xs) ys h = fewer_by P x (filter q xs) ys (q x) h.0 (each_fewer P q xs ys h.1)

-- fewer of the first list
pairs_fewer : (R : ℕ → ℕ → Type 0) (q : Mine → Bool) (xs : List Mine) (ys : List ℕ) → Pairs R (map name_in xs ++ ys) → Pairs R (map name_in (filter q xs) ++ ys)
pairs_fewer R q [] ys h = h
pairs_fewer R q (x ∷ xs) ys h = pairs_keep R x (filter q xs) ys (q x) (each_fewer (R x.owner.name) q xs ys h.0) (pairs_fewer R q xs ys h.1)

each_last : (P : ℕ → Type 0) (xs ys : List ℕ) (y : ℕ) → Each P (xs ++ ys) → P y → Each P (xs ++ (ys ++ y ∷ []))
each_last P [] ys y h p = each_push P ys y h p
each_last P (x ∷ xs) ys y h p = (h.0, each_last P xs ys y h.1 p)

pairs_last : (R : ℕ → ℕ → Type 0) (xs ys : List ℕ) (y : ℕ) → Pairs R (xs ++ ys) → Each (λ x. R x y) xs → Each (λ x. R x y) ys → Pairs R (xs ++ (ys ++ y ∷ []))
pairs_last R [] [] y h p q = (tt, tt)
pairs_last R [] (z ∷ ys) y h p q = (each_push (R z) ys y h.0 q.0, pairs_last R [] ys y h.1 p q.1)
pairs_last R (x ∷ xs) ys y h p q = (each_last (R x) xs ys y h.0 p.0, pairs_last R xs ys y h.1 p.1 q)

module _ (name : ℕ) where
  abbrev others : List Owner → List Owner
  others os = filter (λ (o : Owner). not (o.name == name)) os

  own_kept : (b : Bool) (x : Mine) (ys : List Mine) (os : List Owner) → map owner_in ys ≡ os → map owner_in (cond (not b) (x ∷ ys) ys) ≡ cond (not b) (x.owner ∷ os) os
  own_kept true x ys os h = h
  own_kept false x ys os h = ap (λ (l : List Owner). x.owner ∷ l) h

  own_without : (ms : List Mine) → map owner_in (filter (λ m. not (is_named name m)) ms) ≡ others (map owner_in ms)
  own_without [] = refl
  own_without (x ∷ ms) = own_kept (x.owner.name == name) x (filter (λ m. not (is_named name m)) ms) (others (map owner_in ms)) (own_without ms)

  mine_kept : (n : ℕ) (b c : Bool) (x : Socket) (ys zs : List Socket) → is_open_in n x ≡ c → (x.owner.name == name) ≡ b → map owner_of (filter (is_open_in n) ys) ≡ others (map owner_of zs)
      → map owner_of (filter (is_open_in n) (cond (not b) (x ∷ ys) ys)) ≡ others (map owner_of (cond c (x ∷ zs) zs))
  mine_kept n true true x ys zs e q h = h ∙ ap (λ (b : Bool). cond (not b) (x.owner ∷ others (map owner_of zs)) (others (map owner_of zs))) (sym q)
  mine_kept n true false x ys zs e q h = h
  mine_kept n false true x ys zs e q h =
      ap (λ (c : Bool). map owner_of (cond c (x ∷ filter (is_open_in n) ys) (filter (is_open_in n) ys))) e
      ∙ (ap (λ (l : List Owner). x.owner ∷ l) h ∙ ap (λ (b : Bool). cond (not b) (x.owner ∷ others (map owner_of zs)) (others (map owner_of zs))) (sym q))
  mine_kept n false false x ys zs e q h = ap (λ (c : Bool). map owner_of (cond c (x ∷ filter (is_open_in n) ys) (filter (is_open_in n) ys))) e ∙ h

  mine_without : (n : ℕ) (xs : List Socket) → map owner_of (filter (is_open_in n) (without name xs)) ≡ others (map owner_of (filter (is_open_in n) xs))
  mine_without n [] = refl
  mine_without n (x ∷ xs) = mine_kept n (x.owner.name == name) (is_open_in n x) x (without name xs) (filter (is_open_in n) xs) refl refl (mine_without n xs)

-- one that isn't open any more isn't among the open ones
hidden_by : (n : ℕ) (new x : Socket) (ys zs : List Socket) (b : Bool) → new.named ≡ false → filter (is_open_in n) ys ≡ filter (is_open_in n) zs
    → filter (is_open_in n) (cond b new x ∷ ys) ≡ filter (is_open_in n) (cond (not b) (x ∷ zs) zs)
hidden_by n new x ys zs true e h =
    ap (λ (c : Bool). cond (c && (new.owner.name / 2 ^ 56 == n)) (new ∷ filter (is_open_in n) ys) (filter (is_open_in n) ys)) e ∙ h
hidden_by n new x ys zs false e h = ap (λ (l : List Socket). cond (is_open_in n x) (x ∷ l) l) h

hidden : (n : ℕ) (new : Socket) (xs : List Socket) → new.named ≡ false → filter (is_open_in n) (put new xs) ≡ filter (is_open_in n) (without new.owner.name xs)
hidden n new [] e = refl
hidden n new (x ∷ xs) e = hidden_by n new x (put new xs) (without new.owner.name xs) (has_name new.owner.name x) e (hidden n new xs e)

module _ (n : ℕ) (own : Own) (t : Tables) (flat : Flat) (h : OwnMeans n own t flat) (sound : IsSound flat) (s : Socket) (at : Listed s.owner.name flat.sockets s) (mine : is_open_in n s ≡ true) where
  abbrev name : ℕ
  name = s.owner.name

  -- the section of the name
  pub section_is : name / 2 ^ 56 ≡ n
  section_is = eqb-true (name / 2 ^ 56) n (and_parts s.named (name / 2 ^ 56 == n) mine).1

  -- an open socket isn't in TIME_WAIT
  pub is_awake : is_time_wait s.owner.state ≡ false
  is_awake =
      let awake : IsAwakeIfNamed s = each_found IsAwakeIfNamed (has_name name) flat.sockets s sound.awake at in
      not-true (is_time_wait s.owner.state) (sym awake ∙ (and_parts s.named (name / 2 ^ 56 == n) mine).0)

  -- what holds of the names of the section's sockets holds of this one's
  at_own : (P : ℕ → Type 0) → Each P (map name_in own.sockets) → P name
  at_own P each =
      let listed : Each (λ (x : Socket). P x.owner.name) (filter (is_open_in n) flat.sockets) =
      each_unmap (λ (o : Owner). P o.name) owner_of (filter (is_open_in n) flat.sockets)
      (subst (Each (λ (o : Owner). P o.name)) h.sockets (each_map (λ (o : Owner). P o.name) owner_in own.sockets (each_unmap P name_in own.sockets each))) in
      each_found (λ (x : Socket). is_open_in n x ≡ true → P x.owner.name) (has_name name) flat.sockets s (each_if_kept (λ (x : Socket). P x.owner.name) (is_open_in n) flat.sockets listed) at mine

  -- no TIME_WAIT of the section's has its name
  pub waits_differ : Each (λ (w : Mine). name ≢ w.owner.name) own.waits
  waits_differ =
      each_unmap (λ k. name ≢ k) name_in own.waits
      (at_own (λ k. Each (λ j. k ≢ j) (map name_in own.waits)) (pairs_across (λ a b. a ≢ b) (map name_in own.sockets) (map name_in own.waits) h.names))

  still_there : (f : Owner → ℕ → ℕ) → total (weighs_if_there f (without name flat.sockets)) own.waits ≡ total (weighs_if_there f flat.sockets) own.waits
  still_there f =
      total_each (weighs_if_there f (without name flat.sockets)) (weighs_if_there f flat.sockets) own.waits
      (each_weaken (λ (w : Mine). name ≢ w.owner.name) (λ (w : Mine). weighs_if_there f (without name flat.sockets) w ≡ weighs_if_there f flat.sockets w) own.waits
      (λ w d. ap (λ (b : Bool). cond {A = ℕ} b (f w.owner w.extra) 0)
      (any_without w.owner.name name flat.sockets ∙ ap (λ (b : Bool). not b && list_any (has_name w.owner.name) flat.sockets) (ne_eqb w.owner.name name (λ e. d (sym e)))))
      waits_differ)

  no_wait : (f : Owner → ℕ → ℕ) → weighs_as_wait f n s ≡ 0
  no_wait f = ap (λ (b : Bool). cond {A = ℕ} (b && (name / 2 ^ 56 == n)) (f s.owner s.stamp) 0) is_awake

  abbrev kept_test : Mine → Bool
  kept_test m = not (is_named name m)

  others_stand : (t' : Tables) → Each (λ (x : Mine). name ≢ x.owner.name → StandsAs t'.chains x (kind_of x.owner.state)) own.sockets
      → Each (λ (x : Mine). StandsAs t'.chains x (kind_of x.owner.state)) (filter kept_test own.sockets)
  others_stand t' stand =
      each_keep_if (λ (x : Mine). StandsAs t'.chains x (kind_of x.owner.state)) kept_test own.sockets
      (each_weaken (λ (x : Mine). name ≢ x.owner.name → StandsAs t'.chains x (kind_of x.owner.state)) (λ (x : Mine). kept_test x ≡ true → StandsAs t'.chains x (kind_of x.owner.state)) own.sockets
      (λ x f e. f (λ same. both_ways (is_named name x) (not-true (is_named name x) e) (eq-eqb x.owner.name name (sym same)))) stand)

  -- one of its open sockets is gone
  pub own_gone : (t' : Tables) (groups : List Group) → Each (λ (x : Mine). name ≢ x.owner.name → StandsAs t'.chains x (kind_of x.owner.state)) own.sockets
      → OwnMeans n (own_words.without own name) t' (record flat { sockets = without name flat.sockets; groups = groups })
  own_gone t' groups stand = record {
    number = h.number;
    unmarked = h.unmarked;
    section = h.section;
    range = h.range;
    offset = h.offset;
    sockets = own_without name own.sockets ∙ (ap (others name) h.sockets ∙ sym (mine_without name n flat.sockets));
    stand = others_stand t' stand;
    waits = λ f. omega (arith, still_there f, h.waits f, without_weighs name (weighs_as_wait f n) s flat.sockets sound.names at, no_wait f);
    names = pairs_fewer (λ a b. a ≢ b) kept_test own.sockets (map name_in own.waits) h.names;
    given = h.given;
  }

  name_given : IsNameOf n (length own.labels) name
  name_given =
      let given : IsGiven flat.sections s = each_found (IsGiven flat.sections) (has_name name) flat.sockets s sound.given at in
      let labels : labels_of (name / 2 ^ 56) flat.sections ≡ own.labels = ap (λ k. labels_of k flat.sections) section_is ∙ same_labels n own t flat h in
      record { section = section_is; first = given.first; last = subst (λ (l : List (List ℕ)). name % 2 ^ 56 ≤ length l) labels given.last }

  abbrev new : ℕ → Socket
  new moment = waiting s moment

  waits_weigh : (f : Owner → ℕ → ℕ) (moment : ℕ) → weighs_as_wait f n (new moment) ≡ f (new moment).owner moment
  waits_weigh f moment = ap (λ (b : Bool). cond {A = ℕ} b (f (new moment).owner moment) 0) (eq-eqb (name / 2 ^ 56) n section_is)

  is_there : (moment : ℕ) → list_any (has_name name) (put (new moment) flat.sockets) ≡ true
  is_there moment = any_put (new moment) name flat.sockets ∙ listed_there name flat.sockets s at

  -- one of its open sockets waits
  pub own_waits : (t' : Tables) (moment : ℕ) (w : Mine) → w.owner ≡ (new moment).owner → w.extra ≡ moment
      → Each (λ (x : Mine). name ≢ x.owner.name → StandsAs t'.chains x (kind_of x.owner.state)) own.sockets
      → OwnMeans n (with_wait (own_words.without own name) w) t' (record flat { sockets = put (new moment) flat.sockets })
  own_waits t' moment w same stamped stand =
      let w_name : w.owner.name ≡ name = ap (λ (o : Owner). o.name) same in
      record {
        number = h.number;
        unmarked = h.unmarked;
        section = h.section;
        range = h.range;
        offset = h.offset;
        sockets =
            own_without name own.sockets ∙ (ap (others name) h.sockets ∙ (sym (mine_without name n flat.sockets) ∙ ap (map owner_of) (sym (hidden n (new moment) flat.sockets refl))));
        stand = others_stand t' stand;
        waits = λ f.
            let old : total (weighs_if_there f (put (new moment) flat.sockets)) own.waits ≡ total (weighs_if_there f flat.sockets) own.waits =
            total_same (weighs_if_there f (put (new moment) flat.sockets)) (weighs_if_there f flat.sockets) own.waits (λ x. ap (λ (b : Bool). cond {A = ℕ} b (f x.owner x.extra) 0) (any_put (new moment) x.owner.name flat.sockets)) in
            let one : weighs_if_there f (put (new moment) flat.sockets) w ≡ f (new moment).owner moment =
            ap (λ (k : ℕ). cond {A = ℕ} (list_any (has_name k) (put (new moment) flat.sockets)) (f w.owner w.extra) 0) w_name
            ∙ (ap (λ (b : Bool). cond {A = ℕ} b (f w.owner w.extra) 0) (is_there moment) ∙ (ap (λ (o : Owner). f o w.extra) same ∙ ap (f (new moment).owner) stamped)) in
            omega (arith, total-append (weighs_if_there f (put (new moment) flat.sockets)) own.waits (w ∷ []), old, one, h.waits f, put_weighs (new moment) (weighs_as_wait f n) s flat.sockets sound.names at, no_wait f, waits_weigh f moment);
        names =
            subst (λ (l : List ℕ). Pairs (λ (a b : ℕ). a ≢ b) (map name_in (filter kept_test own.sockets) ++ l)) (sym (map_push name_in own.waits w))
            (subst (λ (k : ℕ). Pairs (λ (a b : ℕ). a ≢ b) (map name_in (filter kept_test own.sockets) ++ (map name_in own.waits ++ k ∷ []))) (sym w_name)
            (pairs_last (λ a b. a ≢ b) (map name_in (filter kept_test own.sockets)) (map name_in own.waits) name
            (pairs_fewer (λ a b. a ≢ b) kept_test own.sockets (map name_in own.waits) h.names)
            (each_map (λ k. k ≢ name) name_in (filter kept_test own.sockets)
            (each_keep_if (λ (x : Mine). x.owner.name ≢ name) kept_test own.sockets
            (each_of_all (λ (x : Mine). kept_test x ≡ true → x.owner.name ≢ name) own.sockets (λ x e same. both_ways (is_named name x) (not-true (is_named name x) e) (eq-eqb x.owner.name name same)))))
            (each_map (λ k. k ≢ name) name_in own.waits (each_weaken (λ (x : Mine). name ≢ x.owner.name) (λ (x : Mine). x.owner.name ≢ name) own.waits (λ x d e. d (sym e)) waits_differ))));
        given = each_push (λ (x : Mine). IsNameOf n (length own.labels) x.owner.name) own.waits w h.given (subst (IsNameOf n (length own.labels)) (sym w_name) name_given);
      }
