-- Which seat keeps a caller's entries, step by step.
use Rattle.std.proofs.Common.{◌≡◌, ℕ, zero, suc, ◌⊎◌, ◌+◌, ◌<◌, ◌≢◌, eqb, cond, List, [], ◌∷◌, ◌++◌, map, length, set, sym, refl, ap, ◌∙◌, subst, inl, inr, ⊎_elim, arith, length-set, eq-eqb, ne_eqb}
use Rattle.std.proofs.lemmas.List.{length-append, append-nil}
use mathlib.Core.Logic.{dite}
use native.Mathlib.Decide.{ℕ_discrete}
use mathlib.Core.Option.{some, some-injective, some-ne-none}
use lib.ListN.{get_elem?}
use Rattle.list_words.specs.Lists.{Each}
use Rattle.list_words.proofs.EachLemmas.{each_append, each_weaken, each_map}
use Rattle.list_words.proofs.PlaceLemmas.{at_below}
use Rattle.turn_table.specs.Journals.{placed, by_caller, notes_at, HasAllAt}
use Rattle.turn_table.specs.Views.{nobody}
use Rattle.turn_table.specs.Turning.{CallersOk}
use Rattle.turn_table.specs.declared.note.Note.{Note}
use Rattle.turn_table.specs.declared.note.Placed.{Placed}
use Rattle.turn_table.specs.declared.view.TurnView.{TurnView}
use Rattle.turn_table.proofs.OfCallers.{by-append, at-append, by_none, by_at_none, at_here, at_else, by_first, has_each}
use Rattle.turn_table.proofs.Updates.{upd, upd_here, upd_else}
use Rattle.turn_table.proofs.ViewLists.{at_each}

-- a place of a list with one more item is an old one, or the last
at_end : {A : Type 0} (l : List A) (a b : A) (j : ℕ) → get_elem? (l ++ a ∷ []) j ≡ some b → (get_elem? l j ≡ some b) ⊎ ((j ≡ length l) × (a ≡ b))
at_end [] a b zero e = inr (refl, some-injective a b e)
at_end [] a b (suc j) e = absurd (some-ne-none b (sym e))
at_end (x ∷ xs) a b zero e = inl e
at_end (x ∷ xs) a b (suc j) e = ⊎_elim inl (λ t. inr (ap suc t.0, t.1)) (at_end xs a b j e)

-- a fact of each place of a list with one more item
at_more : {A : Type 0} (vs : List A) (n : A) (P : ℕ → A → Type 0) → P (length vs) n → ((k : ℕ) (u : A) → get_elem? vs k ≡ some u → P k u) → (k : ℕ) (u : A) → get_elem? (vs ++ n ∷ []) k ≡ some u → P k u
at_more vs n P here there k u e = ⊎_elim (λ z. there k u z) (λ t. subst (λ q. P q u) (sym t.0) (subst (P (length vs)) t.1 here)) (at_end vs n u k e)

-- and where another changed
at_cut : {A : Type 0} (vs : List A) (id : ℕ) (w n : A) (P : ℕ → A → Type 0) → P id w → P (length vs) n → ((k : ℕ) (u : A) → k ≢ id → get_elem? vs k ≡ some u → P k u) → (k : ℕ) (u : A) → get_elem? (set vs id w ++ n ∷ []) k ≡ some u → P k u
at_cut vs id w n P mine here there = at_more (set vs id w) n P (subst (λ q. P q n) (sym (length-set vs id w)) here) (at_each vs id w P mine there)

module _ {E H : Type 0} where
  -- none of its entries is this caller's
  abbrev Apart : ℕ → TurnView E H → Type 0
  Apart c v = Each (λ (p : Placed E). p.note.caller ≢ c) v.mine

  -- a step that leaves what a pass gave, and who it is
  pub callers_same : (places : ℕ) (js : ℕ → List (Note E)) (vs : List (TurnView E H)) (id : ℕ) (v w : TurnView E H) → get_elem? vs id ≡ some v → w.mine ≡ v.mine → w.caller ≡ v.caller → w.splits ≡ v.splits → w.parts ≡ v.parts
      → CallersOk places js vs → CallersOk places js (set vs id w)
  callers_same places js vs id v w me gave caller splits parts o =
      let mine : (P : List (Placed E) → Type 0) → P v.mine → P w.mine = λ P p. subst P (sym gave) p in
      record {
        keeper = o.keeper;
        inside = λ c. omega (arith, o.inside c, length-set vs id w);
        keeps = at_each vs id w (λ k (u : TurnView E H). (c : ℕ) → o.keeper c ≡ k → (i : ℕ) → i < places → by_caller c (js i) ≡ by_caller c (notes_at i u.mine))
            (λ c e i h. mine (λ l. by_caller c (js i) ≡ by_caller c (notes_at i l)) (o.keeps id v me c e i h)) (λ k u _ e. o.keeps k u e);
        strange = at_each vs id w (λ k (u : TurnView E H). (c : ℕ) → o.keeper c ≢ k → Apart c u) (λ c ne. mine (Each (λ (p : Placed E). p.note.caller ≢ c)) (o.strange id v me c ne)) (λ k u _ e. o.strange k u e);
        live = at_each vs id w (λ k (u : TurnView E H). 0 < u.parts → o.keeper u.caller ≡ k) (λ some-part. ap o.keeper caller ∙ o.live id v me (omega arith)) (λ k u _ e. o.live k u e);
        unborn = at_each vs id w (λ k (u : TurnView E H). 0 < u.parts → u.caller ≡ 0 → (c : ℕ) → u.splits < c → (o.keeper c ≡ k) × Apart c u)
            (λ some-part zero-th c later. let t = o.unborn id v me (omega arith) (sym caller ∙ zero-th) c (omega arith) in (t.0, mine (Each (λ (p : Placed E). p.note.caller ≢ c)) t.1)) (λ k u _ e. o.unborn k u e);
      }

  -- a turn is given back with new entries of its pass
  pub callers_give : (places : ℕ) (js : ℕ → List (Note E)) (vs : List (TurnView E H)) (id i : ℕ) (v w : TurnView E H) (l new : List (Note E)) → get_elem? vs id ≡ some v → 0 < v.parts → l ≡ js i ++ new
      → Each (λ (x : Note E). x.caller ≡ v.caller) new → w.mine ≡ v.mine ++ map (placed i) new → w.caller ≡ v.caller → w.splits ≡ v.splits → w.parts ≡ v.parts → CallersOk places js vs → CallersOk places (upd js i l) (set vs id w)
  callers_give places js vs id i v w l new me some-part grew own gave caller splits parts o =
      let mine : (P : List (Placed E) → Type 0) → P (v.mine ++ map (placed i) new) → P w.mine = λ P p. subst P (sym gave) p in
      let kept : o.keeper v.caller ≡ id = o.live id v me some-part in
      let other : (c : ℕ) → c ≢ v.caller → Each (λ (x : Note E). x.caller ≢ c) new = λ c ne. each_weaken (λ (x : Note E). x.caller ≡ v.caller) (λ (x : Note E). x.caller ≢ c) new (λ x e z. ne (sym z ∙ e)) own in
      let apart : (c : ℕ) → c ≢ v.caller → Each (λ (p : Placed E). p.note.caller ≢ c) v.mine → Apart c w = λ c ne h.
      mine (Each (λ (p : Placed E). p.note.caller ≢ c)) (each_append (λ (p : Placed E). p.note.caller ≢ c) v.mine (map (placed i) new) h (each_map (λ (p : Placed E). p.note.caller ≢ c) (placed i) new (other c ne))) in
      let grows : (c : ℕ) → by_caller c l ≡ by_caller c (js i) ++ by_caller c new = λ c. ap (by_caller c) grew ∙ by-append c (js i) new in
      record {
        keeper = o.keeper;
        inside = λ c. omega (arith, o.inside c, length-set vs id w);
        keeps = at_each vs id w (λ k (u : TurnView E H). (c : ℕ) → o.keeper c ≡ k → (j : ℕ) → j < places → by_caller c (upd js i l j) ≡ by_caller c (notes_at j u.mine))
            (λ c e j h. mine (λ m. by_caller c (upd js i l j) ≡ by_caller c (notes_at j m)) (
            let both : by_caller c (notes_at j (v.mine ++ map (placed i) new)) ≡ by_caller c (js j) ++ by_caller c (notes_at j (map (placed i) new)) =
            ap (by_caller c) (at-append j v.mine (map (placed i) new)) ∙ (by-append c (notes_at j v.mine) (notes_at j (map (placed i) new)) ∙ ap (λ (m : List (Note E)). m ++ by_caller c (notes_at j (map (placed i) new))) (sym (o.keeps id v me c e j h))) in
            dite (ℕ_discrete j i)
            (λ z. ap (by_caller c) (upd_here js i l j z) ∙ (grows c ∙ sym (both ∙ (ap (λ (q : ℕ). by_caller c (js q) ++ by_caller c (notes_at q (map (placed i) new))) z ∙ ap (λ (m : List (Note E)). by_caller c (js i) ++ by_caller c m) (at_here i new)))))
            (λ ne. ap (by_caller c) (upd_else js i l j ne) ∙ sym (both ∙ (ap (λ (m : List (Note E)). by_caller c (js j) ++ by_caller c m) (at_else i j new (λ z. ne (sym z))) ∙ append-nil (by_caller c (js j)))))))
            (λ k u ne at c e j h.
            let not-mine : c ≢ v.caller = λ z. ne (sym e ∙ (ap o.keeper z ∙ kept)) in
            let before = o.keeps k u at c e j h in
            dite (ℕ_discrete j i)
            (λ z. ap (by_caller c) (upd_here js i l j z) ∙ (grows c ∙ (ap (λ (m : List (Note E)). by_caller c (js i) ++ m) (by_none c new (other c not-mine)) ∙ (append-nil (by_caller c (js i)) ∙ (ap (λ (q : ℕ). by_caller c (js q)) (sym z) ∙ before)))))
            (λ ne'. ap (by_caller c) (upd_else js i l j ne') ∙ before));
        strange = at_each vs id w (λ k (u : TurnView E H). (c : ℕ) → o.keeper c ≢ k → Apart c u) (λ c ne. apart c (λ z. ne (ap o.keeper z ∙ kept)) (o.strange id v me c ne)) (λ k u _ e. o.strange k u e);
        live = at_each vs id w (λ k (u : TurnView E H). 0 < u.parts → o.keeper u.caller ≡ k) (λ some-part. ap o.keeper caller ∙ kept) (λ k u _ e. o.live k u e);
        unborn = at_each vs id w (λ k (u : TurnView E H). 0 < u.parts → u.caller ≡ 0 → (c : ℕ) → u.splits < c → (o.keeper c ≡ k) × Apart c u)
            (λ _ zero-th c later. let t = o.unborn id v me some-part (sym caller ∙ zero-th) c (omega arith) in (t.0, apart c (λ z. omega (arith, z, caller, zero-th)) t.1)) (λ k u _ e. o.unborn k u e);
      }

  -- a pass with nothing of its own comes, as no caller
  pub callers_tell : (places : ℕ) (js : ℕ → List (Note E)) (vs : List (TurnView E H)) (n : TurnView E H) → n.mine ≡ [] → n.parts ≡ 0 → CallersOk places js vs → CallersOk places js (vs ++ n ∷ [])
  callers_tell places js vs n empty no-part o = record {
    keeper = o.keeper;
    inside = λ c. omega (arith, o.inside c, length-append vs (n ∷ []));
    keeps = at_more vs n (λ k (u : TurnView E H). (c : ℕ) → o.keeper c ≡ k → (i : ℕ) → i < places → by_caller c (js i) ≡ by_caller c (notes_at i u.mine)) (λ c e. absurd (omega (arith, o.inside c))) o.keeps;
    strange = at_more vs n (λ k (u : TurnView E H). (c : ℕ) → o.keeper c ≢ k → Apart c u) (λ c ne. subst (Each (λ (p : Placed E). p.note.caller ≢ c)) (sym empty) tt) o.strange;
    live = at_more vs n (λ k (u : TurnView E H). 0 < u.parts → o.keeper u.caller ≡ k) (λ some-part. absurd (omega arith)) o.live;
    unborn = at_more vs n (λ k (u : TurnView E H). 0 < u.parts → u.caller ≡ 0 → (c : ℕ) → u.splits < c → (o.keeper c ≡ k) × Apart c u) (λ some-part. absurd (omega arith)) o.unborn;
  }

  -- the first pass splits one off, as the next caller
  pub callers_split : (places : ℕ) (js : ℕ → List (Note E)) (vs : List (TurnView E H)) (id : ℕ) (v w n : TurnView E H) → get_elem? vs id ≡ some v → 0 < v.parts → v.caller ≡ 0 → w.mine ≡ v.mine → w.caller ≡ v.caller → w.splits ≡ v.splits + 1
      → n.mine ≡ [] → n.caller ≡ v.splits + 1 → CallersOk places js vs → CallersOk places js (set vs id w ++ n ∷ [])
  callers_split places js vs id v w n me some-part first gave caller splits empty next o =
      let new : ℕ = v.splits + 1 in
      let keeper : ℕ → ℕ = λ c. cond (eqb c new) (length vs) (o.keeper c) in
      let its : (c : ℕ) → c ≡ new → keeper c ≡ length vs = λ c e. ap (λ b. cond b (length vs) (o.keeper c)) (eq-eqb c new e) in
      let old : (c : ℕ) → c ≢ new → keeper c ≡ o.keeper c = λ c ne. ap (λ b. cond b (length vs) (o.keeper c)) (ne_eqb c new ne) in
      let below : id < length vs = at_below vs id v me in
      let mine : (P : List (Placed E) → Type 0) → P v.mine → P w.mine = λ P p. subst P (sym gave) p in
      let later : (c : ℕ) → v.splits < c → (o.keeper c ≡ id) × Apart c v = o.unborn id v me some-part first in
      let kept : o.keeper v.caller ≡ id = o.live id v me some-part in
      record {
        keeper = keeper;
        inside = λ c. let l : length (set vs id w ++ n ∷ []) ≡ length vs + 1 = omega (arith, length-append (set vs id w) (n ∷ []), length-set vs id w) in
            dite (ℕ_discrete c new) (λ e. omega (arith, its c e, l)) (λ ne. omega (arith, old c ne, o.inside c, l));
        keeps = at_cut vs id w n (λ k (u : TurnView E H). (c : ℕ) → keeper c ≡ k → (i : ℕ) → i < places → by_caller c (js i) ≡ by_caller c (notes_at i u.mine))
            (λ c e i h. dite (ℕ_discrete c new) (λ z. absurd (omega (arith, its c z))) (λ ne. mine (λ l. by_caller c (js i) ≡ by_caller c (notes_at i l)) (o.keeps id v me c (sym (old c ne) ∙ e) i h)))
            (λ c e i h. dite (ℕ_discrete c new) (λ z. let t = later c (omega arith) in o.keeps id v me c t.0 i h ∙ (by_at_none c i v.mine t.1 ∙ ap (λ (l : List (Placed E)). by_caller c (notes_at i l)) (sym empty)))
            (λ ne. absurd (omega (arith, old c ne, o.inside c))))
            (λ k u _ at c e i h. dite (ℕ_discrete c new) (λ z. absurd (omega (arith, its c z, at_below vs k u at))) (λ ne. o.keeps k u at c (sym (old c ne) ∙ e) i h));
        strange = at_cut vs id w n (λ k (u : TurnView E H). (c : ℕ) → keeper c ≢ k → Apart c u)
            (λ c away. dite (ℕ_discrete c new) (λ z. mine (Each (λ (p : Placed E). p.note.caller ≢ c)) (later c (omega arith)).1) (λ ne. mine (Each (λ (p : Placed E). p.note.caller ≢ c)) (o.strange id v me c (λ z. away (old c ne ∙ z)))))
            (λ c away. subst (Each (λ (p : Placed E). p.note.caller ≢ c)) (sym empty) tt)
            (λ k u other at c away. dite (ℕ_discrete c new) (λ z. o.strange k u at c (λ y. other (sym y ∙ (later c (omega arith)).0))) (λ ne. o.strange k u at c (λ z. away (old c ne ∙ z))));
        live = at_cut vs id w n (λ k (u : TurnView E H). 0 < u.parts → keeper u.caller ≡ k)
            (λ _. let ne : w.caller ≢ new = λ z. absurd (omega (arith, caller)) in old w.caller ne ∙ (ap o.keeper caller ∙ kept))
            (λ _. its n.caller next)
            (λ k u other at some-part. dite (ℕ_discrete u.caller new)
            (λ z. absurd (other (sym (o.live k u at some-part) ∙ (later u.caller (omega arith)).0)))
            (λ ne. old u.caller ne ∙ o.live k u at some-part));
        unborn = at_cut vs id w n (λ k (u : TurnView E H). 0 < u.parts → u.caller ≡ 0 → (c : ℕ) → u.splits < c → (keeper c ≡ k) × Apart c u)
            (λ _ _ c more. let t = later c (omega (arith, splits)) in let ne : c ≢ new = λ z. absurd (omega (arith, splits)) in (old c ne ∙ t.0, mine (Each (λ (p : Placed E). p.note.caller ≢ c)) t.1))
            (λ _ z. absurd (omega arith))
            (λ k u other at some-part zero-th. absurd (other (sym (o.live k u at some-part) ∙ (ap o.keeper (zero-th ∙ sym first) ∙ kept))));
      }

  -- a pass takes what another gave, which is spent
  pub callers_join : (places : ℕ) (js : ℕ → List (Note E)) (vs : List (TurnView E H)) (id other : ℕ) (v w b : TurnView E H) → get_elem? vs id ≡ some v → get_elem? vs other ≡ some w → other ≢ id → 0 < v.parts
      → b.mine ≡ v.mine ++ w.mine → b.caller ≡ v.caller → b.splits ≡ v.splits → CallersOk places js vs → CallersOk places js (set (set vs id b) other nobody)
  callers_join places js vs id other v w b me them apart some-part gave caller splits o =
      let keeper : ℕ → ℕ = λ c. cond (eqb (o.keeper c) other) id (o.keeper c) in
      let its : (c : ℕ) → o.keeper c ≡ other → keeper c ≡ id = λ c e. ap (λ x. cond x id (o.keeper c)) (eq-eqb (o.keeper c) other e) in
      let old : (c : ℕ) → o.keeper c ≢ other → keeper c ≡ o.keeper c = λ c ne. ap (λ x. cond x id (o.keeper c)) (ne_eqb (o.keeper c) other ne) in
      let never : (c : ℕ) → keeper c ≢ other = λ c e. dite (ℕ_discrete (o.keeper c) other) (λ z. absurd (apart (sym e ∙ its c z))) (λ ne. absurd (ne (sym (old c ne) ∙ e))) in
      let mine : (P : List (Placed E) → Type 0) → P (v.mine ++ w.mine) → P b.mine = λ P p. subst P (sym gave) p in
      let both : (c i : ℕ) → by_caller c (notes_at i (v.mine ++ w.mine)) ≡ by_caller c (notes_at i v.mine) ++ by_caller c (notes_at i w.mine) = λ c i. ap (by_caller c) (at-append i v.mine w.mine) ∙ by-append c (notes_at i v.mine) (notes_at i w.mine) in
      let neither : (c : ℕ) → o.keeper c ≢ id → o.keeper c ≢ other → Apart c b = λ c x y. mine (Each (λ (p : Placed E). p.note.caller ≢ c)) (each_append (λ (p : Placed E). p.note.caller ≢ c) v.mine w.mine (o.strange id v me c x) (o.strange other w them c y)) in
      let kept : o.keeper v.caller ≡ id = o.live id v me some-part in
      let here : (P : ℕ → TurnView E H → Type 0) → P id b → P other nobody → ((k : ℕ) (u : TurnView E H) → k ≢ id → k ≢ other → get_elem? vs k ≡ some u → P k u) → (k : ℕ) (u : TurnView E H) → get_elem? (set (set vs id b) other nobody) k ≡ some u → P k u = λ P x y z.
      at_each (set vs id b) other nobody P y (λ k u ne e. at_each vs id b (λ q (r : TurnView E H). q ≢ other → P q r) (λ _. x) (λ q r d f d'. z q r d d' f) k u e ne) in
      record {
        keeper = keeper;
        inside = λ c. let l : length (set (set vs id b) other nobody) ≡ length vs = length-set (set vs id b) other nobody ∙ length-set vs id b in
            dite (ℕ_discrete (o.keeper c) other) (λ z. omega (arith, its c z, at_below vs id v me, l)) (λ ne. omega (arith, old c ne, o.inside c, l));
        keeps = here (λ k (u : TurnView E H). (c : ℕ) → keeper c ≡ k → (i : ℕ) → i < places → by_caller c (js i) ≡ by_caller c (notes_at i u.mine))
            (λ c e i h. mine (λ l. by_caller c (js i) ≡ by_caller c (notes_at i l)) (dite (ℕ_discrete (o.keeper c) other)
            (λ z. o.keeps other w them c z i h ∙ sym (both c i ∙ ap (λ (l : List (Note E)). l ++ by_caller c (notes_at i w.mine)) (by_at_none c i v.mine (o.strange id v me c (λ y. apart (sym z ∙ y))))))
            (λ ne. o.keeps id v me c (sym (old c ne) ∙ e) i h ∙ sym (both c i ∙ (ap (λ (l : List (Note E)). by_caller c (notes_at i v.mine) ++ l) (by_at_none c i w.mine (o.strange other w them c ne)) ∙ append-nil (by_caller c (notes_at i v.mine)))))))
            (λ c e. absurd (never c e))
            (λ k u x y at c e i h. dite (ℕ_discrete (o.keeper c) other) (λ z. absurd (x (sym e ∙ its c z))) (λ ne. o.keeps k u at c (sym (old c ne) ∙ e) i h));
        strange = here (λ k (u : TurnView E H). (c : ℕ) → keeper c ≢ k → Apart c u)
            (λ c away. dite (ℕ_discrete (o.keeper c) other) (λ z. absurd (away (its c z))) (λ ne. neither c (λ z. away (old c ne ∙ z)) ne))
            (λ c away. tt)
            (λ k u x y at c away. o.strange k u at c (λ z. away (old c (λ q. y (sym z ∙ q)) ∙ z)));
        live = here (λ k (u : TurnView E H). 0 < u.parts → keeper u.caller ≡ k)
            (λ _. ap keeper caller ∙ (old v.caller (λ z. apart (sym z ∙ kept)) ∙ kept))
            (λ z. absurd (omega arith))
            (λ k u x y at live. let z = o.live k u at live in old u.caller (λ q. y (sym z ∙ q)) ∙ z);
        unborn = here (λ k (u : TurnView E H). 0 < u.parts → u.caller ≡ 0 → (c : ℕ) → u.splits < c → (keeper c ≡ k) × Apart c u)
            (λ _ zero-th c more. let t = o.unborn id v me some-part (sym caller ∙ zero-th) c (omega (arith, splits)) in let ne : o.keeper c ≢ other = λ z. apart (sym z ∙ t.0) in
            (old c ne ∙ t.0, mine (Each (λ (p : Placed E). p.note.caller ≢ c)) (each_append (λ (p : Placed E). p.note.caller ≢ c) v.mine w.mine t.1 (o.strange other w them c ne))))
            (λ z. absurd (omega arith))
            (λ k u x y at live zero-th c more. let t = o.unborn k u at live zero-th c more in (old c (λ q. y (sym t.0 ∙ q)) ∙ t.0, t.1));
      }

  -- a pass that was never split is the only caller, so a journal is what it gave
  pub callers_sole : (places : ℕ) (js : ℕ → List (Note E)) (vs : List (TurnView E H)) (id i : ℕ) (v : TurnView E H) → get_elem? vs id ≡ some v → 0 < v.parts → v.caller ≡ 0 → v.splits ≡ 0 → i < places → CallersOk places js vs → js i ≡ notes_at i v.mine
  callers_sole places js vs id i v me some-part first never near o =
      let others : (c : ℕ) → 0 < c → (o.keeper c ≡ id) × Apart c v = λ c low. o.unborn id v me some-part first c (omega arith) in
      let given : by_caller 0 (notes_at i v.mine) ≡ notes_at i v.mine = by_first (notes_at i v.mine) (λ c low. by_at_none c i v.mine (others c low).1) in
      let there : by_caller 0 (js i) ≡ js i = by_first (js i) (λ c low. o.keeps id v me c (others c low).0 i near ∙ by_at_none c i v.mine (others c low).1) in
      sym there ∙ (o.keeps id v me 0 (ap o.keeper (sym first) ∙ o.live id v me some-part) i near ∙ given)

  -- a journal has each entry that a pass gave at its place, or that a pass that it joined did
  pub callers_all : (places : ℕ) (js : ℕ → List (Note E)) (vs : List (TurnView E H)) (k i : ℕ) (v : TurnView E H) → get_elem? vs k ≡ some v → i < places → CallersOk places js vs → HasAllAt i v.mine (js i)
  callers_all places js vs k i v me near o = has_each (notes_at i v.mine) (js i) (λ c. dite (ℕ_discrete (o.keeper c) k)
      (λ z. inr (o.keeps k v me c z i near))
      (λ ne. inl (by_at_none c i v.mine (o.strange k v me c ne))))

  -- at the start the first pass keeps all callers' entries
  pub callers_first : (places : ℕ) (v : TurnView E H) → v.mine ≡ [] → CallersOk places (λ (i : ℕ). []) (v ∷ [])
  callers_first places v empty =
      let only : (P : ℕ → TurnView E H → Type 0) → P 0 v → (k : ℕ) (u : TurnView E H) → get_elem? (v ∷ []) k ≡ some u → P k u = λ P p. at_more [] v P p (λ k u e. absurd (some-ne-none u (sym e))) in
      record {
        keeper = λ c. 0;
        inside = λ c. omega arith;
        keeps = only (λ k (u : TurnView E H). (c : ℕ) → 0 ≡ k → (i : ℕ) → i < places → by_caller c [] ≡ by_caller c (notes_at i u.mine)) (λ c e i h. ap (λ (l : List (Placed E)). by_caller c (notes_at i l)) (sym empty));
        strange = only (λ k (u : TurnView E H). (c : ℕ) → 0 ≢ k → Apart c u) (λ c ne. absurd (ne refl));
        live = only (λ k (u : TurnView E H). 0 < u.parts → 0 ≡ k) (λ z. refl);
        unborn = only (λ k (u : TurnView E H). 0 < u.parts → u.caller ≡ 0 → (c : ℕ) → u.splits < c → (0 ≡ k) × Apart c u) (λ _ _ c _. (refl, subst (Each (λ (p : Placed E). p.note.caller ≢ c)) (sym empty) tt));
      }
