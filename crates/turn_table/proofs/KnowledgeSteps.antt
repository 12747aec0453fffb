-- What each pass knows, step by step.
use Rattle.std.proofs.Common.{◌≡◌, ℕ, ◌+◌, ◌<◌, ◌≤◌, ◌≢◌, max, List, [], ◌∷◌, ◌++◌, map, set, sym, refl, ap, ◌∙◌, subst, ⊎_elim, arith, append_assoc}
use mathlib.Core.Logic.{dite}
use native.Mathlib.Decide.{ℕ_discrete}
use mathlib.Core.Option.{some, some-ne-none}
use lib.ListN.{get_elem?}
use Rattle.atomic_table.proofs.Lists.{at_snoc}
use Rattle.list_words.specs.Lists.{Each}
use Rattle.list_words.proofs.EachLemmas.{each_append, each_weaken, each_map, each_unmap}
use Rattle.turn_table.specs.Journals.{Ascends, number, number_of, placed, Begins}
use Rattle.turn_table.specs.Views.{nobody, cut, joined, looked, taking, drawing, giving}
use Rattle.turn_table.specs.Turning.{Found, Knows, KnowledgeOk}
use Rattle.turn_table.specs.declared.note.Note.{Note}
use Rattle.turn_table.specs.declared.note.Placed.{Placed}
use Rattle.turn_table.specs.declared.note.Find.{Find}
use Rattle.turn_table.specs.declared.view.TurnView.{TurnView}
use Rattle.std.proofs.lemmas.List.{map-append, append-nil}
use Rattle.turn_table.proofs.Sums.{at_append, ascends_more, ascends_push, ascends_last}
use Rattle.turn_table.proofs.Updates.{upd, upd_here, upd_else}
use Rattle.turn_table.proofs.ViewLists.{zero_not, at_each, at_each_snoc, at_each_two, found_back, found_same, found_snoc, found_two}

module _ {E H : Type 0} (key : H) where
  -- what is known stays so while the count rises
  knows_more : (js : ℕ → List (Note E)) (m n places : ℕ) (v : TurnView E H) → m ≤ n → Knows key js m places v → Knows key js n places v
  knows_more js m n places v h k = let low = k.seen in record { about = k.about; seen = omega arith; here = k.here; rising = k.rising; loose = k.loose; idle = k.idle; finds = k.finds; mine = k.mine; loads = k.loads }

  -- one that knows nothing of journals
  pub knows_nothing : (js : ℕ → List (Note E)) (n places : ℕ) (v : TurnView E H) → (0 < v.parts → v.home ≡ key ∷ []) → v.seen ≤ n → v.at ≡ 0 → v.found ≡ [] → v.drawn ≡ [] → v.finds ≡ [] → v.mine ≡ [] → v.loads ≡ [] → Knows key js n places v
  knows_nothing js n places v about low still nothing none-drawn none-found empty no-load = record {
    about = about;
    seen = low;
    here = λ i z. absurd (omega arith);
    rising = subst (λ (l : List (Note E)). Ascends v.seen (map number l ++ v.drawn)) (sym nothing) (subst (Ascends v.seen) (sym none-drawn) (tt, tt));
    loose = λ _. (nothing, none-drawn);
    idle = λ _. (empty, still);
    finds = λ k f e. absurd (some-ne-none f (sym (ap (λ (l : List (Find E)). get_elem? l k) (sym none-found) ∙ e)));
    mine = subst (Each (λ (p : Placed E). number_of p < v.seen)) (sym empty) tt;
    loads = subst (Each (λ x. x ≤ v.seen)) (sym no-load) tt;
  }

  -- the count that some pass found is below what that pass has seen
  since_low : (js : ℕ → List (Note E)) (n places : ℕ) (vs : List (TurnView E H)) (x : Find E) → KnowledgeOk key n places js vs → Found vs x → x.since ≤ n
  since_low js n places vs x o f = let t = ((o.knows f.who f.view f.has).finds f.nth x f.is).1 in let z = (o.knows f.who f.view f.has).seen in omega arith

  -- a number is drawn
  pub knowledge_draw : (js : ℕ → List (Note E)) (n places : ℕ) (vs : List (TurnView E H)) (id : ℕ) (v : TurnView E H) → get_elem? vs id ≡ some v → v.at ≢ 0 → KnowledgeOk key n places js vs → KnowledgeOk key (n + 1) places js (set vs id (drawing v n))
  knowledge_draw js n places vs id v me out o =
      let mine = o.knows id v me in
      let low : v.seen ≤ n = mine.seen in
      let w : TurnView E H = drawing v n in
      record {
        knows = at_each vs id w (λ _. Knows key js (n + 1) places)
            record {
              about = mine.about;
              seen = omega arith;
              here = mine.here;
              rising = rw (← append_assoc) (ascends_push v.seen (n + 1) (map number v.found ++ v.drawn) n low (omega arith) mine.rising);
              loose = λ z. absurd (out z);
              idle = mine.idle;
              finds = λ k f e. let t = mine.finds k f e in (t.0, omega (arith, t.1), t.2);
              mine = each_weaken (λ (p : Placed E). number_of p < v.seen) (λ (p : Placed E). number_of p < n + 1) v.mine (λ p h. omega arith) mine.mine;
              loads = each_weaken (λ x. x ≤ v.seen) (λ x. x ≤ n + 1) v.loads (λ x h. omega arith) mine.loads;
            }
            (λ k u _ e. knows_more js n (n + 1) places u (omega arith) (o.knows k u e));
        ahead = λ f found l u e at. let before = found_same vs id v w f me refl found in
            at_each vs id w (λ _ (u : TurnView E H). u.at ≡ f.place + 1 → Each (λ (y : ℕ). f.since ≤ y) u.drawn)
            (λ a. each_append (λ (y : ℕ). f.since ≤ y) v.drawn (n ∷ []) (o.ahead f before id v me a) (since_low js n places vs f o before, tt))
            (λ k y _ e a. o.ahead f before k y e a) l u e at;
      }

  -- the count is seen
  pub knowledge_look : (js : ℕ → List (Note E)) (n places : ℕ) (vs : List (TurnView E H)) (id : ℕ) (v : TurnView E H) → get_elem? vs id ≡ some v → KnowledgeOk key n places js vs → KnowledgeOk key n places js (set vs id (looked v n))
  knowledge_look js n places vs id v me o =
      let mine = o.knows id v me in
      let low : v.seen ≤ n = mine.seen in
      let w : TurnView E H = looked v n in
      record {
        knows = at_each vs id w (λ _. Knows key js n places)
            record {
              about = mine.about;
              seen = omega arith;
              here = mine.here;
              rising = ascends_more v.seen n (map number v.found ++ v.drawn) low mine.rising;
              loose = mine.loose;
              idle = mine.idle;
              finds = λ k f e. let t = mine.finds k f e in (t.0, omega (arith, t.1), t.2);
              mine = each_weaken (λ (p : Placed E). number_of p < v.seen) (λ (p : Placed E). number_of p < n) v.mine (λ p h. omega arith) mine.mine;
              loads = each_append (λ x. x ≤ n) v.loads (n ∷ []) (each_weaken (λ x. x ≤ v.seen) (λ x. x ≤ n) v.loads (λ x h. omega arith) mine.loads) (omega arith, tt);
            }
            (λ k u _ e. o.knows k u e);
        ahead = λ f found l u e at. let before = found_same vs id v w f me refl found in
            at_each vs id w (λ _ (u : TurnView E H). u.at ≡ f.place + 1 → Each (λ (y : ℕ). f.since ≤ y) u.drawn)
            (λ a. o.ahead f before id v me a) (λ k y _ e a. o.ahead f before k y e a) l u e at;
      }

  -- a turn is taken, and the journal found
  pub knowledge_take : (js : ℕ → List (Note E)) (n places : ℕ) (vs : List (TurnView E H)) (id i : ℕ) (v : TurnView E H) (ns : List (Note E)) → get_elem? vs id ≡ some v → i < places → 0 < v.parts → ns ≡ js i → Ascends n (map number (js i))
      → ((k : ℕ) (u : TurnView E H) → get_elem? vs k ≡ some u → u.at ≢ i + 1) → KnowledgeOk key n places js vs → KnowledgeOk key n places js (set vs id (taking v i n ns))
  knowledge_take js n places vs id i v ns me near some-part is rises none-out o =
      let mine = o.knows id v me in
      let low : v.seen ≤ n = mine.seen in
      let w : TurnView E H = taking v i n ns in
      let now : Find E = record { place = i; since = n; notes = ns } in
      record {
        knows = at_each vs id w (λ _. Knows key js n places)
            record {
              about = mine.about;
              seen = omega arith;
              here = λ j a. let same : i ≡ j = omega arith in is ∙ ap js same;
              rising = rw (append-nil (map number ns), is) rises;
              loose = λ z. absurd (omega arith);
              idle = λ z. absurd (omega arith);
              finds = λ k f e. ⊎_elim (λ z. let t = mine.finds k f z in (t.0, omega (arith, t.1), t.2))
                  (λ z. subst (λ (f : Find E). (f.place < places) × (f.since ≤ n) × Begins f (js f.place)) z (near, omega arith, record { more = []; is = sym (append-nil ns ∙ is); late = tt }))
                  (at_snoc v.finds now f k e);
              mine = each_weaken (λ (p : Placed E). number_of p < v.seen) (λ (p : Placed E). number_of p < n) v.mine (λ p h. omega arith) mine.mine;
              loads = each_weaken (λ x. x ≤ v.seen) (λ x. x ≤ n) v.loads (λ x h. omega arith) mine.loads;
            }
            (λ k u _ e. o.knows k u e);
        ahead = λ f found l u e at.
            at_each vs id w (λ _ (u : TurnView E H). u.at ≡ f.place + 1 → Each (λ (y : ℕ). f.since ≤ y) u.drawn)
            (λ a. tt)
            (λ k y _ z a. ⊎_elim (λ before. o.ahead f before k y z a)
            (λ is-new. absurd (none-out k y z (a ∙ ap (λ (f : Find E). f.place + 1) (sym is-new))))
            (found_back vs id v w f (now ≡ f) me (λ m z. at_snoc v.finds now f m z) found))
            l u e at;
      }

  -- the numbers of what is given back ascend
  pub give_rises : (v : TurnView E H) (l new : List (Note E)) → l ≡ v.found ++ new → map number new ≡ v.drawn → Ascends v.seen (map number v.found ++ v.drawn) → Ascends v.seen (map number l)
  give_rises v l new grown numbered rising = subst (Ascends v.seen) (sym (ap (map number) grown ∙ (map-append number v.found new ∙ ap (λ (ns : List ℕ). map number v.found ++ ns) numbered))) rising

  -- a turn is given back with new entries
  pub knowledge_give : (js : ℕ → List (Note E)) (n places : ℕ) (vs : List (TurnView E H)) (id i : ℕ) (v : TurnView E H) (l new : List (Note E)) → get_elem? vs id ≡ some v → v.at ≡ i + 1 → l ≡ v.found ++ new → map number new ≡ v.drawn
      → ((k : ℕ) (u : TurnView E H) → k ≢ id → get_elem? vs k ≡ some u → u.at ≢ i + 1) → KnowledgeOk key n places js vs → KnowledgeOk key n places (upd js i l) (set vs id (giving v i new))
  knowledge_give js n places vs id i v l new me at grown numbered alone o =
      let mine = o.knows id v me in
      let w : TurnView E H = giving v i new in
      let js' : ℕ → List (Note E) = upd js i l in
      let grew : l ≡ js i ++ new = grown ∙ ap (λ (ys : List (Note E)). ys ++ new) (mine.here i at) in
      let grows : (f : Find E) → Found vs f → Begins f (js' f.place) = λ f before.
      let b = ((o.knows before.who before.view before.has).finds before.nth f before.is).2 in
      dite (ℕ_discrete f.place i)
      (λ z. record {
        more = b.more ++ new;
        is = upd_here js i l f.place z ∙ (grew ∙ (ap (λ (ys : List (Note E)). ys ++ new) (ap js (sym z) ∙ b.is) ∙ append_assoc f.notes b.more new));
        late = each_append (λ (y : Note E). f.since ≤ y.number) b.more new b.late (each_unmap (λ (q : ℕ). f.since ≤ q) number new (subst (Each (λ (q : ℕ). f.since ≤ q)) (sym numbered) (o.ahead f before id v me (at ∙ ap (λ (q : ℕ). q + 1) (sym z)))));
      })
      (λ ne. record { more = b.more; is = upd_else js i l f.place ne ∙ b.is; late = b.late }) in
      let drawn_low : Each (λ (y : ℕ). y < v.seen) v.drawn = ascends_last v.seen (map number v.found) v.drawn mine.rising in
      record {
        knows = at_each vs id w (λ _. Knows key js' n places)
            record {
              about = mine.about;
              seen = mine.seen;
              here = λ j a. absurd (zero_not j a);
              rising = (tt, tt);
              loose = λ z. (refl, refl);
              idle = λ z. absurd (omega (arith, (mine.idle z).1));
              finds = λ k f e. let t = mine.finds k f e in (t.0, t.1, grows f record { who = id; view = v; has = me; nth = k; is = e });
              mine = each_append (λ (p : Placed E). number_of p < v.seen) v.mine (map (placed i) new) mine.mine
                  (each_map (λ (p : Placed E). number_of p < v.seen) (placed i) new (each_unmap (λ (y : ℕ). y < v.seen) number new (subst (Each (λ (y : ℕ). y < v.seen)) (sym numbered) drawn_low)));
              loads = mine.loads;
            }
            (λ k u ne f. let t = o.knows k u f in
            record {
              about = t.about;
              seen = t.seen;
              here = λ j a. t.here j a ∙ sym (upd_else js i l j (λ z. alone k u ne f (a ∙ ap (λ (q : ℕ). q + 1) z)));
              rising = t.rising;
              loose = t.loose;
              idle = t.idle;
              finds = λ q y e. let s = t.finds q y e in (s.0, s.1, grows y record { who = k; view = u; has = f; nth = q; is = e });
              mine = t.mine;
              loads = t.loads;
            });
        ahead = λ f found q u e a. let before = found_same vs id v w f me refl found in
            at_each vs id w (λ _ (u : TurnView E H). u.at ≡ f.place + 1 → Each (λ (y : ℕ). f.since ≤ y) u.drawn)
            (λ a. tt) (λ k y _ z a. o.ahead f before k y z a) q u e a;
      }

  -- a pass comes that has seen no more than another, which goes on knowing what it did
  pub knowledge_snoc : (js : ℕ → List (Note E)) (n places : ℕ) (vs : List (TurnView E H)) (id : ℕ) (v w x : TurnView E H) → get_elem? vs id ≡ some v → Knows key js n places w → Knows key js n places x → v.finds ≡ w.finds → w.at ≡ v.at → w.drawn ≡ v.drawn
      → x.finds ≡ [] → x.at ≡ 0 → KnowledgeOk key n places js vs → KnowledgeOk key n places js (set vs id w ++ x ∷ [])
  knowledge_snoc js n places vs id v w x me knows comes same at drawn empty still o = record {
    knows = at_each_snoc vs id w x (Knows key js n places) knows comes o.knows;
    ahead = λ f g. let before = found_snoc vs id v w x f me same empty g in at_each_snoc vs id w x (λ (u : TurnView E H). u.at ≡ f.place + 1 → Each (λ (y : ℕ). f.since ≤ y) u.drawn)
        (λ a. subst (Each (λ (y : ℕ). f.since ≤ y)) (sym drawn) (o.ahead f before id v me (sym at ∙ a))) (λ a. absurd (omega arith)) (λ k u e a. o.ahead f before k u e a);
  }

  -- a pass that gave a part away
  pub knows_cut : (js : ℕ → List (Note E)) (n places : ℕ) (v : TurnView E H) → 2 < v.parts → Knows key js n places v → Knows key js n places (cut v)
  knows_cut js n places v many k = record { about = λ _. k.about (omega arith); seen = k.seen; here = k.here; rising = k.rising; loose = k.loose; idle = λ z. absurd (omega arith); finds = k.finds; mine = k.mine; loads = k.loads }

  -- a pass learns what another knew, which is spent
  pub knowledge_join : (js : ℕ → List (Note E)) (n places : ℕ) (vs : List (TurnView E H)) (id other : ℕ) (v w : TurnView E H) → get_elem? vs id ≡ some v → get_elem? vs other ≡ some w → get_elem? (set vs id (joined v w)) other ≡ some w → 0 < v.parts
      → KnowledgeOk key n places js vs → KnowledgeOk key n places js (set (set vs id (joined v w)) other nobody)
  knowledge_join js n places vs id other v w me before there some-part o =
      let mine = o.knows id v me in
      let theirs = o.knows other w before in
      let low : v.seen ≤ n = mine.seen in
      let low' : w.seen ≤ n = theirs.seen in
      let b : TurnView E H = joined v w in
      record {
        knows = at_each_two vs id other b nobody (Knows key js n places)
            record {
              about = λ _. mine.about some-part;
              seen = omega arith;
              here = mine.here;
              rising = ascends_more v.seen (max v.seen w.seen) (map number v.found ++ v.drawn) (omega arith) mine.rising;
              loose = mine.loose;
              idle = λ z. absurd (omega arith);
              finds = λ k f e. ⊎_elim (λ z. let t = mine.finds k f z in (t.0, omega (arith, t.1), t.2)) (λ z. let t = theirs.finds z.0 f z.1 in (t.0, omega (arith, t.1), t.2)) (at_append v.finds w.finds k f e);
              mine = each_append (λ (p : Placed E). number_of p < max v.seen w.seen) v.mine w.mine
                  (each_weaken (λ (p : Placed E). number_of p < v.seen) (λ (p : Placed E). number_of p < max v.seen w.seen) v.mine (λ p h. omega arith) mine.mine)
                  (each_weaken (λ (p : Placed E). number_of p < w.seen) (λ (p : Placed E). number_of p < max v.seen w.seen) w.mine (λ p h. omega arith) theirs.mine);
              loads = each_append (λ x. x ≤ max v.seen w.seen) v.loads w.loads
                  (each_weaken (λ x. x ≤ v.seen) (λ x. x ≤ max v.seen w.seen) v.loads (λ x h. omega arith) mine.loads)
                  (each_weaken (λ x. x ≤ w.seen) (λ x. x ≤ max v.seen w.seen) w.loads (λ x h. omega arith) theirs.loads);
            }
            (knows_nothing js n places nobody (λ z. absurd (omega arith)) (omega arith) refl refl refl refl refl refl)
            o.knows;
        ahead = λ f g. let found = found_two vs id other v w b nobody f me before there refl refl g in at_each_two vs id other b nobody (λ (u : TurnView E H). u.at ≡ f.place + 1 → Each (λ (y : ℕ). f.since ≤ y) u.drawn)
            (λ a. o.ahead f found id v me a) (λ a. tt) (λ k u e a. o.ahead f found k u e a);
      }
