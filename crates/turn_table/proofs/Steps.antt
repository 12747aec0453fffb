-- Each kind of step keeps the rule: the five parts of it, put together.
use Rattle.std.proofs.Common.{◌≡◌, ℕ, zero, suc, ◌+◌, ◌-◌, ◌%◌, ◌^◌, ◌<◌, ◌≤◌, eqb, ◌≢◌, List, [], ◌∷◌, ◌++◌, map, length, get_or, set, sym, refl, ap, ◌∙◌, subst, arith, Option, Some, length-set, get_or-set_other, get_or-set_same}
use mathlib.Core.Logic.{dite}
use native.Mathlib.Decide.{ℕ_discrete}
use mathlib.Core.Option.{Option as Maybe, none, some, some-injective, some-ne-none}
use lib.ListN.{get_elem?}
use lib.Seq.{set-get_or}
use prog.Atomic.{either}
use Rattle.atomic_table.specs.Table.{State, step, Act, keeps, takes, gives, Valid, carried_after, stepped, opening, Allows, Splits, Joins, put_back}
use Rattle.atomic_table.proofs.Lists.{set_else, set_again, exchanged}
use Rattle.list_words.specs.Lists.{Each, total}
use Rattle.list_words.proofs.TotalLemmas.{total-append}
use Rattle.turn_table.specs.Journals.{Ascends, number, number_of, by_caller, Begins, HasAllAt}
use Rattle.turn_table.specs.Views.{first, newcomer, heard, nobody, cut, joined, looked, taking, drawing, giving}
use Rattle.turn_table.specs.Turning.{below, has_turn, Home, HasShare, Knows, SharesOk, EntriesOk, KnowledgeOk, CallersOk, Orderly}
use Rattle.turn_table.specs.Values.{AllNew}
use Rattle.turn_table.specs.Plays.{Sat, in_hand, Took, took, gave, drew, saw}
use Rattle.turn_table.specs.declared.note.Note.{Note}
use Rattle.turn_table.specs.declared.note.Placed.{Placed}
use Rattle.turn_table.specs.declared.view.TurnView.{TurnView}
use Rattle.list_words.proofs.PlaceLemmas.{total-set, term_le, terms_le, only_one}
use Rattle.turn_table.proofs.Sums.{ascends_more}
use Rattle.turn_table.proofs.ViewLists.{zero_not, turn_yes, turn_no}
use Rattle.turn_table.proofs.Updates.{upd, entries_none}
use Rattle.turn_table.proofs.ShareSteps.{share_within, share_draw, share_many, share_cut, share_new, share_none, share_first, share_join, shares_set, shares_snoc, shares_two, shares_few}
use Rattle.turn_table.proofs.TurnSteps.{turns_same, turns_take, turns_give}
use Rattle.turn_table.proofs.EntrySteps.{entries_same, entries_draw, entries_give}
use Rattle.turn_table.proofs.KnowledgeSteps.{knows_nothing, knows_cut, knowledge_draw, knowledge_look, knowledge_take, give_rises, knowledge_give, knowledge_snoc, knowledge_join}
use Rattle.turn_table.proofs.CallerSteps.{callers_same, callers_give, callers_tell, callers_split, callers_join, callers_first, callers_sole, callers_all}
use Rattle.turn_table.proofs.Whole.{count_is}

-- the item at a place of a mapped list
pub some_at : {A B : Type 0} (g : A → B) (xs : List A) (k : ℕ) (x : A) → get_elem? xs k ≡ some x → get_elem? (map g xs) k ≡ some (g x)
some_at g [] k x e = absurd (some-ne-none x (sym e))
some_at g (y ∷ ys) zero x e = ap (λ (z : _). some (g z)) (some-injective y x e)
some_at g (y ∷ ys) (suc k) x e = some_at g ys k x e

-- a mapped list is as long
pub length-map : {A B : Type 0} (g : A → B) (xs : List A) → length (map g xs) ≡ length xs
length-map g [] = refl
length-map g (x ∷ xs) = omega (arith, length-map g xs)

module _ {V E H : Type 0} (notes : V → List (Note E)) (fits : ℕ → ℕ → V → Type 0) (key : H) where
  abbrev St : Type 0
  St = State (Option V) (TurnView E H)

  abbrev Holds : St → Type 0
  Holds = Orderly notes fits key

  -- a step that changes nothing
  unmoved : (s : St) (i id : ℕ) (c : List (ℕ × Option V)) (v : TurnView E H) → Holds s → get_elem? s.views id ≡ some v → Holds (stepped s i (get_or s.words i 0) id c v keeps)
  unmoved s i id c v o me = rw (set-get_or s.words i 0, set_again s.views id v me) o

  -- who has a turn has a part
  has_part : (s : St) (o : Holds s) (id : ℕ) (v : TurnView E H) → get_elem? s.views id ≡ some v → v.at ≢ 0 → 0 < v.parts
  has_part s o id v me out = dite (ℕ_discrete v.parts 0) (λ z. absurd (out ((o.knowledge.knows id v me).idle z).1)) (λ ne. omega arith)

  -- draw a number
  pub draws : (slots id : ℕ) (m : Sat notes H) → m.0.at ≢ 0 → m.0.draws < 281474976710656 → Allows Holds slots id m 0 (λ n. (n + 1) % 2 ^ 64) (drew notes (step slots 0 1 0 none) m)
  draws slots id m out room s o len me _ =
      let v = m.0 in
      let x : ℕ = get_or s.words 0 0 in
      let small : x ≤ 4611686018427387904 = shares_few x s.views o.shares in
      let new : ℕ = (x + 1) % 2 ^ 64 in
      let ws : List ℕ = set s.words 0 new in
      let wide = o.wide in
      let here : get_or ws 0 0 ≡ x + 1 = omega (arith, get_or-set_same s.words 0 new 0 (omega arith)) in
      let other : (i : ℕ) → get_or ws (1 + i) 0 ≡ get_or s.words (1 + i) 0 = λ i. get_or-set_other s.words 0 (1 + i) new 0 (λ e. omega arith) in
      let w : TurnView E H = drawing v x in
      let vs : List (TurnView E H) = set s.views id w in
      let h = o.shares.each id v me in (
        w,
        keeps,
        tt,
        record {
          journals = o.journals;
          wide = length-set s.words 0 new ∙ o.wide;
          shares = subst (λ (n : ℕ). SharesOk n vs) (sym here) (shares_set x (x + 1) s.views id v w me refl (omega arith) (share_draw v.caller v.parts v.splits v.draws v.tickets room (has_part s o id v me out) h) o.shares);
          turns = turns_same notes fits s.homes o.journals (λ i. get_or s.words (1 + i) 0) (λ i. get_or ws (1 + i) 0) s.views vs other (λ i. omega (arith, total-set (has_turn i) s.views id v w me)) o.turns;
          entries_ok = subst (λ (n : ℕ). EntriesOk n (length s.homes) o.journals vs) (sym here) (entries_draw x (length s.homes) o.journals s.views id v w me refl refl o.entries_ok);
          knowledge = subst (λ (n : ℕ). KnowledgeOk key n (length s.homes) o.journals vs) (sym here) (knowledge_draw key o.journals x (length s.homes) s.views id v me out o.knowledge);
          callers = callers_same (length s.homes) o.journals s.views id v w me refl refl refl refl o.callers;
        },
        ((o.knowledge.knows id v me).seen, refl),
      )

  -- load the count
  pub looks : (slots id : ℕ) (m : Sat notes H) → Allows Holds slots id m 0 (λ n. n) (saw notes (step slots 0 0 0 none) m)
  looks slots id m s o len me _ =
      let v = m.0 in
      let x : ℕ = get_or s.words 0 0 in
      let w : TurnView E H = looked v x in
      let vs : List (TurnView E H) = set s.views id w in
      let F : List ℕ → Type 0 = λ ws. Holds (record { words = ws; homes = s.homes; views = vs }) in (
        w,
        keeps,
        tt,
        subst F (sym (set-get_or s.words 0 0)) record {
          journals = o.journals;
          wide = o.wide;
          shares = shares_set x x s.views id v w me refl refl (o.shares.each id v me) o.shares;
          turns = turns_same notes fits s.homes o.journals (λ i. get_or s.words (1 + i) 0) (λ i. get_or s.words (1 + i) 0) s.views vs (λ i. refl) (λ i. omega (arith, total-set (has_turn i) s.views id v w me)) o.turns;
          entries_ok = entries_same x (length s.homes) o.journals s.views vs (λ f. omega (arith, total-set (λ (u : TurnView E H). total f u.mine) s.views id v w me)) (λ f. omega (arith, total-set (λ (u : TurnView E H). total f u.drawn) s.views id v w me)) o.entries_ok;
          knowledge = knowledge_look key o.journals x (length s.homes) s.views id v me o.knowledge;
          callers = callers_same (length s.homes) o.journals s.views id v w me refl refl refl refl o.callers;
        },
        ((o.knowledge.knows id v me).seen, refl, λ all. count_is key o.journals x (length s.homes) s.views id v all me o.shares o.entries_ok o.knowledge),
      )

  -- the table after a turn was taken
  seizes : (s : St) (o : Holds s) (i id : ℕ) (v : TurnView E H) → i < length s.homes → v.at ≡ 0 → 0 < v.parts → get_elem? s.views id ≡ some v → get_or s.words (1 + i) 0 ≡ 0
      → (h : Home notes fits s.homes (o.journals i) i)
      → Holds (record { words = set s.words (1 + i) 1; homes = set s.homes i none; views = set s.views id (taking v i (get_or s.words 0 0) (notes h.value)) })
  seizes s o i id v near free some-part me clear h =
      let x : ℕ = get_or s.words 0 0 in
      let w : TurnView E H = taking v i x (notes h.value) in
      let vs : List (TurnView E H) = set s.views id w in
      let wide = o.wide in
      let ws : List ℕ = set s.words (1 + i) 1 in
      let here : get_or ws (1 + i) 0 ≡ 1 = get_or-set_same s.words (1 + i) 1 0 (omega arith) in
      let clock : get_or ws 0 0 ≡ x = get_or-set_other s.words (1 + i) 0 1 0 (λ e. omega arith) in
      let other : (j : ℕ) → j ≢ i → get_or ws (1 + j) 0 ≡ get_or s.words (1 + j) 0 = λ j ne. get_or-set_other s.words (1 + i) (1 + j) 1 0 (λ e. ne (omega arith)) in
      let long : length (set s.homes i none) ≡ length s.homes = length-set s.homes i none in
      let none-drawn : v.drawn ≡ [] = ((o.knowledge.knows id v me).loose free).1 in
      let none-out : (k : ℕ) (u : TurnView E H) → get_elem? s.views k ≡ some u → u.at ≢ i + 1 = λ k u e a. let t = o.turns.locks i near in omega (arith, turn_yes i u a, term_le (has_turn i) s.views k u e, t.0) in
      record {
        journals = o.journals;
        wide = length-set s.words (1 + i) 1 ∙ (o.wide ∙ ap (λ (n : ℕ). 1 + n) (sym long));
        shares = subst (λ (n : ℕ). SharesOk n vs) (sym clock) (shares_set x x s.views id v w me refl refl (o.shares.each id v me) o.shares);
        turns = turns_take notes fits s.homes o.journals (λ j. get_or s.words (1 + j) 0) (λ j. get_or ws (1 + j) 0) s.views id i v w me near free refl clear here other o.turns;
        entries_ok = subst (λ (n : ℕ). EntriesOk n (length (set s.homes i none)) o.journals vs) (sym clock) (subst (λ (n : ℕ). EntriesOk x n o.journals vs) (sym long)
            (entries_same x (length s.homes) o.journals s.views vs (λ f. omega (arith, total-set (λ (u : TurnView E H). total f u.mine) s.views id v w me)) (λ f. omega (arith, total-set (λ (u : TurnView E H). total f u.drawn) s.views id v w me, ap (total f) none-drawn)) o.entries_ok));
        knowledge = subst (λ (n : ℕ). KnowledgeOk key n (length (set s.homes i none)) o.journals vs) (sym clock) (subst (λ (n : ℕ). KnowledgeOk key x n o.journals vs) (sym long)
            (knowledge_take key o.journals x (length s.homes) s.views id i v (notes h.value) me near some-part h.is (o.entries_ok.rising i near) none-out o.knowledge));
        callers = subst (λ (n : ℕ). CallersOk n o.journals vs) (sym long) (callers_same (length s.homes) o.journals s.views id v w me refl refl refl refl o.callers);
      }

  -- what the values have in common is the key
  some-home : (l : List H) (home : H) → l ≡ home ∷ [] → l ≡ key ∷ [] → home ≡ key
  some-home l home e e' = let z : home ∷ [] ≡ key ∷ [] = sym e ∙ e' in cc

  -- a value that fits by the key fits by what the view has
  suited : (F : H → ℕ → ℕ → V → Type 0) → F key ≡ fits → (home : H) (i n : ℕ) (x : V) → home ≡ key → fits i n x → F home i n x
  suited F is home i n x e h = subst (λ (k : H). F k i n x) (sym e) (subst (λ (G : ℕ → ℕ → V → Type 0). G i n x) (sym is) h)

  -- what a take shows
  tells_of_take : (F : H → ℕ → ℕ → V → Type 0) → F key ≡ fits → (s : St) (o : Holds s) (slots i id : ℕ) (m : Sat notes H) → i < length s.homes → length s.homes ≡ slots → 0 < m.0.parts → get_elem? s.views id ≡ some m.0 → (h : Home notes fits s.homes (o.journals i) i)
      → Took notes F i slots m (taking m.0 i (get_or s.words 0 0) (notes h.value), (i, Some h.value) ∷ m.1)
  tells_of_take F is s o slots i id m near len some-part me h =
      let mine = o.knowledge.knows id m.0 me in
      record {
        value = h.value;
        slot = refl;
        suits = λ home e. suited F is home i slots h.value (some-home m.0.home home e (mine.about some-part)) (subst (λ (n : ℕ). fits i n h.value) len h.suits);
        later = mine.seen;
        view = refl;
        rising = subst (λ (l : List (Note E)). Ascends (get_or s.words 0 0) (map number l)) (sym h.is) (o.entries_ok.rising i near);
        own = ap (by_caller m.0.caller) h.is ∙ o.callers.keeps id m.0 me m.0.caller (o.callers.live id m.0 me some-part) i near;
        sole = λ first never. h.is ∙ callers_sole (length s.homes) o.journals s.views id i m.0 me some-part first never near o.callers;
        before = λ k x e at. subst (Begins x) (ap o.journals at ∙ sym h.is) (mine.finds k x e).2;
        all = subst (HasAllAt i m.0.mine) (sym h.is) (callers_all (length s.homes) o.journals s.views id i m.0 me near o.callers);
      }

  -- take a turn, where it is free
  pub takes_turn : (F : H → ℕ → ℕ → V → Type 0) → F key ≡ fits → (slots id i : ℕ) (m : Sat notes H) → i < slots → m.0.at ≡ 0 → 0 < m.0.parts
      → Allows Holds slots id m (1 + i) (λ n. either (eqb n 0) 1 n) (took notes F (step slots (1 + i) 0 1 none) m)
  takes_turn F is slots id i m near free some-part s o len me _ =
      let P : ℕ → Type 0 = λ n. (w : TurnView E H) × (a : Act (Option V)) × Valid s.homes m.1 a × Holds (stepped s (1 + i) n id m.1 w a) × took notes F (step slots (1 + i) 0 1 none) m (get_or s.words (1 + i) 0) (w, carried_after m.1 a) in
      let near' : i < length s.homes = omega arith in
      exchanged (get_or s.words (1 + i) 0) 0 1 P
      (λ clear. let h = o.turns.home i near' clear in (
        taking m.0 i (get_or s.words 0 0) (notes h.value),
        takes i (Some h.value),
        h.there,
        seizes s o i id m.0 near' free some-part me clear h,
        (
          (λ _. let k : 1 + i - 1 ≡ i = omega arith in rw k (tells_of_take F is s o slots i id m near' len some-part me h)),
          λ ne. absurd (ne clear),
        ),
      ))
      (λ held. (m.0, keeps, tt, unmoved s (1 + i) id m.1 m.0 o me, ((λ z. absurd (held z)), λ _. refl)))

  -- give a turn back
  pub returns_turn : (slots id i : ℕ) (m : Sat notes H) (value : V) (more : List (ℕ × Option V)) → i < slots → m.0.at ≡ i + 1 → m.1 ≡ (i, Some value) ∷ more
      → fits i slots value → notes value ≡ m.0.found ++ in_hand notes m.0 m.1 → map number (in_hand notes m.0 m.1) ≡ m.0.drawn → Each (λ (x : Note E). x.caller ≡ m.0.caller) (in_hand notes m.0 m.1)
      → Allows Holds slots id m (1 + i) (λ _. 0) (λ _. gave notes (step slots (1 + i) 0 0 none) m 0)
  returns_turn slots id i m value more near at hand suits grown numbered own s o len me _ =
      let v = m.0 in
      let x : ℕ = get_or s.words 0 0 in
      let new : List (Note E) = in_hand notes v m.1 in
      let w : TurnView E H = giving v i new in
      let vs : List (TurnView E H) = set s.views id w in
      let wide = o.wide in
      let near' : i < length s.homes = omega arith in
      let ws : List ℕ = set s.words (1 + i) 0 in
      let hs : List (Maybe (Option V)) = set s.homes i (some (Some value)) in
      let here : get_or ws (1 + i) 0 ≡ 0 = get_or-set_same s.words (1 + i) 0 0 (omega arith) in
      let clock : get_or ws 0 0 ≡ x = get_or-set_other s.words (1 + i) 0 0 0 (λ e. omega arith) in
      let other : (j : ℕ) → j ≢ i → get_or ws (1 + j) 0 ≡ get_or s.words (1 + j) 0 = λ j ne. get_or-set_other s.words (1 + i) (1 + j) 0 0 (λ e. ne (omega arith)) in
      let long : length hs ≡ length s.homes = length-set s.homes i (some (Some value)) in
      let mine = o.knowledge.knows id v me in
      let low : v.seen ≤ x = mine.seen in
      let l : List (Note E) = notes value in
      let grew : l ≡ o.journals i ++ new = grown ∙ ap (λ (ys : List (Note E)). ys ++ new) (mine.here i at) in
      let js : ℕ → List (Note E) = upd o.journals i l in
      let lock = o.turns.locks i near' in
      let alone : (k : ℕ) (u : TurnView E H) → k ≢ id → get_elem? s.views k ≡ some u → u.at ≢ i + 1 = λ k u ne e z.
      omega (arith, terms_le (has_turn i) s.views id k v u ne me e, turn_yes i u z, turn_yes i v at, lock.0, lock.1) in
      let rises : Ascends x (map number l) = let r = give_rises key v l new grown numbered mine.rising in ascends_more v.seen x (map number l) low r in
      let F : List (ℕ × Option V) → Type 0 = λ c. Holds (record { words = ws; homes = put_back s.homes c; views = vs }) in (
        w,
        gives,
        tt,
        subst F (sym hand) record {
          journals = js;
          wide = length-set s.words (1 + i) 0 ∙ (o.wide ∙ ap (λ (n : ℕ). 1 + n) (sym long));
          shares = subst (λ (n : ℕ). SharesOk n vs) (sym clock) (shares_set x x s.views id v w me refl refl (o.shares.each id v me) o.shares);
          turns = turns_give notes fits s.homes o.journals (λ j. get_or s.words (1 + j) 0) (λ j. get_or ws (1 + j) 0) s.views id i v w value me near' at refl here other (subst (λ (n : ℕ). fits i n value) (sym len) suits) o.turns;
          entries_ok = subst (λ (n : ℕ). EntriesOk n (length hs) js vs) (sym clock) (subst (λ (n : ℕ). EntriesOk x n js vs) (sym long) (entries_give x (length s.homes) o.journals s.views id i v w l new me near' grew numbered refl refl rises o.entries_ok));
          knowledge = subst (λ (n : ℕ). KnowledgeOk key n (length hs) js vs) (sym clock) (subst (λ (n : ℕ). KnowledgeOk key x n js vs) (sym long) (knowledge_give key o.journals x (length s.homes) s.views id i v l new me at grown numbered alone o.knowledge));
          callers = subst (λ (n : ℕ). CallersOk n js vs) (sym long) (callers_give (length s.homes) o.journals s.views id i v w l new me (has_part s o id v me (λ z. absurd (omega arith))) grew own refl refl refl refl o.callers);
        },
        (let k : 1 + i - 1 ≡ i = omega arith in rw k refl),
      )

  -- split a seat
  pub splits : (id : ℕ) (v : TurnView E H) → v.caller ≡ 0 → 0 < v.parts → v.splits < 16382 → Splits Holds id v (cut v) (newcomer v.home (v.splits + 1) v.seen)
  splits id v zero-th some-part few s o me =
      let x : ℕ = get_or s.words 0 0 in
      let w : TurnView E H = cut v in
      let n : TurnView E H = newcomer v.home (v.splits + 1) v.seen in
      let vs : List (TurnView E H) = set s.views id w ++ n ∷ [] in
      let mine = o.knowledge.knows id v me in
      let h = o.shares.each id v me in
      let many : 2 < v.parts = share_many v.caller v.parts v.splits v.draws v.tickets zero-th few some-part h in
      let sum : (g : TurnView E H → ℕ) → total g vs + g v ≡ total g s.views + g w + g n = λ g. omega (arith, total-append g (set s.views id w) (n ∷ []), total-set g s.views id v w me) in
      record {
        journals = o.journals;
        wide = o.wide;
        shares = shares_snoc x s.views id v w n me (omega arith) refl refl (share_cut v.caller v.parts v.splits v.draws v.tickets zero-th few some-part h) (share_new v.splits) o.shares;
        turns = turns_same notes fits s.homes o.journals (λ i. get_or s.words (1 + i) 0) (λ i. get_or s.words (1 + i) 0) s.views vs (λ i. refl) (λ i. omega (arith, sum (has_turn i), turn_no i n (zero_not i))) o.turns;
        entries_ok = entries_same x (length s.homes) o.journals s.views vs (λ f. omega (arith, sum (λ (u : TurnView E H). total f u.mine))) (λ f. omega (arith, sum (λ (u : TurnView E H). total f u.drawn))) o.entries_ok;
        knowledge = knowledge_snoc key o.journals x (length s.homes) s.views id v w n me (knows_cut key o.journals x (length s.homes) v many mine) (knows_nothing key o.journals x (length s.homes) n (λ _. mine.about some-part) mine.seen refl refl refl refl refl refl) refl refl refl refl refl o.knowledge;
        callers = callers_split (length s.homes) o.journals s.views id v w n me some-part zero-th refl refl refl refl refl o.callers;
      }

  -- split off a seat that only reports what was seen
  pub tells : (id : ℕ) (v : TurnView E H) → Splits Holds id v v (heard v.home v.seen)
  tells id v s o me =
      let x : ℕ = get_or s.words 0 0 in
      let n : TurnView E H = heard v.home v.seen in
      let vs : List (TurnView E H) = set s.views id v ++ n ∷ [] in
      let mine = o.knowledge.knows id v me in
      let same : set s.views id v ≡ s.views = set_again s.views id v me in
      let sum : (g : TurnView E H → ℕ) → total g vs ≡ total g s.views + g n = λ g. omega (arith, total-append g (set s.views id v) (n ∷ []), total-set g s.views id v v me) in
      record {
        journals = o.journals;
        wide = o.wide;
        shares = shares_snoc x s.views id v v n me (omega arith) refl refl (o.shares.each id v me) share_none o.shares;
        turns = turns_same notes fits s.homes o.journals (λ i. get_or s.words (1 + i) 0) (λ i. get_or s.words (1 + i) 0) s.views vs (λ i. refl) (λ i. omega (arith, sum (has_turn i), turn_no i n (zero_not i))) o.turns;
        entries_ok = entries_same x (length s.homes) o.journals s.views vs (λ f. omega (arith, sum (λ (u : TurnView E H). total f u.mine))) (λ f. omega (arith, sum (λ (u : TurnView E H). total f u.drawn))) o.entries_ok;
        knowledge = knowledge_snoc key o.journals x (length s.homes) s.views id v v n me mine (knows_nothing key o.journals x (length s.homes) n (λ z. absurd (omega arith)) mine.seen refl refl refl refl refl refl) refl refl refl refl refl o.knowledge;
        callers = subst (λ (l : List (TurnView E H)). CallersOk (length s.homes) o.journals (l ++ n ∷ [])) (sym same) (callers_tell (length s.homes) o.journals s.views n refl refl o.callers);
      }

  -- join a seat
  pub joins : (id : ℕ) (v : TurnView E H) (other : ℕ) (w : TurnView E H) → 0 < v.parts → w.at ≡ 0 → Joins Holds id v other w (joined v w) nobody
  joins id v other w some-part still s o me apart there =
      let x : ℕ = get_or s.words 0 0 in
      let b : TurnView E H = joined v w in
      let vs : List (TurnView E H) = set (set s.views id b) other nobody in
      let before : get_elem? s.views other ≡ some w = sym (set_else s.views id other b apart) ∙ there in
      let none-drawn : w.drawn ≡ [] = ((o.knowledge.knows other w before).loose still).1 in
      let h = o.shares.each id v me in
      let h' = o.shares.each other w before in
      let two : (g : TurnView E H → ℕ) → total g vs + g w + g v ≡ total g s.views + g b + g nobody = λ g. omega (arith, total-set g (set s.views id b) other w nobody there, total-set g s.views id v b me) in
      record {
        journals = o.journals;
        wide = o.wide;
        shares = shares_two x s.views id other v w b me there refl refl (share_join v.caller v.parts v.splits v.draws v.tickets w.parts w.tickets some-part (share_within w.caller w.parts w.splits w.draws w.tickets h') h) o.shares;
        turns = turns_same notes fits s.homes o.journals (λ i. get_or s.words (1 + i) 0) (λ i. get_or s.words (1 + i) 0) s.views vs (λ i. refl) (λ i. omega (arith, two (has_turn i), turn_no i w (λ z. omega arith), turn_no {E = E} {H = H} i nobody (zero_not i))) o.turns;
        entries_ok = entries_same x (length s.homes) o.journals s.views vs (λ f. omega (arith, two (λ (u : TurnView E H). total f u.mine), total-append f v.mine w.mine)) (λ f. omega (arith, two (λ (u : TurnView E H). total f u.drawn), ap (total f) none-drawn)) o.entries_ok;
        knowledge = knowledge_join key o.journals x (length s.homes) s.views id other v w me before there some-part o.knowledge;
        callers = callers_join (length s.homes) o.journals s.views id other v w b me before apart some-part refl refl refl o.callers;
      }

  -- the new value at a place
  new_at : (xs : List V) (i n k : ℕ) → AllNew notes fits i n xs → k < length xs → (x : V) × (get_elem? xs k ≡ some x) × fits (i + k) n x × (notes x ≡ [])
  new_at [] i n k h l = absurd (omega arith)
  new_at (x ∷ xs) i n zero h l = let e : i ≡ i + 0 = omega arith in (x, refl, subst (λ (j : ℕ). fits j n x) e h.0, h.1)
  new_at (x ∷ xs) i n (suc k) h l = let t = new_at xs (i + 1) n k h.2 (omega arith) in let e : i + 1 + k ≡ i + suc k = omega arith in (t.0, t.1, subst (λ (j : ℕ). fits j n t.0) e t.2, t.3)

  -- the table at the start
  pub starts : (ws : List ℕ) (xs : List V) (ys : List (Option V)) → ys ≡ map Some xs → length ws ≡ 1 + length xs → ((i : ℕ) → get_or ws i 0 ≡ 0) → AllNew notes fits 0 (length xs) xs
      → Holds (opening ws ys (first key))
  starts ws xs ys is long clear new =
      let v : TurnView E H = first {E = E} key in
      let hs : List (Maybe (Option V)) = map (λ (y : Option V). some y) (map Some xs) in
      let len : length hs ≡ length xs = length-map (λ (y : Option V). some y) (map Some xs) ∙ length-map Some xs in
      let x : ℕ = get_or ws 0 0 in
      let only : (P : TurnView E H → Type 0) → P v → (k : ℕ) (u : TurnView E H) → get_elem? (v ∷ []) k ≡ some u → P u = λ P p k u e. subst P (only_one v u k e) p in
      rw is record {
        journals = λ i. [];
        wide = omega (arith, len);
        shares = record { parts = refl; tickets = sym (clear 0); each = only (λ (u : TurnView E H). HasShare u.caller u.parts u.splits u.draws u.tickets) share_first };
        turns = record {
          locks = λ i h. (omega (arith, turn_no i v (zero_not i), clear (1 + i)), omega (arith, clear (1 + i)));
          home = λ i h e. let t = new_at xs 0 (length xs) i new (omega arith) in let same : 0 + i ≡ i = omega arith in
              record { value = t.0; there = some_at (λ (y : Option V). some y) (map Some xs) i (Some t.0) (some_at Some xs i t.0 t.1); suits = subst (λ (j : ℕ). fits j (length hs) t.0) same (subst (λ (n : ℕ). fits (0 + i) n t.0) (sym len) t.2); is = t.3 };
        };
        entries_ok = record {
          rising = λ i h. (tt, tt);
          balance = λ f. entries_none f (length hs);
          numbers = λ f. omega (arith, entries_none (λ (p : Placed E). f (number_of p)) (length hs), ap (below f) (clear 0));
        };
        knowledge = record {
          knows = only (Knows key (λ (i : ℕ). []) x (length hs)) (knows_nothing key (λ (i : ℕ). []) x (length hs) v (λ z. refl) (omega arith) refl refl refl refl refl refl);
          ahead = λ f g. absurd (only (λ (u : TurnView E H). get_elem? u.finds g.nth ≡ some f → ⊥) (λ z. some-ne-none f (sym z)) g.who g.view g.has g.is);
        };
        callers = callers_first (length hs) v refl;
      }
