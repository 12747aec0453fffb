-- The table at the end, known by a pass that has every part.
use Rattle.std.proofs.Common.{◌≡◌, ℕ, zero, suc, ◌+◌, ◌<◌, ◌≤◌, List, [], ◌∷◌, ◌++◌, map, length, get_or, sym, refl, ap, ◌∙◌, subst, arith, Option, Some}
use mathlib.Core.Logic.{dite}
use native.Mathlib.Decide.{ℕ_discrete}
use mathlib.Core.Option.{some, some-injective}
use lib.ListN.{get_elem?}
use Rattle.atomic_table.specs.Table.{Final, Seen}
use Rattle.list_words.specs.Lists.{total, Each}
use Rattle.list_words.proofs.EachLemmas.{each_weaken, some_same}
use Rattle.list_words.proofs.TotalLemmas.{total-append}
use Rattle.turn_table.specs.Journals.{Ascends, number, number_of, placed, by_caller, notes_at, Begins}
use Rattle.turn_table.specs.Ends.{HoldsWhatWasGiven, IsInTheOrderOfEach, BeginsAsFound, AllAscend, NumbersAll}
use Rattle.turn_table.specs.Values.{AllFit, all_placed}
use Rattle.turn_table.specs.Turning.{below, entries, has_turn, Orderly}
use Rattle.turn_table.specs.declared.note.Note.{Note}
use Rattle.turn_table.specs.declared.note.Placed.{Placed}
use Rattle.turn_table.specs.declared.view.TurnView.{TurnView}
use Rattle.list_words.proofs.PlaceLemmas.{total-alone, at_below}
use Rattle.turn_table.proofs.Sums.{total-map, below_total}
use Rattle.turn_table.proofs.ViewLists.{turn_no}
use Rattle.turn_table.proofs.OfCallers.{by_at_none}
use Rattle.turn_table.proofs.Steps.{some_at, length-map}
use Rattle.turn_table.proofs.Whole.{others_idle, gave_all, drew_all, count_is}

-- there is an item at each place below the length
get_at : {A : Type 0} (xs : List A) (k : ℕ) → k < length xs → (x : A) × (get_elem? xs k ≡ some x)
get_at [] k h = absurd (omega arith)
get_at (y ∷ ys) zero h = (y, refl)
get_at (y ∷ ys) (suc k) h = get_at ys k (omega arith)

module _ {V E H : Type 0} (notes : V → List (Note E)) (fits : ℕ → ℕ → V → Type 0) (key : H) where
  -- what the values' entries weigh, place by place
  placed_entries : (f : Placed E → ℕ) (js : ℕ → List (Note E)) (b : ℕ) (xs : List V) → ((k : ℕ) (x : V) → get_elem? xs k ≡ some x → notes x ≡ js (b + k)) → entries f js (b + length xs) ≡ entries f js b + total f (all_placed notes b xs)
  placed_entries f js b [] h = let e : b + 0 ≡ b = omega arith in ap (entries f js) e ∙ sym (let z : entries f js b + 0 ≡ entries f js b = omega arith in z)
  placed_entries f js b (x ∷ xs) h =
      let e : b + suc (length xs) ≡ b + 1 + length xs = omega arith in
      let z : b + 0 ≡ b = omega arith in
      let one : entries f js (b + 1) ≡ entries f js b + total (λ (y : Note E). f (placed b y)) (js b) = let s : b + 1 ≡ suc b = omega arith in ap (entries f js) s in
      let rest : entries f js (b + 1 + length xs) ≡ entries f js (b + 1) + total f (all_placed notes (b + 1) xs) = placed_entries f js (b + 1) xs (λ k y d. let q : b + suc k ≡ b + 1 + k = omega arith in h (suc k) y d ∙ ap js q) in
      let mine : total (λ (y : Note E). f (placed b y)) (notes x) ≡ total (λ (y : Note E). f (placed b y)) (js b) = ap (total (λ (y : Note E). f (placed b y))) (h 0 x refl ∙ ap js z) in
      let parts : total f (map (placed b) (notes x) ++ all_placed notes (b + 1) xs) ≡ total (λ (y : Note E). f (placed b y)) (notes x) + total f (all_placed notes (b + 1) xs) = omega (arith, total-append f (map (placed b) (notes x)) (all_placed notes (b + 1) xs), total-map f (placed b) (notes x)) in
      omega (arith, ap (entries f js) e)

  -- each value is fit where each place's is
  fit_all : (i n : ℕ) (xs : List V) → ((k : ℕ) (x : V) → get_elem? xs k ≡ some x → fits (i + k) n x) → AllFit fits i n xs
  fit_all i n [] h = tt
  fit_all i n (x ∷ xs) h = let e : i + 0 ≡ i = omega arith in (subst (λ (j : ℕ). fits j n x) e (h 0 x refl), fit_all (i + 1) n xs (λ k y d. let q : i + suc k ≡ i + 1 + k = omega arith in subst (λ (j : ℕ). fits j n y) q (h (suc k) y d)))

  pub record Closes (v : TurnView E H) (xs : List V) : Type 0 where
    pub suit : AllFit fits 0 (length xs) xs
    pub gave : HoldsWhatWasGiven notes v xs
    pub order : IsInTheOrderOfEach notes v xs
    pub found : BeginsAsFound notes v xs
    pub rising : AllAscend notes (length v.mine) xs
    pub numbers : NumbersAll notes (length v.mine) xs
    pub loads : Each (λ x. x ≤ length v.mine) v.loads

  module _ (id : ℕ) (v : TurnView E H) (ws : List ℕ) (ys : List (Option V)) (all : v.parts ≡ 16384) (still : v.at ≡ 0) (end : Final (Seen (Orderly notes fits key) id v) ws ys) where
    -- no turn is out, so each value is at home
    at_home : (k : ℕ) → k < length ys → (x : V) × (get_elem? ys k ≡ some (Some x)) × fits k (length ys) x × (notes x ≡ end.1.0.journals k)
    at_home k l =
        let s = end.0 in let o = end.1.0 in let me = end.1.1 in let len = end.3 in
        let js = o.journals in let n = get_or s.words 0 0 in let places = length s.homes in
        let near : k < length s.homes = omega arith in
        let none-out : get_or s.words (1 + k) 0 ≡ 0 = omega (arith, (o.turns.locks k near).0, total-alone (has_turn k) s.views id v me (λ q u ne e. turn_no k u (λ z. absurd (omega (arith, ((o.knowledge.knows q u e).idle (others_idle key js n places s.views id v all me o.shares q u ne e)).1)))), turn_no k v (λ z. absurd (omega arith))) in
        let h = o.turns.home k near none-out in (h.value, end.4 k (Some h.value) h.there, subst (λ (n : ℕ). fits k n h.value) len h.suits, h.is)

    -- so each slot has its value
    pub all_there : (k : ℕ) → k < length ys → (x : V) × (get_elem? ys k ≡ some (Some x))
    all_there k l = let t = at_home k l in (t.0, t.1)

    -- of each caller a journal has what was given
    in_order : (places i : ℕ) → places ≡ length end.0.homes → i < places → (c : ℕ) → by_caller c (end.1.0.journals i) ≡ by_caller c (notes_at i v.mine)
    in_order places i wide l c =
        let s = end.0 in let o = end.1.0 in let me = end.1.1 in
        let js = o.journals in let n = get_or s.words 0 0 in
        let who = o.callers.keeper c in
        dite (ℕ_discrete who id)
        (λ z. o.callers.keeps id v me c z i (omega arith))
        (λ ne. let t = get_at s.views who (o.callers.inside c) in
        let nothing : t.0.mine ≡ [] = ((o.knowledge.knows who t.0 t.1).idle (others_idle key js n (length s.homes) s.views id v all me o.shares who t.0 ne t.1)).0 in
        o.callers.keeps who t.0 t.1 c refl i (omega arith) ∙ (ap (λ (q : List (Placed E)). by_caller c (notes_at i q)) nothing ∙ sym (by_at_none c i v.mine (o.callers.strange id v me c ne))))

    -- and the last call's promises hold
    pub closes : (xs : List V) → ys ≡ map Some xs → Closes v xs
    closes xs is =
        let s = end.0 in let o = end.1.0 in let me = end.1.1 in let len = end.3 in
        let js = o.journals in let n = get_or s.words 0 0 in let places = length s.homes in
        let wide : length ys ≡ length xs = ap length is ∙ length-map Some xs in
        let at : (k : ℕ) (x : V) → get_elem? xs k ≡ some x → fits k (length xs) x × (notes x ≡ js k) = λ k x e.
        let t = at_home k (omega (arith, at_below xs k x e)) in
        let same : Some t.0 ≡ Some x = some-injective (Some t.0) (Some x) (sym t.1 ∙ (ap (λ (l : List (Option V)). get_elem? l k) is ∙ some_at Some xs k x e)) in
        let same' : t.0 ≡ x = some_same t.0 x same in
        (subst (λ (n : ℕ). fits k n x) wide (subst (λ (y : V). fits k (length ys) y) same' t.2), ap notes (sym same') ∙ t.3) in
        let at' : (k : ℕ) (x : V) → get_elem? xs k ≡ some x → notes x ≡ js (0 + k) = λ k x e. let q : k ≡ 0 + k = omega arith in (at k x e).1 ∙ ap js q in
        let none-drawn : v.drawn ≡ [] = ((o.knowledge.knows id v me).loose still).1 in
        let count : n ≡ length v.mine = omega (arith, count_is key js n places s.views id v all me o.shares o.entries_ok o.knowledge, ap length none-drawn) in
        let z : 0 + length xs ≡ length s.homes = omega arith in
        let weight : (f : Placed E → ℕ) → total f (all_placed notes 0 xs) ≡ entries f js places = λ f. omega (arith, placed_entries f js 0 xs at', ap (entries f js) z) in
        record {
          suit = fit_all 0 (length xs) xs (λ k x e. let q : k ≡ 0 + k = omega arith in subst (λ (j : ℕ). fits j (length xs) x) q (at k x e).0);
          gave = λ f. omega (arith, weight f, o.entries_ok.balance f, gave_all key js n places s.views id v all me o.shares o.knowledge f);
          order = λ i x e c. ap (by_caller c) (at i x e).1 ∙ in_order places i refl (let q = at_below xs i x e in omega arith) c;
          found = λ k f e. let t = (o.knowledge.knows id v me).finds k f e in let x = get_at xs f.place (omega (arith, t.0)) in (x.0, x.1, subst (Begins f) (sym (at f.place x.0 x.1).1) t.2);
          rising = λ k x e. subst (λ (ns : List (Note E)). Ascends (length v.mine) (map number ns)) (sym (at k x e).1) (subst (λ (n : ℕ). Ascends n (map number (js k))) count (o.entries_ok.rising k (let q = at_below xs k x e in omega arith)));
          numbers = λ f. omega (
            arith,
            total-map f (λ (p : Placed E). number_of p) (all_placed notes 0 xs),
            weight (λ (p : Placed E). f (number_of p)),
            o.entries_ok.numbers f,
            drew_all key js n places s.views id v all me o.shares o.knowledge f,
            ap (total f) none-drawn,
            ap (below f) count,
            below_total f (length v.mine),
          );
          loads = let low : v.seen ≤ length v.mine = omega (arith, (o.knowledge.knows id v me).seen) in each_weaken (λ x. x ≤ v.seen) (λ x. x ≤ length v.mine) v.loads (λ x h. omega arith) (o.knowledge.knows id v me).loads;
        }
