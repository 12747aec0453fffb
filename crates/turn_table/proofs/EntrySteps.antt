-- Entries and their numbers, step by step.
use Rattle.std.proofs.Common.{◌≡◌, ℕ, ◌+◌, ◌<◌, List, [], ◌∷◌, ◌++◌, map, set, sym, ap, ◌∙◌, subst, arith}
use mathlib.Core.Logic.{dite}
use native.Mathlib.Decide.{ℕ_discrete}
use mathlib.Core.Option.{some}
use lib.ListN.{get_elem?}
use Rattle.list_words.specs.Lists.{total}
use Rattle.list_words.proofs.TotalLemmas.{total-append}
use Rattle.turn_table.specs.Journals.{Ascends, number, number_of, placed}
use Rattle.turn_table.specs.Turning.{EntriesOk}
use Rattle.turn_table.specs.declared.note.Note.{Note}
use Rattle.turn_table.specs.declared.note.Placed.{Placed}
use Rattle.turn_table.specs.declared.view.TurnView.{TurnView}
use Rattle.list_words.proofs.PlaceLemmas.{total-set}
use Rattle.turn_table.proofs.Sums.{total-map, ascends_more, below_more}
use Rattle.turn_table.proofs.Updates.{upd, upd_here, upd_else, entries_upd}

module _ {E H : Type 0} where
  -- a step that leaves what passes gave and drew
  pub entries_same : (n places : ℕ) (js : ℕ → List (Note E)) (vs vs' : List (TurnView E H)) → ((f : Placed E → ℕ) → total (λ (v : TurnView E H). total f v.mine) vs' ≡ total (λ (v : TurnView E H). total f v.mine) vs)
      → ((f : ℕ → ℕ) → total (λ (v : TurnView E H). total f v.drawn) vs' ≡ total (λ (v : TurnView E H). total f v.drawn) vs) → EntriesOk n places js vs → EntriesOk n places js vs'
  entries_same n places js vs vs' gave drew o = record {
    rising = o.rising;
    balance = λ f. omega (arith, o.balance f, gave f);
    numbers = λ f. omega (arith, o.numbers f, drew f);
  }

  -- the next number is drawn
  pub entries_draw : (n places : ℕ) (js : ℕ → List (Note E)) (vs : List (TurnView E H)) (id : ℕ) (v w : TurnView E H) → get_elem? vs id ≡ some v → w.mine ≡ v.mine → w.drawn ≡ v.drawn ++ n ∷ [] → EntriesOk n places js vs → EntriesOk (n + 1) places js (set vs id w)
  entries_draw n places js vs id v w me gave drew o = record {
    rising = λ i h. ascends_more n (n + 1) (map number (js i)) (omega arith) (o.rising i h);
    balance = λ f. omega (arith, o.balance f, total-set (λ (u : TurnView E H). total f u.mine) vs id v w me, ap (total f) gave);
    numbers = λ f. omega (arith, o.numbers f, total-set (λ (u : TurnView E H). total f u.drawn) vs id v w me, ap (total f) drew, total-append f v.drawn (n ∷ []), below_more f n);
  }

  -- a turn is given back with new entries, which have the numbers drawn for them
  pub entries_give : (n places : ℕ) (js : ℕ → List (Note E)) (vs : List (TurnView E H)) (id i : ℕ) (v w : TurnView E H) (l new : List (Note E)) → get_elem? vs id ≡ some v → i < places → l ≡ js i ++ new → map number new ≡ v.drawn
      → w.mine ≡ v.mine ++ map (placed i) new → w.drawn ≡ [] → Ascends n (map number l) → EntriesOk n places js vs → EntriesOk n places (upd js i l) (set vs id w)
  entries_give n places js vs id i v w l new me near grew numbered gave drew rises o =
      let weight : (f : Placed E → ℕ) → total f (map (placed i) new) ≡ total (λ (y : Note E). f (placed i y)) new = λ f. total-map f (placed i) new in
      let tally : (f : ℕ → ℕ) → total (λ (y : Note E). f y.number) new ≡ total f v.drawn = λ f. sym (total-map f number new) ∙ ap (total f) numbered in
      record {
        rising = λ j q. dite (ℕ_discrete j i)
            (λ z. subst (λ (ns : List (Note E)). Ascends n (map number ns)) (sym (upd_here js i l j z)) rises)
            (λ ne. subst (λ (ns : List (Note E)). Ascends n (map number ns)) (sym (upd_else js i l j ne)) (o.rising j q));
        balance = λ f. omega (arith, o.balance f, total-set (λ (u : TurnView E H). total f u.mine) vs id v w me, ap (total f) gave, total-append f v.mine (map (placed i) new), weight f, entries_upd f js i l new places grew near);
        numbers = λ f. omega (arith, o.numbers f, total-set (λ (u : TurnView E H). total f u.drawn) vs id v w me, ap (total f) drew, tally f, entries_upd (λ (p : Placed E). f (number_of p)) js i l new places grew near);
      }
