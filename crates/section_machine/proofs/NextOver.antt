-- When the first of some TIME_WAITs has lasted, by their order.
use Rattle.std.proofs.Common.{◌≡◌, ℕ, ◌+◌, ◌<◌, ◌≤◌, ◌^◌, true, false, List, [], ◌∷◌, length, get_or, ltb, sym, ◌∙◌, subst, arith}
use Rattle.std.proofs.lemmas.Bool.{lt-leb, le-leb, true≢false}
use Rattle.std.specs.Prelude.{MatchOption}
use Rattle.std.specs.declared.option.Option.{Option}
use Rattle.std.specs.declared.option.Option.TheVariants.{None, Some}
use Rattle.list_words.specs.Lists.{Each}
use Rattle.list_words.proofs.EachLemmas.{each_weaken}
use Rattle.table_model.specs.Own.{Mine, is_over}
use Rattle.section_machine.specs.Waits.{AreInOrder, IsNextOver, NeverOver, NoneOver}

-- before the first has lasted, none has
none_before : (w : Mine) (rest : List Mine) (moment : ℕ) → AreInOrder (w ∷ rest) → moment < w.extra + 60 → NoneOver (w ∷ rest) moment
none_before w rest moment order early = (
  lt-leb (w.extra + 60) moment early,
  each_weaken (λ (v : Mine). w.extra ≤ v.extra) (λ (v : Mine). is_over moment v ≡ false) rest (λ v later. lt-leb (v.extra + 60) moment (omega (arith, early, later))) order.0,
)

-- the first's moment is that of all
of_first : (w : Mine) (rest : List Mine) (r : Option ℕ) → AreInOrder (w ∷ rest)
    → MatchOption r (2 ^ 32 ≤ w.extra + 60) (λ moment. moment ≡ w.extra + 60) → MatchOption r (NeverOver (w ∷ rest)) (IsNextOver (w ∷ rest))
of_first w rest None order late = λ moment small. none_before w rest moment order (omega (arith, late, small))
of_first w rest (Some moment) order is = record {
  one = λ none. true≢false (sym (le-leb (w.extra + 60) moment (omega (arith, is))) ∙ none.0);
  first = λ before early. none_before w rest before order (omega (arith, is, early));
}

pub next_over : (waits : List Mine) (w : Mine) (r : Option ℕ) → true ≡ ltb 0 (length waits) → w ≡ get_or waits 0 w → AreInOrder waits
    → MatchOption r (2 ^ 32 ≤ w.extra + 60) (λ moment. moment ≡ w.extra + 60) → MatchOption r (NeverOver waits) (IsNextOver waits)
next_over [] w r some is order tells = absurd (true≢false some)
next_over (v ∷ rest) w r some is order tells =
    subst (λ (x : Mine). MatchOption r (2 ^ 32 ≤ x.extra + 60) (λ moment. moment ≡ x.extra + 60) → MatchOption r (NeverOver (v ∷ rest)) (IsNextOver (v ∷ rest))) (sym is) (of_first v rest r order) tells
