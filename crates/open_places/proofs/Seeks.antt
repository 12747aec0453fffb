-- Values that are sought page by page.
use Rattle.std.proofs.Common.{◌≡◌, ℕ, ◌+◌, ◌*◌, ◌-◌, ◌/◌, ◌%◌, ◌<◌, ◌≤◌, true, List, length, Option, Some, None, is_some, refl, sym, ap, subst, ◌∙◌, arith}
use mathlib.Core.Logic.{dite}
use Rattle.std.proofs.Math.Decide.{dec_le}
use Rattle.std.specs.Prelude.{IfSome, IsSome}
use Rattle.std.specs.List.{slice_index_or}
use Rattle.std.specs.Option.{option_flatten}
use Rattle.std.specs.BTreeMap.{BTreeMap, get}
use Rattle.std.specs.Ordering.{nat_cmp}
use Rattle.std.proofs.lemmas.Bool.{false≢true}
use Rattle.std.proofs.lemmas.List.{get_or_past}
use Rattle.open_places.specs.Cells.{AreEmpty, AreEmptyFrom, IsNextFull}
use Rattle.open_places.specs.Pages.{Cell, ArePages, HasNoneBetween, IsFirstOn, Shows, cells_of, cell_on, earlier_page, places_on, value_on}
use Rattle.open_places.proofs.Pages.{last_cell, other_cell, value_of}

below_last : {X : Type 0} (o : Option (List X)) (n number : ℕ) → IfSome o (λ page. (n < number) × (length page ≡ 32)) → IsSome o → n < number
below_last None n number h some = absurd (false≢true some)
below_last (Some page) n number h some = h.0

module _ {T : Type 0} (earlier : BTreeMap ℕ (List (Cell T))) (number : ℕ) (last : List (Cell T)) (pages : ArePages earlier number last) where
  pub page_below : (n : ℕ) → IsSome (get nat_cmp earlier n) → n < number
  page_below n some = below_last (get nat_cmp earlier n) n number (pages.whole n) some

  pub page_whole : (n : ℕ) (page : List (Cell T)) → get nat_cmp earlier n ≡ Some page → length page ≡ 32
  page_whole n page is = (subst (λ o. IfSome o (λ page. (n < number) × (length page ≡ 32))) is (pages.whole n)).1

  pub shows_last : Shows (places_on earlier number last).cells number last
  shows_last i l =
      let at : (number * 32 + i) / 32 ≡ number = omega (arith, l) in
      let low : (number * 32 + i) % 32 ≡ i = omega (arith, l) in
      value_of earlier number last pages (number * 32 + i) ∙ ap option_flatten (last_cell earlier number last (number * 32 + i) at ∙ ap (cell_on last) low)

  pub shows_earlier : (n : ℕ) (page : List (Cell T)) → get nat_cmp earlier n ≡ Some page → n < number → Shows (places_on earlier number last).cells n page
  shows_earlier n page is less i l =
      let at : (n * 32 + i) / 32 ≡ n = omega (arith, l) in
      let low : (n * 32 + i) % 32 ≡ i = omega (arith, l) in
      value_of earlier number last pages (n * 32 + i)
      ∙ ap option_flatten (other_cell earlier number last (n * 32 + i) (λ e. omega (arith, e, at, less))
      ∙ ap (λ k. cell_on (earlier_page earlier k) ((n * 32 + i) % 32)) at
      ∙ ap (λ o. cell_on (cells_of o) ((n * 32 + i) % 32)) is
      ∙ ap (cell_on page) low)

  pub empty_pages : (from past : ℕ) → past ≤ number → ((q : ℕ) → from ≤ q → q < past → get nat_cmp earlier q ≡ None) → AreEmpty (places_on earlier number last).cells (from * 32) (past * 32)
  empty_pages from past within none i f p =
      value_of earlier number last pages i
      ∙ ap option_flatten (other_cell earlier number last i (λ e. omega (arith, e, p, within))
      ∙ ap (λ o. cell_on (cells_of o) (i % 32)) (none (i / 32) (omega (arith, f)) (omega (arith, p))))

full_within : {T : Type 0} (page : List (Cell T)) (i : ℕ) → is_some (value_on page i) ≡ true → i < length page
full_within page i full = dite (dec_le (length page) i)
    (λ out. absurd (false≢true (sym (ap (λ c. is_some (option_flatten c)) (get_or_past page i None out)) ∙ full)))
    (λ l. omega (arith, l))

-- a page was looked through
module _ {T : Type 0} (cells : List (Option T)) (first from number start : ℕ) (page : List (Cell T)) (before : AreEmpty cells first from) (skipped : AreEmpty cells (from / 32 * 32) (number * 32)) (shows : Shows cells number page) (begins : (i : ℕ) → from ≤ number * 32 + i → start ≤ i) where
  pub looked : (past : ℕ) → past ≤ 32 → HasNoneBetween page start past → AreEmpty cells first (number * 32 + past)
  looked past within none i f p = dite (dec_le from i)
      (λ later. dite (dec_le (number * 32) i)
      (λ on.
      let k = i - number * 32 in
      let is : i ≡ number * 32 + k = omega (arith, on) in
      ap (λ j. slice_index_or cells j None) is
      ∙ shows k (omega (arith, on, p, within))
      ∙ none k (begins k (omega (arith, later, on))) (omega (arith, on, p)))
      (λ under. skipped i (omega (arith, later)) (omega (arith, under))))
      (λ sooner. before i f (omega (arith, sooner)))

  pub is_next : first ≤ from → from ≤ number * 32 + start → length page ≤ 32 → (place : ℕ) → IsFirstOn page start place → IsNextFull cells first (number * 32 + place)
  is_next l on short place found =
      let within = full_within page place found.full in
      record {
        from = let ge = found.from in omega (arith, l, on, ge);
        full = ap is_some (shows place (omega (arith, within, short))) ∙ found.full;
        between = looked place (omega (arith, within, short)) found.between;
      }

pub none_left : {T : Type 0} (cells : List (Option T)) (first from : ℕ) → AreEmpty cells first from → length cells ≤ from → AreEmptyFrom cells first
none_left cells first from before past i f = dite (dec_le from i)
    (λ later. get_or_past cells i None (omega (arith, past, later)))
    (λ sooner. before i f (omega (arith, sooner)))

pub none_there : {X : Type 0} (o : Option X) → (IsSome o → ⊥) → o ≡ None
none_there None none = refl
none_there (Some x) none = absurd (none refl)
