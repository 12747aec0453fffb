-- Each life has one bar, and each packet and each list one mark.
use Rattle.std.proofs.Common.{◌≡◌, ℕ, ◌+◌, ◌-◌, ◌<◌, ◌≤◌, Bool, true, false, ◌==◌, cond, List, [], ◌∷◌, ◌++◌, refl, ap, sym, ◌∙◌, arith, zero, suc, Option, Some, None, is_some, count_by, slice_get, if◌then◌else◌}
use Rattle.std.proofs.lemmas.Bool.{eq-eqb, ne_eqb}
use Rattle.std.proofs.lemmas.List.Sums.{sum_by-append, sum_by-cons}
use Rattle.std.proofs.lemmas.List.Sorted.{sum_by-IsPermutation}
use Rattle.std.specs.Option.{option_to_list}
use Rattle.book_audit.specs.declared.printed.Span.{Span}
use Rattle.record_reader.specs.declared.line.Line.{Line}
use Rattle.record_reader.specs.declared.line.Line.TheVariants as lines
use Rattle.race_picture.specs.declared.lanes.Bar.{Bar}
use Rattle.race_picture.specs.declared.lanes.Place.{Place}
use Rattle.race_picture.specs.declared.rows.Mark.{Mark}
use Rattle.race_picture.specs.Texts.{text_at}
use Rattle.race_picture.specs.Lanes.{IsArranged, bar_of, bars_from, lane_after, place_in, places_from}
use Rattle.race_picture.specs.Rows.{ends_after, mark_in, marks_from, span_in}
use Rattle.race_picture.specs.Picture.{marks_of}
use Rattle.race_picture.specs.Laws.{has_place, has_span, once_if}

module _ (n : ℕ) where
  abbrev of_place : Place → Bool
  of_place p = p.line == n

  abbrev of_bar : Bar → Bool
  of_bar b = b.line == n

  abbrev of_mark : Mark → Bool
  of_mark m = m.line == n

  -- there is a bar for each place
  bars_counted : (before : Option Place) (lane : ℕ) (places : List Place) → count_by of_bar (bars_from before lane places) ≡ count_by of_place places
  bars_counted before lane [] = refl
  bars_counted before lane (p ∷ rest) =
      sum_by-cons (λ b. cond (of_bar b) 1 0) (bar_of before (lane_after before lane p) p) (bars_from (Some p) (lane_after before lane p) rest)
      ∙ ap (λ k. cond (p.line == n) 1 0 + k) (bars_counted (Some p) (lane_after before lane p) rest)
      ∙ sym (sum_by-cons (λ q. cond (of_place q) 1 0) p rest)

  -- how many of at most one thing are of line n, where it would be of line `at`
  abbrev once_at : ℕ → Bool → ℕ
  once_at at there = if there then cond (at == n) 1 0 else 0

  place_counted : (at : ℕ) (line : Line) → count_by of_place (option_to_list (place_in at line)) ≡ once_at at (is_some (place_in at line))
  place_counted at (lines.Life l) = omega arith
  place_counted at (lines.Race lookers passes) = refl
  place_counted at (lines.Shape shape seed) = refl
  place_counted at (lines.Reply vain) = refl
  place_counted at (lines.Journal bucket count) = refl
  place_counted at (lines.Packet number item) = refl
  place_counted at lines.Cut = refl
  place_counted at (lines.Clock clock) = refl

  mark_counted : (window at : ℕ) (ends : List ℕ) (span : Option Span) → count_by of_mark (option_to_list (mark_in window at ends span)) ≡ once_at at (is_some span)
  mark_counted window at ends None = refl
  mark_counted window at ends (Some s) = omega arith

  elsewhere : (at : ℕ) (there : Bool) → (at ≡ n → ⊥) → once_at at there ≡ 0
  elsewhere at true h = ap (λ (b : Bool). cond b 1 0) (ne_eqb at n h)
  elsewhere at false h = refl

  here : (at : ℕ) (there : Bool) → at ≡ n → once_at at there ≡ once_if there
  here at true h = ap (λ (b : Bool). cond b 1 0) (eq-eqb at n h)
  here at false h = refl

  no_place_below : (at : ℕ) (all : List Line) → n < at → count_by of_place (places_from at all) ≡ 0
  no_place_below at [] h = refl
  no_place_below at (line ∷ rest) h =
      let both = sum_by-append (λ p. cond (of_place p) 1 0) (option_to_list (place_in at line)) (places_from (at + 1) rest) in
      let first = place_counted at line ∙ elsewhere at (is_some (place_in at line)) (λ e. omega arith) in
      let more = no_place_below (at + 1) rest (omega arith) in
      omega (arith, both, first, more)

  places_counted : (at k : ℕ) (all : List Line) → at + k ≡ n → count_by of_place (places_from at all) ≡ once_if (has_place n (slice_get all k))
  places_counted at k [] h = refl
  places_counted at zero (line ∷ rest) h =
      let both = sum_by-append (λ p. cond (of_place p) 1 0) (option_to_list (place_in at line)) (places_from (at + 1) rest) in
      let first = place_counted at line ∙ here at (is_some (place_in at line)) (omega arith) in
      let more = no_place_below (at + 1) rest (omega arith) in
      let same : once_if (is_some (place_in at line)) ≡ once_if (is_some (place_in n line)) =
      ap (λ (i : ℕ). once_if (is_some (place_in i line))) (let e : at ≡ n = omega arith in e) in
      omega (arith, both, first, more, same)
  places_counted at (suc k) (line ∷ rest) h =
      let both = sum_by-append (λ p. cond (of_place p) 1 0) (option_to_list (place_in at line)) (places_from (at + 1) rest) in
      let first = place_counted at line ∙ elsewhere at (is_some (place_in at line)) (λ e. omega arith) in
      let more = places_counted (at + 1) k rest (omega arith) in
      omega (arith, both, first, more)

  module _ (window : ℕ) (texts : List (List ℕ)) where
    no_mark_below : (at : ℕ) (ends : List ℕ) (all : List Line) → n < at → count_by of_mark (marks_from window at ends texts all) ≡ 0
    no_mark_below at ends [] h = refl
    no_mark_below at ends (line ∷ rest) h =
        let span = span_in (text_at texts at) line in
        let both = sum_by-append (λ m. cond (of_mark m) 1 0) (option_to_list (mark_in window at ends span)) (marks_from window (at + 1) (ends_after window ends span) texts rest) in
        let first = mark_counted window at ends span ∙ elsewhere at (is_some span) (λ e. omega arith) in
        let more = no_mark_below (at + 1) (ends_after window ends span) rest (omega arith) in
        omega (arith, both, first, more)

    marks_counted : (at k : ℕ) (ends : List ℕ) (all : List Line) → at + k ≡ n → count_by of_mark (marks_from window at ends texts all) ≡ once_if (has_span (text_at texts n) (slice_get all k))
    marks_counted at k ends [] h = refl
    marks_counted at zero ends (line ∷ rest) h =
        let span = span_in (text_at texts at) line in
        let both = sum_by-append (λ m. cond (of_mark m) 1 0) (option_to_list (mark_in window at ends span)) (marks_from window (at + 1) (ends_after window ends span) texts rest) in
        let first = mark_counted window at ends span ∙ here at (is_some span) (omega arith) in
        let more = no_mark_below (at + 1) (ends_after window ends span) rest (omega arith) in
        let same : once_if (is_some (span_in (text_at texts at) line)) ≡ once_if (is_some (span_in (text_at texts n) line)) =
        ap (λ (i : ℕ). once_if (is_some (span_in (text_at texts i) line))) (let e : at ≡ n = omega arith in e) in
        omega (arith, both, first, more, same)
    marks_counted at (suc k) ends (line ∷ rest) h =
        let span = span_in (text_at texts at) line in
        let both = sum_by-append (λ m. cond (of_mark m) 1 0) (option_to_list (mark_in window at ends span)) (marks_from window (at + 1) (ends_after window ends span) texts rest) in
        let first = mark_counted window at ends span ∙ elsewhere at (is_some span) (λ e. omega arith) in
        let more = marks_counted (at + 1) k (ends_after window ends span) rest (omega arith) in
        omega (arith, both, first, more)

  pub one_bar : (all : List Line) (places : List Place) → IsArranged (places_from 0 all) places
      → count_by of_bar (bars_from None 0 places) ≡ once_if (has_place n (slice_get all n))
  one_bar all places h =
      bars_counted None 0 places ∙ sum_by-IsPermutation (λ p. cond (of_place p) 1 0) (places_from 0 all) places h.same
      ∙ places_counted 0 n all (omega arith)

  pub one_mark : (texts : List (List ℕ)) (all : List Line) → count_by of_mark (marks_of texts all) ≡ once_if (has_span (text_at texts n) (slice_get all n))
  one_mark texts all = marks_counted _ texts 0 n [] all (omega arith)
