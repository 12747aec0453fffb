-- A walk reads one card more.
use Rattle.std.proofs.Common.{◌≡◌, ◌+◌, List, [], ◌∷◌, ◌++◌, Option, None, Some, Bool, sym, refl, ap, ◌∙◌, arith, find, length}
use Rattle.std.specs.Option.{option_or}
use Rattle.std.proofs.lemmas.List.Folds.{find-append}
use Rattle.list_words.proofs.EachLemmas.{each_append}
use Rattle.chain_book.specs.declared.outcome.Hashed.{Hashed}
use Rattle.table_rule.specs.declared.view.Seen.{Seen}
use Rattle.established.specs.Rows.{hashed_in, row_of, HasCard}
use Rattle.established.specs.Surveys.{keeps_out, goes_out, Surveyed, first_of, noted}
use Rattle.established.specs.declared.survey.Sought.{Sought}
use Rattle.established.specs.declared.survey.Survey.{Survey}

row-more : (xs : List Seen) (s : Seen) → row_of (xs ++ s ∷ []) ≡ row_of xs ++ hashed_in s ∷ []
row-more [] s = refl
row-more (x ∷ xs) s = ap (λ (l : List Hashed). hashed_in x ∷ l) (row-more xs s)

first-more : (test : Hashed → Bool) (o : Option Hashed) (x : Hashed) (ys : List Hashed) → o ≡ find test ys → first_of o (test x) x ≡ find test (ys ++ x ∷ [])
first-more test (Some first) x ys e = ap (λ (k : Option Hashed). option_or k (find test (x ∷ []))) e ∙ sym (find-append test ys (x ∷ []))
first-more test None x ys e = ap (λ (k : Option Hashed). option_or k (find test (x ∷ []))) e ∙ sym (find-append test ys (x ∷ []))

pub noted_ok : (sought : Sought) (survey : Survey) (xs : List Seen) (s : Seen) → HasCard s → Surveyed sought survey xs
    → Surveyed sought (noted sought survey (hashed_in s)) (xs ++ s ∷ [])
noted_ok sought survey xs s card o = record {
  keeper = first-more (keeps_out sought) survey.keeper (hashed_in s) (row_of xs) o.keeper ∙ ap (find (keeps_out sought)) (sym (row-more xs s));
  waiting = first-more (goes_out sought) survey.waiting (hashed_in s) (row_of xs) o.waiting ∙ ap (find (goes_out sought)) (sym (row-more xs s));
  cards = each_append HasCard xs (s ∷ []) o.cards (card, tt);
}

pub length-more : (xs ys : List Seen) (s : Seen) → length (xs ++ ys) + length (s ∷ []) ≡ length xs + length ys + 1
length-more [] ys s = omega arith
length-more (x ∷ xs) ys s = omega (arith, length-more xs ys s)
