use Rattle.std.proofs.Common.{◌≡◌, ℕ, List, Option, Result, OnOk, rules, ap, ◌∙◌, ◌++◌, map}
use Rattle.std.specs.Prelude.{MatchResult}
use Rattle.std.specs.Iterator.{Yields, Drains}
use Rattle.std.proofs.lemmas.Iterator.{YieldsList}
use Rattle.std.specs.Borrow.{Bor}
use borrow.Author.Tests.{tests}
use Rattle.std.proofs.lemmas.Iterator.Adapters.{fact_from_extend}
use Rattle.std.proofs.lemmas.Iterator.Consumers.{YieldsList-at}
use Rattle.std.proofs.lemmas.Iterator.Splits.{YieldsList-from_slice_split}
use Rattle.record_reader.specs.Words.{is_line_feed, texts}
use Rattle.record_reasons.proofs.lines.read_pieces.Goals as goal

-- what a chain's items give where it extends a list
from_chain : {T A C E Q : Type 0} {steps : T → Option A → T → Type 0} {all : List C} {P : List A → Type 0} {s : T} (v : A → C) (r : Result (Unit {0}) E)
    → ((it : T) × (xs : List A) × (it ≡ s) × P xs × MatchResult r (λ _. Drains steps it xs) (λ _. (t : T) × Yields steps it xs t))
    → YieldsList steps v s all → ((xs : List A) → map v xs ≡ all → P xs → Q) → OnOk r Q
from_chain v r ran road says = fact_from_extend v r ran (λ it b. YieldsList-at b road) says

pub returns : goal.returns
returns c =
    from_chain (λ w. w.now) c.extend.result c.extend.ensures.ran
    (YieldsList-from_slice_split _ is_line_feed _ c.split.ensures.rest c.split.ensures.done c.split.ensures.closure (λ x b q k. search (rules, tests)))
    (λ xs e h. ap texts (h.0 ∙ ap (λ (words : List (Bor (List ℕ))). words ++ xs) c.clear.ensures.items) ∙ e)
