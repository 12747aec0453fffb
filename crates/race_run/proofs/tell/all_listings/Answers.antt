use Rattle.std.proofs.Common.{◌≡◌, ◌∷◌, [], ◌++◌, List, length, sym, ap, ◌∙◌, append_assoc, append-nil, arith}
use Rattle.std.proofs.lemmas.List.{nil_from_length}
use Rattle.std.specs.List.{flat_map}
use Rattle.std.specs.Vec.Iter.{into_iter_items}
use Rattle.socket_list.specs.Listing.{Listing}
use Rattle.race_run.specs.Finished.{listings_in}
use Rattle.race_run.proofs.Weights.{flat_push}
use Rattle.race_run.proofs.tell.all_listings.Goals as goal

pub loop-outcome-preserved : goal.loop-outcome-preserved
loop-outcome-preserved c =
    let at = c.loop-outcome in
    let x = c.in-Some.outcome in
    let steps : into_iter_items at.outcome-iterator ≡ x ∷ into_iter_items c.next.new.self = c.in-Some.ensures.steps.0 in
    record {
      left = append_assoc at.yielded (x ∷ []) _ ∙ rw (← steps) at.invariant.left;
      long = let was = at.invariant.long in
          let gone = c.in-Some.ensures.steps.1 in
          let short = ap length steps in
          omega arith;
      listed = c.in_ok-append.ensures.items ∙ ap (λ (l : List Listing). l ++ x.listings.items) at.invariant.listed ∙ sym (flat_push listings_in at.yielded x);
    }

pub returns : goal.returns
returns c =
    let at = c.loop-outcome in
    let none = c.in-None.ensures.steps in
    let empty : into_iter_items at.outcome-iterator ≡ [] = nil_from_length _ (sym at.invariant.long ∙ none.0) in
    let all = sym (append-nil at.yielded) ∙ rw empty at at.invariant.left ∙ c.into_iter-outcome-iterator.ensures.into_iter_gives.0 in
    at.invariant.listed ∙ ap (flat_map listings_in) all
