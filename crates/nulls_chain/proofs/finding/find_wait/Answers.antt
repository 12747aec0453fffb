use Rattle.std.proofs.Common.{◌++◌, ◌∷◌, [], ap, sym, ◌∙◌, arith}
use Rattle.table_rule.specs.Plays.{Sat}
use Rattle.table_rule.specs.Calls.{view, seen_of}
use Rattle.table_rule.specs.declared.view.Seen.{Seen}
use Rattle.nulls_chain.specs.Changes.{wait_in}
use Rattle.nulls_chain.proofs.Found.{was_chain, went, none_more}
use Rattle.nulls_chain.proofs.finding.find_wait.Goals as goal

pub returns-in_err-slot-clause-sole : goal.returns-in_err-slot-clause-sole
returns-in_err-slot-clause-sole c =
    let i = c.loop-count.invariant in
    let e = c.walk.ensures in
    let kept = e.kept ∙ ap (λ (s : Sat). (record s.0 { chain = (view c.walk.new.steps).chain }, s.1)) i.kept in
    rw c.from_residual.ensures (was_chain (view c.args.steps.now) (view c.walk.new.steps) c.args.locked.now.bucket (ap (λ (s : Sat). s.0) kept) c.in_err-slot.ensures.known (e.at.0 ∙ ap (λ b. b ∷ []) (e.locked.0 ∙ i.bucket)) c.in_err-slot.ensures.none.2 (e.walked i.known).0)

pub loop-count-preserved : goal.loop-count-preserved
loop-count-preserved c =
    let i = c.loop-count.invariant in
    let e = c.walk.ensures in
    let s : Seen = seen_of c.in_ok-slot.slot c.in_ok-slot.card in
    let on = went (view c.loop-count.steps).chain (view c.walk.new.steps).chain s c.in_ok-slot.ensures.some in
    record {
      table = e.table;
      at = e.at;
      bucket = e.locked.0 ∙ i.bucket;
      kept = e.kept ∙ ap (λ (s : Sat). (record s.0 { chain = (view c.walk.new.steps).chain }, s.1)) i.kept;
      on = λ _. c.in_ok-slot.ensures.near.1;
      known = e.walked i.known;
      few = omega (arith, i.count, on.1, e.fits.0);
      count = omega (arith, i.count, on.1);
      none = ap (wait_in c.args.name) on.0 ∙ none_more c.args.name ((view c.loop-count.steps).chain.walked ++ (view c.loop-count.steps).chain.ahead) s i.none (sym c.waits_as.ensures ∙ c.if-waits_as.false);
    }
