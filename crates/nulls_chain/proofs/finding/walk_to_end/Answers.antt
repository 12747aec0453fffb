use Rattle.std.proofs.Common.{◌++◌, ◌∷◌, [], List, ap, ◌∙◌, arith, append_assoc}
use Rattle.table_rule.specs.Plays.{Sat}
use Rattle.table_rule.specs.Calls.{view, seen_of}
use Rattle.table_rule.specs.declared.view.Seen.{Seen}
use Rattle.nulls_chain.proofs.Found.{was_chain, went}
use Rattle.nulls_chain.proofs.finding.walk_to_end.Goals as goal

pub returns-in-None-clause-sole : goal.returns-in-None-clause-sole
returns-in-None-clause-sole c = λ _.
    let i = c.loop-count.invariant in
    let e = c.walk.ensures in
    let kept = e.kept ∙ ap (λ (s : Sat). (record s.0 { chain = (view c.walk.new.steps).chain }, s.1)) i.kept in
    was_chain (view c.args.steps.now) (view c.walk.new.steps) c.args.locked.now.bucket (ap (λ (s : Sat). s.0) kept) c.in-None.ensures.known (e.at.0 ∙ ap (λ b. b ∷ []) (e.locked.0 ∙ i.bucket)) c.in-None.ensures.none.2 (e.walked i.known).0

pub loop-count-preserved : goal.loop-count-preserved
loop-count-preserved c =
    let i = c.loop-count.invariant in
    let e = c.walk.ensures in
    let s : Seen = seen_of c.in-Some.field-0.0 c.in-Some.field-0.1 in
    let on = went (view c.loop-count.steps).chain (view c.walk.new.steps).chain s c.in-Some.ensures.some in
    let begun : List Seen = (view c.args.steps.now).chain.walked ++ (view c.args.steps.now).chain.ahead in
    record {
      table = e.table;
      at = e.at;
      bucket = e.locked.0 ∙ i.bucket;
      kept = e.kept ∙ ap (λ (s : Sat). (record s.0 { chain = (view c.walk.new.steps).chain }, s.1)) i.kept;
      on = λ _. c.in-Some.ensures.near.1;
      known = e.walked i.known;
      few = omega (arith, i.count, on.1, e.fits.0);
      count = omega (arith, i.count, on.1);
      more = (i.more.0 ++ s ∷ [], on.0 ∙ (ap (λ (l : List Seen). l ++ s ∷ []) i.more.1 ∙ append_assoc begun i.more.0 (s ∷ [])));
    }
