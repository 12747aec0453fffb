use Rattle.std.proofs.Common.{rules, ◌≡◌, ◌∙◌, ap, ◌+◌, ◌++◌, ◌∷◌, [], List, ℕ, arith, subst, sym, length}
use Rattle.table_rule.specs.Plays.{Sat}
use Rattle.table_rule.specs.Calls.{seen_of, view}
use Rattle.table_rule.specs.declared.view.ChainView.{ChainView}
use Rattle.table_rule.specs.declared.view.Seen.{Seen}
use Rattle.nulls_chain.proofs.Found.{was_chain}
use Rattle.established.specs.Surveys.{Surveyed}
use Rattle.established.specs.declared.survey.Survey.{Survey}
use Rattle.established.proofs.Noted.{noted_ok, length-more}
use Rattle.established.proofs.survey.survey_chain.Goals as goal

pub loop-count-preserved : goal.loop-count-preserved
loop-count-preserved c =
    let i = c.loop-count.invariant in
    let e = c.walk.ensures in
    let old = (view c.loop-count.steps).chain in
    let after = (view c.walk.new.steps).chain in
    let new = c.args.sought.now in
    let next : Seen = seen_of c.in-Some.slot c.in-Some.words in
    let went = c.in-Some.ensures.some in
    let list : after.walked ++ after.ahead ≡ (old.walked ++ old.ahead) ++ next ∷ [] = ap (λ (x : ChainView). x.walked ++ x.ahead) went in
    let read : List Seen = (old.walked ++ old.ahead) ++ next ∷ [] in
    let longer : length after.walked + length after.ahead ≡ c.loop-count._count + 1 =
    ap (λ (x : ChainView). length x.walked + length x.ahead) went ∙ (length-more old.walked old.ahead next ∙ ap (λ (n : ℕ). n + 1) i.count) in
    record {
      table = e.table;
      at = e.at;
      bucket = e.locked.0 ∙ i.bucket;
      kept = e.kept ∙ ap (λ (s : Sat). (record s.0 { chain = after }, s.1)) i.kept;
      on = λ _. c.in-Some.ensures.near.1;
      known = e.walked i.known;
      count = longer;
      few = omega (arith, longer, e.fits.0);
      surveyed = subst (λ (l : List Seen). Surveyed new c.visit.new.survey l) (sym list)
          (subst (λ (x : Survey). Surveyed new x read) (sym c.visit.ensures)
          (noted_ok new c.loop-count.survey (old.walked ++ old.ahead) next (c.in-Some.ensures.cards (search rules), c.in-Some.ensures.near.2) i.surveyed));
    }

pub returns-in-None-clause-sole : goal.returns-in-None-clause-sole
returns-in-None-clause-sole c =
    let i = c.loop-count.invariant in
    let e = c.walk.ensures in
    let kept = e.kept ∙ ap (λ (s : Sat). (record s.0 { chain = (view c.walk.new.steps).chain }, s.1)) i.kept in
    was_chain (view c.args.steps.now) (view c.walk.new.steps) c.args.locked.now.bucket (ap (λ (s : Sat). s.0) kept) c.in-None.ensures.known (e.at.0 ∙ ap (λ b. b ∷ []) (e.locked.0 ∙ i.bucket)) c.in-None.ensures.none.2 (e.walked i.known).0
