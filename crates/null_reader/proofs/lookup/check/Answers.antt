use Rattle.std.proofs.Common.{[], ◌∷◌, sym, ◌∙◌}
use Rattle.table_rule.proofs.Kepts.{knows_none, knows_more, is_kept}
use Rattle.null_reader.proofs.LookViews.{is_judged, checked_same, checked_other}
use Rattle.null_reader.proofs.lookup.check.Goals as goal
use Rattle.table_rule.specs.Calls.{me}

pub step_read_held-ports-requires-clause-kept : goal.step_read_held-ports-requires-clause-kept
step_read_held-ports-requires-clause-kept g c = let a = c.requires.at in let m = (me c.args.steps.now) in
    is_kept c.args.slot m (me c.step_read_held-ends.new.steps) a.kept (c.step_read_held-ends.result ∷ []) a.others a.slot-is (knows_more m m (me c.step_read_held-ends.new.steps) a.kept [] a.others c.step_read_held-ends.result (knows_none m a.kept a.others a.there a.none) c.step_read_held-ends.ensures.view)

pub step_read_held-name-requires-clause-kept : goal.step_read_held-name-requires-clause-kept
step_read_held-name-requires-clause-kept g c = let a = c.requires.at in let m = (me c.args.steps.now) in
    is_kept c.args.slot m (me c.step_read_held-ports.new.steps) a.kept (c.step_read_held-ends.result ∷ c.step_read_held-ports.result ∷ []) a.others a.slot-is
    (knows_more m (me c.step_read_held-ends.new.steps) (me c.step_read_held-ports.new.steps) a.kept (c.step_read_held-ends.result ∷ []) a.others c.step_read_held-ports.result (knows_more m m (me c.step_read_held-ends.new.steps) a.kept [] a.others c.step_read_held-ends.result (knows_none m a.kept a.others a.there a.none) c.step_read_held-ends.ensures.view) c.step_read_held-ports.ensures.view)

pub step_read_last-extra-requires-clause-kept : goal.step_read_last-extra-requires-clause-kept
step_read_last-extra-requires-clause-kept g c = let a = c.requires.at in let m = (me c.args.steps.now) in
    is_judged c.args.slot c.args.key c.args.rank_before c.step_read_held-ends.result c.step_read_held-ports.result c.step_read_held-name.result m (me c.step_read_held-name.new.steps) a
    (knows_more m (me c.step_read_held-ports.new.steps) (me c.step_read_held-name.new.steps) a.kept (c.step_read_held-ends.result ∷ c.step_read_held-ports.result ∷ []) a.others c.step_read_held-name.result (knows_more m (me c.step_read_held-ends.new.steps) (me c.step_read_held-ports.new.steps) a.kept (c.step_read_held-ends.result ∷ []) a.others c.step_read_held-ports.result (knows_more m m (me c.step_read_held-ends.new.steps) a.kept [] a.others c.step_read_held-ends.result (knows_none m a.kept a.others a.there a.none) c.step_read_held-ends.ensures.view) c.step_read_held-ports.ensures.view) c.step_read_held-name.ensures.view)

pub returns-then-rank-rank_before-clause-checked : goal.returns-then-rank-rank_before-clause-checked
returns-then-rank-rank_before-clause-checked g c = let a = c.requires.at in let m = (me c.args.steps.now) in
    λ q h hs looks there. checked_same c.args.slot c.args.key c.args.rank_before m (me c.step_read_held-name.new.steps) (me c.step_read_last-extra.new.steps) a (record { ends = c.step_read_held-ends.result; ports = c.step_read_held-ports.result; name = c.step_read_held-name.result; extra = c.step_read_last-extra.result })
    (knows_more m (me c.step_read_held-ports.new.steps) (me c.step_read_held-name.new.steps) a.kept (c.step_read_held-ends.result ∷ c.step_read_held-ports.result ∷ []) a.others c.step_read_held-name.result (knows_more m (me c.step_read_held-ends.new.steps) (me c.step_read_held-ports.new.steps) a.kept (c.step_read_held-ends.result ∷ []) a.others c.step_read_held-ports.result (knows_more m m (me c.step_read_held-ends.new.steps) a.kept [] a.others c.step_read_held-ends.result (knows_none m a.kept a.others a.there a.none) c.step_read_held-ends.ensures.view) c.step_read_held-ports.ensures.view) c.step_read_held-name.ensures.view)
    c.step_read_last-extra.ensures.judged q h hs looks there (sym c.rank.ensures ∙ c.if-rank-rank_before.true)

pub returns-else-rank-rank_before-clause-checked : goal.returns-else-rank-rank_before-clause-checked
returns-else-rank-rank_before-clause-checked g c = let a = c.requires.at in let m = (me c.args.steps.now) in
    λ q h hs looks there. checked_other c.args.slot c.args.key c.args.rank_before m (me c.step_read_held-name.new.steps) (me c.step_read_last-extra.new.steps) a (record { ends = c.step_read_held-ends.result; ports = c.step_read_held-ports.result; name = c.step_read_held-name.result; extra = c.step_read_last-extra.result })
    (knows_more m (me c.step_read_held-ports.new.steps) (me c.step_read_held-name.new.steps) a.kept (c.step_read_held-ends.result ∷ c.step_read_held-ports.result ∷ []) a.others c.step_read_held-name.result (knows_more m (me c.step_read_held-ends.new.steps) (me c.step_read_held-ports.new.steps) a.kept (c.step_read_held-ends.result ∷ []) a.others c.step_read_held-ports.result (knows_more m m (me c.step_read_held-ends.new.steps) a.kept [] a.others c.step_read_held-ends.result (knows_none m a.kept a.others a.there a.none) c.step_read_held-ends.ensures.view) c.step_read_held-ports.ensures.view) c.step_read_held-name.ensures.view)
    c.step_read_last-extra.ensures.judged q h hs looks there (λ e. c.if-rank-rank_before.false (c.rank.ensures ∙ e))
