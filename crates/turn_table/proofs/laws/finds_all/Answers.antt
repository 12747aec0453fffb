use Rattle.std.proofs.Common.{sym, subst}
use Rattle.turn_table.specs.Journals.{HasAllAt}
use Rattle.turn_table.proofs.CallerSteps.{callers_all}
use Rattle.turn_table.proofs.laws.finds_all.Goals as goal

pub returns : goal.returns
returns g c = λ home s o k l i v u me other at near.
    subst (HasAllAt i u.mine) (sym ((o.knowledge.knows k v me).here i at)) (callers_all _ o.journals s.views l i u other near o.callers)
