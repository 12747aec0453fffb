use Rattle.std.proofs.Common.{◌+◌, ◌*◌, List, length, sym, subst}
use Rattle.table_model.specs.Own.{Mine}
use Rattle.sock_ops.specs.Stands.{MayDraw}
use Rattle.section_machine.proofs.waits.Waits.reap_most.Goals as goal

pub returns-clause-drawn : goal.returns-clause-drawn
returns-clause-drawn g c = λ more may.
    c.reap_first.ensures.drawn more (subst (λ (ws : List Mine). MayDraw (more + 2 * length ws) c.args.worker.now) (sym c.self.view_is) may)
