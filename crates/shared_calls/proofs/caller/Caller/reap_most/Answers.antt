use Rattle.std.proofs.Common.{sym, subst}
use Rattle.flat_list.specs.declared.command.Command.TheVariants as commands
use Rattle.sock_ops.specs.declared.tables.Tables.{Tables}
use Rattle.shared_calls.specs.Callings.{HasStamps, IsCalling, calling}
use Rattle.shared_calls.proofs.Reapings.{goes_on_reaped}
use Rattle.shared_calls.proofs.caller.Caller.reap_most.Goals as goal

pub invariant_of-self : goal.invariant_of-self
invariant_of-self g c =
    let m = c.self.inside in
    let is = c.deref-tables.ensures in
    let was : IsCalling (calling c.deref-tables.result.now m.machine m.worker m.tag) = subst (λ (t : Tables). IsCalling (calling t m.machine m.worker m.tag)) (sym is) c.self.invariant in
    let stamps : HasStamps (calling c.deref-tables.result.now m.machine m.worker m.tag) commands.Reap = c.has_stamps.ensures.0 c.if-not-has_stamps.false in
    subst (λ (t : Tables). IsCalling (calling t c.reap_most.new.self c.reap_most.new.worker m.tag)) is
    (goes_on_reaped c.deref-tables.result.now m.machine c.reap_most.new.self m.worker c.reap_most.new.worker m.tag c.args.most c.reap_most.result was stamps c.reap_most.ensures.section c.reap_most.ensures.spends c.reap_most.ensures.labels c.reap_most.ensures.reaps
    c.reap_most.ensures.left)
