use Rattle.std.proofs.Common.{ℕ, subst, sym}
use Rattle.race_run.specs.Jobs.{AllReady}
use Rattle.race_run.specs.Works.{AllWorked}
use Rattle.race_run.proofs.racing.race.Goals as goal

pub run_all-requires-clause-ready : goal.run_all-requires-clause-ready
run_all-requires-clause-ready g c =
    let it : AllReady c.args.script.now.header c.args.tables c.in_ok-tickets.tickets c.in_ok-jobs.jobs.items = c.in_ok-jobs.ensures.jobs c.args.script.now.header c.requires.tables in
    λ κs within. it

pub finish-requires-clause-worked : goal.finish-requires-clause-worked
finish-requires-clause-worked g c =
    let done = c.in_ok-done.ensures in
    let worked = subst (λ (n : ℕ). AllWorked c.args.script.now c.args.passes c.args.capture.now.items c.args.tables c.in_ok-tickets.tickets n c.in_ok-done.done.items) (sym done.count) done.worked in
    (c.args.passes, worked)
