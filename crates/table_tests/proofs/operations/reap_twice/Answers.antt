use Rattle.std.proofs.Common.{◌+◌, arith}
use Rattle.sock_ops.specs.Stands.{MayDraw}
use Rattle.table_tests.proofs.operations.reap_twice.Goals as goal

pub reap_one-second-requires-clause-draws : goal.reap_one-second-requires-clause-draws
reap_one-second-requires-clause-draws g c =
    let all = c.requires.draws in
    let some : MayDraw (2 + 2) c.args.worker.now = omega arith in
    c.reap_one-first.ensures.drawn 2 some
