use Rattle.std.proofs.Common.{◌+◌, arith}
use Rattle.sock_ops.specs.Stands.{MayDraw}
use Rattle.table_tests.proofs.operations.listen_and_close.Goals as goal

pub close-requires-clause-draws : goal.close-requires-clause-draws
close-requires-clause-draws g c =
    let all = c.requires.draws in
    let some : MayDraw (4 + 2) c.args.worker.now = omega arith in
    c.listen.ensures.drawn 4 some
