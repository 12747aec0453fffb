use Rattle.std.proofs.Common.{◌+◌, arith}
use Rattle.sock_ops.specs.Stands.{MayDraw}
use Rattle.table_tests.proofs.operations.listen_and_drop.Goals as goal

pub drop_sock-requires-clause-draws : goal.drop_sock-requires-clause-draws
drop_sock-requires-clause-draws g c =
    let all = c.requires.draws in
    let some : MayDraw (2 + 2) c.args.worker.now = omega arith in
    c.listen.ensures.drawn 2 some
