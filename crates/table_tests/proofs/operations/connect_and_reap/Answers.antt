use Rattle.std.proofs.Common.{◌+◌, arith}
use Rattle.sock_ops.specs.Stands.{MayDraw}
use Rattle.table_tests.proofs.operations.connect_and_reap.Goals as goal

pub close-requires-clause-draws : goal.close-requires-clause-draws
close-requires-clause-draws g c =
    let all = c.requires.draws in
    let some : MayDraw (4 + 4) c.args.worker.now = omega arith in
    c.connect.ensures.drawn 4 some

pub reap_twice-requires-clause-draws : goal.reap_twice-requires-clause-draws
reap_twice-requires-clause-draws g c =
    let all = c.requires.draws in
    let some : MayDraw (8 + 4) c.args.worker.now = omega arith in
    let more : MayDraw (4 + 4) c.connect.new.worker = c.connect.ensures.drawn 8 some in
    c.close.ensures.drawn 4 more
