use Rattle.std.proofs.Common.{◌+◌, arith}
use Rattle.table_rule.specs.Calls.{view}
use Rattle.chain_tests.proofs.Readied.{shares_split}
use Rattle.chain_tests.proofs.rows.open.Goals as goal

pub returns-clause-ready : goal.returns-clause-ready
returns-clause-ready g c =
    let n = c.args.rest in
    let e = c.add.ensures in
    (e.table, e.idle.0, e.idle.1, e.free, e.share (n + n) (shares_split (view c.args.pass.now.steps) n c.requires.ready.4), omega (arith, c.requires.ready.5, e.len, e.room))
