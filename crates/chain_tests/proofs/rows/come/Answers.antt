use Rattle.std.proofs.Common.{◌+◌, arith}
use Rattle.table_rule.specs.Calls.{view}
use Rattle.chain_tests.proofs.Readied.{shares_split_two}
use Rattle.chain_tests.proofs.rows.come.Goals as goal

pub returns-in-Ok-clause-ready : goal.returns-in-Ok-clause-ready
returns-in-Ok-clause-ready g c =
    let n = c.args.rest in
    let e = c.insert.ensures in
    (e.table, e.idle.0, e.idle.1, e.free, e.share (n + n) (shares_split_two (view c.args.pass.now.steps) n c.requires.ready.4), omega (arith, c.requires.ready.5, e.len, e.room))
