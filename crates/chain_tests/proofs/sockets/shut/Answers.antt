use Rattle.std.proofs.Common.{◌+◌, sym, subst, arith}
use Rattle.table_rule.specs.Plays.{Sat}
use Rattle.table_rule.specs.Calls.{view, HasShares}
use Rattle.chain_tests.proofs.Readied.{shares_split}
use Rattle.chain_tests.proofs.sockets.shut.Goals as goal

pub returns : goal.returns
returns g c =
    let n = c.args.rest in
    let e = c.remove.ensures in
    let lent = shares_split (view c.args.pass.now.steps) n c.requires.ready.4 in
    let share = e.share (n + n) (subst (λ (s : Sat). HasShares ((n + n) + 2) s.0) (sym (rw c.unwrap-locked.ensures at c.lock.ensures.view)) lent) in
    record { ready = (e.table, e.idle.0, e.idle.1, e.free, share, omega (arith, c.requires.ready.5, e.len, e.room)) }
