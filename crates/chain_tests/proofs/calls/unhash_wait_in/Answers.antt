use Rattle.std.proofs.Common.{◌+◌, sym, ap, subst, arith, inl, ◌∙◌}
use Rattle.table_rule.specs.Plays.{Sat}
use Rattle.table_rule.specs.Calls.{view, HasShares}
use Rattle.chain_tests.proofs.Readied.{unlocked_ready, shares_split}
use Rattle.chain_tests.proofs.calls.unhash_wait_in.Goals as goal

pub returns : goal.returns
returns g c =
    let n = c.args.rest in
    let e = c.unhash_tw-slot.ensures in
    let lent = shares_split (view c.args.pass.now.steps) n c.requires.ready.4 in
    let share = e.share (n + n) (subst (λ (s : Sat). HasShares ((n + n) + 2) s.0) (sym (rw c.unwrap-locked.ensures at c.lock.ensures.view)) lent) in
    let r = unlocked_ready (view c.unhash_tw-slot.new.pass.steps) (view c.unlock.new.steps) (n + n) c.unlock.ensures.view.0 (ap (λ (s : Sat). s.0) c.unlock.ensures.view.2) e.idle.0 e.idle.1 share in
    record { ready = (c.unlock.ensures.table, r.0, r.1, r.2, r.3, omega (arith, c.requires.ready.5, e.len, e.room)) }

pub unlock-requires-clause-alone : goal.unlock-requires-clause-alone
unlock-requires-clause-alone g c = inl (c.unhash_tw-slot.ensures.twice ∙ ap (λ (s : Sat). s.0.twice) (rw c.unwrap-locked.ensures at c.lock.ensures.view))
