use Rattle.std.proofs.Common.{◌≤◌, ℕ, sym, subst, ◌∙◌}
use Rattle.bind_buckets.specs.Closed.{AreNew}
use Rattle.bind_buckets.proofs.Opened.{idle_first}
use Rattle.bind_buckets.proofs.turning.with_buckets.Goals as goal

pub with_home-requires-clause-new : goal.with_home-requires-clause-new
with_home-requires-clause-new c = subst (λ (n : ℕ). AreNew c.args.sharing 0 n c.in_ok-buckets.buckets.items) (sym c.in_ok-buckets.ensures.long) (c.in_ok-buckets.ensures.new c.args.sharing)

pub returns-clause-alone : goal.returns-clause-alone
returns-clause-alone c =
    let e = c.in_ok-turns.ensures in
    let t = c.in_ok-turns.turns in
    let some = subst (λ (n : ℕ). 1 ≤ n) (sym (e.places ∙ c.in_ok-buckets.ensures.long)) c.requires.some in
    λ is. idle_first t c.in_ok-turns.pass c.args.sharing e.pass.0 e.pass.1 e.pass.2 some e.home is
