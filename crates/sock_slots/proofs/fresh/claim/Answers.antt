use Rattle.std.proofs.Common.{◌≡◌, ◌≤◌, ◌+◌, ℕ, ap, ◌∙◌, arith}
use Rattle.sock_slots.specs.Claims.{Between}
use Rattle.table_rule.specs.Calls.{view, layout_of}
use Rattle.table_rule.specs.Plays.{claiming}
use Rattle.sock_slots.proofs.Tries.{tried_both, tried_wide}
use Rattle.sock_slots.proofs.fresh.claim.Goals as goal

pub returns-in-Ok-claim_within-clause-some : goal.returns-in-Ok-claim_within-clause-some
returns-in-Ok-claim_within-clause-some c =
    let a = c.in-Err.ensures.full in
    let t = c.in-Ok-claim_within.ensures.some in
    let n : ℕ = c.slot_count.result in
    let m : ℕ = (layout_of c.args.chains.now).shape.slots in
    let e : n ≡ m = c.slot_count.ensures in (
      t.0,
      t.3,
      c.in-Err.high.owned + t.4,
      c.in-Err.high.held + t.5,
      tried_both (view c.args.steps.now) (view c.claim_within.new.steps) t.3 c.in-Err.high.owned c.in-Err.high.held t.4 t.5 (Between c.args.from n) (Between 0 c.in-Ok-claim_within.slot) (Between 0 m)
          (λ i p q. let x = p.0 in let y = q.1 in let z = t.2 in omega (arith, x, y, z)) (λ i p. (omega arith, let x = p.1 in omega (arith, x, e))) (λ i q. (q.0, let x = q.1 in let y = t.0 in omega (arith, x, y))) a.1 t.6,
      t.7 ∙ ap (λ s. (claiming t.3 c.in-Ok-claim_within.slot, s)) a.2,
    )

pub returns-in-Err-claim_within-clause-full : goal.returns-in-Err-claim_within-clause-full
returns-in-Err-claim_within-clause-full c =
    let a = c.in-Err.ensures.full in
    let b = c.in-Err-claim_within.ensures.full in
    let n : ℕ = c.slot_count.result in
    let m : ℕ = (layout_of c.args.chains.now).shape.slots in
    let e : n ≡ m = c.slot_count.ensures in
    let from : c.args.from ≤ m = c.requires.from in (
      (
        omega (arith, a.0, b.0, e),
        tried_both (view c.args.steps.now) (view c.claim_within.new.steps) (view c.claim_within-in-Err.new.steps) c.in-Err.high.owned c.in-Err.high.held c.in-Err-claim_within.low.owned c.in-Err-claim_within.low.held (Between c.args.from n) (Between 0 c.args.from) (Between 0 m)
            (λ i p q. let x = p.0 in let y = q.1 in omega (arith, x, y)) (λ i p. (omega arith, let x = p.1 in omega (arith, x, e))) (λ i q. (q.0, let x = q.1 in omega (arith, x, from))) a.1 b.1,
      ),
      b.2 ∙ a.2,
    )

pub returns-in-Ok-clause-some : goal.returns-in-Ok-clause-some
returns-in-Ok-clause-some c =
    let t = c.in-Ok.ensures.some in
    let m : ℕ = (layout_of c.args.chains.now).shape.slots in (
      t.0,
      t.3,
      t.4,
      t.5,
      tried_wide (view c.args.steps.now) t.3 t.4 t.5 (Between c.args.from c.in-Ok.slot) (Between 0 m) (λ i q. (omega arith, let x = q.1 in let y = t.0 in omega (arith, x, y))) t.6,
      t.7,
    )
