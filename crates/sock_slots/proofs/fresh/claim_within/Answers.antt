use Rattle.std.proofs.Common.{◌∙◌, ap, ◌+◌, arith, sym, List, true, false}
use Rattle.sock_slots.specs.Claims.{Between}
use Rattle.table_rule.specs.Calls.{view}
use Rattle.table_rule.specs.Plays.{Sat}
use Rattle.sock_slots.proofs.Tries.{tried_as, tried_more, bare_tried, closed_tried, used_more_is}
use Rattle.table_rule.specs.Sole.{used_in}
use Rattle.table_rule.specs.declared.view.Change.{Change}
use Rattle.sock_slots.proofs.fresh.claim_within.Goals.{then-state, else-state}
use Rattle.sock_slots.proofs.fresh.claim_within.Goals as goal

pub loop-slot-preserved : goal.loop-slot-preserved
loop-slot-preserved c =
    let i = c.loop-slot.invariant in record {
      table = c.claim_one-state.ensures.table;
      carried = elim c.if-state.branch [
        | then-state w ↦ ap (λ (s : Sat). s.1) (c.claim_one-state.ensures.owned w.if-state.true) ∙ i.carried
        | else-state w ↦ ap (λ (s : Sat). s.1) (c.claim_one-state.ensures.held c.if-state-eq0.false (omega (arith, w.if-state.false))) ∙ i.carried
      ];
      counted = elim c.if-state.branch [ then-state w ↦ omega (arith, i.counted, w.owned-is, w.held-is) | else-state w ↦ omega (arith, i.counted, w.owned-is, w.held-is) ];
      used = λ b.
          let w = bare_tried (view c.args.steps.now) (view c.loop-slot.steps) _ _ _ i.seen b in
          let k = c.claim_one-state.ensures.known w in (
            used_more_is (view c.args.steps.now).book.closed c.args.start c.loop-slot.slot (i.used b).0 (ap (λ (l : List Change). used_in l c.loop-slot.slot) (sym (closed_tried (view c.args.steps.now) (view c.loop-slot.steps) _ _ _ i.seen)) ∙ k.1 c.if-state-eq0.false),
            elim c.if-state.branch [
              | then-state w ↦ w.held-is ∙ (i.used b).1
              | else-state w ↦ absurd (omega (arith, w.if-state.false, k.2 c.if-state-eq0.false))
            ],
          );
      seen = elim c.if-state.branch [
        | then-state w ↦ tried_as (view c.args.steps.now) (view c.claim_one-state.new.steps) (c.loop-slot.owned + 1) (c.loop-slot.held + 0) _ _ (Between c.args.start (c.loop-slot.slot + 1)) w.owned-is (w.held-is ∙ omega arith)
            (tried_more (view c.args.steps.now) (view c.loop-slot.steps) (view c.claim_one-state.new.steps) c.loop-slot.owned c.loop-slot.held c.loop-slot.slot true (Between c.args.start c.loop-slot.slot) (Between c.args.start (c.loop-slot.slot + 1)) (λ j q. (q.0, let z = q.1 in omega (arith, z))) (omega (arith, i.counted), omega arith) (λ q. let z = q.1 in omega (arith, z)) i.seen (ap (λ (s : Sat). s.0) (c.claim_one-state.ensures.owned w.if-state.true)))
        | else-state w ↦ tried_as (view c.args.steps.now) (view c.claim_one-state.new.steps) (c.loop-slot.owned + 0) (c.loop-slot.held + 1) _ _ (Between c.args.start (c.loop-slot.slot + 1)) (w.owned-is ∙ omega arith) w.held-is
            (tried_more (view c.args.steps.now) (view c.loop-slot.steps) (view c.claim_one-state.new.steps) c.loop-slot.owned c.loop-slot.held c.loop-slot.slot false (Between c.args.start c.loop-slot.slot) (Between c.args.start (c.loop-slot.slot + 1)) (λ j q. (q.0, let z = q.1 in omega (arith, z))) (omega (arith, i.counted), omega arith) (λ q. let z = q.1 in omega (arith, z)) i.seen (ap (λ (s : Sat). s.0) (c.claim_one-state.ensures.held c.if-state-eq0.false (omega (arith, w.if-state.false)))))
      ];
    }

pub returns-then-state-eq0-clause-first : goal.returns-then-state-eq0-clause-first
returns-then-state-eq0-clause-first c = λ b.
    let i = c.loop-slot.invariant in
    let w = bare_tried (view c.args.steps.now) (view c.loop-slot.steps) _ _ _ i.seen b in
    (ap (λ (l : List Change). used_in l c.loop-slot.slot) (sym (closed_tried (view c.args.steps.now) (view c.loop-slot.steps) _ _ _ i.seen)) ∙ (c.claim_one-state.ensures.known w).0 c.if-state-eq0.true, (i.used b).0)
