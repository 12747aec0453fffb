use Rattle.std.proofs.Common.{◌≡◌, ◌∙◌, ◌<◌, ◌/◌, ℕ, inl, sym, ap, subst, arith}
use Rattle.table_rule.specs.Plays.{Sat}
use Rattle.table_rule.specs.Lists.{stands}
use Rattle.table_rule.specs.Calls.{view, layout_of}
use Rattle.table_rule.specs.declared.view.ChainView.{ChainView}
use Rattle.nulls_chain.proofs.Found.{next, within, next_sought, found_behind, link_end}
use Rattle.nulls_chain.proofs.Walked.{few_walked}
use Rattle.nulls_chain.proofs.finding.slot_before.Goals as goal

pub overflow_cast-here : goal.overflow_cast-here
overflow_cast-here c =
    let n = next (layout_of c.args.chains.now) c.args.bucket c.args.slot (view c.args.steps.now).chain.walked c.requires.known.1 c.requires.listed c.loop-count.before c.loop-count.link c.loop-count._count c.loop-count.invariant.sought in
    omega (arith, n.at, n.near)

pub returns-then-here-slot-clause-stands : goal.returns-then-here-slot-clause-stands
returns-then-here-slot-clause-stands c =
    let t = c.loop-count.invariant.sought in
    let n = next (layout_of c.args.chains.now) c.args.bucket c.args.slot (view c.args.steps.now).chain.walked c.requires.known.1 c.requires.listed c.loop-count.before c.loop-count.link c.loop-count._count t in
    found_behind (layout_of c.args.chains.now) (view c.args.steps.now) c.loop-count.before t.front n.rest n.seen c.args.slot t.ends n.whole (let e = c.if-here-slot.true in omega (arith, n.at, e)) c.requires.whole.0

pub step_again_link-link-requires-clause-slot : goal.step_again_link-link-requires-clause-slot
step_again_link-link-requires-clause-slot c =
    let n = next (layout_of c.args.chains.now) c.args.bucket c.args.slot (view c.args.steps.now).chain.walked c.requires.known.1 c.requires.listed c.loop-count.before c.loop-count.link c.loop-count._count c.loop-count.invariant.sought in
    omega (arith, n.at, n.near)

pub step_again_link-link-requires-clause-held : goal.step_again_link-link-requires-clause-held
step_again_link-link-requires-clause-held c = (c.args.bucket, ap (λ (s : Sat). s.0.chain.locked) c.loop-count.invariant.same ∙ c.requires.held.0)

pub step_again_link-link-requires-clause-listed : goal.step_again_link-link-requires-clause-listed
step_again_link-link-requires-clause-listed c =
    let n = next (layout_of c.args.chains.now) c.args.bucket c.args.slot (view c.args.steps.now).chain.walked c.requires.known.1 c.requires.listed c.loop-count.before c.loop-count.link c.loop-count._count c.loop-count.invariant.sought in
    let here : n.seen.slot ≡ c.loop-count.link / 2 = omega (arith, n.at) in
    subst (λ (i : ℕ). 0 < stands i (view c.loop-count.steps).chain.walked) here (subst (λ (s : Sat). 0 < stands n.seen.slot s.0.chain.walked) (sym c.loop-count.invariant.same) n.listed)

pub loop-count-preserved : goal.loop-count-preserved
loop-count-preserved c =
    let v = view c.args.steps.now in
    let i = c.loop-count.invariant in
    let t = i.sought in
    let n = next (layout_of c.args.chains.now) c.args.bucket c.args.slot v.chain.walked c.requires.known.1 c.requires.listed c.loop-count.before c.loop-count.link c.loop-count._count t in
    let here : n.seen.slot ≡ c.loop-count.link / 2 = omega (arith, n.at) in
    let chain : (view c.loop-count.steps).chain ≡ v.chain = ap (λ (s : Sat). s.0.chain) i.same in
    let told = c.step_again_link-link.ensures.told c.args.bucket t.front n.rest n.seen here (ap (λ (x : ChainView). x.locked) chain ∙ c.requires.held.0) (ap (λ (x : ChainView). x.walked) chain ∙ n.longer) (inl (ap (λ (x : ChainView). x.met) chain ∙ c.requires.whole.0)) in
    record {
      table = c.step_again_link-link.ensures.table;
      same = c.step_again_link-link.ensures.same ∙ i.same;
      sought = next_sought (layout_of c.args.chains.now) c.args.bucket c.args.slot v.chain.walked c.requires.known.1 c.requires.listed c.loop-count.before c.loop-count.link c.loop-count._count t (c.loop-count.link / 2) c.step_again_link-link.result (sym here) c.if-here-slot.false
          (told.0 ∙ link_end c.args.bucket n.rest (view c.loop-count.steps).chain.ahead (ap (λ (x : ChainView). x.ahead) chain ∙ c.requires.whole.1));
    }

pub unreachable-requires : goal.unreachable-requires
unreachable-requires c =
    let few = few_walked (layout_of c.args.chains.now) (view c.args.steps.now) c.requires.known in
    let w = within (layout_of c.args.chains.now) c.args.bucket c.args.slot (view c.args.steps.now).chain.walked c.requires.known.1 c.requires.listed c.loop-count.before c.loop-count.link c.loop-count._count c.loop-count.invariant.sought in
    let end = c.loop-count-test.false in
    omega (arith, few, w, end, c.slot_count-count-end.ensures)
