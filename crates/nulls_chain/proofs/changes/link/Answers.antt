use Rattle.std.proofs.Common.{◌++◌, List, sym, ap, ◌∙◌, refl, subst, arith}
use Rattle.table_rule.specs.Plays.{Sat}
use Rattle.table_rule.specs.CardsOk.{MayLight, beside}
use Rattle.table_rule.specs.Calls.{seen_of, view, layout_of}
use Rattle.table_rule.specs.declared.view.Seen.{Seen}
use Rattle.nulls_chain.proofs.Changed.{may_light, home_first, beside_none}
use Rattle.nulls_chain.proofs.changes.link.Goals as goal

pub step_link-requires-clause-fresh : goal.step_link-requires-clause-fresh
step_link-requires-clause-fresh g c = (seen_of c.args.slot c.args.card.now, refl, ap (λ (s : Sat). s.0.slot.fresh) c.step_again_head-head.ensures.same ∙ c.requires.fresh)

pub step_head-requires-clause-tied : goal.step_head-requires-clause-tied
step_head-requires-clause-tied g c = (seen_of c.args.slot c.args.card.now, refl, ap (λ (s : Sat). s.0.slot.tied) c.step_link.ensures.view ∙ (ap (λ (s : Sat). s.0.slot.fresh) c.step_again_head-head.ensures.same ∙ c.requires.fresh))

pub step_live-requires-clause-held : goal.step_live-requires-clause-held
step_live-requires-clause-held g c =
    let walked = ap (λ (s : Sat). s.0.chain.walked) c.step_head.ensures.view
    ∙ (ap (λ (s : Sat). s.0.slot.tied ++ s.0.chain.walked) c.step_link.ensures.view
    ∙ (ap (λ (s : Sat). s.0.slot.fresh ++ s.0.chain.walked) c.step_again_head-head.ensures.same ∙ ap (λ (l : List Seen). l ++ (view c.args.steps.now).chain.walked) c.requires.fresh)) in (
      c.args.bucket,
      ap (λ (s : Sat). s.0.chain.locked) c.step_head.ensures.view ∙ (ap (λ (s : Sat). s.0.chain.locked) c.step_link.ensures.view ∙ (ap (λ (s : Sat). s.0.chain.locked) c.step_again_head-head.ensures.same ∙ c.requires.held)),
      λ s rest e. home_first (layout_of c.args.chains.now) c.args.bucket (seen_of c.args.slot c.args.card.now) s (view c.args.steps.now).chain.walked rest (sym walked ∙ e) c.requires.home,
    )

pub step_live-requires-clause-alone : goal.step_live-requires-clause-alone
step_live-requires-clause-alone g c = subst (MayLight c.args.slot) (sym (ap (λ (s : Sat). s.0.chain.walked) c.step_head.ensures.view
    ∙ (ap (λ (s : Sat). s.0.slot.tied ++ s.0.chain.walked) c.step_link.ensures.view
    ∙ (ap (λ (s : Sat). s.0.slot.fresh ++ s.0.chain.walked) c.step_again_head-head.ensures.same ∙ ap (λ (l : List Seen). l ++ (view c.args.steps.now).chain.walked) c.requires.fresh))))
    (may_light c.args.slot c.args.card.now (view c.args.steps.now).chain.walked c.requires.twin)

pub step_live-requires-clause-first : goal.step_live-requires-clause-first
step_live-requires-clause-first g c = (
  seen_of c.args.slot c.args.card.now,
  (view c.args.steps.now).chain.walked,
  c.args.card.now.ends,
  c.args.card.now.ports,
  c.args.card.now.name,
  c.args.card.now.extra,
  ap (λ (s : Sat). s.0.chain.walked) c.step_head.ensures.view
      ∙ (ap (λ (s : Sat). s.0.slot.tied ++ s.0.chain.walked) c.step_link.ensures.view
      ∙ (ap (λ (s : Sat). s.0.slot.fresh ++ s.0.chain.walked) c.step_again_head-head.ensures.same ∙ ap (λ (l : List Seen). l ++ (view c.args.steps.now).chain.walked) c.requires.fresh)),
  refl,
  refl,
  c.requires.words,
)

pub step_link-requires-clause-begun : goal.step_link-requires-clause-begun
step_link-requires-clause-begun g c = let b = c.requires.begun.0 in (b.0, ap (λ (s : Sat). s.0.book.opened) c.step_again_head-head.ensures.same ∙ b.1, b.2, b.3)

pub returns-clause-twice : goal.returns-clause-twice
returns-clause-twice g c = λ alone.
    let walked = ap (λ (s : Sat). s.0.chain.walked) c.step_head.ensures.view
    ∙ (ap (λ (s : Sat). s.0.slot.tied ++ s.0.chain.walked) c.step_link.ensures.view
    ∙ (ap (λ (s : Sat). s.0.slot.fresh ++ s.0.chain.walked) c.step_again_head-head.ensures.same ∙ ap (λ (l : List Seen). l ++ (view c.args.steps.now).chain.walked) c.requires.fresh)) in
    omega (arith, ap (λ (s : Sat). s.0.twice) c.step_live.ensures.view, ap (λ (s : Sat). s.0.twice) c.step_head.ensures.view, ap (λ (s : Sat). s.0.twice) c.step_link.ensures.view, ap (λ (s : Sat). s.0.twice) c.step_again_head-head.ensures.same, ap beside walked, beside_none c.args.slot c.args.card.now (view c.args.steps.now).chain.walked alone)
