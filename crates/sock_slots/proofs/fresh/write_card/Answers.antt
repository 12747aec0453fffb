use Rattle.std.proofs.Common.{◌∷◌, [], List, ap, ◌∙◌, refl}
use Rattle.table_rule.specs.Plays.{Sat, knowing}
use Rattle.table_rule.specs.declared.view.Seen.{Seen}
use Rattle.sock_slots.proofs.fresh.write_card.Goals as goal

pub step_card-requires-2-clause-fresh : goal.step_card-requires-2-clause-fresh
step_card-requires-2-clause-fresh c = (record { slot = c.args.slot; words = c.args.card.now.ends ∷ [] }, refl, refl, ap (λ (s : Sat). s.0.slot.fresh) c.step_card.ensures.view ∙ ap (λ (l : List Seen). knowing l c.args.card.now.ends) c.requires.fresh)

pub step_card-requires-3-clause-fresh : goal.step_card-requires-3-clause-fresh
step_card-requires-3-clause-fresh c = (record { slot = c.args.slot; words = c.args.card.now.ends ∷ c.args.card.now.ports ∷ [] }, refl, refl, ap (λ (s : Sat). s.0.slot.fresh) c.step_card-2.ensures.view ∙ ap (λ (l : List Seen). knowing l c.args.card.now.ports) (ap (λ (s : Sat). s.0.slot.fresh) c.step_card.ensures.view ∙ ap (λ (l : List Seen). knowing l c.args.card.now.ends) c.requires.fresh))

pub step_card-requires-4-clause-fresh : goal.step_card-requires-4-clause-fresh
step_card-requires-4-clause-fresh c = (record { slot = c.args.slot; words = c.args.card.now.ends ∷ c.args.card.now.ports ∷ c.args.card.now.name ∷ [] }, refl, refl, ap (λ (s : Sat). s.0.slot.fresh) c.step_card-3.ensures.view ∙ ap (λ (l : List Seen). knowing l c.args.card.now.name) (ap (λ (s : Sat). s.0.slot.fresh) c.step_card-2.ensures.view ∙ ap (λ (l : List Seen). knowing l c.args.card.now.ports) (ap (λ (s : Sat). s.0.slot.fresh) c.step_card.ensures.view ∙ ap (λ (l : List Seen). knowing l c.args.card.now.ends) c.requires.fresh)))

pub step_card-requires-2-clause-begun : goal.step_card-requires-2-clause-begun
step_card-requires-2-clause-begun c = (c.requires.begun.0, ap (λ (s : Sat). s.0.book.opened) c.step_card.ensures.view ∙ c.requires.begun.1, c.requires.begun.2, c.requires.begun.3)

pub step_card-requires-3-clause-begun : goal.step_card-requires-3-clause-begun
step_card-requires-3-clause-begun c = (c.requires.begun.0, (ap (λ (s : Sat). s.0.book.opened) c.step_card-2.ensures.view ∙ ap (λ (s : Sat). s.0.book.opened) c.step_card.ensures.view) ∙ c.requires.begun.1, c.requires.begun.2, c.requires.begun.3)

pub step_card-requires-4-clause-begun : goal.step_card-requires-4-clause-begun
step_card-requires-4-clause-begun c = (c.requires.begun.0, (ap (λ (s : Sat). s.0.book.opened) c.step_card-3.ensures.view ∙ (ap (λ (s : Sat). s.0.book.opened) c.step_card-2.ensures.view ∙ ap (λ (s : Sat). s.0.book.opened) c.step_card.ensures.view)) ∙ c.requires.begun.1, c.requires.begun.2, c.requires.begun.3)
