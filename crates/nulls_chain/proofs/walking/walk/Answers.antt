use Rattle.std.proofs.Common.{◌≡◌, ◌%◌, ◌/◌, ◌∷◌, [], subst, sym, ap, ◌∙◌, arith}
use Rattle.table_rule.specs.Plays.{Sat}
use Rattle.table_rule.specs.Calls.{IsIdle, seen_of, view, layout_of}
use Rattle.table_rule.specs.declared.view.ChainView.{ChainView}
use Rattle.nulls_chain.proofs.Changed.{at_even, leads_on}
use Rattle.nulls_chain.proofs.walking.walk.Goals as goal

pub returns-clause-at : goal.returns-clause-at
returns-clause-at c =
    let even : c.step-link.result % 2 ≡ 0 = let f = c.if-link-eq1.false in omega (arith, f) in
    let was = ap (λ (s : Sat). s.0.chain) c.step-link.ensures.view ∙ leads_on (view c.args.steps.now) c.step-link.result even in
    let v = (view c.args.steps.now) in
    at_even (layout_of c.args.chains.now) c.args.locked.now.bucket c.step-link.result v (view c.read_card-card.new.steps) c.read_card-card.result c.requires.at.0 c.requires.at.1 even (c.step-link.ensures.inside even)
    (ap (λ (s : Sat). s.0.chain) c.read_card-card.ensures.ahead ∙ ap (λ (x : ChainView). record x { ahead = seen_of (c.step-link.result / 2) c.read_card-card.result ∷ [] }) was)

pub returns-clause-cards : goal.returns-clause-cards
returns-clause-cards c = λ idle. c.read_card-card.ensures.card c.args.locked.now.bucket (ap (λ (s : Sat). s.0.chain.locked) c.step-link.ensures.view ∙ c.requires.at.0) (subst IsIdle (sym (ap (λ (s : Sat). s.0.slot) c.step-link.ensures.view)) idle)
