use Rattle.std.proofs.Common.{◌≡◌, ℕ, ◌∷◌, [], List, ap, ◌∙◌, refl}
use Rattle.table_rule.specs.Plays.{Sat, knowing}
use Rattle.table_rule.specs.declared.view.Seen.{Seen}
use Rattle.nulls_chain.proofs.walking.read_card.Goals as goal
use Rattle.table_rule.specs.Calls.{me}

pub step_read-ports-requires-clause-ahead : goal.step_read-ports-requires-clause-ahead
step_read-ports-requires-clause-ahead c = (record { slot = c.args.slot; words = c.step_read-ends.result ∷ [] }, refl, refl, (ap (λ (s : Sat). s.0.chain.ahead) c.step_read-ends.ensures.view ∙ ap (λ (l : List Seen). knowing l c.step_read-ends.result) c.requires.ahead))

pub step_read-name-requires-clause-ahead : goal.step_read-name-requires-clause-ahead
step_read-name-requires-clause-ahead c = (record { slot = c.args.slot; words = c.step_read-ends.result ∷ c.step_read-ports.result ∷ [] }, refl, refl, (ap (λ (s : Sat). s.0.chain.ahead) c.step_read-ports.ensures.view ∙ ap (λ (l : List Seen). knowing l c.step_read-ports.result) (ap (λ (s : Sat). s.0.chain.ahead) c.step_read-ends.ensures.view ∙ ap (λ (l : List Seen). knowing l c.step_read-ends.result) c.requires.ahead)))

pub step_read-extra-requires-clause-ahead : goal.step_read-extra-requires-clause-ahead
step_read-extra-requires-clause-ahead c = (record { slot = c.args.slot; words = c.step_read-ends.result ∷ c.step_read-ports.result ∷ c.step_read-name.result ∷ [] }, refl, refl, (ap (λ (s : Sat). s.0.chain.ahead) c.step_read-name.ensures.view ∙ ap (λ (l : List Seen). knowing l c.step_read-name.result) (ap (λ (s : Sat). s.0.chain.ahead) c.step_read-ports.ensures.view ∙ ap (λ (l : List Seen). knowing l c.step_read-ports.result) (ap (λ (s : Sat). s.0.chain.ahead) c.step_read-ends.ensures.view ∙ ap (λ (l : List Seen). knowing l c.step_read-ends.result) c.requires.ahead))))

pub returns-clause-card : goal.returns-clause-card
returns-clause-card c = λ b had idle.
    let along = λ (f : Sat → List ℕ) (g : f (me c.step_read-name.new.steps) ≡ f (me c.step_read-ports.new.steps)) (h : f (me c.step_read-ports.new.steps) ≡ f (me c.step_read-ends.new.steps)) (k : f (me c.step_read-ends.new.steps) ≡ f (me c.args.steps.now)). g ∙ (h ∙ k) in
    let hung : Sat → List ℕ = λ s. s.0.slot.hung in
    let dimmed : Sat → List ℕ = λ s. s.0.slot.dimmed in
    let locked : Sat → List ℕ = λ s. s.0.chain.locked in
    c.step_read-extra.ensures.card
    (along hung (ap hung c.step_read-name.ensures.view) (ap hung c.step_read-ports.ensures.view) (ap hung c.step_read-ends.ensures.view) ∙ idle.2)
    (along dimmed (ap dimmed c.step_read-name.ensures.view) (ap dimmed c.step_read-ports.ensures.view) (ap dimmed c.step_read-ends.ensures.view) ∙ idle.3)
    b (record { slot = c.args.slot; words = c.step_read-ends.result ∷ c.step_read-ports.result ∷ c.step_read-name.result ∷ [] })
    (along locked (ap locked c.step_read-name.ensures.view) (ap locked c.step_read-ports.ensures.view) (ap locked c.step_read-ends.ensures.view) ∙ had)
    (ap (λ (s : Sat). s.0.chain.ahead) c.step_read-name.ensures.view ∙ ap (λ (l : List Seen). knowing l c.step_read-name.result) (ap (λ (s : Sat). s.0.chain.ahead) c.step_read-ports.ensures.view ∙ ap (λ (l : List Seen). knowing l c.step_read-ports.result) (ap (λ (s : Sat). s.0.chain.ahead) c.step_read-ends.ensures.view ∙ ap (λ (l : List Seen). knowing l c.step_read-ends.result) c.requires.ahead)))
    refl
