use Rattle.std.proofs.Common.{◌≡◌, ◌∙◌, ap, not, Some, Option, List, ℕ}
use Rattle.sock_script.specs.Grammar.{given_label}
use Rattle.sock_script.specs.Steps.{is_new_among}
use Rattle.sock_script.proofs.Labels.{is_among}
use Rattle.sock_script.proofs.LastSection.{when_told}
use Rattle.sock_script.proofs.draft.note_label.Goals as goal

pub returns-in-Some-clause-told : goal.returns-in-Some-clause-told
returns-in-Some-clause-told c =
    let labels : List (List ℕ) = c.args.labels.now in
    let given : Some c.in-Some.label ≡ given_label c.args.command.now = c.in-Some.ensures in
    let among = ap not (is_among labels c.in-Some.label) ∙ ap (λ (o : Option (List ℕ)). is_new_among o labels) given in
    when_told c.give_and_tell.result _ _ (λ h. h ∙ among) (λ h. h ∙ among) c.give_and_tell.ensures.told
