use Rattle.std.proofs.Common.{◌≡◌, ◌∙◌, ℕ, List, ◌∷◌, ap, sym, subst}
use Rattle.line_forms.specs.Kinds.{verb_text}
use Rattle.sock_script.specs.Seen.{texts}
use Rattle.refusals.specs.Reasons.{HasReason}
use Rattle.refusals.proofs.reason.reason_of.Goals as goal

pub returns : goal.returns
returns c =
    let rest : List (List ℕ) = texts c.in-Some.rest.now in
    let is : texts c.args.words.now ≡ verb_text c.in-Some-verb_of.verb ∷ rest =
    c.in-Some.ensures.some ∙ ap (λ (w : List ℕ). w ∷ rest) c.in-Some-verb_of.ensures.some in
    subst (λ (ws : List (List ℕ)). HasReason c.args.mode (texts c.args.lines.now) ws c.form_reason.result) (sym is)
    (c.form_reason.ensures c.args.mode (texts c.args.lines.now))
