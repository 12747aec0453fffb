use Rattle.std.proofs.Common.{◌≡◌, ℕ, List, ◌∷◌, ap, subst}
use Rattle.line_forms.specs.declared.verb.Part.{Part}
use Rattle.line_forms.specs.declared.verb.Verb.{Verb}
use Rattle.line_forms.specs.declared.verb.Verb.TheVariants as verbs
use Rattle.line_forms.specs.Kinds.{parts_of, verb_text}
use Rattle.line_forms.specs.Wants.{Fit, wants}
use Rattle.sock_script.specs.Seen.{texts}
use Rattle.refusals.specs.Ports.{IsForm}
use Rattle.refusals.proofs.Whole.{only_range}
use Rattle.refusals.proofs.reason.parts_reason.Goals as goal

pub range_fault-requires-clause-fit : goal.range_fault-requires-clause-fit
range_fault-requires-clause-fit c =
    let words : List (List ℕ) = texts c.args.rest.now in
    let fit : Fit (wants (parts_of c.args.verb) words) words = subst (λ (ps : List Part). Fit (wants ps words) words) c.parts.ensures c.in-Ok.ensures.ok in
    subst (λ (v : Verb). Fit (wants (parts_of v) words) words) (only_range c.args.verb words fit c.requires.parts c.requires.formless) fit

pub range_fault-requires-clause-formless : goal.range_fault-requires-clause-formless
range_fault-requires-clause-formless c =
    let words : List (List ℕ) = texts c.args.rest.now in
    let fit : Fit (wants (parts_of c.args.verb) words) words = subst (λ (ps : List Part). Fit (wants ps words) words) c.parts.ensures c.in-Ok.ensures.ok in
    subst (λ (v : Verb). IsForm (verb_text v ∷ words) → ⊥) (only_range c.args.verb words fit c.requires.parts c.requires.formless) c.requires.formless

pub returns-in-Err : goal.returns-in-Err
returns-in-Err c = c.misfit_reason.ensures

pub returns-in-Ok : goal.returns-in-Ok
returns-in-Ok c = λ mode lines.
    let words : List (List ℕ) = texts c.args.rest.now in
    let fit : Fit (wants (parts_of c.args.verb) words) words = subst (λ (ps : List Part). Fit (wants ps words) words) c.parts.ensures c.in-Ok.ensures.ok in (
      words,
      ap (λ (v : Verb). verb_text v ∷ words) (only_range c.args.verb words fit c.requires.parts c.requires.formless),
      c.range_fault.ensures,
      c.requires.formless,
    )
