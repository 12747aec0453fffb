use Rattle.std.proofs.Common.{◌∙◌, ap, sym, arith}
use Rattle.line_forms.specs.Kinds.{verb_text}
use Rattle.line_forms.proofs.Verbs.{is_within, place_of, stands_at}
use Rattle.line_forms.proofs.verb.verb_of.Goals as goal

pub returns-clause-none : goal.returns-clause-none
returns-clause-none c verb e =
    c.loop-verb.invariant (place_of verb) (omega (arith, is_within verb, c.loop-verb-test.false)) (e ∙ ap verb_text (sym (stands_at verb)))
