use Rattle.std.proofs.Common.{true, refl, sym, subst, arith}
use Rattle.label_index.specs.Firsts.{Note}
use Rattle.label_index.proofs.Noted.{numbered}
use Rattle.label_index.proofs.index.note_place.Goals as goal

pub returns-in-Numbered-clause-noted : goal.returns-in-Numbered-clause-noted
returns-in-Numbered-clause-noted c =
    subst (λ f. Note f c.args.label.now c.args.place f true) (sym c.in-Numbered.is)
    (numbered c.args.label.now c.args.place (omega (arith, c.ranges.place.fits)) (c.if-is_number.ensures.label refl) (c.if-is_number.ensures.number refl))
