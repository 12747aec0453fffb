use Rattle.std.proofs.Common.{◌%◌, ap, sym, ◌∙◌, arith}
use Rattle.std.specs.Option.{option_copied}
use Rattle.open_places.specs.Pages.{cells_of, value_on}
use Rattle.open_places.proofs.Pages.{earlier_holds, last_holds}
use Rattle.open_places.proofs.paged.Paged.at.Goals as goal

pub returns-then-place-self : goal.returns-then-place-self
returns-then-place-self g c =
    c.at.ensures ∙ sym (last_holds c.self.inside.earlier c.self.inside.number c.self.inside.last c.self.invariant c.args.self.now c.self.view_is c.args.place (omega (arith, c.if-place-self.true))).value

pub returns-in_err-get : goal.returns-in_err-get
returns-in_err-get g c =
    ap option_copied c.from_residual.ensures ∙ ap (λ o. value_on (cells_of o) (c.args.place % 32)) c.in_err-get.ensures.value ∙ sym (earlier_holds c.self.inside.earlier c.self.inside.number c.self.inside.last c.self.invariant c.args.self.now c.self.view_is c.args.place (omega (arith, c.if-place-self.false))).value

pub returns : goal.returns
returns g c =
    c.at-2.ensures ∙ ap (λ o. value_on (cells_of o) (c.args.place % 32)) c.in_ok-get.ensures.value ∙ sym (earlier_holds c.self.inside.earlier c.self.inside.number c.self.inside.last c.self.invariant c.args.self.now c.self.view_is c.args.place (omega (arith, c.if-place-self.false))).value
