use Rattle.std.proofs.Common.{◌≡◌, ℕ, List, [], ◌∷◌, codes, decimal, ap, sym, ◌∙◌, refl, arith}
use Rattle.flat_list.specs.Ports.{none_reserved}
use Rattle.sock_script.specs.declared.line.Line.TheVariants as lines
use Rattle.refusals.specs.Ports.{AreTwo}
use Rattle.refusals.proofs.Ranges.{two, odd_form}
use Rattle.refusals.proofs.ports.order_fault.Goals as goal

pub returns : goal.returns
returns c =
    let words = two c.args.low.now c.args.high.now c.port-2.result c.port.result c.port-2.ensures.spelled c.port.ensures.spelled in
    (c.port-2.result, c.port.result, words, omega (arith, c.if-port.false), λ odd. c.requires.formless (odd_form _ _ _ _ words (omega (arith, c.port-2.ensures.low)) (omega (arith, c.if-port.false)) (omega (arith, c.port.ensures.high)) odd))
