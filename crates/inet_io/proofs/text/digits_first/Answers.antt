use Rattle.std.proofs.Common.{◌≡◌, ◌<◌, arith, sym, get_or}
use Rattle.std.specs.Char.{digit_value}
use Rattle.std.proofs.lemmas.Bool.Decides.{nat_tests}
use Rattle.std.proofs.lemmas.Int.Digits.{digits_value_more, digits_more}
use Rattle.inet_io.proofs.Fronts.{digits_end, digits_alone, many_digits, one_digit_more}
use Rattle.inet_io.proofs.text.digits_first.Goals as goal

pub loop-count-preserved : goal.loop-count-preserved
loop-count-preserved c =
    let text = c.args.text.now in
    let at = c.loop-count.count in
    let value : digit_value (get_or text at 0) ≡ c.from.result = grind (arith, nat_tests) in
    let small : digit_value (get_or text at 0) < 10 = grind (arith, nat_tests) in
    let more = digits_value_more 10 text at c.loop-count-test.true in (
      omega (arith, c.loop-count-test.true),
      omega (arith, c.loop-count.invariant.1, c.if-count-eq10.false),
      digits_more 10 text at c.loop-count-test.true c.loop-count.invariant.2 small,
      omega (arith, more, value, c.loop-count.invariant.3),
      one_digit_more c.loop-count.n c.from.result at c.loop-count.invariant.4 (omega (arith, value, small)),
    )

pub returns-then-not-is_ascii_digit-clause-some : goal.returns-then-not-is_ascii_digit-clause-some
returns-then-not-is_ascii_digit-clause-some c =
    digits_end c.args.text.now c.loop-count.n c.loop-count.count c.loop-count-test.true c.loop-count.invariant.1 c.loop-count.invariant.2 c.loop-count.invariant.3 (sym c.if-not-is_ascii_digit.ensures.value)

pub returns-then-count-eq10-clause-none : goal.returns-then-count-eq10-clause-none
returns-then-count-eq10-clause-none c =
    let small : digit_value (get_or c.args.text.now c.loop-count.count 0) < 10 = grind (arith, nat_tests) in
    many_digits c.args.text.now c.loop-count.count c.if-count-eq10.true c.loop-count-test.true c.loop-count.invariant.2 small

pub returns-clause-some : goal.returns-clause-some
returns-clause-some c =
    digits_alone c.args.text.now c.loop-count.n c.loop-count.count c.loop-count-test.false c.loop-count.invariant.0 c.loop-count.invariant.1 c.loop-count.invariant.2 c.loop-count.invariant.3
