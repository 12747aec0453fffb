use Rattle.std.proofs.Common.{false, ◌≡◌, ◌∙◌, arith, sym}
use Rattle.std.proofs.lemmas.Bool.{false≢true}
use Rattle.std.proofs.lemmas.Bool.Decides.{nat_tests}
use Rattle.chain_book.proofs.Powers.{power-from_test, test-from_power}
use Rattle.inet_c.proofs.sizes.is_count.Goals as goal

pub returns-then-is_power_of_two : goal.returns-then-is_power_of_two
returns-then-is_power_of_two c =
    let power = power-from_test c.args.count (sym c.if-is_power_of_two.ensures) in
    (λ h. (power, grind (arith, nat_tests)), λ h. grind (arith, nat_tests))

pub returns-else-is_power_of_two : goal.returns-else-is_power_of_two
returns-else-is_power_of_two c =
    let none : c.is_power_of_two.result ≡ false = c.if-is_power_of_two.false in (
      λ h. absurd (false≢true (sym none ∙ h)),
      λ h. c.is_power_of_two.ensures ∙ test-from_power c.args.count h.0,
    )
