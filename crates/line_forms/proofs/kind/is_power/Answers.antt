use Rattle.std.proofs.Common.{◌≡◌, ◌∙◌, ◌≤◌, IsTrue, arith, sym, subst}
use Rattle.std.proofs.lemmas.Fmt.{decimal_injective}
use Rattle.std.specs.Int.{is_power_of_two}
use Rattle.chain_book.proofs.Powers.{power-from_test, test-from_power}
use Rattle.line_forms.proofs.kind.is_power.Goals as goal

pub returns-in-Some : goal.returns-in-Some
returns-in-Some c =
    let read = c.in-Some.ensures.some in
    let high : c.in-Some.n ≤ c.args.most = omega (arith, read.high, c.from.ensures) in (
      λ t. (c.in-Some.n, read.spelled, (power-from_test c.in-Some.n (subst IsTrue c.is_power_of_two.ensures t), high)),
      λ h.
          let same : h.0 ≡ c.in-Some.n = decimal_injective h.0 c.in-Some.n (omega (arith, h.2.1)) (omega (arith, read.short)) (sym h.1 ∙ read.spelled) in
          subst IsTrue (sym c.is_power_of_two.ensures) (subst (λ k. IsTrue (is_power_of_two k)) same (test-from_power h.0 h.2.0)),
    )
