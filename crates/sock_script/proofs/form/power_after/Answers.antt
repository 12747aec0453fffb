use Rattle.std.proofs.Common.{◌≡◌, ◌∙◌, IsTrue, arith, sym, subst}
use Rattle.std.proofs.lemmas.Bool.{false≢true}
use Rattle.std.proofs.lemmas.Fmt.{decimal_injective}
use Rattle.std.specs.Int.{is_power_of_two}
use Rattle.chain_book.proofs.Powers.{power-from_test, test-from_power}
use Rattle.sock_script.proofs.Words.{second_is}
use Rattle.sock_script.proofs.form.power_after.Goals as goal

pub returns-then-not-is_power_of_two-clause-none : goal.returns-then-not-is_power_of_two-clause-none
returns-then-not-is_power_of_two-clause-none c n rest h power =
    let read = c.in_ok-n.ensures.some in
    let same : n ≡ c.in_ok-n.n = decimal_injective n _ (omega arith) (omega arith) (second_is _ _ _ _ _ _ (sym h ∙ read.0)) in
    let is_power = subst (λ k. IsTrue (is_power_of_two k)) same (test-from_power n power.0) in
    absurd (false≢true (c.if-not-is_power_of_two.ensures ∙ is_power))

pub returns-clause-some : goal.returns-clause-some
returns-clause-some c =
    let read = c.in_ok-n.ensures.some in
    (read.0, (power-from_test _ (sym c.if-not-is_power_of_two.ensures), read.2))
