use Rattle.std.proofs.Common.{sym, ◌∙◌}
use Rattle.chain_book.proofs.Powers.{rest-from_test}
use Rattle.chain_book.proofs.shape.rest_of.Goals as goal

pub returns-then-is_power_of_two-clause-rest : goal.returns-then-is_power_of_two-clause-rest
returns-then-is_power_of_two-clause-rest c =
    rest-from_test c.args.hash c.args.n (sym c.is_power_of_two.ensures ∙ c.if-is_power_of_two.true)
