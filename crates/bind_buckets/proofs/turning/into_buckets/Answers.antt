use Rattle.turn_table.specs.Passes as words
use Rattle.bind_buckets.proofs.Closed.{left_if, counted_if}
use Rattle.bind_buckets.proofs.turning.into_buckets.Goals as goal

pub returns-clause-left : goal.returns-clause-left
returns-clause-left c = left_if (λ v. v.items) (words.home c.args.turns) (words.places c.args.turns) c.into_values.result c.into_values.ensures.values

pub returns-clause-count : goal.returns-clause-count
returns-clause-count c = counted_if (λ v. v.items) (words.given c.args.pass) c.into_values.result c.into_values.ensures.given
