use Rattle.bind_buckets.proofs.HashSteps.{answered_by, asked_by}
use Rattle.bind_buckets.proofs.laws.given.Goals as goal

pub returns : goal.returns
returns c = record { asked = λ count key request answer given x some is lawful. (answered_by count key request answer given x some is lawful, asked_by count key request answer given x some is lawful) }
