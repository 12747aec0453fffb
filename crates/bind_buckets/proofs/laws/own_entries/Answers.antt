use Rattle.bind_buckets.proofs.ToldByOwn.{told_by_their_own, first_is_told}
use Rattle.bind_buckets.proofs.laws.own_entries.Goals as goal

pub returns-clause-owners : goal.returns-clause-owners
returns-clause-owners c = told_by_their_own

pub returns-clause-first : goal.returns-clause-first
returns-clause-first c = first_is_told
