use Rattle.table_rule.proofs.Standing.{lit_stands, places_stand}
use Rattle.table_rule.proofs.laws.standing.Goals as goal

pub returns-clause-lit : goal.returns-clause-lit
returns-clause-lit c = lit_stands

pub returns-clause-places : goal.returns-clause-places
returns-clause-places c = places_stand
