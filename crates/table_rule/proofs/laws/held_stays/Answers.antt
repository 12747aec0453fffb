use Rattle.table_rule.proofs.Stays.{held_stays, card_stays}
use Rattle.table_rule.proofs.laws.held_stays.Goals as goal

pub returns-clause-held : goal.returns-clause-held
returns-clause-held c = held_stays

pub returns-clause-card : goal.returns-clause-card
returns-clause-card c = card_stays
