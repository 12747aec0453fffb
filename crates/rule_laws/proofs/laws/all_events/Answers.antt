use Rattle.rule_laws.proofs.Counted.{events_are_all, replies_are_all, listings_are_all}
use Rattle.rule_laws.proofs.laws.all_events.Goals as goal

pub returns-clause-events : goal.returns-clause-events
returns-clause-events c = events_are_all

pub returns-clause-replies : goal.returns-clause-replies
returns-clause-replies c = replies_are_all

pub returns-clause-listings : goal.returns-clause-listings
returns-clause-listings c = listings_are_all
