use Rattle.socket_list.proofs.Same.{lists_all, lists_as_one, lists_in_order, stays_listed}
use Rattle.socket_list.proofs.laws.listing.Goals as goal

pub returns-clause-all : goal.returns-clause-all
returns-clause-all c = lists_all

pub returns-clause-one : goal.returns-clause-one
returns-clause-one c = lists_as_one

pub returns-clause-order : goal.returns-clause-order
returns-clause-order c = lists_in_order

pub returns-clause-stays : goal.returns-clause-stays
returns-clause-stays c = stays_listed
