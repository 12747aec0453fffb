use Rattle.bind_buckets.proofs.OwnTold.{open_are_told, own_are_told, first_own_is_told, own_stands, own_comes, own_stays, own_goes_on, own_accepted}
use Rattle.bind_buckets.proofs.laws.own_sockets.Goals as goal

pub returns-clause-open : goal.returns-clause-open
returns-clause-open c = open_are_told

pub returns-clause-owners : goal.returns-clause-owners
returns-clause-owners c = own_are_told

pub returns-clause-first : goal.returns-clause-first
returns-clause-first c = first_own_is_told

pub returns-clause-stands : goal.returns-clause-stands
returns-clause-stands c = own_stands

pub returns-clause-comes : goal.returns-clause-comes
returns-clause-comes c = own_comes

pub returns-clause-stays : goal.returns-clause-stays
returns-clause-stays c = own_stays

pub returns-clause-goes_on : goal.returns-clause-goes_on
returns-clause-goes_on c = own_goes_on

pub returns-clause-accepted : goal.returns-clause-accepted
returns-clause-accepted c = own_accepted
