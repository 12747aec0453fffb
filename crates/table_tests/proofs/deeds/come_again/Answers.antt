use Rattle.std.proofs.Common.{arith}
use Rattle.table_tests.proofs.deeds.come_again.Goals as goal

pub time_wait-requires-clause-room : goal.time_wait-requires-clause-room
time_wait-requires-clause-room g c = let z = (rw c.in-Ok.ensures at c.insert.ensures.room) 4 c.requires.room in omega (arith, z)

pub time_wait-requires-clause-share : goal.time_wait-requires-clause-share
time_wait-requires-clause-share g c = let z = (rw c.in-Ok.ensures at c.insert.ensures.share) 8 c.requires.share in omega (arith, z)

pub come-requires-clause-room : goal.come-requires-clause-room
come-requires-clause-room g c = c.time_wait.ensures.room 2 ((rw c.in-Ok.ensures at c.insert.ensures.room) 4 c.requires.room)

pub come-requires-clause-share : goal.come-requires-clause-share
come-requires-clause-share g c = c.time_wait.ensures.share 4 ((rw c.in-Ok.ensures at c.insert.ensures.share) 8 c.requires.share)
