use Rattle.std.proofs.Common.{arith}
use Rattle.chain_tests.proofs.handovers.come_after.Goals as goal

pub time_wait-requires-clause-share : goal.time_wait-requires-clause-share
time_wait-requires-clause-share g c = let z = c.insert.ensures.share 8 c.requires.share in omega (arith, z)

pub come-requires-clause-share : goal.come-requires-clause-share
come-requires-clause-share g c = c.time_wait.ensures.share 4 (c.insert.ensures.share 8 c.requires.share)
