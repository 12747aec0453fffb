use Rattle.std.proofs.Common.{arith}
use Rattle.chain_tests.proofs.handovers.shake_hands.Goals as goal

pub hand_over-requires-clause-share : goal.hand_over-requires-clause-share
hand_over-requires-clause-share g c = let z = c.insert.ensures.share 8 c.requires.share in omega (arith, z)

pub come-requires-clause-share : goal.come-requires-clause-share
come-requires-clause-share g c = c.hand_over.ensures.share 4 (c.insert.ensures.share 8 c.requires.share)

pub take_out-requires-clause-share : goal.take_out-requires-clause-share
take_out-requires-clause-share g c = let z = c.hand_over.ensures.share 4 (c.insert.ensures.share 8 c.requires.share) in omega (arith, z)
