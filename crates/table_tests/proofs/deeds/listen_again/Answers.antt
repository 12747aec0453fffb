use Rattle.std.proofs.Common.{arith}
use Rattle.table_tests.proofs.deeds.listen_again.Goals as goal

pub remove-requires-clause-room : goal.remove-requires-clause-room
remove-requires-clause-room g c = c.lock_chain_of.ensures.room 1 (let z = (rw c.in-Ok.ensures at c.add.ensures.room) 2 c.requires.room in omega (arith, z))

pub remove-requires-clause-share : goal.remove-requires-clause-share
remove-requires-clause-share g c = c.lock_chain_of.ensures.share 2 (let z = c.add.ensures.share 4 c.requires.share in omega (arith, z))

pub listen-requires-clause-room : goal.listen-requires-clause-room
listen-requires-clause-room g c =
    c.remove.ensures.room 1 (c.lock_chain_of.ensures.room 2 ((rw c.in-Ok.ensures at c.add.ensures.room) 2 c.requires.room))

pub listen-requires-clause-share : goal.listen-requires-clause-share
listen-requires-clause-share g c =
    c.remove.ensures.share _ (rw c.unwrap-locked.ensures at c.lock_chain_of.ensures.locked) 2 (c.add.ensures.share 4 c.requires.share)
