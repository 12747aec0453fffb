use Rattle.std.proofs.Common.{arith}
use Rattle.table_tests.proofs.deeds.shake_hands.Goals as goal

pub hand_over-requires-clause-room : goal.hand_over-requires-clause-room
hand_over-requires-clause-room g c = let z = (rw c.in-Ok.ensures at c.insert.ensures.room) 4 c.requires.room in omega (arith, z)

pub hand_over-requires-clause-share : goal.hand_over-requires-clause-share
hand_over-requires-clause-share g c = let z = (rw c.in-Ok.ensures at c.insert.ensures.share) 10 c.requires.share in omega (arith, z)

pub come-requires-clause-room : goal.come-requires-clause-room
come-requires-clause-room g c =
    (rw c.in-Ok-unwrap.ensures at c.hand_over.ensures.room) 2 ((rw c.in-Ok.ensures at c.insert.ensures.room) 4 c.requires.room)

pub come-requires-clause-share : goal.come-requires-clause-share
come-requires-clause-share g c =
    let z = c.hand_over.ensures.share 6 ((rw c.in-Ok.ensures at c.insert.ensures.share) 10 c.requires.share) in omega (arith, z)

pub remove-requires-clause-room : goal.remove-requires-clause-room
remove-requires-clause-room g c =
    let z = (rw c.in-Err.ensures at c.hand_over.ensures.room) 4 ((rw c.in-Ok.ensures at c.insert.ensures.room) 4 c.requires.room) in
    c.lock_chain_of.ensures.room 1 (omega (arith, z))

pub remove-requires-clause-share : goal.remove-requires-clause-share
remove-requires-clause-share g c =
    let z = c.hand_over.ensures.share 6 ((rw c.in-Ok.ensures at c.insert.ensures.share) 10 c.requires.share) in
    c.lock_chain_of.ensures.share 2 (omega (arith, z))

pub come-requires-in-Err-clause-room : goal.come-requires-in-Err-clause-room
come-requires-in-Err-clause-room g c =
    let z = (rw c.in-Err.ensures at c.hand_over.ensures.room) 4 ((rw c.in-Ok.ensures at c.insert.ensures.room) 4 c.requires.room) in
    c.remove.ensures.room 2 (c.lock_chain_of.ensures.room 3 (omega (arith, z)))

pub come-requires-in-Err-clause-share : goal.come-requires-in-Err-clause-share
come-requires-in-Err-clause-share g c =
    c.remove.ensures.share _ (rw c.unwrap-locked.ensures at c.lock_chain_of.ensures.locked) 4
    (c.hand_over.ensures.share 6 ((rw c.in-Ok.ensures at c.insert.ensures.share) 10 c.requires.share))
