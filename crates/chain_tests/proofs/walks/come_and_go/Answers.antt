use Rattle.chain_tests.proofs.walks.come_and_go.Goals as goal

pub unhash-requires-clause-share : goal.unhash-requires-clause-share
unhash-requires-clause-share c = c.hash.ensures.share 2 c.requires.share

pub unhash-requires-clause-known : goal.unhash-requires-clause-known
unhash-requires-clause-known c = c.in-Ok.ensures.known c.requires.walked
