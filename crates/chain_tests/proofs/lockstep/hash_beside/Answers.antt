use Rattle.chain_tests.proofs.lockstep.hash_beside.Goals as goal

pub returns-in-Ok-clause-place : goal.returns-in-Ok-clause-place
returns-in-Ok-clause-place g c = c.in-Ok.ensures.others c.args.place c.requires.place
