use Rattle.chain_tests.proofs.rows.fill.Goals as goal

pub shut-requires-clause-place : goal.shut-requires-clause-place
shut-requires-clause-place g c = c.come-refused.ensures.others c.in_ok-place.place c.in_ok-place.ensures.place
