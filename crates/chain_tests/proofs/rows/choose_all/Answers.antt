use Rattle.chain_tests.proofs.rows.choose_all.Goals as goal

pub shut-requires-clause-place : goal.shut-requires-clause-place
shut-requires-clause-place g c = c.open-3.ensures.others c.in_ok-place.place (c.open-2.ensures.others c.in_ok-place.place c.in_ok-place.ensures.place)
