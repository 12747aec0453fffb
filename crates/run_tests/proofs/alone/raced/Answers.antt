use Rattle.race_run.proofs.ForRace.{scripts_are_for_race}
use Rattle.run_tests.proofs.alone.raced.Goals as goal

pub start-requires : goal.start-requires
start-requires g c =
    (scripts_are_for_race c.args.text.now c.in_ok-script.script c.in_ok-script.ensures.script (c.in_ok-script.ensures.small c.requires)).header

pub race-requires-clause-script : goal.race-requires-clause-script
race-requires-clause-script g c = λ lives within.
    scripts_are_for_race c.args.text.now c.in_ok-script.script c.in_ok-script.ensures.script (c.in_ok-script.ensures.small c.requires)

pub tell-requires-clause-script : goal.tell-requires-clause-script
tell-requires-clause-script g c =
    scripts_are_for_race c.args.text.now c.in_ok-script.script c.in_ok-script.ensures.script (c.in_ok-script.ensures.small c.requires)
