use Rattle.turn_table.specs.Passes as words
use Rattle.turn_table.specs.Passes.{known}
use Rattle.port_search.proofs.TurnSearch.{found, found_alone}
use Rattle.port_search.proofs.turning.find_bind.Goals as goal

pub returns-in-Ok-clause-bound : goal.returns-in-Ok-clause-bound
returns-in-Ok-clause-bound g c =
    found c.args.turns.now c.args.owner c.args.ports (known c.args.pass.now) (known c.give.new.pass) c.find_bind_turn.new.pass c.in-Ok.port c.in-Ok.turn c.in-Ok.ensures.bound c.give.ensures.gave

pub returns-in-Ok-clause-alone : goal.returns-in-Ok-clause-alone
returns-in-Ok-clause-alone g c =
    let v = known c.args.pass.now in
    let w = known c.give.new.pass in
    let b = found c.args.turns.now c.args.owner c.args.ports v w c.find_bind_turn.new.pass c.in-Ok.port c.in-Ok.turn c.in-Ok.ensures.bound c.give.ensures.gave in
    λ alone. found_alone (words.places c.args.turns.now) c.requires.idle.some c.args.owner c.args.ports v w alone c.give.ensures.idle.knows c.in-Ok.port b
