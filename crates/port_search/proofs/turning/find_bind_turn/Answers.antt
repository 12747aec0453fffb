use Rattle.std.proofs.Common.{◌+◌, ◌^◌, length, Ok, subst, ◌∙◌}
use Rattle.turn_table.specs.Passes as words
use Rattle.turn_table.specs.Passes.{known}
use Rattle.port_search.specs.Turned.{TriedAt, TakenIn, RefusesAt, GivenUp}
use Rattle.port_search.proofs.TurnSearch.{passed, found_in, nowhere, not_yet, none_alone, leaves_ports, leaves_slots, enough}
use Rattle.port_search.proofs.turning.find_bind_turn.Goals as goal

pub loop-port-preserved : goal.loop-port-preserved
loop-port-preserved g c =
    let k : RefusesAt c.args.turns.now c.args.owner c.in-Some.port c.loop-port.pass c.bind_at.new.pass = subst (λ r. TriedAt c.args.turns.now c.args.owner c.in-Some.port c.loop-port.pass c.bind_at.new.pass (Ok r)) c.in-Ok-None.field-0-is c.in-Ok-None.ensures.tried in
    let v = known c.args.pass.now in
    let w = known c.loop-port.pass in
    let u = known c.bind_at.new.pass in
    let n = words.places c.args.turns.now in
    let here = c.in-Some.ensures.steps in
    let r = k.refused in (
      tt,
      tt,
      k.idle,
      enough (2 ^ 48) (words.draws c.loop-port.pass) (words.draws c.bind_at.new.pass) c.loop-port.port-iterator c.next.new.self c.in-Some.port here r.gave.draws c.loop-port.invariant.3,
      enough (words.draws c.args.pass.now + length c.args.ports) (words.draws c.loop-port.pass) (words.draws c.bind_at.new.pass) c.loop-port.port-iterator c.next.new.self c.in-Some.port here r.gave.draws c.loop-port.invariant.4,
      r.gave.caller ∙ c.loop-port.invariant.5,
      passed n c.args.owner v w c.args.ports c.loop-port.port-iterator c.loop-port.invariant.6 u c.in-Some.port c.next.new.self here r,
    )

pub returns-clause-alone_none : goal.returns-clause-alone_none
returns-clause-alone_none g c =
    let v = known c.args.pass.now in
    let w = known c.loop-port.pass in
    let n = words.places c.args.turns.now in
    let b = nowhere n c.args.owner v w c.args.ports c.loop-port.port-iterator c.loop-port.invariant.6 c.in-None.ensures.steps.0 in
    λ alone same. none_alone n c.requires.idle.some c.args.owner c.args.ports v w alone c.loop-port.invariant.2.knows b

pub returns-in-Err-clause-no_port : goal.returns-in-Err-clause-no_port
returns-in-Err-clause-no_port g c = λ same. leaves_ports c.in-Err.end c.in-Err.ensures.tried.leaving (cc)

pub returns-in-Err-clause-alone_none : goal.returns-in-Err-clause-alone_none
returns-in-Err-clause-alone_none g c = λ alone same. leaves_ports c.in-Err.end c.in-Err.ensures.tried.leaving (cc)

pub returns-in-Err-clause-end : goal.returns-in-Err-clause-end
returns-in-Err-clause-end g c = leaves_slots c.in-Err.end c.in-Err.ensures.tried.leaving

pub returns-in-Err-clause-memory : goal.returns-in-Err-clause-memory
returns-in-Err-clause-memory g c =
    let k : GivenUp c.args.turns.now c.loop-port.pass c.bind_at.new.pass c.in-Err.end = c.in-Err.ensures.tried in
    λ same. not_yet (words.places c.args.turns.now) c.args.owner (known c.args.pass.now) (known c.loop-port.pass) c.args.ports c.loop-port.port-iterator c.loop-port.invariant.6 (known c.bind_at.new.pass) c.in-Some.port c.next.new.self c.in-Some.ensures.steps k.gave

pub returns-in-Err-clause-busy : goal.returns-in-Err-clause-busy
returns-in-Err-clause-busy g c =
    let k : GivenUp c.args.turns.now c.loop-port.pass c.bind_at.new.pass c.in-Err.end = c.in-Err.ensures.tried in
    λ same. not_yet (words.places c.args.turns.now) c.args.owner (known c.args.pass.now) (known c.loop-port.pass) c.args.ports c.loop-port.port-iterator c.loop-port.invariant.6 (known c.bind_at.new.pass) c.in-Some.port c.next.new.self c.in-Some.ensures.steps k.gave

pub returns-in-Ok-Some-clause-bound : goal.returns-in-Ok-Some-clause-bound
returns-in-Ok-Some-clause-bound g c =
    let t = c.args.turns.now in
    let q = c.bind_at.new.pass in
    let k : TakenIn t c.args.owner c.in-Some.port (known c.loop-port.pass) q c.in-Ok-Some.turn = subst (λ r. TriedAt t c.args.owner c.in-Some.port c.loop-port.pass q (Ok r)) c.in-Ok-Some.field-0-is c.in-Ok-Some.ensures.tried in
    found_in t c.args.owner (known c.args.pass.now) (known c.loop-port.pass) c.args.ports c.loop-port.port-iterator c.loop-port.invariant.6 q c.in-Some.port c.next.new.self c.in-Ok-Some.turn c.in-Some.ensures.steps k
