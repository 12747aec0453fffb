use Rattle.std.proofs.Common.{rules, refl, ◌+◌, ◌^◌, ◌%◌, [], ◌∷◌, inr, Ok, length, subst, ◌∙◌}
use Rattle.sock_card.specs.Conflict.{bind_key}
use Rattle.turn_table.specs.Passes as words
use Rattle.turn_table.specs.Passes.{known}
use Rattle.bind_buckets.specs.declared.request.Request.TheVariants as requests
use Rattle.bind_buckets.specs.declared.request.Answer.TheVariants as answers
use Rattle.port_search.specs.Turned.{GivenUp}
use Rattle.port_search.specs.TurnedConnect.{Tries, Opened, OpenAt, ClosedAt}
use Rattle.port_search.proofs.TurnSearch.{one_asked, enough, leaves_ports}
use Rattle.port_search.proofs.TurnConnect.{passed_on, makes, makes_none, not_yet_made, free_front, still_there, finds_busy, finds_full, leaves_full, held_on, enough_left, connect_begins, may_now, may_again}
use Rattle.port_search.proofs.ConnectAlone.{makes_alone, makes_none_alone}
use Rattle.port_search.proofs.turning.find_connect.Goals as goal

pub loop-port-preserved-in-Ok-None : goal.loop-port-preserved-in-Ok-None
loop-port-preserved-in-Ok-None g c =
    let k : ClosedAt c.args.turns.now c.args.owner.net c.in-Some.port c.loop-port.pass c.open_at.new.pass = subst (λ r. Opened c.args.turns.now c.args.owner.net c.in-Some.port c.loop-port.pass c.open_at.new.pass (Ok r)) c.in-Ok-None.field-0-is c.in-Ok-None.ensures.opened in
    let n = words.places c.args.turns.now in
    let v = known c.args.pass.now in
    let w = known c.loop-port.pass in
    let u = known c.open_at.new.pass in
    let here = c.in-Some.ensures.steps in (
      tt,
      tt,
      c.loop-port.invariant.2,
      k.idle,
      enough_left (2 ^ 48) (words.draws c.loop-port.pass) (words.draws c.open_at.new.pass) c.loop-port.port-iterator c.next.new.self c.in-Some.port here k.gave.draws c.loop-port.invariant.4,
      enough (words.draws c.args.pass.now + length c.args.ports) (words.draws c.loop-port.pass) (words.draws c.open_at.new.pass) c.loop-port.port-iterator c.next.new.self c.in-Some.port here k.gave.draws c.loop-port.invariant.5,
      k.gave.caller ∙ c.loop-port.invariant.6,
      passed_on (Tries (goal.F-post g c.args.insert)) n c.args.owner.net v w c.args.context.now c.loop-port.context c.args.ports c.loop-port.port-iterator c.loop-port.invariant.7 u c.loop-port.context c.in-Some.port c.next.new.self k.entry here
          (held_on (Tries (goal.F-post g c.args.insert)) c.args.turns.now c.args.owner.net c.in-Some.port c.loop-port.pass c.open_at.new.pass c.loop-port.context k) k.gave,
    )

pub loop-port-preserved : goal.loop-port-preserved
loop-port-preserved g c =
    let k : OpenAt c.args.turns.now c.args.owner.net c.in-Some.port c.loop-port.pass c.open_at.new.pass c.in-Ok-Some.turn = subst (λ r. Opened c.args.turns.now c.args.owner.net c.in-Some.port c.loop-port.pass c.open_at.new.pass (Ok r)) c.in-Ok-Some.field-0-is c.in-Ok-Some.ensures.opened in
    let n = words.places c.args.turns.now in
    let v = known c.args.pass.now in
    let w = known c.loop-port.pass in
    let u = known c.give.new.pass in
    let here = c.in-Some.ensures.steps in
    let o = one_asked (bind_key c.in-Some.port c.args.owner.net % n) _ (requests.Free c.in-Some.port c.args.owner.net) answers.Done w u _ k.place k.made_is (c.give.ensures.gave w k.within) in (
      tt,
      tt,
      may_again (goal.F-pre g c.args.insert) (goal.F-post g c.args.insert) c.loop-port.context c.insert.new.arg2 c.in-Some.port c.in-Taken.field-0 c.loop-port.invariant.2 (record { shown = _; shows = refl; left = _; answered = c.in-Taken.ensures; leaves = refl }),
      c.give.ensures.idle,
      enough_left (2 ^ 48) (words.draws c.loop-port.pass) (words.draws c.give.new.pass) c.loop-port.port-iterator c.next.new.self c.in-Some.port here o.gave.draws c.loop-port.invariant.4,
      enough (words.draws c.args.pass.now + length c.args.ports) (words.draws c.loop-port.pass) (words.draws c.give.new.pass) c.loop-port.port-iterator c.next.new.self c.in-Some.port here o.gave.draws c.loop-port.invariant.5,
      o.gave.caller ∙ c.loop-port.invariant.6,
      passed_on (Tries (goal.F-post g c.args.insert)) n c.args.owner.net v w c.args.context.now c.loop-port.context c.args.ports c.loop-port.port-iterator c.loop-port.invariant.7 u c.insert.new.arg2 c.in-Some.port c.next.new.self o.entry here
          (inr (record { free = o.asked; name = c.in-Taken.field-0; said = record { shown = _; shows = refl; left = _; answered = c.in-Taken.ensures; leaves = refl } })) o.gave,
    )

pub returns-in-Done-clause-made : goal.returns-in-Done-clause-made
returns-in-Done-clause-made g c =
    let k : OpenAt c.args.turns.now c.args.owner.net c.in-Some.port c.loop-port.pass c.open_at.new.pass c.in-Ok-Some.turn = subst (λ r. Opened c.args.turns.now c.args.owner.net c.in-Some.port c.loop-port.pass c.open_at.new.pass (Ok r)) c.in-Ok-Some.field-0-is c.in-Ok-Some.ensures.opened in
    let n = words.places c.args.turns.now in
    let v = known c.args.pass.now in
    let w = known c.loop-port.pass in
    let u = known c.connect_at.new.pass in
    makes (Tries (goal.F-post g c.args.insert)) n c.args.owner v w c.args.context.now c.loop-port.context c.args.ports c.loop-port.port-iterator c.loop-port.invariant.7 u c.in-Some.port c.next.new.self c.in-Done.value c.in-Done.replaced c.insert.new.arg2 c.in-Some.ensures.steps (record { shown = _; shows = refl; left = _; answered = c.in-Done.ensures; leaves = refl })
    (c.connect_at.ensures.came w k.within k.made_is)

pub returns-in-Full-clause-full : goal.returns-in-Full-clause-full
returns-in-Full-clause-full g c =
    let k : OpenAt c.args.turns.now c.args.owner.net c.in-Some.port c.loop-port.pass c.open_at.new.pass c.in-Ok-Some.turn = subst (λ r. Opened c.args.turns.now c.args.owner.net c.in-Some.port c.loop-port.pass c.open_at.new.pass (Ok r)) c.in-Ok-Some.field-0-is c.in-Ok-Some.ensures.opened in
    let n = words.places c.args.turns.now in
    let v = known c.args.pass.now in
    let w = known c.loop-port.pass in
    let u = known c.give-in-Full.new.pass in
    let o = one_asked (bind_key c.in-Some.port c.args.owner.net % n) _ (requests.Free c.in-Some.port c.args.owner.net) answers.Done w u _ k.place k.made_is (c.give-in-Full.ensures.gave w k.within) in
    finds_full (Tries (goal.F-post g c.args.insert)) n c.args.owner.net v w c.args.context.now c.loop-port.context c.args.ports c.loop-port.port-iterator c.loop-port.invariant.7 u c.in-Some.port c.next.new.self c.in-Full.owned c.in-Full.held c.insert.new.arg2 o.entry c.in-Some.ensures.steps (record { shown = _; shows = refl; left = _; answered = c.in-Full.ensures; leaves = refl }) o.asked o.gave

pub returns-in-Done-clause-alone : goal.returns-in-Done-clause-alone
returns-in-Done-clause-alone g c =
    let k : OpenAt c.args.turns.now c.args.owner.net c.in-Some.port c.loop-port.pass c.open_at.new.pass c.in-Ok-Some.turn = subst (λ r. Opened c.args.turns.now c.args.owner.net c.in-Some.port c.loop-port.pass c.open_at.new.pass (Ok r)) c.in-Ok-Some.field-0-is c.in-Ok-Some.ensures.opened in
    let n = words.places c.args.turns.now in
    let v = known c.args.pass.now in
    let w = known c.loop-port.pass in
    let u = known c.connect_at.new.pass in
    let m = makes (Tries (goal.F-post g c.args.insert)) n c.args.owner v w c.args.context.now c.loop-port.context c.args.ports c.loop-port.port-iterator c.loop-port.invariant.7 u c.in-Some.port c.next.new.self c.in-Done.value c.in-Done.replaced c.insert.new.arg2 c.in-Some.ensures.steps (record { shown = _; shows = refl; left = _; answered = c.in-Done.ensures; leaves = refl })
    (c.connect_at.ensures.came w k.within k.made_is) in
    λ alone. makes_alone (Tries (goal.F-post g c.args.insert)) n c.requires.idle.some c.args.owner c.args.ports v u c.args.context.now c.insert.new.arg2 alone c.connect_at.ensures.idle.knows c.in-Some.port c.in-Done.value m

pub returns-clause-alone_none : goal.returns-clause-alone_none
returns-clause-alone_none g c =
    let n = words.places c.args.turns.now in
    let v = known c.args.pass.now in
    let w = known c.loop-port.pass in
    let m = makes_none (Tries (goal.F-post g c.args.insert)) n c.args.owner.net v w c.args.context.now c.loop-port.context c.args.ports c.loop-port.port-iterator c.loop-port.invariant.7 c.in-None.ensures.steps.0 in
    λ alone same. makes_none_alone (Tries (goal.F-post g c.args.insert)) n c.args.owner.net c.requires.idle.some c.args.ports v w c.args.context.now c.loop-port.context alone c.loop-port.invariant.3.knows m

pub returns-in-Err-clause-memory : goal.returns-in-Err-clause-memory
returns-in-Err-clause-memory g c =
    let n = words.places c.args.turns.now in
    let v = known c.args.pass.now in
    let w = known c.loop-port.pass in
    let k : GivenUp c.args.turns.now c.loop-port.pass c.open_at.new.pass c.in-Err.end = c.in-Err.ensures.opened in
    λ same. not_yet_made (Tries (goal.F-post g c.args.insert)) n c.args.owner.net v w c.args.context.now c.loop-port.context c.args.ports c.loop-port.port-iterator c.loop-port.invariant.7 (known c.open_at.new.pass) [] c.loop-port.context (still_there (Tries (goal.F-post g c.args.insert)) n c.args.owner.net c.loop-port.port-iterator c.next.new.self c.in-Some.port c.loop-port.context c.in-Some.ensures.steps) k.gave

pub returns-in-Err-clause-busy : goal.returns-in-Err-clause-busy
returns-in-Err-clause-busy g c =
    let n = words.places c.args.turns.now in
    let v = known c.args.pass.now in
    let w = known c.loop-port.pass in
    λ same. finds_busy (Tries (goal.F-post g c.args.insert)) n c.args.owner.net v w c.args.context.now c.loop-port.context c.args.ports c.loop-port.port-iterator c.loop-port.invariant.7 (known c.open_at.new.pass) c.in-Some.port c.next.new.self c.in-Some.ensures.steps c.in-Err.ensures.opened.gave

pub returns-in-Err-clause-none : goal.returns-in-Err-clause-none
returns-in-Err-clause-none g c = λ same. leaves_ports c.in-Err.end c.in-Err.ensures.opened.leaving (cc)

pub returns-in-Err-clause-alone_none : goal.returns-in-Err-clause-alone_none
returns-in-Err-clause-alone_none g c = λ alone same. leaves_ports c.in-Err.end c.in-Err.ensures.opened.leaving (cc)

pub returns-in-Err-clause-full : goal.returns-in-Err-clause-full
returns-in-Err-clause-full g c =
    leaves_full (Tries (goal.F-post g c.args.insert)) (words.places c.args.turns.now) c.args.owner.net c.args.ports (known c.args.pass.now) (known c.open_at.new.pass) c.args.context.now c.loop-port.context c.in-Err.end c.in-Err.ensures.opened.leaving

pub returns-in-Memory-clause-memory : goal.returns-in-Memory-clause-memory
returns-in-Memory-clause-memory g c =
    let k : OpenAt c.args.turns.now c.args.owner.net c.in-Some.port c.loop-port.pass c.open_at.new.pass c.in-Ok-Some.turn = subst (λ r. Opened c.args.turns.now c.args.owner.net c.in-Some.port c.loop-port.pass c.open_at.new.pass (Ok r)) c.in-Ok-Some.field-0-is c.in-Ok-Some.ensures.opened in
    let n = words.places c.args.turns.now in
    let v = known c.args.pass.now in
    let w = known c.loop-port.pass in
    let u = known c.give-in-Memory.new.pass in
    let o = one_asked (bind_key c.in-Some.port c.args.owner.net % n) _ (requests.Free c.in-Some.port c.args.owner.net) answers.Done w u _ k.place k.made_is (c.give-in-Memory.ensures.gave w k.within) in
    λ same. not_yet_made (Tries (goal.F-post g c.args.insert)) n c.args.owner.net v w c.args.context.now c.loop-port.context c.args.ports c.loop-port.port-iterator c.loop-port.invariant.7 u (o.entry ∷ []) c.insert.new.arg2 (free_front (Tries (goal.F-post g c.args.insert)) n c.args.owner.net c.loop-port.port-iterator c.next.new.self c.in-Some.port o.entry c.loop-port.context c.insert.new.arg2 c.in-Some.ensures.steps o.asked (record { shown = _; shows = refl; left = _; answered = c.in-Memory.ensures; leaves = refl })) o.gave

pub loop-port-init : goal.loop-port-init
loop-port-init g c = (
  tt,
  tt,
  c.requires.callable,
  c.requires.idle,
  search rules,
  search rules,
  refl,
  connect_begins (Tries (goal.F-post g c.args.insert)) (words.places c.args.turns.now) c.args.owner.net (known c.args.pass.now) c.args.context.now c.args.ports _ (search rules),
)

pub insert-requires : goal.insert-requires
insert-requires g c = may_now (goal.F-pre g c.args.insert) (goal.F-post g c.args.insert) c.loop-port.context _ c.in-Some.port c.loop-port.invariant.2 refl (search rules)

pub returns-in-Done-clause-caller : goal.returns-in-Done-clause-caller
returns-in-Done-clause-caller g c =
    let k : OpenAt c.args.turns.now c.args.owner.net c.in-Some.port c.loop-port.pass c.open_at.new.pass c.in-Ok-Some.turn = subst (λ r. Opened c.args.turns.now c.args.owner.net c.in-Some.port c.loop-port.pass c.open_at.new.pass (Ok r)) c.in-Ok-Some.field-0-is c.in-Ok-Some.ensures.opened in
    let w = known c.loop-port.pass in
    (c.connect_at.ensures.came w k.within k.made_is).gave.caller ∙ c.loop-port.invariant.6
