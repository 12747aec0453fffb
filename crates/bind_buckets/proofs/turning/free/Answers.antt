use Rattle.std.proofs.Common.{find, ◌∙◌, sym, subst, arith}
use Rattle.bind_buckets.specs.declared.request.Request.TheVariants as requests
use Rattle.sock_card.specs.Conflict.{holds}
use Rattle.bind_buckets.specs.OwnerStep.{owner_step}
use Rattle.bind_buckets.specs.Turned.{Asks}
use Rattle.bind_buckets.proofs.FreePort.{free_answers, free_now}
use Rattle.bind_buckets.proofs.RoomToGo.{used, settled}
use Rattle.bind_buckets.proofs.turning.free.Goals as goal

pub free_result-requires : goal.free_result-requires
unfolding owner_step
free_result-requires c =
    rw c.ask.ensures.answer (free_answers (find (holds c.args.port c.args.net) c.args.turn.now.value.value.held.owners))

pub returns-clause-asks : goal.returns-clause-asks
returns-clause-asks c = subst (Asks c.args.turns.now c.args.pass.now c.args.turn.now c.ask.new.pass c.ask.new.turn (requests.Free c.args.port c.args.net)) (sym c.free_result.ensures) c.ask.ensures.asks

pub returns-clause-free : goal.returns-clause-free
unfolding owner_step
returns-clause-free c =
    rw c.ask.ensures.asks.value
    (free_now (find (holds c.args.port c.args.net) c.args.turn.now.value.value.held.owners) c.free_result.result (c.free_result.ensures ∙ c.ask.ensures.answer))

pub returns-clause-entries : goal.returns-clause-entries
unfolding owner_step
returns-clause-entries c =
    let b = c.args.turn.now.value.value in
    rw c.ask.ensures.asks.value (used b.entries b.held.owners b.held.owners (omega arith) c.requires.entry)

pub returns-clause-newcomers : goal.returns-clause-newcomers
unfolding owner_step
returns-clause-newcomers c =
    let b = c.args.turn.now.value.value in
    rw c.ask.ensures.asks.value (settled b.newcomers b.held.owners b.held.owners (omega arith))
