use Rattle.std.proofs.Common.{find, sym, subst, ◌∙◌}
use Rattle.sock_card.specs.Conflict.{refuses}
use Rattle.bind_buckets.specs.declared.request.Request.TheVariants as requests
use Rattle.bind_buckets.specs.OwnerStep.{owner_step}
use Rattle.bind_buckets.specs.Turned.{Asks}
use Rattle.bind_buckets.proofs.Told.{bind_answers}
use Rattle.bind_buckets.proofs.RoomToGo.{bind_used, bind_came}
use Rattle.bind_buckets.proofs.turning.bind.Goals as goal

pub bind_result-requires : goal.bind_result-requires
unfolding owner_step
bind_result-requires c =
    let h = c.args.turn.now.value.value.held in
    rw c.ask.ensures.answer (bind_answers h c.args.owner (find (refuses c.args.owner) h.owners))

pub returns-clause-asks : goal.returns-clause-asks
returns-clause-asks c = subst (Asks c.args.turns.now c.args.pass.now c.args.turn.now c.ask.new.pass c.ask.new.turn (requests.Bind c.args.owner)) (sym c.bind_result.ensures) c.ask.ensures.asks

pub returns-clause-entries : goal.returns-clause-entries
unfolding owner_step
returns-clause-entries c =
    let b = c.args.turn.now.value.value in
    rw c.ask.ensures.asks.value
    (bind_used b.held c.args.owner b.entries (find (refuses c.args.owner) b.held.owners) c.requires.entry)

pub returns-clause-newcomers : goal.returns-clause-newcomers
unfolding owner_step
returns-clause-newcomers c =
    let b = c.args.turn.now.value.value in
    rw c.ask.ensures.asks.value
    (bind_came b.held c.args.owner b.newcomers (find (refuses c.args.owner) b.held.owners) c.bind_result.result c.requires.newcomer (c.bind_result.ensures ∙ c.ask.ensures.answer))
