use Rattle.std.proofs.Common.{find, arith}
use Rattle.sock_card.specs.Became.{as_listener}
use Rattle.bind_buckets.specs.OwnerStep.{owner_step, has_name, listening}
use Rattle.bind_buckets.proofs.RoomToGo.{spoken_used, spoken_settled}
use Rattle.bind_buckets.proofs.StaysGrouped.{length-change_first}
use Rattle.bind_buckets.proofs.turning.listen.Goals as goal
use Rattle.std.proofs.Common.{subst}
use Rattle.bind_buckets.specs.declared.request.Request.TheVariants as requests
use Rattle.bind_buckets.specs.Turned.{Asks}
use Rattle.std.proofs.Common.{◌∙◌}
use Rattle.bind_buckets.proofs.Told.{listens_done}

pub returns-clause-entries : goal.returns-clause-entries
unfolding owner_step
returns-clause-entries c =
    let b = c.args.turn.now.value.value in
    let h = b.held in
    rw c.ask.ensures.asks.value
    (spoken_used h c.args.name (listening h c.args.name c.args.slot) b.entries (find (has_name c.args.name) h.owners) (λ a. omega (arith, length-change_first (has_name c.args.name) as_listener h.owners)) c.requires.entry)

pub returns-clause-newcomers : goal.returns-clause-newcomers
unfolding owner_step
returns-clause-newcomers c =
    let b = c.args.turn.now.value.value in
    let h = b.held in
    rw c.ask.ensures.asks.value
    (spoken_settled h c.args.name (listening h c.args.name c.args.slot) b.newcomers (find (has_name c.args.name) h.owners) (λ a q. omega (arith, length-change_first (has_name c.args.name) as_listener h.owners)))

pub returns-clause-asks : goal.returns-clause-asks
unfolding owner_step
returns-clause-asks c =
    let b = c.args.turn.now.value.value in
    subst (Asks c.args.turns.now c.args.pass.now c.args.turn.now c.ask.new.pass c.ask.new.turn (requests.Listen c.args.name c.args.slot))
    (c.ask.ensures.answer ∙ listens_done b.number b.held c.args.name c.args.slot (find (has_name c.args.name) b.held.owners) c.requires.free)
    c.ask.ensures.asks
