use Rattle.std.proofs.Common.{◌≡◌, subst, arith}
use Rattle.bind_buckets.specs.declared.request.Answer.TheVariants as answers
use Rattle.bind_buckets.specs.declared.request.Request.TheVariants as requests
use Rattle.bind_buckets.specs.OwnerStep.{owner_step}
use Rattle.bind_buckets.specs.Turned.{Asks}
use Rattle.bind_buckets.proofs.RoomToGo.{used, longer}
use Rattle.bind_buckets.proofs.turning.connect_auto.Goals as goal

pub returns-clause-asks : goal.returns-clause-asks
unfolding owner_step
returns-clause-asks c =
    let e : c.ask.result ≡ answers.Done = c.ask.ensures.answer in
    subst (Asks c.args.turns.now c.args.pass.now c.args.turn.now c.ask.new.pass c.ask.new.turn (requests.ConnectAuto c.args.owner)) e c.ask.ensures.asks

pub returns-clause-entries : goal.returns-clause-entries
unfolding owner_step
returns-clause-entries c =
    let b = c.args.turn.now.value.value in
    rw c.ask.ensures.asks.value
    (used b.entries b.held.owners _ (omega (arith, longer b.held.owners c.args.owner)) c.requires.entry)
