use Rattle.std.proofs.Common.{find, ◌∙◌, arith}
use Rattle.bind_buckets.specs.OwnerStep.{owner_step, has_name, may_listen}
use Rattle.bind_buckets.proofs.Told.{listen_answers, may_now}
use Rattle.bind_buckets.proofs.RoomToGo.{spoken_used, spoken_settled}
use Rattle.bind_buckets.proofs.turning.may_listen.Goals as goal
use Rattle.std.proofs.Common.{sym, subst}
use Rattle.bind_buckets.specs.declared.request.Request.TheVariants as requests
use Rattle.bind_buckets.specs.Turned.{Asks}

pub listen_result-requires : goal.listen_result-requires
unfolding owner_step
listen_result-requires c =
    let b = c.args.turn.now.value.value in
    rw c.ask.ensures.answer (listen_answers b.number b.held c.args.name (find (has_name c.args.name) b.held.owners))

pub returns-clause-free : goal.returns-clause-free
returns-clause-free c =
    rw c.ask.ensures.asks.value
    (may_now c.args.turn.now.value.value c.args.name c.listen_result.result (c.listen_result.ensures ∙ c.ask.ensures.answer))

pub returns-clause-entries : goal.returns-clause-entries
unfolding owner_step
returns-clause-entries c =
    let b = c.args.turn.now.value.value in
    let h = b.held in
    rw c.ask.ensures.asks.value
    (spoken_used h c.args.name (may_listen b.number h c.args.name) b.entries (find (has_name c.args.name) h.owners) (λ a. omega arith) c.requires.entry)

pub returns-clause-newcomers : goal.returns-clause-newcomers
unfolding owner_step
returns-clause-newcomers c =
    let b = c.args.turn.now.value.value in
    let h = b.held in
    rw c.ask.ensures.asks.value
    (spoken_settled h c.args.name (may_listen b.number h c.args.name) b.newcomers (find (has_name c.args.name) h.owners) (λ a q. omega arith))

pub returns-clause-asks : goal.returns-clause-asks
returns-clause-asks c = subst (Asks c.args.turns.now c.args.pass.now c.args.turn.now c.ask.new.pass c.ask.new.turn (requests.MayListen c.args.name)) (sym c.listen_result.ensures) c.ask.ensures.asks
