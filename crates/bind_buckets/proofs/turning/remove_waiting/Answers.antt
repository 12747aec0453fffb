use Rattle.std.proofs.Common.{find, refl, sym, subst}
use Rattle.bind_buckets.specs.declared.request.Request.TheVariants as requests
use Rattle.bind_buckets.specs.OwnerStep.{owner_step, waits_as, without_waiting}
use Rattle.bind_buckets.specs.Turned.{Asks}
use Rattle.bind_buckets.proofs.Told.{name_answers}
use Rattle.bind_buckets.proofs.turning.remove_waiting.Goals as goal

pub name_result-requires : goal.name_result-requires
unfolding owner_step
name_result-requires c =
    let h = c.args.turn.now.value.value.held in
    rw c.ask.ensures.answer (name_answers h c.args.name (λ _. without_waiting h c.args.name) (λ a. refl) (find (waits_as c.args.name) h.owners))

pub returns : goal.returns
returns c = record { asks = subst (Asks c.args.turns.now c.args.pass.now c.args.turn.now c.ask.new.pass c.ask.new.turn (requests.RemoveWaiting c.args.name)) (sym c.name_result.ensures) c.ask.ensures.asks }
