use Rattle.std.proofs.Common.{find, refl, ◌∙◌, arith}
use Rattle.sock_card.specs.Became.{child}
use Rattle.bind_buckets.specs.OwnerStep.{owner_step, has_name, with_owner}
use Rattle.bind_buckets.proofs.Told.{name_answers, strange_by}
use Rattle.bind_buckets.proofs.RoomToGo.{spoken_used, spoken_came, longer}
use Rattle.bind_buckets.proofs.turning.inherit.Goals as goal
use Rattle.std.proofs.Common.{sym, subst}
use Rattle.bind_buckets.specs.declared.request.Request.TheVariants as requests
use Rattle.bind_buckets.specs.Turned.{Asks}

pub name_result-requires : goal.name_result-requires
unfolding owner_step
name_result-requires c =
    let h = c.args.turn.now.value.value.held in
    rw c.ask.ensures.answer (name_answers h c.args.parent (λ listener. with_owner h (child c.args.name c.args.mark c.args.local c.args.remote c.args.rport listener)) (λ a. refl) (find (has_name c.args.parent) h.owners))

pub returns-clause-strange : goal.returns-clause-strange
unfolding owner_step
returns-clause-strange c =
    let h = c.args.turn.now.value.value.held in
    strange_by h c.args.parent (λ listener. with_owner h (child c.args.name c.args.mark c.args.local c.args.remote c.args.rport listener)) (λ a. refl) (find (has_name c.args.parent) h.owners) c.name_result.result refl (c.name_result.ensures ∙ c.ask.ensures.answer)

pub returns-clause-entries : goal.returns-clause-entries
unfolding owner_step
returns-clause-entries c =
    let b = c.args.turn.now.value.value in
    let h = b.held in
    rw c.ask.ensures.asks.value
    (spoken_used h c.args.parent (λ listener. with_owner h (child c.args.name c.args.mark c.args.local c.args.remote c.args.rport listener)) b.entries (find (has_name c.args.parent) h.owners) (λ a. omega (arith, longer h.owners (child c.args.name c.args.mark c.args.local c.args.remote c.args.rport a))) c.requires.entry)

pub returns-clause-newcomers : goal.returns-clause-newcomers
unfolding owner_step
returns-clause-newcomers c =
    let b = c.args.turn.now.value.value in
    let h = b.held in
    rw c.ask.ensures.asks.value
    (spoken_came h c.args.parent (λ listener. with_owner h (child c.args.name c.args.mark c.args.local c.args.remote c.args.rport listener)) b.newcomers (find (has_name c.args.parent) h.owners) c.name_result.result (λ a. refl) (λ a. omega (arith, longer h.owners (child c.args.name c.args.mark c.args.local c.args.remote c.args.rport a))) c.requires.newcomer (c.name_result.ensures ∙ c.ask.ensures.answer))

pub returns-clause-asks : goal.returns-clause-asks
returns-clause-asks c = subst (Asks c.args.turns.now c.args.pass.now c.args.turn.now c.ask.new.pass c.ask.new.turn (requests.Inherit c.args.parent c.args.name c.args.mark c.args.local c.args.remote c.args.rport)) (sym c.name_result.ensures) c.ask.ensures.asks
