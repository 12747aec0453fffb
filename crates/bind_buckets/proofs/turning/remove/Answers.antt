use Rattle.std.proofs.Common.{find, refl, ◌∙◌, arith}
use Rattle.bind_buckets.specs.OwnerStep.{owner_step, has_name, removed}
use Rattle.bind_buckets.proofs.Told.{name_answers, strange_by}
use Rattle.std.proofs.lemmas.Bool.{false≢true}
use Rattle.bind_buckets.proofs.RoomToGo.{room_to_go, spoken_settled, gone, length-drop_first}
use Rattle.bind_buckets.proofs.turning.remove.Goals as goal
use Rattle.std.proofs.Common.{sym, subst}
use Rattle.bind_buckets.specs.declared.request.Request.TheVariants as requests
use Rattle.bind_buckets.specs.Turned.{Asks}

pub ask-requires-clause-room : goal.ask-requires-clause-room
unfolding owner_step
ask-requires-clause-room c =
    let h = c.args.turn.now.value.value.held in
    record { entry = room_to_go h c.args.name (has_name c.args.name) (λ _. removed h c.args.name) (λ a. refl) c.args.turn.now.value.value.entries (find (has_name c.args.name) h.owners) refl c.requires.entry; newcomer = λ brings. absurd (false≢true brings) }

pub name_result-requires : goal.name_result-requires
unfolding owner_step
name_result-requires c =
    let h = c.args.turn.now.value.value.held in
    rw c.ask.ensures.answer (name_answers h c.args.name (λ _. removed h c.args.name) (λ a. refl) (find (has_name c.args.name) h.owners))

pub returns-clause-strange : goal.returns-clause-strange
unfolding owner_step
returns-clause-strange c =
    let h = c.args.turn.now.value.value.held in
    strange_by h c.args.name (λ _. removed h c.args.name) (λ a. refl) (find (has_name c.args.name) h.owners) c.name_result.result refl (c.name_result.ensures ∙ c.ask.ensures.answer)

pub returns-clause-entries : goal.returns-clause-entries
unfolding owner_step
returns-clause-entries c =
    let b = c.args.turn.now.value.value in
    let h = b.held in
    rw c.ask.ensures.asks.value
    (gone h c.args.name (has_name c.args.name) (λ _. removed h c.args.name) (λ a. refl) (λ a. refl) b.entries (find (has_name c.args.name) h.owners) c.name_result.result refl c.requires.entry (c.name_result.ensures ∙ c.ask.ensures.answer))

pub returns-clause-newcomers : goal.returns-clause-newcomers
unfolding owner_step
returns-clause-newcomers c =
    let b = c.args.turn.now.value.value in
    let h = b.held in
    rw c.ask.ensures.asks.value
    (spoken_settled h c.args.name (λ _. removed h c.args.name) b.newcomers (find (has_name c.args.name) h.owners) (λ a q. omega (arith, length-drop_first (has_name c.args.name) h.owners a q)))

pub returns-clause-asks : goal.returns-clause-asks
returns-clause-asks c = subst (Asks c.args.turns.now c.args.pass.now c.args.turn.now c.ask.new.pass c.ask.new.turn (requests.Remove c.args.name)) (sym c.name_result.ensures) c.ask.ensures.asks
