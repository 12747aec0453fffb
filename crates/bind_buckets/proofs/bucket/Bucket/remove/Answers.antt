use Rattle.std.proofs.Common.{◌≡◌, find, refl, ◌∙◌, arith}
use Rattle.bind_buckets.specs.OwnerStep.{owner_step, After, has_name, removed}
use Rattle.bind_buckets.specs.First.{change_first, drop_first}
use Rattle.bind_buckets.specs.Members.{has_member, without_member}
use Rattle.bind_buckets.proofs.Told.{name_answers, spoken_ok, spoken_err, strange_by}
use Rattle.std.proofs.lemmas.Bool.{false≢true}
use Rattle.bind_buckets.proofs.RoomToGo.{room_to_go, spoken_settled, gone, length-drop_first}
use Rattle.bind_buckets.proofs.bucket.Bucket.remove.Goals as goal

pub carry_out-requires-clause-room : goal.carry_out-requires-clause-room
unfolding owner_step
carry_out-requires-clause-room c =
    let h = c.args.self.now.held in
    record { entry = room_to_go h c.args.name (has_name c.args.name) (λ _. removed h c.args.name) (λ a. refl) c.args.self.now.entries (find (has_name c.args.name) h.owners) refl c.requires; newcomer = λ brings. absurd (false≢true brings) }

pub name_result-requires : goal.name_result-requires
unfolding owner_step
name_result-requires c =
    let h = c.args.self.now.held in
    rw c.carry_out.ensures.answer (name_answers h c.args.name (λ _. removed h c.args.name) (λ a. refl) (find (has_name c.args.name) h.owners))

pub returns-clause-gone : goal.returns-clause-gone
unfolding owner_step
returns-clause-gone c =
    let h = c.args.self.now.held in
    rw c.carry_out.ensures.after
    (spoken_ok h c.args.name (λ _. removed h c.args.name) (λ a. refl) (λ (after : After). after.held.owners ≡ drop_first (has_name c.args.name) h.owners)
    (find (has_name c.args.name) h.owners) c.name_result.result (λ a q. refl) (c.name_result.ensures ∙ c.carry_out.ensures.answer))

pub returns-clause-left : goal.returns-clause-left
unfolding owner_step
returns-clause-left c =
    let h = c.args.self.now.held in
    rw c.carry_out.ensures.after
    (spoken_ok h c.args.name (λ _. removed h c.args.name) (λ a. refl) (λ (after : After). after.held.groups ≡ change_first (has_member c.args.name) (without_member c.args.name) h.groups)
    (find (has_name c.args.name) h.owners) c.name_result.result (λ a q. refl) (c.name_result.ensures ∙ c.carry_out.ensures.answer))

pub returns-clause-kept : goal.returns-clause-kept
unfolding owner_step
returns-clause-kept c =
    let h = c.args.self.now.held in
    rw c.carry_out.ensures.after
    (spoken_err h c.args.name (λ _. removed h c.args.name) (λ a. refl) (find (has_name c.args.name) h.owners) c.name_result.result (c.name_result.ensures ∙ c.carry_out.ensures.answer))

pub returns-clause-strange : goal.returns-clause-strange
unfolding owner_step
returns-clause-strange c =
    let h = c.args.self.now.held in
    strange_by h c.args.name (λ _. removed h c.args.name) (λ a. refl) (find (has_name c.args.name) h.owners) c.name_result.result refl (c.name_result.ensures ∙ c.carry_out.ensures.answer)

pub returns-clause-entries : goal.returns-clause-entries
unfolding owner_step
returns-clause-entries c =
    let b = c.args.self.now in
    let h = b.held in
    rw c.carry_out.ensures.after
    (gone h c.args.name (has_name c.args.name) (λ _. removed h c.args.name) (λ a. refl) (λ a. refl) b.entries (find (has_name c.args.name) h.owners) c.name_result.result refl c.requires (c.name_result.ensures ∙ c.carry_out.ensures.answer))

pub returns-clause-newcomers : goal.returns-clause-newcomers
unfolding owner_step
returns-clause-newcomers c =
    let b = c.args.self.now in
    let h = b.held in
    rw c.carry_out.ensures.after
    (spoken_settled h c.args.name (λ _. removed h c.args.name) b.newcomers (find (has_name c.args.name) h.owners) (λ a q. omega (arith, length-drop_first (has_name c.args.name) h.owners a q)))
