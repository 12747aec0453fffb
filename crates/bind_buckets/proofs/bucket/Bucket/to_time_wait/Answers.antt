use Rattle.std.proofs.Common.{◌≡◌, find, refl, ◌∙◌, arith}
use Rattle.sock_card.specs.Became.{as_waiting}
use Rattle.bind_buckets.specs.OwnerStep.{owner_step, After, has_name, changed}
use Rattle.bind_buckets.specs.First.{change_first}
use Rattle.bind_buckets.proofs.Told.{name_answers, spoken_ok, spoken_err, strange_by, same_groups}
use Rattle.bind_buckets.proofs.RoomToGo.{spoken_used, spoken_settled}
use Rattle.bind_buckets.proofs.StaysGrouped.{length-change_first}
use Rattle.bind_buckets.proofs.bucket.Bucket.to_time_wait.Goals as goal

pub name_result-requires : goal.name_result-requires
unfolding owner_step
name_result-requires c =
    let h = c.args.self.now.held in
    rw c.carry_out.ensures.answer (name_answers h c.args.name (λ _. changed h c.args.name as_waiting h.groups) (λ a. refl) (find (has_name c.args.name) h.owners))

pub returns-clause-waits : goal.returns-clause-waits
unfolding owner_step
returns-clause-waits c =
    let h = c.args.self.now.held in
    rw c.carry_out.ensures.after
    (spoken_ok h c.args.name (λ _. changed h c.args.name as_waiting h.groups) (λ a. refl) (λ (after : After). after.held.owners ≡ change_first (has_name c.args.name) as_waiting h.owners)
    (find (has_name c.args.name) h.owners) c.name_result.result (λ a q. refl) (c.name_result.ensures ∙ c.carry_out.ensures.answer))

pub returns-clause-kept : goal.returns-clause-kept
unfolding owner_step
returns-clause-kept c =
    let h = c.args.self.now.held in
    rw c.carry_out.ensures.after
    (spoken_err h c.args.name (λ _. changed h c.args.name as_waiting h.groups) (λ a. refl) (find (has_name c.args.name) h.owners) c.name_result.result (c.name_result.ensures ∙ c.carry_out.ensures.answer))

pub returns-clause-strange : goal.returns-clause-strange
unfolding owner_step
returns-clause-strange c =
    let h = c.args.self.now.held in
    strange_by h c.args.name (λ _. changed h c.args.name as_waiting h.groups) (λ a. refl) (find (has_name c.args.name) h.owners) c.name_result.result refl (c.name_result.ensures ∙ c.carry_out.ensures.answer)

pub returns-clause-entries : goal.returns-clause-entries
unfolding owner_step
returns-clause-entries c =
    let b = c.args.self.now in
    let h = b.held in
    rw c.carry_out.ensures.after
    (spoken_used h c.args.name (λ _. changed h c.args.name as_waiting h.groups) b.entries (find (has_name c.args.name) h.owners) (λ a. omega (arith, length-change_first (has_name c.args.name) as_waiting h.owners)) c.requires.entry)

pub returns-clause-newcomers : goal.returns-clause-newcomers
unfolding owner_step
returns-clause-newcomers c =
    let b = c.args.self.now in
    let h = b.held in
    rw c.carry_out.ensures.after
    (spoken_settled h c.args.name (λ _. changed h c.args.name as_waiting h.groups) b.newcomers (find (has_name c.args.name) h.owners) (λ a q. omega (arith, length-change_first (has_name c.args.name) as_waiting h.owners)))

pub returns-clause-groups : goal.returns-clause-groups
unfolding owner_step
returns-clause-groups c =
    let h = c.args.self.now.held in
    rw c.carry_out.ensures.after
    (same_groups h c.args.name as_waiting (find (has_name c.args.name) h.owners))
