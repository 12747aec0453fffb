use Rattle.std.proofs.Common.{◌≡◌, find, refl, ◌∙◌, IfSome, arith}
use Rattle.sock_card.specs.Became.{child}
use Rattle.bind_buckets.specs.OwnerStep.{owner_step, After, has_name, with_last, with_owner}
use Rattle.bind_buckets.proofs.Told.{name_answers, spoken_ok, spoken_err, strange_by}
use Rattle.bind_buckets.proofs.RoomToGo.{spoken_used, spoken_came, longer}
use Rattle.bind_buckets.proofs.bucket.Bucket.inherit.Goals as goal

pub name_result-requires : goal.name_result-requires
unfolding owner_step
name_result-requires c =
    let h = c.args.self.now.held in
    rw c.carry_out.ensures.answer (name_answers h c.args.parent (λ listener. with_owner h (child c.args.name c.args.mark c.args.local c.args.remote c.args.rport listener)) (λ a. refl) (find (has_name c.args.parent) h.owners))

pub returns-clause-inherited : goal.returns-clause-inherited
unfolding owner_step
returns-clause-inherited c =
    let h = c.args.self.now.held in
    rw c.carry_out.ensures.after
    (spoken_ok h c.args.parent (λ listener. with_owner h (child c.args.name c.args.mark c.args.local c.args.remote c.args.rport listener)) (λ a. refl) (λ (after : After). IfSome (find (has_name c.args.parent) h.owners) (λ listener. after.held ≡ with_last h (child c.args.name c.args.mark c.args.local c.args.remote c.args.rport listener)))
    (find (has_name c.args.parent) h.owners) c.name_result.result (λ a q. rw q refl) (c.name_result.ensures ∙ c.carry_out.ensures.answer))

pub returns-clause-kept : goal.returns-clause-kept
unfolding owner_step
returns-clause-kept c =
    let h = c.args.self.now.held in
    rw c.carry_out.ensures.after
    (spoken_err h c.args.parent (λ listener. with_owner h (child c.args.name c.args.mark c.args.local c.args.remote c.args.rport listener)) (λ a. refl) (find (has_name c.args.parent) h.owners) c.name_result.result (c.name_result.ensures ∙ c.carry_out.ensures.answer))

pub returns-clause-strange : goal.returns-clause-strange
unfolding owner_step
returns-clause-strange c =
    let h = c.args.self.now.held in
    strange_by h c.args.parent (λ listener. with_owner h (child c.args.name c.args.mark c.args.local c.args.remote c.args.rport listener)) (λ a. refl) (find (has_name c.args.parent) h.owners) c.name_result.result refl (c.name_result.ensures ∙ c.carry_out.ensures.answer)

pub returns-clause-entries : goal.returns-clause-entries
unfolding owner_step
returns-clause-entries c =
    let b = c.args.self.now in
    let h = b.held in
    rw c.carry_out.ensures.after
    (spoken_used h c.args.parent (λ listener. with_owner h (child c.args.name c.args.mark c.args.local c.args.remote c.args.rport listener)) b.entries (find (has_name c.args.parent) h.owners) (λ a. omega (arith, longer h.owners (child c.args.name c.args.mark c.args.local c.args.remote c.args.rport a))) c.requires.entry)

pub returns-clause-newcomers : goal.returns-clause-newcomers
unfolding owner_step
returns-clause-newcomers c =
    let b = c.args.self.now in
    let h = b.held in
    rw c.carry_out.ensures.after
    (spoken_came h c.args.parent (λ listener. with_owner h (child c.args.name c.args.mark c.args.local c.args.remote c.args.rport listener)) b.newcomers (find (has_name c.args.parent) h.owners) c.name_result.result (λ a. refl) (λ a. omega (arith, longer h.owners (child c.args.name c.args.mark c.args.local c.args.remote c.args.rport a))) c.requires.newcomer (c.name_result.ensures ∙ c.carry_out.ensures.answer))
