use Rattle.std.proofs.Common.{find, ◌∙◌, arith}
use Rattle.bind_buckets.specs.OwnerStep.{owner_step, has_name, may_listen}
use Rattle.bind_buckets.proofs.GroupNumber.{group_of_bucket}
use Rattle.bind_buckets.proofs.Told.{listen_answers, asked_step, may_now, why}
use Rattle.bind_buckets.proofs.RoomToGo.{spoken_used, spoken_settled}
use Rattle.bind_buckets.proofs.bucket.Bucket.may_listen.Goals as goal

pub listen_result-requires : goal.listen_result-requires
unfolding owner_step
listen_result-requires c =
    let b = c.args.self.now in
    rw c.carry_out.ensures.answer (listen_answers b.number b.held c.args.name (find (has_name c.args.name) b.held.owners))

pub returns-clause-kept : goal.returns-clause-kept
returns-clause-kept c = rw c.carry_out.ensures.after (asked_step c.args.self.now c.args.name)

pub returns-clause-free : goal.returns-clause-free
returns-clause-free c =
    rw c.carry_out.ensures.after
    (may_now c.args.self.now c.args.name c.listen_result.result (c.listen_result.ensures ∙ c.carry_out.ensures.answer))

pub returns-clause-why : goal.returns-clause-why
unfolding owner_step
returns-clause-why c =
    let b = c.args.self.now in
    why b.number b.held c.args.name (find (has_name c.args.name) b.held.owners) c.listen_result.result c.carry_out.ensures.sound.members
    (c.listen_result.ensures ∙ c.carry_out.ensures.answer)

pub returns-clause-entries : goal.returns-clause-entries
unfolding owner_step
returns-clause-entries c =
    let b = c.args.self.now in
    let h = b.held in
    rw c.carry_out.ensures.after
    (spoken_used h c.args.name (may_listen b.number h c.args.name) b.entries (find (has_name c.args.name) h.owners) (λ a. omega arith) c.requires.entry)

pub returns-clause-newcomers : goal.returns-clause-newcomers
unfolding owner_step
returns-clause-newcomers c =
    let b = c.args.self.now in
    let h = b.held in
    rw c.carry_out.ensures.after
    (spoken_settled h c.args.name (may_listen b.number h c.args.name) b.newcomers (find (has_name c.args.name) h.owners) (λ a q. omega arith))

pub returns-clause-group : goal.returns-clause-group
unfolding owner_step
returns-clause-group c =
    let b = c.args.self.now in
    group_of_bucket b.number b.held c.args.name (find (has_name c.args.name) b.held.owners) c.listen_result.result c.carry_out.ensures.sound.places
    (c.listen_result.ensures ∙ c.carry_out.ensures.answer)
