use Rattle.std.proofs.Common.{find, ◌∙◌}
use Rattle.sock_card.specs.Conflict.{overlap}
use Rattle.bind_buckets.specs.OwnerStep.{owner_step}
use Rattle.bind_buckets.proofs.Told.{bind_answers, bound, unbound, in_use}
use Rattle.bind_buckets.proofs.RoomToGo.{bind_used, bind_came}
use Rattle.bind_buckets.proofs.bucket.Bucket.bind_auto.Goals as goal

pub bind_result-requires : goal.bind_result-requires
unfolding owner_step
bind_result-requires c =
    let b = c.args.self.now in
    rw c.carry_out.ensures.answer (bind_answers b.held c.args.owner (find (overlap c.args.owner) b.held.owners))

pub returns-clause-bound : goal.returns-clause-bound
unfolding owner_step
returns-clause-bound c =
    let b = c.args.self.now in
    rw c.carry_out.ensures.after
    (bound b.held c.args.owner (find (overlap c.args.owner) b.held.owners) c.bind_result.result (c.bind_result.ensures ∙ c.carry_out.ensures.answer))

pub returns-clause-kept : goal.returns-clause-kept
unfolding owner_step
returns-clause-kept c =
    let b = c.args.self.now in
    rw c.carry_out.ensures.after
    (unbound b.held c.args.owner (find (overlap c.args.owner) b.held.owners) c.bind_result.result (c.bind_result.ensures ∙ c.carry_out.ensures.answer))

pub returns-clause-in_use : goal.returns-clause-in_use
unfolding owner_step
returns-clause-in_use c =
    let b = c.args.self.now in
    in_use b.held c.args.owner (find (overlap c.args.owner) b.held.owners) c.bind_result.result (c.bind_result.ensures ∙ c.carry_out.ensures.answer)

pub returns-clause-entries : goal.returns-clause-entries
unfolding owner_step
returns-clause-entries c =
    let b = c.args.self.now in
    rw c.carry_out.ensures.after
    (bind_used b.held c.args.owner b.entries (find (overlap c.args.owner) b.held.owners) c.requires.entry)

pub returns-clause-newcomers : goal.returns-clause-newcomers
unfolding owner_step
returns-clause-newcomers c =
    let b = c.args.self.now in
    rw c.carry_out.ensures.after
    (bind_came b.held c.args.owner b.newcomers (find (overlap c.args.owner) b.held.owners) c.bind_result.result c.requires.newcomer (c.bind_result.ensures ∙ c.carry_out.ensures.answer))
