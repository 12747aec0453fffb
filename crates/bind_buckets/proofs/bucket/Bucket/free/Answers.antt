use Rattle.std.proofs.Common.{find, ◌∙◌, refl, arith}
use Rattle.sock_card.specs.Conflict.{holds}
use Rattle.bind_buckets.specs.OwnerStep.{owner_step}
use Rattle.bind_buckets.proofs.FreePort.{free_answers, free_now, all_if_ok, held_by_first}
use Rattle.bind_buckets.proofs.RoomToGo.{used, settled}
use Rattle.bind_buckets.proofs.bucket.Bucket.free.Goals as goal

pub free_result-requires : goal.free_result-requires
unfolding owner_step
free_result-requires c =
    rw c.carry_out.ensures.answer (free_answers (find (holds c.args.port c.args.net) c.args.self.now.held.owners))

pub returns-clause-kept : goal.returns-clause-kept
unfolding owner_step
returns-clause-kept c = rw c.carry_out.ensures.after refl

pub returns-clause-free : goal.returns-clause-free
unfolding owner_step
returns-clause-free c =
    rw c.carry_out.ensures.after
    (free_now (find (holds c.args.port c.args.net) c.args.self.now.held.owners) c.free_result.result (c.free_result.ensures ∙ c.carry_out.ensures.answer))

pub returns-clause-chosen : goal.returns-clause-chosen
unfolding owner_step
returns-clause-chosen c =
    let owners = c.args.self.now.held.owners in
    all_if_ok c.args.port c.args.net owners (find (holds c.args.port c.args.net) owners) c.free_result.result refl (c.free_result.ensures ∙ c.carry_out.ensures.answer)

pub returns-clause-not_free : goal.returns-clause-not_free
unfolding owner_step
returns-clause-not_free c =
    held_by_first (find (holds c.args.port c.args.net) c.args.self.now.held.owners) c.free_result.result (c.free_result.ensures ∙ c.carry_out.ensures.answer)

pub returns-clause-entries : goal.returns-clause-entries
unfolding owner_step
returns-clause-entries c =
    let b = c.args.self.now in
    rw c.carry_out.ensures.after (used b.entries b.held.owners b.held.owners (omega arith) c.requires.entry)

pub returns-clause-newcomers : goal.returns-clause-newcomers
unfolding owner_step
returns-clause-newcomers c =
    let b = c.args.self.now in
    rw c.carry_out.ensures.after (settled b.newcomers b.held.owners b.held.owners (omega arith))
