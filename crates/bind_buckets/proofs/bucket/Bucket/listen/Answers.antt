use Rattle.std.proofs.Common.{find, arith}
use Rattle.sock_card.specs.Became.{as_listener}
use Rattle.bind_buckets.specs.OwnerStep.{owner_step, has_name, listening}
use Rattle.bind_buckets.proofs.Told.{listens}
use Rattle.bind_buckets.proofs.RoomToGo.{spoken_used, spoken_settled}
use Rattle.bind_buckets.proofs.StaysGrouped.{length-change_first}
use Rattle.bind_buckets.proofs.bucket.Bucket.listen.Goals as goal

pub returns-clause-owners : goal.returns-clause-owners
unfolding owner_step
returns-clause-owners c =
    let b = c.args.self.now in
    rw c.carry_out.ensures.after
    (listens b.number b.held c.args.name c.args.slot (find (has_name c.args.name) b.held.owners) c.requires.free)

pub returns-clause-entries : goal.returns-clause-entries
unfolding owner_step
returns-clause-entries c =
    let b = c.args.self.now in
    let h = b.held in
    rw c.carry_out.ensures.after
    (spoken_used h c.args.name (listening h c.args.name c.args.slot) b.entries (find (has_name c.args.name) h.owners) (λ a. omega (arith, length-change_first (has_name c.args.name) as_listener h.owners)) c.requires.entry)

pub returns-clause-newcomers : goal.returns-clause-newcomers
unfolding owner_step
returns-clause-newcomers c =
    let b = c.args.self.now in
    let h = b.held in
    rw c.carry_out.ensures.after
    (spoken_settled h c.args.name (listening h c.args.name c.args.slot) b.newcomers (find (has_name c.args.name) h.owners) (λ a q. omega (arith, length-change_first (has_name c.args.name) as_listener h.owners)))
