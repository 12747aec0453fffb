use Rattle.std.proofs.Common.{refl, arith}
use Rattle.bind_buckets.specs.OwnerStep.{owner_step}
use Rattle.bind_buckets.proofs.RoomToGo.{used, came, longer}
use Rattle.bind_buckets.proofs.bucket.Bucket.connect_auto.Goals as goal

pub returns-clause-connected : goal.returns-clause-connected
unfolding owner_step
returns-clause-connected c = rw c.carry_out.ensures.after refl

pub returns-clause-entries : goal.returns-clause-entries
unfolding owner_step
returns-clause-entries c =
    let b = c.args.self.now in
    rw c.carry_out.ensures.after
    (used b.entries b.held.owners _ (omega (arith, longer b.held.owners c.args.owner)) c.requires.entry)

pub returns-clause-newcomers : goal.returns-clause-newcomers
unfolding owner_step
returns-clause-newcomers c =
    let b = c.args.self.now in
    rw c.carry_out.ensures.after
    (came b.newcomers b.held.owners _ (omega (arith, longer b.held.owners c.args.owner)) c.requires.newcomer)
