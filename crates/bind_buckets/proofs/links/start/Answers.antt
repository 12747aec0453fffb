use Rattle.bind_buckets.proofs.Sought.{behind}
use Rattle.bind_buckets.proofs.links.start.Goals as goal

pub returns-in-Some : goal.returns-in-Some
returns-in-Some c =
    rw (c.in-Some.is, c.get.ensures)
    (behind c.args.key c.args.places.now c.args.homes.now c.in-Some.place _ c.requires.linked
    (c.requires.after.within c.in-Some.place c.in-Some.is) (c.requires.after.same c.in-Some.place c.in-Some.is))
