use Rattle.bind_buckets.proofs.Linked.{AreRelinked}
use Rattle.bind_buckets.proofs.links.link_all.Given as goal

abbrev pub invariant-loop-place : goal.invariant-loop-place
invariant-loop-place l = AreRelinked l.fn.places l.places l.homes l.place
