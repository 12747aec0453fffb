-- Where nobody leaves, the counts are still of all owners.
use Rattle.std.proofs.Common.{◌≡◌, ◌≤◌, sym, ◌∙◌, subst}
use Rattle.bind_buckets.specs.Slots.{answers}
use Rattle.bind_buckets.proofs.Named.{undropped}
use Rattle.bind_buckets.proofs.owners.Owners.take.Goals as goal

pub invariant_of-self : goal.invariant_of-self
invariant_of-self c =
    let none = sym c.take.ensures.gone ∙ c.in_err-gone.was in
    let same : c.take.new.self.owners ≡ c.self.inside.list.owners = c.take.ensures.owners ∙ undropped (answers c.args.asked) c.self.inside.list.owners none in
    record {
      counted = rw same c.self.invariant.counted;
      made = λ some. c.self.invariant.made (subst (λ n. 1 ≤ n) c.take.ensures.room some);
    }
