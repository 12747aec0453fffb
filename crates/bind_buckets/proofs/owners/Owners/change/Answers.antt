-- Where nobody has the name, the counts are still of all owners.
use Rattle.std.proofs.Common.{◌≡◌, ◌≤◌, sym, ◌∙◌, subst}
use Rattle.bind_buckets.specs.OwnerStep.{has_name}
use Rattle.bind_buckets.specs.Change.{becomes}
use Rattle.bind_buckets.proofs.Named.{unreplaced}
use Rattle.bind_buckets.proofs.owners.Owners.change.Goals as goal

pub invariant_of-self : goal.invariant_of-self
invariant_of-self c =
    let none = sym c.change.ensures.was ∙ c.in_err-was.was in
    let same : c.change.new.self.owners ≡ c.self.inside.list.owners = c.change.ensures.owners ∙ unreplaced (has_name c.args.name) (becomes c.args.change) c.self.inside.list.owners none in
    record {
      counted = rw same c.self.invariant.counted;
      made = λ some. c.self.invariant.made (subst (λ n. 1 ≤ n) c.change.ensures.room some);
    }
