use Rattle.std.proofs.Common.{◌≡◌, pos, Option, Some, rules, refl, sym, subst}
use Rattle.shared_calls.specs.declared.limited.Limited.{Limited}
use Rattle.inet_c.specs.Asked.{TellsNextOver}
use Rattle.inet_c.specs.Owned.{held}
use Rattle.inet_c.proofs.asked.next_over.Goals as goal

pub returns-in-Some-clause-tells : goal.returns-in-Some-clause-tells
returns-in-Some-clause-tells c =
    let is : held c.args.worker.now.boxed ≡ Some c.deref-in-Some.result.now = search rules in
    subst (λ (o : Option Limited). TellsNextOver o c.next_over_or_never.result (pos 0)) (sym is) (c.next_over_or_never.ensures, refl)
