use Rattle.std.proofs.Common.{◌≡◌, sym, ◌∙◌, ap, Some, None, find}
use Rattle.std.specs.Option.{option_copied}
use Rattle.bind_buckets.specs.HeldBy.{held_by}
use Rattle.bind_buckets.specs.OwnerStep.{has_name, kept}
use Rattle.bind_buckets.proofs.Named.{speaks_of, speaks_of_none}
use Rattle.bind_buckets.proofs.held.Held.may_listen.Goals as goal

pub returns-in-None : goal.returns-in-None
returns-in-None c =
    let h = held_by c.args.self.now in
    let none : find (has_name c.args.name) h.owners ≡ None = sym c.named.ensures ∙ ap option_copied c.in-None.is in
    speaks_of_none _ c.args.name _ none

pub returns-in-Some : goal.returns-in-Some
returns-in-Some c =
    let h = held_by c.args.self.now in
    let found : find (has_name c.args.name) h.owners ≡ Some c.in-Some.owner.now = sym c.named.ensures ∙ ap option_copied c.in-Some.is in
    speaks_of h c.args.name _ c.in-Some.owner.now found ∙ ap (kept h) (sym c.listener_answer.ensures)
