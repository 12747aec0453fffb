use Rattle.std.proofs.Common.{◌≡◌, ℕ, ap, ◌∙◌}
use Rattle.section_machine.specs.Sections as sections
use Rattle.section_machine.specs.Sections.{Kept}
use Rattle.sock_ops.specs.declared.tables.Tables.{Tables}
use Rattle.sock_ops.specs.declared.tables.Worker.{Worker}
use Rattle.shared_calls.specs.Callings.{Calling, calling, with_mark}
use Rattle.shared_calls.proofs.Callings.{goes_on_marked}
use Rattle.shared_calls.proofs.caller.Caller.set_mark.Goals as goal

marked : (t : Tables) (k l : Kept) (w : Worker) (tag mark : ℕ) (old : Calling) → l ≡ sections.with_mark k mark → calling t k w tag ≡ old → calling t l w tag ≡ with_mark old mark
marked t k l w tag mark old is view =
    ap (λ (x : Kept). calling t x w tag) is ∙ ap (λ (x : Calling). with_mark x mark) view

pub invariant_of-self : goal.invariant_of-self
invariant_of-self c =
    let m = c.self.inside in
    goes_on_marked _ m.machine c.set_mark.new.self m.worker m.tag c.args.mark c.set_mark.ensures.set c.set_mark.ensures.section c.self.invariant

pub returns : goal.returns
returns c =
    let m = c.self.inside in
    marked _ m.machine c.set_mark.new.self m.worker m.tag c.args.mark _ c.set_mark.ensures.set c.self.view_is
