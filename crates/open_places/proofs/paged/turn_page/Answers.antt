use Rattle.std.proofs.Common.{ap, sym, ◌∙◌}
use Rattle.open_places.specs.Pages.{kept_on}
use Rattle.open_places.proofs.Counts.{none_kept}
use Rattle.open_places.proofs.Pages.{turns_nothing, turns_page}
use Rattle.open_places.proofs.paged.turn_page.Goals as goal

pub returns-then-is_let_go-clause-turned : goal.returns-then-is_let_go-clause-turned
returns-then-is_let_go-clause-turned g c =
    turns_nothing c.args.earlier.now c.args.number c.args.last.now c.requires
    (none_kept c.args.last.now (ap kept_on (sym c.replace-full.ensures.value) ∙ c.is_let_go.ensures.0 c.if-is_let_go.true))

pub returns-in-Ok-clause-turned : goal.returns-in-Ok-clause-turned
returns-in-Ok-clause-turned g c =
    turns_page c.args.earlier.now c.args.number c.args.last.now c.insert.new.self c.replace-full.result c.in-Ok.ensures.updates c.replace-full.ensures.value
