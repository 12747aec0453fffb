use Rattle.std.proofs.Common.{sym}
use Rattle.std.proofs.lemmas.List.{take-map}
use Rattle.refusals.proofs.lines.first_lines.Goals as goal

pub returns : goal.returns
returns c = sym (take-map (λ w. w.now) c.args.count c.args.lines.now)
