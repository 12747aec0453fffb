use Rattle.std.proofs.Common.{◌≡◌, map, take}
use Rattle.sock_script.specs.Seen.{tables}
use Rattle.sock_script.specs.Steps.{label_table}
use Rattle.sock_script.proofs.label.Labels.of_script.Given as goal

abbrev pub invariant-loop-commands : goal.invariant-loop-commands
invariant-loop-commands l = tables l.by_section.items ≡ label_table (map (λ v. v.items) (take l.commands-index l.commands-items))
