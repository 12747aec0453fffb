use Rattle.std.proofs.Common.{◌≡◌, ◌++◌, ◌+◌, drop}
use Rattle.race_text.specs.Render.{looked_lines}
use Rattle.race_text.specs.Labelled.{label_of}
use Rattle.race_text.proofs.text.put_looked_lines.Given as goal

abbrev pub invariant-loop-i : goal.invariant-loop-i
invariant-loop-i l =
    l.out.items ++ looked_lines (label_of l.labels) (l.i + 1) (drop l.i l.looked) ≡ l.fn.out.items ++ looked_lines (label_of l.labels) 1 l.looked
