use Rattle.sock_script.specs.Seen.{tables}
use Rattle.sock_script.proofs.LineTurns.{WroteSections}
use Rattle.sock_script.proofs.output.text.Given as goal

abbrev pub invariant-loop-i : goal.invariant-loop-i
invariant-loop-i l =
    WroteSections (tables l.labels.by_section.items) l.script.sections (record { number = 1; items = l.capture.items; replies = l.replies; listings = l.listings }) l.left l.out.items l.i
