use Rattle.std.proofs.Common.{◌≡◌, ◌≤◌, length, take, drop}
use Rattle.sock_script.specs.Words.{lines_of}
use Rattle.sock_script.specs.Pieces.{lines_left}
use Rattle.sock_script.specs.Reading.{Reads, nothing_yet}
use Rattle.sock_script.proofs.Small.{weight}
use Rattle.sock_script.proofs.parse.read_lines.Given as goal

abbrev pub invariant-loop-left : goal.invariant-loop-left
invariant-loop-left l =
    (l.number ≤ length (lines_of l.fn.text))
    × (drop l.number (lines_of l.fn.text) ≡ lines_left l.left)
    × Reads l.mode nothing_yet (take l.number (lines_of l.fn.text)) l.draft
    × (l.draft.bytes ≤ weight (take l.number (lines_of l.fn.text)))

abbrev pub decreases-loop-left : goal.decreases-loop-left
decreases-loop-left l = length (lines_left l.left)
