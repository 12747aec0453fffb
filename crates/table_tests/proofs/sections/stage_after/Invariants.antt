use Rattle.std.proofs.Common.{◌-◌, ◌≤◌, length}
use Rattle.section_machine.specs.Carried.{MayGoOn}
use Rattle.section_machine.specs.Standing.{IsSection}
use Rattle.table_tests.proofs.sections.stage_after.Given as goal

abbrev pub invariant-loop-command : goal.invariant-loop-command
invariant-loop-command l = record {
  section : IsSection l.tables l.machine l.worker;
  labels : length l.machine.own.labels ≤ l.command-index;
  may : MayGoOn (6 - l.command-index) l.machine l.worker;
}
