use Rattle.std.proofs.Common.{◌≡◌, ◌+◌, ◌-◌, ◌≤◌, length}
use Rattle.section_machine.specs.Carried.{MayGoOn}
use Rattle.race_run.specs.Sole.{tables_of}
use Rattle.race_run.specs.Steps.{IsRunning, commands_after}
use Rattle.race_run.proofs.SectionTurns.{Turns}
use Rattle.race_run.proofs.script_run.running.run_section.Given as goal

abbrev pub invariant-loop-command : goal.invariant-loop-command
invariant-loop-command g l = record {
  running : IsRunning l.tables l.machine l.worker;
  labels : length l.machine.own.labels ≤ l.command-index;
  number : l.machine.own.number ≡ l.n;
  may : MayGoOn (length l.commands - l.command-index + commands_after l.n) l.machine l.worker;
  turns : Turns l.header l.n (tables_of l.tables l.fn.worker) l.commands l.fn.items l.left l.fn.replies l.replies l.command-index l.machine (tables_of l.tables l.worker);
}
