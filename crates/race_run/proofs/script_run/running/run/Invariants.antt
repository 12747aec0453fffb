use Rattle.std.proofs.Common.{◌+◌}
use Rattle.section_machine.specs.Carried.{MayCarry}
use Rattle.race_run.specs.Sole.{IsSole, tables_of}
use Rattle.race_run.specs.Steps.{AreUnspoken, commands_after}
use Rattle.race_run.proofs.SectionTurns.{Ran}
use Rattle.race_run.proofs.script_run.running.run.Given as goal

abbrev pub invariant-loop-i : goal.invariant-loop-i
invariant-loop-i g l = record {
  sole : IsSole l.tables l.worker;
  unspoken : AreUnspoken (l.i + 1) l.worker;
  may : MayCarry (commands_after l.i) l.worker;
  ran : Ran l.header l.script.sections l.capture.items l.left l.replies l.i (tables_of l.tables l.worker);
}
