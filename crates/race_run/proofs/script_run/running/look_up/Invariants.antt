use Rattle.std.proofs.Common.{take}
use Rattle.race_run.specs.Looks.{Looked}
use Rattle.race_run.specs.Sole.{IsSole, tables_of}
use Rattle.race_run.specs.Steps.{AnswersAll}
use Rattle.race_run.proofs.script_run.running.look_up.Given as goal

abbrev pub invariant-loop-item : goal.invariant-loop-item
invariant-loop-item l = record {
  sole : IsSole l.tables l.worker;
  looked : Looked l.tables l.fn.worker l.worker;
  answers : AnswersAll (tables_of l.tables l.fn.worker) (take l.item-index l.items) l.fn.replies.items l.replies.items;
}
