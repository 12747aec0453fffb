use Rattle.table_rule.specs.Calls.{IsOf, me, layout_of}
use Rattle.null_reader.specs.Looked.{IsStopInside}
use Rattle.null_reader.proofs.Looks.{begun, Between}
use Rattle.null_reader.proofs.lookup.look_words.Given as goal

abbrev pub invariant-loop-done : goal.invariant-loop-done
invariant-loop-done g l = record {
  table : IsOf l.chains l.steps;
  inside : IsStopInside (layout_of l.chains) l.last;
  between : Between (me l.initial.steps) (begun l.bucket l.key l.least l.from) l.done l.last (me l.steps);
}
