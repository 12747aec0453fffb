use Rattle.std.proofs.Common.{◌+◌, ◌*◌, ◌-◌, ◌≤◌, take, length}
use Rattle.turn_table.specs.Passes as words
use Rattle.sock_ops.specs.Stands.{MayDraw}
use Rattle.race_run.specs.Said.{said_as}
use Rattle.race_run.proofs.Running.{Runs}
use Rattle.race_run.proofs.section.run_section.Given as goal

abbrev pub invariant-loop-at : goal.invariant-loop-at
invariant-loop-at g l = record {
  runs : Runs l.header l.tables l.number (take l.at l.commands) l.machine l.worker (said_as l.replies.items l.listings.items);
  labels : length l.machine.own.labels ≤ l.at;
  entered : words.draws l.worker.turns + length l.machine.own.waits ≤ 65540 * l.at;
  drawn : MayDraw (6 * (length l.commands - l.at) + 2 * length l.machine.own.waits) l.worker;
}
