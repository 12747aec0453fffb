use Rattle.std.proofs.Common.{◌+◌, ◌≤◌, vec_len}
use Rattle.std.specs.Io.KnownBytes.{Consumes}
use Rattle.inet_io.proofs.transfer.read_all.Given as goal

abbrev pub invariant-loop-turn : goal.invariant-loop-turn
invariant-loop-turn g l = record {
  each_took : l._turn ≤ vec_len l.bytes;
  within : vec_len l.bytes ≤ l.limit;
  so_far : Consumes (g.S.Source.left l.fn.source) (g.S.Source.left l.source) l.bytes.items;
  asked : g.S.Source.calls l.source ≤ g.S.Source.calls l.fn.source + l._turn;
  later : g.S.Source.faults l.fn.source ≤ g.S.Source.faults l.source;
}
