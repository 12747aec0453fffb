use Rattle.std.proofs.Common.{◌≡◌, vec_len, vec_capacity}
use Rattle.flat_list.specs.declared.header.Header.{Header}
use Rattle.race_run.specs.Jobs.{AllReady}
use Rattle.race_run.specs.Shares.{IsFirstPass}
use Rattle.race_run.specs.Workers.{AreTables, IsFirst}
use Rattle.race_run.proofs.jobs.deal.Given as goal

abbrev pub invariant-loop-number : goal.invariant-loop-number
invariant-loop-number l = record {
  first : IsFirst l.tables l.number l.first;
  draws : IsFirstPass l.tickets l.number l.draws;
  ready : (header : Header) → AreTables header l.tables → AllReady header l.tables l.tickets l.jobs.items;
  len : vec_len l.jobs ≡ l.number;
  room : vec_capacity l.jobs ≡ l.count;
}
