use Rattle.std.proofs.Common.{◌≡◌, ℕ, ◌+◌, ◌^◌, ◌≤◌, length}
use Rattle.turn_table.specs.Passes as words
use Rattle.nulls_chain.specs.Changes.{PlacesStay}
use Rattle.table_rule.specs.Passes as chain_words
use Rattle.sock_ops.specs.Stands.{IsAway, IsReady, MayDraw, buckets_of, chained, turned}
use Rattle.sock_ops.proofs.SearchGoes.{Seeking}
use Rattle.sock_ops.proofs.searching.search_connect.Given as goal

abbrev pub invariant-loop-port : goal.invariant-loop-port
invariant-loop-port g l = record {
  can_next : (goal.iterator-loop-port g).can_next l.port-iterator;
  finite : (goal.iterator-loop-port g).is_finite l.port-iterator;
  ready : IsReady l.tables l.worker;
  room : words.draws l.worker.turns + (length l.port-iterator + 2) ≤ 2 ^ 48;
  entered : words.draws l.worker.turns + (length l.port-iterator + 2) ≤ words.draws l.fn.worker.turns + (length l.fn.ports + 2);
  caller : words.caller l.worker.turns ≡ words.caller l.fn.worker.turns;
  draws : (n : ℕ) → MayDraw n l.fn.worker → MayDraw n l.worker;
  stay : PlacesStay (chain_words.known l.fn.worker.chain.pass) (chain_words.known l.worker.chain.pass);
  groups : l.worker.groups ≡ l.fn.worker.groups;
  away : IsAway l.owner.name (turned l.worker);
  seeking : Seeking (buckets_of l.tables) l.owner l.source l.to l.moment l.rule (turned l.fn.worker) (chained l.tables l.fn.worker) l.fn.ports l.port-iterator (turned l.worker) (chained l.tables l.worker);
}
