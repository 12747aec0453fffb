-- What the lookups of a looker's share ask and leave.
use Rattle.std.proofs.Common.{ℕ, List, arith}
use Rattle.capture_reader.specs.declared.packet.Item.{Item}
use Rattle.flat_list.specs.declared.header.Header.{Header}
use Rattle.sock_ops.specs.declared.tables.Tables.{Tables}
use Rattle.sock_ops.specs.declared.tables.Worker.{Worker}
use Rattle.sock_ops.specs.Stands.{turned}
use Rattle.table_rule.specs.Calls.{me}
use Rattle.table_rule.specs.Plays.{Sat}
use Rattle.race_run.specs.declared.looker.Look.{Look}
use Rattle.race_run.specs.Lookers.{HasLooked, looking}
use Rattle.race_run.specs.Looking.{MayLook, TakesAll}
use Rattle.race_run.specs.Workers.{AreTables, IsFresh}

module _ (header : Header) (t : Tables) (m : ℕ) (w : Worker) (fresh : IsFresh header t m w) where
  pub may_look : MayLook t.chains w.chain
  may_look = record { rests = fresh.rest.rests; nothing = fresh.rest.nothing; part = let one = fresh.chain_part in omega (arith, one) }

  -- what the share reports
  pub looked_of : (other : Header) → AreTables other t → (passes : ℕ) (all : List Item) (n : Sat) (told : List Look) → TakesAll t.chains passes all (me w.chain.pass.steps) n told → HasLooked other passes all (looking (turned w) n.0) told
  looked_of other are passes all n told takes = takes other (turned w) are.layout (record { only = record { mine = fresh.nothing.mine; closed = fresh.nothing.closed; lost = fresh.nothing.lost }; receipts = fresh.nothing.receipts; taken = fresh.nothing.taken })
