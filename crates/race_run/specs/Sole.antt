-- A worker that is alone at its tables, between two calls, and the tables as it knows them: our own. No public
-- contract cites this file.
use Rattle.bind_buckets.specs.Turned.{IsAlone}
use Rattle.sock_ops.specs.Sides.{HoldsNothing, chains_by}
use Rattle.reuseport_group.specs.Passes as lists
use Rattle.sock_ops.specs.declared.tables.Tables.{Tables}
use Rattle.sock_ops.specs.declared.tables.Worker.{Worker}
use Rattle.sock_ops.specs.Groups.{ListsArePublished}
use Rattle.sock_ops.specs.Stands.{IsReady, buckets_of, turned, chained}
use Rattle.table_model.specs.Goes.{tables_by}
use Rattle.table_model.specs.Tables as plain
use Rattle.table_rule.specs.Passes as chain_words
use Rattle.table_rule.specs.Sole.{IsNow}
use Rattle.turn_table.specs.Passes as words

-- the tables that its own entries and changes make
abbrev pub tables_of : Tables → Worker → plain.Tables
tables_of t w = tables_by (buckets_of t) (words.given w.turns) (chains_by (chained t w))

-- Its passes were never split, and no call of its is under way; the list that was published last for each group is
-- the one that its bucket has.
pub record IsSole (t : Tables) (w : Worker) : Type 0 where
  pub ready : IsReady t w
  pub turns : IsAlone (turned w)
  pub chains : IsNow (chained t w).view
  pub nothing : HoldsNothing (chain_words.known w.chain.pass)
  pub groups : lists.IsSole w.groups
  pub listed : ListsArePublished t w
