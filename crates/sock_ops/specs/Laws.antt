-- What follows where a plan was carried out: laws of plans and deeds, without code. Our own.
--
-- Each is the contract of a function of laws.rt.
use Rattle.std.specs.Prelude.{ℕ, List, Result, Ok, Err}
use Rattle.turn_table.specs.Passes as words
use Rattle.bind_buckets.specs.Turned.{View, IsAlone}
use Rattle.sock_ops.specs.Sides.{Side}
use Rattle.flat_list.specs.declared.command.End.{End}
use Rattle.table_model.specs.declared.operation.OpEnd.{OpEnd}
use Rattle.table_model.specs.Asking.{Asking, ends}
use Rattle.table_model.specs.Operations as plans
use Rattle.table_rule.specs.Sole.{IsNow}
use Rattle.sock_ops.specs.declared.sock.Sock.{Sock}
use Rattle.sock_ops.specs.declared.tables.Tables.{Tables}
use Rattle.sock_ops.specs.declared.tables.Worker.{Worker}
use Rattle.sock_ops.specs.Goes.{Carried, Comes, Went}
use Rattle.sock_ops.specs.Socks.{FitsState, first_mine, mine_of}
use Rattle.sock_ops.specs.Stands.{IsReady, StandsAs, buckets_of, chained, turned}

-- On a worker that was never split, a plan that went to its end comes to that on the tables that the worker's own
-- entries and changes make.
abbrev pub ComeAlone : Type 0 → Type 0
ComeAlone R =
    (t : Tables) (w u : Worker) (plan : Asking R) (did : R) → IsReady t u → IsAlone (turned w)
    → IsNow (chained t w).view
    → Went (buckets_of t) plan (turned w) (turned u) (chained t w) (chained t u) (ends did)
    → Comes (buckets_of t) plan (words.given w.turns) (words.given u.turns) (chained t w) (chained t u) did

-- The socket that comes of a call stands, and one that it refused, or for which it was left off, stands as it did.
abbrev pub StandsBy : {B : Type 0} → Tables → Sock → View → Side → Result (Sock × B) OpEnd → Type 0
StandsBy t s w d (Ok x) = FitsState x.0 → StandsAs t x.0 w d
StandsBy t s w d (Err end) = StandsAs t s w d

-- so after `bind`, whoever else was there
abbrev pub BindStands : Type 0
BindStands =
    (t : Tables) (s : Sock) (end : End) (ports : List ℕ) (v w : View) (c d : Side) (result : Result (Sock × ℕ) OpEnd)
    → FitsState s → StandsAs t s v c
    → Carried first_mine plans.refused (buckets_of t) (plans.bind (mine_of s) end ports) v w c d result
    → StandsBy t s w d result
