-- Whose worker keeps its lists of groups published.
use Rattle.reuseport_group.specs.Passes as lists
use Rattle.sock_ops.specs.declared.tables.Tables.{Tables}
use Rattle.sock_ops.specs.declared.tables.Worker.{Worker}
use Rattle.sock_ops.specs.Groups.{KeepsLists}
use Rattle.sock_ops.specs.Stands.{turned}
use Rattle.sock_ops.proofs.Listed.{same_keeps, keeps_both}

-- one that does nothing
pub rests_listed : (t : Tables) (w : Worker) → KeepsLists t w w
rests_listed t w = same_keeps (lists.groups t.groups) (turned w) w.groups

-- one that does one thing after the other
pub goes_listed : (t : Tables) (u v w : Worker) → KeepsLists t u v → KeepsLists t v w → KeepsLists t u w
goes_listed t u v w k l =
    keeps_both (lists.groups t.groups) (turned u) (turned v) (turned w) u.groups v.groups w.groups k l
