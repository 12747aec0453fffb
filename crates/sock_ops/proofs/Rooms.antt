-- What room a pass has for changes.
use Rattle.std.proofs.Common.{◌≡◌, length, ap, arith}
use Rattle.table_rule.specs.Changes.{capacity_of}
use Rattle.table_rule.specs.Passes.{known}
use Rattle.sock_ops.specs.Sides.{TakesRoom}
use Rattle.sock_ops.specs.declared.chains.table.ChainPass.{ChainPass}

-- where nothing more is closed, all room is left
pub no_room_taken : (p q : ChainPass) → capacity_of q.pass.changes ≡ capacity_of p.pass.changes → (known q.pass).book.closed ≡ (known p.pass).book.closed → TakesRoom 0 p q
no_room_taken p q room same more has = omega (arith, has, room, p.pass.told.1, q.pass.told.1, ap length same)
