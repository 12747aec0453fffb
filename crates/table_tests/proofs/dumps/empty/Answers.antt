use Rattle.std.proofs.Common.{refl, subst, sym}
use Rattle.turn_table.specs.Views.{first}
use Rattle.bind_buckets.specs.declared.request.Sharing.TheVariants as sharings
use Rattle.bind_buckets.specs.Turned.{View}
use Rattle.sock_ops.specs.Stands.{IsAway}
use Rattle.sock_ops.proofs.Knows.{new_away}
use Rattle.table_tests.proofs.dumps.empty.Goals as goal

pub returns-clause-away : goal.returns-clause-away
returns-clause-away c = λ name.
    let v : View = first sharings.Alone in
    subst (IsAway name) (sym c.in_ok-tables.ensures.turns.2) (new_away name v (λ other. absurd (other refl)) (λ place. tt))
