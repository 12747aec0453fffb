use Rattle.std.proofs.Common.{sym, ap}
use Rattle.sock_card.specs.declared.owner.State.{State}
use Rattle.table_model.specs.Operations.{drop_as, no_slot}
use Rattle.shared_calls.proofs.laws.drops_where_full.Goals as goal

pub returns : goal.returns
returns c shape seed m w owned held connected = sym (ap (λ (s : State). drop_as s m (no_slot owned held)) connected)
