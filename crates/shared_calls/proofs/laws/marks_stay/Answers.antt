use Rattle.std.proofs.Common.{refl}
use Rattle.shared_calls.proofs.laws.marks_stay.Goals as goal

pub returns-clause-given : goal.returns-clause-given
returns-clause-given c =
    record { socket = λ name mark options. refl; accept = λ l name mark from at. refl; syn = λ l name mark from at. refl; ack = λ l r name mark. refl }

pub returns-clause-stay : goal.returns-clause-stay
returns-clause-stay c = record {
  addressed_so = λ a addr. refl;
  bound_so = λ a addr port. refl;
  listens = λ a. refl;
  connected_so = λ a source to. refl;
  chosen = λ a source port to. refl;
  waits = λ a. refl;
}

pub returns-clause-cards : goal.returns-clause-cards
returns-clause-cards c kind m = refl
