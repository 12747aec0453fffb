use Rattle.std.proofs.Common.{subst}
use Rattle.nulls_chain.specs.Changes.{OthersStay}
use Rattle.nulls_chain.specs.declared.keeping.Place.{Place as Stood}
use Rattle.table_rule.specs.Passes.{known}
use Rattle.sock_ops.proofs.handshaking.hand_over.Goals as goal

pub returns-in-Ok-clause-stay : goal.returns-in-Ok-clause-stay
returns-in-Ok-clause-stay g c =
    subst (λ (p : Stood). OthersStay p.slot (known c.args.pass.now.pass) (known c.hand_over.new.pass.pass)) c.request_place.ensures c.hand_over.ensures.stay
