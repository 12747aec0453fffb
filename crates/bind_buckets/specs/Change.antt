-- What becomes of an owner in its place, as the code states it: our own rule.
use Rattle.std.specs.Prelude.{◌≡◌, true, ◌==◌, ◌||◌, Option, IfSome}
use Rattle.sock_card.specs.declared.owner.Owner.{Owner}
use Rattle.sock_card.specs.Became.{as_listener, as_waiting, connected}
use Rattle.bind_buckets.specs.declared.change.Change.{Change}
use Rattle.bind_buckets.specs.declared.change.Change.TheVariants as changes

abbrev pub becomes : Change → Owner → Owner
becomes (changes.Connects local remote rport) = connected local remote rport
becomes changes.Listens = as_listener
becomes changes.Waits = as_waiting

-- the owner, if there is one, is found where it was: one that connects was at any address or at its own
abbrev pub CanBecome : Change → Option Owner → Type 0
CanBecome (changes.Connects local remote rport) there =
    IfSome there (λ (a : Owner). ((a.addr == 0) || (a.addr == local)) ≡ true)
CanBecome _ _ = Unit {0}
