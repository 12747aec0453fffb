-- What a lookup meets as done that begins after a caller told its clock. Our own.
use Rattle.std.specs.Prelude.{◌≡◌, ℕ, ◌≤◌, List, Some}
use mathlib.Core.Option.{some}
use lib.ListN.{get_elem?}
use Rattle.sock_card.specs.declared.card.Packet.{Packet}
use Rattle.chain_book.specs.declared.book.PacketLook.{PacketLook}
use Rattle.table_rule.specs.Book.{Part, Ends}
use Rattle.table_rule.specs.Explained.{Throughout}
use Rattle.table_rule.specs.Passes.{changed_by}
use Rattle.table_rule.specs.declared.view.Change.{Change}
use Rattle.shared_calls.specs.Callings.{Calling, HadEnded}
use Rattle.shared_calls.specs.Lookings.{Looking, LooksAfter}

-- What a caller had hashed when all its changes had ended below a number of the clock stood throughout a lookup that
-- began at that number or later, unless an unhash of it began before the lookup ended: among the changes of any passes.
abbrev pub MeetsAsDone : Type 0
MeetsAsDone =
    (c : Calling) (clock n : ℕ) (hash : Change) (views : List Part) (old new : Looking) (packet : Packet) (passes : ℕ)
    (look : PacketLook) → HadEnded c clock → LooksAfter old new packet passes clock (Some look)
    → get_elem? (changed_by c.worker.chain.pass) n ≡ some hash
    → ((u : Change) → Ends views u hash → look.t1 ≤ u.begins) → Throughout views hash look.t0 look.t1
