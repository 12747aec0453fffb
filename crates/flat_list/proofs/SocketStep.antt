-- What `socket` leaves, from what each of its two lists gained.
use Rattle.std.proofs.Common.{◌≡◌, ℕ, List, [], ◌∷◌, ◌++◌, refl}
use Rattle.flat_list.specs.Flat.{Flat}
use Rattle.flat_list.specs.Sections.{Section, GivesLabel}
use Rattle.flat_list.specs.declared.owned.Options.{Options}
use Rattle.flat_list.specs.declared.socket.Socket.{Socket}
use Rattle.flat_list.specs.declared.command.Reply.TheVariants as replies
use Rattle.flat_list.specs.Step.{socket, new_socket}

pub socket_is : (flat : Flat) (n : ℕ) (label : List ℕ) (options : Options) (sockets : List Socket) (sections : List Section) (name : ℕ) → GivesLabel flat.header n label flat.sections sections name → sockets ≡ flat.sockets ++ new_socket name options ∷ [] → socket flat n label options ≡ record { flat = record flat { sockets = sockets; sections = sections }; reply = replies.Ok }
socket_is flat n label options sockets sections name given pushed =
    rw (pushed, given.named, given.given) refl
