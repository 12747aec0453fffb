-- While a request's listener is open, `ack` isn't refused for that.
use Rattle.std.proofs.Common.{◌≡◌, ℕ, ◌==◌, ◌/◌, ◌^◌, Bool, true, false, not, ◌&&◌, Some, refl, ap}
use Rattle.std.proofs.lemmas.Bool.{both_ways, cond_both, and_parts, eqb-true}
use Rattle.list_words.proofs.EachLemmas.{each_found, found_passes}
use Rattle.sock_card.specs.declared.owner.State.TheVariants as states
use Rattle.flat_list.specs.declared.command.Command.TheVariants as commands
use Rattle.flat_list.specs.declared.command.Reply.{Reply}
use Rattle.flat_list.specs.declared.command.Reply.TheVariants as replies
use Rattle.flat_list.specs.declared.socket.Socket.{Socket}
use Rattle.flat_list.specs.Connect.{ack_by, ack_socket, hand_over, heir_of, without_request}
use Rattle.flat_list.specs.Flat.{Flat}
use Rattle.flat_list.specs.Outcome.{Outcome, added, no_slot, has_slot, with_new_label}
use Rattle.flat_list.specs.Owned.{is_no_ack}
use Rattle.flat_list.specs.Sections.{next_name}
use Rattle.flat_list.specs.Sockets.{has_name, is_open_in, open_in}
use Rattle.flat_list.specs.Sound.{IsSound, CanTake, HasListener, AcksWhileOpen}
use Rattle.flat_list.specs.Step.{step}
use Rattle.flat_list.proofs.Soundness.{IsOpen, is_open}

is_einval : Reply → Bool
is_einval replies.Einval = true
is_einval _ = false

abbrev IsFine : Outcome → Type 0
IsFine o = is_einval o.reply ≡ false

-- a child is refused its request's place for want of a slot alone
hand_over_fine : (flat : Flat) (r child : Socket) → IsFine (hand_over flat r child)
unfolding is_einval
hand_over_fine flat r child =
    cond_both (not (has_slot flat)) (no_slot flat) (added (without_request flat r) child replies.Ok) IsFine (λ _. refl) (λ _. refl)

-- the open listener can accept
listener_takes : (flat : Flat) (n : ℕ) (r l : Socket) → IsSound flat → IsOpen flat r → r.owner.state ≡ states.Request → open_in n r.owner.origin flat.sockets ≡ Some l → is_no_ack l.owner r.owner ≡ false
listener_takes flat n r l sound at is found =
    let test : Socket → Bool = λ x. has_name r.owner.origin x && is_open_in n x in
    let listener : HasListener flat.sections flat.sockets r = each_found (HasListener flat.sections flat.sockets) (λ x. has_name at.0 x && x.named) flat.sockets r sound.requests at.1 in
    let passes = and_parts (has_name r.owner.origin l) (is_open_in n l) (found_passes test flat.sockets l found) in
    let is_its = and_parts l.named (l.owner.name / 2 ^ 56 == n) passes.1 in
    each_found (CanTake r) test flat.sockets l (listener is).1 found is_its.0 (eqb-true l.owner.name r.owner.origin passes.0)

pub acks_while_open : AcksWhileOpen
unfolding step is_einval
acks_while_open flat n request label r l sound at is found refused =
    let labelled : Flat = with_new_label flat n label in
    let name : ℕ = next_name n flat.sections in
    let takes : is_no_ack l.owner r.owner ≡ false = listener_takes flat n r l sound (is_open flat n request r at) is found in
    let fine : IsFine (ack_by labelled name r (Some l)) = rw takes (hand_over_fine labelled r (heir_of l name r)) in
    let in_state : IsFine (ack_socket labelled n name r states.Request) = rw found fine in
    let fine_at : IsFine (ack_socket labelled n name r r.owner.state) = rw is in_state in
    let done : is_einval (step flat n (commands.Ack request label)).reply ≡ false = rw at fine_at in
    both_ways (is_einval (step flat n (commands.Ack request label)).reply) done (ap is_einval refused)
