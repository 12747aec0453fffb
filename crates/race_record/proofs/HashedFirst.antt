-- No plan of `ack` begins with an unhash: the request goes once its child is hashed.
use Rattle.std.proofs.Common.{ℕ, Bool, true, false, List, ◌∷◌, Option, None, Some, if◌then◌else◌}
use Rattle.sock_card.specs.declared.owner.State.{State}
use Rattle.sock_card.specs.declared.owner.State.TheVariants as states
use Rattle.chain_book.specs.declared.book.Change.{Change}
use Rattle.flat_list.specs.declared.header.Header.{Header}
use Rattle.flat_list.specs.declared.command.Command.TheVariants as commands
use Rattle.flat_list.specs.Owned.{heir_owner, is_no_ack}
use Rattle.table_model.specs.declared.operation.OpEnd.TheVariants as errors
use Rattle.table_model.specs.Asking.{Asking, ends, and_then}
use Rattle.table_model.specs.Commands as command
use Rattle.table_model.specs.Commands.{Replied, plan}
use Rattle.table_model.specs.Operations as op
use Rattle.table_model.specs.Operations.{Did, refused}
use Rattle.table_model.specs.Own.{Mine, Own, next_name, open_named, open_socket, with_label}
use Rattle.race_record.specs.Deeds.{Deed, left}
use Rattle.race_record.specs.Goes.{Goes}

-- no deeds of the plan begin with an unhash
abbrev HashesFirst : Asking Replied → Type 0
HashesFirst p = (u : Change) (deeds : List Deed) (result : Replied) → Goes p (left u ∷ deeds) result → ⊥

module _ (header : Header) (reply : Did → Replied) where
  abbrev Replies : Asking Did → Type 0
  Replies p = HashesFirst (and_then p (λ did. ends (reply did)))

  unless : (r l : Mine) (name mark : ℕ) (b : Bool) → Replies (if b then ends (refused errors.Inval) else op.ack_as header.shape header.seed r l.owner (heir_owner l.owner name mark r.owner))
  unless r l name mark true u deeds result g = g
  unless r l name mark false u deeds result g = g

  by_listener : (r : Mine) (l : Option Mine) (name mark : ℕ) → Replies (op.ack_by header.shape header.seed r l name mark)
  by_listener r None name mark u deeds result g = g
  by_listener r (Some l) name mark u deeds result g = unless r l name mark (is_no_ack l.owner r.owner) u deeds result g

  of_state : (s : State) (r : Mine) (l : Option Mine) (name mark : ℕ) → Replies (op.ack_from header.shape header.seed s r l name mark)
  of_state states.Request r l name mark u deeds result g = by_listener r l name mark u deeds result g
  of_state states.Unbound r l name mark u deeds result g = g
  of_state states.Bound r l name mark u deeds result g = g
  of_state states.Listening r l name mark u deeds result g = g
  of_state states.Full r l name mark u deeds result g = g
  of_state states.TimeWait r l name mark u deeds result g = g

module _ (header : Header) where
  of_socket : (own : Own) (name : ℕ) (r : Option Mine) → HashesFirst (command.ack_command header own name r)
  of_socket own name None u deeds result g = g
  of_socket own name (Some r) u deeds result g =
      of_state header (command.ack_reply own r.owner.name) r.owner.state r (open_named own r.owner.origin) name own.mark u deeds result g

  pub ack_hashes_first : (own : Own) (request label : List ℕ) → HashesFirst (plan header own (commands.Ack request label))
  unfolding plan
  ack_hashes_first own request label u deeds result g =
      of_socket (with_label own label) (next_name own) (open_socket own request) u deeds result g
