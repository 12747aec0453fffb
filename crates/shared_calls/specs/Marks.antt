-- Whose mark a lookup answers: our own.
use Rattle.std.specs.Prelude.{◌≡◌, ℕ}
use Rattle.sock_card.specs.Became.{as_listener, as_waiting}
use Rattle.sock_card.specs.declared.owner.Owner.{Owner}
use Rattle.sock_card.specs.declared.card.Kind.{Kind}
use Rattle.flat_list.specs.declared.command.End.{End}
use Rattle.flat_list.specs.declared.owned.Options.{Options}
use Rattle.flat_list.specs.Owned.{new_owner, addressed, bound_at, connected_to, connected_at, child_owner, request_owner, heir_owner}
use Rattle.table_model.specs.Own.{Mine, card_of}

-- a socket has the mark that was given with it, whichever call made it
pub record MarksAreGiven : Type 0 where
  pub socket : (name mark : ℕ) (options : Options) → (new_owner name mark options).mark ≡ mark
  pub accept : (l : Owner) (name mark : ℕ) (from at : End) → (child_owner l name mark from at).mark ≡ mark
  pub syn : (l : Owner) (name mark : ℕ) (from at : End) → (request_owner l name mark from at).mark ≡ mark
  pub ack : (l r : Owner) (name mark : ℕ) → (heir_owner l name mark r).mark ≡ mark

-- it keeps that whatever becomes of it
pub record MarksStay : Type 0 where
  pub addressed_so : (a : Owner) (addr : ℕ) → (addressed a addr).mark ≡ a.mark
  pub bound_so : (a : Owner) (addr port : ℕ) → (bound_at a addr port).mark ≡ a.mark
  pub listens : (a : Owner) → (as_listener a).mark ≡ a.mark
  pub connected_so : (a : Owner) (source : ℕ) (to : End) → (connected_to a source to).mark ≡ a.mark
  pub chosen : (a : Owner) (source port : ℕ) (to : End) → (connected_at a source port to).mark ≡ a.mark
  pub waits : (a : Owner) → (as_waiting a).mark ≡ a.mark

-- and so has each card under which it is hashed
abbrev pub CardsHaveMarks : Type 0
CardsHaveMarks = (kind : Kind) (m : Mine) → (card_of kind m).mark ≡ m.owner.mark
