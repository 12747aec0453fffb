-- The plans of `accept`, `syn` and `ack` beside the list's step.
use Rattle.std.proofs.Common.{◌≡◌, ℕ, ◌+◌, ◌^◌, ◌<◌, List, length, Option, None, Some, refl, sym, subst}
use Rattle.sock_card.specs.declared.owner.Owner.{Owner}
use Rattle.flat_list.specs.declared.command.Command.TheVariants as commands
use Rattle.flat_list.specs.declared.command.End.{End}
use Rattle.flat_list.specs.declared.socket.Socket.{Socket}
use Rattle.flat_list.specs.Connect as flat_connect
use Rattle.flat_list.specs.Flat.{Flat}
use Rattle.flat_list.specs.Outcome.{Outcome}
use Rattle.flat_list.specs.Outcome as outcome
use Rattle.flat_list.specs.Sections.{next_name}
use Rattle.flat_list.specs.Step.{step}
use Rattle.table_model.specs.Asking.{Asking, and_then, ends}
use Rattle.table_model.specs.Tables.{Tables, Ended, run}
use Rattle.table_model.specs.Own as own_words
use Rattle.table_model.specs.Own.{Own, Mine, open_socket, with_label}
use Rattle.table_model.specs.Operations.{plain}
use Rattle.table_model.specs.Operations as op
use Rattle.table_model.specs.Commands.{Replied, accept_reply, ack_reply, plan, accept_command, syn_command, ack_command}
use Rattle.table_model.specs.Means.{Means}
use Rattle.table_model.proofs.parts.OpenSocket.{IsOpen, OpenBoth, open_both, OpenThere, open_there}
use Rattle.table_model.proofs.commands.Accept.{accept_here, accept_here_ends}
use Rattle.table_model.proofs.commands.Ack.{acked, acked_ends}
use Rattle.table_model.proofs.commands.Carried.{Carried}
use Rattle.table_model.proofs.commands.Drop.{stands_so}
use Rattle.table_model.proofs.commands.FirstPlans.{Ends}
use Rattle.table_model.proofs.commands.Labelled.{new_name, given, no_such_socket, under_name}
use Rattle.table_model.proofs.commands.Syn.{syn_here, syn_here_ends}

module _ (n : ℕ) (own : Own) (t : Tables) (flat : Flat) (h : Means n own t flat) where
  abbrev EndsSo : Asking Replied → Type 0
  EndsSo p = (ended : Ended Replied) × (run t p ≡ Some ended)

  -- a plan by the open socket that a label names, beside what the list makes of it
  carried_both : (plan_of : Option Mine → Asking Replied) (out_of : Option Socket → Outcome) → Carried n t (plan_of None) (out_of None)
      → ((m : Mine) (s : Socket) → IsOpen n t flat m s → Carried n t (plan_of (Some m)) (out_of (Some s)))
      → (o : Option Mine) (p : Option Socket) → OpenBoth n t flat o p → Carried n t (plan_of o) (out_of p)
  carried_both plan_of out_of none some None None both = none
  carried_both plan_of out_of none some (Some m) (Some s) both = some m s both
  carried_both plan_of out_of none some None (Some s) both = absurd both
  carried_both plan_of out_of none some (Some m) None both = absurd both

  ends_there : (plan_of : Option Mine → Asking Replied) → EndsSo (plan_of None) → ((m : Mine) (s : Socket) → IsOpen n t flat m s → EndsSo (plan_of (Some m)))
      → (o : Option Mine) → OpenThere n t flat o → EndsSo (plan_of o)
  ends_there plan_of none some None there = none
  ends_there plan_of none some (Some m) there = some m there.0 there.1

  module _ (label : List ℕ) where
    abbrev labelled : Own
    labelled = with_label own label

    abbrev given_so : Flat
    given_so = given n own t flat h label

    abbrev name : ℕ
    name = new_name n own t flat h

    -- the same under the name of the label that the command gives
    carried_by : (plan_of : ℕ → Option Mine → Asking Replied) (out_of : ℕ → Option Socket → Outcome) → Carried n t (plan_of name None) (out_of name None)
        → ((m : Mine) (s : Socket) → IsOpen n t flat m s → Carried n t (plan_of name (Some m)) (out_of name (Some s))) → (named : List ℕ) → length own.labels + 1 < 2 ^ 56
        → Carried n t (plan_of (own_words.next_name own) (open_socket own named)) (out_of (next_name n flat.sections) (outcome.open_socket flat n named))
    carried_by plan_of out_of none some named few =
        under_name n own t flat h (λ k. plan_of k (open_socket own named)) (λ k. out_of k (outcome.open_socket flat n named))
        (carried_both (plan_of name) (out_of name) none some (open_socket own named) (outcome.open_socket flat n named) (open_both n own t flat h.own_is h.sound.names named few))

    ends_by : (plan_of : Option Mine → Asking Replied) → EndsSo (plan_of None) → ((m : Mine) (s : Socket) → IsOpen n t flat m s → EndsSo (plan_of (Some m))) → (named : List ℕ) → EndsSo (plan_of (open_socket own named))
    ends_by plan_of none some named = ends_there plan_of none some (open_socket own named) (open_there n own t flat h.own_is h.sound.names named)

    module _ (from at : End) where
      accept_open : length own.labels + 1 < 2 ^ 56 → (m : Mine) (s : Socket) → IsOpen n t flat m s
          → Carried n t (accept_command flat.header labelled name (Some m) from at) (flat_connect.accept given_so name (Some s) from at)
      accept_open few m s is =
          subst (λ (a : Owner). Carried n t (accept_command flat.header labelled name (Some (plain a)) from at) (flat_connect.accept given_so name (Some s) from at)) (sym is.same)
          (subst (λ (mark : ℕ). Carried n t (and_then (op.accept flat.header.shape flat.header.seed (plain s.owner) name mark from at) (λ did. ends (accept_reply labelled did))) (flat_connect.accept given_so name (Some s) from at)) (sym h.own_is.unmarked)
          (accept_here n own t flat h s is.listed label from at few))

      accept_open_ends : (k : ℕ) (m : Mine) (s : Socket) → IsOpen n t flat m s → EndsSo (accept_command flat.header labelled k (Some m) from at)
      accept_open_ends k m s is =
          subst (λ (a : Owner). EndsSo (accept_command flat.header labelled k (Some (plain a)) from at)) (sym is.same)
          (subst (λ (mark : ℕ). EndsSo (and_then (op.accept flat.header.shape flat.header.seed (plain s.owner) k mark from at) (λ did. ends (accept_reply labelled did)))) (sym h.own_is.unmarked)
          (accept_here_ends n own t flat h s is.listed label from at k))

      syn_open : length own.labels + 1 < 2 ^ 56 → (m : Mine) (s : Socket) → IsOpen n t flat m s
          → Carried n t (syn_command flat.header labelled name (Some m) from at) (flat_connect.syn given_so name (Some s) from at)
      syn_open few m s is =
          subst (λ (a : Owner). Carried n t (syn_command flat.header labelled name (Some (plain a)) from at) (flat_connect.syn given_so name (Some s) from at)) (sym is.same)
          (subst (λ (mark : ℕ). Carried n t (and_then (op.syn flat.header.shape flat.header.seed (plain s.owner) name mark from at) (λ did. ends (accept_reply labelled did))) (flat_connect.syn given_so name (Some s) from at)) (sym h.own_is.unmarked)
          (syn_here n own t flat h s label from at few))

      syn_open_ends : (k : ℕ) (m : Mine) (s : Socket) → IsOpen n t flat m s → EndsSo (syn_command flat.header labelled k (Some m) from at)
      syn_open_ends k m s is =
          subst (λ (a : Owner). EndsSo (syn_command flat.header labelled k (Some (plain a)) from at)) (sym is.same)
          (subst (λ (mark : ℕ). EndsSo (and_then (op.syn flat.header.shape flat.header.seed (plain s.owner) k mark from at) (λ did. ends (accept_reply labelled did)))) (sym h.own_is.unmarked)
          (syn_here_ends n own t flat h s label from at k))

    ack_open : length own.labels + 1 < 2 ^ 56 → (m : Mine) (s : Socket) → IsOpen n t flat m s
        → Carried n t (ack_command flat.header labelled name (Some m)) (flat_connect.ack given_so n name (Some s))
    ack_open few m s is =
        subst (λ (x : Mine). Carried n t (ack_command flat.header labelled name (Some x)) (flat_connect.ack given_so n name (Some s))) (λ i. record m { owner = sym is.same i })
        (subst (λ (mark : ℕ). Carried n t (and_then (op.ack flat.header.shape flat.header.seed (record m { owner = s.owner }) (own_words.open_named labelled s.owner.origin) name mark) (λ did. ends (ack_reply labelled s.owner.name did))) (flat_connect.ack given_so n name (Some s))) (sym h.own_is.unmarked)
        (acked n own t flat h label s m.extra m.place is.listed is.mine (stands_so n t flat m s is) few))

    ack_open_ends : (k : ℕ) (m : Mine) (s : Socket) → IsOpen n t flat m s → EndsSo (ack_command flat.header labelled k (Some m))
    ack_open_ends k m s is =
        subst (λ (x : Mine). EndsSo (ack_command flat.header labelled k (Some x))) (λ i. record m { owner = sym is.same i })
        (subst (λ (mark : ℕ). EndsSo (and_then (op.ack flat.header.shape flat.header.seed (record m { owner = s.owner }) (own_words.open_named labelled s.owner.origin) k mark) (λ did. ends (ack_reply labelled s.owner.name did)))) (sym h.own_is.unmarked)
        (acked_ends n own t flat h label s m.extra m.place is.listed is.mine (stands_so n t flat m s is) k))

  -- `accept` beside the list's
  pub accept_carried : (listener label : List ℕ) (from at : End) → length own.labels + 1 < 2 ^ 56
      → Carried n t (plan flat.header own (commands.Accept listener label from at)) (step flat n (commands.Accept listener label from at))
  unfolding plan step
  accept_carried listener label from at few =
      carried_by label (λ k m. accept_command flat.header (labelled label) k m from at) (λ k s. flat_connect.accept (given_so label) k s from at)
      (no_such_socket n own t flat h label) (accept_open label from at few) listener few

  -- it comes to an end, however many labels there are
  pub accept_ends : (listener label : List ℕ) (from at : End) → Ends t own flat (commands.Accept listener label from at)
  unfolding plan
  accept_ends listener label from at =
      ends_by label (λ m. accept_command flat.header (labelled label) (own_words.next_name own) m from at) (_, refl) (accept_open_ends label from at (own_words.next_name own)) listener

  -- `syn` beside the list's
  pub syn_carried : (listener label : List ℕ) (from at : End) → length own.labels + 1 < 2 ^ 56
      → Carried n t (plan flat.header own (commands.Syn listener label from at)) (step flat n (commands.Syn listener label from at))
  unfolding plan step
  syn_carried listener label from at few =
      carried_by label (λ k m. syn_command flat.header (labelled label) k m from at) (λ k s. flat_connect.syn (given_so label) k s from at)
      (no_such_socket n own t flat h label) (syn_open label from at few) listener few

  -- it comes to an end
  pub syn_ends : (listener label : List ℕ) (from at : End) → Ends t own flat (commands.Syn listener label from at)
  unfolding plan
  syn_ends listener label from at =
      ends_by label (λ m. syn_command flat.header (labelled label) (own_words.next_name own) m from at) (_, refl) (syn_open_ends label from at (own_words.next_name own)) listener

  -- `ack` beside the list's
  pub ack_carried : (request label : List ℕ) → length own.labels + 1 < 2 ^ 56 → Carried n t (plan flat.header own (commands.Ack request label)) (step flat n (commands.Ack request label))
  unfolding plan step
  ack_carried request label few =
      carried_by label (λ k m. ack_command flat.header (labelled label) k m) (λ k s. flat_connect.ack (given_so label) n k s)
      (no_such_socket n own t flat h label) (ack_open label few) request few

  -- it comes to an end
  pub ack_ends : (request label : List ℕ) → Ends t own flat (commands.Ack request label)
  unfolding plan
  ack_ends request label =
      ends_by label (λ m. ack_command flat.header (labelled label) (own_words.next_name own) m) (_, refl) (ack_open_ends label (own_words.next_name own)) request
