-- The plan of `connect` beside the list's step.
use Rattle.std.proofs.Common.{◌≡◌, ℕ, ◌+◌, ◌^◌, ◌<◌, ◌&&◌, List, length, Option, None, Some, refl, sym, subst}
use Rattle.sock_card.specs.declared.owner.Owner.{Owner}
use Rattle.flat_list.specs.declared.command.Command.TheVariants as commands
use Rattle.flat_list.specs.declared.command.End.{End}
use Rattle.flat_list.specs.declared.command.Reply.TheVariants as replies
use Rattle.flat_list.specs.declared.header.First.TheVariants as firsts
use Rattle.flat_list.specs.declared.socket.Socket.{Socket}
use Rattle.flat_list.specs.Connect as flat_connect
use Rattle.flat_list.specs.Flat.{Flat}
use Rattle.flat_list.specs.Outcome.{unchanged}
use Rattle.flat_list.specs.Outcome as outcome
use Rattle.flat_list.specs.Step.{step}
use Rattle.table_model.specs.Asking.{Asking, ends, and_then}
use Rattle.table_model.specs.Tables.{Tables, Ended, run}
use Rattle.table_model.specs.Own.{Own, Mine, ports_of, open_socket}
use Rattle.table_model.specs.Operations.{connect_from, source_to}
use Rattle.table_model.specs.Commands.{Replied, plan, answers, connect_command, connect_reply, connect_rule, after_search, is_unbound, is_some}
use Rattle.table_model.specs.Means.{Means}
use Rattle.table_model.proofs.commands.Connect.{connect_here}
use Rattle.table_model.proofs.parts.OpenSocket.{IsOpen, OpenBoth, open_both, OpenThere, open_there}
use Rattle.table_model.proofs.commands.Carried.{Carried}
use Rattle.table_model.proofs.commands.FirstPlans.{Ends}

module _ (n : ℕ) (own : Own) (t : Tables) (flat : Flat) (h : Means n own t flat) where
  -- a label names no open socket
  pub bad_label : Carried n t (ends (answers own replies.Ebadf)) (unchanged flat replies.Ebadf)
  bad_label = record { ended = record { tables = t; result = answers own replies.Ebadf }; runs = refl; reply = refl; means = λ sound. h }

  module _ (from : Option ℕ) (to : End) where
    abbrev connect_of : Owner → Asking Replied
    connect_of a =
        and_then (connect_from flat.header.shape flat.header.seed a.state a (source_to a from to) to own.moment (connect_rule flat.header) (ports_of own.offsets firsts.Even))
        (λ did. ends (connect_reply (after_search (is_unbound a.state && is_some (source_to a from to)) own) did))

    pub connect_open : (m : Mine) (s : Socket) → IsOpen n t flat m s → Carried n t (connect_of m.owner) (flat_connect.connect_socket flat n s s.owner.state from to)
    connect_open m s it =
        subst (λ (a : Owner). Carried n t (connect_of a) (flat_connect.connect_socket flat n s s.owner.state from to)) (sym it.same)
        (connect_here n own t flat h s it.listed to from)

    connect_both : (m : Option Mine) (s : Option Socket) → OpenBoth n t flat m s → Carried n t (connect_command flat.header own m from to) (flat_connect.connect flat n s from to)
    connect_both None None both = bad_label
    connect_both (Some m) (Some s) both = connect_open m s both
    connect_both None (Some s) both = absurd both
    connect_both (Some m) None both = absurd both

    connect_ends_by : (m : Option Mine) → OpenThere n t flat m → (ended : Ended Replied) × (run t (connect_command flat.header own m from to) ≡ Some ended)
    connect_ends_by None there = let c = bad_label in (c.ended, c.runs)
    connect_ends_by (Some m) there = let c = connect_open m there.0 there.1 in (c.ended, c.runs)

  -- `connect` beside the list's
  pub connect_carried : (label : List ℕ) (from : Option ℕ) (to : End) → length own.labels + 1 < 2 ^ 56
      → Carried n t (plan flat.header own (commands.Connect label from to)) (step flat n (commands.Connect label from to))
  unfolding plan step
  connect_carried label from to few = connect_both from to (open_socket own label) (outcome.open_socket flat n label) (open_both n own t flat h.own_is h.sound.names label few)

  -- it comes to an end, however many labels there are
  pub connect_ends : (label : List ℕ) (from : Option ℕ) (to : End) → Ends t own flat (commands.Connect label from to)
  unfolding plan
  connect_ends label from to = connect_ends_by from to (open_socket own label) (open_there n own t flat h.own_is h.sound.names label)
