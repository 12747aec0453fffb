-- What each command of a section asks of the tables: an operation's plan, and what its result makes of the section's
-- own and replies. Sources: errno(3), and those of the operations.
--
-- To be read from the end: `plan` has a line for each command, and most call what has the command's name, such as
-- `bind_command`. What an operation's result makes of the section's own and replies, such as `bind_reply`, stands
-- above that.
use Rattle.std.specs.Prelude.{ℕ, Bool, true, false, ◌==◌, ◌&&◌, not, nat_lt, List, Option, None, Some, if◌then◌else◌}
use Rattle.sock_card.specs.declared.owner.Owner.{Owner}
use Rattle.sock_card.specs.declared.owner.State.{State}
use Rattle.sock_card.specs.declared.owner.State.TheVariants as states
use Rattle.chain_book.specs.declared.outcome.Replace.{Replace}
use Rattle.chain_book.specs.declared.outcome.Replace.TheVariants as rules
use Rattle.flat_list.specs.declared.header.Header.{Header}
use Rattle.flat_list.specs.declared.header.First.TheVariants as firsts
use Rattle.flat_list.specs.declared.command.Command.{Command}
use Rattle.flat_list.specs.declared.command.Command.TheVariants as commands
use Rattle.flat_list.specs.declared.command.End.{End}
use Rattle.flat_list.specs.declared.command.Reply.{Reply}
use Rattle.flat_list.specs.declared.command.Reply.TheVariants as replies
use Rattle.flat_list.specs.declared.owned.Options.{Options}
use Rattle.flat_list.specs.Owned.{new_owner}
use Rattle.table_model.specs.declared.operation.OpEnd.{OpEnd}
use Rattle.table_model.specs.declared.operation.OpEnd.TheVariants as errors
use Rattle.table_model.specs.Asking.{Asking, ends, impossible, and_then}
use Rattle.table_model.specs.Own.{Own, Mine, open_socket, open_named, next_name, with_label, with_socket, with_new, without, with_wait, with_offsets, past_offset, ports_of}
use Rattle.table_model.specs.Operations.{Did, done, refused, Closed, gone, waiting, no_slot, plain, bind, listen, connect, accept, syn, ack, close, drop, reap, kept_waits, source_to}

-- what a command leaves of the section's own, and its reply
pub record Replied : Type 0 where
  pub own : Own
  pub reply : Reply

abbrev pub answers : Own → Reply → Replied
answers own reply = record { own = own; reply = reply }

abbrev pub replies_at_once : Own → Reply → Asking Replied
replies_at_once own reply = ends (answers own reply)

-- how the refusal of `bind` or `listen` is called
abbrev pub bind_error : OpEnd → Reply
bind_error (errors.InUse name) = replies.Eaddrinuse
bind_error errors.NoPort = replies.Eaddrinuse
bind_error errors.GroupFull = replies.Emfile
bind_error errors.GroupsFull = replies.Emfile
bind_error (errors.Full owned held) = replies.Enfile owned held
bind_error _ = replies.Einval

-- how that of `connect`, `accept`, `syn` or `ack` is
abbrev pub connect_error : OpEnd → Reply
connect_error (errors.Taken name) = replies.Eaddrnotavail
connect_error errors.NoPort = replies.Eaddrnotavail
connect_error errors.IsConn = replies.Eisconn
connect_error (errors.Full owned held) = replies.Enfile owned held
connect_error _ = replies.Einval

abbrev pub bind_reply : Own → Did → Replied
bind_reply own (done m) = answers (with_socket own m) (replies.Port m.owner.port)
bind_reply own (refused end) = answers own (bind_error end)

abbrev pub connect_reply : Own → Did → Replied
connect_reply own (done m) =
    answers (with_socket own m) (replies.End (record { addr = m.owner.addr; port = m.owner.port }))
connect_reply own (refused end) = answers own (connect_error end)

abbrev pub accept_reply : Own → Did → Replied
accept_reply own (done m) = answers (with_new own m) replies.Ok
accept_reply own (refused end) = answers own (connect_error end)

-- the child is there, and the request of that name gone
abbrev pub ack_reply : Own → ℕ → Did → Replied
ack_reply own name (done m) = answers (with_new (without own name) m) replies.Ok
ack_reply own name (refused end) = answers own (connect_error end)

abbrev pub close_reply : Own → ℕ → Closed → Replied
close_reply own name gone = answers (without own name) replies.Ok
close_reply own name (waiting w) = answers (with_wait (without own name) w) replies.TimeWait
close_reply own name (no_slot owned held) = answers (without own name) (replies.NoSlot owned held)

abbrev pub is_unbound : State → Bool
is_unbound states.Unbound = true
is_unbound _ = false

abbrev pub is_some : Option ℕ → Bool
is_some None = false
is_some (Some x) = true

-- the section after a search began, where one did
abbrev pub after_search : Bool → Own → Own
after_search began own = if began then with_offsets own (past_offset own.offsets) else own

-- `connect` may replace a TIME_WAIT by that rule
abbrev pub connect_rule : Header → Replace
connect_rule header = if header.twreuse then rules.After else rules.Never

-- `bind` of a socket to that end searches for a port
abbrev pub searches_port : Owner → End → Bool
searches_port a end = is_unbound a.state && (end.port == 0) && not a.noport

abbrev pub bind_command : Own → Option Mine → End → Asking Replied
bind_command own None end = replies_at_once own replies.Ebadf
bind_command own (Some m) end =
    let began = searches_port m.owner end in
    and_then (bind m end (ports_of own.offsets firsts.Odd)) (λ did. ends (bind_reply (after_search began own) did))

abbrev pub drop_command : Own → Option Mine → Asking Replied
drop_command own None = replies_at_once own replies.Ebadf
drop_command own (Some m) =
    drop m (answers (without own m.owner.name) replies.Ok)

abbrev pub at_command : Own → ℕ → Asking Replied
at_command own moment =
    if nat_lt moment own.moment then replies_at_once own replies.Einval
    else replies_at_once (record own { moment = moment }) replies.Ok

abbrev pub reap_command : Own → Asking Replied
reap_command own =
    and_then (reap own.waits own.moment)
    (λ count. ends (answers (record own { waits = kept_waits own.waits own.moment }) (replies.Count count)))

abbrev pub socket_command : Own → List ℕ → Options → Asking Replied
socket_command own label options =
    replies_at_once (with_new (with_label own label) (plain (new_owner (next_name own) own.mark options))) replies.Ok

module _ (header : Header) where
  abbrev pub listen_command : Own → Option Mine → Asking Replied
  listen_command own None = replies_at_once own replies.Ebadf
  listen_command own (Some m) =
      let began = is_unbound m.owner.state in
      and_then (listen header.shape header.seed m (ports_of own.offsets firsts.Odd))
      (λ did. ends (bind_reply (after_search began own) did))

  abbrev pub connect_command : Own → Option Mine → Option ℕ → End → Asking Replied
  connect_command own None from to = replies_at_once own replies.Ebadf
  connect_command own (Some m) from to =
      let began = is_unbound m.owner.state && is_some (source_to m.owner from to) in
      and_then
      (connect header.shape header.seed m from to own.moment (connect_rule header) (ports_of own.offsets firsts.Even))
      (λ did. ends (connect_reply (after_search began own) did))

  -- once the child's label is given
  abbrev pub accept_command : Own → ℕ → Option Mine → End → End → Asking Replied
  accept_command own name None from at = replies_at_once own replies.Ebadf
  accept_command own name (Some l) from at =
      and_then (accept header.shape header.seed l name own.mark from at) (λ did. ends (accept_reply own did))

  -- once the request's label is given
  abbrev pub syn_command : Own → ℕ → Option Mine → End → End → Asking Replied
  syn_command own name None from at = replies_at_once own replies.Ebadf
  syn_command own name (Some l) from at =
      and_then (syn header.shape header.seed l name own.mark from at) (λ did. ends (accept_reply own did))

  -- once the child's label is given
  abbrev pub ack_command : Own → ℕ → Option Mine → Asking Replied
  ack_command own name None = replies_at_once own replies.Ebadf
  ack_command own name (Some r) =
      and_then (ack header.shape header.seed r (open_named own r.owner.origin) name own.mark)
      (λ did. ends (ack_reply own r.owner.name did))

  abbrev pub close_command : Own → Option Mine → Asking Replied
  close_command own None = replies_at_once own replies.Ebadf
  close_command own (Some m) =
      and_then (close header.shape header.seed m own.moment) (λ closed. ends (close_reply own m.owner.name closed))

  -- all commands but `look` and `packets`
  unfoldable pub plan : Own → Command → Asking Replied
  plan own (commands.Socket label options) = socket_command own label options
  plan own (commands.Bind label end) = bind_command own (open_socket own label) end
  plan own (commands.Listen label) = listen_command own (open_socket own label)
  plan own (commands.Connect label from to) = connect_command own (open_socket own label) from to
  plan own (commands.Accept listener label from at) =
      accept_command (with_label own label) (next_name own) (open_socket own listener) from at
  plan own (commands.Syn listener label from at) =
      syn_command (with_label own label) (next_name own) (open_socket own listener) from at
  plan own (commands.Ack request label) =
      ack_command (with_label own label) (next_name own) (open_socket own request)
  plan own (commands.Close label) = close_command own (open_socket own label)
  plan own (commands.Drop label) = drop_command own (open_socket own label)
  plan own (commands.At moment) = at_command own moment
  plan own commands.Reap = reap_command own
  plan own (commands.Look query) = impossible
  plan own (commands.Packets count) = impossible
  plan own commands.Dump = replies_at_once own replies.Ok
