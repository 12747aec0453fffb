-- The commands of calls: those of scripts, on sockets named by numbers. Our own.
--
-- To be read by a command's name: each stands by itself.
use Rattle.std.specs.Prelude.{ℕ, Option}
use Rattle.flat_list.specs.declared.command.Command.{Command}
use Rattle.flat_list.specs.declared.command.Command.TheVariants as commands
use Rattle.flat_list.specs.declared.command.End.{End}
use Rattle.flat_list.specs.declared.owned.Options.{Options}
use Rattle.flat_calls.specs.Numbers.{label_of}

abbrev pub socket : ℕ → Options → Command
socket number options = commands.Socket (label_of number) options

abbrev pub bind : ℕ → End → Command
bind s end = commands.Bind (label_of s) end

abbrev pub listen : ℕ → Command
listen s = commands.Listen (label_of s)

abbrev pub connect : ℕ → Option ℕ → End → Command
connect s from to = commands.Connect (label_of s) from to

abbrev pub accept : ℕ → ℕ → End → End → Command
accept listener number from at = commands.Accept (label_of listener) (label_of number) from at

abbrev pub syn : ℕ → ℕ → End → End → Command
syn listener number from at = commands.Syn (label_of listener) (label_of number) from at

abbrev pub ack : ℕ → ℕ → Command
ack request number = commands.Ack (label_of request) (label_of number)

abbrev pub close : ℕ → Command
close s = commands.Close (label_of s)

abbrev pub drop_socket : ℕ → Command
drop_socket s = commands.Drop (label_of s)

abbrev pub at : ℕ → Command
at moment = commands.At moment

abbrev pub reap : Command
reap = commands.Reap
