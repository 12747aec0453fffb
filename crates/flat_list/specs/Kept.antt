-- A command from how a script keeps it: a format of our own.
use Rattle.std.specs.Prelude.{None, Some}
use Rattle.flat_list.specs.declared.command.Command.{Command}
use Rattle.flat_list.specs.declared.command.Command.TheVariants as commands
use Rattle.flat_list.specs.declared.kept.Form.{Form}
use Rattle.flat_list.specs.declared.kept.Form.TheVariants as forms

-- the command that is kept so
abbrev pub kept_command : Form → Command
kept_command (forms.Socket label net dev reuseaddr reuseport noport) =
    commands.Socket label (record
    { net = net; uid = None; dev = dev; reuseaddr = reuseaddr; reuseport = reuseport; noport = noport })
kept_command (forms.UserSocket label net dev reuseaddr reuseport noport uid) =
    commands.Socket label (record
    { net = net; uid = Some uid; dev = dev; reuseaddr = reuseaddr; reuseport = reuseport; noport = noport })
kept_command (forms.Bind label port addr) = commands.Bind label (record { addr = addr; port = port })
kept_command (forms.Listen label) = commands.Listen label
kept_command (forms.Connect label port addr from) = commands.Connect label from (record { addr = addr; port = port })
kept_command (forms.Accept listener label from_port at_port from_addr at_addr) =
    commands.Accept listener label (record { addr = from_addr; port = from_port })
    (record { addr = at_addr; port = at_port })
kept_command (forms.LongAccept from_port at_port from_addr at_addr labels) =
    commands.Accept labels.value.of labels.value.given (record { addr = from_addr; port = from_port })
    (record { addr = at_addr; port = at_port })
kept_command (forms.Syn listener label from_port at_port from_addr at_addr) =
    commands.Syn listener label (record { addr = from_addr; port = from_port })
    (record { addr = at_addr; port = at_port })
kept_command (forms.LongSyn from_port at_port from_addr at_addr labels) =
    commands.Syn labels.value.of labels.value.given (record { addr = from_addr; port = from_port })
    (record { addr = at_addr; port = at_port })
kept_command (forms.Ack request label) = commands.Ack request label
kept_command (forms.LongAck labels) = commands.Ack labels.value.of labels.value.given
kept_command (forms.Close label) = commands.Close label
kept_command (forms.Drop label) = commands.Drop label
kept_command (forms.At moment) = commands.At moment
kept_command forms.Reap = commands.Reap
kept_command (forms.Look query) = commands.Look query
kept_command (forms.Packets count) = commands.Packets count
kept_command forms.Dump = commands.Dump
