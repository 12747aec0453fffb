-- Worked examples, our own: texts whose scripts are computed by the definitions, two of them with what is written for
-- them.
--
-- What is claimed is `IsUnsaid`, `IsWritten`, `IsDumped`, `IsEachForm` and `GoesRound`; the texts and the scripts of
-- which these speak stand above them.
use Rattle.std.specs.Prelude.{◌≡◌, ℕ, List, [], ◌∷◌, ◌++◌, Some, None, codes, true, false, replicate}
use Rattle.chain_book.specs.declared.shape.Shape.{Shape}
use Rattle.flat_list.specs.declared.header.Reserved.{Reserved}
use Rattle.flat_list.specs.declared.command.Command.{Command}
use Rattle.flat_list.specs.declared.command.Command.TheVariants as commands
use Rattle.flat_list.specs.declared.owned.Options.{Options}
use Rattle.flat_list.specs.Script.{Script}
use Rattle.sock_script.specs.declared.parse.Mode.TheVariants as modes
use Rattle.sock_script.specs.Grammar.{IsScript}
use Rattle.sock_script.specs.Make.{remote_port}
use Rattle.sock_script.specs.Output.{FlatOut}

-- what holds where no line says anything: 1024 slots, 16 bind buckets, 256 chains of connected sockets and 32 of
-- listeners; the ports from 32768 to 60999, of which none is reserved; seed 0, no offset, and the switch off
abbrev pub unsaid : Script
unsaid =
    record {
      header = record {
        shape = record { slots = 1024; bind = 16; hash = 256; listen = 32 };
        range = record { low = 32768; high = 60999; reserved = record { ports = replicate 64 0; count = 0 } };
        seed = 0;
        offset = None;
        twreuse = false;
      };
      sections = [];
      capture = None;
    }

-- a text without a line's words is that script
abbrev pub IsUnsaid : Type 0
IsUnsaid = IsScript modes.Run [] unsaid

-- two sockets that want one port, and what is written for them
abbrev pub two_sockets : List ℕ
two_sockets = codes "script 1\nsocket a\nsocket b\nbind a 0.0.0.0:80\nbind b 10.0.0.1:80\n"

abbrev pub two_replies : List ℕ
two_replies = codes "1 socket a ok\n1 socket b ok\n1 bind a ok 80\n1 bind b EADDRINUSE\n"

abbrev pub IsWritten : Type 0
IsWritten = FlatOut two_sockets two_replies

-- one listener, and what is written where it is listed
abbrev pub one_dumped : List ℕ
one_dumped = codes "script 1\nsocket a\nbind a 10.0.0.1:80\nlisten a\ndump\n"

abbrev pub one_listed : List ℕ
one_listed =
    codes "1 socket a ok\n1 bind a ok 80\n1 listen a ok 80\n1 dump 1\n1 item listen 1.a 10.0.0.1:80 0.0.0.0:0 dev 0\n"

abbrev pub IsDumped : Type 0
IsDumped = FlatOut one_dumped one_listed

-- each header line, each command and a capture behind them, with the last numbers of their ranges
abbrev pub every_form : List ℕ
every_form =
    codes "table slots 65536 bind 256 hash 65536 listen 4096\n"
    ++ codes "range 2 65535\n"
    ++ codes "reserved 1 65535\n"
    ++ codes "seed 4294967295\n"
    ++ codes "offset 65535\n"
    ++ codes "twreuse 1\n"
    ++ codes "# a comment\n"
    ++ codes "script 1\n"
    ++ codes "socket abcdefghijklm-_9 net 15 uid 4294967295 dev 65535 reuseaddr reuseport noport\n"
    ++ codes "socket Z\n"
    ++ codes "bind Z 255.255.255.255:65535\n"
    ++ codes "listen Z\n"
    ++ codes "connect Z from 10.0.0.1 to 10.0.0.2:0\n"
    ++ codes "accept Z y from 0.0.0.0:1 at 10.0.0.1:80\n"
    ++ codes "syn Z x from 255.255.255.255:65535 at 10.0.0.1:80\n"
    ++ codes "ack x w\n"
    ++ codes "close y\n"
    ++ codes "drop Z\n"
    ++ codes "script 2\n"
    ++ codes "socket Z\n"
    ++ codes "at 4294967295\n"
    ++ codes "reap\n"
    ++ codes "look 10.0.0.2:5 10.0.0.1:80 dev 1 net 0\n"
    ++ codes "packets 1000000\n"
    ++ codes "dump\n"
    ++ codes "capture dev 65535 net 15\n"
    ++ codes "no line\n"

abbrev pub largest : Shape
largest = record { slots = 65536; bind = 256; hash = 65536; listen = 4096 }

abbrev pub two_reserved : Reserved
two_reserved = record { ports = 1 ∷ 65535 ∷ replicate 62 0; count = 2 }

abbrev pub no_options : Options
no_options = record { net = None; uid = None; dev = None; reuseaddr = false; reuseport = false; noport = false }

abbrev pub all_options : Options
all_options =
    record {
      net = Some 15;
      uid = Some 4294967295;
      dev = Some 65535;
      reuseaddr = true;
      reuseport = true;
      noport = true;
    }

abbrev pub first_section : List Command
first_section =
    commands.Socket (codes "abcdefghijklm-_9") all_options
    ∷ commands.Socket (codes "Z") no_options
    ∷ commands.Bind (codes "Z") (record { addr = 4294967295; port = 65535 })
    ∷ commands.Listen (codes "Z")
    ∷ commands.Connect (codes "Z") (Some 0x0A000001) (record { addr = 0x0A000002; port = 0 })
    ∷ commands.Accept (codes "Z") (codes "y") (record { addr = 0; port = 1 }) (record { addr = 0x0A000001; port = 80 })
    ∷ commands.Syn (codes "Z") (codes "x") (record { addr = 4294967295; port = 65535 })
    (record { addr = 0x0A000001; port = 80 })
    ∷ commands.Ack (codes "x") (codes "w")
    ∷ commands.Close (codes "y")
    ∷ commands.Drop (codes "Z")
    ∷ []

abbrev pub second_section : List Command
second_section =
    commands.Socket (codes "Z") no_options
    ∷ commands.At 4294967295
    ∷ commands.Reap
    ∷ commands.Look (record {
      from = (record { addr = 0x0A000002; port = 5 });
      to = (record { addr = 0x0A000001; port = 80 });
      dev = Some 1;
      net = Some 0;
    })
    ∷ commands.Packets 1000000
    ∷ commands.Dump
    ∷ []

-- the script that it is: the capture's first byte is the one behind its line
abbrev pub every_value : Script
every_value =
    record {
      header = record {
        shape = largest;
        range = record { low = 2; high = 65535; reserved = two_reserved };
        seed = 4294967295;
        offset = Some 65535;
        twreuse = true;
      };
      sections = first_section ∷ second_section ∷ [];
      capture = Some (record { dev = 65535; net = 15; first = 546 });
    }

abbrev pub IsEachForm : Type 0
IsEachForm = IsScript modes.Run every_form every_value

-- the ports at the far end of a generated script's steps go round after 60000 steps
abbrev pub GoesRound : Type 0
GoesRound = (remote_port 59999 ≡ 60999) × (remote_port 60000 ≡ 1000)
