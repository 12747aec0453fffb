-- The forms of a script's lines: a grammar of our own. A line is passed over, or its words are the spelling of a
-- value that is in range. Numbers are spelled in decimal digits without a leading zero, which is `decimal`, and
-- addresses and ends as `addr_text` and `end_text` say.
--
-- To be read from the end: `HasForm` says when words are a line. How values are spelled, as by `command_words`, and
-- which are in range, as by `CommandFits`, stands above it.
use Rattle.std.specs.Prelude.{◌≡◌, ℕ, ◌-◌, ◌^◌, ◌%◌, ◌<◌, ◌≤◌, Bool, true, false, IsTrue, List, [], ◌∷◌, ◌++◌, length, take, drop, map, replicate, codes, decimal, Option, Some, None}
use Rattle.std.specs.List.Sorted.{IsStrictlyIncreasing}
use Rattle.list_words.specs.Lists.{Each}
use Rattle.inet_io.specs.Texts.{addr_text, end_text}
use Rattle.inet_io.specs.Labels.{is_label}
use Rattle.flat_list.specs.declared.command.End.{End}
use Rattle.chain_book.specs.declared.shape.Shape.{Shape}
use Rattle.chain_book.specs.Shapes.{ShapeFits}
use Rattle.flat_list.specs.declared.header.Range.{Range}
use Rattle.flat_list.specs.declared.header.Reserved.{Reserved}
use Rattle.flat_list.specs.Ports.{size, none_reserved}
use Rattle.flat_list.specs.declared.owned.Options.{Options}
use Rattle.flat_list.specs.declared.command.Command.{Command}
use Rattle.flat_list.specs.declared.command.Command.TheVariants as commands
use Rattle.sock_script.specs.declared.line.Line.{Line}
use Rattle.sock_script.specs.declared.line.Line.TheVariants as lines

-- `net` and the network namespace, where one is named
abbrev pub namespace_words : Option ℕ → List (List ℕ)
namespace_words None = []
namespace_words (Some net) = codes "net" ∷ decimal net ∷ []

-- `dev` and the device, where one is named
abbrev pub device_words : Option ℕ → List (List ℕ)
device_words None = []
device_words (Some dev) = codes "dev" ∷ decimal dev ∷ []

-- `uid` and the user, where one is named
abbrev pub user_words : Option ℕ → List (List ℕ)
user_words None = []
user_words (Some uid) = codes "uid" ∷ decimal uid ∷ []

-- `from` and the address, where one is named
abbrev pub source_words : Option ℕ → List (List ℕ)
source_words None = []
source_words (Some addr) = codes "from" ∷ addr_text addr ∷ []

-- a word that is there where the flag is set
abbrev pub flag_words : List ℕ → Bool → List (List ℕ)
flag_words word false = []
flag_words word true = word ∷ []

-- how a socket's options are spelled, those that there are, in this order
abbrev pub option_words : Options → List (List ℕ)
option_words options =
    namespace_words options.net ++ user_words options.uid ++ device_words options.dev
    ++ flag_words (codes "reuseaddr") options.reuseaddr ++ flag_words (codes "reuseport") options.reuseport
    ++ flag_words (codes "noport") options.noport

-- the far end of a newcomer to a listener, and its own
abbrev pub ends_words : End → End → List (List ℕ)
ends_words from at =
    codes "from" ∷ end_text from.addr from.port ∷ codes "at" ∷ end_text at.addr at.port ∷ []

-- how a command is spelled
abbrev pub command_words : Command → List (List ℕ)
command_words (commands.Socket label options) = codes "socket" ∷ label ∷ option_words options
command_words (commands.Bind label end) = codes "bind" ∷ label ∷ end_text end.addr end.port ∷ []
command_words (commands.Listen label) = codes "listen" ∷ label ∷ []
command_words (commands.Connect label from to) =
    codes "connect" ∷ label ∷ (source_words from ++ codes "to" ∷ end_text to.addr to.port ∷ [])
command_words (commands.Accept listener label from at) = codes "accept" ∷ listener ∷ label ∷ ends_words from at
command_words (commands.Syn listener label from at) = codes "syn" ∷ listener ∷ label ∷ ends_words from at
command_words (commands.Ack request label) = codes "ack" ∷ request ∷ label ∷ []
command_words (commands.Close label) = codes "close" ∷ label ∷ []
command_words (commands.Drop label) = codes "drop" ∷ label ∷ []
command_words (commands.At moment) = codes "at" ∷ decimal moment ∷ []
command_words commands.Reap = codes "reap" ∷ []
command_words (commands.Look query) =
    codes "look" ∷ end_text query.from.addr query.from.port ∷ end_text query.to.addr query.to.port
    ∷ (device_words query.dev ++ namespace_words query.net)
command_words (commands.Packets count) = codes "packets" ∷ decimal count ∷ []
command_words commands.Dump = codes "dump" ∷ []

-- how the tables' shape is spelled
abbrev pub shape_words : Shape → List (List ℕ)
shape_words shape =
    codes "table" ∷ codes "slots" ∷ decimal shape.slots ∷ codes "bind" ∷ decimal shape.bind
    ∷ codes "hash" ∷ decimal shape.hash ∷ codes "listen" ∷ decimal shape.listen ∷ []

-- how the range of ports is spelled
abbrev pub range_words : Range → List (List ℕ)
range_words range = codes "range" ∷ decimal range.low ∷ decimal range.high ∷ []

-- the ports that are kept from searches
abbrev pub reserved_ports : Reserved → List ℕ
reserved_ports reserved = take reserved.count reserved.ports

-- how they are spelled
abbrev pub reserved_words : Reserved → List (List ℕ)
reserved_words reserved = codes "reserved" ∷ map decimal (reserved_ports reserved)

-- any address of 32 bits, and any port of 16
abbrev pub EndFits : End → Type 0
EndFits end = (end.addr < 2 ^ 32) × (end.port < 2 ^ 16)

-- no network namespace, or one from 0 to 15
abbrev pub NamespaceFits : Option ℕ → Type 0
NamespaceFits None = Unit {0}
NamespaceFits (Some net) = net < 16

-- no device, or one from 1 to 65535
abbrev pub DeviceFits : Option ℕ → Type 0
DeviceFits None = Unit {0}
DeviceFits (Some dev) = (1 ≤ dev) × (dev < 2 ^ 16)

-- no user, or one of 32 bits
abbrev pub UserFits : Option ℕ → Type 0
UserFits None = Unit {0}
UserFits (Some uid) = uid < 2 ^ 32

-- no address, or one of 32 bits
abbrev pub SourceFits : Option ℕ → Type 0
SourceFits None = Unit {0}
SourceFits (Some addr) = addr < 2 ^ 32

-- what stands in a command is in range
abbrev pub CommandFits : Command → Type 0
CommandFits (commands.Socket label options) =
    IsTrue (is_label label) × NamespaceFits options.net × UserFits options.uid × DeviceFits options.dev
CommandFits (commands.Bind label end) = IsTrue (is_label label) × EndFits end
CommandFits (commands.Listen label) = IsTrue (is_label label)
CommandFits (commands.Connect label from to) = IsTrue (is_label label) × SourceFits from × EndFits to
CommandFits (commands.Accept listener label from at) =
    IsTrue (is_label listener) × IsTrue (is_label label) × EndFits from × EndFits at
CommandFits (commands.Syn listener label from at) =
    IsTrue (is_label listener) × IsTrue (is_label label) × EndFits from × EndFits at
CommandFits (commands.Ack request label) = IsTrue (is_label request) × IsTrue (is_label label)
CommandFits (commands.Close label) = IsTrue (is_label label)
CommandFits (commands.Drop label) = IsTrue (is_label label)
CommandFits (commands.At moment) = moment < 2 ^ 32
CommandFits commands.Reap = Unit {0}
CommandFits (commands.Look query) =
    EndFits query.from × EndFits query.to × DeviceFits query.dev × NamespaceFits query.net
CommandFits (commands.Packets count) = count ≤ 1000000
CommandFits commands.Dump = Unit {0}

-- how a switch is spelled
abbrev pub switch_word : Bool → List ℕ
switch_word false = codes "0"
switch_word true = codes "1"

-- ports from 1 to 65535, the lowest first, and of even number; which are reserved another line says
pub record RangeFits (range : Range) : Type 0 where
  pub low : 1 ≤ range.low
  pub order : range.low < range.high
  pub high : range.high < 2 ^ 16
  pub even : size range % 2 ≡ 0
  pub reserved : range.reserved ≡ none_reserved

-- a port from 1 to 65535
abbrev pub IsPort : ℕ → Type 0
IsPort port = (1 ≤ port) × (port < 2 ^ 16)

-- 1 to 64 ports, each above the one before, and zeros behind them in an array of 64, so that one line gives one value
pub record ReservedFits (reserved : Reserved) : Type 0 where
  pub count : (1 ≤ reserved.count) × (reserved.count ≤ 64)
  pub ports : Each IsPort (reserved_ports reserved)
  pub ascending : IsStrictlyIncreasing (reserved_ports reserved)
  pub room : length reserved.ports ≡ 64
  pub rest : drop reserved.count reserved.ports ≡ replicate (64 - reserved.count) 0

-- no word, or a first word that begins with `#`, which is byte 35
abbrev pub IsPassedOver : List (List ℕ) → Type 0
IsPassedOver [] = Unit {0}
IsPassedOver ([] ∷ words) = ⊥
IsPassedOver ((b ∷ bs) ∷ words) = b ≡ 35

-- the words are that line
abbrev pub HasForm : List (List ℕ) → Line → Type 0
HasForm words lines.PassedOver = IsPassedOver words
HasForm words (lines.Table shape) = (words ≡ shape_words shape) × ShapeFits shape
HasForm words (lines.Range range) = (words ≡ range_words range) × RangeFits range
HasForm words (lines.Reserved reserved) = (words ≡ reserved_words reserved) × ReservedFits reserved
HasForm words (lines.Seed seed) = (words ≡ codes "seed" ∷ decimal seed ∷ []) × (seed < 2 ^ 32)
HasForm words (lines.Offset offset) = (words ≡ codes "offset" ∷ decimal offset ∷ []) × (offset < 2 ^ 16)
HasForm words (lines.TimeWaitReuse reuse) = words ≡ codes "twreuse" ∷ switch_word reuse ∷ []
HasForm words (lines.Section number) =
    (words ≡ codes "script" ∷ decimal number ∷ []) × (1 ≤ number) × (number ≤ 64)
HasForm words (lines.Capture dev net) =
    (words ≡ codes "capture" ∷ (device_words dev ++ namespace_words net)) × DeviceFits dev × NamespaceFits net
HasForm words (lines.Command command) = (words ≡ command_words command) × CommandFits command
