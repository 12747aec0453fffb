-- Which texts are scripts, and what script a text is: a grammar of our own. No parsing stands here, and no state of
-- reading: a line has the form of the words that spell it, and the lines of a script are those of its head, then
-- those of its sections, and last that of its capture, if it has one.
--
-- To be read from `IsScript` upwards: `AreLines` has a script's lines in their order. Below it stand which line is the
-- first outside the grammar, what a text has for its capture, and laws.
use Rattle.std.specs.Prelude.{◌≡◌, ◌≢◌, ℕ, ◌+◌, ◌-◌, ◌≤◌, List, [], ◌∷◌, ◌++◌, length, map, filter, take, drop, Option, Some, None, Bool, true, false, unwrap_or}
use Rattle.std.specs.List.{filter_map}
use Rattle.list_words.specs.Lists.{Each, Pairs, SameItems, total}
use Rattle.chain_book.specs.declared.shape.Shape.{Shape}
use Rattle.flat_list.specs.declared.header.Header.{Header}
use Rattle.flat_list.specs.declared.header.Range.{Range}
use Rattle.flat_list.specs.declared.header.Reserved.{Reserved}
use Rattle.flat_list.specs.Ports.{none_reserved}
use Rattle.flat_list.specs.declared.command.Command.{Command}
use Rattle.flat_list.specs.declared.command.Command.TheVariants as commands
use Rattle.flat_list.specs.declared.script.CapturePlace.{CapturePlace}
use Rattle.flat_list.specs.Script.{Script}
use Rattle.sock_script.specs.declared.parse.Mode.{Mode}
use Rattle.sock_script.specs.declared.parse.Mode.TheVariants as modes
use Rattle.sock_script.specs.declared.line.Line.{Line}
use Rattle.sock_script.specs.declared.line.Line.TheVariants as lines
use Rattle.sock_script.specs.Words.{lines_of, words_of}
use Rattle.sock_script.specs.Forms.{HasForm}

-- how large the tables are where no line says it
abbrev pub default_shape : Shape
default_shape = record { slots = 1024; bind = 16; hash = 256; listen = 32 }

-- which ports are searched where no line says it
abbrev pub default_range : Range
default_range = record { low = 32768; high = 60999; reserved = none_reserved }

-- the lines of these texts have these forms, one after the other
abbrev pub HaveForms : List (List ℕ) → List Line → Type 0
HaveForms [] [] = Unit {0}
HaveForms (text ∷ texts) (line ∷ rest) = HasForm (words_of text) line × HaveForms texts rest
HaveForms _ _ = ⊥

-- a line that isn't passed over
abbrev pub is_said : Line → Bool
is_said lines.PassedOver = false
is_said _ = true

-- the line of that kind that says the value, if there is one
abbrev pub said : {A : Type 0} → (A → Line) → Option A → List Line
said kind None = []
said kind (Some value) = kind value ∷ []

-- What the lines of the head say: they are of these kinds, each kind once or not at all, in whatever order; and the
-- header has what they say, and the defaults for what none says.
pub record HasHead (head : List Line) (header : Header) : Type 0 where
  pub table : Option Shape
  pub range : Option Range
  pub reserved : Option Reserved
  pub seed : Option ℕ
  pub offset : Option ℕ
  pub twreuse : Option Bool
  pub lines_are : SameItems head (said lines.Table table ++ said lines.Range range ++ said lines.Reserved reserved
      ++ said lines.Seed seed ++ said lines.Offset offset ++ said lines.TimeWaitReuse twreuse)
  pub header_is : header ≡ record {
    shape = unwrap_or table default_shape;
    range = record (unwrap_or range default_range) { reserved = unwrap_or reserved none_reserved };
    seed = unwrap_or seed 0;
    offset = offset;
    twreuse = unwrap_or twreuse false;
  }

-- the lines of the sections from that number on: for each its own, and those of its commands
abbrev pub section_lines : ℕ → List (List Command) → List Line
section_lines n [] = []
section_lines n (section ∷ rest) = lines.Section n ∷ (map (λ c. lines.Command c) section ++ section_lines (n + 1) rest)

-- the label that a command gives to a new socket
abbrev pub given_label : Command → Option (List ℕ)
given_label (commands.Socket label options) = Some label
given_label (commands.Accept listener label from at) = Some label
given_label (commands.Syn listener label from at) = Some label
given_label (commands.Ack request label) = Some label
given_label _ = None

-- the labels that some commands have given
abbrev pub given_labels : List Command → List (List ℕ)
given_labels section = filter_map given_label section

-- lookups are asked for only where sections run one after the other
abbrev pub is_allowed : Mode → Command → Bool
is_allowed modes.Race (commands.Look query) = false
is_allowed modes.Race (commands.Packets count) = false
is_allowed _ _ = true

-- each label is given once in a section, and each command may be asked for in such a script
pub record IsSection (mode : Mode) (section : List Command) : Type 0 where
  pub labels : Pairs (λ (a b : List ℕ). a ≢ b) (given_labels section)
  pub allowed : Each (λ command. is_allowed mode command ≡ true) section

-- the bytes of some lines, each with its line feed
abbrev pub bytes_of : List (List ℕ) → ℕ
bytes_of texts = total (λ (text : List ℕ). length text + 1) texts

-- What stands behind lines of so many bytes: nothing, or the line of a capture, whose first byte is the one behind
-- that line; its bytes aren't read as lines.
abbrev pub EndsIn : Option CapturePlace → ℕ → List (List ℕ) → Type 0
EndsIn None bytes last = last ≡ []
EndsIn (Some place) bytes last =
    (text : List ℕ) × (behind : List (List ℕ)) × (dev net : Option ℕ)
    × (last ≡ text ∷ behind) × HasForm (words_of text) (lines.Capture dev net)
    × (place ≡ record { dev = unwrap_or dev 0; net = unwrap_or net 0; first = bytes + length text + 1 })

-- These are the lines of the script: but for those that are passed over, first its head, then its sections, one after
-- the other from number 1, each with its commands; and last the line of its capture, if it has one.
pub record AreLines (mode : Mode) (texts : List (List ℕ)) (script : Script) : Type 0 where
  pub front : List (List ℕ)
  pub last : List (List ℕ)
  pub read : List Line
  pub head : List Line
  pub parts : texts ≡ front ++ last
  pub forms : HaveForms front read
  pub order : filter is_said read ≡ head ++ section_lines 1 script.sections
  pub header : HasHead head script.header
  pub sections : Each (IsSection mode) script.sections
  pub ends : EndsIn script.capture (bytes_of front) last

-- the text is this script
abbrev pub IsScript : Mode → List ℕ → Script → Type 0
IsScript mode text script = AreLines mode (lines_of text) script

-- a list of lines that is in the grammar: they are some script's
abbrev pub IsInside : Mode → List (List ℕ) → Type 0
IsInside mode texts = (script : Script) × AreLines mode texts script

-- line n, counted from 1, is the first outside the grammar
pub record IsFirstOutside (mode : Mode) (texts : List (List ℕ)) (n : ℕ) : Type 0 where
  pub within : (1 ≤ n) × (n ≤ length texts)
  pub before : IsInside mode (take (n - 1) texts)
  pub outside : ¬ (IsInside mode (take n texts))

-- the bytes of a text's capture; none where it has no capture
abbrev pub capture_bytes : Option CapturePlace → List ℕ → List ℕ
capture_bytes None text = []
capture_bytes (Some place) text = drop place.first text

-- the device that they came in by, 0 where none is named
abbrev pub capture_device : Option CapturePlace → ℕ
capture_device None = 0
capture_device (Some place) = place.dev

-- and the network namespace
abbrev pub capture_namespace : Option CapturePlace → ℕ
capture_namespace None = 0
capture_namespace (Some place) = place.net

-- a text is one script at most
abbrev pub IsOneScript : Type 0
IsOneScript =
    (mode : Mode) (text : List ℕ) (a b : Script) → IsScript mode text a → IsScript mode text b → a ≡ b

-- lines of which one is the first outside are not in the grammar
abbrev pub ExcludesScripts : Type 0
ExcludesScripts =
    (mode : Mode) (texts : List (List ℕ)) (n : ℕ) → IsFirstOutside mode texts n → ¬ (IsInside mode texts)

-- one line at most is the first outside
abbrev pub HasOneFirst : Type 0
HasOneFirst =
    (mode : Mode) (texts : List (List ℕ)) (m n : ℕ) → IsFirstOutside mode texts m → IsFirstOutside mode texts n → m ≡ n
