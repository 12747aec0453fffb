-- What the lines of a script that were read so far have made, and which line may come next: the grammar once more, as
-- the code goes by it. No public contract cites this file; that it reads those texts, and as those scripts, that
-- `Grammar` says is proved both ways (`proofs/Printed`, `proofs/Reprinted`).
--
-- To be read from the end: lines are read as a script where they make a draft of it, one line after the other, from
-- `nothing_yet` on. `ReadsLine` parts a draft that has a capture from others, and is the one place that does.
-- `Follows` has a line for each kind of line, which says when it may come and the one draft that it makes. What that
-- asks of the draft stands above it: of the header's lines `IsHeaderTurn`, of a command `MayCome`.
use Rattle.std.specs.Prelude.{◌≡◌, ℕ, ◌+◌, List, [], ◌∷◌, ◌++◌, length, Option, Some, None, MatchOption, Bool, true, false, ◌&&◌, not, bytes_eq, IsTrue, unwrap_or}
use Rattle.std.specs.List.{list_any}
use Rattle.flat_list.specs.declared.header.Header.{Header}
use Rattle.chain_book.specs.declared.shape.Shape.{Shape}
use Rattle.flat_list.specs.declared.header.Range.{Range}
use Rattle.flat_list.specs.declared.header.Reserved.{Reserved}
use Rattle.flat_list.specs.Ports.{none_reserved}
use Rattle.flat_list.specs.declared.command.Command.{Command}
use Rattle.flat_list.specs.declared.script.CapturePlace.{CapturePlace}
use Rattle.flat_list.specs.Script.{Script}
use Rattle.sock_script.specs.declared.parse.Mode.{Mode}
use Rattle.sock_script.specs.declared.line.Line.{Line}
use Rattle.sock_script.specs.declared.line.Line.TheVariants as lines
use Rattle.sock_script.specs.Words.{words_of}
use Rattle.sock_script.specs.Forms.{HasForm}
use Rattle.sock_script.specs.Grammar.{given_label, given_labels, is_allowed, default_shape, default_range}

-- no label, or one that those commands haven't given
abbrev pub is_new : Option (List ℕ) → List Command → Bool
is_new None section = true
is_new (Some label) section = not (list_any (bytes_eq label) (given_labels section))

-- a command may follow the others of its section
abbrev pub may_stand : Mode → List Command → Command → Bool
may_stand mode section command = is_allowed mode command && is_new (given_label command) section

-- a command may come: there is a section, and it may follow the others of the last one
abbrev pub MayCome : Mode → List (List Command) → Command → Type 0
MayCome mode [] command = ⊥
MayCome mode (section ∷ []) command = IsTrue (may_stand mode section command)
MayCome mode (section ∷ next ∷ rest) command = MayCome mode (next ∷ rest) command

-- the sections with one more command in the last
abbrev pub with_command : Command → List (List Command) → List (List Command)
with_command command [] = []
with_command command (section ∷ []) = (section ++ command ∷ []) ∷ []
with_command command (section ∷ next ∷ rest) = section ∷ with_command command (next ∷ rest)

-- what lines have made: what each kind of header line says, if one came, the sections, where the capture begins, if
-- there is one, and how many bytes the lines had, each with its line feed
pub record Draft : Type 0 where
  pub table : Option Shape
  pub range : Option Range
  pub reserved : Option Reserved
  pub seed : Option ℕ
  pub offset : Option ℕ
  pub twreuse : Option Bool
  pub sections : List (List Command)
  pub capture : Option CapturePlace
  pub bytes : ℕ

-- before the first line
abbrev pub nothing_yet : Draft
nothing_yet =
    record {
      table = None;
      range = None;
      reserved = None;
      seed = None;
      offset = None;
      twreuse = None;
      sections = [];
      capture = None;
      bytes = 0;
    }

-- A header line may come once, before the first section: `said` is what one of its kind has said.
abbrev pub IsHeaderTurn : {A : Type 0} → Option A → Draft → Type 0
IsHeaderTurn said old = (said ≡ None) × (old.sections ≡ [])

-- the draft, past the bytes of one line more
abbrev pub past : Draft → List ℕ → Draft
past old text = record old { bytes = old.bytes + length text + 1 }

-- the capture's packets come from that device and that network namespace, and its first byte is the next
abbrev pub capture_here : Draft → Option ℕ → Option ℕ → CapturePlace
capture_here old dev net = record { dev = unwrap_or dev 0; net = unwrap_or net 0; first = old.bytes }

-- The line may follow the lines that made `old`, and makes `new` of it; its own bytes are counted in `old` already.
abbrev pub Follows : Mode → Draft → Line → Draft → Type 0
Follows mode old lines.PassedOver new = new ≡ old
Follows mode old (lines.Table shape) new =
    IsHeaderTurn old.table old × (new ≡ record old { table = Some shape })
Follows mode old (lines.Range range) new =
    IsHeaderTurn old.range old × (new ≡ record old { range = Some range })
Follows mode old (lines.Reserved reserved) new =
    IsHeaderTurn old.reserved old × (new ≡ record old { reserved = Some reserved })
Follows mode old (lines.Seed seed) new =
    IsHeaderTurn old.seed old × (new ≡ record old { seed = Some seed })
Follows mode old (lines.Offset offset) new =
    IsHeaderTurn old.offset old × (new ≡ record old { offset = Some offset })
Follows mode old (lines.TimeWaitReuse reuse) new =
    IsHeaderTurn old.twreuse old × (new ≡ record old { twreuse = Some reuse })
Follows mode old (lines.Section number) new =
    (number ≡ length old.sections + 1) × (new ≡ record old { sections = old.sections ++ [] ∷ [] })
Follows mode old (lines.Capture dev net) new = new ≡ record old { capture = Some (capture_here old dev net) }
Follows mode old (lines.Command command) new =
    MayCome mode old.sections command × (new ≡ record old { sections = with_command command old.sections })

-- the line of that text makes `new` of `old`; where a capture has begun, its bytes aren't read as lines
abbrev pub ReadsLine : Mode → Draft → List ℕ → Draft → Type 0
ReadsLine mode old text new =
    MatchOption old.capture
    ((line : Line) × HasForm (words_of text) line × Follows mode (past old text) line new)
    (λ place. new ≡ old)

-- the lines of those texts make `new` of `old`, one after the other
abbrev pub Reads : Mode → Draft → List (List ℕ) → Draft → Type 0
Reads mode old [] new = new ≡ old
Reads mode old (text ∷ texts) new =
    (next : Draft) × ReadsLine mode old text next × Reads mode next texts new

-- which ports are searched: those of the range but for the reserved ones
abbrev pub range_of : Draft → Range
range_of draft =
    record (unwrap_or draft.range default_range) { reserved = unwrap_or draft.reserved none_reserved }

-- what the header lines have said, with the defaults for what none said
abbrev pub header_of : Draft → Header
header_of draft =
    record {
      shape = unwrap_or draft.table default_shape;
      range = range_of draft;
      seed = unwrap_or draft.seed 0;
      offset = draft.offset;
      twreuse = unwrap_or draft.twreuse false;
    }

-- the script that lines have made
abbrev pub script_of : Draft → Script
script_of draft = record { header = header_of draft; sections = draft.sections; capture = draft.capture }

-- lines are read as this script
abbrev pub ReadAs : Mode → List (List ℕ) → Script → Type 0
ReadAs mode texts script = (draft : Draft) × Reads mode nothing_yet texts draft × (script ≡ script_of draft)
