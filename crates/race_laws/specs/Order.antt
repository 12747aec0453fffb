-- A record whose steps were made at tables where nobody else was, in whatever order of sections: our own.
--
-- To be read from the end: `TurnsAreFlat` is the law `any_order` of src/laws.rt, and each stands on those above it.
use Rattle.std.specs.Prelude.{◌≡◌, ℕ, ◌==◌, ◌≤◌, Bool, false, List, [], ◌∷◌, length, map, filter}
use Rattle.list_words.specs.Lists.{Each}
use Rattle.capture_reader.specs.Captures.{Capture}
use Rattle.flat_list.specs.declared.command.Command.{Command}
use Rattle.flat_list.specs.declared.command.Reply.{Reply}
use Rattle.flat_list.specs.Flat.{Flat, new_flat}
use Rattle.flat_list.specs.Run.{Issued}
use Rattle.flat_list.specs.Script.{Script, IsSmall}
use Rattle.flat_list.specs.Step.{step}
use Rattle.table_model.specs.Tables.{Tables, new_tables}
use Rattle.table_model.specs.Means.{IsShape, is_lookup}
use Rattle.race_record.specs.Lawful.{Lawful, EachFrom}
use Rattle.race_record.specs.Record.{Race, Step, deeds_of}
use Rattle.race_laws.specs.Plays.{Plays}

-- no command of a section asks for a lookup
abbrev pub AsksNone : List Command → Type 0
AsksNone commands = Each (λ command. is_lookup command ≡ false) commands

-- a step, and the number of its section
pub record Turn : Type 0 where
  pub section : ℕ
  pub taken : Step

abbrev pub is_turn_of : ℕ → Turn → Bool
is_turn_of n turn = turn.section == n

abbrev pub step_in : Turn → Step
step_in turn = turn.taken

abbrev pub reply_in : Turn → Reply
reply_in turn = turn.taken.reply

-- the command of a step, as its section issued it
abbrev pub issued_in : Turn → Issued
issued_in turn = record { section = turn.section; command = turn.taken.command }

-- of some turns, the steps of one section, in their order
abbrev pub steps_in : ℕ → List Turn → List Step
steps_in n turns = map step_in (filter (is_turn_of n) turns)

-- the turns have the steps of each section in its order, and no others
pub record AreTurnsOf (sections : List (List Step)) (turns : List Turn) : Type 0 where
  pub each : EachFrom (λ n steps. steps_in n turns ≡ steps) 1 sections
  pub there : Each (λ (turn : Turn). (1 ≤ turn.section) × (turn.section ≤ length sections)) turns

-- the list's replies to commands of several sections, one after the other
abbrev pub replies_of : Flat → List Issued → List Reply
replies_of flat [] = []
replies_of flat (c ∷ rest) = let next = step flat c.section c.command in next.reply ∷ replies_of next.flat rest

-- Sections took turns at tables where nobody else was: then the replies are the flat list's to the same commands in
-- the same order.
abbrev pub TurnsAreFlat : Type 0
TurnsAreFlat =
    (script : Script) (capture : Capture) (race : Race) (turns : List Turn) (after : Tables) → IsSmall script
    → IsShape script.header → Each AsksNone script.sections → Lawful script capture race
    → AreTurnsOf race.sections turns
    → Plays (new_tables script.header.shape script.header.seed) (deeds_of (map step_in turns)) after
    → map reply_in turns ≡ replies_of (new_flat script.header) (map issued_in turns)
