-- Why a line that has a form can't stand where it does: our own.
use Rattle.std.specs.Prelude.{ℕ, Option, Some, None}
use Rattle.line_forms.specs.declared.verb.Verb.{Verb}
use Rattle.line_forms.specs.declared.verb.Verb.TheVariants as verbs
use Rattle.sock_script.specs.declared.parse.Mode.{Mode}
use Rattle.sock_script.specs.declared.parse.Mode.TheVariants as modes
use Rattle.refusals.specs.declared.before.Before.{Before}
use Rattle.refusals.specs.declared.place.Misplace.{Misplace}
use Rattle.refusals.specs.declared.place.Misplace.TheVariants as misplaces

-- a line of the head: one of its kind was there, or a section has begun
abbrev pub head_misplace : Option ℕ → Option ℕ → Misplace
head_misplace (Some line) section = misplaces.Again line
head_misplace None (Some line) = misplaces.Late line
head_misplace None None = misplaces.Other

-- a line that begins a section: another one comes before it
abbrev pub section_misplace : Option ℕ → Misplace
section_misplace (Some line) = misplaces.NotNext line
section_misplace None = misplaces.NotFirst

-- a lookup in a section: a race has none
abbrev pub look_misplace : Mode → Misplace
look_misplace modes.Race = misplaces.InRace
look_misplace modes.Run = misplaces.Other

-- a command in a section that gives a label: a line has given it
abbrev pub label_misplace : Option ℕ → Misplace
label_misplace (Some line) = misplaces.Given line
label_misplace None = misplaces.Other

-- a command in a section
abbrev pub command_misplace : Mode → Verb → Before → Misplace
command_misplace mode verbs.Look before = look_misplace mode
command_misplace mode verbs.Packets before = look_misplace mode
command_misplace mode verbs.Socket before = label_misplace before.giver
command_misplace mode verbs.Accept before = label_misplace before.giver
command_misplace mode verbs.Syn before = label_misplace before.giver
command_misplace mode verbs.Ack before = label_misplace before.giver
command_misplace mode verb before = misplaces.Other

-- any command: no section has begun, or it is in one
abbrev pub section_or : Option ℕ → Misplace → Misplace
section_or None inside = misplaces.Outside
section_or (Some line) inside = inside

-- why a line that begins with that verb can't stand behind lines that say so of it
abbrev pub misplace_of : Mode → Verb → Before → Misplace
misplace_of mode verbs.Table before = head_misplace before.alike before.section
misplace_of mode verbs.Range before = head_misplace before.alike before.section
misplace_of mode verbs.Reserved before = head_misplace before.alike before.section
misplace_of mode verbs.Seed before = head_misplace before.alike before.section
misplace_of mode verbs.Offset before = head_misplace before.alike before.section
misplace_of mode verbs.TimeWaitReuse before = head_misplace before.alike before.section
misplace_of mode verbs.Script before = section_misplace before.section
misplace_of mode verbs.Capture before = misplaces.Other
misplace_of mode verb before = section_or before.section (command_misplace mode verb before)
