-- There can be a race of each small script that a text is by the grammar of a race.
use Rattle.std.proofs.Common.{◌≡◌, ℕ, List, [], ◌∷◌, Bool, true, false, inl, inr, refl, sym, subst}
use Rattle.std.specs.Prelude.{◌&&◌, IsTrue}
use Rattle.list_words.specs.Lists.{Each}
use Rattle.list_words.proofs.EachLemmas.{each_append}
use Rattle.flat_list.specs.declared.command.Command.{Command}
use Rattle.flat_list.specs.declared.command.Command.TheVariants as commands
use Rattle.flat_list.specs.declared.header.Range.{Range}
use Rattle.flat_list.specs.Script.{Script}
use Rattle.sock_script.specs.declared.parse.Mode.TheVariants as modes
use Rattle.sock_script.specs.declared.line.Line.{Line}
use Rattle.sock_script.specs.declared.line.Line.TheVariants as lines
use Rattle.sock_script.specs.Words.{words_of, lines_of}
use Rattle.sock_script.specs.Forms.{HasForm}
use Rattle.sock_script.specs.Grammar.{is_allowed}
use Rattle.sock_script.specs.Reading.{Draft, Follows, ReadsLine, Reads, MayCome, past, nothing_yet, with_command}
use Rattle.sock_script.proofs.LineCases.{line_cases}
use Rattle.sock_script.proofs.Reprinted.{read_as}
use Rattle.table_model.specs.Means.{is_lookup}
use Rattle.sock_script.proofs.HeadersFit.{scripts_fit}
use Rattle.race_run.specs.Scripts.{LooksNothingUp, ScriptsAreForRace}

never : {P : Type 0} → IsTrue false → P
never h = absurd (not_true h)
  where
    not_true : false ≡ true → ⊥
    not_true same = cc

-- what may come in a race looks nothing up
allowed : (other : Bool) (c : Command) → IsTrue (is_allowed modes.Race c && other) → is_lookup c ≡ false
allowed other (commands.Socket label options) h = refl
allowed other (commands.Bind label end) h = refl
allowed other (commands.Listen label) h = refl
allowed other (commands.Connect label from to) h = refl
allowed other (commands.Accept listener label from at) h = refl
allowed other (commands.Syn listener label from at) h = refl
allowed other (commands.Ack request label) h = refl
allowed other (commands.Close label) h = refl
allowed other (commands.Drop label) h = refl
allowed other (commands.At moment) h = refl
allowed other commands.Reap h = refl
allowed other (commands.Look query) h = never h
allowed other (commands.Packets count) h = never h
allowed other commands.Dump h = refl

-- so it is of sections with one more command that may come
with_one : (c : Command) (sections : List (List Command)) → MayCome modes.Race sections c → Each LooksNothingUp sections
    → Each LooksNothingUp (with_command c sections)
with_one c [] may each = absurd may
with_one c (section ∷ []) may each =
    (each_append (λ (x : Command). is_lookup x ≡ false) section (c ∷ []) each.0 (allowed _ c may, tt), tt)
with_one c (section ∷ next ∷ rest) may each = (each.0, with_one c (next ∷ rest) may each.1)

-- commands that lines have said look nothing up
abbrev LookUpNothing : Draft → Type 0
LookUpNothing draft = Each LooksNothingUp draft.sections

-- so it is after a line
line_says : (old new : Draft) (words : List (List ℕ)) (line : Line) → HasForm words line → Follows modes.Race old line new → LookUpNothing old → LookUpNothing new
line_says old new words lines.PassedOver form f s = subst LookUpNothing (sym f) s
line_says old new words (lines.Table shape) form f s = subst LookUpNothing (sym f.1) s
line_says old new words (lines.Range range) form f s = subst LookUpNothing (sym f.1) s
line_says old new words (lines.Seed seed) form f s = subst LookUpNothing (sym f.1) s
line_says old new words (lines.Offset offset) form f s = subst LookUpNothing (sym f.1) s
line_says old new words (lines.TimeWaitReuse reuse) form f s = subst LookUpNothing (sym f.1) s
line_says old new words (lines.Reserved reserved) form f s = subst LookUpNothing (sym f.1) s
line_says old new words (lines.Section n) form f s =
    subst LookUpNothing (sym f.1) (each_append LooksNothingUp old.sections ([] ∷ []) s (tt, tt))
line_says old new words (lines.Capture dev net) form f s = subst LookUpNothing (sym f) s
line_says old new words (lines.Command c) form f s = subst LookUpNothing (sym f.1) (with_one c old.sections f.0 s)

-- and after what reading it leaves, whose bytes may be a capture's
read_says : (old new : Draft) (text : List ℕ) → ReadsLine modes.Race old text new → LookUpNothing old → LookUpNothing new
read_says old new text h s =
    elim (line_cases modes.Race old text new h) [
      | inl r ↦ line_says (past old text) new (words_of text) r.line r.form r.follows s
      | inr kept ↦ subst LookUpNothing (sym kept.2) s
    ]

texts_say : (old new : Draft) (texts : List (List ℕ)) → Reads modes.Race old texts new → LookUpNothing old → LookUpNothing new
texts_say old new [] h s = subst LookUpNothing (sym h) s
texts_say old new (text ∷ texts) h s = texts_say h.0 new texts h.2 (read_says old h.0 text h.1 s)

pub scripts_are_for_race : ScriptsAreForRace
scripts_are_for_race text script is small =
    let h = read_as modes.Race (lines_of text) script is in
    let said : LookUpNothing h.0 = texts_say nothing_yet h.0 (lines_of text) h.1 tt in
    let looks : Each LooksNothingUp script.sections = subst (λ (s : Script). Each LooksNothingUp s.sections) (sym h.2) said in
    record { header = scripts_fit modes.Race text script is; small = small; looks = looks }
