-- The commands of a lawful record are the script's.
use Rattle.std.proofs.Common.{◌≡◌, ℕ, ◌+◌, List, [], ◌∷◌, map, sym, ap, refl}
use Rattle.capture_reader.specs.Captures.{Capture}
use Rattle.chain_book.specs.declared.book.Change.{Change}
use Rattle.flat_list.specs.declared.header.Header.{Header}
use Rattle.flat_list.specs.declared.command.Command.{Command}
use Rattle.flat_list.specs.Script.{Script}
use Rattle.table_model.specs.Own.{Own, new_own}
use Rattle.race_book.specs.Among.{Among}
use Rattle.race_record.specs.Record.{Race, Step, command_of}
use Rattle.race_record.specs.Lawful.{Lawful, AreStepsOf, AreSectionsOf}
use Rattle.race_text.specs.Render.{told, told_text, render}

module _ (header : Header) (In : Change → Type 0) where
  steps_commands : (own : Own) (cs : List Command) (steps : List Step) → AreStepsOf header In own cs steps → map command_of steps ≡ cs
  steps_commands own [] [] a = refl
  steps_commands own (c ∷ cs) (s ∷ steps) a = λ i. a.1.command_is i ∷ steps_commands a.0 cs steps a.2 i
  steps_commands own [] (s ∷ steps) a = absurd a
  steps_commands own (c ∷ cs) [] a = absurd a

  pub all_commands : (n : ℕ) (scripts : List (List Command)) (sections : List (List Step)) → AreSectionsOf header In n scripts sections → map (λ steps. map command_of steps) sections ≡ scripts
  all_commands n [] [] a = refl
  all_commands n (cs ∷ scripts) (steps ∷ sections) a = λ i. steps_commands (new_own header n) cs steps a.0 i ∷ all_commands (n + 1) scripts sections a.1 i
  all_commands n [] (s ∷ sections) a = absurd a
  all_commands n (cs ∷ scripts) [] a = absurd a

pub lawful_text : (script : Script) (capture : Capture) (race : Race) → Lawful script capture race → told_text script.sections (told race) ≡ render race
unfolding render
lawful_text script capture race l = ap (λ cs. told_text cs (told race)) (sym (all_commands script.header (Among race.book) 1 script.sections race.sections l.sections))
