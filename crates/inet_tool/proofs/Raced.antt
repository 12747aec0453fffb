-- What a race returns can be written, and its text is one of a lawful record, which passes an audit.
use Rattle.std.proofs.Common.{◌≡◌, ◌∙◌, ◌<◌, ◌≤◌, ◌^◌, ℕ, List, ap, length, refl, subst, sym}
use Rattle.std.specs.Prelude.{Result, Ok, Err}
use Rattle.race_laws.specs.Laws.{IsAnswer, SaysYes}
use Rattle.race_laws.proofs.audits.Whole.{written_passes}
use Rattle.capture_reader.specs.Captures.{Capture}
use Rattle.capture_reader.specs.Grammar.{IsCapture}
use Rattle.capture_reader.specs.Numbers.{AreBytes}
use Rattle.flat_list.specs.Script.{Script, IsSmall}
use Rattle.sock_script.specs.declared.parse.Mode.TheVariants as modes
use Rattle.sock_script.specs.Grammar.{IsScript, capture_bytes, capture_device, capture_namespace}
use Rattle.sock_script.proofs.Inside.{one_script}
use Rattle.race_book.specs.Listed.{FitSlots, StampsDiffer}
use Rattle.race_record.proofs.Drawn.{numbers_tell}
use Rattle.race_record.proofs.Says.{lawful_says}
use Rattle.race_record.specs.Lawful.{Lawful}
use Rattle.race_record.specs.Record.{Race}
use Rattle.race_laws.proofs.Handovers.{acks_hand_over}
use Rattle.race_laws.proofs.Names.{hashed_once, listed_once}
use Rattle.race_text.specs.Render.{RaceOut, Told, told_text}
use Rattle.race_text.proofs.Commands.{lawful_text}
use Rattle.race_run.specs.Told.{IsToldBy, race_of}
use Rattle.race_run.specs.declared.finish.Ended.{Ended}
use Rattle.record_reader.specs.declared.audit.Verdict.{Verdict}
use Rattle.record_reader.specs.declared.audit.Verdict.TheVariants as verdicts
use Rattle.record_reader.specs.declared.read.ReadEnd.{ReadEnd}
use Rattle.record_reader.specs.declared.read.ReadEnd.TheVariants as ends
use Rattle.record_reader.specs.Record.{IsFirstOutside}
use Rattle.record_reader.specs.Verdicts.{IsVerdict}
use Rattle.inet_tool.specs.declared.audit.Outcome.TheVariants as outcomes
use Rattle.inet_tool.specs.declared.status.Status.TheVariants.{Done}
use Rattle.inet_tool.specs.Audit.{verdict_status}
use Rattle.inet_tool.specs.Races.{IsRaceOf, Passes, Says}

-- what a lawful record says of its race
says : (script : Script) (capture : Capture) (race : Race) → IsSmall script → Lawful script capture race → Says script race
says script capture race small lawful =
    record {
      headline = lawful_says script capture race lawful;
      names = hashed_once script capture race small lawful;
      dumps = listed_once script capture race small lawful;
      acks = acks_hand_over script capture race lawful;
    }

-- the status of a yes
yes_status : (v : Verdict) → SaysYes (Ok v) → verdict_status v ≡ Done
yes_status (verdicts.Yes lives packets clock) h = refl
yes_status (verdicts.No line why) h = absurd h

-- a verdict on a text is an answer, and so is its first line outside
judged : (text : List ℕ) (v : Verdict) → IsVerdict text v → IsAnswer text (Ok v)
judged text v is = record { verdict = λ w same. let e : v ≡ w = cc in subst (IsVerdict text) e is; bad = λ n same. absurd cc }

outside : (text : List ℕ) (n : ℕ) → IsFirstOutside text n → IsAnswer text (Err (ends.BadLine n))
outside text n is = record { verdict = λ w same. absurd cc; bad = λ m same. let e : n ≡ m = cc in subst (IsFirstOutside text) e is }

-- where each answer is a yes, each outcome is
passes_by : (text : List ℕ) → ((answer : Result Verdict ReadEnd) → IsAnswer text answer → SaysYes answer) → Passes text
passes_by text each (outcomes.Judged v) is = yes_status v (each (Ok v) (judged text v is))
passes_by text each (outcomes.BadLine n) is = absurd (each (Err (ends.BadLine n)) (outside text n is))

module _ (script : Script) (capture : Capture) (lookers passes : ℕ) (e : Ended) (t : Told) (is : IsToldBy script capture lookers passes e t) where
  abbrev race : Race
  race = race_of script capture lookers passes e is.finished t.looked

  -- each change is of one of the slots
  pub fits : FitSlots t.shape.slots t.book
  fits = subst (λ (s : Told). FitSlots s.shape.slots s.book) (sym is.told_is) is.lawful.book.slots

  -- and no number stands twice
  pub differ : StampsDiffer t.book
  differ = subst (λ (s : Told). StampsDiffer s.book) (sym is.told_is) (numbers_tell script capture race is.lawful).distinct

  -- so what is written of the script's commands and of that is what a race writes for these bytes
  pub race_out : (bytes text : List ℕ) → AreBytes bytes → length bytes ≤ 2 ^ 24 → lookers < 2 ^ 64 → passes < 2 ^ 64 → IsSmall script
      → IsScript modes.Race bytes script
      → IsCapture (capture_device script.capture) (capture_namespace script.capture) (capture_bytes script.capture bytes) capture
      → text ≡ told_text script.sections t → IsRaceOf lookers passes bytes text
  race_out bytes text are within few_lookers few_passes small script_is capture_is text_is =
      let out : RaceOut lookers passes bytes text = (
        script,
        capture,
        race,
        record { script_is = script_is; capture_is = capture_is },
        is.lawful,
        is.finished.lookers_are,
        refl,
        text_is ∙ ap (told_text script.sections) is.told_is ∙ lawful_text script capture race is.lawful,
      ) in (
        out,
        λ s c r has lawful. says s c r (subst IsSmall (one_script modes.Race bytes script s script_is has.script_is) small) lawful,
        passes_by text (written_passes lookers passes bytes text few_lookers few_passes are within out),
      )
