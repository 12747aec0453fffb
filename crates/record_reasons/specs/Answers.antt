-- What is written of a text that is to be a record: our own.
use Rattle.std.specs.Prelude.{◌≡◌, ℕ, List, codes, Option}
use Rattle.book_audit.specs.declared.printed.Printed.{Printed}
use Rattle.book_audit.specs.declared.printed.Why.{Why}
use Rattle.record_reader.specs.declared.line.Line.{Line}
use Rattle.record_reader.specs.declared.audit.Verdict.TheVariants as verdicts
use Rattle.record_reader.specs.Words.{pieces_of}
use Rattle.record_reader.specs.Verdicts.{IsVerdict, Reads}
use Rattle.record_reasons.specs.declared.outside.Outside.{Outside}
use Rattle.record_reasons.specs.declared.answer.Outcome.{Outcome}
use Rattle.record_reasons.specs.declared.answer.Outcome.TheVariants as outcomes
use Rattle.record_reasons.specs.Outside.{IsOutside}
use Rattle.record_reasons.specs.Wanted.{outside_text}
use Rattle.record_reasons.specs.Texts.{refuted_text}

-- what is written of a record that passes
unfoldable pub passes_text : List ℕ
passes_text = codes "it is a record, and passes each test\n"

-- The text is a record that passes the audit; or no record, by that line; or a record that is refuted at that line. And
-- this is written of it.
abbrev pub IsExplained : List ℕ → Outcome → List ℕ → Type 0
IsExplained text outcomes.Passes written =
    (lives packets clock : ℕ) × IsVerdict text (verdicts.Yes lives packets clock) × (written ≡ passes_text)
IsExplained text (outcomes.BadLine n) written =
    (line : List ℕ) × (before : Option Line) × (reason : Outside) × IsOutside text n line before reason
    × (written ≡ outside_text n line before reason)
IsExplained text (outcomes.Refuted n) written =
    (why : Why) × (all : List Line) × (p : Printed) × IsVerdict text (verdicts.No n why) × Reads text all p
    × (written ≡ refuted_text (pieces_of text) p all n why)
