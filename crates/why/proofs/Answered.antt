-- A text has one answer.
use Rattle.std.proofs.Common.{◌≡◌, ◌⊎◌, ⊎_elim, ◌∙◌, ◌≤◌, ℕ, List, [], length, ap, refl, subst, sym}
use Rattle.flat_list.specs.Script.{Script}
use Rattle.capture_reader.specs.declared.flaw.HeadFlaw.{HeadFlaw}
use Rattle.capture_reader.specs.Header.{HasHeader}
use Rattle.sock_script.specs.declared.parse.Mode.{Mode}
use Rattle.sock_script.specs.Words.{lines_of}
use Rattle.sock_script.specs.Grammar.{capture_bytes}
use Rattle.sock_script.proofs.Fronts.{none_outside, one_first}
use Rattle.sock_script.proofs.Inside.{one_script}
use Rattle.refusals.specs.Reasons.{IsSound, HasBadCapture}
use Rattle.book_audit.specs.declared.printed.Why.{Why}
use Rattle.record_reader.specs.declared.audit.Verdict.TheVariants as verdicts
use Rattle.record_reader.proofs.OneAnswer.{excludes_records, one_first as one_bad_line, one_verdict}
use Rattle.record_reasons.specs.declared.answer.Outcome.{Outcome}
use Rattle.record_reasons.specs.declared.answer.Outcome.TheVariants as outcomes
use Rattle.record_reasons.specs.Answers.{IsExplained}
use Rattle.why.specs.declared.input.Input.{Input}
use Rattle.why.specs.declared.input.Input.TheVariants as inputs
use Rattle.why.specs.declared.status.Status.{Status}
use Rattle.why.specs.declared.status.Status.TheVariants.{Done, Usage, BadScript, BadCapture, TooLong, ReadFault, WriteFault, Memory, BadRecord, Refuted}
use Rattle.why.specs.Written.{Answers, IsAnswer, IsScriptAnswer, IsEnd, limit, outcome_status}

module _ (mode : Mode) (bytes : List ℕ) where
  -- a capture that is read isn't refused
  not_both : (flaw : HeadFlaw) → IsSound mode bytes → HasBadCapture mode bytes flaw → ⊥
  not_both flaw sound bad =
      let same : sound.0 ≡ bad.0 = one_script mode bytes sound.0 bad.0 sound.1 bad.1 in
      let read = subst (λ (s : Script). (capture_bytes s.capture bytes ≡ []) ⊎ HasHeader (capture_bytes s.capture bytes)) same sound.2 in
      ⊎_elim (λ e. bad.2.some e) (λ h. bad.2.headless h) read

  one_script_answer : (a b : Status) (s t : List ℕ) → IsScriptAnswer mode bytes a s → IsScriptAnswer mode bytes b t → a ≡ b
  one_script_answer Done Done s t h k = refl
  one_script_answer Done (BadScript n) s t h k = absurd (none_outside mode (lines_of bytes) n k.2.first (h.0.0, h.0.1))
  one_script_answer Done BadCapture s t h k = absurd (not_both k.0 h.0 k.1)
  one_script_answer (BadScript n) Done s t h k = absurd (none_outside mode (lines_of bytes) n h.2.first (k.0.0, k.0.1))
  one_script_answer (BadScript m) (BadScript n) s t h k = ap BadScript (one_first mode (lines_of bytes) m n h.2.first k.2.first)
  one_script_answer (BadScript n) BadCapture s t h k = absurd (none_outside mode (lines_of bytes) n h.2.first (k.1.0, k.1.1))
  one_script_answer BadCapture Done s t h k = absurd (not_both h.0 k.0 h.1)
  one_script_answer BadCapture (BadScript n) s t h k = absurd (none_outside mode (lines_of bytes) n k.2.first (h.1.0, h.1.1))
  one_script_answer BadCapture BadCapture s t h k = refl
  one_script_answer a Usage s t h k = absurd k
  one_script_answer a TooLong s t h k = absurd k
  one_script_answer a ReadFault s t h k = absurd k
  one_script_answer a WriteFault s t h k = absurd k
  one_script_answer a Memory s t h k = absurd k
  one_script_answer a (BadRecord n) s t h k = absurd k
  one_script_answer a (Refuted n) s t h k = absurd k
  one_script_answer Usage b s t h k = absurd h
  one_script_answer TooLong b s t h k = absurd h
  one_script_answer ReadFault b s t h k = absurd h
  one_script_answer WriteFault b s t h k = absurd h
  one_script_answer Memory b s t h k = absurd h
  one_script_answer (BadRecord n) b s t h k = absurd h
  one_script_answer (Refuted n) b s t h k = absurd h

apart : (lives packets clock n : ℕ) (why : Why) → verdicts.Yes lives packets clock ≡ verdicts.No n why → ⊥
apart lives packets clock n why e = absurd (cc)

same_line : (m n : ℕ) (v w : Why) → verdicts.No m v ≡ verdicts.No n w → m ≡ n
same_line m n v w e = cc

module _ (bytes : List ℕ) where
  one_outcome : (a b : Outcome) (s t : List ℕ) → IsExplained bytes a s → IsExplained bytes b t → a ≡ b
  one_outcome outcomes.Passes outcomes.Passes s t h k = refl
  one_outcome outcomes.Passes (outcomes.BadLine n) s t h k = absurd (excludes_records bytes n h.3.record_lines k.3.first h.3.reads.is)
  one_outcome outcomes.Passes (outcomes.Refuted n) s t h k =
      absurd (apart h.0 h.1 h.2 n k.0 (one_verdict bytes (verdicts.Yes h.0 h.1 h.2) (verdicts.No n k.0) h.3 k.3))
  one_outcome (outcomes.BadLine m) outcomes.Passes s t h k = absurd (excludes_records bytes m k.3.record_lines h.3.first k.3.reads.is)
  one_outcome (outcomes.BadLine m) (outcomes.BadLine n) s t h k = ap outcomes.BadLine (one_bad_line bytes m n h.3.first k.3.first)
  one_outcome (outcomes.BadLine m) (outcomes.Refuted n) s t h k = absurd (excludes_records bytes m k.3.record_lines h.3.first k.3.reads.is)
  one_outcome (outcomes.Refuted m) outcomes.Passes s t h k =
      absurd (apart k.0 k.1 k.2 m h.0 (one_verdict bytes (verdicts.Yes k.0 k.1 k.2) (verdicts.No m h.0) k.3 h.3))
  one_outcome (outcomes.Refuted m) (outcomes.BadLine n) s t h k = absurd (excludes_records bytes n h.3.record_lines k.3.first h.3.reads.is)
  one_outcome (outcomes.Refuted m) (outcomes.Refuted n) s t h k =
      ap outcomes.Refuted (same_line m n h.0 k.0 (one_verdict bytes (verdicts.No m h.0) (verdicts.No n k.0) h.3 k.3))

pub one_answer : (input : Input) (bytes : List ℕ) (a b : Status) (s t : List ℕ) → IsAnswer input bytes a s → IsAnswer input bytes b t → a ≡ b
one_answer (inputs.Script mode) bytes a b s t h k = one_script_answer mode bytes a b s t h k
one_answer inputs.Record bytes a b s t h k =
    h.2 ∙ ap outcome_status (one_outcome bytes h.0 k.0 s t h.1 k.1) ∙ sym k.2

module _ (input : Input) (bytes : List ℕ) where
  -- bytes within the limit get the status of their answer
  pub answered : (status : Status) (text : List ℕ) → length bytes ≤ limit → IsAnswer input bytes status text → IsEnd status → Answers input bytes status
  answered Done text within h end = (within, (text, h))
  answered (BadScript n) text within h end = (within, (text, h))
  answered BadCapture text within h end = (within, (text, h))
  answered (BadRecord n) text within h end = (within, (text, h))
  answered (Refuted n) text within h end = (within, (text, h))
  answered Usage text within h end = absurd end
  answered TooLong text within h end = absurd end
  answered ReadFault text within h end = absurd end
  answered WriteFault text within h end = absurd end
  answered Memory text within h end = absurd end
