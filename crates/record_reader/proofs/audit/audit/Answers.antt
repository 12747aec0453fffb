use Rattle.std.proofs.Common.{◌<◌, List, count_by, refl, subst, sym}
use Rattle.book_audit.specs.Findings.{IsFinding}
use Rattle.record_reader.specs.declared.line.Line.{Line}
use Rattle.record_reader.specs.Verdicts.{IsLineOf, is_tried}
use Rattle.record_reader.proofs.Judged.{told_within}
use Rattle.record_reader.proofs.audit.audit.Goals as goal

pub returns-in-Sound-clause-verdict : goal.returns-in-Sound-clause-verdict
returns-in-Sound-clause-verdict c =
    rw c.yes.ensures (record {
      record_lines = c.in_ok-record.record.lines.items;
      printed = c.in_ok-record.record.printed;
      reads = c.in_ok-record.ensures.record;
      answers = (subst (IsFinding c.in_ok-record.record.printed) c.in-Sound.is c.in_ok-judge.ensures, refl, refl, refl);
    })

pub line_of-requires : goal.line_of-requires
line_of-requires c =
    let found = subst (IsFinding c.in_ok-record.record.printed) c.in-Wrong.is c.in_ok-judge.ensures in
    subst (λ (ls : List Line). c.in-Wrong.at < count_by (is_tried c.in-Wrong.why) ls) (sym c.deref.ensures.value)
    (told_within c.in_ok-record.record.lines.items c.in_ok-record.record.printed c.in-Wrong.why c.in-Wrong.at c.in_ok-record.ensures.record.told found.1)

pub returns-clause-verdict : goal.returns-clause-verdict
returns-clause-verdict c = record {
  record_lines = c.in_ok-record.record.lines.items;
  printed = c.in_ok-record.record.printed;
  reads = c.in_ok-record.ensures.record;
  answers = (
    c.in-Wrong.at,
    subst (IsFinding c.in_ok-record.record.printed) c.in-Wrong.is c.in_ok-judge.ensures,
    subst (λ (ls : List Line). IsLineOf c.in-Wrong.why ls c.in-Wrong.at c.line_of.result) c.deref.ensures.value c.line_of.ensures,
  );
}
