use Rattle.book_audit.specs.declared.printed.Why.TheVariants as whys
use Rattle.book_audit.proofs.Serial.{sound_serial}
use Rattle.book_audit.proofs.Numbers.{sound_differ}
use Rattle.record_reader.proofs.laws.yes_is_sound.Goals as goal

pub returns : goal.returns
returns c text lives packets clock v = (
  v.record_lines,
  v.printed,
  v.reads,
  record {
    serial = sound_serial v.printed v.answers.0;
    once = sound_differ v.printed v.answers.0;
    explained = v.answers.0 whys.Receipt;
    counted = v.answers.0 whys.Count;
  },
)
