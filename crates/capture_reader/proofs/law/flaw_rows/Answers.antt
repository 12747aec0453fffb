use Rattle.std.proofs.Common.{refl}
use Rattle.capture_reader.specs.Numbers.{number}
use Rattle.capture_reader.specs.Flaws.{head_flaw, header_flaw, section_flaw, marked_flaw, foreign_flaw}
use Rattle.capture_reader.proofs.law.flaw_rows.Goals as goal

pub returns : goal.returns
unfolding number head_flaw header_flaw section_flaw marked_flaw foreign_flaw
returns c = refl
