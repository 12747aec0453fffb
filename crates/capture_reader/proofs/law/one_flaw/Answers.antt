use Rattle.std.proofs.Common.{◌∙◌, sym}
use Rattle.capture_reader.proofs.law.one_flaw.Goals as goal

pub returns : goal.returns
returns c bytes a b h k = h.flaw_is ∙ sym k.flaw_is
