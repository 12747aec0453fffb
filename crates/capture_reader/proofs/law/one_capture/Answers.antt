use Rattle.capture_reader.proofs.Captures.{one_capture}
use Rattle.capture_reader.proofs.law.one_capture.Goals as goal

pub returns : goal.returns
returns c = one_capture
