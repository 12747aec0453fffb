use Rattle.capture_reader.proofs.Captures.{some_capture, no_other}
use Rattle.capture_reader.proofs.law.some_capture.Goals as goal

pub returns : goal.returns
returns c = record { each = some_capture; no_other = no_other }
