use Rattle.capture_reader.proofs.Rows.{rows}
use Rattle.capture_reader.proofs.law.capture_rows.Goals as goal

pub returns : goal.returns
returns c = rows
