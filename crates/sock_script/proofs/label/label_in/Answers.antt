use Rattle.std.proofs.Common.{refl, arith}
use Rattle.sock_script.proofs.LabelTable.{in_row}
use Rattle.sock_script.proofs.label.label_in.Goals as goal

pub returns : goal.returns
returns c = in_row c.args.row.now c.args.number _ _ _ _ c.unwrap_or.ensures c.copied.ensures (c.get.ensures.lookup.4 (omega arith) _) refl
