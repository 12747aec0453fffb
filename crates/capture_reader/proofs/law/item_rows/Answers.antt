use Rattle.std.proofs.Common.{refl}
use Rattle.capture_reader.specs.Numbers.{number}
use Rattle.capture_reader.specs.Items.{ip_item, frame_item}
use Rattle.capture_reader.proofs.law.item_rows.Goals as goal

pub returns : goal.returns
unfolding number ip_item frame_item
returns c = refl
