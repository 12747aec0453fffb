use Rattle.record_reader.proofs.Shapes.{tells_shape}
use Rattle.record_reader.proofs.tell.tell.Goals as goal

pub shape_in-seed-requires : goal.shape_in-seed-requires
shape_in-seed-requires c = tells_shape c.args.lines.now c.requires.order c.requires.ends
