use Rattle.std.proofs.Common.{arith}
use Rattle.race_picture.proofs.Ticks.{tick_within}
use Rattle.race_picture.proofs.frame.tick_number.Goals as goal

pub overflow_mul-result : goal.overflow_mul-result
overflow_mul-result c = omega (arith, tick_within c.args.sheet.now.clock c.args.k c.unit.result c.unit.ensures c.requires)
