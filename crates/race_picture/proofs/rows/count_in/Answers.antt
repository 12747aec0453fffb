use Rattle.race_picture.proofs.Counted.{counted}
use Rattle.race_picture.proofs.rows.count_in.Goals as goal

pub returns : goal.returns
returns c = counted c.args.word.now _ c.number_of.ensures.spelled c.number_of.ensures.in_range c.number_of.ensures.none
