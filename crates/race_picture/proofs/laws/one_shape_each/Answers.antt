use Rattle.race_picture.proofs.Once.{one_bar, one_mark}
use Rattle.race_picture.proofs.laws.one_shape_each.Goals as goal

pub returns-clause-bars : goal.returns-clause-bars
returns-clause-bars c = λ all places n h. one_bar n all places h

pub returns-clause-marks : goal.returns-clause-marks
returns-clause-marks c = λ texts all n. one_mark n texts all
