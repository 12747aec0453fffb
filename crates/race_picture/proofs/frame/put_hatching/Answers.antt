use Rattle.race_picture.specs.Xml.{attribute_text}
use Rattle.race_picture.specs.Frame.{hatching}
use Rattle.race_picture.proofs.frame.put_hatching.Goals as goal

pub returns : goal.returns
unfolding hatching attribute_text
returns c = c.put.ensures
