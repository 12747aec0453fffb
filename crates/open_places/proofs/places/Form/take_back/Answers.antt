use Rattle.std.proofs.Common.{sym, ap, ◌∙◌}
use Rattle.open_places.specs.Forms.{in_array, places_in}
use Rattle.open_places.proofs.Arrays.{array_back}
use Rattle.open_places.proofs.places.Form.take_back.Goals as goal

pub returns-in-Array : goal.returns-in-Array
returns-in-Array g c before is =
    ap in_array c.take_back.ensures ∙ array_back c.in-Array.array before (sym (ap places_in c.in-Array.is) ∙ is)
