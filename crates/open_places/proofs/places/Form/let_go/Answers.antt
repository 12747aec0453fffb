use Rattle.std.proofs.Common.{None, sym, ap, ◌∙◌}
use Rattle.open_places.specs.Forms.{places_in}
use Rattle.open_places.proofs.Arrays.{array_moves}
use Rattle.open_places.proofs.Pages.{gone_cells}
use Rattle.open_places.proofs.places.Form.let_go.Goals as goal

pub returns-in-Array-clause-same : goal.returns-in-Array-clause-same
returns-in-Array-clause-same g c =
    gone_cells (places_in c.args.self.now) _ c.args.place (array_moves c.in-Array.array c.let_go.new.self (places_in c.args.self.now) c.args.place (sym (ap places_in c.in-Array.is)) None c.let_go.ensures) c.requires.empty

pub returns-in-Array-clause-kept : goal.returns-in-Array-clause-kept
returns-in-Array-clause-kept g c =
    (array_moves c.in-Array.array c.let_go.new.self (places_in c.args.self.now) c.args.place (sym (ap places_in c.in-Array.is)) None c.let_go.ensures).kept
