use Rattle.std.proofs.Common.{None, sym, ap, ◌∙◌}
use Rattle.open_places.specs.Forms.{places_in}
use Rattle.open_places.specs.Pages.{cell_on}
use Rattle.open_places.proofs.Arrays.{array_holds_now, array_moves}
use Rattle.open_places.proofs.Pages.{emptied, taken_cells, taken_kept, taken_there}
use Rattle.open_places.proofs.places.Form.take.Goals as goal

pub returns-in-Array-clause-value : goal.returns-in-Array-clause-value
returns-in-Array-clause-value g c =
    c.take.ensures.value ∙ sym (array_holds_now c.in-Array.array (places_in c.args.self.now) c.args.place (sym (ap places_in c.in-Array.is))).value

pub returns-in-Array-clause-after : goal.returns-in-Array-clause-after
returns-in-Array-clause-after g c =
    taken_cells (places_in c.args.self.now) _ c.args.place (cell_on c.in-Array.array c.args.place)
    (array_moves c.in-Array.array c.take.new.self (places_in c.args.self.now) c.args.place (sym (ap places_in c.in-Array.is)) (emptied (cell_on c.in-Array.array c.args.place)) c.take.ensures.after)

pub returns-in-Array-clause-kept : goal.returns-in-Array-clause-kept
returns-in-Array-clause-kept g c =
    taken_kept (places_in c.args.self.now) _ c.args.place (cell_on c.in-Array.array c.args.place)
    (array_holds_now c.in-Array.array (places_in c.args.self.now) c.args.place (sym (ap places_in c.in-Array.is)))
    (array_moves c.in-Array.array c.take.new.self (places_in c.args.self.now) c.args.place (sym (ap places_in c.in-Array.is)) (emptied (cell_on c.in-Array.array c.args.place)) c.take.ensures.after)

pub returns-in-Array-clause-there : goal.returns-in-Array-clause-there
returns-in-Array-clause-there g c some =
    taken_there (places_in c.args.self.now) (places_in c.args.self.now) c.args.place (cell_on c.in-Array.array c.args.place)
    (array_holds_now c.in-Array.array (places_in c.args.self.now) c.args.place (sym (ap places_in c.in-Array.is))) (λ none. some (c.take.ensures.value ∙ none))
