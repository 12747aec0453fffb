use Rattle.std.proofs.Common.{Some, sym, ap, ◌∙◌}
use Rattle.open_places.specs.Forms.{places_in}
use Rattle.open_places.proofs.Arrays.{array_holds_now, array_moves}
use Rattle.open_places.proofs.Pages.{put_kept}
use Rattle.open_places.proofs.places.Form.put.Goals as goal

pub put-requires : goal.put-requires
put-requires g c =
    record { kept = sym (array_holds_now c.in-Array.array (places_in c.args.self.now) c.args.place (sym (ap places_in c.in-Array.is))).kept ∙ c.requires.kept }

pub returns-in-Array-clause-put : goal.returns-in-Array-clause-put
returns-in-Array-clause-put g c =
    (array_moves c.in-Array.array c.put.new.self (places_in c.args.self.now) c.args.place (sym (ap places_in c.in-Array.is)) (Some (Some c.args.value)) c.put.ensures).cells

pub returns-in-Array-clause-kept : goal.returns-in-Array-clause-kept
returns-in-Array-clause-kept g c =
    put_kept (places_in c.args.self.now) _ c.args.place c.args.value
    (array_moves c.in-Array.array c.put.new.self (places_in c.args.self.now) c.args.place (sym (ap places_in c.in-Array.is)) (Some (Some c.args.value)) c.put.ensures) c.requires.kept
