use Rattle.std.proofs.Common.{◌≡◌, OnErr, OnOk, false, length, sym, ap, subst, true}
use Rattle.std.specs.List.{slice_index_or}
use Rattle.open_places.specs.Cells.{one_more}
use Rattle.open_places.specs.Forms.{places_in}
use Rattle.open_places.proofs.Arrays.{on_err_same, on_ok_kept, on_ok_more}
use Rattle.open_places.proofs.places.Form.give.Goals as goal

pub returns-in-Array-clause-given : goal.returns-in-Array-clause-given
returns-in-Array-clause-given g c =
    on_ok_more c.in-Array.array c.give.new.self (places_in c.args.self.now) (sym (ap places_in c.in-Array.is)) c.give.result c.give.ensures.given

pub returns-in-Array-clause-kept : goal.returns-in-Array-clause-kept
returns-in-Array-clause-kept g c =
    on_ok_kept c.in-Array.array c.give.new.self (places_in c.args.self.now) (sym (ap places_in c.in-Array.is)) c.give.result c.give.ensures.given

pub returns-in-Array-clause-err : goal.returns-in-Array-clause-err
returns-in-Array-clause-err g c =
    on_err_same c.in-Array.array c.give.new.self (places_in c.args.self.now) (sym (ap places_in c.in-Array.is)) c.give.result c.give.ensures.err

pub returns-in-Pages-clause-given : goal.returns-in-Pages-clause-given
returns-in-Pages-clause-given g c =
    subst (λ f. OnOk c.give-in-Pages.result (c.give-in-Pages.new.self ≡ one_more (places_in f))) (sym c.in-Pages.is) c.give-in-Pages.ensures.given

pub returns-in-Pages-clause-kept : goal.returns-in-Pages-clause-kept
returns-in-Pages-clause-kept g c =
    subst (λ f. OnOk c.give-in-Pages.result (slice_index_or c.give-in-Pages.new.self.kept (length (places_in f).cells) false ≡ true)) (sym c.in-Pages.is) c.give-in-Pages.ensures.kept

pub returns-in-Pages-clause-err : goal.returns-in-Pages-clause-err
returns-in-Pages-clause-err g c =
    subst (λ f. OnErr c.give-in-Pages.result (c.give-in-Pages.new.self ≡ places_in f)) (sym c.in-Pages.is) c.give-in-Pages.ensures.err
