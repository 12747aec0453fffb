-- How far a plan goes by deeds, whoever else is at the tables: our own. A plan that goes to its end is a record's
-- `Goes`.
use Rattle.std.specs.Prelude.{◌≡◌, List, [], ◌∷◌}
use Rattle.table_model.specs.Asking.{Asking, asks, inserts, adds, unhashes, reaps}
use Rattle.race_record.specs.Deeds.{Deed, entered, inserted, added, left, reaped}
use Rattle.race_record.specs.Goes.{Grants, Admits, IsUnhashAt, IsReapOf, outcome_of, was_there}

-- the plan's first question has that deed, by whose answer it goes on so
abbrev pub Takes : {R : Type 0} → Asking R → Deed → Asking R → Type 0
Takes (asks key request then_) (entered k note) next =
    (k ≡ key) × (note.entry.request ≡ request) × (next ≡ then_ note.entry.answer)
Takes (inserts card moment rule then_) (inserted wish tried) next =
    (wish ≡ record { card = card; moment = moment; rule = rule }) × Grants wish tried
    × (next ≡ then_ (outcome_of tried))
Takes (adds card then_) (added c tried) next = (c ≡ card) × Admits card tried × (next ≡ then_ (outcome_of tried))
Takes (unhashes place card then_) (left u) next = IsUnhashAt place card u × (next ≡ then_)
Takes (reaps card then_) (reaped c unhash) next = (c ≡ card) × IsReapOf card unhash × (next ≡ then_ (was_there unhash))
Takes _ _ next = ⊥

-- after these deeds, that is left of the plan
abbrev pub Leads : {R : Type 0} → Asking R → List Deed → Asking R → Type 0
Leads plan [] rest = plan ≡ rest
Leads {R} plan (deed ∷ deeds) rest = (next : Asking R) × Takes plan deed next × Leads next deeds rest
