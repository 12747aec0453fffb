-- What deeds report leads a plan where the deeds do.
use Rattle.std.proofs.Common.{◌≡◌, ℕ, ◌%◌, List, [], ◌∷◌, map, refl, sym, ap}
use Rattle.turn_table.specs.Journals.{placed}
use Rattle.table_model.specs.Asking.{Asking, ends, asks, inserts, adds, unhashes, reaps}
use Rattle.table_model.specs.Goes as goes
use Rattle.race_record.specs.Deeds.{Wish, Deed, entered, inserted, added, left, reaped, entries_in}
use Rattle.race_record.specs.Goes.{Goes, outcome_of, was_there}
use Rattle.race_record.specs.Laws.{told_of}

module _ {R : Type 0} (buckets : ℕ) where
  pub goes_leads : (p : Asking R) (deeds : List Deed) (result : R) → Goes p deeds result → goes.Leads buckets p (map (told_of buckets) deeds) (ends result)
  goes_leads (ends r) [] result g = ap ends (sym g)
  goes_leads (asks port request then_) (entered p note ∷ deeds) result g =
      (then_ note.entry.answer, (ap (λ (k : ℕ). k % buckets) g.0, g.1, refl), goes_leads (then_ note.entry.answer) deeds result g.2)
  goes_leads (inserts card moment rule then_) (inserted wish tried ∷ deeds) result g =
      (then_ (outcome_of tried), (ap (λ (w : Wish). w.card) g.0, ap (λ (w : Wish). w.moment) g.0, ap (λ (w : Wish). w.rule) g.0, refl), goes_leads (then_ (outcome_of tried)) deeds result g.2)
  goes_leads (adds card then_) (added c tried ∷ deeds) result g =
      (then_ (outcome_of tried), (g.0, refl), goes_leads (then_ (outcome_of tried)) deeds result g.2)
  goes_leads (unhashes place card then_) (left u ∷ deeds) result g =
      let same : record { bucket = u.bucket; slot = u.slot } ≡ place = λ i. record { bucket = g.0.bucket i; slot = g.0.slot i } in
      (then_, (same, g.0.unhash.card_is, refl), goes_leads then_ deeds result g.1)
  goes_leads (reaps card then_) (reaped c unhash ∷ deeds) result g =
      (then_ (was_there unhash), (g.0, refl), goes_leads (then_ (was_there unhash)) deeds result g.2)
  goes_leads p deeds result g = absurd g

pub tells_entries : (buckets : ℕ) (deeds : List Deed) → entries_in buckets deeds ≡ goes.entries_in (map (told_of buckets) deeds)
tells_entries buckets [] = refl
tells_entries buckets (entered port note ∷ deeds) = ap (λ xs. placed (port % buckets) note ∷ xs) (tells_entries buckets deeds)
tells_entries buckets (inserted wish tried ∷ deeds) = tells_entries buckets deeds
tells_entries buckets (added card tried ∷ deeds) = tells_entries buckets deeds
tells_entries buckets (left u ∷ deeds) = tells_entries buckets deeds
tells_entries buckets (reaped card unhash ∷ deeds) = tells_entries buckets deeds
