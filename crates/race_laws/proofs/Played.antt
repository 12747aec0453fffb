-- Plans, and deeds at tables where nobody else is.
use Rattle.std.proofs.Common.{◌≡◌, ℕ, Bool, List, [], ◌∷◌, ◌++◌, Some, refl, sym, ap, ◌∙◌, subst}
use Rattle.sock_card.specs.declared.card.Card.{Card}
use Rattle.bind_buckets.specs.declared.request.Request.{Request}
use Rattle.bind_buckets.specs.declared.request.Answer.{Answer}
use Rattle.bind_buckets.specs.BindHash.{asked_at, answer_at}
use Rattle.chain_book.specs.declared.outcome.Place.{Place}
use Rattle.chain_book.specs.Chains.{Outcome, insert_outcome, hashed as hashed_in, unhashed, waiting}
use Rattle.table_model.specs.Asking.{Asking, ends, asks, inserts, adds, unhashes, reaps}
use Rattle.table_model.specs.Tables.{Tables, Ended, run, with_buckets, with_chains, was_found, reaped as reaped_from}
use Rattle.race_record.specs.Deeds.{Wish, Deed, entered, inserted, added, left, reaped}
use Rattle.race_record.specs.Goes.{Goes, outcome_of, was_there}
use Rattle.race_laws.specs.Plays.{Plays, tables_after}

module _ {R : Type 0} where
  abbrev ended : Tables → R → Ended R
  ended after result = record { tables = after; result = result }

  pub played_runs : (p : Asking R) (t after : Tables) (deeds : List Deed) (result : R) → Goes p deeds result → Plays t deeds after → run t p ≡ Some (ended after result)
  played_runs (ends r) t after [] result g q = ap Some (λ i. ended (sym q i) (sym g i))
  played_runs (asks port request then_) t after (entered p note ∷ deeds) result g q =
      let h : run (with_buckets t (asked_at t.buckets p note.entry.request)) (then_ note.entry.answer) ≡ Some (ended after result) =
      played_runs (then_ note.entry.answer) (tables_after t (entered p note)) after deeds result g.2 q.1 in
      let a : note.entry.answer ≡ answer_at t.buckets port request =
      q.0 ∙ λ i. answer_at t.buckets (g.0 i) (g.1 i) in
      subst (λ (x : Answer). run (with_buckets t (asked_at t.buckets port request)) (then_ x) ≡ Some (ended after result)) a
      (subst (λ (r : Request). run (with_buckets t (asked_at t.buckets port r)) (then_ note.entry.answer) ≡ Some (ended after result)) g.1
      (subst (λ (k : ℕ). run (with_buckets t (asked_at t.buckets k note.entry.request)) (then_ note.entry.answer) ≡ Some (ended after result)) g.0 h))
  played_runs (inserts card moment rule then_) t after (inserted wish tried ∷ deeds) result g q =
      let h : run (with_chains t (hashed_in t.chains wish.card (outcome_of tried))) (then_ (outcome_of tried)) ≡ Some (ended after result) =
      played_runs (then_ (outcome_of tried)) (tables_after t (inserted wish tried)) after deeds result g.2 q.1 in
      let o : outcome_of tried ≡ insert_outcome t.chains card moment rule =
      q.0 ∙ ap (λ (w : Wish). insert_outcome t.chains w.card w.moment w.rule) g.0 in
      subst (λ (x : Outcome). run (with_chains t (hashed_in t.chains card x)) (then_ x) ≡ Some (ended after result)) o
      (subst (λ (w : Wish). run (with_chains t (hashed_in t.chains w.card (outcome_of tried))) (then_ (outcome_of tried)) ≡ Some (ended after result)) g.0 h)
  played_runs (adds card then_) t after (added c tried ∷ deeds) result g q =
      let h : run (with_chains t (hashed_in t.chains c (outcome_of tried))) (then_ (outcome_of tried)) ≡ Some (ended after result) =
      played_runs (then_ (outcome_of tried)) (tables_after t (added c tried)) after deeds result g.2 q.1 in
      subst (λ (x : Outcome). run (with_chains t (hashed_in t.chains card x)) (then_ x) ≡ Some (ended after result)) q.0
      (subst (λ (x : Card). run (with_chains t (hashed_in t.chains x (outcome_of tried))) (then_ (outcome_of tried)) ≡ Some (ended after result)) g.0 h)
  played_runs (unhashes place card then_) t after (left u ∷ deeds) result g q =
      let h : run (with_chains t (unhashed t.chains (record { bucket = u.bucket; slot = u.slot }))) then_ ≡ Some (ended after result) =
      played_runs then_ (tables_after t (left u)) after deeds result g.1 q.1 in
      subst (λ (p : Place). run (with_chains t (unhashed t.chains p)) then_ ≡ Some (ended after result)) (λ i. record { bucket = g.0.bucket i; slot = g.0.slot i }) h
  played_runs (reaps card then_) t after (reaped c unhash ∷ deeds) result g q =
      let h : run (with_chains t (reaped_from t.chains c (waiting t.chains c))) (then_ (was_there unhash)) ≡ Some (ended after result) =
      played_runs (then_ (was_there unhash)) (tables_after t (reaped c unhash)) after deeds result g.2 q.1 in
      let o : was_there unhash ≡ was_found (waiting t.chains card) = q.0 ∙ ap (λ (x : Card). was_found (waiting t.chains x)) g.0 in
      subst (λ (b : Bool). run (with_chains t (reaped_from t.chains card (waiting t.chains card))) (then_ b) ≡ Some (ended after result)) o
      (subst (λ (x : Card). run (with_chains t (reaped_from t.chains x (waiting t.chains x))) (then_ (was_there unhash)) ≡ Some (ended after result)) g.0 h)
  played_runs p t after deeds result g q = absurd g

-- deeds, and then others
pub record PlaysTwo (t : Tables) (xs ys : List Deed) (after : Tables) : Type 0 where
  pub between : Tables
  pub first : Plays t xs between
  pub then_ : Plays between ys after

pub plays_two : (t : Tables) (xs ys : List Deed) (after : Tables) → Plays t (xs ++ ys) after → PlaysTwo t xs ys after
plays_two t [] ys after p = record { between = t; first = refl; then_ = p }
plays_two t (x ∷ xs) ys after p =
    let r = plays_two (tables_after t x) xs ys after p.1 in record { between = r.between; first = (p.0, r.first); then_ = r.then_ }
