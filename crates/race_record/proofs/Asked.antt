-- What holds of all that a plan asks for holds of its deeds, and of its result.
use Rattle.std.proofs.Common.{ℕ, List, [], ◌∷◌, Option, sym, subst}
use Rattle.list_words.specs.Lists.{Each}
use Rattle.sock_card.specs.declared.card.Card.{Card}
use Rattle.turn_table.specs.declared.note.Note.{Note}
use Rattle.bind_buckets.specs.declared.request.Request.{Request}
use Rattle.bind_buckets.specs.declared.request.Entry.{Entry}
use Rattle.chain_book.specs.declared.book.Change.{Change}
use Rattle.chain_book.specs.declared.outcome.Place.{Place}
use Rattle.table_model.specs.Asking.{Asking, ends, asks, inserts, adds, unhashes, reaps}
use Rattle.table_model.proofs.commands.Asks.{AsksOnly}
use Rattle.race_record.specs.Deeds.{Wish, Tried, Deed, entered, inserted, added, left, reaped}
use Rattle.race_record.specs.Goes.{Goes, Grants, Admits, IsUnhashAt, IsReapOf, outcome_of, was_there}

module _ (Asked : ℕ → Request → Type 0) (Hashes : Card → Type 0) (Leaves : Place → Card → Type 0) (Is : Deed → Type 0) where
  -- a step's deed is so where what the step asks for is
  pub record Steps : Type 0 where
    pub of_entry : (key : ℕ) (note : Note Entry) → Asked key note.entry.request → Is (entered key note)
    pub of_insert : (wish : Wish) (tried : Tried) → Hashes wish.card → Grants wish tried → Is (inserted wish tried)
    pub of_add : (card : Card) (tried : Tried) → Hashes card → Admits card tried → Is (added card tried)
    pub of_leave : (place : Place) (card : Card) (u : Change) → Leaves place card → IsUnhashAt place card u → Is (left u)
    pub of_reap : (card : Card) (unhash : Option Change) → IsReapOf card unhash → Is (reaped card unhash)

  pub all_so : Steps → {R : Type 0} (Q : R → Type 0) (p : Asking R) (deeds : List Deed) (r : R) → AsksOnly Asked Hashes Leaves Q p → Goes p deeds r → Each Is deeds × Q r
  all_so s Q (ends x) [] r h g = (tt, subst Q (sym g) h)
  all_so s Q (asks port request then_) (entered k note ∷ deeds) r h g =
      let z = all_so s Q (then_ note.entry.answer) deeds r (h.1 note.entry.answer) g.2 in
      ((s.of_entry k note (subst (λ (q : Request). Asked k q) (sym g.1) (subst (λ (n : ℕ). Asked n request) (sym g.0) h.0)), z.0), z.1)
  all_so s Q (inserts card moment rule then_) (inserted wish tried ∷ deeds) r h g =
      let z = all_so s Q (then_ (outcome_of tried)) deeds r (h.1 (outcome_of tried)) g.2 in
      ((s.of_insert wish tried (subst (λ (w : Wish). Hashes w.card) (sym g.0) h.0) g.1, z.0), z.1)
  all_so s Q (adds card then_) (added c tried ∷ deeds) r h g =
      let z = all_so s Q (then_ (outcome_of tried)) deeds r (h.1 (outcome_of tried)) g.2 in
      ((s.of_add c tried (subst Hashes (sym g.0) h.0) (subst (λ (x : Card). Admits x tried) (sym g.0) g.1), z.0), z.1)
  all_so s Q (unhashes place card then_) (left u ∷ deeds) r h g =
      let z = all_so s Q then_ deeds r h.1 g.1 in
      ((s.of_leave place card u h.0 g.0, z.0), z.1)
  all_so s Q (reaps card then_) (reaped c unhash ∷ deeds) r h g =
      let z = all_so s Q (then_ (was_there unhash)) deeds r (h (was_there unhash)) g.2 in
      ((s.of_reap c unhash (subst (λ (x : Card). IsReapOf x unhash) (sym g.0) g.1), z.0), z.1)
  all_so s Q p deeds r h g = absurd g
