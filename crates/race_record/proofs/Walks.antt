-- What a plan tries to hash, in a state that each try may change, and what it comes to, whatever the tables answer:
-- read `Walk`, then `Tries`, then `comes`.
use Rattle.std.proofs.Common.{◌≡◌, ℕ, Bool, true, false, List, [], ◌∷◌, Option, None, Some, if◌then◌else◌, sym, ap, subst}
use Rattle.list_words.specs.Lists.{Each}
use Rattle.list_words.proofs.EachLemmas.{each_of_all}
use Rattle.sock_card.specs.declared.card.Card.{Card}
use Rattle.sock_card.specs.declared.owner.Owner.{Owner}
use Rattle.sock_card.specs.declared.owner.State.{State}
use Rattle.sock_card.specs.declared.owner.State.TheVariants as states
use Rattle.turn_table.specs.declared.note.Note.{Note}
use Rattle.bind_buckets.specs.declared.request.Answer.{Answer}
use Rattle.bind_buckets.specs.declared.request.Answer.TheVariants as answers
use Rattle.bind_buckets.specs.declared.request.Entry.{Entry}
use Rattle.chain_book.specs.declared.book.Change.{Change}
use Rattle.chain_book.specs.declared.outcome.Hashed.{Hashed}
use Rattle.chain_book.specs.declared.outcome.Place.{Place}
use Rattle.chain_book.specs.Chains.{Outcome}
use Rattle.table_model.specs.Asking.{Asking, ends, asks, inserts, adds, unhashes, reaps, impossible, and_then}
use Rattle.table_model.specs.Own.{Mine}
use Rattle.table_model.specs.Operations as op
use Rattle.race_record.specs.Deeds.{Wish, Tried, Deed, entered, inserted, added, left, reaped}
use Rattle.race_record.specs.Goes.{Goes, Grants, Admits, IsUnhashAt, IsReapOf, outcome_of, was_there}

-- a state before each try; which card may be tried in it; a fact of each outcome that may come; and the state after it
pub record Walk : Type 1 where
  pub Known : Type 0
  pub May : Known → Card → Type 0
  pub Every : (Outcome → Type 0) → Type 0
  pub after : Known → Card → Outcome → Known
  pub weaken : (P Q : Outcome → Type 0) → ((o : Outcome) → P o → Q o) → Every P → Every Q

-- of a walk in which every outcome may come
abbrev pub AnyTried : Tried → Type 0
AnyTried tried = Unit {0}

pub any_outcome : (P : Outcome → Type 0) (tried : Tried) → AnyTried tried → ((o : Outcome) → P o) → P (outcome_of tried)
any_outcome P tried u h = h (outcome_of tried)

module _ (w : Walk) where
  -- from that state on the plan tries what may be tried, and comes to what Q says by the state that it ends in
  abbrev pub Tries : {R : Type 0} → (w.Known → R → Type 0) → w.Known → Asking R → Type 0
  Tries Q s (ends r) = Q s r
  Tries Q s (asks key request then_) = (a : Answer) → Tries Q s (then_ a)
  Tries Q s (inserts card moment rule then_) = w.May s card × w.Every (λ o. Tries Q (w.after s card o) (then_ o))
  Tries Q s (adds card then_) = w.May s card × w.Every (λ o. Tries Q (w.after s card o) (then_ o))
  Tries Q s (unhashes place card then_) = Tries Q s then_
  Tries Q s (reaps card then_) = (b : Bool) → Tries Q s (then_ b)
  Tries Q s impossible = Unit {0}

  -- one plan, and then the next
  pub tries_then : {R T : Type 0} (P : w.Known → R → Type 0) (Q : w.Known → T → Type 0) (p : Asking R) (next : R → Asking T) (s : w.Known) → Tries P s p
      → ((t : w.Known) (r : R) → P t r → Tries Q t (next r)) → Tries Q s (and_then p next)
  tries_then P Q (ends r) next s h f = f s r h
  tries_then P Q (asks key request then_) next s h f = λ a. tries_then P Q (then_ a) next s (h a) f
  tries_then P Q (inserts card moment rule then_) next s h f =
      (h.0, w.weaken (λ o. Tries P (w.after s card o) (then_ o)) (λ o. Tries Q (w.after s card o) (and_then (then_ o) next)) (λ o k. tries_then P Q (then_ o) next (w.after s card o) k f) h.1)
  tries_then P Q (adds card then_) next s h f =
      (h.0, w.weaken (λ o. Tries P (w.after s card o) (then_ o)) (λ o. Tries Q (w.after s card o) (and_then (then_ o) next)) (λ o k. tries_then P Q (then_ o) next (w.after s card o) k f) h.1)
  tries_then P Q (unhashes place card then_) next s h f = tries_then P Q then_ next s h f
  tries_then P Q (reaps card then_) next s h f = λ b. tries_then P Q (then_ b) next s (h b) f
  tries_then P Q impossible next s h f = tt

  module _ {R : Type 0} (Q : w.Known → R → Type 0) (s : w.Known) where
    pub tries_if : (b : Bool) (x y : Asking R) → Tries Q s x → Tries Q s y → Tries Q s (if b then x else y)
    tries_if true x y h k = h
    tries_if false x y h k = k

    -- the parts that operations share
    pub whenever_done : (next : Asking R) → Tries Q s next → (a : Answer) → Tries Q s (op.when_done next a)
    whenever_done next h answers.Done = h
    whenever_done next h _ = tt

    found_or_next : (found next : Asking R) → Tries Q s found → Tries Q s next → (a : Answer) → Tries Q s (op.found_next found next a)
    found_or_next found next h k answers.Done = h
    found_or_next found next h k (answers.InUse name) = k
    found_or_next found next h k _ = tt

    -- a search through ports of which each passes
    pub searched : (P : ℕ → Type 0) (a : Owner) (addr : ℕ) (found : ℕ → Asking R) (none : Asking R) (ports : List ℕ) → ((port : ℕ) → P port → Tries Q s (found port)) → Tries Q s none → Each P ports
        → Tries Q s (op.search_bind a addr found none ports)
    searched P a addr found none [] h k e = k
    searched P a addr found none (port ∷ ports) h k e =
        found_or_next (found port) (op.search_bind a addr found none ports) (h port e.0) (searched P a addr found none ports h k e.1)

    -- of whatever port
    pub searched_any : (a : Owner) (addr : ℕ) (found : ℕ → Asking R) (none : Asking R) (ports : List ℕ) → ((port : ℕ) → Tries Q s (found port)) → Tries Q s none → Tries Q s (op.search_bind a addr found none ports)
    searched_any a addr found none ports h k =
        let Any : ℕ → Type 0 = λ port. Unit {0} in
        searched Any a addr found none ports (λ port u. h port) k (each_of_all Any ports (λ port. tt))

    pub left_port : (a : Owner) (result : R) → Q s result → Tries Q s (op.leave a result)
    left_port a result q = whenever_done (ends result) q

    pub dropped : (state : State) (m : Mine) (result : R) → Q s result → Tries Q s (op.drop_as state m result)
    dropped states.Unbound m result q = q
    dropped states.Bound m result q = left_port m.owner result q
    dropped states.Listening m result q = left_port m.owner result q
    dropped states.Full m result q = left_port m.owner result q
    dropped states.Request m result q = q
    dropped states.TimeWait m result q = tt

    pub replaced_then : (old : Option Hashed) (next : Asking R) → Tries Q s next → Tries Q s (op.then_replaced old next)
    replaced_then None next h = h
    replaced_then (Some old) next h = λ answer. h

  -- `Fits` says which outcomes come, and `Makes` what deeds make of a state
  module _ (Fits : Tried → Type 0) (at : (P : Outcome → Type 0) (tried : Tried) → Fits tried → w.Every P → P (outcome_of tried)) (Makes : w.Known → List Deed → w.Known → Type 0) where
    abbrev pub DeedFits : Deed → Type 0
    DeedFits (inserted wish tried) = Fits tried
    DeedFits (added card tried) = Fits tried
    DeedFits _ = Unit {0}

    -- each deed in its turn
    pub record Steps : Type 0 where
      pub none : (s : w.Known) → Makes s [] s
      pub of_entry : (s t : w.Known) (key : ℕ) (note : Note Entry) (deeds : List Deed) → Makes s deeds t → Makes s (entered key note ∷ deeds) t
      pub of_insert : (s t : w.Known) (card : Card) (wish : Wish) (tried : Tried) (deeds : List Deed) → wish.card ≡ card → w.May s card → Grants wish tried
          → Makes (w.after s card (outcome_of tried)) deeds t → Makes s (inserted wish tried ∷ deeds) t
      pub of_add : (s t : w.Known) (card x : Card) (tried : Tried) (deeds : List Deed) → w.May s card → Admits card tried
          → Makes (w.after s card (outcome_of tried)) deeds t → Makes s (added x tried ∷ deeds) t
      pub of_leave : (s t : w.Known) (place : Place) (card : Card) (u : Change) (deeds : List Deed) → IsUnhashAt place card u → Makes s deeds t → Makes s (left u ∷ deeds) t
      pub of_reap : (s t : w.Known) (card x : Card) (unhash : Option Change) (deeds : List Deed) → IsReapOf card unhash → Makes s deeds t → Makes s (reaped x unhash ∷ deeds) t

    pub record Comes {R : Type 0} (Q : w.Known → R → Type 0) (s : w.Known) (deeds : List Deed) (r : R) : Type 0 where
      pub now : w.Known
      pub result : Q now r
      pub made : Makes s deeds now

    module _ (steps : Steps) {R : Type 0} (Q : w.Known → R → Type 0) where
      -- what such a plan comes to, by its deeds
      pub comes : (p : Asking R) (s : w.Known) (deeds : List Deed) (r : R) → Each DeedFits deeds → Tries Q s p → Goes p deeds r → Comes Q s deeds r
      comes (ends x) s [] r f h g = record { now = s; result = subst (Q s) (sym g) h; made = steps.none s }
      comes (asks key request then_) s (entered k note ∷ deeds) r f h g =
          let c : Comes Q s deeds r = comes (then_ note.entry.answer) s deeds r f.1 (h note.entry.answer) g.2 in
          record { now = c.now; result = c.result; made = steps.of_entry s c.now k note deeds c.made }
      comes (inserts card moment rule then_) s (inserted wish tried ∷ deeds) r f h g =
          let t : w.Known = w.after s card (outcome_of tried) in
          let c : Comes Q t deeds r = comes (then_ (outcome_of tried)) t deeds r f.1 (at (λ o. Tries Q (w.after s card o) (then_ o)) tried f.0 h.1) g.2 in
          record { now = c.now; result = c.result; made = steps.of_insert s c.now card wish tried deeds (ap (λ (x : Wish). x.card) g.0) h.0 g.1 c.made }
      comes (adds card then_) s (added x tried ∷ deeds) r f h g =
          let t : w.Known = w.after s card (outcome_of tried) in
          let c : Comes Q t deeds r = comes (then_ (outcome_of tried)) t deeds r f.1 (at (λ o. Tries Q (w.after s card o) (then_ o)) tried f.0 h.1) g.2 in
          record { now = c.now; result = c.result; made = steps.of_add s c.now card x tried deeds h.0 g.1 c.made }
      comes (unhashes place card then_) s (left u ∷ deeds) r f h g =
          let c : Comes Q s deeds r = comes then_ s deeds r f.1 h g.1 in
          record { now = c.now; result = c.result; made = steps.of_leave s c.now place card u deeds g.0 c.made }
      comes (reaps card then_) s (reaped x unhash ∷ deeds) r f h g =
          let c : Comes Q s deeds r = comes (then_ (was_there unhash)) s deeds r f.1 (h (was_there unhash)) g.2 in
          record { now = c.now; result = c.result; made = steps.of_reap s c.now card x unhash deeds g.1 c.made }
      comes p s deeds r f h g = absurd g

    -- where every outcome may come
    pub all_fit : ((tried : Tried) → Fits tried) → (deeds : List Deed) → Each DeedFits deeds
    all_fit fits [] = tt
    all_fit fits (inserted wish tried ∷ deeds) = (fits tried, all_fit fits deeds)
    all_fit fits (added card tried ∷ deeds) = (fits tried, all_fit fits deeds)
    all_fit fits (d ∷ deeds) = (tt, all_fit fits deeds)
