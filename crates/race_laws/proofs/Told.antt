-- What plain tables make of a plan, described by deeds.
use Rattle.std.proofs.Common.{◌≡◌, ℕ, Bool, true, false, ◌&&◌, ◌||◌, not, List, [], ◌∷◌, Option, Some, None, find, cond, unwrap_or, length, inl, inr, refl, sym, ap, ◌∙◌, subst}
use Rattle.std.proofs.lemmas.Bool.{true≢false}
use Rattle.sock_card.specs.declared.card.Card.{Card}
use Rattle.sock_card.specs.TimeWait.{is_time_wait_kind}
use Rattle.turn_table.specs.declared.note.Note.{Note}
use Rattle.bind_buckets.specs.declared.request.Entry.{Entry}
use Rattle.bind_buckets.specs.BindHash.{asked_at, answer_at}
use Rattle.chain_book.specs.declared.book.Act.{Act}
use Rattle.chain_book.specs.declared.book.Act.TheVariants as acts
use Rattle.chain_book.specs.declared.book.Change.{Change}
use Rattle.chain_book.specs.declared.outcome.Hashed.{Hashed}
use Rattle.chain_book.specs.Tuples.{same_cards, may_replace, claims_tuple}
use Rattle.chain_book.specs.Chains.{Chains, Outcome, put, insert_outcome, add_outcome, slot_outcome, tried as tried_in, keeps, waits, row_at, home_in, hashed as hashed_in, unhashed, waiting}
use Rattle.chain_book.specs.Slots.{free_slot}
use Rattle.race_book.specs.Among.{Among}
use Rattle.table_model.specs.Asking.{Asking, ends, asks, inserts, adds, unhashes, reaps, impossible}
use Rattle.table_model.specs.Tables.{Tables, Ended, run, with_buckets, with_chains, was_found, reaped as reaped_from}
use Rattle.table_model.specs.Commands.{Replied}
use Rattle.race_record.specs.Deeds.{Wish, Tried, hashed, kept_out, no_slot, Deed, entered, inserted, added, left, reaped}
use Rattle.race_record.specs.Goes.{Goes, Grants, Admits, IsReapOf, outcome_of, was_there}
use Rattle.race_laws.specs.Plays.{Plays, GoesTo}

-- a change without stamps
abbrev change : ℕ → ℕ → Card → Act → Change
change bucket slot card act = record { bucket = bucket; slot = slot; card = card; act = act; begin = 0; end = 0 }

-- what is found is there, and passes
record Found {A : Type 0} (test : A → Bool) (xs : List A) (x : A) : Type 0 where
  there : Among xs x
  passes : test x ≡ true

found_by : {A : Type 0} (test : A → Bool) (y : A) (ys : List A) (x : A) → (find test ys ≡ Some x → Found test ys x) → (b : Bool) → test y ≡ b → cond b (Some y) (find test ys) ≡ Some x → Found test (y ∷ ys) x
found_by test y ys x more true e q =
    let same : y ≡ x = ap (λ o. unwrap_or o y) q in record { there = inl (sym same); passes = ap test (sym same) ∙ e }
found_by test y ys x more false e q = let r = more q in record { there = inr r.there; passes = r.passes }

found_at : {A : Type 0} (test : A → Bool) (xs : List A) (x : A) → find test xs ≡ Some x → Found test xs x
found_at test [] x e = absurd (cc)
found_at test (y ∷ ys) x e = found_by test y ys x (found_at test ys x) (test y) refl e

-- where nothing is found, nothing passes
none_by : {A : Type 0} (test : A → Bool) (y : A) (ys : List A) (x : A) → (find test ys ≡ None → Among ys x → test x ≡ false) → (b : Bool) → test y ≡ b → cond b (Some y) (find test ys) ≡ None → Among (y ∷ ys) x → test x ≡ false
none_by test y ys x more true e q a = absurd (cc)
none_by test y ys x more false e q (inl p) = ap test p ∙ e
none_by test y ys x more false e q (inr a) = more q a

none_at : {A : Type 0} (test : A → Bool) (xs : List A) (x : A) → find test xs ≡ None → Among xs x → test x ≡ false
none_at test [] x e a = absurd a
none_at test (y ∷ ys) x e a = none_by test y ys x (none_at test ys x) (test y) refl e a

-- a TIME_WAIT that doesn't keep its four-tuple may be replaced
replaced_by : (same claims waits_ may : Bool) → (same && (claims || waits_ && not may)) ≡ false → (same && waits_) ≡ true → may ≡ true
replaced_by true true true true k w = refl
replaced_by true false true true k w = refl
replaced_by true true true false k w = absurd (true≢false k)
replaced_by true false true false k w = absurd (true≢false k)
replaced_by true claims false may k w = absurd (true≢false (sym w))
replaced_by false claims waits_ may k w = absurd (true≢false (sym w))

-- what trying to hash a wished card comes to
record Told (wish : Wish) (outcome : Outcome) : Type 0 where
  tried : Tried
  grants : Grants wish tried
  same : outcome_of tried ≡ outcome

module _ (c : Chains) (wish : Wish) where
  row : List Hashed
  row = row_at c (home_in c wish.card)

  tell_put : (slot : ℕ) (old : Option Hashed) → find (keeps wish.card wish.moment wish.rule) (row_at c (home_in c wish.card)) ≡ None → find (waits wish.card) (row_at c (home_in c wish.card)) ≡ old → Told wish (put slot old)
  tell_put slot None k w = record { tried = hashed (change 0 slot wish.card acts.Hash) None; grants = record { act = refl; card_is = refl }; same = refl }
  tell_put slot (Some x) k w =
      let f : Found (waits wish.card) (row_at c (home_in c wish.card)) x = found_at (waits wish.card) (row_at c (home_in c wish.card)) x w in
      record {
        tried = hashed (change 0 slot wish.card acts.Hash) (Some (change 0 x.slot x.card acts.Unhash));
        grants = (
          record { act = refl; card_is = refl },
          record {
            act = refl;
            tuple = f.passes;
            may = replaced_by (same_cards wish.card x.card) (claims_tuple x.card.kind) (is_time_wait_kind x.card.kind) (may_replace wish.rule wish.moment x.card)
                (none_at (keeps wish.card wish.moment wish.rule) (row_at c (home_in c wish.card)) x k f.there) f.passes;
          },
        );
        same = refl;
      }

  tell_slot : (free : Option ℕ) (old : Option Hashed) → find (keeps wish.card wish.moment wish.rule) (row_at c (home_in c wish.card)) ≡ None → find (waits wish.card) (row_at c (home_in c wish.card)) ≡ old → Told wish (slot_outcome c free old)
  tell_slot None old k w = record { tried = no_slot 0 (length c.slots.used) 0; grants = tt; same = refl }
  tell_slot (Some slot) old k w = tell_put slot old k w

  tell_kept : (kept old : Option Hashed) → find (keeps wish.card wish.moment wish.rule) (row_at c (home_in c wish.card)) ≡ kept → find (waits wish.card) (row_at c (home_in c wish.card)) ≡ old → Told wish (tried_in c kept old)
  tell_kept (Some x) old k w = record { tried = kept_out x.card.name; grants = tt; same = refl }
  tell_kept None old k w = tell_slot (free_slot c.slots) old k w

  tell : Told wish (insert_outcome c wish.card wish.moment wish.rule)
  tell = tell_kept (find (keeps wish.card wish.moment wish.rule) (row_at c (home_in c wish.card))) (find (waits wish.card) (row_at c (home_in c wish.card))) refl refl

-- what adding a card comes to
record ToldAdd (card : Card) (outcome : Outcome) : Type 0 where
  tried : Tried
  admits : Admits card tried
  same : outcome_of tried ≡ outcome

tell_add : (c : Chains) (card : Card) (free : Option ℕ) → ToldAdd card (slot_outcome c free None)
tell_add c card None = record { tried = no_slot 0 (length c.slots.used) 0; admits = tt; same = refl }
tell_add c card (Some slot) = record { tried = hashed (change 0 slot card acts.Hash) None; admits = record { act = refl; card_is = refl }; same = refl }

-- what reaping a card comes to
record ToldReap (card : Card) (was : Bool) : Type 0 where
  unhash : Option Change
  is : IsReapOf card unhash
  same : was_there unhash ≡ was

tell_reap : (card : Card) (found : Option Hashed) → ToldReap card (was_found found)
tell_reap card None = record { unhash = None; is = tt; same = refl }
tell_reap card (Some x) = record { unhash = Some (change 0 x.slot card acts.Unhash); is = record { act = refl; kind = refl; name = refl }; same = refl }

record Ran {R : Type 0} (t : Tables) (p : Asking R) (ended : Ended R) : Type 0 where
  deeds : List Deed
  goes : Goes p deeds ended.result
  plays : Plays t deeds ended.tables

ran : {R : Type 0} (p : Asking R) (t : Tables) (ended : Ended R) → run t p ≡ Some ended → Ran t p ended
ran {R} (ends r) t ended e =
    let same : record { tables = t; result = r } ≡ ended = ap (λ (o : Option (Ended R)). unwrap_or o (record { tables = t; result = r })) e in
    record { deeds = []; goes = ap (λ (x : Ended R). x.result) (sym same); plays = ap (λ (x : Ended R). x.tables) (sym same) }
ran (asks port request then_) t ended e =
    let note : Note Entry = record { number = 0; caller = 0; entry = record { request = request; answer = answer_at t.buckets port request } } in
    let r = ran (then_ (answer_at t.buckets port request)) (with_buckets t (asked_at t.buckets port request)) ended e in
    record { deeds = entered port note ∷ r.deeds; goes = (refl, refl, r.goes); plays = (refl, r.plays) }
ran (inserts card moment rule then_) t ended e =
    let wish : Wish = record { card = card; moment = moment; rule = rule } in
    let told : Told wish (insert_outcome t.chains card moment rule) = tell t.chains wish in
    let r = ran (then_ (outcome_of told.tried)) (with_chains t (hashed_in t.chains card (outcome_of told.tried))) ended
    (subst (λ (o : Outcome). run (with_chains t (hashed_in t.chains card o)) (then_ o) ≡ Some ended) (sym told.same) e) in
    record { deeds = inserted wish told.tried ∷ r.deeds; goes = (refl, told.grants, r.goes); plays = (told.same, r.plays) }
ran (adds card then_) t ended e =
    let told : ToldAdd card (add_outcome t.chains) = tell_add t.chains card (free_slot t.chains.slots) in
    let r = ran (then_ (outcome_of told.tried)) (with_chains t (hashed_in t.chains card (outcome_of told.tried))) ended
    (subst (λ (o : Outcome). run (with_chains t (hashed_in t.chains card o)) (then_ o) ≡ Some ended) (sym told.same) e) in
    record { deeds = added card told.tried ∷ r.deeds; goes = (refl, told.admits, r.goes); plays = (told.same, r.plays) }
ran (unhashes place card then_) t ended e =
    let u : Change = change place.bucket place.slot card acts.Unhash in
    let r = ran then_ (with_chains t (unhashed t.chains (record { bucket = place.bucket; slot = place.slot }))) ended e in
    record { deeds = left u ∷ r.deeds; goes = (record { unhash = record { act = refl; card_is = refl }; bucket = refl; slot = refl }, r.goes); plays = (tt, r.plays) }
ran (reaps card then_) t ended e =
    let told : ToldReap card (was_found (waiting t.chains card)) = tell_reap card (waiting t.chains card) in
    let r = ran (then_ (was_there told.unhash)) (with_chains t (reaped_from t.chains card (waiting t.chains card))) ended
    (subst (λ (b : Bool). run (with_chains t (reaped_from t.chains card (waiting t.chains card))) (then_ b) ≡ Some ended) (sym told.same) e) in
    record { deeds = reaped card told.unhash ∷ r.deeds; goes = (refl, told.is, r.goes); plays = (told.same, r.plays) }
ran impossible t ended e = absurd (cc)

pub runs_go : (p : Asking Replied) (t : Tables) (ended : Ended Replied) → run t p ≡ Some ended → GoesTo t p ended
runs_go p t ended e = let r = ran p t ended e in record { deeds = r.deeds; goes = r.goes; plays = r.plays }
