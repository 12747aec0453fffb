-- The TIME_WAIT that a newcomer replaces: the one that its chain finds is the one that the list drops.
use Rattle.std.proofs.Common.{◌≡◌, ℕ, ◌≤◌, Bool, true, false, not, cond, List, [], ◌∷◌, filter, find, Some, None, refl, ap, sym, ◌∙◌, arith}
use Rattle.std.specs.Prelude.{is_some}
use Rattle.std.proofs.lemmas.Bool.{eq-eqb, and_parts}
use Rattle.list_words.specs.Lists.{Each, total}
use Rattle.list_words.proofs.EachLemmas.{found_passes, each_both, each_weaken}
use Rattle.list_words.proofs.Truths.{same_truth, some_of}
use Rattle.sock_card.specs.declared.card.Card.{Card}
use Rattle.sock_card.specs.declared.card.Kind.{Kind}
use Rattle.sock_card.specs.declared.card.Kind.TheVariants as kinds
use Rattle.sock_card.specs.declared.owner.Owner.{Owner}
use Rattle.sock_card.specs.declared.owner.State.{State}
use Rattle.sock_card.specs.declared.owner.State.TheVariants as states
use Rattle.sock_card.specs.Conflict.{is_time_wait}
use Rattle.chain_book.specs.declared.outcome.Hashed.{Hashed}
use Rattle.chain_book.specs.Chains.{Chains, row_at, home_in, waits}
use Rattle.flat_list.specs.declared.socket.Socket.{Socket}
use Rattle.flat_list.specs.Flat.{Flat}
use Rattle.flat_list.specs.Look.{extra_as}
use Rattle.flat_list.specs.Owned.{card_as}
use Rattle.flat_list.specs.Sockets.{kind_of, has_name, have_one_tuple, waits_at, without, without_waiting}
use Rattle.flat_list.specs.Sound.{IsSound}
use Rattle.table_model.specs.Means.{ChainsMean}
use Rattle.table_model.proofs.parts.Claims.{claim_card}
use Rattle.table_model.proofs.lists.Passing.{Weighs, only, ind, Only, found_weighs, found_counts, each_zero, only_found}
use Rattle.table_model.proofs.parts.Cards.{weigh_as, card_weight, only_named, wait_once}
use Rattle.table_model.proofs.questions.Taken.{waiting_weigh, waiting_count}

some_at : (b : Bool) (n : ℕ) → Weighs b n → 1 ≤ n → b ≡ true
some_at true n h l = refl
some_at false n h l = absurd (omega (arith, h.1 refl))

-- something is found where some pass
pub some_found : {A : Type 0} (p : A → Bool) (xs : List A) → 1 ≤ total (ind p) xs → (x : A) × (find p xs ≡ Some x)
some_found p xs l = some_of (find p xs) (some_at (is_some (find p xs)) (total (ind p) xs) (found_weighs p xs) l)

both_no : (p q : Bool) → cond {A = ℕ} p (cond {A = ℕ} q 0 1) 0 ≡ 0 → p ≡ true → q ≡ true
both_no true true h e = refl
both_no true false h e = absurd (omega (arith, h))
both_no false q h e = absurd (cc)

-- where one item alone passes each of two tests, the tests agree on all
pub same_tests : {A : Type 0} (p q : A → Bool) (s : A) (xs : List A) → Only p s xs → Only q s xs → p s ≡ true → q s ≡ true → Each (λ y. p y ≡ q y) xs
same_tests p q s xs op oq ps qs =
    let pq : Each (λ y. only p (λ z. cond {A = ℕ} (q z) 0 1) y ≡ 0) xs = each_zero (only p (λ z. cond {A = ℕ} (q z) 0 1)) xs (op (λ z. cond {A = ℕ} (q z) 0 1) ∙ ap (λ (b : Bool). cond {A = ℕ} b 0 1) qs) in
    let qp : Each (λ y. only q (λ z. cond {A = ℕ} (p z) 0 1) y ≡ 0) xs = each_zero (only q (λ z. cond {A = ℕ} (p z) 0 1)) xs (oq (λ z. cond {A = ℕ} (p z) 0 1) ∙ ap (λ (b : Bool). cond {A = ℕ} b 0 1) ps) in
    each_weaken _ (λ y. p y ≡ q y) xs (λ y both. same_truth (p y) (q y) (both_no (p y) (q y) both.0) (both_no (q y) (p y) both.1))
    (each_both (λ y. only p (λ z. cond {A = ℕ} (q z) 0 1) y ≡ 0) (λ y. only q (λ z. cond {A = ℕ} (p z) 0 1) y ≡ 0) xs pq qp)

dropped_same_at : {A : Type 0} (b c : Bool) (x : A) (ys zs : List A) → b ≡ c → ys ≡ zs → cond (not b) (x ∷ ys) ys ≡ cond (not c) (x ∷ zs) zs
dropped_same_at true true x ys zs e h = h
dropped_same_at false false x ys zs e h = ap (λ l. x ∷ l) h
dropped_same_at true false x ys zs e h = absurd (cc)
dropped_same_at false true x ys zs e h = absurd (cc)

-- tests that agree drop the same
pub dropped_same : {A : Type 0} (p q : A → Bool) (xs : List A) → Each (λ y. p y ≡ q y) xs → filter (λ y. not (p y)) xs ≡ filter (λ y. not (q y)) xs
dropped_same p q [] h = refl
dropped_same p q (x ∷ xs) h = dropped_same_at (p x) (q x) x (filter (λ y. not (p y)) xs) (filter (λ y. not (q y)) xs) h.0 (dropped_same p q xs h.1)

kept_all_at : {A : Type 0} (b : Bool) (x : A) (ys xs : List A) → cond {A = ℕ} b 1 0 ≡ 0 → ys ≡ xs → cond (not b) (x ∷ ys) ys ≡ x ∷ xs
kept_all_at true x ys xs e h = absurd (omega (arith, e))
kept_all_at false x ys xs e h = ap (λ l. x ∷ l) h

-- a test that none passes drops none
pub kept_all : {A : Type 0} (p : A → Bool) (xs : List A) → total (ind p) xs ≡ 0 → filter (λ y. not (p y)) xs ≡ xs
kept_all p [] h = refl
kept_all p (x ∷ xs) h = kept_all_at (p x) x (filter (λ y. not (p y)) xs) xs (omega (arith, h)) (kept_all p xs (omega (arith, h)))

-- the socket whose TIME_WAIT stands there is the one of the list that has the four-tuple
pub record Replaces (flat : Flat) (a : Owner) (x : Hashed) (s : Socket) : Type 0 where
  pub found : find (waits_at a) flat.sockets ≡ Some s
  pub waits_there : is_time_wait s.owner.state ≡ true
  pub one : Only (waits_at a) s flat.sockets
  pub card : (f : Card → ℕ) → f x.card ≡ f (card_as kinds.TimeWait s.owner s.stamp)
  pub dropped : without_waiting a flat.sockets ≡ without x.card.name flat.sockets
  pub named : Only (has_name x.card.name) s flat.sockets
  pub same : Each (λ (y : Socket). waits_at a y ≡ has_name x.card.name y) flat.sockets

-- what the card of a TIME_WAIT weighs
pub wait_weight : (f : Card → ℕ) (st : State) (o : Owner) (extra : Kind → ℕ) → is_time_wait st ≡ true → weigh_as f (kind_of st) o extra ≡ f (card_as kinds.TimeWait o (extra kinds.TimeWait))
wait_weight f states.TimeWait o extra h = refl
wait_weight f states.Unbound o extra h = absurd (cc)
wait_weight f states.Bound o extra h = absurd (cc)
wait_weight f states.Listening o extra h = absurd (cc)
wait_weight f states.Full o extra h = absurd (cc)
wait_weight f states.Request o extra h = absurd (cc)

module _ (c : Chains) (flat : Flat) (a : Owner) (m : ChainsMean c flat) (sound : IsSound flat) where
  abbrev row : List Hashed
  row = row_at c (home_in c (claim_card a))

  abbrev test : Hashed → Bool
  test = waits (claim_card a)

  once_there : total (ind test) row ≤ 1
  once_there = omega (arith, waiting_count c flat a m, wait_once a flat.sockets sound.tuples)

  replaces_this : (x : Hashed) (s : Socket) → find test row ≡ Some x → find (waits_at a) flat.sockets ≡ Some s → Replaces flat a x s
  replaces_this x s fx fs =
      let passes : waits_at a s ≡ true = found_passes (waits_at a) flat.sockets s fs in
      let there : is_time_wait s.owner.state ≡ true = (and_parts (is_time_wait s.owner.state) (have_one_tuple a s.owner) passes).0 in
      let one : Only (waits_at a) s flat.sockets = only_found (waits_at a) (waits_at a) flat.sockets s fs passes (wait_once a flat.sockets sound.tuples) in
      let in_row : Only test x row = only_found test test row x fx (found_passes test row x fx) once_there in
      let card : (f : Card → ℕ) → f x.card ≡ f (card_as kinds.TimeWait s.owner s.stamp) = λ f.
      sym (in_row (λ (y : Hashed). f y.card)) ∙ (waiting_weigh c flat a f m ∙ (one (card_weight flat.groups f) ∙ wait_weight f s.owner.state s.owner (λ kind. extra_as kind flat.groups s) there)) in
      let name : x.card.name ≡ s.owner.name = card (λ (y : Card). y.name) in
      let named : Only (has_name x.card.name) s flat.sockets = only_named (waits_at a) flat.sockets s x.card.name fs (sym name) sound.names in
      let same : Each (λ (y : Socket). waits_at a y ≡ has_name x.card.name y) flat.sockets = same_tests (waits_at a) (has_name x.card.name) s flat.sockets one named passes (eq-eqb s.owner.name x.card.name (sym name)) in
      record {
        found = fs;
        waits_there = there;
        one = one;
        card = card;
        dropped = dropped_same (waits_at a) (has_name x.card.name) flat.sockets same;
        named = named;
        same = same;
      }

  -- what the chain finds is a socket of the list
  pub replaces : (x : Hashed) → find test row ≡ Some x → (s : Socket) × Replaces flat a x s
  replaces x fx =
      let some : 1 ≤ total (ind (waits_at a)) flat.sockets = omega (arith, waiting_count c flat a m, found_counts test test row x fx (found_passes test row x fx)) in
      let s = some_found (waits_at a) flat.sockets some in
      (s.0, replaces_this x s.0 fx s.1)

  -- where it finds none, the list has none
  pub replaces_none : find test row ≡ None → without_waiting a flat.sockets ≡ flat.sockets
  replaces_none e = kept_all (waits_at a) flat.sockets (sym (waiting_count c flat a m) ∙ (found_weighs test row).1 (ap is_some e))
