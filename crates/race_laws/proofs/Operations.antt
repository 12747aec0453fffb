-- What each operation hashes, and what it comes to by that.
use Rattle.std.proofs.Common.{◌≡◌, ◌≢◌, ℕ, ◌+◌, ◌==◌, Bool, true, false, List, [], ◌∷◌, filter, Option, None, Some, refl, sym, ap, ◌∙◌}
use Rattle.sock_card.specs.declared.card.Card.{Card}
use Rattle.sock_card.specs.declared.card.Kind.TheVariants as kinds
use Rattle.sock_card.specs.declared.owner.Owner.{Owner}
use Rattle.sock_card.specs.declared.owner.State.{State}
use Rattle.sock_card.specs.declared.owner.State.TheVariants as states
use Rattle.bind_buckets.specs.declared.request.Answer.{Answer}
use Rattle.bind_buckets.specs.declared.request.Answer.TheVariants as answers
use Rattle.chain_book.specs.declared.outcome.Hashed.{Hashed}
use Rattle.chain_book.specs.declared.outcome.Replace.{Replace}
use Rattle.chain_book.specs.declared.shape.Shape.{Shape}
use Rattle.chain_book.specs.Chains.{Outcome, put, taken, full}
use Rattle.flat_list.specs.declared.command.End.{End}
use Rattle.flat_list.specs.Owned.{addressed, bound_at, connected_to, connected_at, child_owner, request_owner, heir_owner, is_no_accept, is_no_ack}
use Rattle.flat_list.specs.Sockets.{kind_of}
use Rattle.table_model.specs.declared.operation.OpEnd.{OpEnd}
use Rattle.table_model.specs.declared.operation.OpEnd.TheVariants as errors
use Rattle.table_model.specs.Asking.{Asking, ends}
use Rattle.table_model.specs.Own.{Mine, card_of, is_over}
use Rattle.table_model.specs.Operations as op
use Rattle.table_model.specs.Operations.{Did, done, refused, Closed, gone, waiting, no_slot}
use Rattle.race_record.proofs.Walks.{whenever_done, searched_any, left_port, dropped, replaced_then, tries_if}
use Rattle.race_laws.proofs.Hashed.{Hashes, hashed_by, hashing}
use Rattle.race_laws.proofs.Kept.{IsAsCard}

-- What `bind`, `listen` or `connect` of a socket comes to: where nothing was hashed, one of its name and kind; else
-- it was no kind's, and has become that of the card.
pub record HasStayed (m n : Mine) : Type 0 where
  pub name : n.owner.name ≡ m.owner.name
  pub kind : kind_of n.owner.state ≡ kind_of m.owner.state

pub record HasTurned (m n : Mine) (c : Card) : Type 0 where
  pub name : c.name ≡ m.owner.name
  pub before : kind_of m.owner.state ≡ None
  pub is : IsAsCard c n

abbrev pub Moves : Mine → Option Card → Did → Type 0
Moves m None (done n) = HasStayed m n
Moves m (Some c) (done n) = HasTurned m n c
Moves m None (refused end) = Unit {0}
Moves m (Some c) (refused end) = ⊥

-- what `accept`, `syn` or `ack` comes to: a socket of that name that was hashed, or nothing was
pub record HasCome (name : ℕ) (n : Mine) (c : Card) : Type 0 where
  pub name_is : c.name ≡ name
  pub is : IsAsCard c n

abbrev pub Brings : ℕ → Option Card → Did → Type 0
Brings name None (done n) = ⊥
Brings name (Some c) (done n) = HasCome name n c
Brings name None (refused end) = Unit {0}
Brings name (Some c) (refused end) = ⊥

-- what was hashed as a socket is closed: nothing, or a card of its name, and of another kind than its own
pub record HasLeft (m : Mine) (c : Card) : Type 0 where
  pub name : c.name ≡ m.owner.name
  pub other : kind_of m.owner.state ≢ Some c.kind

abbrev pub Closes : Mine → Option Card → Closed → Type 0
Closes m None closed = Unit {0}
Closes m (Some c) closed = HasLeft m c

no_kind : (s : State) (m : Mine) → m.owner.state ≡ s → kind_of s ≡ None → kind_of m.owner.state ≡ None
no_kind s m e none = ap kind_of e ∙ none

stays_bound : (m : Mine) (a : Owner) → a.name ≡ m.owner.name → kind_of a.state ≡ None → kind_of m.owner.state ≡ None → HasStayed m (op.plain a)
stays_bound m a name none before = record { name = name; kind = none ∙ sym before }

bind_said : (m : Mine) (end : End) → kind_of m.owner.state ≡ None → (answer : Answer) → Hashes (Moves m) None (op.bind_answered m.owner end answer)
bind_said m end none answers.Done = stays_bound m (bound_at m.owner end.addr end.port) refl refl none
bind_said m end none (answers.InUse name) = tt
bind_said m end none _ = tt

bound_any : (m : Mine) (addr : ℕ) (ports : List ℕ) → kind_of m.owner.state ≡ None → Hashes (Moves m) None (op.bind_any m.owner addr ports)
bound_any m addr ports none =
    tries_if hashing (Moves m) None m.owner.noport (ends (done (op.plain (addressed m.owner addr)))) (op.search_bind m.owner addr (op.bound m.owner addr) (ends (refused errors.NoPort)) ports)
    (stays_bound m (addressed m.owner addr) refl refl none)
    (searched_any hashing (Moves m) None m.owner addr (op.bound m.owner addr) (ends (refused errors.NoPort)) ports (λ port. stays_bound m (bound_at m.owner addr port) refl refl none) tt)

bound_as : (state : State) (m : Mine) (end : End) (ports : List ℕ) → m.owner.state ≡ state → Hashes (Moves m) None (op.bind_as state m end ports)
bound_as states.Unbound m end ports e =
    let none : kind_of m.owner.state ≡ None = no_kind states.Unbound m e refl in
    tries_if hashing (Moves m) None (end.port == 0) (op.bind_any m.owner end.addr ports) _ (bound_any m end.addr ports none) (bind_said m end none)
bound_as _ m end ports e = tt

pub binds : (m : Mine) (end : End) (ports : List ℕ) → Hashes (Moves m) None (op.bind m end ports)
binds m end ports = bound_as m.owner.state m end ports refl

given_up : (m : Mine) (took : Bool) (a : Owner) (end : OpEnd) → Hashes (Moves m) None (op.give_up took a end)
given_up m true a end = whenever_done hashing (Moves m) None (ends (refused end)) tt
given_up m false a end = tt

module _ (shape : Shape) (seed : ℕ) where
  listened : (m : Mine) (took : Bool) (a : Owner) (l : Mine) → HasTurned m l (card_of kinds.Listen l) → (o : Outcome) → Hashes (Moves m) (hashed_by (card_of kinds.Listen l) o) (op.listen_hashed shape seed took a l o)
  listened m took a l h (put slot None) =
      whenever_done hashing (Moves m) (Some (card_of kinds.Listen l)) (ends (done (op.listens_in shape seed l slot)))
      (record { name = h.name; before = h.before; is = record { name = h.is.name; kind = h.is.kind } })
  listened m took a l h (put slot (Some old)) = tt
  listened m took a l h (taken name) = tt
  listened m took a l h (full owned held) = given_up m took a (errors.Full owned held)

  listen_said : (m : Mine) (took : Bool) (a : Owner) → a.name ≡ m.owner.name → kind_of m.owner.state ≡ None → (answer : Answer) → Hashes (Moves m) None (op.listen_answered shape seed took a answer)
  listen_said m took a name none (answers.Group group) =
      (refl, listened m took a (op.listener a group) (record { name = name; before = none; is = record { name = refl; kind = refl } }))
  listen_said m took a name none (answers.InUse other) = given_up m took a (errors.InUse other)
  listen_said m took a name none answers.GroupFull = given_up m took a errors.GroupFull
  listen_said m took a name none answers.GroupsFull = given_up m took a errors.GroupsFull
  listen_said m took a name none _ = tt

  listened_as : (state : State) (m : Mine) (ports : List ℕ) → m.owner.state ≡ state → Hashes (Moves m) None (op.listen_as shape seed state m ports)
  listened_as states.Unbound m ports e =
      searched_any hashing (Moves m) None m.owner m.owner.addr (op.listen_found shape seed m.owner) (ends (refused errors.NoPort)) ports
      (λ port. listen_said m true (bound_at m.owner m.owner.addr port) refl (no_kind states.Unbound m e refl)) tt
  listened_as states.Bound m ports e = listen_said m false m.owner refl (no_kind states.Bound m e refl)
  listened_as states.Listening m ports e = record { name = refl; kind = refl }
  listened_as _ m ports e = tt

  pub listens : (m : Mine) (ports : List ℕ) → Hashes (Moves m) None (op.listen shape seed m ports)
  listens m ports = listened_as m.owner.state m ports refl

  -- a full socket of that owner, which was hashed
  full_said : (Q : Option Card → Did → Type 0) (a : Owner) (slot : ℕ) (old : Option Hashed) → Q (Some (op.full_card a)) (done (op.full_in shape seed a slot)) → (answer : Answer)
      → Hashes Q (Some (op.full_card a)) (op.when_done (op.full_done shape seed a slot old) answer)
  full_said Q a slot old q =
      whenever_done hashing Q (Some (op.full_card a)) (op.full_done shape seed a slot old) (replaced_then hashing Q (Some (op.full_card a)) old (ends (done (op.full_in shape seed a slot))) q)

  full_turned : (m : Mine) (a : Owner) (slot : ℕ) → a.name ≡ m.owner.name → kind_of a.state ≡ Some kinds.Full → kind_of m.owner.state ≡ None → HasTurned m (op.full_in shape seed a slot) (op.full_card a)
  full_turned m a slot name kind none = record { name = name; before = none; is = record { name = refl; kind = kind } }

  connected : (m : Mine) (a : Owner) → a.name ≡ m.owner.name → kind_of a.state ≡ Some kinds.Full → kind_of m.owner.state ≡ None → (o : Outcome) → Hashes (Moves m) (hashed_by (op.full_card a) o) (op.connect_hashed shape seed a o)
  connected m a name kind none (put slot old) = full_said (Moves m) a slot old (full_turned m a slot name kind none)
  connected m a name kind none (taken other) = tt
  connected m a name kind none (full owned held) = tt

  tried : (m : Mine) (a : Owner) (next : Asking Did) → a.name ≡ m.owner.name → kind_of a.state ≡ Some kinds.Full → kind_of m.owner.state ≡ None → Hashes (Moves m) None next → (o : Outcome) → Hashes (Moves m) (hashed_by (op.full_card a) o) (op.connect_tried shape seed a next o)
  tried m a next name kind none h (put slot old) = full_said (Moves m) a slot old (full_turned m a slot name kind none)
  tried m a next name kind none h (taken other) = h
  tried m a next name kind none h (full owned held) = tt

  free_said : (m : Mine) (a : Owner) (moment : ℕ) (rule : Replace) (next : Asking Did) → a.name ≡ m.owner.name → kind_of a.state ≡ Some kinds.Full → kind_of m.owner.state ≡ None → Hashes (Moves m) None next → (answer : Answer)
      → Hashes (Moves m) None (op.connect_free shape seed a moment rule next answer)
  free_said m a moment rule next name kind none h answers.Done = (refl, tried m a next name kind none h)
  free_said m a moment rule next name kind none h (answers.NotFree other) = h
  free_said m a moment rule next name kind none h _ = tt

  connects_by_search : (m : Mine) (source : ℕ) (to : End) (moment : ℕ) (rule : Replace) (ports : List ℕ) → kind_of m.owner.state ≡ None → Hashes (Moves m) None (op.search_connect shape seed m.owner source to moment rule ports)
  connects_by_search m source to moment rule [] none = tt
  connects_by_search m source to moment rule (port ∷ ports) none =
      free_said m (connected_at m.owner source port to) moment rule (op.search_connect shape seed m.owner source to moment rule ports) refl refl none (connects_by_search m source to moment rule ports none)

  connected_from : (state : State) (m : Mine) (source : Option ℕ) (to : End) (moment : ℕ) (rule : Replace) (ports : List ℕ) → m.owner.state ≡ state → Hashes (Moves m) None (op.connect_from shape seed state m.owner source to moment rule ports)
  connected_from states.Unbound m (Some source) to moment rule ports e = connects_by_search m source to moment rule ports (no_kind states.Unbound m e refl)
  connected_from states.Bound m (Some source) to moment rule ports e = (refl, connected m (connected_to m.owner source to) refl refl (no_kind states.Bound m e refl))
  connected_from states.Unbound m None to moment rule ports e = tt
  connected_from states.Bound m None to moment rule ports e = tt
  connected_from _ m source to moment rule ports e = tt

  pub connects : (m : Mine) (from : Option ℕ) (to : End) (moment : ℕ) (rule : Replace) (ports : List ℕ) → Hashes (Moves m) None (op.connect shape seed m from to moment rule ports)
  connects m from to moment rule ports = connected_from m.owner.state m (op.source_to m.owner from to) to moment rule ports refl

  full_come : (name : ℕ) (a : Owner) (slot : ℕ) → a.name ≡ name → kind_of a.state ≡ Some kinds.Full → HasCome name (op.full_in shape seed a slot) (op.full_card a)
  full_come name a slot is kind = record { name_is = is; is = record { name = refl; kind = kind } }

  accepted : (name : ℕ) (l child : Owner) → child.name ≡ name → kind_of child.state ≡ Some kinds.Full → (o : Outcome) → Hashes (Brings name) (hashed_by (op.full_card child) o) (op.accept_hashed shape seed l child o)
  accepted name l child is kind (put slot old) = full_said (Brings name) child slot old (full_come name child slot is kind)
  accepted name l child is kind (taken other) = tt
  accepted name l child is kind (full owned held) = tt

  pub accepts : (l : Mine) (name mark : ℕ) (from at : End) → Hashes (Brings name) None (op.accept shape seed l name mark from at)
  accepts l name mark from at =
      tries_if hashing (Brings name) None (is_no_accept l.owner from at) (ends (refused errors.Inval)) (op.accept_as shape seed l.owner (child_owner l.owner name mark from at)) tt
      (refl, accepted name l.owner (child_owner l.owner name mark from at) refl refl)

  asked_in : (name : ℕ) (r : Owner) → r.name ≡ name → kind_of r.state ≡ Some kinds.Request → (o : Outcome) → Hashes (Brings name) (hashed_by (op.request_card r) o) (op.syn_hashed shape seed r o)
  asked_in name r is kind (put slot old) =
      replaced_then hashing (Brings name) (Some (op.request_card r)) old (ends (done (op.request_in shape seed r slot))) (record { name_is = is; is = record { name = refl; kind = kind } })
  asked_in name r is kind (taken other) = tt
  asked_in name r is kind (full owned held) = tt

  pub syns : (l : Mine) (name mark : ℕ) (from at : End) → Hashes (Brings name) None (op.syn shape seed l name mark from at)
  syns l name mark from at =
      tries_if hashing (Brings name) None (is_no_accept l.owner from at) (ends (refused errors.Inval)) (op.syn_as shape seed (request_owner l.owner name mark from at)) tt
      (refl, asked_in name (request_owner l.owner name mark from at) refl refl)

  inherited : (name : ℕ) (r : Mine) (l child : Owner) → child.name ≡ name → kind_of child.state ≡ Some kinds.Full → (o : Outcome) → Hashes (Brings name) (hashed_by (op.full_card child) o) (op.ack_hashed shape seed r l child o)
  inherited name r l child is kind (put slot None) =
      whenever_done hashing (Brings name) (Some (op.full_card child)) (ends (done (op.full_in shape seed child slot))) (full_come name child slot is kind)
  inherited name r l child is kind (put slot (Some old)) = tt
  inherited name r l child is kind (taken other) = tt
  inherited name r l child is kind (full owned held) = tt

  acked_by : (r : Mine) (l : Option Mine) (name mark : ℕ) → Hashes (Brings name) None (op.ack_by shape seed r l name mark)
  acked_by r None name mark = tt
  acked_by r (Some l) name mark =
      tries_if hashing (Brings name) None (is_no_ack l.owner r.owner) (ends (refused errors.Inval)) (op.ack_as shape seed r l.owner (heir_owner l.owner name mark r.owner)) tt
      (refl, inherited name r l.owner (heir_owner l.owner name mark r.owner) refl refl)

  acked_from : (state : State) (r : Mine) (l : Option Mine) (name mark : ℕ) → Hashes (Brings name) None (op.ack_from shape seed state r l name mark)
  acked_from states.Request r l name mark = acked_by r l name mark
  acked_from _ r l name mark = tt

  pub acks : (r : Mine) (l : Option Mine) (name mark : ℕ) → Hashes (Brings name) None (op.ack shape seed r l name mark)
  acks r l name mark = acked_from r.owner.state r l name mark

  waits : (m w : Mine) → HasLeft m (card_of kinds.TimeWait w) → (o : Outcome) → Hashes (Closes m) (hashed_by (card_of kinds.TimeWait w) o) (op.close_hashed shape seed m w o)
  waits m w h (put slot None) =
      whenever_done hashing (Closes m) (Some (card_of kinds.TimeWait w)) (ends (waiting (op.waits_in shape seed w slot))) h
  waits m w h (put slot (Some old)) = tt
  waits m w h (taken name) = tt
  waits m w h (full owned held) = left_port hashing (Closes m) None m.owner (no_slot owned held) tt

  closed_as : (state : State) (m : Mine) (moment : ℕ) → m.owner.state ≡ state → Hashes (Closes m) None (op.close_as shape seed state m moment)
  closed_as states.Full m moment e =
      (refl, waits m (op.wait_of m moment) (record { name = refl; other = λ is. absurd (let no : Some kinds.Full ≡ Some kinds.TimeWait = sym (ap kind_of e) ∙ is in cc) }))
  closed_as states.Unbound m moment e = dropped hashing (Closes m) None states.Unbound m gone tt
  closed_as states.Bound m moment e = dropped hashing (Closes m) None states.Bound m gone tt
  closed_as states.Listening m moment e = dropped hashing (Closes m) None states.Listening m gone tt
  closed_as states.Request m moment e = dropped hashing (Closes m) None states.Request m gone tt
  closed_as states.TimeWait m moment e = dropped hashing (Closes m) None states.TimeWait m gone tt

  pub closes : (m : Mine) (moment : ℕ) → Hashes (Closes m) None (op.close shape seed m moment)
  closes m moment = closed_as m.owner.state m moment refl

-- `reap` hashes nothing

abbrev pub Reaps : Option Card → ℕ → Type 0
Reaps None count = Unit {0}
Reaps (Some c) count = ⊥

reaped_then : (w : Mine) (count : ℕ) (next : ℕ → Asking ℕ) → ((n : ℕ) → Hashes Reaps None (next n)) → (found : Bool) → Hashes Reaps None (op.reaped_next w count next found)
reaped_then w count next h true = λ answer. h (count + 1)
reaped_then w count next h false = h count

reaped_each : (waits : List Mine) (count : ℕ) → Hashes Reaps None (op.reap_each waits count)
reaped_each [] count = tt
reaped_each (w ∷ rest) count = reaped_then w count (op.reap_each rest) (reaped_each rest)

pub reaps_none : (waits : List Mine) (moment : ℕ) → Hashes Reaps None (op.reap waits moment)
reaps_none waits moment = reaped_each (filter (is_over moment) waits) 0
