-- Plans that change no list of a group, and what follows where one was carried out.
use Rattle.std.proofs.Common.{◌≡◌, ◌⊎◌, inl, inr, ℕ, ◌==◌, Bool, true, false, List, [], ◌∷◌, Option, Some, None, Result, Ok, Err, IfOk, OnErr, if◌then◌else◌, subst, sym}
use Rattle.list_words.specs.Lists.{Each}
use Rattle.sock_card.specs.declared.owner.Owner.{Owner}
use Rattle.sock_card.specs.declared.owner.State.{State}
use Rattle.sock_card.specs.declared.owner.State.TheVariants as states
use Rattle.turn_table.specs.declared.note.Placed.{Placed}
use Rattle.bind_buckets.specs.declared.request.Entry.{Entry}
use Rattle.bind_buckets.specs.declared.request.Answer.{Answer}
use Rattle.bind_buckets.specs.declared.request.Answer.TheVariants as answers
use Rattle.bind_buckets.specs.Turned.{View, Gave}
use Rattle.chain_book.specs.declared.outcome.Hashed.{Hashed}
use Rattle.chain_book.specs.declared.outcome.Replace.{Replace}
use Rattle.chain_book.specs.declared.shape.Shape.{Shape}
use Rattle.chain_book.specs.Chains.{Outcome, put, taken, full}
use Rattle.sock_ops.specs.Sides.{Side}
use Rattle.flat_list.specs.declared.command.End.{End}
use Rattle.flat_list.specs.Owned.{connected_at, heir_owner, is_no_ack}
use Rattle.race_record.specs.Deeds.{Deed, entered, inserted, added, left, entries_in}
use Rattle.race_record.specs.Deeds as deeds
use Rattle.race_record.specs.Goes.{outcome_of, was_there}
use Rattle.reuseport_group.specs.Passes as lists
use Rattle.table_model.specs.declared.operation.OpEnd.{OpEnd}
use Rattle.table_model.specs.declared.operation.OpEnd.TheVariants as errors
use Rattle.table_model.specs.Asking.{Asking, ends, asks, inserts, adds, unhashes, reaps, impossible}
use Rattle.table_model.specs.Own.{Mine}
use Rattle.table_model.specs.Operations as plans
use Rattle.table_model.specs.Operations.{Did, bound, done, refused, search_bind, found_next, when_done, then_replaced}
use Rattle.sock_ops.specs.declared.tables.Tables.{Tables}
use Rattle.sock_ops.specs.declared.tables.Worker.{Worker}
use Rattle.sock_ops.specs.Goes.{Went, Stops, Carried}
use Rattle.sock_ops.specs.Groups.{SparesLists, GaveSparing, KeepsLists}
use Rattle.sock_ops.specs.Leads.{Leads}
use Rattle.sock_ops.specs.Reaping.{ReapsOne, counted}
use Rattle.sock_ops.specs.Stands.{buckets_of, turned, chained}
use Rattle.sock_ops.proofs.Goes.{refused_or}
use Rattle.sock_ops.proofs.Lists.{sparing_same}

-- no question of the plan changes a list of a group
abbrev pub PlanSpares : {R : Type 0} → Asking R → Type 0
PlanSpares (ends result) = Unit {0}
PlanSpares (asks key request then_) = SparesLists request × ((answer : Answer) → PlanSpares (then_ answer))
PlanSpares (inserts card moment rule then_) = (outcome : Outcome) → PlanSpares (then_ outcome)
PlanSpares (adds card then_) = (outcome : Outcome) → PlanSpares (then_ outcome)
PlanSpares (unhashes place card then_) = PlanSpares then_
PlanSpares (reaps card then_) = (found : Bool) → PlanSpares (then_ found)
PlanSpares impossible = Unit {0}

abbrev SparesIn : Placed Entry → Type 0
SparesIn x = SparesLists x.note.entry.request

module _ {R : Type 0} (count : ℕ) where
  deeds_spare : (p rest : Asking R) (ds : List Deed) → PlanSpares p → Leads p ds rest → Each SparesIn (entries_in count ds)
  deeds_spare p rest [] spares leads = tt
  deeds_spare (asks key request then_) rest (entered k note ∷ ds) spares leads =
      (subst SparesLists (sym leads.1.1) spares.0, deeds_spare leads.0 rest ds (subst PlanSpares (sym leads.1.2) (spares.1 note.entry.answer)) leads.2)
  deeds_spare (inserts card moment rule then_) rest (inserted wish tried ∷ ds) spares leads =
      deeds_spare leads.0 rest ds (subst PlanSpares (sym leads.1.2) (spares (outcome_of tried))) leads.2
  deeds_spare (adds card then_) rest (added c tried ∷ ds) spares leads =
      deeds_spare leads.0 rest ds (subst PlanSpares (sym leads.1.2) (spares (outcome_of tried))) leads.2
  deeds_spare (unhashes place card then_) rest (left u ∷ ds) spares leads =
      deeds_spare leads.0 rest ds (subst PlanSpares (sym leads.1.1) spares) leads.2
  deeds_spare (reaps card then_) rest (deeds.reaped c unhash ∷ ds) spares leads =
      deeds_spare leads.0 rest ds (subst PlanSpares (sym leads.1.2) (spares (was_there unhash))) leads.2
  deeds_spare p rest (d ∷ ds) spares leads = absurd leads.1

pub went_spares : {R : Type 0} (count : ℕ) (p rest : Asking R) (v w : View) (c d : Side) → PlanSpares p → Went count p v w c d rest → GaveSparing v w
went_spares count p rest v w c d spares went =
    record { new = entries_in count went.deeds; gave = went.gave; spares = deeds_spare count p rest went.deeds spares went.leads }

module _ {X R : Type 0} (did : X → R) (not_done : OpEnd → R) (count : ℕ) (p : Asking R) (v w : View) (c d : Side) (spares : PlanSpares p) where
  either_went : (rest : Asking R) → Stops count p v w c d ⊎ Went count p v w c d rest → GaveSparing v w
  either_went rest (inl k) = went_spares count p k.rest v w c d spares k.went
  either_went rest (inr k) = went_spares count p rest v w c d spares k

  pub carried_spares : (r : Result X OpEnd) → Carried did not_done count p v w c d r → GaveSparing v w
  carried_spares (Ok x) k = went_spares count p (ends (did x)) v w c d spares k
  carried_spares (Err end) k = either_went (ends (not_done end)) (refused_or did not_done count p v w c d end k)

-- the lists of a worker that published none
pub lists_kept : {X R : Type 0} (did : X → R) (not_done : OpEnd → R) (t : Tables) (w u : Worker) (p : Asking R) (r : Result X OpEnd) → u.groups ≡ w.groups → PlanSpares p
    → Carried did not_done (buckets_of t) p (turned w) (turned u) (chained t w) (chained t u) r → KeepsLists t w u
lists_kept did not_done t w u p r same spares k =
    sparing_same (lists.groups t.groups) (turned w) (turned u) w.groups u.groups same
    (carried_spares did not_done (buckets_of t) p (turned w) (turned u) (chained t w) (chained t u) spares r k)

-- Parts of plans

module _ {R : Type 0} where
  either_spares : (t : Bool) (p q : Asking R) → PlanSpares p → PlanSpares q → PlanSpares (if t then p else q)
  either_spares true p q x y = x
  either_spares false p q x y = y

  next_spares : (p q : Asking R) → PlanSpares p → PlanSpares q → (answer : Answer) → PlanSpares (found_next p q answer)
  next_spares p q x y answers.Done = x
  next_spares p q x y (answers.InUse name) = y
  next_spares p q x y (answers.Group g) = tt
  next_spares p q x y answers.GroupFull = tt
  next_spares p q x y answers.GroupsFull = tt
  next_spares p q x y (answers.Strange name) = tt
  next_spares p q x y (answers.NotFree name) = tt

  when_spares : (next : Asking R) → PlanSpares next → (answer : Answer) → PlanSpares (when_done next answer)
  when_spares next x answers.Done = x
  when_spares next x (answers.InUse name) = tt
  when_spares next x (answers.Group g) = tt
  when_spares next x answers.GroupFull = tt
  when_spares next x answers.GroupsFull = tt
  when_spares next x (answers.Strange name) = tt
  when_spares next x (answers.NotFree name) = tt

  replaced_spares : (old : Option Hashed) (next : Asking R) → PlanSpares next → PlanSpares (then_replaced old next)
  replaced_spares None next x = x
  replaced_spares (Some h) next x = (tt, λ answer. x)

-- The plans

given_spares : (a : Owner) (end : End) (answer : Answer) → PlanSpares (plans.bind_answered a end answer)
given_spares a end answers.Done = tt
given_spares a end (answers.InUse name) = tt
given_spares a end (answers.Group g) = tt
given_spares a end answers.GroupFull = tt
given_spares a end answers.GroupsFull = tt
given_spares a end (answers.Strange name) = tt
given_spares a end (answers.NotFree name) = tt

search_spares : (a : Owner) (addr : ℕ) (ports : List ℕ) → PlanSpares (search_bind a addr (bound a addr) (ends (refused errors.NoPort)) ports)
search_spares a addr [] = tt
search_spares a addr (port ∷ ports) = (tt, next_spares (bound a addr port) _ tt (search_spares a addr ports))

pub bind_unbound_spares : (a : Owner) (end : End) (ports : List ℕ) → PlanSpares (plans.bind_unbound a end ports)
bind_unbound_spares a end ports =
    either_spares (end.port == 0) (plans.bind_any a end.addr ports) _ (either_spares a.noport _ _ tt (search_spares a end.addr ports)) (tt, given_spares a end)

module _ (shape : Shape) (seed : ℕ) where
  full_spares : (a : Owner) (slot : ℕ) (old : Option Hashed) (answer : Answer) → PlanSpares (when_done (plans.full_done shape seed a slot old) answer)
  full_spares a slot old =
      when_spares (plans.full_done shape seed a slot old) (replaced_spares old (ends (done (plans.full_in shape seed a slot))) tt)

  hashed_spares : (a : Owner) (outcome : Outcome) → PlanSpares (plans.connect_hashed shape seed a outcome)
  hashed_spares a (put slot old) = (tt, full_spares a slot old)
  hashed_spares a (taken name) = tt
  hashed_spares a (full owned held) = tt

  pub connect_bound_spares : (a : Owner) (moment : ℕ) (rule : Replace) → PlanSpares (plans.connect_bound shape seed a moment rule)
  connect_bound_spares a moment rule = hashed_spares a

  tried_spares : (a : Owner) (next : Asking Did) → PlanSpares next → (outcome : Outcome) → PlanSpares (plans.connect_tried shape seed a next outcome)
  tried_spares a next x (put slot old) = (tt, full_spares a slot old)
  tried_spares a next x (taken name) = x
  tried_spares a next x (full owned held) = tt

  free_spares : (a : Owner) (moment : ℕ) (rule : Replace) (next : Asking Did) → PlanSpares next → (answer : Answer) → PlanSpares (plans.connect_free shape seed a moment rule next answer)
  free_spares a moment rule next x answers.Done = tried_spares a next x
  free_spares a moment rule next x (answers.NotFree name) = x
  free_spares a moment rule next x (answers.InUse name) = tt
  free_spares a moment rule next x (answers.Group g) = tt
  free_spares a moment rule next x answers.GroupFull = tt
  free_spares a moment rule next x answers.GroupsFull = tt
  free_spares a moment rule next x (answers.Strange name) = tt

  pub search_connect_spares : (a : Owner) (source : ℕ) (to : End) (moment : ℕ) (rule : Replace) (ports : List ℕ) → PlanSpares (plans.search_connect shape seed a source to moment rule ports)
  search_connect_spares a source to moment rule [] = tt
  search_connect_spares a source to moment rule (port ∷ ports) =
      (tt, free_spares (connected_at a source port to) moment rule _ (search_connect_spares a source to moment rule ports))

  accepted_spares : (l child : Owner) (outcome : Outcome) → PlanSpares (plans.accept_hashed shape seed l child outcome)
  accepted_spares l child (put slot old) = (tt, full_spares child slot old)
  accepted_spares l child (taken name) = tt
  accepted_spares l child (full owned held) = tt

  pub accept_spares : (l child : Owner) → PlanSpares (plans.accept_as shape seed l child)
  accept_spares l child = accepted_spares l child

  requested_spares : (r : Owner) (outcome : Outcome) → PlanSpares (plans.syn_hashed shape seed r outcome)
  requested_spares r (put slot old) = replaced_spares old (ends (done (plans.request_in shape seed r slot))) tt
  requested_spares r (taken name) = tt
  requested_spares r (full owned held) = tt

  pub syn_spares : (r : Owner) → PlanSpares (plans.syn_as shape seed r)
  syn_spares r = requested_spares r

  handed_spares : (r : Mine) (l child : Owner) (outcome : Outcome) → PlanSpares (plans.ack_hashed shape seed r l child outcome)
  handed_spares r l child (put slot None) = (tt, when_spares (ends (done (plans.full_in shape seed child slot))) tt)
  handed_spares r l child (put slot (Some old)) = tt
  handed_spares r l child (taken name) = tt
  handed_spares r l child (full owned held) = tt

  by_spares : (r : Mine) (l : Option Mine) (name mark : ℕ) → PlanSpares (plans.ack_by shape seed r l name mark)
  by_spares r None name mark = tt
  by_spares r (Some l) name mark =
      either_spares (is_no_ack l.owner r.owner) (ends (refused errors.Inval)) _ tt (handed_spares r l.owner (heir_owner l.owner name mark r.owner))

  from_spares : (state : State) (r : Mine) (l : Option Mine) (name mark : ℕ) → PlanSpares (plans.ack_from shape seed state r l name mark)
  from_spares states.Request r l name mark = by_spares r l name mark
  from_spares states.Unbound r l name mark = tt
  from_spares states.Bound r l name mark = tt
  from_spares states.Listening r l name mark = tt
  from_spares states.Full r l name mark = tt
  from_spares states.TimeWait r l name mark = tt

  pub ack_spares : (r : Mine) (l : Option Mine) (name mark : ℕ) → PlanSpares (plans.ack shape seed r l name mark)
  ack_spares r l name mark = from_spares r.owner.state r l name mark

-- one TIME_WAIT that is reaped
reaped_spares : (w : Mine) (found : Bool) → PlanSpares (plans.reaped_next w 0 (plans.reap_each []) found)
reaped_spares w true = (tt, λ answer. tt)
reaped_spares w false = tt

pub reaped_so : {E : Type 0} (count : ℕ) (w : Mine) (v u : View) (c d : Side) (r : Result Bool E) → IfOk r (λ found. ReapsOne count w found v u c d) → OnErr r (Gave v u []) → GaveSparing v u
reaped_so count w v u c d (Ok found) goes none =
    went_spares count (plans.reap_each (w ∷ []) 0) (plans.reap_each [] (counted 0 found)) v u c d (reaped_spares w) (goes [] 0)
reaped_so count w v u c d (Err end) goes none = record { new = []; gave = none; spares = tt }
