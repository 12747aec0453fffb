-- What plans ask about other names, whatever they are answered: for the tests, in which one socket comes after another.
use Rattle.std.proofs.Common.{◌≡◌, ℕ, ◌==◌, ◌&&◌, not, Bool, true, false, List, [], ◌∷◌, filter, Option, None, Some, cond, refl, sym, subst}
use Rattle.list_words.specs.Lists.{Each}
use Rattle.list_words.proofs.EachLemmas.{each_append, each_filter, each_map}
use Rattle.sock_card.specs.declared.owner.Owner.{Owner}
use Rattle.sock_card.specs.declared.owner.State.{State}
use Rattle.sock_card.specs.declared.owner.State.TheVariants as states
use Rattle.turn_table.specs.declared.note.Placed.{Placed}
use Rattle.turn_table.specs.Journals.{notes_at}
use Rattle.bind_buckets.specs.declared.request.Request.{Request}
use Rattle.bind_buckets.specs.declared.request.Answer.{Answer}
use Rattle.bind_buckets.specs.declared.request.Answer.TheVariants as answers
use Rattle.bind_buckets.specs.declared.request.Entry.{Entry}
use Rattle.bind_buckets.specs.Followed.{speaks_of}
use Rattle.bind_buckets.specs.Notes.{Note}
use Rattle.bind_buckets.specs.OwnTold.{removes_waiting}
use Rattle.bind_buckets.specs.Turned.{View}
use Rattle.chain_book.specs.declared.outcome.Hashed.{Hashed}
use Rattle.chain_book.specs.declared.outcome.Replace.{Replace}
use Rattle.chain_book.specs.declared.shape.Shape.{Shape}
use Rattle.chain_book.specs.Chains.{Outcome, put, taken, full}
use Rattle.flat_list.specs.declared.command.End.{End}
use Rattle.flat_list.specs.Owned.{bound_at, connected_at, connected_to, is_no_accept, request_owner}
use Rattle.table_model.specs.declared.operation.OpEnd.{OpEnd}
use Rattle.table_model.specs.declared.operation.OpEnd.TheVariants as errors
use Rattle.table_model.specs.Asking.{Asking, ends, asks, inserts, adds, unhashes, reaps, impossible}
use Rattle.table_model.specs.Own.{Mine}
use Rattle.table_model.specs.Operations as plans
use Rattle.table_model.specs.Operations.{Did, refused, when_done, found_next, search_bind, source_to, then_replaced}
use Rattle.race_record.specs.Deeds.{Deed, entered, inserted, added, left, reaped, entries_in}
use Rattle.race_record.specs.Goes.{outcome_of, was_there}
use Rattle.sock_ops.specs.Sides.{Side}
use Rattle.sock_ops.specs.Goes.{Went}
use Rattle.sock_ops.specs.Leads.{Leads}
use Rattle.sock_ops.specs.There.{IsNew}

abbrev pub Misses : ℕ → Request → Type 0
Misses name request = (not (removes_waiting request) && speaks_of (λ n. n == name) request) ≡ false

abbrev pub AllMiss : ℕ → List (Placed Entry) → Type 0
AllMiss name xs = Each (λ (x : Placed Entry). Misses name x.note.entry.request) xs

-- the plan asks about no owner of that name
abbrev pub NeverAsks : {R : Type 0} → ℕ → Asking R → Type 0
NeverAsks name (ends r) = Unit {0}
NeverAsks name (asks port request then_) = Misses name request × ((a : Answer) → NeverAsks name (then_ a))
NeverAsks name (inserts card moment rule then_) = (o : Outcome) → NeverAsks name (then_ o)
NeverAsks name (adds card then_) = (o : Outcome) → NeverAsks name (then_ o)
NeverAsks name (unhashes place card then_) = NeverAsks name then_
NeverAsks name (reaps card then_) = (b : Bool) → NeverAsks name (then_ b)
NeverAsks name impossible = Unit {0}

module _ {R : Type 0} (name count : ℕ) where
  missed : (p rest : Asking R) (deeds : List Deed) → Leads p deeds rest → NeverAsks name p → AllMiss name (entries_in count deeds)
  missed p rest [] l h = tt
  missed (asks port request then_) rest (entered p note ∷ deeds) l h =
      (subst (Misses name) (sym l.1.1) h.0, missed l.0 rest deeds l.2 (subst (NeverAsks name) (sym l.1.2) (h.1 note.entry.answer)))
  missed (inserts card moment rule then_) rest (inserted wish tried ∷ deeds) l h =
      missed l.0 rest deeds l.2 (subst (NeverAsks name) (sym l.1.2) (h (outcome_of tried)))
  missed (adds card then_) rest (added c tried ∷ deeds) l h =
      missed l.0 rest deeds l.2 (subst (NeverAsks name) (sym l.1.2) (h (outcome_of tried)))
  missed (unhashes place card then_) rest (left u ∷ deeds) l h = missed l.0 rest deeds l.2 (subst (NeverAsks name) (sym l.1.1) h)
  missed (reaps card then_) rest (reaped c unhash ∷ deeds) l h =
      missed l.0 rest deeds l.2 (subst (NeverAsks name) (sym l.1.2) (h (was_there unhash)))
  missed p rest (deed ∷ deeds) l h = absurd l.1

  -- so no bucket is asked about it
  pub still_missed : (p rest : Asking R) (v w : View) (c d : Side) → Went count p v w c d rest → NeverAsks name p → AllMiss name v.mine → AllMiss name w.mine
  still_missed p rest v w c d went never before =
      subst (AllMiss name) (sym went.gave.mine)
      (each_append (λ (x : Placed Entry). Misses name x.note.entry.request) v.mine (entries_in count went.deeds) before (missed p rest went.deeds went.leads never))

-- a name of which no bucket was asked is new
pub missed_new : (name : ℕ) (v : View) → AllMiss name v.mine → IsNew name v
missed_new name v none = λ place.
    each_filter (λ (x : Note). Misses name x.entry.request) (λ (x : Note). x.caller == v.caller) (notes_at place v.mine)
    (each_map (λ (x : Note). Misses name x.entry.request) (λ (p : Placed Entry). p.note) (filter (λ (p : Placed Entry). p.place == place) v.mine)
    (each_filter (λ (x : Placed Entry). Misses name x.note.entry.request) (λ (p : Placed Entry). p.place == place) v.mine none))

-- The plans

module _ {R : Type 0} (name : ℕ) where
  never_when : (next : Asking R) → NeverAsks name next → (a : Answer) → NeverAsks name (when_done next a)
  never_when next h answers.Done = h
  never_when next h (answers.Group g) = tt
  never_when next h (answers.InUse n) = tt
  never_when next h answers.GroupFull = tt
  never_when next h answers.GroupsFull = tt
  never_when next h (answers.Strange n) = tt
  never_when next h (answers.NotFree n) = tt

  never_found : (found next : Asking R) → NeverAsks name found → NeverAsks name next → (a : Answer) → NeverAsks name (found_next found next a)
  never_found found next h g answers.Done = h
  never_found found next h g (answers.Group n) = tt
  never_found found next h g (answers.InUse n) = g
  never_found found next h g answers.GroupFull = tt
  never_found found next h g answers.GroupsFull = tt
  never_found found next h g (answers.Strange n) = tt
  never_found found next h g (answers.NotFree n) = tt

  never_replaced : (old : Option Hashed) (next : Asking R) → NeverAsks name next → NeverAsks name (then_replaced old next)
  never_replaced None next h = h
  never_replaced (Some x) next h = (refl, λ a. h)

module _ (shape : Shape) (seed name : ℕ) where
  -- of a request
  syn_hashed_never : (r : Owner) (o : Outcome) → NeverAsks name (plans.syn_hashed shape seed r o)
  syn_hashed_never r (put slot old) = never_replaced name old (ends (plans.done (plans.request_in shape seed r slot))) tt
  syn_hashed_never r (taken n) = tt
  syn_hashed_never r (full owned held) = tt

  syn_if : (r : Owner) (b : Bool) → NeverAsks name (cond b (ends (refused errors.Inval)) (plans.syn_as shape seed r))
  syn_if r true = tt
  syn_if r false = syn_hashed_never r

  pub syn_never : (l : Mine) (its mark : ℕ) (from at : End) → NeverAsks name (plans.syn shape seed l its mark from at)
  syn_never l its mark from at = syn_if (request_owner l.owner its mark from at) (is_no_accept l.owner from at)

  -- of a socket of another name
  module _ (a : Owner) (other : (a.name == name) ≡ false) where
    give_up_never : (took : Bool) (end : OpEnd) → NeverAsks name (plans.give_up took a end)
    give_up_never true end = (other, never_when name (ends (refused end)) tt)
    give_up_never false end = tt

    listen_hashed_never : (took : Bool) (l : Mine) (o : Outcome) → NeverAsks name (plans.listen_hashed shape seed took a l o)
    listen_hashed_never took l (put slot None) = (other, never_when name (ends (plans.done (plans.listens_in shape seed l slot))) tt)
    listen_hashed_never took l (put slot (Some old)) = tt
    listen_hashed_never took l (taken n) = tt
    listen_hashed_never took l (full owned held) = give_up_never took (errors.Full owned held)

    listen_answered_never : (took : Bool) (x : Answer) → NeverAsks name (plans.listen_answered shape seed took a x)
    listen_answered_never took answers.Done = tt
    listen_answered_never took (answers.Group g) = listen_hashed_never took (plans.listener a g)
    listen_answered_never took (answers.InUse n) = give_up_never took (errors.InUse n)
    listen_answered_never took answers.GroupFull = give_up_never took errors.GroupFull
    listen_answered_never took answers.GroupsFull = give_up_never took errors.GroupsFull
    listen_answered_never took (answers.Strange n) = tt
    listen_answered_never took (answers.NotFree n) = tt

    full_never : (slot : ℕ) (old : Option Hashed) (x : Answer) → NeverAsks name (when_done (plans.full_done shape seed a slot old) x)
    full_never slot old = never_when name (plans.full_done shape seed a slot old) (never_replaced name old (ends (plans.done (plans.full_in shape seed a slot))) tt)

    connect_hashed_never : (o : Outcome) → NeverAsks name (plans.connect_hashed shape seed a o)
    connect_hashed_never (put slot old) = (other, full_never slot old)
    connect_hashed_never (taken n) = tt
    connect_hashed_never (full owned held) = tt

    tried_never : (next : Asking Did) → NeverAsks name next → (o : Outcome) → NeverAsks name (plans.connect_tried shape seed a next o)
    tried_never next h (put slot old) = (other, full_never slot old)
    tried_never next h (taken n) = h
    tried_never next h (full owned held) = tt

    free_never : (moment : ℕ) (rule : Replace) (next : Asking Did) → NeverAsks name next → (x : Answer) → NeverAsks name (plans.connect_free shape seed a moment rule next x)
    free_never moment rule next h answers.Done = tried_never next h
    free_never moment rule next h (answers.Group n) = tt
    free_never moment rule next h (answers.InUse n) = tt
    free_never moment rule next h answers.GroupFull = tt
    free_never moment rule next h answers.GroupsFull = tt
    free_never moment rule next h (answers.Strange n) = tt
    free_never moment rule next h (answers.NotFree n) = h

  search_never : (a : Owner) (addr : ℕ) (found : ℕ → Asking Did) (none : Asking Did) → (a.name == name) ≡ false → ((port : ℕ) → NeverAsks name (found port)) → NeverAsks name none → (ports : List ℕ) → NeverAsks name (search_bind a addr found none ports)
  search_never a addr found none other h g [] = g
  search_never a addr found none other h g (port ∷ ports) =
      (other, never_found name (found port) (search_bind a addr found none ports) (h port) (search_never a addr found none other h g ports))

  search_connect_never : (a : Owner) (source : ℕ) (to : End) (moment : ℕ) (rule : Replace) → (a.name == name) ≡ false → (ports : List ℕ) → NeverAsks name (plans.search_connect shape seed a source to moment rule ports)
  search_connect_never a source to moment rule other [] = tt
  search_connect_never a source to moment rule other (port ∷ ports) =
      (refl, free_never (connected_at a source port to) other moment rule (plans.search_connect shape seed a source to moment rule ports) (search_connect_never a source to moment rule other ports))

  module _ (m : Mine) (other : (m.owner.name == name) ≡ false) where
    listen_as_never : (ports : List ℕ) (state : State) → NeverAsks name (plans.listen_as shape seed state m ports)
    listen_as_never ports states.Unbound =
        search_never m.owner m.owner.addr (plans.listen_found shape seed m.owner) (ends (refused errors.NoPort)) other
        (λ port. (other, listen_answered_never (bound_at m.owner m.owner.addr port) other true)) tt ports
    listen_as_never ports states.Bound = (other, listen_answered_never m.owner other false)
    listen_as_never ports states.Listening = tt
    listen_as_never ports states.Full = tt
    listen_as_never ports states.TimeWait = tt
    listen_as_never ports states.Request = tt

    pub listen_never : (ports : List ℕ) → NeverAsks name (plans.listen shape seed m ports)
    listen_never ports = listen_as_never ports m.owner.state

    connect_from_never : (source : Option ℕ) (to : End) (moment : ℕ) (rule : Replace) (ports : List ℕ) (state : State) → NeverAsks name (plans.connect_from shape seed state m.owner source to moment rule ports)
    connect_from_never (Some source) to moment rule ports states.Unbound = search_connect_never m.owner source to moment rule other ports
    connect_from_never (Some source) to moment rule ports states.Bound = connect_hashed_never (connected_to m.owner source to) other
    connect_from_never None to moment rule ports states.Unbound = tt
    connect_from_never None to moment rule ports states.Bound = tt
    connect_from_never source to moment rule ports states.Listening = tt
    connect_from_never source to moment rule ports states.Full = tt
    connect_from_never source to moment rule ports states.TimeWait = tt
    connect_from_never source to moment rule ports states.Request = tt

    pub connect_never : (from : Option ℕ) (to : End) (moment : ℕ) (rule : Replace) (ports : List ℕ) → NeverAsks name (plans.connect shape seed m from to moment rule ports)
    connect_never from to moment rule ports = connect_from_never (source_to m.owner from to) to moment rule ports m.owner.state

    leave_never : {R : Type 0} (result : R) → NeverAsks name (plans.leave m.owner result)
    leave_never result = (other, never_when name (ends result) tt)

    drop_as_never : {R : Type 0} (result : R) (state : State) → NeverAsks name (plans.drop_as state m result)
    drop_as_never result states.Unbound = tt
    drop_as_never result states.Bound = leave_never result
    drop_as_never result states.Listening = leave_never result
    drop_as_never result states.Full = leave_never result
    drop_as_never result states.Request = tt
    drop_as_never result states.TimeWait = tt

    pub drop_never : {R : Type 0} (result : R) → NeverAsks name (plans.drop m result)
    drop_never result = drop_as_never result m.owner.state

    close_hashed_never : (w : Mine) (o : Outcome) → NeverAsks name (plans.close_hashed shape seed m w o)
    close_hashed_never w (put slot None) = (other, never_when name (ends (plans.waiting (plans.waits_in shape seed w slot))) tt)
    close_hashed_never w (put slot (Some old)) = tt
    close_hashed_never w (taken n) = tt
    close_hashed_never w (full owned held) = leave_never (plans.no_slot owned held)

    close_as_never : (moment : ℕ) (state : State) → NeverAsks name (plans.close_as shape seed state m moment)
    close_as_never moment states.Full = close_hashed_never (plans.wait_of m moment)
    close_as_never moment states.Unbound = tt
    close_as_never moment states.Bound = leave_never plans.gone
    close_as_never moment states.Listening = leave_never plans.gone
    close_as_never moment states.Request = tt
    close_as_never moment states.TimeWait = tt

    pub close_never : (moment : ℕ) → NeverAsks name (plans.close shape seed m moment)
    close_never moment = close_as_never moment m.owner.state
