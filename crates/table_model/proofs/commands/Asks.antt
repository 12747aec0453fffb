-- What each command's plan asks for, step by step, and what it comes to, whatever it is answered.
use Rattle.std.proofs.Common.{◌≡◌, ℕ, ◌+◌, ◌==◌, Bool, true, false, List, [], ◌∷◌, filter, Option, None, Some, refl}
use Rattle.std.specs.Prelude.{nat_lt}
use Rattle.std.proofs.lemmas.Bool.{cond_both}
use Rattle.sock_card.specs.Conflict.{owner_key, bind_key}
use Rattle.sock_card.specs.TimeWait.{is_time_wait_kind}
use Rattle.sock_card.specs.declared.card.Card.{Card}
use Rattle.sock_card.specs.declared.card.Kind.{Kind}
use Rattle.sock_card.specs.declared.card.Kind.TheVariants as kinds
use Rattle.sock_card.specs.declared.owner.Owner.{Owner}
use Rattle.sock_card.specs.declared.owner.State.{State}
use Rattle.sock_card.specs.declared.owner.State.TheVariants as states
use Rattle.bind_buckets.specs.declared.request.Request.{Request}
use Rattle.bind_buckets.specs.declared.request.Request.TheVariants as requests
use Rattle.bind_buckets.specs.declared.request.Answer.{Answer}
use Rattle.bind_buckets.specs.declared.request.Answer.TheVariants as answers
use Rattle.chain_book.specs.declared.outcome.Place.{Place}
use Rattle.chain_book.specs.declared.outcome.Hashed.{Hashed}
use Rattle.chain_book.specs.declared.outcome.Replace.{Replace}
use Rattle.chain_book.specs.declared.shape.Shape.{Shape}
use Rattle.chain_book.specs.Chains.{Outcome, put, taken, full}
use Rattle.flat_list.specs.declared.header.Header.{Header}
use Rattle.flat_list.specs.declared.header.First.TheVariants as firsts
use Rattle.flat_list.specs.declared.command.Command.{Command}
use Rattle.flat_list.specs.declared.command.Command.TheVariants as commands
use Rattle.flat_list.specs.declared.command.End.{End}
use Rattle.flat_list.specs.declared.command.Reply.TheVariants as replies
use Rattle.flat_list.specs.Owned.{addressed, bound_at, connected_to, connected_at, child_owner, request_owner, heir_owner, is_no_accept, is_no_ack}
use Rattle.flat_list.specs.Sockets.{kind_of}
use Rattle.table_model.specs.declared.operation.OpEnd.{OpEnd}
use Rattle.table_model.specs.declared.operation.OpEnd.TheVariants as errors
use Rattle.table_model.specs.Asking.{Asking, ends, asks, inserts, adds, unhashes, reaps, impossible, and_then}
use Rattle.table_model.specs.Own.{Own, Mine, card_of, is_over, open_socket, open_named, next_name, with_label, without, ports_of}
use Rattle.table_model.specs.Operations as op
use Rattle.table_model.specs.Operations.{Did, done, refused, Closed, gone, waiting, no_slot, when_done, found_next, search_bind, leave, drop_as, then_replaced, source_to, wait_of}
use Rattle.table_model.specs.Commands as command
use Rattle.table_model.specs.Commands.{Replied, connect_rule, plan}

-- an owner that the request brings has that port
abbrev pub FitsPort : ℕ → Request → Type 0
FitsPort port (requests.Bind a) = owner_key a ≡ port
FitsPort port (requests.BindAuto a) = owner_key a ≡ port
FitsPort port (requests.ConnectAuto a) = owner_key a ≡ port
FitsPort port _ = Unit {0}

-- each step of the plan asks for what passes, and it comes to what passes
module _ (Asked : ℕ → Request → Type 0) (Hashes : Card → Type 0) (Leaves : Place → Card → Type 0) where
  abbrev pub AsksOnly : {R : Type 0} → (R → Type 0) → Asking R → Type 0
  AsksOnly Q (ends r) = Q r
  AsksOnly Q (asks port request then_) = Asked port request × ((answer : Answer) → AsksOnly Q (then_ answer))
  AsksOnly Q (inserts card moment rule then_) = Hashes card × ((outcome : Outcome) → AsksOnly Q (then_ outcome))
  AsksOnly Q (adds card then_) = Hashes card × ((outcome : Outcome) → AsksOnly Q (then_ outcome))
  AsksOnly Q (unhashes place card then_) = Leaves place card × AsksOnly Q then_
  AsksOnly Q (reaps card then_) = (was_there : Bool) → AsksOnly Q (then_ was_there)
  AsksOnly Q impossible = Unit {0}

  -- one plan, and then the next
  pub then_asks : {R S : Type 0} (P : R → Type 0) (Q : S → Type 0) (plan : Asking R) (next : R → Asking S) → AsksOnly P plan → ((r : R) → P r → AsksOnly Q (next r)) → AsksOnly Q (and_then plan next)
  then_asks P Q (ends r) next h later = later r h
  then_asks P Q (asks port request then_) next h later = (h.0, λ answer. then_asks P Q (then_ answer) next (h.1 answer) later)
  then_asks P Q (inserts card moment rule then_) next h later = (h.0, λ outcome. then_asks P Q (then_ outcome) next (h.1 outcome) later)
  then_asks P Q (adds card then_) next h later = (h.0, λ outcome. then_asks P Q (then_ outcome) next (h.1 outcome) later)
  then_asks P Q (unhashes place card then_) next h later = (h.0, then_asks P Q then_ next h.1 later)
  then_asks P Q (reaps card then_) next h later = λ was_there. then_asks P Q (then_ was_there) next (h was_there) later
  then_asks P Q impossible next h later = tt

  -- a bucket that is asked for what nothing can be in the way of
  pub done_asks : {R : Type 0} (Q : R → Type 0) (next : Asking R) → AsksOnly Q next → (answer : Answer) → AsksOnly Q (when_done next answer)
  done_asks Q next h answers.Done = h
  done_asks Q next h (answers.Group group) = tt
  done_asks Q next h (answers.InUse name) = tt
  done_asks Q next h answers.GroupFull = tt
  done_asks Q next h answers.GroupsFull = tt
  done_asks Q next h (answers.Strange name) = tt
  done_asks Q next h (answers.NotFree name) = tt

module _ (Leaves : Place → Card → Type 0) where
  -- it may leave its place, where it is hashed
  abbrev pub MayLeave : Mine → Option Kind → Type 0
  MayLeave m None = Unit {0}
  MayLeave m (Some kind) = Leaves m.place (card_of kind m)

  abbrev pub OpenMayLeave : Option Mine → Type 0
  OpenMayLeave None = Unit {0}
  OpenMayLeave (Some m) = MayLeave m (kind_of m.owner.state)

  module _ (all : (place : Place) (card : Card) → Leaves place card) where
    pub may_leave : (m : Mine) (kind : Option Kind) → MayLeave m kind
    may_leave m None = tt
    may_leave m (Some kind) = all m.place (card_of kind m)

    pub open_may_leave : (o : Option Mine) → OpenMayLeave o
    open_may_leave None = tt
    open_may_leave (Some m) = may_leave m (kind_of m.owner.state)

abbrev pub AnyDid : Did → Type 0
AnyDid did = Unit {0}

-- the socket that it leaves has that name
abbrev pub NamedBy : ℕ → Did → Type 0
NamedBy name (done m) = m.owner.name ≡ name
NamedBy name (refused end) = Unit {0}

abbrev AnyClosed : Closed → Type 0
AnyClosed closed = Unit {0}

abbrev AnyCount : ℕ → Type 0
AnyCount count = Unit {0}

abbrev pub AnyReply : Replied → Type 0
AnyReply replied = Unit {0}

-- where an operation's socket is all that leaves its place, and a card that isn't in TIME_WAIT may be hashed
module _ (Hashes : Card → Type 0) (Leaves : Place → Card → Type 0) (awake : (card : Card) → is_time_wait_kind card.kind ≡ false → Hashes card) where
  abbrev As : {R : Type 0} → (R → Type 0) → Asking R → Type 0
  As {R} Q plan = AsksOnly FitsPort Hashes Leaves Q plan

  module _ {R : Type 0} (Q : R → Type 0) where
    finishes : (next : Asking R) → As Q next → (answer : Answer) → As Q (when_done next answer)
    finishes next h answer = done_asks FitsPort Hashes Leaves Q next h answer

    found_asks : (found next : Asking R) → As Q found → As Q next → (answer : Answer) → As Q (found_next found next answer)
    found_asks found next f h answers.Done = f
    found_asks found next f h (answers.Group group) = tt
    found_asks found next f h (answers.InUse name) = h
    found_asks found next f h answers.GroupFull = tt
    found_asks found next f h answers.GroupsFull = tt
    found_asks found next f h (answers.Strange name) = tt
    found_asks found next f h (answers.NotFree name) = tt

    search_asks : (a : Owner) (addr : ℕ) (found : ℕ → Asking R) (none : Asking R) (ports : List ℕ) → ((port : ℕ) → As Q (found port)) → As Q none → As Q (search_bind a addr found none ports)
    search_asks a addr found none [] f h = h
    search_asks a addr found none (port ∷ ports) f h =
        (refl, found_asks (found port) (search_bind a addr found none ports) (f port) (search_asks a addr found none ports f h))

    leave_asks : (a : Owner) (result : R) → Q result → As Q (leave a result)
    leave_asks a result q = (tt, finishes (ends result) q)

    pub drop_asks : (state : State) (m : Mine) (result : R) → MayLeave Leaves m (kind_of state) → Q result → As Q (drop_as state m result)
    drop_asks states.Unbound m result l q = q
    drop_asks states.Bound m result l q = leave_asks m.owner result q
    drop_asks states.Listening m result l q = (l, leave_asks m.owner result q)
    drop_asks states.Full m result l q = (l, leave_asks m.owner result q)
    drop_asks states.TimeWait m result l q = tt
    drop_asks states.Request m result l q = (l, q)

    replaced_asks : (old : Option Hashed) (next : Asking R) → As Q next → As Q (then_replaced old next)
    replaced_asks None next h = h
    replaced_asks (Some x) next h = (tt, λ answer. h)

  answered_asks : (a : Owner) (end : End) (answer : Answer) → As AnyDid (op.bind_answered a end answer)
  answered_asks a end answers.Done = tt
  answered_asks a end (answers.Group group) = tt
  answered_asks a end (answers.InUse name) = tt
  answered_asks a end answers.GroupFull = tt
  answered_asks a end answers.GroupsFull = tt
  answered_asks a end (answers.Strange name) = tt
  answered_asks a end (answers.NotFree name) = tt

  unbound_asks : (a : Owner) (end : End) (ports : List ℕ) → As AnyDid (op.bind_unbound a end ports)
  unbound_asks a end ports =
      cond_both (end.port == 0) (op.bind_any a end.addr ports)
      (asks (bind_key end.port a.net) (requests.Bind (bound_at a end.addr end.port)) (op.bind_answered a end)) (As AnyDid)
      (λ _. cond_both a.noport (ends (done (op.plain (addressed a end.addr)))) (search_bind a end.addr (op.bound a end.addr) (ends (refused errors.NoPort)) ports) (As AnyDid) (λ _. tt)
      (λ _. search_asks AnyDid a end.addr (op.bound a end.addr) (ends (refused errors.NoPort)) ports (λ port. tt) tt))
      (λ _. (refl, answered_asks a end))

  pub bind_asks : (state : State) (m : Mine) (end : End) (ports : List ℕ) → As AnyDid (op.bind_as state m end ports)
  bind_asks states.Unbound m end ports = unbound_asks m.owner end ports
  bind_asks states.Bound m end ports = tt
  bind_asks states.Listening m end ports = tt
  bind_asks states.Full m end ports = tt
  bind_asks states.TimeWait m end ports = tt
  bind_asks states.Request m end ports = tt

  given_up : (took : Bool) (a : Owner) (end : OpEnd) → As AnyDid (op.give_up took a end)
  given_up true a end = (tt, finishes AnyDid (ends (refused end)) tt)
  given_up false a end = tt

  module _ (shape : Shape) (seed : ℕ) where
    listen_hashed_asks : (took : Bool) (a : Owner) (l : Mine) (outcome : Outcome) → As AnyDid (op.listen_hashed shape seed took a l outcome)
    listen_hashed_asks took a l (put slot None) = (tt, finishes AnyDid (ends (done (op.listens_in shape seed l slot))) tt)
    listen_hashed_asks took a l (put slot (Some x)) = tt
    listen_hashed_asks took a l (full owned held) = given_up took a (errors.Full owned held)
    listen_hashed_asks took a l (taken name) = tt

    listen_answered_asks : (took : Bool) (a : Owner) (answer : Answer) → As AnyDid (op.listen_answered shape seed took a answer)
    listen_answered_asks took a (answers.Group group) =
        (awake (card_of kinds.Listen (op.listener a group)) refl, listen_hashed_asks took a (op.listener a group))
    listen_answered_asks took a (answers.InUse name) = given_up took a (errors.InUse name)
    listen_answered_asks took a answers.GroupFull = given_up took a errors.GroupFull
    listen_answered_asks took a answers.GroupsFull = given_up took a errors.GroupsFull
    listen_answered_asks took a answers.Done = tt
    listen_answered_asks took a (answers.Strange name) = tt
    listen_answered_asks took a (answers.NotFree name) = tt

    pub listen_asks : (state : State) (m : Mine) (ports : List ℕ) → As AnyDid (op.listen_as shape seed state m ports)
    listen_asks states.Unbound m ports =
        search_asks AnyDid m.owner m.owner.addr (op.listen_found shape seed m.owner) (ends (refused errors.NoPort)) ports
        (λ port. (tt, listen_answered_asks true (bound_at m.owner m.owner.addr port))) tt
    listen_asks states.Bound m ports = (tt, listen_answered_asks false m.owner)
    listen_asks states.Listening m ports = tt
    listen_asks states.Full m ports = tt
    listen_asks states.TimeWait m ports = tt
    listen_asks states.Request m ports = tt

    full_asks : (Q : Did → Type 0) (a : Owner) (slot : ℕ) (old : Option Hashed) → Q (done (op.full_in shape seed a slot)) → As Q (op.full_done shape seed a slot old)
    full_asks Q a slot old q = replaced_asks Q old (ends (done (op.full_in shape seed a slot))) q

    connect_hashed_asks : (a : Owner) (outcome : Outcome) → As AnyDid (op.connect_hashed shape seed a outcome)
    connect_hashed_asks a (put slot old) = (tt, finishes AnyDid (op.full_done shape seed a slot old) (full_asks AnyDid a slot old tt))
    connect_hashed_asks a (taken name) = tt
    connect_hashed_asks a (full owned held) = tt

    tried_asks : (a : Owner) (next : Asking Did) → As AnyDid next → (outcome : Outcome) → As AnyDid (op.connect_tried shape seed a next outcome)
    tried_asks a next h (put slot old) = (refl, finishes AnyDid (op.full_done shape seed a slot old) (full_asks AnyDid a slot old tt))
    tried_asks a next h (taken name) = h
    tried_asks a next h (full owned held) = tt

    free_asks : (a : Owner) (moment : ℕ) (rule : Replace) (next : Asking Did) → As AnyDid next → (answer : Answer) → As AnyDid (op.connect_free shape seed a moment rule next answer)
    free_asks a moment rule next h answers.Done = (awake (op.full_card a) refl, tried_asks a next h)
    free_asks a moment rule next h (answers.NotFree name) = h
    free_asks a moment rule next h (answers.Group group) = tt
    free_asks a moment rule next h (answers.InUse name) = tt
    free_asks a moment rule next h answers.GroupFull = tt
    free_asks a moment rule next h answers.GroupsFull = tt
    free_asks a moment rule next h (answers.Strange name) = tt

    connect_search_asks : (a : Owner) (source : ℕ) (to : End) (moment : ℕ) (rule : Replace) (ports : List ℕ) → As AnyDid (op.search_connect shape seed a source to moment rule ports)
    connect_search_asks a source to moment rule [] = tt
    connect_search_asks a source to moment rule (port ∷ ports) =
        (tt, free_asks (connected_at a source port to) moment rule (op.search_connect shape seed a source to moment rule ports) (connect_search_asks a source to moment rule ports))

    pub connect_asks : (state : State) (a : Owner) (source : Option ℕ) (to : End) (moment : ℕ) (rule : Replace) (ports : List ℕ) → As AnyDid (op.connect_from shape seed state a source to moment rule ports)
    connect_asks states.Unbound a (Some source) to moment rule ports = connect_search_asks a source to moment rule ports
    connect_asks states.Bound a (Some source) to moment rule ports =
        (awake (op.full_card (connected_to a source to)) refl, connect_hashed_asks (connected_to a source to))
    connect_asks states.Unbound a None to moment rule ports = tt
    connect_asks states.Bound a None to moment rule ports = tt
    connect_asks states.Listening a source to moment rule ports = tt
    connect_asks states.Full a source to moment rule ports = tt
    connect_asks states.TimeWait a source to moment rule ports = tt
    connect_asks states.Request a source to moment rule ports = tt

    accept_hashed_asks : (l child : Owner) (outcome : Outcome) → As (NamedBy child.name) (op.accept_hashed shape seed l child outcome)
    accept_hashed_asks l child (put slot old) =
        (tt, finishes (NamedBy child.name) (op.full_done shape seed child slot old) (full_asks (NamedBy child.name) child slot old refl))
    accept_hashed_asks l child (taken name) = tt
    accept_hashed_asks l child (full owned held) = tt

    pub accept_asks : (l : Mine) (name mark : ℕ) (from at : End) → As (NamedBy name) (op.accept shape seed l name mark from at)
    accept_asks l name mark from at =
        let child : Owner = child_owner l.owner name mark from at in
        cond_both (is_no_accept l.owner from at) (ends (refused errors.Inval)) (op.accept_as shape seed l.owner child) (As (NamedBy name)) (λ _. tt)
        (λ _. (awake (op.full_card child) refl, accept_hashed_asks l.owner child))

    syn_hashed_asks : (r : Owner) (outcome : Outcome) → As (NamedBy r.name) (op.syn_hashed shape seed r outcome)
    syn_hashed_asks r (put slot old) = replaced_asks (NamedBy r.name) old (ends (done (op.request_in shape seed r slot))) refl
    syn_hashed_asks r (taken name) = tt
    syn_hashed_asks r (full owned held) = tt

    pub syn_asks : (l : Mine) (name mark : ℕ) (from at : End) → As (NamedBy name) (op.syn shape seed l name mark from at)
    syn_asks l name mark from at =
        let r : Owner = request_owner l.owner name mark from at in
        cond_both (is_no_accept l.owner from at) (ends (refused errors.Inval)) (op.syn_as shape seed r) (As (NamedBy name)) (λ _. tt)
        (λ _. (awake (op.request_card r) refl, syn_hashed_asks r))

    ack_hashed_asks : (r : Mine) (l child : Owner) → Leaves r.place (card_of kinds.Request r) → (outcome : Outcome) → As (NamedBy child.name) (op.ack_hashed shape seed r l child outcome)
    ack_hashed_asks r l child leaves (put slot None) =
        (leaves, (tt, finishes (NamedBy child.name) (ends (done (op.full_in shape seed child slot))) refl))
    ack_hashed_asks r l child leaves (put slot (Some x)) = tt
    ack_hashed_asks r l child leaves (full owned held) = tt
    ack_hashed_asks r l child leaves (taken name) = tt

    ack_by_asks : (r : Mine) (l : Option Mine) (name mark : ℕ) → Leaves r.place (card_of kinds.Request r) → As (NamedBy name) (op.ack_by shape seed r l name mark)
    ack_by_asks r None name mark leaves = tt
    ack_by_asks r (Some l) name mark leaves =
        let child : Owner = heir_owner l.owner name mark r.owner in
        cond_both (is_no_ack l.owner r.owner) (ends (refused errors.Inval)) (op.ack_as shape seed r l.owner child) (As (NamedBy name)) (λ _. tt)
        (λ _. (awake (op.full_card child) refl, ack_hashed_asks r l.owner child leaves))

    pub ack_asks : (state : State) (r : Mine) (l : Option Mine) (name mark : ℕ) → MayLeave Leaves r (kind_of state) → As (NamedBy name) (op.ack_from shape seed state r l name mark)
    ack_asks states.Request r l name mark leaves = ack_by_asks r l name mark leaves
    ack_asks states.Unbound r l name mark leaves = tt
    ack_asks states.Bound r l name mark leaves = tt
    ack_asks states.Listening r l name mark leaves = tt
    ack_asks states.Full r l name mark leaves = tt
    ack_asks states.TimeWait r l name mark leaves = tt

  -- and a TIME_WAIT may be hashed too
  module _ (waits : (card : Card) → Hashes card) where
    reaped_asks : (w : Mine) (count : ℕ) (next : ℕ → Asking ℕ) → ((n : ℕ) → As AnyCount (next n)) → (was_there : Bool) → As AnyCount (op.reaped_next w count next was_there)
    reaped_asks w count next h true = (tt, λ answer. h (count + 1))
    reaped_asks w count next h false = h count

    reap_asks : (ws : List Mine) (count : ℕ) → As AnyCount (op.reap_each ws count)
    reap_asks [] count = tt
    reap_asks (w ∷ ws) count = reaped_asks w count (op.reap_each ws) (reap_asks ws)

    module _ (header : Header) (own : Own) where
      close_hashed_asks : (m w : Mine) → Leaves m.place (card_of kinds.Full m) → (outcome : Outcome) → As AnyClosed (op.close_hashed header.shape header.seed m w outcome)
      close_hashed_asks m w leaves (put slot None) =
          (leaves, (tt, finishes AnyClosed (ends (waiting (op.waits_in header.shape header.seed w slot))) tt))
      close_hashed_asks m w leaves (put slot (Some x)) = tt
      close_hashed_asks m w leaves (full owned held) = (leaves, leave_asks AnyClosed m.owner (no_slot owned held) tt)
      close_hashed_asks m w leaves (taken name) = tt

      close_asks : (state : State) (m : Mine) → MayLeave Leaves m (kind_of state) → As AnyClosed (op.close_as header.shape header.seed state m own.moment)
      close_asks states.Full m leaves = (waits (card_of kinds.TimeWait (wait_of m own.moment)), close_hashed_asks m (wait_of m own.moment) leaves)
      close_asks states.Unbound m leaves = drop_asks AnyClosed states.Unbound m gone leaves tt
      close_asks states.Bound m leaves = drop_asks AnyClosed states.Bound m gone leaves tt
      close_asks states.Listening m leaves = drop_asks AnyClosed states.Listening m gone leaves tt
      close_asks states.TimeWait m leaves = drop_asks AnyClosed states.TimeWait m gone leaves tt
      close_asks states.Request m leaves = drop_asks AnyClosed states.Request m gone leaves tt

      -- an operation's plan, and the reply to it
      replied : {R : Type 0} (Q : R → Type 0) (plan : Asking R) (reply : R → Replied) → As Q plan → As AnyReply (and_then plan (λ r. ends (reply r)))
      replied Q plan reply h = then_asks FitsPort Hashes Leaves Q AnyReply plan (λ r. ends (reply r)) h (λ r q. tt)

      bind_command_asks : (o : Option Mine) (end : End) → As AnyReply (command.bind_command own o end)
      bind_command_asks None end = tt
      bind_command_asks (Some m) end = replied AnyDid _ _ (bind_asks m.owner.state m end (ports_of own.offsets firsts.Odd))

      listen_command_asks : (o : Option Mine) → As AnyReply (command.listen_command header own o)
      listen_command_asks None = tt
      listen_command_asks (Some m) = replied AnyDid _ _ (listen_asks header.shape header.seed m.owner.state m (ports_of own.offsets firsts.Odd))

      connect_command_asks : (o : Option Mine) (from : Option ℕ) (to : End) → As AnyReply (command.connect_command header own o from to)
      connect_command_asks None from to = tt
      connect_command_asks (Some m) from to =
          replied AnyDid _ _
          (connect_asks header.shape header.seed m.owner.state m.owner (source_to m.owner from to) to own.moment (connect_rule header) (ports_of own.offsets firsts.Even))

      accept_command_asks : (labelled : Own) (name : ℕ) (o : Option Mine) (from at : End) → As AnyReply (command.accept_command header labelled name o from at)
      accept_command_asks labelled name None from at = tt
      accept_command_asks labelled name (Some l) from at = replied (NamedBy name) _ _ (accept_asks header.shape header.seed l name labelled.mark from at)

      syn_command_asks : (labelled : Own) (name : ℕ) (o : Option Mine) (from at : End) → As AnyReply (command.syn_command header labelled name o from at)
      syn_command_asks labelled name None from at = tt
      syn_command_asks labelled name (Some l) from at = replied (NamedBy name) _ _ (syn_asks header.shape header.seed l name labelled.mark from at)

      ack_command_asks : (labelled : Own) (name : ℕ) (o : Option Mine) → OpenMayLeave Leaves o → As AnyReply (command.ack_command header labelled name o)
      ack_command_asks labelled name None leaves = tt
      ack_command_asks labelled name (Some r) leaves =
          replied (NamedBy name) _ _ (ack_asks header.shape header.seed r.owner.state r (open_named labelled r.owner.origin) name labelled.mark leaves)

      close_command_asks : (o : Option Mine) → OpenMayLeave Leaves o → As AnyReply (command.close_command header own o)
      close_command_asks None leaves = tt
      close_command_asks (Some m) leaves = replied AnyClosed _ _ (close_asks m.owner.state m leaves)

      drop_command_asks : (o : Option Mine) → OpenMayLeave Leaves o → As AnyReply (command.drop_command own o)
      drop_command_asks None leaves = tt
      drop_command_asks (Some m) leaves = drop_asks AnyReply m.owner.state m (command.answers (without own m.owner.name) replies.Ok) leaves tt

      at_command_asks : (moment : ℕ) → As AnyReply (command.at_command own moment)
      at_command_asks moment =
          cond_both (nat_lt moment own.moment) (command.replies_at_once own replies.Einval) (command.replies_at_once (record own { moment = moment }) replies.Ok) (As AnyReply) (λ _. tt) (λ _. tt)

      -- of each command, where the socket that a label names may leave its place
      pub plan_asks : ((label : List ℕ) → OpenMayLeave Leaves (open_socket own label)) → (c : Command) → As AnyReply (plan header own c)
      unfolding plan
      plan_asks leaves (commands.Socket label options) = tt
      plan_asks leaves (commands.Bind label end) = bind_command_asks (open_socket own label) end
      plan_asks leaves (commands.Listen label) = listen_command_asks (open_socket own label)
      plan_asks leaves (commands.Connect label from to) = connect_command_asks (open_socket own label) from to
      plan_asks leaves (commands.Accept listener label from at) = accept_command_asks (with_label own label) (next_name own) (open_socket own listener) from at
      plan_asks leaves (commands.Syn listener label from at) = syn_command_asks (with_label own label) (next_name own) (open_socket own listener) from at
      plan_asks leaves (commands.Ack request label) = ack_command_asks (with_label own label) (next_name own) (open_socket own request) (leaves request)
      plan_asks leaves (commands.Close label) = close_command_asks (open_socket own label) (leaves label)
      plan_asks leaves (commands.Drop label) = drop_command_asks (open_socket own label) (leaves label)
      plan_asks leaves (commands.At moment) = at_command_asks moment
      plan_asks leaves commands.Reap = replied AnyCount _ _ (reap_asks (filter (is_over own.moment) own.waits) 0)
      plan_asks leaves (commands.Look query) = tt
      plan_asks leaves (commands.Packets count) = tt
      plan_asks leaves commands.Dump = tt
