-- What plans ask, whatever they are answered: about which names, which cards leave their chains, and what is left.
use Rattle.std.proofs.Common.{◌≡◌, ◌==◌, ◌||◌, ◌∙◌, ℕ, Bool, true, false, cond, List, [], ◌∷◌, Option, None, Some, refl, sym, subst}
use Rattle.std.specs.Option.{option_map_or}
use Rattle.list_words.specs.Lists.{Each}
use Rattle.sock_card.specs.Conflict.{bind_key, is_time_wait}
use Rattle.sock_card.specs.declared.card.Card.{Card}
use Rattle.sock_card.specs.declared.owner.Owner.{Owner}
use Rattle.sock_card.specs.declared.owner.State.{State}
use Rattle.sock_card.specs.declared.owner.State.TheVariants as states
use Rattle.turn_table.specs.declared.note.Placed.{Placed}
use Rattle.bind_buckets.specs.declared.request.Request.{Request}
use Rattle.bind_buckets.specs.declared.request.Request.TheVariants as requests
use Rattle.bind_buckets.specs.declared.request.Answer.{Answer}
use Rattle.bind_buckets.specs.declared.request.Answer.TheVariants as answers
use Rattle.bind_buckets.specs.declared.request.Entry.{Entry}
use Rattle.chain_book.specs.declared.outcome.Hashed.{Hashed}
use Rattle.chain_book.specs.declared.outcome.Replace.{Replace}
use Rattle.chain_book.specs.declared.shape.Shape.{Shape}
use Rattle.chain_book.specs.Chains.{Outcome, put, taken, full}
use Rattle.flat_list.specs.declared.command.End.{End}
use Rattle.flat_list.specs.Owned.{addressed, bound_at, connected_at, connected_to, is_no_accept, is_no_ack, child_owner, request_owner, heir_owner, own_end, other_end}
use Rattle.table_model.specs.declared.operation.OpEnd.{OpEnd}
use Rattle.table_model.specs.declared.operation.OpEnd.TheVariants as errors
use Rattle.table_model.specs.Asking.{Asking, ends, asks, inserts, adds, unhashes, reaps, impossible}
use Rattle.table_model.specs.Own.{Mine}
use Rattle.table_model.specs.Operations as plans
use Rattle.table_model.specs.Operations.{Did, done, refused, Closed, gone, waiting, no_slot, when_done, found_next, search_bind, then_replaced, source_to}
use Rattle.race_record.specs.Deeds.{Deed, entered, inserted, added, left, reaped, entries_in}
use Rattle.race_record.specs.Goes.{outcome_of, was_there}
use Rattle.bind_buckets.specs.Turned.{View}
use Rattle.sock_ops.specs.Sides.{Side}
use Rattle.sock_ops.specs.Goes.{Went}
use Rattle.sock_ops.specs.Leads.{Leads}
use Rattle.sock_ops.proofs.AcceptGoes.{accepts}

-- what a plan may ask of bind buckets, what it may take out of chains, and what it may come to
abbrev pub AllAsk : {R : Type 0} → (Request → Type 0) → (Card → Type 0) → (R → Type 0) → Asking R → Type 0
AllAsk P U Q (ends r) = Q r
AllAsk P U Q (asks port request then_) = P request × ((a : Answer) → AllAsk P U Q (then_ a))
AllAsk P U Q (inserts card moment rule then_) = (o : Outcome) → AllAsk P U Q (then_ o)
AllAsk P U Q (adds card then_) = (o : Outcome) → AllAsk P U Q (then_ o)
AllAsk P U Q (unhashes place card then_) = U card × AllAsk P U Q then_
AllAsk P U Q (reaps card then_) = (b : Bool) → AllAsk P U Q (then_ b)
AllAsk P U Q impossible = Unit {0}

abbrev pub OnLeft : (Card → Type 0) → Deed → Type 0
OnLeft U (left unhash) = U unhash.card
OnLeft U _ = Unit {0}

-- so it was asked, as far as the plan went
pub record AskedSo {R : Type 0} (P : Request → Type 0) (U : Card → Type 0) (Q : R → Type 0) (count : ℕ) (deeds : List Deed) (rest : Asking R) : Type 0 where
  pub entries : Each (λ (x : Placed Entry). P x.note.entry.request) (entries_in count deeds)
  pub unhashed : Each (OnLeft U) deeds
  pub left : AllAsk P U Q rest

module _ {R : Type 0} (P : Request → Type 0) (U : Card → Type 0) (Q : R → Type 0) (count : ℕ) where
  past : (deed : Deed) (deeds : List Deed) (rest : Asking R) → OnLeft U deed → entries_in count (deed ∷ deeds) ≡ entries_in count deeds → AskedSo P U Q count deeds rest → AskedSo P U Q count (deed ∷ deeds) rest
  past deed deeds rest u same h =
      record { entries = subst (Each (λ (x : Placed Entry). P x.note.entry.request)) (sym same) h.entries; unhashed = (u, h.unhashed); left = h.left }

  pub asked_so : (p rest : Asking R) (deeds : List Deed) → Leads p deeds rest → AllAsk P U Q p → AskedSo P U Q count deeds rest
  asked_so p rest [] l h = record { entries = tt; unhashed = tt; left = subst (AllAsk P U Q) l h }
  asked_so (asks port request then_) rest (entered p note ∷ deeds) l h =
      let more = asked_so l.0 rest deeds l.2 (subst (AllAsk P U Q) (sym l.1.2) (h.1 note.entry.answer)) in
      record { entries = (subst P (sym l.1.1) h.0, more.entries); unhashed = (tt, more.unhashed); left = more.left }
  asked_so (inserts card moment rule then_) rest (inserted wish tried ∷ deeds) l h =
      past (inserted wish tried) deeds rest tt refl (asked_so l.0 rest deeds l.2 (subst (AllAsk P U Q) (sym l.1.2) (h (outcome_of tried))))
  asked_so (adds card then_) rest (added c tried ∷ deeds) l h =
      past (added c tried) deeds rest tt refl (asked_so l.0 rest deeds l.2 (subst (AllAsk P U Q) (sym l.1.2) (h (outcome_of tried))))
  asked_so (unhashes place card then_) rest (left u ∷ deeds) l h =
      past (left u) deeds rest (subst U (sym l.1.0.unhash.card_is) h.0) refl (asked_so l.0 rest deeds l.2 (subst (AllAsk P U Q) (sym l.1.1) h.1))
  asked_so (reaps card then_) rest (reaped c unhash ∷ deeds) l h =
      past (reaped c unhash) deeds rest tt refl (asked_so l.0 rest deeds l.2 (subst (AllAsk P U Q) (sym l.1.2) (h (was_there unhash))))
  asked_so p rest (deed ∷ deeds) l h = absurd l.1

-- Requests

-- about one owner, who stays open or goes at once
abbrev pub IsAbout : ℕ → Request → Type 0
IsAbout name (requests.Bind a) = (a.name ≡ name) × (is_time_wait a.state ≡ false)
IsAbout name (requests.BindAuto a) = (a.name ≡ name) × (is_time_wait a.state ≡ false)
IsAbout name (requests.MayListen n) = n ≡ name
IsAbout name (requests.Listen n slot) = n ≡ name
IsAbout name (requests.Free port net) = Unit {0}
IsAbout name (requests.ConnectAuto a) = (a.name ≡ name) × (is_time_wait a.state ≡ false)
IsAbout name (requests.ConnectBound n local remote rport) = n ≡ name
IsAbout name (requests.Inherit parent n mark local remote rport) = ⊥
IsAbout name (requests.ToTimeWait n) = ⊥
IsAbout name (requests.Remove n) = n ≡ name
IsAbout name (requests.RemoveWaiting n) = Unit {0}

-- about a listener's child, or the end of its name where it didn't come to be
abbrev pub IsBirth : ℕ → ℕ → Request → Type 0
IsBirth parent name (requests.Inherit p n mark local remote rport) = (p ≡ parent) × (n ≡ name)
IsBirth parent name (requests.Remove n) = n ≡ name
IsBirth parent name (requests.RemoveWaiting n) = Unit {0}
IsBirth parent name _ = ⊥

-- about a socket's end; under that condition it may go into TIME_WAIT
abbrev pub IsEnd : Type 0 → ℕ → Request → Type 0
IsEnd W name (requests.ToTimeWait n) = W × (n ≡ name)
IsEnd W name (requests.Remove n) = n ≡ name
IsEnd W name _ = ⊥

-- about a TIME_WAIT's end
abbrev pub IsPast : Request → Type 0
IsPast (requests.RemoveWaiting n) = Unit {0}
IsPast _ = ⊥

-- a card of that name
abbrev pub HasName : ℕ → Card → Type 0
HasName name card = card.name ≡ name

-- Parts of plans

module _ {R : Type 0} (P : Request → Type 0) (U : Card → Type 0) (Q : R → Type 0) where
  abbrev All : Asking R → Type 0
  All p = AllAsk P U Q p

  all_when : (next : Asking R) → All next → (a : Answer) → All (when_done next a)
  all_when next h answers.Done = h
  all_when next h (answers.Group g) = tt
  all_when next h (answers.InUse n) = tt
  all_when next h answers.GroupFull = tt
  all_when next h answers.GroupsFull = tt
  all_when next h (answers.Strange n) = tt
  all_when next h (answers.NotFree n) = tt

  all_found : (found next : Asking R) → All found → All next → (a : Answer) → All (found_next found next a)
  all_found found next h g answers.Done = h
  all_found found next h g (answers.Group n) = tt
  all_found found next h g (answers.InUse n) = g
  all_found found next h g answers.GroupFull = tt
  all_found found next h g answers.GroupsFull = tt
  all_found found next h g (answers.Strange n) = tt
  all_found found next h g (answers.NotFree n) = tt

  all_if : (b : Bool) (p q : Asking R) → All p → All q → All (cond b p q)
  all_if true p q h g = h
  all_if false p q h g = g

  all_replaced : (old : Option Hashed) (next : Asking R) → ((n : ℕ) → P (requests.RemoveWaiting n)) → All next → All (then_replaced old next)
  all_replaced None next may h = h
  all_replaced (Some x) next may h = (may x.card.name, λ a. h)

-- The plans

-- a socket of that name, or none; under that condition it listens
abbrev pub Named : Type 0 → ℕ → Did → Type 0
Named L name (done m) = (m.owner.name ≡ name) × (L → m.owner.state ≡ states.Listening)
Named L name (refused end) = Unit {0}

-- about one socket, which keeps its name
abbrev pub IsOf : Type 0 → ℕ → Asking Did → Type 0
IsOf L name p = AllAsk (IsAbout name) (HasName name) (Named L name) p

unbound : (s : State) → s ≡ states.Unbound → s ≡ states.Listening → ⊥
unbound s e l = let same : states.Unbound ≡ states.Listening = sym e ∙ l in absurd (cc)

bound : (s : State) → s ≡ states.Bound → s ≡ states.Listening → ⊥
bound s e l = let same : states.Bound ≡ states.Listening = sym e ∙ l in absurd (cc)

module _ (L : Type 0) (never : L → ⊥) where
  it : (name : ℕ) (m : Mine) → m.owner.name ≡ name → Named L name (done m)
  it name m e = (e, λ l. absurd (never l))

  of_search : (a : Owner) (addr : ℕ) (found : ℕ → Asking Did) (none : Asking Did) → ((port : ℕ) → IsOf L a.name (found port)) → IsOf L a.name none → (ports : List ℕ) → IsOf L a.name (search_bind a addr found none ports)
  of_search a addr found none h g [] = g
  of_search a addr found none h g (port ∷ ports) =
      ((refl, refl), all_found (IsAbout a.name) (HasName a.name) (Named L a.name) (found port) (search_bind a addr found none ports) (h port) (of_search a addr found none h g ports))

  of_answered : (a : Owner) (end : End) (x : Answer) → IsOf L a.name (plans.bind_answered a end x)
  of_answered a end answers.Done = it a.name (plans.plain (bound_at a end.addr end.port)) refl
  of_answered a end (answers.Group n) = tt
  of_answered a end (answers.InUse n) = tt
  of_answered a end answers.GroupFull = tt
  of_answered a end answers.GroupsFull = tt
  of_answered a end (answers.Strange n) = tt
  of_answered a end (answers.NotFree n) = tt

  of_bind_unbound : (a : Owner) (end : End) (ports : List ℕ) → IsOf L a.name (plans.bind_unbound a end ports)
  of_bind_unbound a end ports =
      let given = asks (bind_key end.port a.net) (requests.Bind (bound_at a end.addr end.port)) (plans.bind_answered a end) in
      let searched = search_bind a end.addr (plans.bound a end.addr) (ends (refused errors.NoPort)) ports in
      let late = plans.plain (addressed a end.addr) in
      all_if (IsAbout a.name) (HasName a.name) (Named L a.name) (end.port == 0) (plans.bind_any a end.addr ports) given
      (all_if (IsAbout a.name) (HasName a.name) (Named L a.name) a.noport (ends (done late)) searched (it a.name late refl)
      (of_search a end.addr (plans.bound a end.addr) (ends (refused errors.NoPort)) (λ port. it a.name (plans.plain (bound_at a end.addr port)) refl) tt ports))
      ((refl, refl), of_answered a end)

  module _ (shape : Shape) (seed : ℕ) where
    of_give_up : (took : Bool) (a : Owner) (end : OpEnd) → IsOf L a.name (plans.give_up took a end)
    of_give_up true a end = (refl, all_when (IsAbout a.name) (HasName a.name) (Named L a.name) (ends (refused end)) tt)
    of_give_up false a end = tt

    of_listen_hashed : (took : Bool) (a : Owner) (l : Mine) → l.owner.name ≡ a.name → (o : Outcome) → IsOf L a.name (plans.listen_hashed shape seed took a l o)
    of_listen_hashed took a l e (put slot None) =
        (refl, all_when (IsAbout a.name) (HasName a.name) (Named L a.name) (ends (done (plans.listens_in shape seed l slot))) (it a.name (plans.listens_in shape seed l slot) e))
    of_listen_hashed took a l e (put slot (Some old)) = tt
    of_listen_hashed took a l e (taken n) = tt
    of_listen_hashed took a l e (full owned held) = of_give_up took a (errors.Full owned held)

    of_listen_answered : (took : Bool) (a : Owner) (x : Answer) → IsOf L a.name (plans.listen_answered shape seed took a x)
    of_listen_answered took a answers.Done = tt
    of_listen_answered took a (answers.Group g) = of_listen_hashed took a (plans.listener a g) refl
    of_listen_answered took a (answers.InUse n) = of_give_up took a (errors.InUse n)
    of_listen_answered took a answers.GroupFull = of_give_up took a errors.GroupFull
    of_listen_answered took a answers.GroupsFull = of_give_up took a errors.GroupsFull
    of_listen_answered took a (answers.Strange n) = tt
    of_listen_answered took a (answers.NotFree n) = tt

    of_full : (a : Owner) (slot : ℕ) (old : Option Hashed) (x : Answer) → IsOf L a.name (when_done (plans.full_done shape seed a slot old) x)
    of_full a slot old =
        all_when (IsAbout a.name) (HasName a.name) (Named L a.name) (plans.full_done shape seed a slot old)
        (all_replaced (IsAbout a.name) (HasName a.name) (Named L a.name) old (ends (done (plans.full_in shape seed a slot))) (λ n. tt) (it a.name (plans.full_in shape seed a slot) refl))

    of_connect_hashed : (a : Owner) (o : Outcome) → IsOf L a.name (plans.connect_hashed shape seed a o)
    of_connect_hashed a (put slot old) = (refl, of_full a slot old)
    of_connect_hashed a (taken n) = tt
    of_connect_hashed a (full owned held) = tt

    of_tried : (a : Owner) (next : Asking Did) → is_time_wait a.state ≡ false → IsOf L a.name next → (o : Outcome) → IsOf L a.name (plans.connect_tried shape seed a next o)
    of_tried a next awake h (put slot old) = ((refl, awake), of_full a slot old)
    of_tried a next awake h (taken n) = h
    of_tried a next awake h (full owned held) = tt

    of_free : (a : Owner) (moment : ℕ) (rule : Replace) (next : Asking Did) → is_time_wait a.state ≡ false → IsOf L a.name next → (x : Answer) → IsOf L a.name (plans.connect_free shape seed a moment rule next x)
    of_free a moment rule next awake h answers.Done = of_tried a next awake h
    of_free a moment rule next awake h (answers.Group n) = tt
    of_free a moment rule next awake h (answers.InUse n) = tt
    of_free a moment rule next awake h answers.GroupFull = tt
    of_free a moment rule next awake h answers.GroupsFull = tt
    of_free a moment rule next awake h (answers.Strange n) = tt
    of_free a moment rule next awake h (answers.NotFree n) = h

    of_search_connect : (a : Owner) (source : ℕ) (to : End) (moment : ℕ) (rule : Replace) (ports : List ℕ) → IsOf L a.name (plans.search_connect shape seed a source to moment rule ports)
    of_search_connect a source to moment rule [] = tt
    of_search_connect a source to moment rule (port ∷ ports) =
        (tt, of_free (connected_at a source port to) moment rule (plans.search_connect shape seed a source to moment rule ports) refl (of_search_connect a source to moment rule ports))

-- a child of that name, of a listener that is open still
pub record IsHeir (l : Option Mine) (name : ℕ) (m : Mine) : Type 0 where
  pub named : m.owner.name ≡ name
  pub parent : Mine
  pub still : l ≡ Some parent
  pub listens : parent.owner.state ≡ states.Listening

abbrev pub HeirBy : Option Mine → ℕ → Did → Type 0
HeirBy l name (done m) = IsHeir l name m
HeirBy l name (refused end) = Unit {0}

-- a listener's name, where it is open
abbrev pub name_or_none : Option Mine → ℕ
name_or_none l = option_map_or (λ (m : Mine). m.owner.name) l 0

-- The operations: one on a listener leaves it so

abbrev pub Keeps : Mine → Asking Did → Type 0
Keeps m p = IsOf (m.owner.state ≡ states.Listening) m.owner.name p

of_bind_as : (m : Mine) (end : End) (ports : List ℕ) (state : State) → m.owner.state ≡ state → Keeps m (plans.bind_as state m end ports)
of_bind_as m end ports states.Unbound e =
    of_bind_unbound (m.owner.state ≡ states.Listening) (unbound m.owner.state e) m.owner end ports
of_bind_as m end ports states.Bound e = tt
of_bind_as m end ports states.Listening e = tt
of_bind_as m end ports states.Full e = tt
of_bind_as m end ports states.TimeWait e = tt
of_bind_as m end ports states.Request e = tt

pub of_bind : (m : Mine) (end : End) (ports : List ℕ) → Keeps m (plans.bind m end ports)
of_bind m end ports = of_bind_as m end ports m.owner.state refl

module _ (shape : Shape) (seed : ℕ) where
  of_listen_as : (m : Mine) (ports : List ℕ) (state : State) → m.owner.state ≡ state → Keeps m (plans.listen_as shape seed state m ports)
  of_listen_as m ports states.Unbound e =
      let L = m.owner.state ≡ states.Listening in
      let never : L → ⊥ = unbound m.owner.state e in
      of_search L never m.owner m.owner.addr (plans.listen_found shape seed m.owner) (ends (refused errors.NoPort)) (λ port. (refl, of_listen_answered L never shape seed true (bound_at m.owner m.owner.addr port))) tt ports
  of_listen_as m ports states.Bound e = (refl, of_listen_answered (m.owner.state ≡ states.Listening) (bound m.owner.state e) shape seed false m.owner)
  of_listen_as m ports states.Listening e = (refl, λ l. l)
  of_listen_as m ports states.Full e = tt
  of_listen_as m ports states.TimeWait e = tt
  of_listen_as m ports states.Request e = tt

  pub of_listen : (m : Mine) (ports : List ℕ) → Keeps m (plans.listen shape seed m ports)
  of_listen m ports = of_listen_as m ports m.owner.state refl

  of_connect_from : (m : Mine) (source : Option ℕ) (to : End) (moment : ℕ) (rule : Replace) (ports : List ℕ) (state : State) → m.owner.state ≡ state → Keeps m (plans.connect_from shape seed state m.owner source to moment rule ports)
  of_connect_from m (Some source) to moment rule ports states.Unbound e =
      of_search_connect (m.owner.state ≡ states.Listening) (unbound m.owner.state e) shape seed m.owner source to moment rule ports
  of_connect_from m (Some source) to moment rule ports states.Bound e =
      of_connect_hashed (m.owner.state ≡ states.Listening) (bound m.owner.state e) shape seed (connected_to m.owner source to)
  of_connect_from m None to moment rule ports states.Unbound e = tt
  of_connect_from m None to moment rule ports states.Bound e = tt
  of_connect_from m (Some source) to moment rule ports states.Listening e = tt
  of_connect_from m (Some source) to moment rule ports states.Full e = tt
  of_connect_from m (Some source) to moment rule ports states.TimeWait e = tt
  of_connect_from m (Some source) to moment rule ports states.Request e = tt
  of_connect_from m None to moment rule ports states.Listening e = tt
  of_connect_from m None to moment rule ports states.Full e = tt
  of_connect_from m None to moment rule ports states.TimeWait e = tt
  of_connect_from m None to moment rule ports states.Request e = tt

  pub of_connect : (m : Mine) (from : Option ℕ) (to : End) (moment : ℕ) (rule : Replace) (ports : List ℕ) → Keeps m (plans.connect shape seed m from to moment rule ports)
  of_connect m from to moment rule ports = of_connect_from m (source_to m.owner from to) to moment rule ports m.owner.state refl

  -- a child of a listener has the name that it was to have
  abbrev pub ChildOf : Owner → ℕ → Did → Type 0
  ChildOf l name (done m) = (m.owner.name ≡ name) × (l.state ≡ states.Listening)
  ChildOf l name (refused end) = Unit {0}

  abbrev pub IsBirthOf : Owner → ℕ → Asking Did → Type 0
  IsBirthOf l name p = AllAsk (IsBirth l.name name) (λ _. ⊥) (ChildOf l name) p

  of_accept_hashed : (l a : Owner) → l.state ≡ states.Listening → (o : Outcome) → IsBirthOf l a.name (plans.accept_hashed shape seed l a o)
  of_accept_hashed l a e (put slot old) =
      let P = IsBirth l.name a.name in
      let U : Card → Type 0 = λ _. ⊥ in
      ((refl, refl), all_when P U (ChildOf l a.name) (plans.full_done shape seed a slot old) (all_replaced P U (ChildOf l a.name) old (ends (done (plans.full_in shape seed a slot))) (λ n. tt) (refl, e)))
  of_accept_hashed l a e (taken n) = tt
  of_accept_hashed l a e (full owned held) = tt

  neither : (p q : Bool) → (p || q) ≡ false → p ≡ false
  neither true q e = e
  neither false q e = refl

  of_accept_if : (l : Mine) (name mark : ℕ) (from at : End) (b : Bool) → (b ≡ false → l.owner.state ≡ states.Listening) → IsBirthOf l.owner name (cond b (ends (refused errors.Inval)) (plans.accept_as shape seed l.owner (child_owner l.owner name mark from at)))
  of_accept_if l name mark from at true e = tt
  of_accept_if l name mark from at false e = of_accept_hashed l.owner (child_owner l.owner name mark from at) (e refl)

  pub of_accept : (l : Mine) (name mark : ℕ) (from at : End) → IsBirthOf l.owner name (plans.accept shape seed l name mark from at)
  of_accept l name mark from at =
      of_accept_if l name mark from at (is_no_accept l.owner from at) (accepts l.owner from at)

  of_syn_hashed : (l r : Owner) → l.state ≡ states.Listening → (o : Outcome) → IsBirthOf l r.name (plans.syn_hashed shape seed r o)
  of_syn_hashed l r e (put slot old) =
      all_replaced (IsBirth l.name r.name) (λ _. ⊥) (ChildOf l r.name) old (ends (done (plans.request_in shape seed r slot))) (λ n. tt) (refl, e)
  of_syn_hashed l r e (taken n) = tt
  of_syn_hashed l r e (full owned held) = tt

  of_syn_if : (l : Mine) (name mark : ℕ) (from at : End) (b : Bool) → (b ≡ false → l.owner.state ≡ states.Listening) → IsBirthOf l.owner name (cond b (ends (refused errors.Inval)) (plans.syn_as shape seed (request_owner l.owner name mark from at)))
  of_syn_if l name mark from at true e = tt
  of_syn_if l name mark from at false e = of_syn_hashed l.owner (request_owner l.owner name mark from at) (e refl)

  pub of_syn : (l : Mine) (name mark : ℕ) (from at : End) → IsBirthOf l.owner name (plans.syn shape seed l name mark from at)
  of_syn l name mark from at = of_syn_if l name mark from at (is_no_accept l.owner from at) (accepts l.owner from at)

  -- A request in whose place a child comes

  -- by the name of a listener, where one is open, a bucket is asked about the child; the request alone leaves its chain
  abbrev pub IsHeirOf : Mine → Option Mine → ℕ → Asking Did → Type 0
  IsHeirOf r l name p = AllAsk (IsBirth (name_or_none l) name) (HasName r.owner.name) (HeirBy l name) p

  of_ack_hashed : (r l : Mine) (a : Owner) → l.owner.state ≡ states.Listening → (o : Outcome) → IsHeirOf r (Some l) a.name (plans.ack_hashed shape seed r l.owner a o)
  of_ack_hashed r l a e (put slot None) = (
    refl,
    ((refl, refl), all_when (IsBirth l.owner.name a.name) (HasName r.owner.name) (HeirBy (Some l) a.name) (ends (done (plans.full_in shape seed a slot))) (record { named = refl; parent = l; still = refl; listens = e })),
  )
  of_ack_hashed r l a e (put slot (Some old)) = tt
  of_ack_hashed r l a e (taken n) = tt
  of_ack_hashed r l a e (full owned held) = tt

  of_ack_if : (r l : Mine) (name mark : ℕ) (b : Bool) → (b ≡ false → l.owner.state ≡ states.Listening) → IsHeirOf r (Some l) name (cond b (ends (refused errors.Inval)) (plans.ack_as shape seed r l.owner (heir_owner l.owner name mark r.owner)))
  of_ack_if r l name mark true e = tt
  of_ack_if r l name mark false e = of_ack_hashed r l (heir_owner l.owner name mark r.owner) (e refl)

  of_ack_by : (r : Mine) (l : Option Mine) (name mark : ℕ) → IsHeirOf r l name (plans.ack_by shape seed r l name mark)
  of_ack_by r None name mark = tt
  of_ack_by r (Some l) name mark =
      of_ack_if r l name mark (is_no_ack l.owner r.owner) (λ e. accepts l.owner (other_end r.owner) (own_end r.owner) (neither _ _ e))

  of_ack_from : (r : Mine) (l : Option Mine) (name mark : ℕ) (state : State) → IsHeirOf r l name (plans.ack_from shape seed state r l name mark)
  of_ack_from r l name mark states.Request = of_ack_by r l name mark
  of_ack_from r l name mark states.Unbound = tt
  of_ack_from r l name mark states.Bound = tt
  of_ack_from r l name mark states.Listening = tt
  of_ack_from r l name mark states.Full = tt
  of_ack_from r l name mark states.TimeWait = tt

  pub of_ack : (r : Mine) (l : Option Mine) (name mark : ℕ) → IsHeirOf r l name (plans.ack shape seed r l name mark)
  of_ack r l name mark = of_ack_from r l name mark r.owner.state

-- Sockets that go

abbrev pub IsGoing : {R : Type 0} → Type 0 → ℕ → (R → Type 0) → Asking R → Type 0
IsGoing W name Q p = AllAsk (IsEnd W name) (HasName name) Q p

-- a TIME_WAIT that is left has that stamp
abbrev pub WaitsSince : ℕ → Closed → Type 0
WaitsSince moment (waiting w) = w.extra ≡ moment
WaitsSince moment _ = Unit {0}

-- a TIME_WAIT is left of a full socket alone
abbrev pub WaitsFull : Type 0 → Closed → Type 0
WaitsFull W (waiting w) = W
WaitsFull W _ = Unit {0}

-- what it comes to, whichever it is
pub record AnyEnd (W : Type 0) (moment : ℕ) (Q : Closed → Type 0) : Type 0 where
  pub is_gone : Q gone
  pub no_slot_left : (owned held : ℕ) → Q (no_slot owned held)
  pub waits : (w : Mine) → W → w.extra ≡ moment → Q (waiting w)

module _ (W : Type 0) where
  of_leave : {R : Type 0} (a : Owner) (result : R) (Q : R → Type 0) → Q result → IsGoing W a.name Q (plans.leave a result)
  of_leave a result Q q = (refl, all_when (IsEnd W a.name) (HasName a.name) Q (ends result) q)

  of_drop_as : {R : Type 0} (m : Mine) (result : R) (Q : R → Type 0) → Q result → (state : State) → IsGoing W m.owner.name Q (plans.drop_as state m result)
  of_drop_as m result Q q states.Unbound = q
  of_drop_as m result Q q states.Bound = of_leave m.owner result Q q
  of_drop_as m result Q q states.Listening = (refl, of_leave m.owner result Q q)
  of_drop_as m result Q q states.Full = (refl, of_leave m.owner result Q q)
  of_drop_as m result Q q states.TimeWait = tt
  of_drop_as m result Q q states.Request = (refl, q)

  pub of_drop : {R : Type 0} (m : Mine) (result : R) (Q : R → Type 0) → Q result → IsGoing W m.owner.name Q (plans.drop m result)
  of_drop m result Q q = of_drop_as m result Q q m.owner.state

  module _ (shape : Shape) (seed : ℕ) (m : Mine) (moment : ℕ) (Q : Closed → Type 0) (any : AnyEnd W moment Q) where
    of_close_hashed : (w : Mine) → W → w.extra ≡ moment → (o : Outcome) → IsGoing W m.owner.name Q (plans.close_hashed shape seed m w o)
    of_close_hashed w may e (put slot None) =
        let there = plans.waits_in shape seed w slot in
        (refl, ((may, refl), all_when (IsEnd W m.owner.name) (HasName m.owner.name) Q (ends (waiting there)) (any.waits there may e)))
    of_close_hashed w may e (put slot (Some old)) = tt
    of_close_hashed w may e (taken n) = tt
    of_close_hashed w may e (full owned held) = (refl, of_leave m.owner (no_slot owned held) Q (any.no_slot_left owned held))

    of_close_as : (state : State) → (state ≡ states.Full → W) → IsGoing W m.owner.name Q (plans.close_as shape seed state m moment)
    of_close_as states.Full may = of_close_hashed (plans.wait_of m moment) (may refl) refl
    of_close_as states.Unbound may = of_drop_as m gone Q any.is_gone states.Unbound
    of_close_as states.Bound may = of_drop_as m gone Q any.is_gone states.Bound
    of_close_as states.Listening may = of_drop_as m gone Q any.is_gone states.Listening
    of_close_as states.TimeWait may = of_drop_as m gone Q any.is_gone states.TimeWait
    of_close_as states.Request may = of_drop_as m gone Q any.is_gone states.Request

-- only a full socket goes into TIME_WAIT
module _ (shape : Shape) (seed : ℕ) (m : Mine) (moment : ℕ) where
  abbrev its_full : Type 0
  its_full = m.owner.state ≡ states.Full

  pub of_close : IsGoing its_full m.owner.name (WaitsSince moment) (plans.close shape seed m moment)
  of_close =
      of_close_as its_full shape seed m moment (WaitsSince moment) (record { is_gone = tt; no_slot_left = λ owned held. tt; waits = λ w full since. since })
      m.owner.state (λ full. full)

  pub of_close_full : IsGoing its_full m.owner.name (WaitsFull its_full) (plans.close shape seed m moment)
  of_close_full =
      of_close_as its_full shape seed m moment (WaitsFull its_full) (record { is_gone = tt; no_slot_left = λ owned held. tt; waits = λ w full since. full })
      m.owner.state (λ full. full)

-- what an operation leaves of a socket has its name
pub still_named : (old new : Mine) (p : Asking Did) (count : ℕ) (v u : View) (c d : Side) → Keeps old p → Went count p v u c d (ends (done new)) → new.owner.name ≡ old.owner.name
still_named old new p count v u c d keeps went =
    let L = old.owner.state ≡ states.Listening in
    let n = old.owner.name in
    (asked_so (IsAbout n) (HasName n) (Named L n) count p (ends (done new)) went.deeds went.leads keeps).left.0
