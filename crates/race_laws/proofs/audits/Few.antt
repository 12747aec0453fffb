-- How much a command does: a plan goes on by so many deeds at most.
use Rattle.std.proofs.Common.{◌≡◌, ℕ, ◌+◌, ◌*◌, ◌≤◌, ◌==◌, nat_lt, not, Bool, true, false, List, [], ◌∷◌, ◌++◌, length, length-append, append-nil, filter, Option, None, Some, if◌then◌else◌, sym, ap, ◌∙◌, subst, arith}
use Rattle.sock_card.specs.Conflict.{bind_key, owner_key}
use Rattle.sock_card.specs.declared.card.Card.{Card}
use Rattle.sock_card.specs.declared.owner.Owner.{Owner}
use Rattle.sock_card.specs.declared.owner.State.{State}
use Rattle.sock_card.specs.declared.owner.State.TheVariants as states
use Rattle.bind_buckets.specs.declared.request.Request.{Request}
use Rattle.bind_buckets.specs.declared.request.Request.TheVariants as requests
use Rattle.bind_buckets.specs.declared.request.Answer.{Answer}
use Rattle.bind_buckets.specs.declared.request.Answer.TheVariants as answers
use Rattle.chain_book.specs.declared.outcome.Hashed.{Hashed}
use Rattle.chain_book.specs.declared.outcome.Place.{Place}
use Rattle.chain_book.specs.declared.outcome.Replace.{Replace}
use Rattle.chain_book.specs.declared.shape.Shape.{Shape}
use Rattle.chain_book.specs.Chains.{Outcome, put, taken, full}
use Rattle.flat_list.specs.declared.command.Command.{Command}
use Rattle.flat_list.specs.declared.command.Command.TheVariants as commands
use Rattle.flat_list.specs.declared.command.End.{End}
use Rattle.flat_list.specs.declared.header.First.{First}
use Rattle.flat_list.specs.declared.header.First.TheVariants as firsts
use Rattle.flat_list.specs.declared.header.Header.{Header}
use Rattle.flat_list.specs.declared.header.Range.{Range}
use Rattle.flat_list.specs.Owned.{addressed, bound_at, child_owner, connected_at, connected_to, heir_owner, is_no_accept, is_no_ack, request_owner}
use Rattle.flat_list.specs.Ports.{even, half_from, is_reserved, odd, port_order, whole_order}
use Rattle.flat_list.proofs.PortAt.{half_length}
use Rattle.table_model.specs.declared.operation.OpEnd.{OpEnd}
use Rattle.table_model.specs.declared.operation.OpEnd.TheVariants as errors
use Rattle.table_model.specs.Asking.{Asking, adds, and_then, asks, ends, impossible, inserts, reaps, unhashes}
use Rattle.table_model.specs.Commands as command
use Rattle.table_model.specs.Commands.{Replied, plan}
use Rattle.table_model.specs.Operations as op
use Rattle.table_model.specs.Operations.{Did, done, gone, no_slot as closed_without, refused, waiting}
use Rattle.table_model.specs.Own.{Mine, Own, is_over, next_name, offset_of, open_named, open_socket, ports_of, with_label}
use Rattle.race_record.specs.Deeds.{Deed, added, entered, inserted, left, reaped}
use Rattle.race_record.specs.Goes.{Goes, outcome_of, was_there}
use Rattle.race_record.proofs.Turns.{InTwo, goes_apart}
use Rattle.race_laws.proofs.audits.Owners.{RangeFits, shorter}
use Rattle.race_laws.proofs.audits.Plans.{OwnFits}

-- the plan goes on by so many deeds at most
abbrev pub Few : {R : Type 0} → ℕ → Asking R → Type 0
Few {R} k p = (deeds : List Deed) (r : R) → Goes p deeds r → length deeds ≤ k

module _ {R : Type 0} where
  f_ends : (k : ℕ) (x : R) → Few k (ends x)
  f_ends k x [] r g = omega arith
  f_ends k x (d ∷ deeds) r g = absurd g

  f_impossible : (k : ℕ) → Few {R = R} k impossible
  f_impossible k deeds r g = absurd g

  f_more : (j k : ℕ) (p : Asking R) → j ≤ k → Few j p → Few k p
  f_more j k p l h deeds r g = omega (arith, l, h deeds r g)

  f_asks : (k key : ℕ) (request : Request) (then_ : Answer → Asking R) → ((a : Answer) → Few k (then_ a)) → Few (k + 1) (asks key request then_)
  f_asks k key request then_ h (entered p note ∷ deeds) r g = omega (arith, h note.entry.answer deeds r g.2)
  f_asks k key request then_ h deeds r g = absurd g

  f_inserts : (k : ℕ) (card : Card) (moment : ℕ) (rule : Replace) (then_ : Outcome → Asking R) → ((o : Outcome) → Few k (then_ o)) → Few (k + 1) (inserts card moment rule then_)
  f_inserts k card moment rule then_ h (inserted wish tried ∷ deeds) r g = omega (arith, h (outcome_of tried) deeds r g.2)
  f_inserts k card moment rule then_ h deeds r g = absurd g

  f_adds : (k : ℕ) (card : Card) (then_ : Outcome → Asking R) → ((o : Outcome) → Few k (then_ o)) → Few (k + 1) (adds card then_)
  f_adds k card then_ h (added c tried ∷ deeds) r g = omega (arith, h (outcome_of tried) deeds r g.2)
  f_adds k card then_ h deeds r g = absurd g

  f_unhashes : (k : ℕ) (place : Place) (card : Card) (then_ : Asking R) → Few k then_ → Few (k + 1) (unhashes place card then_)
  f_unhashes k place card then_ h (left u ∷ deeds) r g = omega (arith, h deeds r g.1)
  f_unhashes k place card then_ h deeds r g = absurd g

  f_reaps : (k : ℕ) (card : Card) (then_ : Bool → Asking R) → ((b : Bool) → Few k (then_ b)) → Few (k + 1) (reaps card then_)
  f_reaps k card then_ h (reaped c unhash ∷ deeds) r g = omega (arith, h (was_there unhash) deeds r g.2)
  f_reaps k card then_ h deeds r g = absurd g

  f_if : (k : ℕ) (b : Bool) (x y : Asking R) → Few k x → Few k y → Few k (if b then x else y)
  f_if k true x y h i = h
  f_if k false x y h i = i

  f_done : (k : ℕ) (next : Asking R) (a : Answer) → Few k next → Few k (op.when_done next a)
  f_done k next answers.Done h = h
  f_done k next a h = f_impossible k

  f_found : (k : ℕ) (found next : Asking R) (a : Answer) → Few k found → Few k next → Few k (op.found_next found next a)
  f_found k found next answers.Done h i = h
  f_found k found next (answers.InUse n) h i = i
  f_found k found next a h i = f_impossible k

  f_search : (k : ℕ) (a : Owner) (addr : ℕ) (found : ℕ → Asking R) (none : Asking R) → ((port : ℕ) → Few k (found port)) → Few k none → (ports : List ℕ) → Few (length ports + k) (op.search_bind a addr found none ports)
  f_search k a addr found none h i [] = f_more k (0 + k) none (omega arith) i
  f_search k a addr found none h i (port ∷ ports) =
      f_more (length ports + k + 1) (length (port ∷ ports) + k) (op.search_bind a addr found none (port ∷ ports)) (omega arith)
      (f_asks (length ports + k) (bind_key port a.net) (requests.BindAuto (bound_at a addr port)) (op.found_next (found port) (op.search_bind a addr found none ports))
      (λ answer. f_found (length ports + k) (found port) (op.search_bind a addr found none ports) answer (f_more k (length ports + k) (found port) (omega arith) (h port)) (f_search k a addr found none h i ports)))

  f_leave : (a : Owner) (x : R) → Few 1 (op.leave a x)
  f_leave a x = f_asks 0 (owner_key a) (requests.Remove a.name) (op.when_done (ends x)) (λ answer. f_done 0 (ends x) answer (f_ends 0 x))

  f_drop_as : (s : State) (m : Mine) (x : R) → Few 2 (op.drop_as s m x)
  f_drop_as states.Unbound m x = f_ends 2 x
  f_drop_as states.Bound m x = f_more 1 2 (op.leave m.owner x) (omega arith) (f_leave m.owner x)
  f_drop_as states.Listening m x = f_unhashes 1 m.place _ (op.leave m.owner x) (f_leave m.owner x)
  f_drop_as states.Full m x = f_unhashes 1 m.place _ (op.leave m.owner x) (f_leave m.owner x)
  f_drop_as states.Request m x = f_unhashes 1 m.place _ (ends x) (f_ends 1 x)
  f_drop_as states.TimeWait m x = f_impossible 2

  f_replaced : (k : ℕ) (old : Option Hashed) (next : Asking R) → Few k next → Few (k + 1) (op.then_replaced old next)
  f_replaced k None next h = f_more k (k + 1) next (omega arith) h
  f_replaced k (Some x) next h = f_asks k (bind_key x.card.lport x.card.net) (requests.RemoveWaiting x.card.name) (λ answer. next) (λ answer. h)

f_give_up : (took : Bool) (a : Owner) (end : OpEnd) → Few 1 (op.give_up took a end)
f_give_up true a end = f_asks 0 (owner_key a) (requests.Remove a.name) (op.when_done (ends (refused end))) (λ answer. f_done 0 (ends (refused end)) answer (f_ends 0 (refused end)))
f_give_up false a end = f_ends 1 (refused end)

f_bind_answered : (a : Owner) (end : End) (answer : Answer) → Few 0 (op.bind_answered a end answer)
f_bind_answered a end answers.Done = f_ends 0 _
f_bind_answered a end (answers.InUse n) = f_ends 0 _
f_bind_answered a end answer = f_impossible 0

f_bind_any : (a : Owner) (addr : ℕ) (ports : List ℕ) → Few (length ports) (op.bind_any a addr ports)
f_bind_any a addr ports = f_if (length ports) a.noport (ends (done (op.plain (addressed a addr)))) (op.search_bind a addr (op.bound a addr) (ends (refused errors.NoPort)) ports) (f_ends (length ports) _)
    (f_more (length ports + 0) (length ports) (op.search_bind a addr (op.bound a addr) (ends (refused errors.NoPort)) ports) (omega arith)
    (f_search 0 a addr (op.bound a addr) (ends (refused errors.NoPort)) (λ port. f_ends 0 _) (f_ends 0 _) ports))

f_bind : (s : State) (m : Mine) (end : End) (ports : List ℕ) → Few (length ports + 1) (op.bind_as s m end ports)
f_bind states.Unbound m end ports =
    f_if (length ports + 1) (end.port == 0) (op.bind_any m.owner end.addr ports) (asks (bind_key end.port m.owner.net) (requests.Bind (bound_at m.owner end.addr end.port)) (op.bind_answered m.owner end))
    (f_more (length ports) (length ports + 1) (op.bind_any m.owner end.addr ports) (omega arith) (f_bind_any m.owner end.addr ports))
    (f_more (0 + 1) (length ports + 1) (asks (bind_key end.port m.owner.net) (requests.Bind (bound_at m.owner end.addr end.port)) (op.bind_answered m.owner end)) (omega arith)
    (f_asks 0 (bind_key end.port m.owner.net) (requests.Bind (bound_at m.owner end.addr end.port)) (op.bind_answered m.owner end) (f_bind_answered m.owner end)))
f_bind s m end ports = f_ends (length ports + 1) (refused errors.Inval)

module _ (shape : Shape) (seed : ℕ) where
  f_listen_hashed : (took : Bool) (a : Owner) (l : Mine) (o : Outcome) → Few 1 (op.listen_hashed shape seed took a l o)
  f_listen_hashed took a l (put slot None) =
      f_asks 0 (owner_key a) (requests.Listen a.name slot) (op.when_done (ends (done (op.listens_in shape seed l slot)))) (λ answer. f_done 0 (ends (done (op.listens_in shape seed l slot))) answer (f_ends 0 _))
  f_listen_hashed took a l (put slot (Some x)) = f_impossible 1
  f_listen_hashed took a l (taken name) = f_impossible 1
  f_listen_hashed took a l (full owned held) = f_give_up took a (errors.Full owned held)

  f_listen_answered : (took : Bool) (a : Owner) (answer : Answer) → Few 2 (op.listen_answered shape seed took a answer)
  f_listen_answered took a (answers.Group group) =
      f_adds 1 _ (op.listen_hashed shape seed took a (op.listener a group)) (f_listen_hashed took a (op.listener a group))
  f_listen_answered took a (answers.InUse n) = f_more 1 2 (op.give_up took a (errors.InUse n)) (omega arith) (f_give_up took a (errors.InUse n))
  f_listen_answered took a answers.GroupFull = f_more 1 2 (op.give_up took a errors.GroupFull) (omega arith) (f_give_up took a errors.GroupFull)
  f_listen_answered took a answers.GroupsFull = f_more 1 2 (op.give_up took a errors.GroupsFull) (omega arith) (f_give_up took a errors.GroupsFull)
  f_listen_answered took a answer = f_impossible 2

  f_listen_at : (took : Bool) (a : Owner) → Few 3 (op.listen_at shape seed took a)
  f_listen_at took a = f_asks 2 (owner_key a) (requests.MayListen a.name) (op.listen_answered shape seed took a) (f_listen_answered took a)

  f_listen : (s : State) (m : Mine) (ports : List ℕ) → Few (length ports + 3) (op.listen_as shape seed s m ports)
  f_listen states.Unbound m ports =
      f_search 3 m.owner m.owner.addr (op.listen_found shape seed m.owner) (ends (refused errors.NoPort)) (λ port. f_listen_at true (bound_at m.owner m.owner.addr port)) (f_ends 3 _) ports
  f_listen states.Bound m ports = f_more 3 (length ports + 3) (op.listen_at shape seed false m.owner) (omega arith) (f_listen_at false m.owner)
  f_listen states.Listening m ports = f_ends (length ports + 3) (done m)
  f_listen s m ports = f_ends (length ports + 3) (refused errors.Inval)

  f_full : (a : Owner) (slot : ℕ) (old : Option Hashed) → Few 1 (op.full_done shape seed a slot old)
  f_full a slot old = f_replaced 0 old (ends (done (op.full_in shape seed a slot))) (f_ends 0 _)

  f_full_then : (key : ℕ) (request : Request) (a : Owner) (slot : ℕ) (old : Option Hashed) → Few 2 (asks key request (op.when_done (op.full_done shape seed a slot old)))
  f_full_then key request a slot old =
      f_asks 1 key request (op.when_done (op.full_done shape seed a slot old)) (λ answer. f_done 1 (op.full_done shape seed a slot old) answer (f_full a slot old))

  f_connect_hashed : (a : Owner) (o : Outcome) → Few 2 (op.connect_hashed shape seed a o)
  f_connect_hashed a (put slot old) = f_full_then (owner_key a) (requests.ConnectBound a.name a.addr a.remote a.rport) a slot old
  f_connect_hashed a (taken name) = f_ends 2 _
  f_connect_hashed a (full owned held) = f_ends 2 _

  f_tried : (k : ℕ) (a : Owner) (next : Asking Did) → 2 ≤ k → Few k next → (o : Outcome) → Few k (op.connect_tried shape seed a next o)
  f_tried k a next l h (put slot old) = f_more 2 k (op.connect_tried shape seed a next (put slot old)) l (f_full_then (owner_key a) (requests.ConnectAuto a) a slot old)
  f_tried k a next l h (taken name) = h
  f_tried k a next l h (full owned held) = f_ends k _

  f_free : (k : ℕ) (a : Owner) (moment : ℕ) (rule : Replace) (next : Asking Did) → 2 ≤ k → Few k next → (answer : Answer) → Few (k + 1) (op.connect_free shape seed a moment rule next answer)
  f_free k a moment rule next l h answers.Done = f_inserts k _ moment rule (op.connect_tried shape seed a next) (f_tried k a next l h)
  f_free k a moment rule next l h (answers.NotFree n) = f_more k (k + 1) next (omega arith) h
  f_free k a moment rule next l h answer = f_impossible (k + 1)

  f_search_connect : (a : Owner) (source : ℕ) (to : End) (moment : ℕ) (rule : Replace) (ports : List ℕ) → Few (2 * length ports + 2) (op.search_connect shape seed a source to moment rule ports)
  f_search_connect a source to moment rule [] = f_ends (2 * length {A = ℕ} [] + 2) _
  f_search_connect a source to moment rule (port ∷ ports) =
      let k = 2 * length ports + 2 in
      let next = op.search_connect shape seed a source to moment rule ports in
      f_more (k + 1 + 1) (2 * length (port ∷ ports) + 2) (op.search_connect shape seed a source to moment rule (port ∷ ports)) (omega arith)
      (f_asks (k + 1) (bind_key port a.net) (requests.Free port a.net) (op.connect_free shape seed (connected_at a source port to) moment rule next)
      (f_free k (connected_at a source port to) moment rule next (omega arith) (f_search_connect a source to moment rule ports)))

  f_connect : (s : State) (a : Owner) (source : Option ℕ) (to : End) (moment : ℕ) (rule : Replace) (ports : List ℕ) → Few (2 * length ports + 3) (op.connect_from shape seed s a source to moment rule ports)
  f_connect states.Unbound a (Some source) to moment rule ports =
      f_more (2 * length ports + 2) (2 * length ports + 3) (op.search_connect shape seed a source to moment rule ports) (omega arith) (f_search_connect a source to moment rule ports)
  f_connect states.Bound a (Some source) to moment rule ports =
      f_more 3 (2 * length ports + 3) (op.connect_bound shape seed (connected_to a source to) moment rule) (omega arith)
      (f_inserts 2 _ moment rule (op.connect_hashed shape seed (connected_to a source to)) (f_connect_hashed (connected_to a source to)))
  f_connect states.Unbound a None to moment rule ports = f_ends (2 * length ports + 3) _
  f_connect states.Bound a None to moment rule ports = f_ends (2 * length ports + 3) _
  f_connect states.Request a source to moment rule ports = f_ends (2 * length ports + 3) (refused errors.Inval)
  f_connect s a source to moment rule ports = f_ends (2 * length ports + 3) (refused errors.IsConn)

  f_accept_hashed : (l child : Owner) (o : Outcome) → Few 2 (op.accept_hashed shape seed l child o)
  f_accept_hashed l child (put slot old) = f_full_then (owner_key l) (requests.Inherit l.name child.name child.mark child.addr child.remote child.rport) child slot old
  f_accept_hashed l child (taken name) = f_ends 2 _
  f_accept_hashed l child (full owned held) = f_ends 2 _

  f_accept : (l : Mine) (name mark : ℕ) (from at : End) → Few 3 (op.accept shape seed l name mark from at)
  f_accept l name mark from at =
      let child = child_owner l.owner name mark from at in
      f_if 3 (is_no_accept l.owner from at) (ends (refused errors.Inval)) (op.accept_as shape seed l.owner child) (f_ends 3 _)
      (f_inserts 2 _ 0 _ (op.accept_hashed shape seed l.owner child) (f_accept_hashed l.owner child))

  f_syn_hashed : (r : Owner) (o : Outcome) → Few 1 (op.syn_hashed shape seed r o)
  f_syn_hashed r (put slot old) = f_replaced 0 old (ends (done (op.request_in shape seed r slot))) (f_ends 0 _)
  f_syn_hashed r (taken name) = f_ends 1 _
  f_syn_hashed r (full owned held) = f_ends 1 _

  f_syn : (l : Mine) (name mark : ℕ) (from at : End) → Few 2 (op.syn shape seed l name mark from at)
  f_syn l name mark from at =
      let r = request_owner l.owner name mark from at in
      f_if 2 (is_no_accept l.owner from at) (ends (refused errors.Inval)) (op.syn_as shape seed r) (f_ends 2 _)
      (f_inserts 1 _ 0 _ (op.syn_hashed shape seed r) (f_syn_hashed r))

  f_ack_hashed : (r : Mine) (l child : Owner) (o : Outcome) → Few 2 (op.ack_hashed shape seed r l child o)
  f_ack_hashed r l child (put slot None) =
      let last = ends (done (op.full_in shape seed child slot)) in
      let inherit = requests.Inherit l.name child.name child.mark child.addr child.remote child.rport in
      f_unhashes 1 r.place _ (asks (owner_key l) inherit (op.when_done last))
      (f_asks 0 (owner_key l) inherit (op.when_done last) (λ answer. f_done 0 last answer (f_ends 0 _)))
  f_ack_hashed r l child (put slot (Some x)) = f_impossible 2
  f_ack_hashed r l child (taken name) = f_impossible 2
  f_ack_hashed r l child (full owned held) = f_ends 2 _

  f_ack_by : (r : Mine) (l : Option Mine) (name mark : ℕ) → Few 3 (op.ack_by shape seed r l name mark)
  f_ack_by r None name mark = f_ends 3 _
  f_ack_by r (Some l) name mark =
      let child = heir_owner l.owner name mark r.owner in
      f_if 3 (is_no_ack l.owner r.owner) (ends (refused errors.Inval)) (op.ack_as shape seed r l.owner child) (f_ends 3 _)
      (f_adds 2 _ (op.ack_hashed shape seed r l.owner child) (f_ack_hashed r l.owner child))

  f_ack : (s : State) (r : Mine) (l : Option Mine) (name mark : ℕ) → Few 3 (op.ack_from shape seed s r l name mark)
  f_ack states.Request r l name mark = f_ack_by r l name mark
  f_ack s r l name mark = f_ends 3 (refused errors.Inval)

  f_close_hashed : (m w : Mine) (o : Outcome) → Few 2 (op.close_hashed shape seed m w o)
  f_close_hashed m w (put slot None) =
      let last = ends (waiting (op.waits_in shape seed w slot)) in
      f_unhashes 1 m.place _ (asks (owner_key m.owner) (requests.ToTimeWait m.owner.name) (op.when_done last))
      (f_asks 0 (owner_key m.owner) (requests.ToTimeWait m.owner.name) (op.when_done last) (λ answer. f_done 0 last answer (f_ends 0 _)))
  f_close_hashed m w (put slot (Some x)) = f_impossible 2
  f_close_hashed m w (taken name) = f_impossible 2
  f_close_hashed m w (full owned held) = f_unhashes 1 m.place _ (op.leave m.owner (closed_without owned held)) (f_leave m.owner (closed_without owned held))

  f_close : (s : State) (m : Mine) (moment : ℕ) → Few 3 (op.close_as shape seed s m moment)
  f_close states.Full m moment = f_adds 2 _ (op.close_hashed shape seed m (op.wait_of m moment)) (f_close_hashed m (op.wait_of m moment))
  f_close states.Unbound m moment = f_more 2 3 (op.drop_as states.Unbound m gone) (omega arith) (f_drop_as states.Unbound m gone)
  f_close states.Bound m moment = f_more 2 3 (op.drop_as states.Bound m gone) (omega arith) (f_drop_as states.Bound m gone)
  f_close states.Listening m moment = f_more 2 3 (op.drop_as states.Listening m gone) (omega arith) (f_drop_as states.Listening m gone)
  f_close states.TimeWait m moment = f_more 2 3 (op.drop_as states.TimeWait m gone) (omega arith) (f_drop_as states.TimeWait m gone)
  f_close states.Request m moment = f_more 2 3 (op.drop_as states.Request m gone) (omega arith) (f_drop_as states.Request m gone)

f_reaped : (k : ℕ) (w : Mine) (count : ℕ) (next : ℕ → Asking ℕ) (b : Bool) → ((n : ℕ) → Few k (next n)) → Few (k + 1) (op.reaped_next w count next b)
f_reaped k w count next true h = f_asks k (owner_key w.owner) (requests.RemoveWaiting w.owner.name) (λ answer. next (count + 1)) (λ answer. h (count + 1))
f_reaped k w count next false h = f_more k (k + 1) (next count) (omega arith) (h count)

f_reap : (ws : List Mine) (count : ℕ) → Few (2 * length ws) (op.reap_each ws count)
f_reap [] count = f_ends (2 * length {A = Mine} []) count
f_reap (w ∷ rest) count =
    f_more (2 * length rest + 1 + 1) (2 * length (w ∷ rest)) (op.reap_each (w ∷ rest) count) (omega arith)
    (f_reaps (2 * length rest + 1) _ (op.reaped_next w count (op.reap_each rest)) (λ b. f_reaped (2 * length rest) w count (op.reap_each rest) b (f_reap rest)))

f_then_by : {R : Type 0} (k : ℕ) (p : Asking R) (reply : R → Replied) → Few k p → (deeds : List Deed) (r : Replied) (first rest : List Deed) (x : R) → deeds ≡ first ++ rest → Goes p first x → Goes (ends (reply x)) rest r → length deeds ≤ k
f_then_by k p reply h deeds r first [] x j g e =
    let same : length deeds ≡ length first = ap length (j ∙ append-nil first) in omega (arith, same, h first x g)
f_then_by k p reply h deeds r first (d ∷ rest) x j g e = absurd e

f_then : {R : Type 0} (k : ℕ) (p : Asking R) (reply : R → Replied) → Few k p → Few k (and_then p (λ x. ends (reply x)))
f_then k p reply h deeds r g =
    let two : InTwo (λ x. ends (reply x)) p deeds r = goes_apart (λ x. ends (reply x)) p deeds r g in
    f_then_by k p reply h deeds r two.first two.rest two.did two.joined two.goes two.then_

whole_count : (r : Range) (offset : ℕ) (first : First) → RangeFits r → length (whole_order r offset first) ≤ 65536
whole_count r offset firsts.Odd f = omega (arith, length-append (half_from r (odd offset)) (half_from r (even offset)), half_length r (odd offset), half_length r (even offset), f.high, f.order)
whole_count r offset firsts.Even f = omega (arith, length-append (half_from r (even offset)) (half_from r (odd offset)), half_length r (even offset), half_length r (odd offset), f.high, f.order)

ports_count : (r : Range) (offset : ℕ) (first : First) → RangeFits r → length (port_order r offset first) ≤ 65536
ports_count r offset first f = omega (arith, shorter (λ port. not (is_reserved r port)) (whole_order r offset first), whole_count r offset first f)

module _ (header : Header) (ranged : RangeFits header.range) (number count given waits : ℕ) (own : Own) (f : OwnFits header ranged number count given waits own) where
  search_count : (first : First) → length (ports_of own.offsets first) ≤ 65536
  search_count first = ports_count own.offsets.range (offset_of own.offsets) first (subst RangeFits (sym f.range_is) ranged)

  abbrev most : ℕ
  most = 131080 + 2 * waits

  f_bind_command : (o : Option Mine) (end : End) → Few most (command.bind_command own o end)
  f_bind_command None end = f_ends most _
  f_bind_command (Some m) end = f_then most (op.bind m end (ports_of own.offsets firsts.Odd)) _
      (f_more (length (ports_of own.offsets firsts.Odd) + 1) most (op.bind m end (ports_of own.offsets firsts.Odd)) (omega (arith, search_count firsts.Odd)) (f_bind m.owner.state m end (ports_of own.offsets firsts.Odd)))

  f_listen_command : (o : Option Mine) → Few most (command.listen_command header own o)
  f_listen_command None = f_ends most _
  f_listen_command (Some m) =
      let p = op.listen header.shape header.seed m (ports_of own.offsets firsts.Odd) in
      f_then most p _ (f_more (length (ports_of own.offsets firsts.Odd) + 3) most p (omega (arith, search_count firsts.Odd)) (f_listen header.shape header.seed m.owner.state m (ports_of own.offsets firsts.Odd)))

  f_connect_command : (o : Option Mine) (from : Option ℕ) (to : End) → Few most (command.connect_command header own o from to)
  f_connect_command None from to = f_ends most _
  f_connect_command (Some m) from to =
      let p = op.connect header.shape header.seed m from to own.moment (command.connect_rule header) (ports_of own.offsets firsts.Even) in
      f_then most p _ (f_more (2 * length (ports_of own.offsets firsts.Even) + 3) most p (omega (arith, search_count firsts.Even)) (f_connect header.shape header.seed m.owner.state m.owner _ to own.moment _ (ports_of own.offsets firsts.Even)))

  f_close_command : (o : Option Mine) → Few most (command.close_command header own o)
  f_close_command None = f_ends most _
  f_close_command (Some m) =
      let p = op.close header.shape header.seed m own.moment in
      f_then most p _ (f_more 3 most p (omega arith) (f_close header.shape header.seed m.owner.state m own.moment))

  f_drop_command : (o : Option Mine) → Few most (command.drop_command own o)
  f_drop_command None = f_ends most _
  f_drop_command (Some m) = f_more 2 most _ (omega arith) (f_drop_as m.owner.state m _)

  f_reap_command : Few most (command.reap_command own)
  f_reap_command =
      let over = filter (is_over own.moment) own.waits in
      let p = op.reap own.waits own.moment in
      f_then most p _ (f_more (2 * length over) most p (omega (arith, shorter (is_over own.moment) own.waits, f.waits)) (f_reap over 0))

f_accept_command : (header : Header) (own : Own) (k name : ℕ) (o : Option Mine) (from at : End) → 3 ≤ k → Few k (command.accept_command header own name o from at)
f_accept_command header own k name None from at l = f_ends k _
f_accept_command header own k name (Some m) from at l =
    let p = op.accept header.shape header.seed m name own.mark from at in
    f_then k p _ (f_more 3 k p l (f_accept header.shape header.seed m name own.mark from at))

f_syn_command : (header : Header) (own : Own) (k name : ℕ) (o : Option Mine) (from at : End) → 3 ≤ k → Few k (command.syn_command header own name o from at)
f_syn_command header own k name None from at l = f_ends k _
f_syn_command header own k name (Some m) from at l =
    let p = op.syn header.shape header.seed m name own.mark from at in
    f_then k p _ (f_more 2 k p (omega (arith, l)) (f_syn header.shape header.seed m name own.mark from at))

f_ack_command : (header : Header) (own : Own) (k name : ℕ) (o : Option Mine) → 3 ≤ k → Few k (command.ack_command header own name o)
f_ack_command header own k name None l = f_ends k _
f_ack_command header own k name (Some r) l =
    let from = open_named own r.owner.origin in
    let p = op.ack header.shape header.seed r from name own.mark in
    f_then k p _ (f_more 3 k p l (f_ack header.shape header.seed r.owner.state r from name own.mark))

-- a command does so much at most: each port is tried, or each TIME_WAIT taken out
pub plan_few : (header : Header) (ranged : RangeFits header.range) (number count given waits : ℕ) (own : Own) → OwnFits header ranged number count given waits own → (c : Command) → Few (131080 + 2 * waits) (plan header own c)
unfolding plan
plan_few header ranged number count given waits own f (commands.Socket label options) = f_ends (131080 + 2 * waits) _
plan_few header ranged number count given waits own f (commands.Bind label end) = f_bind_command header ranged number count given waits own f _ end
plan_few header ranged number count given waits own f (commands.Listen label) = f_listen_command header ranged number count given waits own f _
plan_few header ranged number count given waits own f (commands.Connect label from to) = f_connect_command header ranged number count given waits own f _ from to
plan_few header ranged number count given waits own f (commands.Accept listener label from at) = f_accept_command header _ (131080 + 2 * waits) _ _ from at (omega arith)
plan_few header ranged number count given waits own f (commands.Syn listener label from at) = f_syn_command header _ (131080 + 2 * waits) _ _ from at (omega arith)
plan_few header ranged number count given waits own f (commands.Ack request label) =
    f_ack_command header (with_label own label) (131080 + 2 * waits) (next_name own) (open_socket own request) (omega arith)
plan_few header ranged number count given waits own f (commands.Close label) = f_close_command header ranged number count given waits own f _
plan_few header ranged number count given waits own f (commands.Drop label) = f_drop_command header ranged number count given waits own f _
plan_few header ranged number count given waits own f (commands.At moment) = f_if (131080 + 2 * waits) (nat_lt moment own.moment) _ _ (f_ends (131080 + 2 * waits) _) (f_ends (131080 + 2 * waits) _)
plan_few header ranged number count given waits own f commands.Reap = f_reap_command header ranged number count given waits own f
plan_few header ranged number count given waits own f (commands.Look query) = f_impossible (131080 + 2 * waits)
plan_few header ranged number count given waits own f (commands.Packets n) = f_impossible (131080 + 2 * waits)
plan_few header ranged number count given waits own f commands.Dump = f_ends (131080 + 2 * waits) _
