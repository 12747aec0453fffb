-- How often a plan's deeds seek a slot in vain.
use Rattle.std.proofs.Common.{◌≡◌, ℕ, ◌+◌, ◌==◌, Bool, true, false, cond, nat_lt, List, [], ◌∷◌, length, Option, None, Some, refl, ◌∙◌, arith, ◌&&◌, filter}
use Rattle.sock_card.specs.declared.owner.Owner.{Owner}
use Rattle.sock_card.specs.declared.owner.State.{State}
use Rattle.sock_card.specs.declared.owner.State.TheVariants as states
use Rattle.sock_card.specs.declared.card.Card.{Card}
use Rattle.flat_list.specs.Owned.{addressed, bound_at, is_no_accept, is_no_ack, connected_at, connected_to, child_owner, request_owner, heir_owner}
use Rattle.bind_buckets.specs.declared.request.Answer.{Answer}
use Rattle.bind_buckets.specs.declared.request.Answer.TheVariants as answers_
use Rattle.chain_book.specs.declared.outcome.Hashed.{Hashed}
use Rattle.chain_book.specs.declared.outcome.Replace.{Replace}
use Rattle.chain_book.specs.declared.shape.Shape.{Shape}
use Rattle.chain_book.specs.Chains.{Outcome, put, taken, full}
use Rattle.flat_list.specs.declared.header.Header.{Header}
use Rattle.flat_list.specs.declared.header.First.TheVariants as firsts
use Rattle.flat_list.specs.declared.command.End.{End}
use Rattle.flat_list.specs.declared.command.Command.{Command}
use Rattle.flat_list.specs.declared.command.Command.TheVariants as commands
use Rattle.flat_list.specs.declared.command.Reply.{Reply}
use Rattle.flat_list.specs.declared.command.Reply.TheVariants as replies
use Rattle.table_model.specs.declared.operation.OpEnd.{OpEnd}
use Rattle.table_model.specs.declared.operation.OpEnd.TheVariants as errors
use Rattle.table_model.specs.Asking.{Asking, ends, and_then}
use Rattle.table_model.specs.Own.{Own, Mine, is_over, next_name, open_named, open_socket, ports_of, with_label, without}
use Rattle.table_model.specs.Operations as op
use Rattle.table_model.specs.Operations.{Did, done, refused, Closed, gone, waiting, no_slot as closed_without, source_to}
use Rattle.table_model.specs.Commands as command
use Rattle.table_model.specs.Commands.{Replied, after_search, answers, connect_rule, is_unbound, plan, searches_port}
use Rattle.race_record.specs.Deeds.{Deed, Tried, Wish, hashed, kept_out, no_slot, inserted, added, vain_in}
use Rattle.race_record.specs.Goes.{Goes, Grants, Admits, outcome_of}
use Rattle.race_record.specs.Laws.{drew_for}
use Rattle.race_record.proofs.Walks as walks
use Rattle.race_record.proofs.Walks.{Walk, Tries, tries_then, tries_if, whenever_done, searched_any, left_port, dropped, replaced_then, AnyTried, any_outcome}

-- one more, where a slot was sought in vain
abbrev vain_by : ℕ → Outcome → ℕ
vain_by k (put slot old) = k
vain_by k (taken name) = k
vain_by k (full owned held) = k + 1

-- how often a slot was sought in vain so far
abbrev counting : Walk
counting = record {
  Known = ℕ;
  May = λ k card. Unit {0};
  Every = λ P. (o : Outcome) → P o;
  after = λ k card o. vain_by k o;
  weaken = λ P Q f h o. f o (h o);
}

-- with so many before, the plan seeks in vain as often as its result says
abbrev IsTold : {R : Type 0} → (R → ℕ) → ℕ → R → Type 0
IsTold told k r = k ≡ told r

abbrev Vains : {R : Type 0} → ℕ → (R → ℕ) → Asking R → Type 0
Vains k told p = Tries counting (IsTold told) k p

-- deeds, before which so many were in vain, make them so many
abbrev Adds : ℕ → List Deed → ℕ → Type 0
Adds k deeds n = k + length (vain_in deeds) ≡ n

insert_adds : (k n : ℕ) (card : Card) (wish : Wish) (tried : Tried) (deeds : List Deed) → wish.card ≡ card → Unit {0} → Grants wish tried → Adds (vain_by k (outcome_of tried)) deeds n → Adds k (inserted wish tried ∷ deeds) n
insert_adds k n card wish (hashed c None) deeds is may g h = h
insert_adds k n card wish (hashed c (Some u)) deeds is may g h = h
insert_adds k n card wish (kept_out name) deeds is may g h = h
insert_adds k n card wish (no_slot number owned held) deeds is may g h = omega (arith, h)

add_adds : (k n : ℕ) (card x : Card) (tried : Tried) (deeds : List Deed) → Unit {0} → Admits card tried → Adds (vain_by k (outcome_of tried)) deeds n → Adds k (added x tried ∷ deeds) n
add_adds k n card x (hashed c None) deeds may g h = h
add_adds k n card x (hashed c (Some u)) deeds may g h = h
add_adds k n card x (kept_out name) deeds may g h = h
add_adds k n card x (no_slot number owned held) deeds may g h = omega (arith, h)

steps : walks.Steps counting AnyTried any_outcome Adds
steps = record {
  none = λ k. omega arith;
  of_entry = λ k n key note deeds h. h;
  of_insert = insert_adds;
  of_add = add_adds;
  of_leave = λ k n place card u deeds g h. h;
  of_reap = λ k n card x unhash deeds g h. h;
}

-- how often an operation that came to that sought in vain
abbrev told_end : OpEnd → ℕ
told_end (errors.Full owned held) = 1
told_end _ = 0

abbrev told_did : Did → ℕ
told_did (done m) = 0
told_did (refused end) = told_end end

abbrev told_closed : Closed → ℕ
told_closed gone = 0
told_closed (waiting w) = 0
told_closed (closed_without owned held) = 1

abbrev told_count : ℕ → ℕ
told_count n = 0

given_up : (took : Bool) (a : Owner) (end : OpEnd) (k : ℕ) → k ≡ told_end end → Vains k told_did (op.give_up took a end)
given_up true a end k e = whenever_done counting (IsTold told_did) k (ends (refused end)) e
given_up false a end k e = e

ports_found : (a : Owner) (addr : ℕ) (found : ℕ → Asking Did) (ports : List ℕ) → ((port : ℕ) → Vains 0 told_did (found port)) → Vains 0 told_did (op.search_bind a addr found (ends (refused errors.NoPort)) ports)
ports_found a addr found ports h =
    searched_any counting (IsTold told_did) 0 a addr found (ends (refused errors.NoPort)) ports h refl

bind_answered : (a : Owner) (end : End) (answer : Answer) → Vains 0 told_did (op.bind_answered a end answer)
bind_answered a end answers_.Done = refl
bind_answered a end (answers_.InUse n) = refl
bind_answered a end _ = tt

bind_any : (a : Owner) (addr : ℕ) (ports : List ℕ) → Vains 0 told_did (op.bind_any a addr ports)
bind_any a addr ports =
    tries_if counting (IsTold told_did) 0 a.noport (ends (done (op.plain (addressed a addr)))) (op.search_bind a addr (op.bound a addr) (ends (refused errors.NoPort)) ports) refl
    (ports_found a addr (op.bound a addr) ports (λ port. refl))

bind_vains : (s : State) (m : Mine) (end : End) (ports : List ℕ) → Vains 0 told_did (op.bind_as s m end ports)
bind_vains states.Unbound m end ports =
    tries_if counting (IsTold told_did) 0 (end.port == 0) (op.bind_any m.owner end.addr ports) _ (bind_any m.owner end.addr ports) (bind_answered m.owner end)
bind_vains _ m end ports = refl

module _ (shape : Shape) (seed : ℕ) where
  listen_hashed : (took : Bool) (a : Owner) (l : Mine) (o : Outcome) → Vains (vain_by 0 o) told_did (op.listen_hashed shape seed took a l o)
  listen_hashed took a l (put slot None) = whenever_done counting (IsTold told_did) 0 (ends (done (op.listens_in shape seed l slot))) refl
  listen_hashed took a l (put slot (Some x)) = tt
  listen_hashed took a l (taken name) = tt
  listen_hashed took a l (full owned held) = given_up took a (errors.Full owned held) 1 refl

  listen_answered : (took : Bool) (a : Owner) (answer : Answer) → Vains 0 told_did (op.listen_answered shape seed took a answer)
  listen_answered took a (answers_.Group group) = (tt, listen_hashed took a (op.listener a group))
  listen_answered took a (answers_.InUse n) = given_up took a (errors.InUse n) 0 refl
  listen_answered took a answers_.GroupFull = given_up took a errors.GroupFull 0 refl
  listen_answered took a answers_.GroupsFull = given_up took a errors.GroupsFull 0 refl
  listen_answered took a _ = tt

  listen_vains : (s : State) (m : Mine) (ports : List ℕ) → Vains 0 told_did (op.listen_as shape seed s m ports)
  listen_vains states.Unbound m ports =
      ports_found m.owner m.owner.addr (op.listen_found shape seed m.owner) ports (λ port. listen_answered true (bound_at m.owner m.owner.addr port))
  listen_vains states.Bound m ports = listen_answered false m.owner
  listen_vains _ m ports = refl

  full_then : (a : Owner) (slot : ℕ) (old : Option Hashed) (answer : Answer) → Vains 0 told_did (op.when_done (op.full_done shape seed a slot old) answer)
  full_then a slot old =
      whenever_done counting (IsTold told_did) 0 (op.full_done shape seed a slot old) (replaced_then counting (IsTold told_did) 0 old (ends (done (op.full_in shape seed a slot))) refl)

  connect_hashed : (a : Owner) (o : Outcome) → Vains (vain_by 0 o) told_did (op.connect_hashed shape seed a o)
  connect_hashed a (put slot old) = full_then a slot old
  connect_hashed a (taken name) = refl
  connect_hashed a (full owned held) = refl

  connect_tried : (a : Owner) (next : Asking Did) → Vains 0 told_did next → (o : Outcome) → Vains (vain_by 0 o) told_did (op.connect_tried shape seed a next o)
  connect_tried a next h (put slot old) = full_then a slot old
  connect_tried a next h (taken name) = h
  connect_tried a next h (full owned held) = refl

  connect_free : (a : Owner) (moment : ℕ) (rule : Replace) (next : Asking Did) → Vains 0 told_did next → (answer : Answer) → Vains 0 told_did (op.connect_free shape seed a moment rule next answer)
  connect_free a moment rule next h answers_.Done = (tt, connect_tried a next h)
  connect_free a moment rule next h (answers_.NotFree n) = h
  connect_free a moment rule next h _ = tt

  search_connect : (a : Owner) (source : ℕ) (to : End) (moment : ℕ) (rule : Replace) (ports : List ℕ) → Vains 0 told_did (op.search_connect shape seed a source to moment rule ports)
  search_connect a source to moment rule [] = refl
  search_connect a source to moment rule (port ∷ ports) =
      connect_free (connected_at a source port to) moment rule (op.search_connect shape seed a source to moment rule ports) (search_connect a source to moment rule ports)

  connect_vains : (s : State) (a : Owner) (source : Option ℕ) (to : End) (moment : ℕ) (rule : Replace) (ports : List ℕ) → Vains 0 told_did (op.connect_from shape seed s a source to moment rule ports)
  connect_vains states.Unbound a (Some source) to moment rule ports = search_connect a source to moment rule ports
  connect_vains states.Bound a (Some source) to moment rule ports = (tt, connect_hashed (connected_to a source to))
  connect_vains states.Unbound a None to moment rule ports = refl
  connect_vains states.Bound a None to moment rule ports = refl
  connect_vains _ a source to moment rule ports = refl

  accept_hashed : (l child : Owner) (o : Outcome) → Vains (vain_by 0 o) told_did (op.accept_hashed shape seed l child o)
  accept_hashed l child (put slot old) = full_then child slot old
  accept_hashed l child (taken name) = refl
  accept_hashed l child (full owned held) = refl

  accept_vains : (l : Mine) (name mark : ℕ) (from at : End) → Vains 0 told_did (op.accept shape seed l name mark from at)
  accept_vains l name mark from at =
      let child = child_owner l.owner name mark from at in
      tries_if counting (IsTold told_did) 0 (is_no_accept l.owner from at) (ends (refused errors.Inval)) (op.accept_as shape seed l.owner child) refl (tt, accept_hashed l.owner child)

  syn_hashed : (r : Owner) (o : Outcome) → Vains (vain_by 0 o) told_did (op.syn_hashed shape seed r o)
  syn_hashed r (put slot old) = replaced_then counting (IsTold told_did) 0 old (ends (done (op.request_in shape seed r slot))) refl
  syn_hashed r (taken name) = refl
  syn_hashed r (full owned held) = refl

  syn_vains : (l : Mine) (name mark : ℕ) (from at : End) → Vains 0 told_did (op.syn shape seed l name mark from at)
  syn_vains l name mark from at =
      let r = request_owner l.owner name mark from at in
      tries_if counting (IsTold told_did) 0 (is_no_accept l.owner from at) (ends (refused errors.Inval)) (op.syn_as shape seed r) refl (tt, syn_hashed r)

  ack_hashed : (r : Mine) (l child : Owner) (o : Outcome) → Vains (vain_by 0 o) told_did (op.ack_hashed shape seed r l child o)
  ack_hashed r l child (put slot None) = whenever_done counting (IsTold told_did) 0 (ends (done (op.full_in shape seed child slot))) refl
  ack_hashed r l child (put slot (Some x)) = tt
  ack_hashed r l child (taken name) = tt
  ack_hashed r l child (full owned held) = refl

  ack_by : (r : Mine) (o : Option Mine) (name mark : ℕ) → Vains 0 told_did (op.ack_by shape seed r o name mark)
  ack_by r None name mark = refl
  ack_by r (Some l) name mark =
      let child = heir_owner l.owner name mark r.owner in
      tries_if counting (IsTold told_did) 0 (is_no_ack l.owner r.owner) (ends (refused errors.Inval)) (op.ack_as shape seed r l.owner child) refl (tt, ack_hashed r l.owner child)

  ack_vains : (s : State) (r : Mine) (o : Option Mine) (name mark : ℕ) → Vains 0 told_did (op.ack_from shape seed s r o name mark)
  ack_vains states.Request r o name mark = ack_by r o name mark
  ack_vains _ r o name mark = refl

  close_hashed : (m w : Mine) (o : Outcome) → Vains (vain_by 0 o) told_closed (op.close_hashed shape seed m w o)
  close_hashed m w (put slot None) = whenever_done counting (IsTold told_closed) 0 (ends (waiting (op.waits_in shape seed w slot))) refl
  close_hashed m w (put slot (Some x)) = tt
  close_hashed m w (taken name) = tt
  close_hashed m w (full owned held) = left_port counting (IsTold told_closed) 1 m.owner (closed_without owned held) refl

  close_vains : (s : State) (m : Mine) (moment : ℕ) → Vains 0 told_closed (op.close_as shape seed s m moment)
  close_vains states.Full m moment = (tt, close_hashed m (op.wait_of m moment))
  close_vains states.Unbound m moment = dropped counting (IsTold told_closed) 0 states.Unbound m gone refl
  close_vains states.Bound m moment = dropped counting (IsTold told_closed) 0 states.Bound m gone refl
  close_vains states.Listening m moment = dropped counting (IsTold told_closed) 0 states.Listening m gone refl
  close_vains states.TimeWait m moment = dropped counting (IsTold told_closed) 0 states.TimeWait m gone refl
  close_vains states.Request m moment = dropped counting (IsTold told_closed) 0 states.Request m gone refl

reaped_next : (w : Mine) (count : ℕ) (next : ℕ → Asking ℕ) → ((n : ℕ) → Vains 0 told_count (next n)) → (b : Bool) → Vains 0 told_count (op.reaped_next w count next b)
reaped_next w count next h true = λ answer. h (count + 1)
reaped_next w count next h false = h count

reap_each : (ws : List Mine) (count : ℕ) → Vains 0 told_count (op.reap_each ws count)
reap_each [] count = refl
reap_each (w ∷ rest) count = reaped_next w count (op.reap_each rest) (reap_each rest)

-- what a command's reply says
abbrev told_reply : Replied → ℕ
told_reply r = cond (drew_for r.reply) 1 0

-- an operation, and the reply that is made of its result
replied : {R : Type 0} (told : R → ℕ) (p : Asking R) (reply : R → Replied) → Vains 0 told p → ((x : R) → told x ≡ told_reply (reply x)) → Vains 0 told_reply (and_then p (λ x. ends (reply x)))
replied told p reply h same = tries_then counting (IsTold told) (IsTold told_reply) p (λ x. ends (reply x)) 0 h (λ k x e. e ∙ same x)

-- each operation's result says the same as the reply that is made of it
same_bind : (own : Own) (d : Did) → told_did d ≡ told_reply (command.bind_reply own d)
same_bind own (refused (errors.Full o h)) = refl
same_bind own d = refl

same_connect : (own : Own) (d : Did) → told_did d ≡ told_reply (command.connect_reply own d)
same_connect own (refused (errors.Full o h)) = refl
same_connect own d = refl

same_accept : (own : Own) (d : Did) → told_did d ≡ told_reply (command.accept_reply own d)
same_accept own (refused (errors.Full o h)) = refl
same_accept own d = refl

same_ack : (own : Own) (name : ℕ) (d : Did) → told_did d ≡ told_reply (command.ack_reply own name d)
same_ack own name (refused (errors.Full o h)) = refl
same_ack own name d = refl

same_close : (own : Own) (name : ℕ) (c : Closed) → told_closed c ≡ told_reply (command.close_reply own name c)
same_close own name gone = refl
same_close own name (waiting w) = refl
same_close own name (closed_without o h) = refl

bind_command : (own : Own) (o : Option Mine) (end : End) → Vains 0 told_reply (command.bind_command own o end)
bind_command own None end = refl
bind_command own (Some m) end =
    let ports : List ℕ = ports_of own.offsets firsts.Odd in
    let began : Own = after_search (searches_port m.owner end) own in
    replied told_did (op.bind m end ports) (command.bind_reply began) (bind_vains m.owner.state m end ports) (same_bind began)

drop_command : (own : Own) (o : Option Mine) → Vains 0 told_reply (command.drop_command own o)
drop_command own None = refl
drop_command own (Some m) =
    dropped counting (IsTold told_reply) 0 m.owner.state m (answers (without own m.owner.name) replies.Ok) refl

at_command : (own : Own) (moment : ℕ) → Vains 0 told_reply (command.at_command own moment)
at_command own moment =
    tries_if counting (IsTold told_reply) 0 (nat_lt moment own.moment) (command.replies_at_once own replies.Einval) (command.replies_at_once (record own { moment = moment }) replies.Ok) refl refl

module _ (header : Header) where
  listen_command : (own : Own) (o : Option Mine) → Vains 0 told_reply (command.listen_command header own o)
  listen_command own None = refl
  listen_command own (Some m) =
      let ports : List ℕ = ports_of own.offsets firsts.Odd in
      let began : Own = after_search (is_unbound m.owner.state) own in
      replied told_did (op.listen header.shape header.seed m ports) (command.bind_reply began) (listen_vains header.shape header.seed m.owner.state m ports) (same_bind began)

  connect_command : (own : Own) (o : Option Mine) (from : Option ℕ) (to : End) → Vains 0 told_reply (command.connect_command header own o from to)
  connect_command own None from to = refl
  connect_command own (Some m) from to =
      let ports : List ℕ = ports_of own.offsets firsts.Even in
      let source : Option ℕ = source_to m.owner from to in
      let began : Own = after_search (is_unbound m.owner.state && command.is_some source) own in
      replied told_did (op.connect header.shape header.seed m from to own.moment (connect_rule header) ports) (command.connect_reply began)
      (connect_vains header.shape header.seed m.owner.state m.owner source to own.moment (connect_rule header) ports) (same_connect began)

  accept_command : (own : Own) (name : ℕ) (o : Option Mine) (from at : End) → Vains 0 told_reply (command.accept_command header own name o from at)
  accept_command own name None from at = refl
  accept_command own name (Some l) from at =
      replied told_did (op.accept header.shape header.seed l name own.mark from at) (command.accept_reply own) (accept_vains header.shape header.seed l name own.mark from at) (same_accept own)

  syn_command : (own : Own) (name : ℕ) (o : Option Mine) (from at : End) → Vains 0 told_reply (command.syn_command header own name o from at)
  syn_command own name None from at = refl
  syn_command own name (Some l) from at =
      replied told_did (op.syn header.shape header.seed l name own.mark from at) (command.accept_reply own) (syn_vains header.shape header.seed l name own.mark from at) (same_accept own)

  ack_command : (own : Own) (name : ℕ) (o : Option Mine) → Vains 0 told_reply (command.ack_command header own name o)
  ack_command own name None = refl
  ack_command own name (Some r) =
      let listener : Option Mine = open_named own r.owner.origin in
      replied told_did (op.ack header.shape header.seed r listener name own.mark) (command.ack_reply own r.owner.name) (ack_vains header.shape header.seed r.owner.state r listener name own.mark) (same_ack own r.owner.name)

  close_command : (own : Own) (o : Option Mine) → Vains 0 told_reply (command.close_command header own o)
  close_command own None = refl
  close_command own (Some m) =
      replied told_closed (op.close header.shape header.seed m own.moment) (command.close_reply own m.owner.name) (close_vains header.shape header.seed m.owner.state m own.moment) (same_close own m.owner.name)

  plan_vains : (own : Own) (c : Command) → Vains 0 told_reply (plan header own c)
  unfolding plan
  plan_vains own (commands.Socket label options) = refl
  plan_vains own (commands.Bind label end) = bind_command own (open_socket own label) end
  plan_vains own (commands.Listen label) = listen_command own (open_socket own label)
  plan_vains own (commands.Connect label from to) = connect_command own (open_socket own label) from to
  plan_vains own (commands.Accept listener label from at) = accept_command (with_label own label) (next_name own) (open_socket own listener) from at
  plan_vains own (commands.Syn listener label from at) = syn_command (with_label own label) (next_name own) (open_socket own listener) from at
  plan_vains own (commands.Ack request label) = ack_command (with_label own label) (next_name own) (open_socket own request)
  plan_vains own (commands.Close label) = close_command own (open_socket own label)
  plan_vains own (commands.Drop label) = drop_command own (open_socket own label)
  plan_vains own (commands.At moment) = at_command own moment
  plan_vains own commands.Reap =
      replied told_count (op.reap own.waits own.moment) (λ count. answers (record own { waits = op.kept_waits own.waits own.moment }) (replies.Count count))
      (reap_each (filter (is_over own.moment) own.waits) 0) (λ count. refl)
  plan_vains own (commands.Look query) = tt
  plan_vains own (commands.Packets count) = tt
  plan_vains own commands.Dump = refl

  pub replies_tell : (own next : Own) (c : Command) (reply : Reply) (deeds : List Deed) → Goes (plan header own c) deeds (answers next reply) → length (vain_in deeds) ≡ cond (drew_for reply) 1 0
  replies_tell own next c reply deeds g =
      let came : walks.Comes counting AnyTried any_outcome Adds (IsTold told_reply) 0 deeds (answers next reply) =
      walks.comes counting AnyTried any_outcome Adds steps (IsTold told_reply) (plan header own c) 0 deeds (answers next reply)
      (walks.all_fit counting AnyTried any_outcome Adds (λ tried. tt) deeds) (plan_vains own c) g in
      omega (arith, came.made, came.result)
