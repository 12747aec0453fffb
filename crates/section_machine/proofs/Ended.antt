-- What a section has once one of its sockets was closed or dropped.
use Rattle.std.proofs.Common.{◌≡◌, ℕ, List, Option, Some, refl, sym, ap, ◌∙◌, subst}
use Rattle.sock_card.specs.Conflict.{owner_key}
use Rattle.sock_card.specs.declared.owner.State.{State}
use Rattle.sock_card.specs.declared.owner.State.TheVariants as states
use Rattle.turn_table.specs.Passes as words
use Rattle.bind_buckets.specs.declared.request.Answer.{Answer}
use Rattle.bind_buckets.specs.declared.request.Answer.TheVariants as said
use Rattle.bind_buckets.specs.declared.request.Request.TheVariants as requests
use Rattle.flat_list.specs.declared.header.Header.{Header}
use Rattle.flat_list.specs.declared.command.Reply.{Reply}
use Rattle.flat_list.specs.declared.command.Reply.TheVariants as replies
use Rattle.race_record.specs.Deeds.{entries_in}
use Rattle.table_model.specs.Asking.{Asking, ends, asks, unhashes, and_then}
use Rattle.table_model.specs.Own.{Own, Mine, Offsets, open_socket, without, with_wait, card_of}
use Rattle.sock_card.specs.declared.card.Kind.TheVariants as kinds
use Rattle.table_model.specs.Operations as plans
use Rattle.table_model.specs.Operations.{Closed, gone, waiting, no_slot, when_done}
use Rattle.table_model.specs.Commands.{Replied, answers, close_command, close_reply, drop_command}
use Rattle.sock_ops.specs.declared.sock.Sock.{Sock}
use Rattle.sock_ops.specs.declared.tables.Tables.{Tables}
use Rattle.sock_ops.specs.declared.tables.Worker.{Worker}
use Rattle.sock_ops.specs.Goes.{Went}
use Rattle.sock_ops.specs.Socks.{mine_of}
use Rattle.sock_ops.specs.Stands.{IsReady, buckets_of, turned, chained}
use Rattle.section_machine.specs.Carried.{Carries, Ends, close_answer, waits_by}
use Rattle.section_machine.specs.Places.{Labelled, Takes, own_of}
use Rattle.section_machine.specs.Sections.{Kept, kept}
use Rattle.section_machine.specs.Standing.{IsSection, Tells, roll_of}
use Rattle.section_machine.proofs.Asked.{IsGoing, asked_so, IsEnd, HasName, WaitsSince, of_close, of_drop}
use Rattle.section_machine.proofs.Owns.{taken}
use Rattle.section_machine.proofs.Places.{open_named}
use Rattle.section_machine.proofs.Rolls as rolls
use Rattle.section_machine.proofs.Settled.{Before, before, there, then_ends, of_header}

-- a socket that is dropped, and then what comes of it
module _ {R : Type 0} (x : R) where
  abbrev next : Closed → Asking R
  next closed = ends x

  leave_then : (answer : Answer) → and_then (when_done (ends gone) answer) next ≡ when_done (ends x) answer
  leave_then said.Done = refl
  leave_then (said.Group g) = refl
  leave_then (said.InUse n) = refl
  leave_then said.GroupFull = refl
  leave_then said.GroupsFull = refl
  leave_then (said.Strange n) = refl
  leave_then (said.NotFree n) = refl

  pub drop_then : (m : Mine) (state : State) → and_then (plans.drop_as state m gone) next ≡ plans.drop_as state m x
  drop_then m states.Unbound = refl
  drop_then m states.Bound = λ i. asks (owner_key m.owner) (requests.Remove m.owner.name) (λ answer. leave_then answer i)
  drop_then m states.Listening = λ i. unhashes m.place (card_of kinds.Listen m) (asks (owner_key m.owner) (requests.Remove m.owner.name) (λ answer. leave_then answer i))
  drop_then m states.Full = λ i. unhashes m.place (card_of kinds.Full m) (asks (owner_key m.owner) (requests.Remove m.owner.name) (λ answer. leave_then answer i))
  drop_then m states.TimeWait = refl
  drop_then m states.Request = refl

module _ (t : Tables) (k : Kept) (header : Header) (l l1 : Labelled) (moment : ℕ) (o : Offsets) (waits : List Mine) (label : List ℕ) (i : ℕ) (s : Sock) (w : Worker)
    (b : Before k header l moment o waits) (takes : Takes l label l1 i s) (section : IsSection t k w)
    (u : Worker) (ready : IsReady t u) (caller : words.caller u.turns ≡ words.caller w.turns) where
  abbrev own : Own
  own = own_of l moment o waits

  abbrev m : Mine
  m = mine_of s

  abbrev F : Type 0
  F = m.owner.state ≡ states.Full

  gone_own : (ws : List Mine) → without (own_of l moment o ws) m.owner.name ≡ own_of l1 moment o ws
  gone_own ws = taken l i m.owner.name b.names takes.name moment o ws ∙ ap (λ (x : Labelled). own_of x moment o ws) (sym takes.after)

  -- the section without the socket
  section_without : {R : Type 0} (Q : R → Type 0) (p : Asking R) (r : R) (ws : List Mine) → IsGoing F m.owner.name Q p → Went header.shape.bind p (turned w) (turned u) (chained t w) (chained t u) (ends r)
      → IsSection t (kept header (own_of l1 moment o ws)) u
  section_without Q p r ws going went =
      let was = before t k header l l1 moment o waits label i s w b takes section in
      let asked = asked_so (IsEnd F m.owner.name) (HasName m.owner.name) Q header.shape.bind p (ends r) went.deeds went.leads going in
      let now = rolls.gone t (roll_of own) (turned w) (turned u) (chained t w) (chained t u) (entries_in header.shape.bind went.deeds) went.deeds
      (record { gave = went.gave; does = went.does }) was.tells (record { all = was.stand; unspoken = was.unspoken })
      m (there t k header l l1 moment o waits label i s w b takes section) asked.entries asked.unhashed in
      subst (λ (x : Own). IsSection t (kept header x) u) (gone_own ws)
      (record {
        tables = record { shape = was.tables.shape; seed = was.tables.seed; buckets = was.tables.buckets };
        ready = ready;
        number = was.number;
        tells = subst (λ (c : ℕ). Tells c l.number) (sym caller) was.tells;
        stand = now.all;
        unspoken = now.unspoken;
      })

  named : (command : Header → Own → Option Mine → Asking Replied) (new : Own) (reply : Reply) → Carries t (kept header own) (command header own (Some m)) (kept header new) w u reply → Carries t k (command k.header k.own (open_socket k.own label)) (kept header new) w u reply
  named command new reply c =
      subst (λ (x : Kept). Carries t x (command x.header x.own (open_socket x.own label)) (kept header new) w u reply) b.view
      (subst (λ (x : Option Mine). Carries t (kept header own) (command header own x) (kept header new) w u reply) (sym (open_named l moment o waits label b.names ∙ takes.named)) c)

  replied : (closed : Closed) → close_reply own m.owner.name closed ≡ answers (own_of l1 moment o (waits_by waits closed)) (close_answer closed)
  replied gone = ap (λ (x : Own). answers x replies.Ok) (gone_own waits)
  replied (waiting y) = ap (λ (x : Own). answers (with_wait x y) replies.TimeWait) (gone_own waits)
  replied (no_slot owned held) = ap (λ (x : Own). answers x (replies.NoSlot owned held)) (gone_own waits)

  -- one that was closed
  pub closed_so : (waits2 : List Mine) (reply : Reply) → Ends (buckets_of t) (plans.close t.chains.layout.shape t.chains.layout.seed m moment) (turned w) (turned u) (chained t w) (chained t u) waits waits2 reply
      → Carries t k (close_command k.header k.own (open_socket k.own label)) (kept header (own_of l1 moment o waits2)) w u reply
  closed_so waits2 reply e =
      let was = before t k header l l1 moment o waits label i s w b takes section in
      let went = of_header header t (λ shape seed. plans.close shape seed m moment) (turned w) (turned u) (chained t w) (chained t u) (ends e.closed) was.tables e.went in
      named (λ h x y. close_command h x y) (own_of l1 moment o waits2) reply
      (then_ends t (kept header own) (plans.close header.shape header.seed m moment) (close_reply own m.owner.name) (kept header (own_of l1 moment o waits2)) w u e.closed reply went
      (replied e.closed ∙ ap (λ (ws : List Mine). answers (own_of l1 moment o ws) (close_answer e.closed)) (sym e.left) ∙ ap (answers (own_of l1 moment o waits2)) (sym e.called))
      (section_without (WaitsSince moment) (plans.close header.shape header.seed m moment) e.closed waits2 (of_close header.shape header.seed m moment) went))

  -- one that was dropped
  pub dropped_so : Went (buckets_of t) (plans.drop m gone) (turned w) (turned u) (chained t w) (chained t u) (ends gone)
      → Carries t k (drop_command k.own (open_socket k.own label)) (kept header (own_of l1 moment o waits)) w u replies.Ok
  dropped_so e =
      let was = before t k header l l1 moment o waits label i s w b takes section in
      let went = of_header header t (λ shape seed. plans.drop m gone) (turned w) (turned u) (chained t w) (chained t u) (ends gone) was.tables e in
      let x : Replied = answers (without own m.owner.name) replies.Ok in
      named (λ h y z. drop_command y z) (own_of l1 moment o waits) replies.Ok
      (subst (λ (p : Asking Replied). Carries t (kept header own) p (kept header (own_of l1 moment o waits)) w u replies.Ok) (drop_then x m m.owner.state)
      (then_ends t (kept header own) (plans.drop m gone) (λ _. x) (kept header (own_of l1 moment o waits)) w u gone replies.Ok went
      (ap (λ (y : Own). answers y replies.Ok) (gone_own waits))
      (section_without (λ _. Unit {0}) (plans.drop m gone) gone waits (of_drop F m gone (λ _. Unit {0}) tt) went)))
