-- What each command's plan hashes and leaves keeps a section to what it keeps to.
use Rattle.std.proofs.Common.{◌≡◌, ℕ, ◌+◌, ◌*◌, ◌^◌, ◌≤◌, nat_lt, Bool, true, false, cond, List, [], ◌∷◌, length, length-append, find, Option, None, Some, option_and_then, refl, sym, ◌∙◌, subst, arith}
use Rattle.list_words.specs.Lists.{Each}
use Rattle.sock_card.specs.declared.card.Card.{Card}
use Rattle.flat_list.specs.declared.header.Header.{Header}
use Rattle.flat_list.specs.declared.header.First.TheVariants as firsts
use Rattle.flat_list.specs.declared.command.Command.{Command}
use Rattle.flat_list.specs.declared.command.Command.TheVariants as commands
use Rattle.flat_list.specs.declared.command.End.{End}
use Rattle.flat_list.specs.declared.command.Reply.TheVariants as replies
use Rattle.flat_list.specs.declared.owned.Options.{Options}
use Rattle.flat_list.specs.Owned.{new_owner}
use Rattle.flat_list.specs.Sections.{name_at}
use Rattle.table_model.specs.Asking.{Asking}
use Rattle.table_model.specs.Own.{Own, Mine, is_named, name_of, next_name, open_named, open_socket, with_label, with_socket, without, ports_of}
use Rattle.table_model.specs.Operations as op
use Rattle.table_model.specs.Operations.{Did, done, refused, Closed, gone, waiting, no_slot}
use Rattle.table_model.specs.Commands as command
use Rattle.table_model.specs.Commands.{Replied, answers, plan, after_search}
use Rattle.race_record.proofs.Walks.{dropped, tries_then, tries_if}
use Rattle.race_laws.proofs.Hashed.{Hashes, hashing}
use Rattle.race_laws.proofs.Kept.{History, after, IsOpen, Kept, labelled, stayed, turned, gone_from, closed_from, came, made}
use Rattle.race_laws.proofs.Operations.{Moves, Brings, Closes, Reaps, binds, listens, connects, accepts, syns, acks, closes, reaps_none}

module _ (number : ℕ) where
  -- a section of that number keeps to it, and has given so many labels
  pub record OwnKept (given : ℕ) (f : History) (own : Own) : Type 0 where
    pub number_is : own.number ≡ number
    pub given_is : length own.labels ≡ given
    pub kept : Kept number given f own.sockets

  -- what a command leaves by what it hashed: one label more at most
  pub record Leaves (given : ℕ) (f : History) (did : Option Card) (r : Replied) : Type 0 where
    pub now : ℕ
    pub few : now ≤ given + 1
    pub own : OwnKept now (after f did) r.own

  abbrev SomeOpen : ℕ → History → Option Mine → Type 0
  SomeOpen given f None = Unit {0}
  SomeOpen given f (Some m) = IsOpen number given f m

  module _ (given : ℕ) (f : History) where
    found_by : (b : Bool) (m : Mine) (o : Option Mine) → IsOpen number given f m → SomeOpen given f o → SomeOpen given f (cond b (Some m) o)
    found_by true m o h k = h
    found_by false m o h k = k

    found : (test : Mine → Bool) (sockets : List Mine) → Each (IsOpen number given f) sockets → SomeOpen given f (find test sockets)
    found test [] h = tt
    found test (m ∷ rest) h = found_by (test m) m (find test rest) h.0 (found test rest h.1)

    named : (own : Own) (name : Option ℕ) → Each (IsOpen number given f) own.sockets → SomeOpen given f (option_and_then (λ n. find (is_named n) own.sockets) name)
    named own None h = tt
    named own (Some n) h = found (is_named n) own.sockets h

    opened : (own : Own) (label : List ℕ) → OwnKept given f own → SomeOpen given f (open_socket own label)
    opened own label h = named own (name_of own label) h.kept.sockets

    abbrev GoodPlan : Asking Replied → Type 0
    GoodPlan p = Hashes (Leaves given f) None p

    -- nothing was hashed, and no label given
    unchanged : (own : Own) (r : Replied) → OwnKept given f own → r.own ≡ own → Leaves given f None r
    unchanged own r h e = record { now = given; few = omega arith; own = subst (OwnKept given f) (sym e) h }

    searched : (began : Bool) (own : Own) → OwnKept given f own → OwnKept given f (after_search began own)
    searched true own h = record { number_is = h.number_is; given_is = h.given_is; kept = h.kept }
    searched false own h = h

    moved : (own : Own) (m n : Mine) (did : Option Card) → OwnKept given f own → IsOpen number given f m → Moves m did (done n) → OwnKept given (after f did) (with_socket own n)
    moved own m n None h o s = record {
      number_is = h.number_is;
      given_is = h.given_is;
      kept = stayed number given f own.sockets m n h.kept o s.name s.kind;
    }
    moved own m n (Some c) h o s = record {
      number_is = h.number_is;
      given_is = h.given_is;
      kept = turned number given f own.sockets m n c h.kept o s.name s.before s.is;
    }

    bind_replied : (own : Own) (m : Mine) → OwnKept given f own → IsOpen number given f m → (did : Option Card) (d : Did) → Moves m did d → Leaves given f did (command.bind_reply own d)
    bind_replied own m h o did (done n) s = record { now = given; few = omega arith; own = moved own m n did h o s }
    bind_replied own m h o None (refused end) s = record { now = given; few = omega arith; own = h }
    bind_replied own m h o (Some c) (refused end) s = absurd s

    connect_replied : (own : Own) (m : Mine) → OwnKept given f own → IsOpen number given f m → (did : Option Card) (d : Did) → Moves m did d → Leaves given f did (command.connect_reply own d)
    connect_replied own m h o did (done n) s = record { now = given; few = omega arith; own = moved own m n did h o s }
    connect_replied own m h o None (refused end) s = record { now = given; few = omega arith; own = h }
    connect_replied own m h o (Some c) (refused end) s = absurd s

    next_is : (own : Own) → OwnKept given f own → next_name own ≡ number * 2 ^ 56 + given + 1
    next_is own h = λ i. name_at (h.number_is i) (h.given_is i)

    given_one : (own : Own) (label : List ℕ) → OwnKept given f own → length (with_label own label).labels ≡ given + 1
    given_one own label h = omega (arith, length-append own.labels (label ∷ []), h.given_is)

    only_label : (own : Own) (label : List ℕ) → OwnKept given f own → OwnKept (given + 1) f (with_label own label)
    only_label own label h = record { number_is = h.number_is; given_is = given_one own label h; kept = labelled number given f own.sockets h.kept }

    accept_replied : (own : Own) (label : List ℕ) → OwnKept given f own → (did : Option Card) (d : Did) → Brings (next_name own) did d → Leaves given f did (command.accept_reply (with_label own label) d)
    accept_replied own label h None (done n) b = absurd b
    accept_replied own label h (Some c) (done n) b = record {
      now = given + 1;
      few = omega arith;
      own = record {
        number_is = h.number_is;
        given_is = given_one own label h;
        kept = came number given f own.sockets n c h.kept (b.name_is ∙ next_is own h) b.is;
      };
    }
    accept_replied own label h None (refused end) b = record { now = given + 1; few = omega arith; own = only_label own label h }
    accept_replied own label h (Some c) (refused end) b = absurd b

    ack_replied : (own : Own) (label : List ℕ) (name : ℕ) → OwnKept given f own → (did : Option Card) (d : Did) → Brings (next_name own) did d → Leaves given f did (command.ack_reply (with_label own label) name d)
    ack_replied own label name h None (done n) b = absurd b
    ack_replied own label name h (Some c) (done n) b = record {
      now = given + 1;
      few = omega arith;
      own = record {
        number_is = h.number_is;
        given_is = given_one own label h;
        kept = came number given f (without own name).sockets n c (gone_from number given f own.sockets name h.kept) (b.name_is ∙ next_is own h) b.is;
      };
    }
    ack_replied own label name h None (refused end) b = record { now = given + 1; few = omega arith; own = only_label own label h }
    ack_replied own label name h (Some c) (refused end) b = absurd b

    closed_own : (own : Own) (m : Mine) → OwnKept given f own → IsOpen number given f m → (did : Option Card) (closed : Closed) → Closes m did closed → Kept number given (after f did) (without own m.owner.name).sockets
    closed_own own m h o None closed s = gone_from number given f own.sockets m.owner.name h.kept
    closed_own own m h o (Some c) closed s = closed_from number given f own.sockets m c h.kept o s.name s.other

    close_replied : (own : Own) (m : Mine) → OwnKept given f own → IsOpen number given f m → (did : Option Card) (closed : Closed) → Closes m did closed → Leaves given f did (command.close_reply own m.owner.name closed)
    close_replied own m h o did gone s = record { now = given; few = omega arith; own = record { number_is = h.number_is; given_is = h.given_is; kept = closed_own own m h o did gone s } }
    close_replied own m h o did (waiting w) s = record { now = given; few = omega arith; own = record { number_is = h.number_is; given_is = h.given_is; kept = closed_own own m h o did (waiting w) s } }
    close_replied own m h o did (no_slot owned held) s = record { now = given; few = omega arith; own = record { number_is = h.number_is; given_is = h.given_is; kept = closed_own own m h o did (no_slot owned held) s } }

    bind_plan : (own : Own) → OwnKept given f own → (o : Option Mine) → SomeOpen given f o → (end : End) → GoodPlan (command.bind_command own o end)
    bind_plan own h None k end = unchanged own _ h refl
    bind_plan own h (Some m) k end =
        tries_then hashing (Moves m) (Leaves given f) (op.bind m end (ports_of own.offsets firsts.Odd)) _ None (binds m end (ports_of own.offsets firsts.Odd))
        (bind_replied _ m (searched _ own h) k)

    drop_plan : (own : Own) → OwnKept given f own → (o : Option Mine) → GoodPlan (command.drop_command own o)
    drop_plan own h None = unchanged own _ h refl
    drop_plan own h (Some m) =
        dropped hashing (Leaves given f) None m.owner.state m (answers (without own m.owner.name) replies.Ok)
        (record { now = given; few = omega arith; own = record { number_is = h.number_is; given_is = h.given_is; kept = gone_from number given f own.sockets m.owner.name h.kept } })

    at_plan : (own : Own) → OwnKept given f own → (moment : ℕ) → GoodPlan (command.at_command own moment)
    at_plan own h moment =
        tries_if hashing (Leaves given f) None (nat_lt moment own.moment) (command.replies_at_once own replies.Einval) (command.replies_at_once (record own { moment = moment }) replies.Ok)
        (unchanged own _ h refl)
        (record { now = given; few = omega arith; own = record { number_is = h.number_is; given_is = h.given_is; kept = h.kept } })

    reap_replied : (own : Own) → OwnKept given f own → (did : Option Card) (count : ℕ) → Reaps did count → Leaves given f did (answers (record own { waits = op.kept_waits own.waits own.moment }) (replies.Count count))
    reap_replied own h None count r = record { now = given; few = omega arith; own = record { number_is = h.number_is; given_is = h.given_is; kept = h.kept } }
    reap_replied own h (Some c) count r = absurd r

    reap_plan : (own : Own) → OwnKept given f own → GoodPlan (command.reap_command own)
    reap_plan own h = tries_then hashing Reaps (Leaves given f) (op.reap own.waits own.moment) _ None (reaps_none own.waits own.moment) (reap_replied own h)

    socket_plan : (own : Own) → OwnKept given f own → (label : List ℕ) (options : Options) → GoodPlan (command.socket_command own label options)
    socket_plan own h label options = record {
      now = given + 1;
      few = omega arith;
      own = record {
        number_is = h.number_is;
        given_is = given_one own label h;
        kept = made number given f own.sockets (op.plain (new_owner (next_name own) own.mark options)) h.kept (next_is own h);
      };
    }

    module _ (header : Header) where
      listen_plan : (own : Own) → OwnKept given f own → (o : Option Mine) → SomeOpen given f o → GoodPlan (command.listen_command header own o)
      listen_plan own h None k = unchanged own _ h refl
      listen_plan own h (Some m) k =
          tries_then hashing (Moves m) (Leaves given f) (op.listen header.shape header.seed m (ports_of own.offsets firsts.Odd)) _ None
          (listens header.shape header.seed m (ports_of own.offsets firsts.Odd)) (bind_replied _ m (searched _ own h) k)

      connect_plan : (own : Own) → OwnKept given f own → (o : Option Mine) → SomeOpen given f o → (from : Option ℕ) (to : End) → GoodPlan (command.connect_command header own o from to)
      connect_plan own h None k from to = unchanged own _ h refl
      connect_plan own h (Some m) k from to =
          tries_then hashing (Moves m) (Leaves given f) (op.connect header.shape header.seed m from to own.moment (command.connect_rule header) (ports_of own.offsets firsts.Even)) _ None
          (connects header.shape header.seed m from to own.moment (command.connect_rule header) (ports_of own.offsets firsts.Even)) (connect_replied _ m (searched _ own h) k)

      no_other : (own : Own) → OwnKept given f own → (label : List ℕ) → GoodPlan (command.replies_at_once (with_label own label) replies.Ebadf)
      no_other own h label = record { now = given + 1; few = omega arith; own = only_label own label h }

      accept_plan : (own : Own) → OwnKept given f own → (label : List ℕ) (o : Option Mine) (from at : End) → GoodPlan (command.accept_command header (with_label own label) (next_name own) o from at)
      accept_plan own h label None from at = no_other own h label
      accept_plan own h label (Some l) from at =
          tries_then hashing (Brings (next_name own)) (Leaves given f) (op.accept header.shape header.seed l (next_name own) own.mark from at) _ None
          (accepts header.shape header.seed l (next_name own) own.mark from at) (accept_replied own label h)

      syn_plan : (own : Own) → OwnKept given f own → (label : List ℕ) (o : Option Mine) (from at : End) → GoodPlan (command.syn_command header (with_label own label) (next_name own) o from at)
      syn_plan own h label None from at = no_other own h label
      syn_plan own h label (Some l) from at =
          tries_then hashing (Brings (next_name own)) (Leaves given f) (op.syn header.shape header.seed l (next_name own) own.mark from at) _ None
          (syns header.shape header.seed l (next_name own) own.mark from at) (accept_replied own label h)

      ack_plan : (own : Own) → OwnKept given f own → (label : List ℕ) (o : Option Mine) → GoodPlan (command.ack_command header (with_label own label) (next_name own) o)
      ack_plan own h label None = no_other own h label
      ack_plan own h label (Some r) =
          tries_then hashing (Brings (next_name own)) (Leaves given f) (op.ack header.shape header.seed r (open_named (with_label own label) r.owner.origin) (next_name own) own.mark) _ None
          (acks header.shape header.seed r (open_named (with_label own label) r.owner.origin) (next_name own) own.mark) (ack_replied own label r.owner.name h)

      close_plan : (own : Own) → OwnKept given f own → (o : Option Mine) → SomeOpen given f o → GoodPlan (command.close_command header own o)
      close_plan own h None k = unchanged own _ h refl
      close_plan own h (Some m) k =
          tries_then hashing (Closes m) (Leaves given f) (op.close header.shape header.seed m own.moment) _ None (closes header.shape header.seed m own.moment) (close_replied own m h k)

      pub plan_keeps : (own : Own) → OwnKept given f own → (c : Command) → GoodPlan (plan header own c)
      unfolding plan
      plan_keeps own h (commands.Socket label options) = socket_plan own h label options
      plan_keeps own h (commands.Bind label end) = bind_plan own h (open_socket own label) (opened own label h) end
      plan_keeps own h (commands.Listen label) = listen_plan own h (open_socket own label) (opened own label h)
      plan_keeps own h (commands.Connect label from to) = connect_plan own h (open_socket own label) (opened own label h) from to
      plan_keeps own h (commands.Accept listener label from at) = accept_plan own h label (open_socket own listener) from at
      plan_keeps own h (commands.Syn listener label from at) = syn_plan own h label (open_socket own listener) from at
      plan_keeps own h (commands.Ack request label) = ack_plan own h label (open_socket own request)
      plan_keeps own h (commands.Close label) = close_plan own h (open_socket own label) (opened own label h)
      plan_keeps own h (commands.Drop label) = drop_plan own h (open_socket own label)
      plan_keeps own h (commands.At moment) = at_plan own h moment
      plan_keeps own h commands.Reap = reap_plan own h
      plan_keeps own h (commands.Look query) = tt
      plan_keeps own h (commands.Packets count) = tt
      plan_keeps own h commands.Dump = unchanged own _ h refl
