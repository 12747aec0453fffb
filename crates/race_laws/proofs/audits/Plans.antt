-- The plan of each command: what it hashes is in range, and so are its reply and what it leaves of the section's own.
use Rattle.std.proofs.Common.{◌≡◌, ℕ, ◌+◌, ◌<◌, ◌≤◌, ◌^◌, nat_lt, not, Bool, true, false, cond, List, [], ◌∷◌, length, length-append, find, Option, None, Some, option_and_then, if◌then◌else◌, refl, sym, ap, ◌∙◌, subst, arith}
use Rattle.std.specs.Option.{option_map_or}
use Rattle.list_words.specs.Lists.{Each}
use Rattle.list_words.proofs.EachLemmas.{each_append, each_filter, each_map, each_weaken}
use Rattle.flat_list.specs.declared.header.Header.{Header}
use Rattle.flat_list.specs.declared.header.First.{First}
use Rattle.flat_list.specs.declared.header.First.TheVariants as firsts
use Rattle.flat_list.specs.declared.command.Command.{Command}
use Rattle.flat_list.specs.declared.command.Command.TheVariants as commands
use Rattle.flat_list.specs.declared.command.End.{End}
use Rattle.flat_list.specs.declared.command.Reply.{Reply}
use Rattle.flat_list.specs.declared.command.Reply.TheVariants as replies
use Rattle.flat_list.specs.declared.owned.Options.{Options}
use Rattle.flat_list.specs.Owned.{new_owner}
use Rattle.flat_list.specs.Sections.{name_at}
use Rattle.sock_script.specs.Forms.{CommandFits, DeviceFits, NamespaceFits, SourceFits}
use Rattle.table_model.specs.declared.operation.OpEnd.{OpEnd}
use Rattle.table_model.specs.declared.operation.OpEnd.TheVariants as errors
use Rattle.table_model.specs.Asking.{Asking, ends}
use Rattle.table_model.specs.Own.{Own, Mine, Offsets, is_named, is_over, name_of, next_name, open_named, open_socket, replaced, with_socket, with_new, without, with_wait, with_label, past_offset, ports_of, offset_of}
use Rattle.table_model.specs.Operations.{Did, done, refused, Closed, gone, waiting, no_slot, plain, bind, listen, connect, accept, syn, ack, close, reap, kept_waits}
use Rattle.table_model.specs.Commands.{Replied, answers, replies_at_once, bind_error, connect_error, bind_reply, connect_reply, accept_reply, ack_reply, close_reply, after_search, bind_command, drop_command, at_command, reap_command, socket_command, listen_command, connect_command, accept_command, syn_command, ack_command, close_command, connect_rule, searches_port, plan}
use Rattle.race_record.proofs.Walks.{tries_if}
use Rattle.race_laws.proofs.audits.Asked.{Asked, asked_then, asking}
use Rattle.race_laws.proofs.audits.Owners.{IsNamed, Ports, RangeFits, ports_fit, shorter, EndIn, OwnerFits, OpenFits, IsGood, RefusalFits, DidFits, ClosedFits, SourceIn, bind_fits, drop_fits, listen_fits, connect_fits, accept_fits, syn_fits, ack_fits, close_fits, reap_fits}
use Rattle.race_laws.proofs.audits.Scripts.{device_below, namespace_below}

-- the numbers of a reply can be written
abbrev pub ReplyFits : Reply → Type 0
ReplyFits (replies.Port port) = port < 2 ^ 16
ReplyFits (replies.End end) = EndIn end.addr end.port
ReplyFits (replies.NoSlot owned held) = (owned < 2 ^ 64) × (held < 2 ^ 64)
ReplyFits (replies.Count count) = count < 2 ^ 64
ReplyFits (replies.Found answer) = ⊥
ReplyFits replies.Skip = ⊥
ReplyFits replies.Short = ⊥
ReplyFits (replies.Enfile owned held) = (owned < 2 ^ 64) × (held < 2 ^ 64)
ReplyFits _ = Unit {0}

-- what `reap` replies: a count
abbrev pub IsCount : Reply → Type 0
IsCount (replies.Count count) = count < 2 ^ 64
IsCount _ = ⊥

-- a command's reply
abbrev pub IsReplyTo : Command → Reply → Type 0
IsReplyTo commands.Reap reply = IsCount reply
IsReplyTo commands.Dump reply = reply ≡ replies.Ok
IsReplyTo _ reply = ReplyFits reply

-- how many labels a command gives
abbrev pub gives : Command → ℕ
gives (commands.Socket label options) = 1
gives (commands.Accept listener label from at) = 1
gives (commands.Syn listener label from at) = 1
gives (commands.Ack request label) = 1
gives _ = 0

range_past_by : (o p : Offsets) (x : Option ℕ) → p.range ≡ o.range → (option_map_or (λ (offset : ℕ). o) x p).range ≡ o.range
range_past_by o p None e = e
range_past_by o p (Some offset) e = refl

range_past : (o : Offsets) → (past_offset o).range ≡ o.range
range_past o = range_past_by o _ o.offset refl

module _ (header : Header) (ranged : RangeFits header.range) (number count : ℕ) where
  abbrev MineFits : Mine → Type 0
  MineFits m = OwnerFits number count m.owner

  -- a section that has given so many labels, and left so many TIME_WAITs at most
  pub record OwnFits (given left : ℕ) (own : Own) : Type 0 where
    pub number_is : own.number ≡ number
    pub given_is : length own.labels ≡ given
    pub range_is : own.offsets.range ≡ header.range
    pub sockets : Each MineFits own.sockets
    pub waits : length own.waits ≤ left

  abbrev pub SomeFits : Option Mine → Type 0
  SomeFits = OpenFits number count

  found_by : (b : Bool) (m : Mine) (o : Option Mine) → MineFits m → SomeFits o → SomeFits (cond b (Some m) o)
  found_by true m o f g = f
  found_by false m o f g = g

  found_fits : (test : Mine → Bool) (sockets : List Mine) → Each MineFits sockets → SomeFits (find test sockets)
  found_fits test [] f = tt
  found_fits test (m ∷ rest) f = found_by (test m) m (find test rest) f.0 (found_fits test rest f.1)

  named_fits : (own : Own) (name : Option ℕ) → Each MineFits own.sockets → SomeFits (option_and_then (λ n. find (is_named n) own.sockets) name)
  named_fits own None f = tt
  named_fits own (Some n) f = found_fits (is_named n) own.sockets f

  opened : (own : Own) (label : List ℕ) → Each MineFits own.sockets → SomeFits (open_socket own label)
  opened own label f = named_fits own (name_of own label) f

  search_ports : (given left : ℕ) (own : Own) → OwnFits given left own → (first : First) → Ports (ports_of own.offsets first)
  search_ports given left own f first = ports_fit own.offsets.range (subst RangeFits (sym f.range_is) ranged) (offset_of own.offsets) first

  longer : (given left : ℕ) (own : Own) → OwnFits given left own → OwnFits (given + 0) (left + 1) own
  longer given left own f = record {
    number_is = f.number_is;
    given_is = omega (arith, f.given_is);
    range_is = f.range_is;
    sockets = f.sockets;
    waits = omega (arith, f.waits);
  }

  -- what a command leaves, and its reply
  abbrev pub Leaves : Command → ℕ → ℕ → Replied → Type 0
  Leaves command given left r = OwnFits (given + gives command) (left + 1) r.own × IsReplyTo command r.reply

  abbrev GoodPlan : (Replied → Type 0) → Asking Replied → Type 0
  GoodPlan Q p = Asked (IsGood number count) Q p

  searched : (began : Bool) (given left : ℕ) (own : Own) → OwnFits given left own → OwnFits given left (after_search began own)
  searched true given left own f = record { number_is = f.number_is; given_is = f.given_is; range_is = range_past own.offsets ∙ f.range_is; sockets = f.sockets; waits = f.waits }
  searched false given left own f = f

  one_replaced : (b : Bool) (new m : Mine) → MineFits new → MineFits m → MineFits (if b then new else m)
  one_replaced true new m f g = f
  one_replaced false new m f g = g

  with_socket_fits : (given left : ℕ) (own : Own) (m : Mine) → OwnFits given left own → MineFits m → OwnFits given left (with_socket own m)
  with_socket_fits given left own m f g = record {
    number_is = f.number_is;
    given_is = f.given_is;
    range_is = f.range_is;
    sockets = each_map MineFits (replaced m) own.sockets (each_weaken MineFits (λ x. MineFits (replaced m x)) own.sockets (λ x h. one_replaced (is_named m.owner.name x) m x g h) f.sockets);
    waits = f.waits;
  }

  with_new_fits : (given left : ℕ) (own : Own) (m : Mine) → OwnFits given left own → MineFits m → OwnFits given left (with_new own m)
  with_new_fits given left own m f g = record {
    number_is = f.number_is;
    given_is = f.given_is;
    range_is = f.range_is;
    sockets = each_append MineFits own.sockets (m ∷ []) f.sockets (g, tt);
    waits = f.waits;
  }

  with_label_fits : (given left : ℕ) (own : Own) (label : List ℕ) → OwnFits given left own → OwnFits (given + 1) left (with_label own label)
  with_label_fits given left own label f = record {
    number_is = f.number_is;
    given_is = omega (arith, length-append own.labels (label ∷ []), f.given_is);
    range_is = f.range_is;
    sockets = f.sockets;
    waits = f.waits;
  }

  more_left : (given left : ℕ) (own : Own) → OwnFits given left own → OwnFits given (left + 1) own
  more_left given left own f = record { number_is = f.number_is; given_is = f.given_is; range_is = f.range_is; sockets = f.sockets; waits = omega (arith, f.waits) }

  without_fits : (given left name : ℕ) (own : Own) → OwnFits given left own → OwnFits given left (without own name)
  without_fits given left name own f = record {
    number_is = f.number_is;
    given_is = f.given_is;
    range_is = f.range_is;
    sockets = each_filter MineFits (λ m. not (is_named name m)) own.sockets f.sockets;
    waits = f.waits;
  }

  bind_refused : (e : OpEnd) → RefusalFits number count e → ReplyFits (bind_error e)
  bind_refused (errors.InUse name) h = tt
  bind_refused errors.NoPort h = tt
  bind_refused errors.GroupFull h = tt
  bind_refused errors.GroupsFull h = tt
  bind_refused (errors.Full owned held) h = h
  bind_refused _ h = tt

  connect_refused : (e : OpEnd) → RefusalFits number count e → ReplyFits (connect_error e)
  connect_refused (errors.Taken name) h = tt
  connect_refused errors.NoPort h = tt
  connect_refused errors.IsConn h = tt
  connect_refused (errors.Full owned held) h = h
  connect_refused _ h = tt

  abbrev Kept : ℕ → ℕ → Replied → Type 0
  Kept given left r = OwnFits (given + 0) (left + 1) r.own × ReplyFits r.reply

  bind_replied : (given left : ℕ) (own : Own) → OwnFits given left own → (did : Did) → DidFits number count did → Kept given left (bind_reply own did)
  bind_replied given left own f (done m) h = (longer given left (with_socket own m) (with_socket_fits given left own m f h), h.local.port)
  bind_replied given left own f (refused end) h = (longer given left own f, bind_refused end h)

  connect_replied : (given left : ℕ) (own : Own) → OwnFits given left own → (did : Did) → DidFits number count did → Kept given left (connect_reply own did)
  connect_replied given left own f (done m) h = (longer given left (with_socket own m) (with_socket_fits given left own m f h), h.local)
  connect_replied given left own f (refused end) h = (longer given left own f, connect_refused end h)

  accept_replied : (given left : ℕ) (own : Own) → OwnFits given left own → (did : Did) → DidFits number count did → OwnFits given (left + 1) (accept_reply own did).own × ReplyFits (accept_reply own did).reply
  accept_replied given left own f (done m) h = (more_left given left (with_new own m) (with_new_fits given left own m f h), tt)
  accept_replied given left own f (refused end) h = (more_left given left own f, connect_refused end h)

  ack_replied : (given left name : ℕ) (own : Own) → OwnFits given left own → (did : Did) → DidFits number count did → OwnFits given (left + 1) (ack_reply own name did).own × ReplyFits (ack_reply own name did).reply
  ack_replied given left name own f (done m) h =
      (more_left given left (with_new (without own name) m) (with_new_fits given left (without own name) m (without_fits given left name own f) h), tt)
  ack_replied given left name own f (refused end) h = (more_left given left own f, connect_refused end h)

  with_wait_fits : (given left : ℕ) (own : Own) (w : Mine) → OwnFits given left own → OwnFits (given + 0) (left + 1) (with_wait own w)
  with_wait_fits given left own w f = record {
    number_is = f.number_is;
    given_is = omega (arith, f.given_is);
    range_is = f.range_is;
    sockets = f.sockets;
    waits = omega (arith, length-append own.waits (w ∷ []), f.waits);
  }

  close_replied : (given left name : ℕ) (own : Own) → OwnFits given left own → (closed : Closed) → ClosedFits number count closed → Kept given left (close_reply own name closed)
  close_replied given left name own f gone h = (longer given left (without own name) (without_fits given left name own f), tt)
  close_replied given left name own f (waiting w) h = (with_wait_fits given left (without own name) w (without_fits given left name own f), tt)
  close_replied given left name own f (no_slot owned held) h = (longer given left (without own name) (without_fits given left name own f), h)

  bind_plan : (given left : ℕ) (own : Own) → OwnFits given left own → (o : Option Mine) → SomeFits o → (end : End) → EndIn end.addr end.port → GoodPlan (Kept given left) (bind_command own o end)
  bind_plan given left own f None h end e = (longer given left own f, tt)
  bind_plan given left own f (Some m) h end e =
      let began = searches_port m.owner end in
      asked_then (IsGood number count) (DidFits number count) (Kept given left) (bind m end (ports_of own.offsets firsts.Odd)) (λ did. ends (bind_reply (after_search began own) did))
      (bind_fits number count m end (ports_of own.offsets firsts.Odd) h e (search_ports given left own f firsts.Odd))
      (bind_replied given left (after_search began own) (searched began given left own f))

  listen_plan : (given left : ℕ) (own : Own) → OwnFits given left own → (o : Option Mine) → SomeFits o → GoodPlan (Kept given left) (listen_command header own o)
  listen_plan given left own f None h = (longer given left own f, tt)
  listen_plan given left own f (Some m) h =
      asked_then (IsGood number count) (DidFits number count) (Kept given left) (listen header.shape header.seed m (ports_of own.offsets firsts.Odd)) _
      (listen_fits number count header.shape header.seed m (ports_of own.offsets firsts.Odd) h (search_ports given left own f firsts.Odd))
      (bind_replied given left _ (searched _ given left own f))

  source_in : (from : Option ℕ) → SourceFits from → SourceIn number count header.shape header.seed from
  source_in None f = tt
  source_in (Some source) f = f

  connect_plan : (given left : ℕ) (own : Own) → OwnFits given left own → (o : Option Mine) → SomeFits o → (from : Option ℕ) (to : End) → SourceFits from → EndIn to.addr to.port → GoodPlan (Kept given left) (connect_command header own o from to)
  connect_plan given left own f None h from to s e = (longer given left own f, tt)
  connect_plan given left own f (Some m) h from to s e =
      asked_then (IsGood number count) (DidFits number count) (Kept given left) (connect header.shape header.seed m from to own.moment (connect_rule header) (ports_of own.offsets firsts.Even)) _
      (connect_fits number count header.shape header.seed m from to own.moment (connect_rule header) (ports_of own.offsets firsts.Even) h (source_in from s) e (search_ports given left own f firsts.Even))
      (connect_replied given left _ (searched _ given left own f))

  accept_plan : (given left : ℕ) (own : Own) → OwnFits given left own → (name : ℕ) → IsNamed number count name → (o : Option Mine) → SomeFits o → (from at : End) → EndIn from.addr from.port → EndIn at.addr at.port
      → GoodPlan (λ r. OwnFits given (left + 1) r.own × ReplyFits r.reply) (accept_command header own name o from at)
  accept_plan given left own f name n None h from at e k = (more_left given left own f, tt)
  accept_plan given left own f name n (Some l) h from at e k =
      asked_then (IsGood number count) (DidFits number count) (λ r. OwnFits given (left + 1) r.own × ReplyFits r.reply) (accept header.shape header.seed l name own.mark from at) _
      (accept_fits number count header.shape header.seed l name own.mark from at h n e k)
      (accept_replied given left own f)

  syn_plan : (given left : ℕ) (own : Own) → OwnFits given left own → (name : ℕ) → IsNamed number count name → (o : Option Mine) → SomeFits o → (from at : End) → EndIn from.addr from.port → EndIn at.addr at.port
      → GoodPlan (λ r. OwnFits given (left + 1) r.own × ReplyFits r.reply) (syn_command header own name o from at)
  syn_plan given left own f name n None h from at e k = (more_left given left own f, tt)
  syn_plan given left own f name n (Some l) h from at e k =
      asked_then (IsGood number count) (DidFits number count) (λ r. OwnFits given (left + 1) r.own × ReplyFits r.reply) (syn header.shape header.seed l name own.mark from at) _
      (syn_fits number count header.shape header.seed l name own.mark from at h n e k)
      (accept_replied given left own f)

  ack_plan : (given left : ℕ) (own : Own) → OwnFits given left own → (name : ℕ) → IsNamed number count name → (o : Option Mine) → SomeFits o
      → GoodPlan (λ r. OwnFits given (left + 1) r.own × ReplyFits r.reply) (ack_command header own name o)
  ack_plan given left own f name n None h = (more_left given left own f, tt)
  ack_plan given left own f name n (Some r) h =
      let from = open_named own r.owner.origin in
      asked_then (IsGood number count) (DidFits number count) (λ a. OwnFits given (left + 1) a.own × ReplyFits a.reply) (ack header.shape header.seed r from name own.mark) _
      (ack_fits number count header.shape header.seed r from name own.mark h (found_fits (is_named r.owner.origin) own.sockets f.sockets) n)
      (ack_replied given left r.owner.name own f)

  close_plan : (given left : ℕ) (own : Own) → OwnFits given left own → (o : Option Mine) → SomeFits o → GoodPlan (Kept given left) (close_command header own o)
  close_plan given left own f None h = (longer given left own f, tt)
  close_plan given left own f (Some m) h =
      asked_then (IsGood number count) (ClosedFits number count) (Kept given left) (close header.shape header.seed m own.moment) _
      (close_fits number count header.shape header.seed m own.moment h)
      (close_replied given left m.owner.name own f)

  drop_plan : (given left : ℕ) (own : Own) → OwnFits given left own → (o : Option Mine) → SomeFits o → GoodPlan (Kept given left) (drop_command own o)
  drop_plan given left own f None h = (longer given left own f, tt)
  drop_plan given left own f (Some m) h =
      drop_fits number count (Kept given left) m (answers (without own m.owner.name) replies.Ok) (longer given left (without own m.owner.name) (without_fits given left m.owner.name own f), tt)

  at_plan : (given left : ℕ) (own : Own) → OwnFits given left own → (moment : ℕ) → GoodPlan (Kept given left) (at_command own moment)
  at_plan given left own f moment =
      tries_if (asking (IsGood number count)) (λ s. Kept given left) tt (nat_lt moment own.moment) (replies_at_once own replies.Einval) (replies_at_once (record own { moment = moment }) replies.Ok)
      (longer given left own f, tt)
      (longer given left (record own { moment = moment }) (record { number_is = f.number_is; given_is = f.given_is; range_is = f.range_is; sockets = f.sockets; waits = f.waits }), tt)

  reaped_own : (given left : ℕ) (own : Own) → OwnFits given left own → OwnFits given left (record own { waits = kept_waits own.waits own.moment })
  reaped_own given left own f = record {
    number_is = f.number_is;
    given_is = f.given_is;
    range_is = f.range_is;
    sockets = f.sockets;
    waits = omega (arith, f.waits, shorter (λ w. not (is_over own.moment w)) own.waits);
  }

  reap_plan : (given left : ℕ) (own : Own) → OwnFits given left own → left < 2 ^ 64 → GoodPlan (Leaves commands.Reap given left) (reap_command own)
  reap_plan given left own f l =
      asked_then (IsGood number count) (λ (n : ℕ). n ≤ left) (Leaves commands.Reap given left) (reap own.waits own.moment) _
      (reap_fits number count own.waits own.moment left f.waits)
      (λ n h. (longer given left (record own { waits = kept_waits own.waits own.moment }) (reaped_own given left own f), omega (arith, h, l)))

  next_named : (given left : ℕ) (own : Own) → OwnFits given left own → given + 1 ≤ count → IsNamed number count (next_name own)
  next_named given left own f l = record {
    place = length own.labels;
    below = omega (arith, f.given_is);
    is = ap (λ n. name_at n (length own.labels)) f.number_is;
  }

  new_fits : (given left : ℕ) (own : Own) (options : Options) → OwnFits given left own → given + 1 ≤ count → DeviceFits options.dev → NamespaceFits options.net → MineFits (plain (new_owner (next_name own) own.mark options))
  new_fits given left own options f l d n = record {
    local = record { addr = omega arith; port = omega arith };
    remote = record { addr = omega arith; port = omega arith };
    dev = device_below options.dev d;
    net = namespace_below options.net n;
    named = next_named given left own f l;
  }

  socket_plan : (given left : ℕ) (own : Own) (label : List ℕ) (options : Options) → OwnFits given left own → given + 1 ≤ count → DeviceFits options.dev → NamespaceFits options.net → GoodPlan (Leaves (commands.Socket label options) given left) (socket_command own label options)
  socket_plan given left own label options f l d n = (
    more_left (given + 1) left _ (with_new_fits (given + 1) left (with_label own label) (plain (new_owner (next_name own) own.mark options)) (with_label_fits given left own label f) (new_fits given left own options f l d n)),
    tt,
  )

  pub plan_fits : (given left : ℕ) (own : Own) (command : Command) → OwnFits given left own → CommandFits command → given + gives command ≤ count → left < 2 ^ 64 → GoodPlan (Leaves command given left) (plan header own command)
  unfolding plan
  plan_fits given left own (commands.Socket label options) f c l m = socket_plan given left own label options f l c.3 c.1
  plan_fits given left own (commands.Bind label end) f c l m = bind_plan given left own f (open_socket own label) (opened own label f.sockets) end (record { addr = c.1.0; port = c.1.1 })
  plan_fits given left own (commands.Listen label) f c l m = listen_plan given left own f (open_socket own label) (opened own label f.sockets)
  plan_fits given left own (commands.Connect label from to) f c l m = connect_plan given left own f (open_socket own label) (opened own label f.sockets) from to c.1 (record { addr = c.2.0; port = c.2.1 })
  plan_fits given left own (commands.Accept listener label from at) f c l m =
      accept_plan (given + 1) left (with_label own label) (with_label_fits given left own label f) (next_name own) (next_named given left own f l) (open_socket own listener) (opened own listener f.sockets) from at
      (record { addr = c.2.0; port = c.2.1 }) (record { addr = c.3.0; port = c.3.1 })
  plan_fits given left own (commands.Syn listener label from at) f c l m =
      syn_plan (given + 1) left (with_label own label) (with_label_fits given left own label f) (next_name own) (next_named given left own f l) (open_socket own listener) (opened own listener f.sockets) from at
      (record { addr = c.2.0; port = c.2.1 }) (record { addr = c.3.0; port = c.3.1 })
  plan_fits given left own (commands.Ack request label) f c l m =
      ack_plan (given + 1) left (with_label own label) (with_label_fits given left own label f) (next_name own) (next_named given left own f l) (open_socket own request) (opened own request f.sockets)
  plan_fits given left own (commands.Close label) f c l m = close_plan given left own f (open_socket own label) (opened own label f.sockets)
  plan_fits given left own (commands.Drop label) f c l m = drop_plan given left own f (open_socket own label) (opened own label f.sockets)
  plan_fits given left own (commands.At moment) f c l m = at_plan given left own f moment
  plan_fits given left own commands.Reap f c l m = reap_plan given left own f m
  plan_fits given left own (commands.Look query) f c l m = tt
  plan_fits given left own (commands.Packets n) f c l m = tt
  plan_fits given left own commands.Dump f c l m = (longer given left own f, refl)
