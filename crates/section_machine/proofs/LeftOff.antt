-- What a command leaves that is left off.
use Rattle.std.proofs.Common.{◌≡◌, ◌&&◌, ℕ, Bool, true, false, cond, List, filter, [], ◌∷◌, Option, Some, Err, inl, inr, refl, sym, ap, ◌∙◌, subst, append-nil}
use Rattle.std.specs.Option.{option_map, option_map_or}
use Rattle.turn_table.specs.declared.note.Placed.{Placed}
use Rattle.bind_buckets.specs.declared.request.Entry.{Entry}
use Rattle.bind_buckets.specs.Turned.{View, Gave}
use Rattle.chain_book.specs.declared.shape.Shape.{Shape}
use Rattle.sock_ops.specs.Sides.{Side}
use Rattle.flat_list.specs.declared.command.Command.{Command}
use Rattle.flat_list.specs.declared.command.Command.TheVariants as commands
use Rattle.flat_list.specs.declared.command.End.{End}
use Rattle.flat_list.specs.declared.command.Reply.TheVariants as replies
use Rattle.flat_list.specs.declared.owned.Options.{Options}
use Rattle.flat_list.specs.declared.header.First.TheVariants as firsts
use Rattle.flat_list.specs.declared.header.Header.{Header}
use Rattle.port_search.proofs.TurnSearch.{gave_none}
use Rattle.race_record.specs.Deeds.{Deed, entered, inserted, added, left, reaped, entries_in}
use Rattle.table_model.specs.declared.operation.OpEnd.{OpEnd}
use Rattle.table_model.specs.declared.operation.Cause.{Cause}
use Rattle.table_model.specs.declared.operation.OpEnd.TheVariants as errors
use Rattle.table_model.specs.Asking.{Asking, ends, asks, inserts, adds, unhashes, reaps, impossible, and_then}
use Rattle.table_model.specs.Own.{Own, Mine, Offsets, open_socket, open_named as socket_of, with_label, without, next_name, is_over, ports_of}
use Rattle.table_model.specs.Operations as plans
use Rattle.table_model.specs.Operations.{Did, refused, kept_waits}
use Rattle.table_model.specs.Commands.{Replied, answers, plan, bind_command, bind_reply, listen_command, connect_command, connect_reply, connect_rule, accept_command, syn_command, accept_reply, ack_command, ack_reply, close_command, close_reply, drop_command, after_search, searches_port, is_unbound, is_some}
use Rattle.sock_ops.specs.declared.sock.Sock.{Sock}
use Rattle.sock_ops.specs.declared.tables.Tables.{Tables}
use Rattle.sock_ops.specs.declared.tables.Worker.{Worker}
use Rattle.sock_ops.specs.Goes as ops
use Rattle.sock_ops.specs.Goes.{Carried, CarriedOut, IsUndecided}
use Rattle.sock_ops.specs.Leads.{Leads}
use Rattle.sock_ops.specs.Socks.{mine_of}
use Rattle.sock_ops.specs.Stands.{buckets_of, turned, chained}
use Rattle.sock_ops.proofs.Goes.{carried_out, does_none}
use Rattle.section_machine.specs.LeftOff.{IsLeftOff, Leaves, LacksLabel, GivesLabel, GivesBack, StopsReaping, speaker, socket_name, is_of_socket, IsUntouched}
use Rattle.section_machine.specs.Places.{Labelled, Takes, own_of, with_given, with_place, named_by}
use Rattle.section_machine.specs.Searches as searches
use Rattle.section_machine.specs.Sections.{Kept, kept}
use Rattle.section_machine.specs.Waits.{first_over}
use Rattle.section_machine.specs.Standing.{AreOf}
use Rattle.section_machine.proofs.Ended.{drop_then}
use Rattle.section_machine.proofs.Owns.{label_given, put_same}
use Rattle.section_machine.proofs.Places.{open_named}
use Rattle.section_machine.proofs.Reaps.{heads}
use Rattle.section_machine.proofs.Settled.{Before, began_as}

-- a plan that goes on so goes on so where another follows it
pub leads_then : {R S : Type 0} (next : R → Asking S) (p rest : Asking R) (deeds : List Deed) → Leads p deeds rest → Leads (and_then p next) deeds (and_then rest next)
leads_then next p rest [] l = ap (λ q. and_then q next) l
leads_then next (asks port request then_) rest (entered key note ∷ deeds) l =
    (and_then l.0 next, (l.1.0, l.1.1, ap (λ q. and_then q next) l.1.2), leads_then next l.0 rest deeds l.2)
leads_then next (inserts card moment rule then_) rest (inserted wish tried ∷ deeds) l =
    (and_then l.0 next, (l.1.0, l.1.1, ap (λ q. and_then q next) l.1.2), leads_then next l.0 rest deeds l.2)
leads_then next (adds card then_) rest (added c tried ∷ deeds) l =
    (and_then l.0 next, (l.1.0, l.1.1, ap (λ q. and_then q next) l.1.2), leads_then next l.0 rest deeds l.2)
leads_then next (unhashes place card then_) rest (left u ∷ deeds) l =
    (and_then l.0 next, (l.1.0, ap (λ q. and_then q next) l.1.1), leads_then next l.0 rest deeds l.2)
leads_then next (reaps card then_) rest (reaped c unhash ∷ deeds) l =
    (and_then l.0 next, (l.1.0, l.1.1, ap (λ q. and_then q next) l.1.2), leads_then next l.0 rest deeds l.2)
leads_then next p rest (deed ∷ deeds) l = absurd l.1

-- and so is what is left of it
undecided_then : {R S : Type 0} (next : R → Asking S) (rest : Asking R) (back : List (Placed Entry)) → IsUndecided rest back → IsUndecided (and_then rest next) back
undecided_then next (ends r) back is = absurd is
undecided_then next (asks port request then_) back is = is
undecided_then next (inserts card moment rule then_) back is = tt
undecided_then next (adds card then_) back is = tt
undecided_then next (unhashes place card then_) back is = tt
undecided_then next (reaps card then_) back is = tt
undecided_then next impossible back is = absurd is

-- an operation that was left off
pub op_off : {X R : Type 0} (did : X → R) (not_done : OpEnd → R) (count name : ℕ) (p : Asking R) (v u : View) (c d : Side) (end : OpEnd) (cause : Cause) → end ≡ errors.LeftOff cause → CarriedOut did not_done count name p v u c d (Err end) → ops.LeftOff count name p v u c d
op_off did not_done count name p v u c d end cause is h =
    subst (λ (e : OpEnd). CarriedOut did not_done count name p v u c d (Err e)) is h

-- a plan by the shape, the seed and the buckets of tables that are the header's
pub left_by_header : {R : Type 0} (header : Header) (t : Tables) (f : Shape → ℕ → Asking R) (name : ℕ) (v u : View) (c d : Side) → AreOf header t
    → ops.LeftOff (buckets_of t) name (f t.chains.layout.shape t.chains.layout.seed) v u c d → ops.LeftOff header.shape.bind name (f header.shape header.seed) v u c d
left_by_header header t f name v u c d are off =
    subst (λ (n : ℕ). ops.LeftOff n name (f header.shape header.seed) v u c d) are.buckets
    (subst (λ (n : ℕ). ops.LeftOff (buckets_of t) name (f header.shape n) v u c d) are.seed
    (subst (λ (x : Shape). ops.LeftOff (buckets_of t) name (f x t.chains.layout.seed) v u c d) are.shape off))

-- an operation on a socket, whose plan is that by the tables' shape and seed
pub off_out : {X : Type 0} (did : X → Did) (header : Header) (t : Tables) (f : Shape → ℕ → Asking Did) (p : Asking Did) (name : ℕ) (v u : View) (c d : Side) (end : OpEnd) (cause : Cause) → AreOf header t → p ≡ f t.chains.layout.shape t.chains.layout.seed → end ≡ errors.LeftOff cause
    → CarriedOut did refused (buckets_of t) name p v u c d (Err end) → ops.LeftOff header.shape.bind name (f header.shape header.seed) v u c d
off_out did header t f p name v u c d end cause are same is carried =
    left_by_header header t f name v u c d are
    (subst (λ (q : Asking Did). ops.LeftOff (buckets_of t) name q v u c d) same (op_off did refused (buckets_of t) name p v u c d end cause is carried))

pub off_as : {X : Type 0} (did : X → Did) (header : Header) (t : Tables) (f : Shape → ℕ → Asking Did) (p : Asking Did) (name : ℕ) (v u : View) (c d : Side) (end : OpEnd) (cause : Cause) → AreOf header t → p ≡ f t.chains.layout.shape t.chains.layout.seed → end ≡ errors.LeftOff cause
    → Carried did refused (buckets_of t) p v u c d (Err end) → ops.LeftOff header.shape.bind name (f header.shape header.seed) v u c d
off_as did header t f p name v u c d end cause are same is carried =
    off_out did header t f p name v u c d end cause are same is (carried_out did refused (buckets_of t) name p v u c d (Err end) carried)

-- nothing was asked, and nothing done
pub untouched : (t : Tables) (k new : Kept) (command : Command) (w : Worker) → ((n : ℕ) → GivesBack n (speaker k.own command) []) → LacksLabel k.own command [] [] new.own → Leaves k.own command [] [] new.own → IsLeftOff t k command new w w
untouched t k new command w gives lacks leaves =
    record {
      rest = plan k.header k.own command;
      deeds = [];
      leads = refl;
      back = [];
      gives = gives k.header.shape.bind;
      gave = gave_none (turned w);
      does = does_none (chained t w);
      still = λ other. refl;
      undecided = inr lacks;
      leaves = leaves;
    }

-- an operation's plan is left off, and so the command's
pub op_left : {R : Type 0} (t : Tables) (header : Header) (own new : Own) (command : Command) (w u : Worker) (p : Asking R) (next : R → Asking Replied) (name : ℕ) → plan header own command ≡ and_then p next → speaker own command ≡ Some name
    → ((deeds : List Deed) (back : List (Placed Entry)) → Leaves own command deeds back new) → ops.LeftOff header.shape.bind name p (turned w) (turned u) (chained t w) (chained t u) → IsLeftOff t (kept header own) command (kept header new) w u
op_left t header own new command w u p next name is speaks leaves off =
    record {
      rest = and_then off.rest next;
      deeds = off.deeds;
      leads = subst (λ (q : Asking Replied). Leads q off.deeds (and_then off.rest next)) (sym is) (leads_then next p off.rest off.deeds off.leads);
      back = off.back;
      gives = subst (λ (o : Option ℕ). GivesBack header.shape.bind o off.back) (sym speaks) off.gives;
      gave = off.gave;
      does = off.does;
      still = λ other. off.still;
      undecided = inl (undecided_then next off.rest off.back off.undecided);
      leaves = leaves off.deeds off.back;
    }

-- on the socket that a label names, which is put back
module _ (t : Tables) (k : Kept) (header : Header) (l l1 l2 : Labelled) (moment : ℕ) (o o2 : Offsets) (waits : List Mine) (label : List ℕ) (i : ℕ) (s : Sock) (w u : Worker)
    (b : Before k header l moment o waits) (takes : Takes l label l1 i s) (put : l2 ≡ with_place l1 i (Some (mine_of s))) (command : Command) (began : Bool) (drawn : o2 ≡ searches.after_search began o) where
  abbrev own : Own
  own = own_of l moment o waits

  abbrev m : Mine
  m = mine_of s

  abbrev Named : Type 0
  Named = open_socket own label ≡ Some m

  own_then : after_search began own ≡ own_of l2 moment o2 waits
  own_then =
      began_as began l moment o waits
      ∙ (ap (λ (x : Offsets). own_of l moment x waits) (sym drawn)
      ∙ ap (λ (x : Labelled). own_of x moment o2 waits) (sym (put ∙ (ap (λ (x : Labelled). with_place x i (Some m)) takes.after ∙ put_same l i m takes.there))))

  pub socket_left : {R : Type 0} (p : Asking R) (next : R → Asking Replied) → (Named → plan header own command ≡ and_then p next) → (Named → speaker own command ≡ Some m.owner.name)
      → (Named → (deeds : List Deed) (back : List (Placed Entry)) → Leaves own command deeds back (after_search began own))
      → ops.LeftOff header.shape.bind m.owner.name p (turned w) (turned u) (chained t w) (chained t u) → IsLeftOff t k command (kept header (own_of l2 moment o2 waits)) w u
  socket_left p next is speaks leaves off =
      let named : Named = open_named l moment o waits label b.names ∙ takes.named in
      subst (λ (x : Own). IsLeftOff t k command (kept header x) w u) own_then
      (subst (λ (x : Kept). IsLeftOff t x command (kept header (after_search began own)) w u) b.view
      (op_left t header own (after_search began own) command w u p next m.owner.name (is named) (speaks named) (leaves named) off))

-- what a command is by the socket that its label names
module _ (header : Header) (own : Own) (label : List ℕ) (m : Mine) (named : open_socket own label ≡ Some m) where
  pub bind_plan : (end : End) → plan header own (commands.Bind label end) ≡ and_then (plans.bind m end (ports_of own.offsets firsts.Odd)) (λ did. ends (bind_reply (after_search (searches_port m.owner end) own) did))
  unfolding plan
  bind_plan end = ap (λ (x : Option Mine). bind_command own x end) named

  pub listen_plan : plan header own (commands.Listen label) ≡ and_then (plans.listen header.shape header.seed m (ports_of own.offsets firsts.Odd)) (λ did. ends (bind_reply (after_search (is_unbound m.owner.state) own) did))
  unfolding plan
  listen_plan = ap (λ (x : Option Mine). listen_command header own x) named

  pub connect_plan : (from : Option ℕ) (to : End) → plan header own (commands.Connect label from to)
      ≡ and_then (plans.connect header.shape header.seed m from to own.moment (connect_rule header) (ports_of own.offsets firsts.Even)) (λ did. ends (connect_reply (after_search (is_unbound m.owner.state && is_some (plans.source_to m.owner from to)) own) did))
  unfolding plan
  connect_plan from to = ap (λ (x : Option Mine). connect_command header own x from to) named

  pub close_plan : plan header own (commands.Close label) ≡ and_then (plans.close header.shape header.seed m own.moment) (λ closed. ends (close_reply own m.owner.name closed))
  unfolding plan
  close_plan = ap (λ (x : Option Mine). close_command header own x) named

  pub drop_plan : plan header own (commands.Drop label) ≡ and_then (plans.drop m plans.gone) (λ closed. ends (answers (without own m.owner.name) replies.Ok))
  unfolding plan
  drop_plan =
      ap (λ (x : Option Mine). drop_command own x) named
      ∙ sym (drop_then (answers (without own m.owner.name) replies.Ok) m m.owner.state)

  pub its_speaker : socket_name own label ≡ Some m.owner.name
  its_speaker = ap (option_map (λ (x : Mine). x.owner.name)) named

  pub its_search : (test : Mine → Bool) → after_search (test m) own ≡ after_search (is_of_socket test own label) own
  its_search test = ap (λ (x : Option Mine). after_search (option_map_or test x false) own) (sym named)

-- a command that gives a label first
pub record GivesFirst (command : Command) (label : List ℕ) : Type 0 where
  pub speaks : (own : Own) → speaker own command ≡ Some (next_name own)
  pub leaves : (own : Own) (deeds : List Deed) (back : List (Placed Entry)) (next : Own) → GivesLabel own label deeds back next → Leaves own command deeds back next
  pub lacks : (own : Own) (deeds : List Deed) (back : List (Placed Entry)) (next : Own) → IsUntouched own deeds back next → LacksLabel own command deeds back next

pub accept_gives : (listener label : List ℕ) (from at : End) → GivesFirst (commands.Accept listener label from at) label
accept_gives listener label from at = record { speaks = λ own. refl; leaves = λ own deeds back next h. h; lacks = λ own deeds back next h. h }

pub syn_gives : (listener label : List ℕ) (from at : End) → GivesFirst (commands.Syn listener label from at) label
syn_gives listener label from at = record { speaks = λ own. refl; leaves = λ own deeds back next h. h; lacks = λ own deeds back next h. h }

pub ack_gives : (request label : List ℕ) → GivesFirst (commands.Ack request label) label
ack_gives request label = record { speaks = λ own. refl; leaves = λ own deeds back next h. h; lacks = λ own deeds back next h. h }

-- what it is by the socket that its other label names
module _ (header : Header) (own : Own) (m : Mine) (name label : List ℕ) (named : open_socket own name ≡ Some m) where
  pub accept_plan : (from at : End) → plan header own (commands.Accept name label from at) ≡ and_then (plans.accept header.shape header.seed m (next_name own) own.mark from at) (λ did. ends (accept_reply (with_label own label) did))
  unfolding plan
  accept_plan from at =
      ap (λ (x : Option Mine). accept_command header (with_label own label) (next_name own) x from at) named

  pub syn_plan : (from at : End) → plan header own (commands.Syn name label from at) ≡ and_then (plans.syn header.shape header.seed m (next_name own) own.mark from at) (λ did. ends (accept_reply (with_label own label) did))
  unfolding plan
  syn_plan from at =
      ap (λ (x : Option Mine). syn_command header (with_label own label) (next_name own) x from at) named

  pub ack_plan : plan header own (commands.Ack name label)
      ≡ and_then (plans.ack header.shape header.seed m (socket_of (with_label own label) m.owner.origin) (next_name own) own.mark) (λ did. ends (ack_reply (with_label own label) m.owner.name did))
  unfolding plan
  ack_plan = ap (λ (x : Option Mine). ack_command header (with_label own label) (next_name own) x) named

-- and then memory is wanting
module _ {command : Command} {label : List ℕ} (first : GivesFirst command label) (t : Tables) (k : Kept) (header : Header) (l l1 : Labelled) (moment : ℕ) (o : Offsets) (waits : List Mine) (w : Worker)
    (b : Before k header l moment o waits) where
  abbrev its_own : Own
  its_own = own_of l moment o waits

  -- for its operation
  pub label_left : (of : List ℕ) (m : Mine) (p : Asking Did) (next : Did → Asking Replied) (u : Worker) → l1 ≡ with_given l label → named_by l of ≡ Some m → (open_socket its_own of ≡ Some m → plan header its_own command ≡ and_then p next)
      → ops.LeftOff header.shape.bind (next_name its_own) p (turned w) (turned u) (chained t w) (chained t u) → IsLeftOff t k command (kept header (own_of l1 moment o waits)) w u
  label_left of m p next u given named is off =
      subst (λ (x : Kept). IsLeftOff t x command (kept header (own_of l1 moment o waits)) w u) b.view
      (op_left t header its_own (own_of l1 moment o waits) command w u p next (next_name its_own)
      (is (open_named l moment o waits of b.names ∙ named)) (first.speaks its_own)
      (λ deeds back. first.leaves its_own deeds back (own_of l1 moment o waits) (inl (sym (label_given l l1 label moment o waits given))))
      off)

  -- or for its label
  pub no_label : l1 ≡ l → IsLeftOff t k command (kept header (own_of l1 moment o waits)) w w
  no_label same =
      let same_own : own_of l1 moment o waits ≡ its_own = ap (λ (x : Labelled). own_of x moment o waits) same in
      let none : IsUntouched its_own [] [] (own_of l1 moment o waits) = record { none = refl; nor_back = refl; same = same_own } in
      subst (λ (x : Kept). IsLeftOff t x command (kept header (own_of l1 moment o waits)) w w) b.view
      (untouched t (kept header its_own) (kept header (own_of l1 moment o waits)) command w
      (λ n. subst (λ (s : Option ℕ). GivesBack n s []) (sym (first.speaks its_own)) tt)
      (first.lacks its_own [] [] (own_of l1 moment o waits) none)
      (first.leaves its_own [] [] (own_of l1 moment o waits) (inr none)))

-- the first of these TIME_WAITs is to be reaped yet
asks_by : (moment n : ℕ) (over : Bool) (w : Mine) (rest : List Mine) → over ≡ true → IsUndecided (plans.reap_each (cond over (w ∷ rest) rest) n) []
asks_by moment n true w rest is = tt
asks_by moment n false w rest is = absurd (cc)

asks_on : (moment n : ℕ) (waits : List Mine) (w : Mine) → first_over moment waits ≡ Some w → IsUndecided (plans.reap_each (filter (is_over moment) waits) n) []
asks_on moment n waits w first =
    let h = heads moment waits w first in
    subst (λ (ws : List Mine). IsUndecided (plans.reap_each (filter (is_over moment) ws) n) []) (sym h.is)
    (asks_by moment n (is_over moment w) w (filter (is_over moment) h.rest) h.over)

-- TIME_WAITs are reaped up to one at which memory is wanting
module _ (t : Tables) (header : Header) (l : Labelled) (moment : ℕ) (o : Offsets) (waits after : List Mine) (w u : Worker) where
  abbrev the_own : Own
  the_own = own_of l moment o waits

  abbrev reaped_all : ℕ → Asking Replied
  reaped_all n = ends (answers (record the_own { waits = kept_waits waits moment }) (replies.Count n))

  reap_plan : plan header the_own commands.Reap ≡ and_then (plans.reap waits moment) reaped_all
  unfolding plan
  reap_plan = refl

  -- so far, and so many of those were still there
  abbrev pub ReapsSoMany : ℕ → Kept → Type 0
  ReapsSoMany n k = (left : IsLeftOff t k commands.Reap (kept header (own_of l moment o after)) w u) × (left.leaves.count ≡ n)

  abbrev StopsAt : (count n : ℕ) → Type 0
  StopsAt count n = (s : StopsReaping count waits moment (turned w) (turned u) (chained t w) (chained t u) after) × (s.reaped ≡ n)

  reaps_left : (s : StopsReaping header.shape.bind waits moment (turned w) (turned u) (chained t w) (chained t u) after) → ReapsSoMany s.reaped (kept header the_own)
  reaps_left s =
      let rest = plans.reap_each (filter (is_over moment) after) s.reaped in (
        record {
          rest = and_then rest reaped_all;
          deeds = s.went.deeds;
          leads = subst (λ (q : Asking Replied). Leads q s.went.deeds (and_then rest reaped_all)) (sym reap_plan) (leads_then reaped_all (plans.reap waits moment) rest s.went.deeds s.went.leads);
          back = [];
          gives = refl;
          gave = subst (Gave (turned w) (turned u)) (sym (append-nil (entries_in header.shape.bind s.went.deeds))) s.went.gave;
          does = s.went.does;
          still = λ other. absurd (other refl);
          undecided = inl (undecided_then reaped_all rest [] (asks_on moment s.reaped after s.front.at s.front.first));
          leaves = record { front = s.front; count = s.reaped; reaps = s.went.leads; rest = refl };
        },
        refl,
      )

  pub reap_left_behind : (k : Kept) → kept header the_own ≡ k → AreOf k.header t → (n : ℕ) (s : StopsReaping (buckets_of t) waits moment (turned w) (turned u) (chained t w) (chained t u) after) → s.reaped ≡ n → ReapsSoMany n k
  reap_left_behind k view are n s many =
      let its : AreOf header t = subst (λ (x : Kept). AreOf x.header t) (sym view) are in
      let stops : StopsAt header.shape.bind n = subst (λ (count : ℕ). StopsAt count n) its.buckets (s, many) in
      let left = reaps_left stops.0 in
      subst (ReapsSoMany n) view (left.0, left.1 ∙ stops.1)

  pub reap_left : (k : Kept) → kept header the_own ≡ k → AreOf k.header t → StopsReaping (buckets_of t) waits moment (turned w) (turned u) (chained t w) (chained t u) after → IsLeftOff t k commands.Reap (kept header (own_of l moment o after)) w u
  reap_left k view are s = (reap_left_behind k view are s.reaped s refl).0

-- a socket whose label isn't given
pub made_none : (t : Tables) (old new : Kept) (label : List ℕ) (options : Options) (w : Worker) → new ≡ old → IsLeftOff t old (commands.Socket label options) new w w
made_none t old new label options w same =
    untouched t old new (commands.Socket label options) w (λ n. refl)
    (record { none = refl; nor_back = refl; same = ap (λ (x : Kept). x.own) same })
    (ap (λ (x : Kept). x.own) same)
