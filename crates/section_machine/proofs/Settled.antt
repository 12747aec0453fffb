-- What a command comes to, by the operation on the socket that its label names.
use Rattle.std.proofs.Common.{◌≡◌, ℕ, Bool, true, false, List, [], ◌++◌, Option, Some, None, Result, Ok, Err, refl, sym, ap, ◌∙◌, subst, append-nil}
use Rattle.std.specs.Prelude.{OnErr}
use Rattle.list_words.specs.Lists.{Each}
use Rattle.sock_card.specs.declared.owner.State.{State}
use Rattle.sock_card.specs.declared.owner.State.TheVariants as states
use Rattle.chain_book.specs.declared.shape.Shape.{Shape}
use Rattle.turn_table.specs.declared.note.Placed.{Placed}
use Rattle.turn_table.specs.Passes as words
use Rattle.bind_buckets.specs.declared.request.Entry.{Entry}
use Rattle.bind_buckets.specs.Turned.{View, Gave}
use Rattle.flat_list.specs.declared.header.Header.{Header}
use Rattle.flat_list.specs.declared.command.Reply.{Reply}
use Rattle.flat_list.specs.declared.command.Reply.TheVariants as replies
use Rattle.flat_list.specs.Sections.{name_at}
use Rattle.sock_ops.specs.Made.{Does}
use Rattle.sock_ops.specs.Sides.{Side}
use Rattle.port_search.proofs.TurnSearch.{gave_none}
use Rattle.race_record.specs.Deeds.{Deed, entries_in}
use Rattle.race_record.specs.Goes.{Goes}
use Rattle.race_record.proofs.Turns.{in_turn}
use Rattle.table_model.specs.declared.operation.OpEnd.{OpEnd}
use Rattle.table_model.specs.declared.operation.OpEnd.TheVariants as errors
use Rattle.table_model.specs.Asking.{Asking, ends, and_then}
use Rattle.table_model.specs.Own.{Own, Mine, Offsets, with_socket, open_socket}
use Rattle.table_model.specs.Operations.{Did, done, refused}
use Rattle.table_model.specs.Commands.{Replied, answers, after_search}
use Rattle.sock_ops.specs.declared.sock.Sock.{Sock}
use Rattle.sock_ops.specs.declared.sock.Sock.TheVariants as socks
use Rattle.sock_ops.specs.declared.tables.Tables.{Tables}
use Rattle.sock_ops.specs.declared.tables.Worker.{Worker}
use Rattle.sock_ops.specs.Goes as ops
use Rattle.sock_ops.specs.Goes.{Went, Carried, CarriedOut}
use Rattle.sock_ops.specs.Socks.{mine_of, FitsState}
use Rattle.sock_ops.specs.Stands.{IsReady, MayTell, StandsAs, buckets_of, turned, chained}
use Rattle.sock_ops.proofs.Goes.{goes_by, does_none}
use Rattle.section_machine.specs.Carried.{Carries, is_left_off}
use Rattle.section_machine.specs.Places.{Labelled, HaveNames, at_place, those, IsUnnamed, Takes, with_place, own_of}
use Rattle.section_machine.specs.Searches as searches
use Rattle.section_machine.specs.Sections.{Kept, kept}
use Rattle.section_machine.specs.Standing.{Roll, roll_of, IsSection, IsOpen, StandsIn, AreOf, Tells}
use Rattle.section_machine.proofs.Asked.{asked_so, IsAbout, HasName, OnLeft, Named, Keeps}
use Rattle.section_machine.proofs.Owns.{each_there, put_back, put_same}
use Rattle.section_machine.proofs.Places.{open_named}
use Rattle.section_machine.proofs.Rolls.{IsThere, changed}
use Rattle.section_machine.proofs.Stays.{Asks, GoesOn, asks_back, may_tell}

-- a socket stands by its state as by its type
pub stands_typed : (t : Tables) (s : Sock) (v : View) (c : Side) → FitsState s → StandsIn (mine_of s).owner.state t (mine_of s) v c → StandsAs t s v c
stands_typed t (socks.Unbound m) v c e h = subst (λ (state : State). StandsIn state t m v c) e h
stands_typed t (socks.Bound m) v c e h = subst (λ (state : State). StandsIn state t m v c) e h
stands_typed t (socks.Listening m) v c e h = subst (λ (state : State). StandsIn state t m v c) e h
stands_typed t (socks.Full m) v c e h = subst (λ (state : State). StandsIn state t m v c) e h
stands_typed t (socks.Request m) v c e h = subst (λ (state : State). StandsIn state t m v c) e h

pub typed_stands : (t : Tables) (s : Sock) (v : View) (c : Side) → FitsState s → StandsAs t s v c → StandsIn (mine_of s).owner.state t (mine_of s) v c
typed_stands t (socks.Unbound m) v c e h = subst (λ (state : State). StandsIn state t m v c) (sym e) h
typed_stands t (socks.Bound m) v c e h = subst (λ (state : State). StandsIn state t m v c) (sym e) h
typed_stands t (socks.Listening m) v c e h = subst (λ (state : State). StandsIn state t m v c) (sym e) h
typed_stands t (socks.Full m) v c e h = subst (λ (state : State). StandsIn state t m v c) (sym e) h
typed_stands t (socks.Request m) v c e h = subst (λ (state : State). StandsIn state t m v c) (sym e) h

-- a plan by the shape, the seed and the buckets of tables that are the header's
pub of_header : {R : Type 0} (header : Header) (t : Tables) (f : Shape → ℕ → Asking R) (v u : View) (c d : Side) (rest : Asking R) → AreOf header t
    → Went (buckets_of t) (f t.chains.layout.shape t.chains.layout.seed) v u c d rest → Went header.shape.bind (f header.shape header.seed) v u c d rest
of_header header t f v u c d rest are went =
    subst (λ (n : ℕ). Went n (f header.shape header.seed) v u c d rest) are.buckets
    (subst (λ (n : ℕ). Went (buckets_of t) (f header.shape n) v u c d rest) are.seed
    (subst (λ (x : Shape). Went (buckets_of t) (f x t.chains.layout.seed) v u c d rest) are.shape went))

-- a refusal by which nothing was left off
pub refused_went : {X : Type 0} (did : X → Did) (count : ℕ) (p : Asking Did) (v u : View) (c d : Side) (end : OpEnd) → is_left_off end ≡ false → Carried did refused count p v u c d (Err end) → Went count p v u c d (ends (refused end))
refused_went did count p v u c d (errors.InUse n) told h = h
refused_went did count p v u c d errors.NoPort told h = h
refused_went did count p v u c d (errors.Taken n) told h = h
refused_went did count p v u c d errors.Inval told h = h
refused_went did count p v u c d errors.IsConn told h = h
refused_went did count p v u c d errors.GroupFull told h = h
refused_went did count p v u c d errors.GroupsFull told h = h
refused_went did count p v u c d (errors.Full owned held) told h = h
refused_went did count p v u c d (errors.LeftOff cause) told h = absurd (cc)

-- and so that of a plan that may give up a port
pub refused_out : {X : Type 0} (did : X → Did) (count name : ℕ) (p : Asking Did) (v u : View) (c d : Side) (end : OpEnd) → is_left_off end ≡ false → CarriedOut did refused count name p v u c d (Err end) → Went count p v u c d (ends (refused end))
refused_out did count name p v u c d (errors.InUse n) told h = h
refused_out did count name p v u c d errors.NoPort told h = h
refused_out did count name p v u c d (errors.Taken n) told h = h
refused_out did count name p v u c d errors.Inval told h = h
refused_out did count name p v u c d errors.IsConn told h = h
refused_out did count name p v u c d errors.GroupFull told h = h
refused_out did count name p v u c d errors.GroupsFull told h = h
refused_out did count name p v u c d (errors.Full owned held) told h = h
refused_out did count name p v u c d (errors.LeftOff cause) told h = absurd (cc)

-- whatever holds anyway holds where the answer is an error
pub on_err : {T E P : Type 0} (r : Result T E) → P → OnErr r P
on_err (Ok x) p = tt
on_err (Err e) p = p

-- a section whose labels are as they were
pub same_section : (t : Tables) (k : Kept) (header : Header) (l l1 : Labelled) (moment : ℕ) (o : Offsets) (waits : List Mine) (w : Worker) → kept header (own_of l moment o waits) ≡ k → l1 ≡ l → IsSection t k w → IsSection t (kept header (own_of l1 moment o waits)) w
same_section t k header l l1 moment o waits w view same section =
    subst (λ (x : Kept). IsSection t x w) (sym (ap (λ (x : Labelled). kept header (own_of x moment o waits)) same ∙ view)) section

-- the open sockets, where one was taken out and put back
pub sockets_back : (k : Kept) (h : Header) (l l1 l2 : Labelled) (moment : ℕ) (o : Offsets) (waits : List Mine) (i : ℕ) (m : Mine) → kept h (own_of l moment o waits) ≡ k → at_place l.places i ≡ Some m → l1 ≡ with_place l i None → l2 ≡ with_place l1 i (Some m) → those l2.places ≡ k.own.sockets
sockets_back k h l l1 l2 moment o waits i m view there after put =
    ap (λ (x : Labelled). those x.places) (put ∙ (ap (λ (x : Labelled). with_place x i (Some m)) after ∙ put_same l i m there))
    ∙ ap (λ (x : Kept). x.own.sockets) view

-- a section as it was before a command, and its labels with its header
pub record Before (k : Kept) (header : Header) (l : Labelled) (moment : ℕ) (o : Offsets) (waits : List Mine) : Type 0 where
  pub view : kept header (own_of l moment o waits) ≡ k
  pub names : HaveNames (name_at l.number) l.places

-- a plan that ends at once
pub ends_at_once : (t : Tables) (k : Kept) (p : Asking Replied) (new : Kept) (w : Worker) (reply : Reply) → p ≡ ends (answers new.own reply) → IsSection t new w → Carries t k p new w w reply
ends_at_once t k p new w reply is section =
    record {
      deeds = [];
      goes = subst (λ (q : Asking Replied). Goes q [] (answers new.own reply)) (sym is) refl;
      gave = gave_none (turned w);
      does = does_none (chained t w);
      section = section;
    }

-- an operation's plan, and then what it comes to
pub then_ends : {R : Type 0} (t : Tables) (k : Kept) (p : Asking R) (f : R → Replied) (new : Kept) (w u : Worker) (r : R) (reply : Reply) → Went k.header.shape.bind p (turned w) (turned u) (chained t w) (chained t u) (ends r) → f r ≡ answers new.own reply → IsSection t new u
    → Carries t k (and_then p (λ x. ends (f x))) new w u reply
then_ends t k p f new w u r reply went is section =
    record {
      deeds = went.deeds;
      goes = subst (λ (ds : List Deed). Goes (and_then p (λ x. ends (f x))) ds (answers new.own reply)) (append-nil went.deeds)
          (in_turn (λ x. ends (f x)) p went.deeds [] r (answers new.own reply) (goes_by p went.deeds r went.leads) (sym is));
      gave = went.gave;
      does = went.does;
      section = section;
    }

-- a command of a label that names no open socket
pub nobody : (t : Tables) (k : Kept) (header : Header) (l l1 : Labelled) (moment : ℕ) (o : Offsets) (waits : List Mine) (label : List ℕ) (w : Worker) → Before k header l moment o waits → IsUnnamed l label l1 → IsSection t k w
    → (command : Header → Own → Option Mine → Asking Replied) → ((h : Header) (x : Own) → command h x None ≡ ends (answers x replies.Ebadf))
    → Carries t k (command k.header k.own (open_socket k.own label)) (kept header (own_of l1 moment o waits)) w w replies.Ebadf
nobody t k header l l1 moment o waits label w b none section command is_none =
    let own = own_of l moment o waits in
    let same : own_of l1 moment o waits ≡ own = ap (λ (x : Labelled). own_of x moment o waits) none.kept in
    subst (λ (x : Kept). Carries t x (command x.header x.own (open_socket x.own label)) (kept header (own_of l1 moment o waits)) w w replies.Ebadf) b.view
    (ends_at_once t (kept header own) (command header own (open_socket own label)) (kept header (own_of l1 moment o waits)) w replies.Ebadf
    (ap (command header own) (open_named l moment o waits label b.names ∙ none.none) ∙ is_none header own ∙ ap (λ (x : Own). ends (answers x replies.Ebadf)) (sym same))
    (subst (λ (x : Own). IsSection t (kept header x) w) (sym same) (subst (λ (x : Kept). IsSection t x w) (sym b.view) section)))

-- the offsets, where a search began or none did
pub began_as : (b : Bool) (l : Labelled) (moment : ℕ) (o : Offsets) (waits : List Mine) → after_search b (own_of l moment o waits) ≡ own_of l moment (searches.after_search b o) waits
began_as true l moment o waits = refl
began_as false l moment o waits = refl

-- an operation on the socket that a label names
module _ (t : Tables) (k : Kept) (header : Header) (l l1 : Labelled) (moment : ℕ) (o : Offsets) (waits : List Mine) (label : List ℕ) (i : ℕ) (s : Sock) (w : Worker)
    (b : Before k header l moment o waits) (takes : Takes l label l1 i s) (section : IsSection t k w) where
  abbrev own : Own
  own = own_of l moment o waits

  abbrev roll : Roll
  roll = roll_of own

  pub before : IsSection t (kept header own) w
  before = subst (λ (x : Kept). IsSection t x w) (sym b.view) section

  pub there : IsThere roll (mine_of s)
  there = λ P h. each_there P l.places i (mine_of s) h takes.there

  was : IsOpen t roll (turned w) (chained t w) (mine_of s)
  was = there (IsOpen t roll (turned w) (chained t w)) before.stand

  pub stands_before : StandsAs t s (turned w) (chained t w)
  stands_before = stands_typed t s (turned w) (chained t w) takes.state was.stands

  pub tells_before : MayTell w (mine_of s).owner.name
  tells_before = may_tell roll (mine_of s).owner.name (words.caller w.turns) was.given before.tells

  -- the socket is back at its place, as it was
  back_there : (l2 : Labelled) → l2 ≡ with_place l1 i (Some (mine_of s)) → l2 ≡ l
  back_there l2 is =
      is ∙ (ap (λ (x : Labelled). with_place x i (Some (mine_of s))) takes.after ∙ put_same l i (mine_of s) takes.there)

  put_there : (o2 : Offsets) (l2 : Labelled) → l2 ≡ with_place l1 i (Some (mine_of s)) → with_socket (own_of l moment o2 waits) (mine_of s) ≡ own_of l2 moment o2 waits
  put_there o2 l2 is =
      put_back l i (mine_of s) (mine_of s) b.names takes.there takes.name moment o2 waits
      ∙ ap (λ (x : Labelled). own_of x moment o2 waits) (put_same l i (mine_of s) takes.there ∙ sym (back_there l2 is))

  module _ (u : Worker) (ready : IsReady t u) (caller : words.caller u.turns ≡ words.caller w.turns) where
    abbrev its_name : ℕ
    its_name = (mine_of s).owner.name

    -- the section, with the socket as that now, where so was asked and done
    section_on : (o2 : Offsets) (m : Mine) (new : List (Placed Entry)) (deeds : List Deed) → GoesOn (turned w) (turned u) (chained t w) (chained t u) new deeds → Asks (IsAbout its_name) new → Each (OnLeft (HasName its_name)) deeds
        → m.owner.name ≡ its_name → ((mine_of s).owner.state ≡ states.Listening → m.owner.state ≡ states.Listening) → StandsIn m.owner.state t m (turned u) (chained t u)
        → IsSection t (kept header (with_socket (own_of l moment o2 waits) m)) u
    section_on o2 m new deeds on about goes name still stands =
        let now = changed t roll (turned w) (turned u) (chained t w) (chained t u) new deeds on before.tells (record { all = before.stand; unspoken = before.unspoken })
        (mine_of s) m there name still about goes stands in
        record {
          tables = record { shape = before.tables.shape; seed = before.tables.seed; buckets = before.tables.buckets };
          ready = ready;
          number = before.number;
          tells = subst (λ (c : ℕ). Tells c l.number) (sym caller) before.tells;
          stand = now.all;
          unspoken = now.unspoken;
        }

    -- and so as it was
    section_again : (o2 : Offsets) (l2 : Labelled) (new : List (Placed Entry)) (deeds : List Deed) → GoesOn (turned w) (turned u) (chained t w) (chained t u) new deeds → Asks (IsAbout its_name) new → Each (OnLeft (HasName its_name)) deeds → StandsAs t s (turned u) (chained t u)
        → l2 ≡ with_place l1 i (Some (mine_of s)) → IsSection t (kept header (own_of l2 moment o2 waits)) u
    section_again o2 l2 new deeds on about goes stands is =
        subst (λ (x : Own). IsSection t (kept header x) u) (put_there o2 l2 is)
        (section_on o2 (mine_of s) new deeds on about goes refl (λ listens. listens) (typed_stands t s (turned u) (chained t u) takes.state stands))

    -- where nothing was asked or done
    pub rests_so : (l2 : Labelled) → Gave (turned w) (turned u) [] → chained t u ≡ chained t w → StandsAs t s (turned u) (chained t u) → l2 ≡ with_place l1 i (Some (mine_of s)) → IsSection t (kept header (own_of l2 moment o waits)) u
    rests_so l2 gave same stands is =
        section_again o l2 [] [] (record { gave = gave; does = subst (λ (c : Side). Does [] (chained t w) c) (sym same) (does_none (chained t w)) }) tt tt stands is

    -- where an operation was left off
    pub left_so : (plan : Asking Did) → Keeps (mine_of s) plan → (o2 : Offsets) (l2 : Labelled) → ops.LeftOff header.shape.bind its_name plan (turned w) (turned u) (chained t w) (chained t u) → StandsAs t s (turned u) (chained t u)
        → l2 ≡ with_place l1 i (Some (mine_of s)) → IsSection t (kept header (own_of l2 moment o2 waits)) u
    left_so plan keeps o2 l2 off stands is =
        let L = (mine_of s).owner.state ≡ states.Listening in
        let asked = asked_so (IsAbout its_name) (HasName its_name) (Named L its_name) header.shape.bind plan off.rest off.deeds off.leads keeps in
        let entries = entries_in header.shape.bind off.deeds in
        section_again o2 l2 (entries ++ off.back) off.deeds (record { gave = off.gave; does = off.does })
        (asks_back (IsAbout its_name) header.shape.bind its_name entries off.back refl off.gives asked.entries) asked.unhashed stands is

  module _ (u : Worker) (ready : IsReady t u) (caller : words.caller u.turns ≡ words.caller w.turns) (plan : Asking Did) (keeps : Keeps (mine_of s) plan) where
    -- the section, with the socket as that now
    section_with : (o2 : Offsets) (did : Did) (m : Mine) → Went header.shape.bind plan (turned w) (turned u) (chained t w) (chained t u) (ends did)
        → m.owner.name ≡ (mine_of s).owner.name → ((mine_of s).owner.state ≡ states.Listening → m.owner.state ≡ states.Listening) → StandsIn m.owner.state t m (turned u) (chained t u)
        → IsSection t (kept header (with_socket (own_of l moment o2 waits) m)) u
    section_with o2 did m went name still stands =
        let L = (mine_of s).owner.state ≡ states.Listening in
        let n = (mine_of s).owner.name in
        let asked = asked_so (IsAbout n) (HasName n) (Named L n) header.shape.bind plan (ends did) went.deeds went.leads keeps in
        section_on u ready caller o2 m (entries_in header.shape.bind went.deeds) went.deeds (record { gave = went.gave; does = went.does }) asked.entries asked.unhashed name still stands

    module _ (command : Header → Own → Option Mine → Asking Replied) (began : Bool) (reply_of : Own → Did → Replied)
        (is_then : command header own (Some (mine_of s)) ≡ and_then plan (λ did. ends (reply_of (after_search began own) did))) (o2 : Offsets) (drawn : o2 ≡ searches.after_search began o) where
      after : after_search began own ≡ own_of l moment o2 waits
      after = began_as began l moment o waits ∙ ap (λ (p : Offsets). own_of l moment p waits) (sym drawn)

      found : (did : Did) (new : Own) (reply : Reply) → Went header.shape.bind plan (turned w) (turned u) (chained t w) (chained t u) (ends did) → reply_of (after_search began own) did ≡ answers new reply → IsSection t (kept header new) u
          → Carries t k (command k.header k.own (open_socket k.own label)) (kept header new) w u reply
      found did new reply went is now =
          subst (λ (x : Kept). Carries t x (command x.header x.own (open_socket x.own label)) (kept header new) w u reply) b.view
          (subst (λ (p : Asking Replied). Carries t (kept header own) p (kept header new) w u reply) (sym (ap (command header own) (open_named l moment o waits label b.names ∙ takes.named) ∙ is_then))
          (then_ends t (kept header own) plan (reply_of (after_search began own)) (kept header new) w u did reply went is now))

      -- is done, and the socket has become that
      pub done_so : (x : Sock) (reply : Reply) (l2 : Labelled) → Went header.shape.bind plan (turned w) (turned u) (chained t w) (chained t u) (ends (done (mine_of x))) → FitsState x → StandsAs t x (turned u) (chained t u)
          → l2 ≡ with_place l1 i (Some (mine_of x)) → ((y : Own) → reply_of y (done (mine_of x)) ≡ answers (with_socket y (mine_of x)) reply)
          → Carries t k (command k.header k.own (open_socket k.own label)) (kept header (own_of l2 moment o2 waits)) w u reply
      done_so x reply l2 went fits stands is so =
          let L = (mine_of s).owner.state ≡ states.Listening in
          let n = (mine_of s).owner.name in
          let m = mine_of x in
          let named = (asked_so (IsAbout n) (HasName n) (Named L n) header.shape.bind plan (ends (done m)) went.deeds went.leads keeps).left in
          let put : with_socket (own_of l moment o2 waits) m ≡ own_of l2 moment o2 waits =
          put_back l i (mine_of s) m b.names takes.there (named.0 ∙ takes.name) moment o2 waits
          ∙ ap (λ (y : Labelled). own_of y moment o2 waits) (sym (is ∙ ap (λ (y : Labelled). with_place y i (Some m)) takes.after)) in
          found (done m) (own_of l2 moment o2 waits) reply went
          (so (after_search began own) ∙ ap (λ (y : Own). answers y reply) (ap (λ (y : Own). with_socket y m) after ∙ put))
          (subst (λ (y : Own). IsSection t (kept header y) u) put
          (section_with o2 (done m) m went named.0 named.1 (typed_stands t x (turned u) (chained t u) fits stands)))

      -- is refused, and the socket is as it was
      pub refused_then : (end : OpEnd) (reply : Reply) (l2 : Labelled) → Went header.shape.bind plan (turned w) (turned u) (chained t w) (chained t u) (ends (refused end)) → StandsAs t s (turned u) (chained t u)
          → l2 ≡ with_place l1 i (Some (mine_of s)) → ((y : Own) → reply_of y (refused end) ≡ answers y reply)
          → Carries t k (command k.header k.own (open_socket k.own label)) (kept header (own_of l2 moment o2 waits)) w u reply
      refused_then end reply l2 went stands is so =
          let m = mine_of s in
          let back = back_there l2 is in
          let put = put_there o2 l2 is in
          found (refused end) (own_of l2 moment o2 waits) reply went
          (so (after_search began own) ∙ ap (λ (x : Own). answers x reply) (after ∙ ap (λ (x : Labelled). own_of x moment o2 waits) (sym back)))
          (subst (λ (x : Own). IsSection t (kept header x) u) put
          (section_with o2 (refused end) m went refl (λ listens. listens) (typed_stands t s (turned u) (chained t u) takes.state stands)))
