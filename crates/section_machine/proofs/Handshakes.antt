-- A section that gives a label, and then a listener's child, in the place of a request.
use Rattle.std.proofs.Common.{◌≡◌, ◌==◌, ℕ, not, Bool, true, false, cond, List, [], ◌∷◌, ◌++◌, length, map, filter, find, Option, Some, None, Err, refl, sym, ap, ◌∙◌, subst, ne_eqb}
use Rattle.std.specs.Prelude.{IfSome}
use Rattle.std.specs.Option.{option_map}
use Rattle.std.specs.Borrow.{Bor}
use Rattle.std.proofs.Math.ListN.{length-set}
use Rattle.std.proofs.lemmas.Bool.{eqb-true, eqb-false}
use Rattle.list_words.specs.Lists.{Each}
use Rattle.list_words.proofs.EachLemmas.{each_filter, each_found, found_passes}
use Rattle.sock_card.specs.Conflict.{is_listening}
use Rattle.sock_card.specs.declared.owner.Owner.{Owner}
use Rattle.sock_card.specs.declared.owner.State.{State}
use Rattle.sock_card.specs.declared.owner.State.TheVariants as states
use Rattle.turn_table.specs.Passes as words
use Rattle.bind_buckets.specs.Turned.{View}
use Rattle.chain_book.specs.declared.shape.Shape.{Shape}
use Rattle.sock_ops.specs.Sides.{Side}
use Rattle.flat_list.specs.declared.header.Header.{Header}
use Rattle.flat_list.specs.declared.command.Reply.{Reply}
use Rattle.flat_list.specs.declared.command.Reply.TheVariants as replies
use Rattle.flat_list.specs.Owned.{heir_owner, is_no_ack}
use Rattle.flat_list.specs.Sections.{name_at}
use Rattle.race_record.specs.Deeds.{entries_in}
use Rattle.table_model.specs.declared.operation.Cause.{Cause}
use Rattle.table_model.specs.declared.operation.OpEnd.{OpEnd}
use Rattle.table_model.specs.declared.operation.OpEnd.TheVariants as errors
use Rattle.table_model.specs.Asking.{Asking, ends}
use Rattle.table_model.specs.Own.{Own, Mine, Offsets, is_named, replaced, next_name, open_named, open_socket, with_label, with_new, without}
use Rattle.table_model.specs.Operations as plans
use Rattle.table_model.specs.Operations.{Did, done, refused}
use Rattle.table_model.specs.Commands.{answers, ack_command, ack_reply, connect_error}
use Rattle.sock_ops.specs.declared.sock.Sock.{Sock}
use Rattle.sock_ops.specs.declared.tables.Tables.{Tables}
use Rattle.sock_ops.specs.declared.tables.Worker.{Worker}
use Rattle.sock_ops.specs.Goes as ops
use Rattle.sock_ops.specs.Accepting.{accepted}
use Rattle.sock_ops.specs.Goes.{Went, Carried}
use Rattle.sock_ops.specs.Socks.{mine_of, FitsState}
use Rattle.sock_ops.specs.Stands.{IsReady, MayTell, StandsAs, buckets_of, turned, chained}
use Rattle.section_machine.specs.Carried.{Carries}
use Rattle.section_machine.specs.Places.{Labelled, Takes, IsUnnamed, at_place, those, with_given, with_place, own_of}
use Rattle.section_machine.specs.Sections.{Kept, kept}
use Rattle.section_machine.specs.Standing.{Roll, roll_of, IsSection, IsApart, IsOpen, StandsIn}
use Rattle.section_machine.proofs.Asked.{AskedSo, asked_so, IsBirth, HasName, HeirBy, name_or_none, of_ack}
use Rattle.section_machine.proofs.Given.{Giving, Asker, was, stand, ungiven, later, section_of, newcomer, given_own, asked_of, asked_none}
use Rattle.section_machine.proofs.LeftOff.{off_as}
use Rattle.section_machine.proofs.Newcomers.{or_left}
use Rattle.section_machine.proofs.Owns.{each_there, only_one, put_back, put_same, taken, socket_given, none_more, named_again}
use Rattle.section_machine.proofs.Places.{none_last, none_set, each_placed}
use Rattle.section_machine.proofs.Rolls.{IsThere, with_next, others_of, still_there, comes_instead}
use Rattle.section_machine.proofs.Settled.{of_header, then_ends, stands_typed}
use Rattle.section_machine.proofs.Stays.{GoesOn, Asks, asks_back, may_tell}
use Rattle.bind_buckets.proofs.Filtered.{find_filtered}

-- A request isn't its own listener

no_listener : (l r : Owner) → l.state ≡ states.Request → is_no_ack l r ≡ true
no_listener l r e =
    or_left _ _ (or_left _ _ (or_left _ _ (or_left _ _ (or_left _ _ (ap (λ (state : State). not (is_listening state)) e)))))

module _ (shape : Shape) (seed : ℕ) (r : Mine) (name mark : ℕ) where
  -- where no other socket is found, `ack` is refused
  refused_by_itself : (x : Option Mine) (state : State) → r.owner.state ≡ state → ((l : Mine) → x ≡ Some l → l ≡ r) → plans.ack_from shape seed state r x name mark ≡ ends (refused errors.Inval)
  refused_by_itself None states.Request e same = refl
  refused_by_itself (Some l) states.Request e same =
      ap (λ (b : Bool). cond b (ends (refused errors.Inval)) (plans.ack_as shape seed r l.owner (heir_owner l.owner name mark r.owner)))
      (no_listener l.owner r.owner (ap (λ (m : Mine). m.owner.state) (same l refl) ∙ e))
  refused_by_itself x states.Unbound e same = refl
  refused_by_itself x states.Bound e same = refl
  refused_by_itself x states.Listening e same = refl
  refused_by_itself x states.Full e same = refl
  refused_by_itself x states.TimeWait e same = refl

  abbrev origin : ℕ
  origin = r.owner.origin

  abbrev IsItIfNamed : Mine → Type 0
  IsItIfNamed x = x.owner.name ≡ r.owner.name → x ≡ r

  its_own : (ms : List Mine) → origin ≡ r.owner.name → Each IsItIfNamed ms → (l : Mine) → find (is_named origin) ms ≡ Some l → l ≡ r
  its_own ms own only l e =
      each_found IsItIfNamed (is_named origin) ms l only e (eqb-true l.owner.name origin (found_passes (is_named origin) ms l e) ∙ own)

  abbrev is_other : Mine → Bool
  is_other x = not (is_named r.owner.name x)

  without_by : (ms : List Mine) (b : Bool) → (origin == r.owner.name) ≡ b → Each IsItIfNamed ms
      → plans.ack shape seed r (find (is_named origin) (filter is_other ms)) name mark ≡ plans.ack shape seed r (find (is_named origin) ms) name mark
  without_by ms true e only =
      let own : origin ≡ r.owner.name = eqb-true origin r.owner.name e in
      let rest = filter is_other ms in
      refused_by_itself (find (is_named origin) rest) r.owner.state refl (its_own rest own (each_filter IsItIfNamed is_other ms only))
      ∙ sym (refused_by_itself (find (is_named origin) ms) r.owner.state refl (its_own ms own only))
  without_by ms false e only =
      let differ : (x : Mine) → is_named origin x ≡ true → is_other x ≡ true =
      λ x is. ap not (ne_eqb x.owner.name r.owner.name (λ same. eqb-false origin r.owner.name e (sym (eqb-true x.owner.name origin is) ∙ same))) in
      ap (λ (l : Option Mine). plans.ack shape seed r l name mark) (sym (find_filtered is_other (is_named origin) differ ms))

  -- so its listener may be looked for among the others
  pub ack_without : (ms : List Mine) → Each IsItIfNamed ms → plans.ack shape seed r (find (is_named origin) (filter is_other ms)) name mark ≡ plans.ack shape seed r (find (is_named origin) ms) name mark
  ack_without ms only = without_by ms (origin == r.owner.name) refl only

-- the child has the name that it was to have
pub heir_named : (shape : Shape) (seed : ℕ) (r m : Mine) (l : Option Mine) (name mark count : ℕ) (v u : View) (c d : Side) → Went count (plans.ack shape seed r l name mark) v u c d (ends (done m)) → m.owner.name ≡ name
heir_named shape seed r m l name mark count v u c d went =
    (asked_so (IsBirth (name_or_none l) name) (HasName r.owner.name) (HeirBy l name) count (plans.ack shape seed r l name mark) (ends (done m)) went.deeds went.leads (of_ack shape seed r l name mark)).left.named

abbrev pub ack_asker : Asker
ack_asker h x n o = ack_command h x n o

-- the request's label names no socket
pub acks_none : {t : Tables} {k : Kept} {header : Header} {l l1 : Labelled} {moment : ℕ} {o : Offsets} {waits : List Mine} {label : List ℕ} {w : Worker} (g : Giving t k header l l1 moment o waits label w) (l2 : Labelled) (request : List ℕ) → IsUnnamed l1 request l2
    → Carries t k (ack_command k.header (with_label k.own label) (next_name k.own) (open_socket k.own request)) (kept header (own_of l2 moment o waits)) w w replies.Ebadf
acks_none {t} {k} {header} {l} {l1} {moment} {o} {waits} {label} {w} g l2 request unnamed =
    subst (λ (x : Labelled). Carries t k (ack_command k.header (with_label k.own label) (next_name k.own) (open_socket k.own request)) (kept header (own_of x moment o waits)) w w replies.Ebadf) (sym unnamed.kept)
    (asked_none g ack_asker request (λ h x n. refl) (sym (named_again l l1 label request g.count g.given) ∙ unnamed.none))

-- it names one, which was taken out of its place
module _ {t : Tables} {k : Kept} {header : Header} {l l1 : Labelled} {moment : ℕ} {o : Offsets} {waits : List Mine} {label : List ℕ} {w : Worker} (g : Giving t k header l l1 moment o waits label w)
    (l2 : Labelled) (request : List ℕ) (i : ℕ) (s : Sock) (takes : Takes l1 request l2 i s) where
  abbrev own : Own
  own = own_of l moment o waits

  abbrev roll : Roll
  roll = roll_of own

  abbrev name : ℕ
  name = next_name own

  -- the section that gave the label
  abbrev more : Own
  more = with_label own label

  abbrev m : Mine
  m = mine_of s

  here : at_place l.places i ≡ Some m
  here = sym (none_more l.places i) ∙ (ap (λ (x : Labelled). at_place x.places i) (sym g.given) ∙ takes.there)

  its_name : m.owner.name ≡ name_at l.number i
  its_name = takes.name ∙ ap (λ (x : Labelled). name_at x.number i) g.given

  gone : l2 ≡ with_given (with_place l i None) label
  gone =
      takes.after
      ∙ (ap (λ (x : Labelled). with_place x i None) g.given
      ∙ ap (λ (ps : List (Option Mine)). record (with_given l label) { places = ps }) (none_set l.places i))

  there : IsThere roll m
  there = λ P h. each_there P l.places i m h here

  pub request_stands : StandsAs t s (turned w) (chained t w)
  request_stands =
      stands_typed t s (turned w) (chained t w) takes.state (there (IsOpen t roll (turned w) (chained t w)) (was g).stand).stands

  -- the others

  abbrev others : List Mine
  others = others_of roll m.owner.name

  others_are : those l2.places ≡ others
  others_are =
      ap (λ (x : Labelled). those x.places) gone
      ∙ (none_last (with_place l i None).places
      ∙ sym (ap (λ (x : Own). x.sockets) (taken l i m.owner.name g.before.names its_name moment o waits)))

  -- the listener among them

  abbrev found : Option Mine
  found = find (is_named m.owner.origin) (those l2.places)

  found_open : (x : Mine) → found ≡ Some x → IsOpen t roll (turned w) (chained t w) x
  found_open x e =
      each_found (IsOpen t roll (turned w) (chained t w)) (is_named m.owner.origin) others x
      (each_filter (IsOpen t roll (turned w) (chained t w)) (λ (y : Mine). not (is_named m.owner.name y)) own.sockets (was g).stand)
      (ap (find (is_named m.owner.origin)) (sym others_are) ∙ e)

  pub listener_tells : (x : Option (Bor Sock)) → option_map (λ (y : Bor Sock). mine_of y.now) x ≡ found → IfSome x (λ y. MayTell w (mine_of y.now).owner.name)
  listener_tells None e = tt
  listener_tells (Some x) e =
      may_tell roll (mine_of x.now).owner.name (words.caller w.turns) (found_open (mine_of x.now) (sym e)).given (was g).tells

  pub listener_stands : (x : Option (Bor Sock)) → option_map (λ (y : Bor Sock). mine_of y.now) x ≡ found → IfSome x (λ y. FitsState y.now) → IfSome x (λ y. StandsAs t y.now (turned w) (chained t w))
  listener_stands None e fits = tt
  listener_stands (Some x) e fits =
      stands_typed t x.now (turned w) (chained t w) fits (found_open (mine_of x.now) (sym e)).stands

  -- The plan, with the name of the next label and the listener among all sockets

  abbrev parent : Option Mine
  parent = open_named more m.owner.origin

  pub same_plan : (shape : Shape) (seed n mark : ℕ) (x : Option Mine) → n ≡ name → mark ≡ own.mark → x ≡ found → plans.ack shape seed m x n mark ≡ plans.ack shape seed m parent name own.mark
  same_plan shape seed n mark x named marked is =
      (λ i. plans.ack shape seed m x (named i) (marked i))
      ∙ (ap (λ (y : Option Mine). plans.ack shape seed m y name own.mark) (is ∙ ap (find (is_named m.owner.origin)) others_are)
      ∙ ack_without shape seed m name own.mark own.sockets (only_one l i m g.before.names here))

  -- by the header
  pub its_plan : (u : Worker) (n mark : ℕ) (x : Option Mine) (did : Did) → n ≡ name → mark ≡ own.mark → x ≡ found → Went (buckets_of t) (plans.ack t.chains.layout.shape t.chains.layout.seed m x n mark) (turned w) (turned u) (chained t w) (chained t u) (ends did)
      → Went header.shape.bind (plans.ack header.shape header.seed m parent name own.mark) (turned w) (turned u) (chained t w) (chained t u) (ends did)
  its_plan u n mark x did named marked is went =
      subst (λ (p : Asking Did). Went header.shape.bind p (turned w) (turned u) (chained t w) (chained t u) (ends did)) (same_plan header.shape header.seed n mark x named marked is)
      (of_header header t (λ (shape : Shape) (seed : ℕ). plans.ack shape seed m x n mark) (turned w) (turned u) (chained t w) (chained t u) (ends did) (was g).tables went)

  -- and where it is left off
  pub its_off : (u : Worker) (n mark : ℕ) (x : Option Mine) (end : OpEnd) (cause : Cause) → n ≡ name → mark ≡ own.mark → x ≡ found → end ≡ errors.LeftOff cause
      → Carried accepted refused (buckets_of t) (plans.ack t.chains.layout.shape t.chains.layout.seed m x n mark) (turned w) (turned u) (chained t w) (chained t u) (Err end)
      → ops.LeftOff header.shape.bind name (plans.ack header.shape header.seed m parent name own.mark) (turned w) (turned u) (chained t w) (chained t u)
  its_off u n mark x end cause named marked is off carried =
      subst (λ (p : Asking Did). ops.LeftOff header.shape.bind name p (turned w) (turned u) (chained t w) (chained t u)) (same_plan header.shape header.seed n mark x named marked is)
      (subst (λ (b : ℕ). ops.LeftOff header.shape.bind b (plans.ack header.shape header.seed m x n mark) (turned w) (turned u) (chained t w) (chained t u)) named
      (off_as accepted header t (λ (shape : Shape) (seed : ℕ). plans.ack shape seed m x n mark) (plans.ack t.chains.layout.shape t.chains.layout.seed m x n mark) n (turned w) (turned u) (chained t w) (chained t u) end cause (was g).tables refl off carried))

  -- the request is back at its place

  pub put_again : (l3 : Labelled) → l3 ≡ with_place l2 i (Some m) → l3 ≡ l1
  put_again l3 put =
      put ∙ (ap (λ (x : Labelled). with_place x i (Some m)) takes.after ∙ put_same l1 i m takes.there)

  given_again : (l3 : Labelled) → l3 ≡ with_place l2 i (Some m) → more ≡ own_of l3 moment o waits
  given_again l3 put = given_own g ∙ ap (λ (x : Labelled). own_of x moment o waits) (sym (put_again l3 put))

  as_it_was : (l3 : Labelled) → l3 ≡ with_place l2 i (Some m) → record more { sockets = map (replaced m) own.sockets } ≡ own_of l3 moment o waits
  as_it_was l3 put =
      ap (λ (x : Own). with_label x label) (put_back l i m m g.before.names here its_name moment o waits ∙ ap (λ (x : Labelled). own_of x moment o waits) (put_same l i m here))
      ∙ given_again l3 put

  pub sockets_again : (l3 : Labelled) → l3 ≡ with_place l2 i (Some m) → those l3.places ≡ k.own.sockets
  sockets_again l3 put =
      ap (λ (x : Labelled). those x.places) (put_again l3 put)
      ∙ (sym (ap (λ (x : Own). x.sockets) (given_own g)) ∙ ap (λ (x : Kept). x.own.sockets) g.before.view)

  module _ (u : Worker) (ready : IsReady t u) (caller : words.caller u.turns ≡ words.caller w.turns) where
    abbrev plan : Asking Did
    plan = plans.ack header.shape header.seed m parent name own.mark

    abbrev WentTo : Did → Type 0
    WentTo did = Went header.shape.bind plan (turned w) (turned u) (chained t w) (chained t u) (ends did)

    asked : (did : Did) (went : WentTo did) → AskedSo (IsBirth (name_or_none parent) name) (HasName m.owner.name) (HeirBy parent name) header.shape.bind went.deeds (ends did)
    asked did went =
        asked_so (IsBirth (name_or_none parent) name) (HasName m.owner.name) (HeirBy parent name) header.shape.bind plan (ends did) went.deeds went.leads (of_ack header.shape header.seed m parent name own.mark)

    on : (did : Did) (went : WentTo did) → GoesOn (turned w) (turned u) (chained t w) (chained t u) (entries_in header.shape.bind went.deeds) went.deeds
    on did went = record { gave = went.gave; does = went.does }

    replied : (did : Did) (new : Own) (reply : Reply) → WentTo did → ack_reply more m.owner.name did ≡ answers new reply → IsSection t (kept header new) u
        → Carries t k (ack_command k.header (with_label k.own label) (next_name k.own) (open_socket k.own request)) (kept header new) w u reply
    replied did new reply went is_so now =
        asked_of g ack_asker request u (Some m) new reply (sym (named_again l l1 label request g.count g.given) ∙ takes.named)
        (then_ends t (kept header own) plan (ack_reply more m.owner.name) (kept header new) w u did reply went is_so now)

    -- no child came of it, and the request was put back
    pub acks_refused : (end : OpEnd) (reply : Reply) (l3 : Labelled) → WentTo (refused end) → StandsIn m.owner.state t m (turned u) (chained t u) → reply ≡ connect_error end → l3 ≡ with_place l2 i (Some m)
        → Carries t k (ack_command k.header (with_label k.own label) (next_name k.own) (open_socket k.own request)) (kept header (own_of l3 moment o waits)) w u reply
    acks_refused end reply l3 went stands called put =
        let a = asked (refused end) went in
        let new = own_of l3 moment o waits in
        let same = given_again l3 put in
        let now = still_there t roll (turned w) (turned u) (chained t w) (chained t u) (entries_in header.shape.bind went.deeds) went.deeds (on (refused end) went) (was g).tells (stand g) (next_name more) name (ungiven g) (later g)
        (name_or_none parent) a.entries m there a.unhashed stands in
        replied (refused end) new reply went
        (ap (λ (x : Own). answers x (connect_error end)) same ∙ ap (answers new) (sym called))
        (subst (λ (x : Own). IsSection t (kept header x) u) (as_it_was l3 put) (section_of g u ready caller (map (replaced m) own.sockets) now))

    -- it was left off, and the request was put back
    pub acks_left : (l3 : Labelled) → ops.LeftOff header.shape.bind name plan (turned w) (turned u) (chained t w) (chained t u) → StandsIn m.owner.state t m (turned u) (chained t u) → l3 ≡ with_place l2 i (Some m)
        → IsSection t (kept header (own_of l3 moment o waits)) u
    acks_left l3 off stands put =
        let P = IsBirth (name_or_none parent) name in
        let a = asked_so P (HasName m.owner.name) (HeirBy parent name) header.shape.bind plan off.rest off.deeds off.leads (of_ack header.shape header.seed m parent name own.mark) in
        let entries = entries_in header.shape.bind off.deeds in
        let now = still_there t roll (turned w) (turned u) (chained t w) (chained t u) (entries ++ off.back) off.deeds (record { gave = off.gave; does = off.does }) (was g).tells (stand g) (next_name more) name (ungiven g) (later g)
        (name_or_none parent) (asks_back P header.shape.bind name entries off.back refl off.gives a.entries) m there a.unhashed stands in
        subst (λ (x : Own). IsSection t (kept header x) u) (as_it_was l3 put) (section_of g u ready caller (map (replaced m) own.sockets) now)

    heir_open : (x : Sock) → WentTo (done (mine_of x)) → FitsState x → StandsAs t x (turned u) (chained t u) → IsOpen t (with_next roll (next_name more) (others ++ mine_of x ∷ [])) (turned u) (chained t u) (mine_of x)
    heir_open x went fits stands =
        let a = asked (done (mine_of x)) went in
        let p = a.left.parent in
        let is : find (is_named m.owner.origin) own.sockets ≡ Some p = a.left.still in
        let its_open : IsOpen t roll (turned w) (chained t w) p = each_found (IsOpen t roll (turned w) (chained t w)) (is_named m.owner.origin) own.sockets p (was g).stand is in
        let at : (j : ℕ) × (at_place l.places j ≡ Some p) = each_found (λ (y : Mine). (j : ℕ) × (at_place l.places j ≡ Some y)) (is_named m.owner.origin) own.sockets p (each_placed l.places) is in
        let entries = entries_in header.shape.bind went.deeds in
        let keep : Mine → Bool = λ y. not (is_named m.owner.name y) in
        newcomer g p its_open others u entries x a.left.listens
        (each_filter (IsApart its_open.family.mine p.owner.name) keep own.sockets its_open.family.apart)
        (each_filter (λ (y : Mine). y.owner.name ≡ p.owner.name → y ≡ p) keep own.sockets (only_one l at.0 p g.before.names at.1))
        went.gave (subst (λ (b : ℕ). Asks (IsBirth b name) entries) (ap name_or_none is) a.entries) a.left.named fits stands

    -- its child stands at the place of the label
    pub acks : (x : Sock) (l3 : Labelled) → WentTo (done (mine_of x)) → FitsState x → StandsAs t x (turned u) (chained t u) → l3 ≡ with_place l2 (length l.labels) (Some (mine_of x))
        → Carries t k (ack_command k.header (with_label k.own label) (next_name k.own) (open_socket k.own request)) (kept header (own_of l3 moment o waits)) w u replies.Ok
    acks x l3 went fits stands put =
        let a = asked (done (mine_of x)) went in
        let child = mine_of x in
        let new = own_of l3 moment o waits in
        let now = comes_instead t roll (turned w) (turned u) (chained t w) (chained t u) (entries_in header.shape.bind went.deeds) went.deeds (on (done child) went) (was g).tells (stand g) (next_name more) name (ungiven g) (later g)
        (name_or_none parent) a.entries m there a.unhashed child a.left.named (heir_open x went fits stands) in
        let same : with_new (without more m.owner.name) child ≡ new =
        ap (λ (y : Own). with_new (with_label y label) child) (taken l i m.owner.name g.before.names its_name moment o waits)
        ∙ socket_given (with_place l i None) l2 l3 label child moment o waits (length-set l.places i None ∙ g.count) gone put in
        replied (done child) new replies.Ok went
        (ap (λ (y : Own). answers y replies.Ok) same)
        (subst (λ (y : Own). IsSection t (kept header y) u) same (section_of g u ready caller (others ++ child ∷ []) now))
