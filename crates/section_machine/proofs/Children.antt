-- A section that gives a label, and then the socket of that label: a listener's child, or a request.
use Rattle.std.proofs.Common.{◌≡◌, ℕ, List, [], ◌∷◌, ◌++◌, length, Option, Some, None, Err, refl, sym, ap, ◌∙◌, subst}
use Rattle.std.specs.Prelude.{option_and_then}
use Rattle.turn_table.specs.Passes as words
use Rattle.bind_buckets.specs.Turned.{View}
use Rattle.chain_book.specs.declared.shape.Shape.{Shape}
use Rattle.sock_ops.specs.Sides.{Side}
use Rattle.flat_list.specs.declared.header.Header.{Header}
use Rattle.flat_list.specs.declared.command.End.{End}
use Rattle.flat_list.specs.declared.command.Reply.{Reply}
use Rattle.flat_list.specs.declared.command.Reply.TheVariants as replies
use Rattle.label_index.specs.Places.{place_in}
use Rattle.race_record.specs.Deeds.{entries_in}
use Rattle.table_model.specs.declared.operation.Cause.{Cause}
use Rattle.table_model.specs.declared.operation.OpEnd.{OpEnd}
use Rattle.table_model.specs.declared.operation.OpEnd.TheVariants as errors
use Rattle.table_model.specs.Asking.{Asking, ends, and_then}
use Rattle.table_model.specs.Own.{Own, Mine, Offsets, next_name, open_socket, with_label, with_new}
use Rattle.table_model.specs.Operations as plans
use Rattle.table_model.specs.Operations.{Did, done, refused}
use Rattle.table_model.specs.Commands.{Replied, answers, accept_command, syn_command, accept_reply, connect_error}
use Rattle.sock_ops.specs.declared.sock.Sock.{Sock}
use Rattle.sock_ops.specs.declared.tables.Tables.{Tables}
use Rattle.sock_ops.specs.declared.tables.Worker.{Worker}
use Rattle.sock_ops.specs.Goes as ops
use Rattle.sock_ops.specs.Accepting.{accepted}
use Rattle.sock_ops.specs.Goes.{Went, Carried}
use Rattle.sock_ops.specs.Socks.{mine_of, FitsState}
use Rattle.sock_ops.specs.Stands.{IsReady, MayTell, StandsAs, buckets_of, turned, chained}
use Rattle.section_machine.specs.Carried.{Carries}
use Rattle.section_machine.specs.Places.{Labelled, at_place, named_by, with_place, own_of}
use Rattle.section_machine.specs.Sections.{Kept, kept}
use Rattle.section_machine.specs.Standing.{Roll, roll_of, AreOf, IsSection, IsOpen}
use Rattle.section_machine.proofs.Asked.{AskedSo, asked_so, IsBirth, IsBirthOf, ChildOf, of_accept, of_syn}
use Rattle.section_machine.proofs.Given.{Giving, Asker, was, stand, ungiven, later, section_of, newcomer, given_own, asked_of}
use Rattle.section_machine.proofs.LeftOff.{off_as}
use Rattle.section_machine.proofs.Owns.{each_there, socket_given, only_one}
use Rattle.section_machine.proofs.Rolls.{labelled, socket_more}
use Rattle.section_machine.proofs.Settled.{of_header, then_ends, stands_typed}
use Rattle.section_machine.proofs.Stays.{GoesOn, asks_back, may_tell}

-- what is asked with a listener for a socket of that name, with that mark
abbrev pub Plan : Type 0
Plan = Shape → ℕ → Mine → ℕ → ℕ → Asking Did

-- the command asks so, once its label is given
pub record AsksSo (p : Plan) (asker : Asker) : Type 0 where
  pub births : (shape : Shape) (seed : ℕ) (l : Mine) (name mark : ℕ) → IsBirthOf shape seed l.owner name (p shape seed l name mark)
  pub none : (h : Header) (x : Own) (n : ℕ) → asker h x n None ≡ ends (answers x replies.Ebadf)
  pub some : (h : Header) (x : Own) (n : ℕ) (l : Mine) → asker h x n (Some l) ≡ and_then (p h.shape h.seed l n x.mark) (λ did. ends (accept_reply x did))

module _ (from at : End) where
  abbrev pub accept_of : Plan
  accept_of shape seed l name mark = plans.accept shape seed l name mark from at

  abbrev pub accept_asker : Asker
  accept_asker h x n o = accept_command h x n o from at

  pub accept_asks : AsksSo accept_of accept_asker
  accept_asks =
      record { births = λ shape seed l name mark. of_accept shape seed l name mark from at; none = λ h x n. refl; some = λ h x n l. refl }

  abbrev pub syn_of : Plan
  syn_of shape seed l name mark = plans.syn shape seed l name mark from at

  abbrev pub syn_asker : Asker
  syn_asker h x n o = syn_command h x n o from at

  pub syn_asks : AsksSo syn_of syn_asker
  syn_asks =
      record { births = λ shape seed l name mark. of_syn shape seed l name mark from at; none = λ h x n. refl; some = λ h x n l. refl }

module _ {p : Plan} {asker : Asker} (so : AsksSo p asker) where
  -- it has the name that it was to have
  pub child_named : (shape : Shape) (seed : ℕ) (l m : Mine) (name mark count : ℕ) (v u : View) (c d : Side) → Went count (p shape seed l name mark) v u c d (ends (done m)) → m.owner.name ≡ name
  child_named shape seed l m name mark count v u c d went =
      (asked_so (IsBirth l.owner.name name) (λ _. ⊥) (ChildOf shape seed l.owner name) count (p shape seed l name mark) (ends (done m)) went.deeds went.leads (so.births shape seed l name mark)).left.0

  -- the plan by the header, with the name of the next label
  pub its_plan : (t : Tables) (k : Kept) (header : Header) (own : Own) (w : Worker) → kept header own ≡ k → IsSection t k w → (u : Worker) (l : Mine) (name mark : ℕ) (did : Did) → name ≡ next_name own → mark ≡ own.mark
      → Went (buckets_of t) (p t.chains.layout.shape t.chains.layout.seed l name mark) (turned w) (turned u) (chained t w) (chained t u) (ends did)
      → Went header.shape.bind (p header.shape header.seed l (next_name own) own.mark) (turned w) (turned u) (chained t w) (chained t u) (ends did)
  its_plan t k header own w view section u l name mark did is marked went =
      subst (λ (q : Asking Did). Went header.shape.bind q (turned w) (turned u) (chained t w) (chained t u) (ends did)) (λ i. p header.shape header.seed l (is i) (marked i))
      (of_header header t (λ (shape : Shape) (seed : ℕ). p shape seed l name mark) (turned w) (turned u) (chained t w) (chained t u) (ends did) (subst (λ (x : Kept). AreOf x.header t) (sym view) section.tables) went)

  -- and where it is left off
  pub its_off : (t : Tables) (k : Kept) (header : Header) (own : Own) (w : Worker) → kept header own ≡ k → IsSection t k w → (u : Worker) (l : Mine) (name mark : ℕ) (end : OpEnd) (cause : Cause) → name ≡ next_name own → mark ≡ own.mark → end ≡ errors.LeftOff cause
      → Carried accepted refused (buckets_of t) (p t.chains.layout.shape t.chains.layout.seed l name mark) (turned w) (turned u) (chained t w) (chained t u) (Err end)
      → ops.LeftOff header.shape.bind (next_name own) (p header.shape header.seed l (next_name own) own.mark) (turned w) (turned u) (chained t w) (chained t u)
  its_off t k header own w view section u l name mark end cause is marked off carried =
      subst (λ (n : ℕ). ops.LeftOff header.shape.bind n (p header.shape header.seed l n own.mark) (turned w) (turned u) (chained t w) (chained t u)) is
      (subst (λ (m : ℕ). ops.LeftOff header.shape.bind name (p header.shape header.seed l name m) (turned w) (turned u) (chained t w) (chained t u)) marked
      (off_as accepted header t (λ (shape : Shape) (seed : ℕ). p shape seed l name mark) (p t.chains.layout.shape t.chains.layout.seed l name mark) name (turned w) (turned u) (chained t w) (chained t u) end cause
      (subst (λ (x : Kept). AreOf x.header t) (sym view) section.tables) refl off carried))

-- what was found stands at some place
pub found_at : (l : Labelled) (p : Option ℕ) (m : Mine) → option_and_then (at_place l.places) p ≡ Some m → (i : ℕ) × (at_place l.places i ≡ Some m)
found_at l None m e = absurd (cc)
found_at l (Some i) m e = (i, e)

-- the label of the listener names a socket
module _ {t : Tables} {k : Kept} {header : Header} {l l1 : Labelled} {moment : ℕ} {o : Offsets} {waits : List Mine} {label : List ℕ} {w : Worker} (g : Giving t k header l l1 moment o waits label w)
    (listener : List ℕ) (s : Sock) (is : named_by l listener ≡ Some (mine_of s)) (fits : FitsState s) where
  abbrev own : Own
  own = own_of l moment o waits

  abbrev roll : Roll
  roll = roll_of own

  abbrev name : ℕ
  name = next_name own

  -- the section that gave the label
  abbrev more : Own
  more = with_label own label

  abbrev m : Mine
  m = mine_of s

  there : (i : ℕ) × (at_place l.places i ≡ Some m)
  there = found_at l (place_in l.labels listener) m is

  parent : IsOpen t roll (turned w) (chained t w) m
  parent = each_there (IsOpen t roll (turned w) (chained t w)) l.places there.0 m (was g).stand there.1

  pub parent_stands : StandsAs t s (turned w) (chained t w)
  parent_stands = stands_typed t s (turned w) (chained t w) fits parent.stands

  pub parent_tells : MayTell w m.owner.name
  parent_tells = may_tell roll m.owner.name (words.caller w.turns) parent.given (was g).tells

  module _ {p : Plan} {asker : Asker} (so : AsksSo p asker) (u : Worker) (ready : IsReady t u) (caller : words.caller u.turns ≡ words.caller w.turns) where
    abbrev plan : Asking Did
    plan = p header.shape header.seed m name own.mark

    abbrev WentTo : Did → Type 0
    WentTo did = Went header.shape.bind plan (turned w) (turned u) (chained t w) (chained t u) (ends did)

    asked : (did : Did) (went : WentTo did) → AskedSo (IsBirth m.owner.name name) (λ _. ⊥) (ChildOf header.shape header.seed m.owner name) header.shape.bind went.deeds (ends did)
    asked did went =
        asked_so (IsBirth m.owner.name name) (λ _. ⊥) (ChildOf header.shape header.seed m.owner name) header.shape.bind plan (ends did) went.deeds went.leads (so.births header.shape header.seed m name own.mark)

    on : (did : Did) (went : WentTo did) → GoesOn (turned w) (turned u) (chained t w) (chained t u) (entries_in header.shape.bind went.deeds) went.deeds
    on did went = record { gave = went.gave; does = went.does }

    replied : (did : Did) (new : Own) (reply : Reply) → WentTo did → accept_reply more did ≡ answers new reply → IsSection t (kept header new) u
        → Carries t k (asker k.header (with_label k.own label) (next_name k.own) (open_socket k.own listener)) (kept header new) w u reply
    replied did new reply went is_so now =
        asked_of g asker listener u (Some m) new reply is
        (subst (λ (q : Asking Replied). Carries t (kept header own) q (kept header new) w u reply) (sym (so.some header more name m))
        (then_ends t (kept header own) plan (accept_reply more) (kept header new) w u did reply went is_so now))

    -- no child came of it
    pub accepts_refused : (end : OpEnd) (reply : Reply) → WentTo (refused end) → reply ≡ connect_error end
        → Carries t k (asker k.header (with_label k.own label) (next_name k.own) (open_socket k.own listener)) (kept header (own_of l1 moment o waits)) w u reply
    accepts_refused end reply went called =
        let a = asked (refused end) went in
        let new = own_of l1 moment o waits in
        let now = labelled t roll (turned w) (turned u) (chained t w) (chained t u) (entries_in header.shape.bind went.deeds) went.deeds (on (refused end) went) (was g).tells (stand g) (next_name more) name (ungiven g) (later g) m.owner.name a.entries a.unhashed in
        replied (refused end) new reply went
        (ap (λ (x : Own). answers x (connect_error end)) (given_own g) ∙ ap (answers new) (sym called))
        (subst (λ (x : Own). IsSection t (kept header x) u) (given_own g) (section_of g u ready caller own.sockets now))

    -- it was left off
    pub accepts_left : ops.LeftOff header.shape.bind name plan (turned w) (turned u) (chained t w) (chained t u) → IsSection t (kept header (own_of l1 moment o waits)) u
    accepts_left off =
        let a = asked_so (IsBirth m.owner.name name) (λ _. ⊥) (ChildOf header.shape header.seed m.owner name) header.shape.bind plan off.rest off.deeds off.leads (so.births header.shape header.seed m name own.mark) in
        let entries = entries_in header.shape.bind off.deeds in
        let now = labelled t roll (turned w) (turned u) (chained t w) (chained t u) (entries ++ off.back) off.deeds (record { gave = off.gave; does = off.does }) (was g).tells (stand g) (next_name more) name (ungiven g) (later g)
        m.owner.name (asks_back (IsBirth m.owner.name name) header.shape.bind name entries off.back refl off.gives a.entries) a.unhashed in
        subst (λ (x : Own). IsSection t (kept header x) u) (given_own g) (section_of g u ready caller own.sockets now)

    -- its child stands at the place of the label
    pub accepts : (x : Sock) (l2 : Labelled) → WentTo (done (mine_of x)) → FitsState x → StandsAs t x (turned u) (chained t u) → l2 ≡ with_place l1 (length l.labels) (Some (mine_of x))
        → Carries t k (asker k.header (with_label k.own label) (next_name k.own) (open_socket k.own listener)) (kept header (own_of l2 moment o waits)) w u replies.Ok
    accepts x l2 went fits stands put =
        let a = asked (done (mine_of x)) went in
        let child = mine_of x in
        let new = own_of l2 moment o waits in
        let entries = entries_in header.shape.bind went.deeds in
        let there_now = newcomer g m parent own.sockets u entries x a.left.1 parent.family.apart (only_one l there.0 m g.before.names there.1) went.gave a.entries a.left.0 fits stands in
        let now = socket_more t roll (turned w) (turned u) (chained t w) (chained t u) entries went.deeds (on (done child) went) (was g).tells (stand g) (next_name more) name (ungiven g) (later g) m.owner.name a.entries a.unhashed
        child a.left.0 there_now in
        let same : with_new more child ≡ new = socket_given l l1 l2 label child moment o waits g.count g.given put in
        replied (done child) new replies.Ok went
        (ap (λ (y : Own). answers y replies.Ok) same)
        (subst (λ (y : Own). IsSection t (kept header y) u) same (section_of g u ready caller (own.sockets ++ child ∷ []) now))
