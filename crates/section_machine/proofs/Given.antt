-- A section that gives its next label.
use Rattle.std.proofs.Common.{◌≡◌, ℕ, ◌+◌, ◌/◌, ◌^◌, ◌<◌, List, [], ◌∷◌, ◌++◌, length, Option, None, refl, sym, ap, ◌∙◌, subst}
use Rattle.list_words.specs.Lists.{Each}
use Rattle.sock_card.specs.declared.owner.State.TheVariants as states
use Rattle.turn_table.specs.declared.note.Placed.{Placed}
use Rattle.turn_table.specs.Passes as words
use Rattle.bind_buckets.specs.declared.request.Entry.{Entry}
use Rattle.bind_buckets.specs.Turned.{Gave}
use Rattle.flat_list.specs.declared.header.Header.{Header}
use Rattle.flat_list.specs.declared.command.Reply.{Reply}
use Rattle.flat_list.specs.declared.command.Reply.TheVariants as replies
use Rattle.flat_list.proofs.GivenNames.{section_in_name}
use Rattle.port_search.proofs.TurnSearch.{gave_none}
use Rattle.table_model.specs.Asking.{Asking, ends}
use Rattle.table_model.specs.Own.{Own, Mine, Offsets, next_name, open_socket, with_label}
use Rattle.table_model.specs.Commands.{Replied, answers}
use Rattle.sock_ops.specs.declared.sock.Sock.{Sock}
use Rattle.sock_ops.specs.declared.tables.Tables.{Tables}
use Rattle.sock_ops.specs.declared.tables.Worker.{Worker}
use Rattle.sock_ops.specs.Socks.{mine_of, FitsState}
use Rattle.sock_ops.specs.Stands.{IsReady, MayTell, StandsAs, turned, chained}
use Rattle.sock_ops.specs.There.{IsNew}
use Rattle.sock_ops.proofs.Goes.{does_none}
use Rattle.section_machine.specs.Carried.{Carries}
use Rattle.section_machine.specs.Places.{Labelled, named_by, with_given, own_of}
use Rattle.section_machine.specs.Sections.{Kept, kept}
use Rattle.section_machine.specs.Standing.{Roll, roll_of, IsSection, IsApart, IsOpen, IsUngiven, IsUnspoken, Tells}
use Rattle.section_machine.proofs.Asked.{IsBirth}
use Rattle.section_machine.proofs.Made.{next_ungiven, next_rises}
use Rattle.section_machine.proofs.Newcomers.{new_name, child_family}
use Rattle.section_machine.proofs.Owns.{label_given}
use Rattle.section_machine.proofs.Places.{open_named}
use Rattle.section_machine.proofs.Rolls.{Stand, with_next, labelled}
use Rattle.section_machine.proofs.Settled.{Before, ends_at_once, typed_stands}
use Rattle.section_machine.proofs.Stays.{Asks}

-- the section as it was, and its labels with one more
pub record Giving (t : Tables) (k : Kept) (header : Header) (l l1 : Labelled) (moment : ℕ) (o : Offsets) (waits : List Mine) (label : List ℕ) (w : Worker) : Type 0
  where
    pub before : Before k header l moment o waits
    pub section : IsSection t k w
    pub room : length k.own.labels + 1 < 2 ^ 56
    pub count : length l.places ≡ length l.labels
    pub given : l1 ≡ with_given l label

-- a command by the name of its label, on the socket that another label named before, if it did
abbrev pub Asker : Type 0
Asker = Header → Own → ℕ → Option Mine → Asking Replied

module _ {t : Tables} {k : Kept} {header : Header} {l l1 : Labelled} {moment : ℕ} {o : Offsets} {waits : List Mine} {label : List ℕ} {w : Worker} (g : Giving t k header l l1 moment o waits label w) where
  abbrev own : Own
  own = own_of l moment o waits

  abbrev roll : Roll
  roll = roll_of own

  abbrev name : ℕ
  name = next_name own

  abbrev more : Own
  more = with_label own label

  pub was : IsSection t (kept header own) w
  was = subst (λ (x : Kept). IsSection t x w) (sym g.before.view) g.section

  pub stand : Stand t roll (turned w) (chained t w)
  stand = let s = was in record { all = s.stand; unspoken = s.unspoken }

  has_room : length l.labels + 1 < 2 ^ 56
  has_room = subst (λ (x : Kept). length x.own.labels + 1 < 2 ^ 56) (sym g.before.view) g.room

  pub ungiven : IsUngiven roll name
  ungiven = next_ungiven own

  pub its_section : name / 2 ^ 56 ≡ l.number
  its_section = section_in_name l.number (length l.labels) has_room

  pub later : name < next_name more
  later = next_rises own label

  pub new_tells : MayTell w name
  new_tells = let tells = was.tells in λ some. its_section ∙ tells some

  pub is_new : IsNew name (turned w)
  is_new = new_name name (turned w) (was.unspoken name ungiven)

  pub given_own : more ≡ own_of l1 moment o waits
  given_own = label_given l l1 label moment o waits g.given

  -- a section of which all stand
  pub section_of : (u : Worker) → IsReady t u → words.caller u.turns ≡ words.caller w.turns → (ms : List Mine) → Stand t (with_next roll (next_name more) ms) (turned u) (chained t u) → IsSection t (kept header (record more { sockets = ms })) u
  section_of u ready caller ms now =
      record {
        tables = record { shape = was.tables.shape; seed = was.tables.seed; buckets = was.tables.buckets };
        ready = ready;
        number = was.number;
        tells = subst (λ (c : ℕ). Tells c l.number) (sym caller) was.tells;
        stand = now.all;
        unspoken = now.unspoken;
      }

  -- the socket of the label, which came by a listener, and stands beside these
  pub newcomer : (p : Mine) (o : IsOpen t roll (turned w) (chained t w) p) (ms : List Mine) (u : Worker) (new : List (Placed Entry)) (x : Sock) → p.owner.state ≡ states.Listening
      → Each (IsApart o.family.mine p.owner.name) ms → Each (λ (y : Mine). y.owner.name ≡ p.owner.name → y ≡ p) ms → Gave (turned w) (turned u) new → Asks (IsBirth p.owner.name name) new
      → (mine_of x).owner.name ≡ name → FitsState x → StandsAs t x (turned u) (chained t u) → IsOpen t (with_next roll (next_name more) (ms ++ mine_of x ∷ [])) (turned u) (chained t u) (mine_of x)
  newcomer p o ms u new x listens apart only gave about named fits stands =
      let m = mine_of x in
      let is : name ≡ m.owner.name = sym named in
      let un : IsUngiven roll m.owner.name = subst (IsUngiven roll) is ungiven in
      let section_is : m.owner.name / 2 ^ 56 ≡ l.number = subst (λ (n : ℕ). n / 2 ^ 56 ≡ l.number) is its_section in
      let before : m.owner.name < next_name more = subst (λ (n : ℕ). n < next_name more) is later in
      record {
        given = record { section = section_is; before = before };
        family = child_family roll (turned w) (turned u) new (next_name more) ms p m o.family gave section_is un before
            (subst (IsUnspoken (turned w)) is (was.unspoken name ungiven)) (subst (λ (n : ℕ). Asks (IsBirth p.owner.name n) new) is about) listens apart only;
        stands = typed_stands t x (turned u) (chained t u) fits stands;
      }

  module _ (asker : Asker) (of : List ℕ) where
    -- a command on the socket that the other label named
    pub asked_of : (u : Worker) (x : Option Mine) (new : Own) (reply : Reply) → named_by l of ≡ x → Carries t (kept header own) (asker header more name x) (kept header new) w u reply
        → Carries t k (asker k.header (with_label k.own label) (next_name k.own) (open_socket k.own of)) (kept header new) w u reply
    asked_of u x new reply is c =
        subst (λ (y : Kept). Carries t y (asker y.header (with_label y.own label) (next_name y.own) (open_socket y.own of)) (kept header new) w u reply) g.before.view
        (subst (λ (y : Option Mine). Carries t (kept header own) (asker header more name y) (kept header new) w u reply) (sym (open_named l moment o waits of g.before.names ∙ is)) c)

    -- it named none
    pub asked_none : ((h : Header) (x : Own) (n : ℕ) → asker h x n None ≡ ends (answers x replies.Ebadf)) → named_by l of ≡ None
        → Carries t k (asker k.header (with_label k.own label) (next_name k.own) (open_socket k.own of)) (kept header (own_of l1 moment o waits)) w w replies.Ebadf
    asked_none none is =
        let now = labelled t roll (turned w) (turned w) (chained t w) (chained t w) [] [] (record { gave = gave_none (turned w); does = does_none (chained t w) }) was.tells stand (next_name more) name ungiven later name tt tt in
        asked_of w None (own_of l1 moment o waits) replies.Ebadf is
        (ends_at_once t (kept header own) (asker header more name None) (kept header (own_of l1 moment o waits)) w replies.Ebadf
        (none header more name ∙ ap (λ (x : Own). ends (answers x replies.Ebadf)) given_own)
        (subst (λ (x : Own). IsSection t (kept header x) w) given_own (section_of w was.ready refl own.sockets now)))
