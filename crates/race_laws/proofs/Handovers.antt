-- Each `ack` that a lawful race answers with Ok handed a request over to a connection.
use Rattle.std.proofs.Common.{◌≡◌, ℕ, ◌+◌, ◌<◌, ◌==◌, Bool, true, false, ◌||◌, ◌&&◌, not, List, [], ◌∷◌, ◌++◌, Option, None, Some, if◌then◌else◌, refl, sym, ap, ◌∙◌, subst, inl, inr}
use Rattle.std.specs.Prelude.{find, option_and_then}
use Rattle.std.specs.List.{flat_map}
use Rattle.std.proofs.lemmas.Bool.{or_parts, not-false, eqb-true, eq-eqb, and_from}
use Rattle.list_words.specs.Lists.{Each, Pairs}
use Rattle.list_words.proofs.EachLemmas.{found_passes}
use Rattle.sock_card.specs.Conflict.{is_listening}
use Rattle.sock_card.specs.declared.card.Card.{Card}
use Rattle.sock_card.specs.declared.card.Kind.TheVariants as kinds
use Rattle.sock_card.specs.declared.owner.Owner.{Owner}
use Rattle.sock_card.specs.declared.owner.State.{State}
use Rattle.sock_card.specs.declared.owner.State.TheVariants as states
use Rattle.capture_reader.specs.Captures.{Capture}
use Rattle.chain_book.specs.declared.book.Change.{Change}
use Rattle.chain_book.specs.declared.shape.Shape.{Shape}
use Rattle.chain_book.specs.Homes.{home, tuple_home}
use Rattle.chain_book.specs.Tuples.{same_cards}
use Rattle.flat_list.specs.declared.header.Header.{Header}
use Rattle.flat_list.specs.declared.command.Command.{Command}
use Rattle.flat_list.specs.declared.command.Command.TheVariants as commands
use Rattle.flat_list.specs.declared.command.Reply.{Reply}
use Rattle.flat_list.specs.declared.command.Reply.TheVariants as replies
use Rattle.flat_list.specs.Owned.{heir_owner, is_no_ack, is_no_end, is_no_accept, own_end, other_end}
use Rattle.flat_list.specs.Script.{Script}
use Rattle.table_model.specs.declared.operation.OpEnd.{OpEnd}
use Rattle.table_model.specs.declared.operation.OpEnd.TheVariants as errors
use Rattle.table_model.specs.Asking.{ends}
use Rattle.table_model.specs.Commands as command
use Rattle.table_model.specs.Commands.{Replied, answers, plan}
use Rattle.table_model.specs.Operations as op
use Rattle.table_model.specs.Operations.{Did, done, refused, full_card}
use Rattle.table_model.specs.Own.{Mine, Own, card_of, is_named, name_of, new_own, next_name, open_named, open_socket, with_label}
use Rattle.race_book.specs.Among.{Among}
use Rattle.race_book.specs.Serial.{IsSerial, EndsOne}
use Rattle.race_book.proofs.AmongLemmas.{among_left, among_right}
use Rattle.race_record.specs.Deeds.{Deed, hashed, kept_out, no_slot, entered, inserted, added, left, reaped, changes_in, drawn_in}
use Rattle.race_record.specs.Goes.{Goes, IsHashOf, IsUnhashAt}
use Rattle.race_record.specs.Record.{Race, Step, steps_of, deeds_of}
use Rattle.race_record.specs.Lawful.{Lawful, AreStepsOf, AreSectionsOf, AreInOrder, IsSpanned}
use Rattle.race_record.proofs.Turns.{InTwo, goes_apart}
use Rattle.race_laws.specs.Handovers.{AcksHandOver, HandsOver, HandsOverAs, SectionsHandOver, StepsHandOver}
use Rattle.race_laws.proofs.Booked.{among_same}
use Rattle.race_laws.proofs.Steps.{changes_more}

-- the deeds begin with the hash of a child of that name, and the unhash of that request, whose listener took it
record Handed (request : Mine) (name : ℕ) (deeds : List Deed) : Type 0 where
  listener : Owner
  mark : ℕ
  wish : Card
  hash : Change
  unhash : Change
  rest : List Deed
  are : deeds ≡ added wish (hashed hash None) ∷ left unhash ∷ rest
  came : IsHashOf (full_card (heir_owner listener name mark request.owner)) hash
  went : IsUnhashAt request.place (card_of kinds.Request request) unhash
  fits : is_no_ack listener request.owner ≡ false

-- The plan

module _ (shape : Shape) (seed : ℕ) (m : Mine) where
  hashed_then : (r : Mine) (l : Owner) (name mark : ℕ) (wish : Card) (h : Change) (deeds : List Deed) → is_no_ack l r.owner ≡ false → IsHashOf (full_card (heir_owner l name mark r.owner)) h
      → Goes (op.ack_hashed shape seed r l (heir_owner l name mark r.owner) (Rattle.chain_book.specs.Chains.put h.slot None)) deeds (done m) → Handed r name (added wish (hashed h None) ∷ deeds)
  hashed_then r l name mark wish h (left u ∷ deeds) fits came g = record { listener = l; mark = mark; wish = wish; hash = h; unhash = u; rest = deeds; are = refl; came = came; went = g.0; fits = fits }
  hashed_then r l name mark wish h [] fits came g = absurd g
  hashed_then r l name mark wish h (entered p note ∷ deeds) fits came g = absurd g
  hashed_then r l name mark wish h (inserted w tried ∷ deeds) fits came g = absurd g
  hashed_then r l name mark wish h (added c tried ∷ deeds) fits came g = absurd g
  hashed_then r l name mark wish h (reaped c u ∷ deeds) fits came g = absurd g

  no_done : (end : OpEnd) (deeds : List Deed) → Goes (ends (refused end)) deeds (done m) → ⊥
  no_done end [] g = absurd (cc)
  no_done end (d ∷ deeds) g = g

  as_handed : (r : Mine) (l : Owner) (name mark : ℕ) (deeds : List Deed) → is_no_ack l r.owner ≡ false → Goes (op.ack_as shape seed r l (heir_owner l name mark r.owner)) deeds (done m) → Handed r name deeds
  as_handed r l name mark (added c (hashed h None) ∷ deeds) fits g = hashed_then r l name mark c h deeds fits g.1 g.2
  as_handed r l name mark (added c (hashed h (Some u)) ∷ deeds) fits g = absurd g.1
  as_handed r l name mark (added c (kept_out n) ∷ deeds) fits g = absurd g.1
  as_handed r l name mark (added c (no_slot n owned held) ∷ deeds) fits g = absurd (no_done (errors.Full owned held) deeds g.2)
  as_handed r l name mark [] fits g = absurd g
  as_handed r l name mark (entered p note ∷ deeds) fits g = absurd g
  as_handed r l name mark (inserted w tried ∷ deeds) fits g = absurd g
  as_handed r l name mark (left u ∷ deeds) fits g = absurd g
  as_handed r l name mark (reaped c u ∷ deeds) fits g = absurd g

  if_handed : (r l : Mine) (name mark : ℕ) (deeds : List Deed) (b : Bool) → is_no_ack l.owner r.owner ≡ b
      → Goes (if b then ends (refused errors.Inval) else op.ack_as shape seed r l.owner (heir_owner l.owner name mark r.owner)) deeds (done m) → Handed r name deeds
  if_handed r l name mark deeds true e g = absurd (no_done errors.Inval deeds g)
  if_handed r l name mark deeds false e g = as_handed r l.owner name mark deeds e g

  by_handed : (r : Mine) (l : Option Mine) (name mark : ℕ) (deeds : List Deed) → Goes (op.ack_by shape seed r l name mark) deeds (done m) → Handed r name deeds
  by_handed r None name mark deeds g = absurd (no_done errors.Inval deeds g)
  by_handed r (Some l) name mark deeds g = if_handed r l name mark deeds (is_no_ack l.owner r.owner) refl g

  state_handed : (s : State) (r : Mine) (l : Option Mine) (name mark : ℕ) (deeds : List Deed) → Goes (op.ack_from shape seed s r l name mark) deeds (done m) → Handed r name deeds
  state_handed states.Request r l name mark deeds g = by_handed r l name mark deeds g
  state_handed states.Unbound r l name mark deeds g = absurd (no_done errors.Inval deeds g)
  state_handed states.Bound r l name mark deeds g = absurd (no_done errors.Inval deeds g)
  state_handed states.Listening r l name mark deeds g = absurd (no_done errors.Inval deeds g)
  state_handed states.Full r l name mark deeds g = absurd (no_done errors.Inval deeds g)
  state_handed states.TimeWait r l name mark deeds g = absurd (no_done errors.Inval deeds g)

-- no refusal is called Ok
no_ok : (end : OpEnd) → replies.Ok ≡ command.connect_error end → ⊥
no_ok (errors.InUse name) e = absurd (cc)
no_ok errors.NoPort e = absurd (cc)
no_ok (errors.Taken name) e = absurd (cc)
no_ok errors.Inval e = absurd (cc)
no_ok errors.IsConn e = absurd (cc)
no_ok errors.GroupFull e = absurd (cc)
no_ok errors.GroupsFull e = absurd (cc)
no_ok (errors.Full owned held) e = absurd (cc)
no_ok (errors.LeftOff cause) e = absurd (cc)

more_handed : (r : Mine) (name : ℕ) (first rest : List Deed) → Handed r name first → Handed r name (first ++ rest)
more_handed r name first rest h = record {
  listener = h.listener;
  mark = h.mark;
  wish = h.wish;
  hash = h.hash;
  unhash = h.unhash;
  rest = h.rest ++ rest;
  are = ap (λ (l : List Deed). l ++ rest) h.are;
  came = h.came;
  went = h.went;
  fits = h.fits;
}

module _ (header : Header) (own next : Own) (name : ℕ) where
  did_ok : (gone : ℕ) (end : OpEnd) (rest : List Deed) → Goes (ends (command.ack_reply own gone (refused end))) rest (answers next replies.Ok) → ⊥
  did_ok gone end [] g = no_ok end (ap (λ (r : Replied). r.reply) g)
  did_ok gone end (d ∷ rest) g = g

  did_handed : (r : Mine) (first rest : List Deed) (did : Did) → Goes (op.ack header.shape header.seed r (open_named own r.owner.origin) name own.mark) first did
      → Goes (ends (command.ack_reply own r.owner.name did)) rest (answers next replies.Ok) → Handed r name (first ++ rest)
  did_handed r first rest (done m) g h = more_handed r name first rest (state_handed header.shape header.seed m r.owner.state r (open_named own r.owner.origin) name own.mark first g)
  did_handed r first rest (refused end) g h = absurd (did_ok r.owner.name end rest h)

  none_ok : (deeds : List Deed) → Goes (command.replies_at_once own replies.Ebadf) deeds (answers next replies.Ok) → ⊥
  none_ok [] g = let e : replies.Ok ≡ replies.Ebadf = ap (λ (r : Replied). r.reply) g in absurd (cc)
  none_ok (d ∷ deeds) g = g

  -- so of the request that is there
  abbrev SomeHanded : Option Mine → List Deed → Type 0
  SomeHanded o deeds = (r : Mine) × (o ≡ Some r) × Handed r name deeds

  command_handed : (o : Option Mine) (deeds : List Deed) → Goes (command.ack_command header own name o) deeds (answers next replies.Ok) → SomeHanded o deeds
  command_handed None deeds g = absurd (none_ok deeds g)
  command_handed (Some r) deeds g =
      let reply : Did → Rattle.table_model.specs.Asking.Asking Replied = λ did. ends (command.ack_reply own r.owner.name did) in
      let two : InTwo reply (op.ack header.shape header.seed r (open_named own r.owner.origin) name own.mark) deeds (answers next replies.Ok) =
      goes_apart reply (op.ack header.shape header.seed r (open_named own r.owner.origin) name own.mark) deeds (answers next replies.Ok) g in
      (r, refl, subst (Handed r name) (sym two.joined) (did_handed r two.first two.rest two.did two.goes two.then_))

-- The names

named_by : (own : Own) (name : Option ℕ) (r : Mine) → option_and_then (λ n. find (is_named n) own.sockets) name ≡ Some r → name ≡ Some r.owner.name
named_by own None r e = absurd (cc)
named_by own (Some n) r e = ap Some (sym (eqb-true r.owner.name n (found_passes (is_named n) own.sockets r e)))

-- an open socket has the name for which its label stands
names_open : (own : Own) (label : List ℕ) (r : Mine) → open_socket own label ≡ Some r → name_of own label ≡ Some r.owner.name
names_open own label r e = named_by own (name_of own label) r e

-- Of what the plan did

record Fits (l r : Owner) : Type 0 where
  net : l.net ≡ r.net
  port : l.port ≡ r.port

fits_of : (l r : Owner) → is_no_ack l r ≡ false → Fits l r
fits_of l r e =
    let at = own_end r in
    let from = other_end r in
    let both = or_parts (is_no_accept l from at) (not (l.net == r.net)) e in
    let one = or_parts (not (is_listening l.state) || not (at.port == l.port) || (at.addr == 0) || not ((l.addr == 0) || (l.addr == at.addr))) (is_no_end from) both.0 in
    let two = or_parts (not (is_listening l.state) || not (at.port == l.port) || (at.addr == 0)) (not ((l.addr == 0) || (l.addr == at.addr))) one.0 in
    let three = or_parts (not (is_listening l.state) || not (at.port == l.port)) (at.addr == 0) two.0 in
    let four = or_parts (not (is_listening l.state)) (not (at.port == l.port)) three.0 in
    record { net = eqb-true l.net r.net (not-false (l.net == r.net) both.1); port = sym (eqb-true r.port l.port (not-false (r.port == l.port) four.1)) }

one_tuple : (l : Owner) (name mark : ℕ) (r : Mine) → Fits l r.owner → same_cards (full_card (heir_owner l name mark r.owner)) (card_of kinds.Request r) ≡ true
one_tuple l name mark r f =
    let o = r.owner in
    and_from ((l.net == o.net) && (o.addr == o.addr) && (l.port == o.port) && (o.remote == o.remote)) (o.rport == o.rport)
    (and_from ((l.net == o.net) && (o.addr == o.addr) && (l.port == o.port)) (o.remote == o.remote)
    (and_from ((l.net == o.net) && (o.addr == o.addr)) (l.port == o.port)
    (and_from (l.net == o.net) (o.addr == o.addr) (eq-eqb l.net o.net f.net) (eq-eqb o.addr o.addr refl))
    (eq-eqb l.port o.port f.port)) (eq-eqb o.remote o.remote refl)) (eq-eqb o.rport o.rport refl)

one_home : (shape : Shape) (seed : ℕ) (l : Owner) (name mark : ℕ) (r : Mine) → Fits l r.owner → home shape seed (full_card (heir_owner l name mark r.owner)) ≡ home shape seed (card_of kinds.Request r)
unfolding home
one_home shape seed l name mark r f = λ i. tuple_home shape seed r.owner.addr (f.port i) r.owner.remote r.owner.rport (f.net i)

module _ (In : Change → Type 0) (shape : Shape) (seed : ℕ) (serial : IsSerial In shape seed) where
  handed_over : (asked : Option ℕ) (r : Mine) (name : ℕ) (deeds : List Deed) → asked ≡ Some r.owner.name → Handed r name deeds → Pairs (λ (n m : ℕ). n < m) (drawn_in deeds) → ((c : Change) → Among (changes_in deeds) c → In c) → HandsOver In asked name deeds
  handed_over asked r name deeds named h ascend there =
      let child : Among (changes_in deeds) h.hash = subst (λ (ds : List Deed). Among (changes_in ds) h.hash) (sym h.are) (inl refl) in
      let gone : Among (changes_in deeds) h.unhash = subst (λ (ds : List Deed). Among (changes_in ds) h.unhash) (sym h.are) (inr (inl refl)) in
      let drawn : Pairs (λ (n m : ℕ). n < m) (drawn_in (added h.wish (hashed h.hash None) ∷ left h.unhash ∷ h.rest)) = subst (λ (ds : List Deed). Pairs (λ (n m : ℕ). n < m) (drawn_in ds)) h.are ascend in
      let one : EndsOne In h.unhash = serial.ends h.unhash (there h.unhash gone) h.went.unhash.act in
      let card : one.life.card ≡ card_of kinds.Request r = sym one.card ∙ h.went.unhash.card_is in
      let fits : Fits h.listener r.owner = fits_of h.listener r.owner h.fits in
      record {
        request = one.life;
        is_request = (one.is, ap (λ (c : Card). c.kind) card);
        is_asked = named ∙ ap (λ (c : Card). Some c.name) (sym card);
        child = h.hash;
        is_child = (record { there = there h.hash child; hash = h.came.act }, ap (λ (c : Card). c.kind) h.came.card_is);
        is_given = ap (λ (c : Card). c.name) h.came.card_is;
        unhash = h.unhash;
        ends = one.ends;
        did = (child, gone);
        tuple = ap (λ (c : Card). same_cards c one.life.card) h.came.card_is ∙ ap (same_cards (full_card (heir_owner h.listener name h.mark r.owner))) card ∙ one_tuple h.listener name h.mark r fits;
        bucket = serial.homes h.hash (there h.hash child) ∙ ap (home shape seed) h.came.card_is ∙ one_home shape seed h.listener name h.mark r fits ∙ ap (home shape seed) (sym card) ∙ sym (serial.homes one.life one.is.there);
        order = drawn.1.0.0;
      }

  module _ (header : Header) (clock : ℕ) where
    by_command : (own next : Own) (c : Command) (reply : Reply) (deeds : List Deed) → Goes (plan header own c) deeds (answers next reply) → Pairs (λ (n m : ℕ). n < m) (drawn_in deeds)
        → ((x : Change) → Among (changes_in deeds) x → In x) → HandsOverAs In own c reply deeds
    unfolding plan
    by_command own next (commands.Ack request label) replies.Ok deeds g ascend there =
        let h = command_handed header (with_label own label) next (next_name own) (open_socket own request) deeds g in
        handed_over (name_of own request) h.0 (next_name own) deeds (names_open own request h.0 h.1) h.2 ascend there
    by_command own next _ _ deeds g ascend there = tt

    abbrev AreIn : List Deed → Type 0
    AreIn deeds = (c : Change) → Among (changes_in deeds) c → In c

    first_in : (first rest : List Deed) → AreIn (first ++ rest) → AreIn first
    first_in first rest h c a = h c (subst (λ (l : List Change). Among l c) (sym (changes_more first rest)) (among_left c (changes_in first) (changes_in rest) a))

    rest_in : (first rest : List Deed) → AreIn (first ++ rest) → AreIn rest
    rest_in first rest h c a = h c (subst (λ (l : List Change). Among l c) (sym (changes_more first rest)) (among_right c (changes_in first) (changes_in rest) a))

    steps_hand : (own : Own) (cs : List Command) (steps : List Step) → AreStepsOf header In own cs steps → Each (IsSpanned clock) steps → AreIn (deeds_of steps) → StepsHandOver header In own steps
    steps_hand own [] [] a spans there = tt
    steps_hand own (c ∷ cs) (s ∷ steps) a spans there =
        let did : HandsOverAs In own c s.reply s.deeds = by_command own a.0 c s.reply s.deeds a.1.goes spans.0.ascend (first_in s.deeds (deeds_of steps) there) in
        let same : c ≡ s.command = sym a.1.command_is in (
          subst (λ (x : Command). HandsOverAs In own x s.reply s.deeds) same did,
          (
            a.0,
            subst (λ (x : Command). Goes (plan header own x) s.deeds (answers a.0 s.reply)) same a.1.goes,
            steps_hand a.0 cs steps a.2 spans.1 (rest_in s.deeds (deeds_of steps) there),
          ),
        )
    steps_hand own [] (s ∷ steps) a spans there = absurd a
    steps_hand own (c ∷ cs) [] a spans there = absurd a

    sections_hand : (number : ℕ) (scripts : List (List Command)) (sections : List (List Step)) → AreSectionsOf header In number scripts sections → Each (AreInOrder clock) sections
        → AreIn (deeds_of (flat_map (λ steps. steps) sections)) → SectionsHandOver header In number sections
    sections_hand number [] [] a spans there = tt
    sections_hand number (cs ∷ scripts) (steps ∷ sections) a spans there =
        let others : List Step = flat_map (λ steps. steps) sections in
        let all : AreIn (deeds_of steps ++ deeds_of others) = subst AreIn (Rattle.std.proofs.lemmas.Grind.flat_map-append (λ (s : Step). s.deeds) steps others) there in (
          steps_hand (new_own header number) cs steps a.0 spans.0.each (first_in (deeds_of steps) (deeds_of others) all),
          sections_hand (number + 1) scripts sections a.1 spans.1 (rest_in (deeds_of steps) (deeds_of others) all),
        )
    sections_hand number [] (steps ∷ sections) a spans there = absurd a
    sections_hand number (cs ∷ scripts) [] a spans there = absurd a

pub acks_hand_over : AcksHandOver
acks_hand_over script capture race l =
    sections_hand (Among race.book) race.shape race.seed l.serial script.header race.clock 1 script.sections race.sections l.sections l.spans
    (λ c a. among_same race.book (changes_in (deeds_of (steps_of race))) l.book.each_once c a)
