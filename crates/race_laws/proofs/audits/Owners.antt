-- The operations of a section: sockets whose numbers are in range hash cards whose numbers are, and stay so.
use Rattle.std.proofs.Common.{◌≡◌, ℕ, ◌+◌, ◌-◌, ◌*◌, ◌/◌, ◌%◌, ◌<◌, ◌≤◌, ◌^◌, ◌==◌, ◌||◌, not, Bool, true, false, cond, List, [], ◌∷◌, length, filter, Option, None, Some, if◌then◌else◌, arith}
use Rattle.std.specs.List.{range_with_len}
use Rattle.std.proofs.lemmas.Nat.{mod_below}
use Rattle.list_words.specs.Lists.{Each}
use Rattle.list_words.proofs.EachLemmas.{each_append, each_filter, each_map, each_of_all}
use Rattle.sock_card.specs.declared.card.Card.{Card}
use Rattle.sock_card.specs.declared.card.Kind.{Kind}
use Rattle.sock_card.specs.declared.card.Kind.TheVariants as kinds
use Rattle.sock_card.specs.declared.owner.Owner.{Owner}
use Rattle.sock_card.specs.declared.owner.State.{State}
use Rattle.sock_card.specs.declared.owner.State.TheVariants as states
use Rattle.bind_buckets.specs.declared.request.Answer.{Answer}
use Rattle.bind_buckets.specs.declared.request.Answer.TheVariants as answers
use Rattle.chain_book.specs.declared.outcome.Hashed.{Hashed}
use Rattle.chain_book.specs.declared.outcome.Replace.{Replace}
use Rattle.chain_book.specs.declared.shape.Shape.{Shape}
use Rattle.chain_book.specs.Chains.{Outcome, put, taken, full}
use Rattle.flat_list.specs.declared.command.End.{End}
use Rattle.flat_list.specs.declared.header.Range.{Range}
use Rattle.flat_list.specs.declared.header.First.{First}
use Rattle.flat_list.specs.declared.header.First.TheVariants as firsts
use Rattle.flat_list.specs.Ports.{size, half_from, whole_order, port_order, is_reserved, odd, even}
use Rattle.flat_list.specs.Owned.{addressed, bound_at, connected_to, connected_at, child_owner, request_owner, heir_owner, own_end, other_end, source_of, is_no_end, is_no_accept, is_no_ack, card_as}
use Rattle.flat_list.specs.Sections.{name_at}
use Rattle.table_model.specs.declared.operation.OpEnd.{OpEnd}
use Rattle.table_model.specs.declared.operation.OpEnd.TheVariants as errors
use Rattle.table_model.specs.Asking.{Asking, ends}
use Rattle.table_model.specs.Own.{Mine, is_over}
use Rattle.table_model.specs.Operations as op
use Rattle.table_model.specs.Operations.{Did, done, refused, Closed, gone, waiting, no_slot, search_bind, bound, bind_answered, bind_any, bind_unbound, bind_as, bind, give_up, listener, source_to, drop, wait_of, reaped_next, reap_each, reap, listens_in, listen_hashed, listen_in, listen_answered, listen_at, listen_found, listen_as, listen, full_in, full_done, connect_hashed, connect_bound, connect_tried, connect_free, search_connect, connect_from, connect, accept_hashed, accept_as, accept, request_in, syn_hashed, syn_as, syn, ack_hashed, ack_as, ack_by, ack_from, ack, waits_in, close_hashed, close_full, close_as, close}
use Rattle.race_record.proofs.Walks.{tries_if, whenever_done, searched, left_port, dropped, replaced_then}
use Rattle.race_laws.proofs.audits.Asked.{Asked, asking, OutcomeFits}

-- the name is that of one of the first so many labels of the section of that number
pub record IsNamed (number count name : ℕ) : Type 0 where
  pub place : ℕ
  pub below : place < count
  pub is : name ≡ name_at number place

abbrev pub IsPort : ℕ → Type 0
IsPort port = port < 2 ^ 16

abbrev pub Ports : List ℕ → Type 0
Ports ports = Each (λ (port : ℕ). port < 2 ^ 16) ports

pub record RangeFits (r : Range) : Type 0 where
  pub order : r.low ≤ r.high
  pub high : r.high < 2 ^ 16

half_fits : (r : Range) → RangeFits r → (distance : ℕ) → Ports (half_from r distance)
half_fits r f distance = each_map IsPort (λ k. r.low + (distance + 2 * k) % size r) (range_with_len 0 (size r / 2))
    (each_of_all (λ k. r.low + (distance + 2 * k) % size r < 2 ^ 16) (range_with_len 0 (size r / 2))
    (λ k. let n : ℕ = distance + 2 * k in let m : ℕ = size r in let pos : 0 < size r = omega (arith, f.order) in
    let b : n % (r.high - r.low + 1) < r.high - r.low + 1 = mod_below n (r.high - r.low + 1) (omega arith) in omega (arith, f.order, f.high, b)))

whole_fits : (r : Range) → RangeFits r → (offset : ℕ) (first : First) → Ports (whole_order r offset first)
whole_fits r f offset firsts.Odd = each_append IsPort (half_from r (odd offset)) (half_from r (even offset)) (half_fits r f (odd offset)) (half_fits r f (even offset))
whole_fits r f offset firsts.Even = each_append IsPort (half_from r (even offset)) (half_from r (odd offset)) (half_fits r f (even offset)) (half_fits r f (odd offset))

pub ports_fit : (r : Range) → RangeFits r → (offset : ℕ) (first : First) → Ports (port_order r offset first)
ports_fit r f offset first = each_filter IsPort (λ port. not (is_reserved r port)) (whole_order r offset first) (whole_fits r f offset first)

kept_shorter : {A : Type 0} (keep : Bool) (x : A) (kept xs : List A) → length kept ≤ length xs → length (cond keep (x ∷ kept) kept) ≤ length (x ∷ xs)
kept_shorter true x kept xs l = omega (arith, l)
kept_shorter false x kept xs l = omega (arith, l)

pub shorter : {A : Type 0} (test : A → Bool) (xs : List A) → length (filter test xs) ≤ length xs
shorter test [] = omega arith
shorter test (x ∷ xs) = kept_shorter (test x) x (filter test xs) xs (shorter test xs)

-- an end that is in range
pub record EndIn (address number : ℕ) : Type 0 where
  pub addr : address < 2 ^ 32
  pub port : number < 2 ^ 16

module _ (number count : ℕ) where
  -- an owner whose numbers are in range
  pub record OwnerFits (a : Owner) : Type 0 where
    pub local : EndIn a.addr a.port
    pub remote : EndIn a.remote a.rport
    pub dev : a.dev < 2 ^ 16
    pub net : a.net < 16
    pub named : IsNamed number count a.name

  -- and such a card
  pub record IsGood (c : Card) : Type 0 where
    pub local : EndIn c.local c.lport
    pub remote : EndIn c.remote c.rport
    pub dev : c.dev < 2 ^ 16
    pub net : c.net < 16
    pub named : IsNamed number count c.name

  good : (kind : Kind) (a : Owner) (extra : ℕ) → OwnerFits a → IsGood (card_as kind a extra)
  good kind a extra f = record { local = f.local; remote = f.remote; dev = f.dev; net = f.net; named = f.named }

  ended : (a : Owner) (addr port : ℕ) (state : State) → OwnerFits a → EndIn addr port → OwnerFits (record a { addr = addr; port = port; state = state })
  ended a addr port state f e = record { local = e; remote = f.remote; dev = f.dev; net = f.net; named = f.named }

  abbrev pub RefusalFits : OpEnd → Type 0
  RefusalFits (errors.Full owned held) = (owned < 2 ^ 64) × (held < 2 ^ 64)
  RefusalFits _ = Unit {0}

  abbrev pub DidFits : Did → Type 0
  DidFits (done m) = OwnerFits m.owner
  DidFits (refused end) = RefusalFits end

  abbrev pub ClosedFits : Closed → Type 0
  ClosedFits gone = Unit {0}
  ClosedFits (waiting m) = OwnerFits m.owner
  ClosedFits (no_slot owned held) = (owned < 2 ^ 64) × (held < 2 ^ 64)

  -- a socket, if there is one, whose numbers are
  abbrev pub OpenFits : Option Mine → Type 0
  OpenFits None = Unit {0}
  OpenFits (Some m) = OwnerFits m.owner

  abbrev AskedWell : {R : Type 0} → (R → Type 0) → Asking R → Type 0
  AskedWell = Asked IsGood

  abbrev Didn : Asking Did → Type 0
  Didn = Asked IsGood DidFits

  bind_said : (a : Owner) (end : End) → OwnerFits a → EndIn end.addr end.port → (answer : Answer) → Didn (bind_answered a end answer)
  bind_said a end f e answers.Done = ended a end.addr end.port states.Bound f e
  bind_said a end f e (answers.InUse name) = tt
  bind_said a end f e _ = tt

  any_fits : (a : Owner) (addr : ℕ) (ports : List ℕ) → OwnerFits a → addr < 2 ^ 32 → Ports ports → Didn (bind_any a addr ports)
  any_fits a addr ports f e p =
      tries_if (asking IsGood) (λ s. DidFits) tt a.noport (ends (done (op.plain (addressed a addr)))) (search_bind a addr (bound a addr) (ends (refused errors.NoPort)) ports)
      (ended a addr 0 states.Unbound f (record { addr = e; port = omega arith }))
      (searched (asking IsGood) (λ s. DidFits) tt IsPort a addr (bound a addr) (ends (refused errors.NoPort)) ports (λ port l. ended a addr port states.Bound f (record { addr = e; port = l })) tt p)

  unbound_fits : (a : Owner) (end : End) (ports : List ℕ) → OwnerFits a → EndIn end.addr end.port → Ports ports → Didn (bind_unbound a end ports)
  unbound_fits a end ports f e p =
      tries_if (asking IsGood) (λ s. DidFits) tt (end.port == 0) (bind_any a end.addr ports) _ (any_fits a end.addr ports f e.addr p) (bind_said a end f e)

  bind_fits_as : (state : State) (m : Mine) (end : End) (ports : List ℕ) → OwnerFits m.owner → EndIn end.addr end.port → Ports ports → Didn (bind_as state m end ports)
  bind_fits_as states.Unbound m end ports f e p = unbound_fits m.owner end ports f e p
  bind_fits_as _ m end ports f e p = tt

  pub bind_fits : (m : Mine) (end : End) (ports : List ℕ) → OwnerFits m.owner → EndIn end.addr end.port → Ports ports → Didn (bind m end ports)
  bind_fits m end ports f e p = bind_fits_as m.owner.state m end ports f e p

  pub drop_fits : {R : Type 0} (Q : R → Type 0) (m : Mine) (result : R) → Q result → AskedWell Q (drop m result)
  drop_fits Q m result q = dropped (asking IsGood) (λ s. Q) tt m.owner.state m result q

  give_up_fits : (took : Bool) (a : Owner) (end : OpEnd) → RefusalFits end → Didn (give_up took a end)
  give_up_fits true a end h = whenever_done (asking IsGood) (λ s. DidFits) tt (ends (refused end)) h
  give_up_fits false a end h = h

  module _ (shape : Shape) (seed : ℕ) where
    listened_fits : (took : Bool) (a : Owner) (l : Mine) → OwnerFits l.owner → (o : Outcome) → OutcomeFits o → Didn (listen_hashed shape seed took a l o)
    listened_fits took a l f (put slot None) h = whenever_done (asking IsGood) (λ s. DidFits) tt (ends (done (listens_in shape seed l slot))) f
    listened_fits took a l f (put slot (Some old)) h = tt
    listened_fits took a l f (taken name) h = tt
    listened_fits took a l f (full owned held) h = give_up_fits took a (errors.Full owned held) h

    listen_in_fits : (took : Bool) (a : Owner) (l : Mine) → OwnerFits l.owner → Didn (listen_in shape seed took a l)
    listen_in_fits took a l f = (good kinds.Listen l.owner l.extra f, listened_fits took a l f)

    listener_fits : (a : Owner) (group : Option ℕ) → OwnerFits a → OwnerFits (listener a group).owner
    listener_fits a group f = record { local = f.local; remote = f.remote; dev = f.dev; net = f.net; named = f.named }

    listen_said : (took : Bool) (a : Owner) → OwnerFits a → (answer : Answer) → Didn (listen_answered shape seed took a answer)
    listen_said took a f (answers.Group group) = listen_in_fits took a (listener a group) (listener_fits a group f)
    listen_said took a f (answers.InUse name) = give_up_fits took a (errors.InUse name) tt
    listen_said took a f answers.GroupFull = give_up_fits took a errors.GroupFull tt
    listen_said took a f answers.GroupsFull = give_up_fits took a errors.GroupsFull tt
    listen_said took a f _ = tt

    listen_at_fits : (took : Bool) (a : Owner) → OwnerFits a → Didn (listen_at shape seed took a)
    listen_at_fits took a f = listen_said took a f

    listen_found_fits : (a : Owner) → OwnerFits a → (port : ℕ) → port < 2 ^ 16 → Didn (listen_found shape seed a port)
    listen_found_fits a f port l = listen_at_fits true (bound_at a a.addr port) (ended a a.addr port states.Bound f (record { addr = f.local.addr; port = l }))

    listen_fits_as : (state : State) (m : Mine) (ports : List ℕ) → OwnerFits m.owner → Ports ports → Didn (listen_as shape seed state m ports)
    listen_fits_as states.Unbound m ports f p =
        searched (asking IsGood) (λ s. DidFits) tt IsPort m.owner m.owner.addr (listen_found shape seed m.owner) (ends (refused errors.NoPort)) ports (listen_found_fits m.owner f) tt p
    listen_fits_as states.Bound m ports f p = listen_at_fits false m.owner f
    listen_fits_as states.Listening m ports f p = f
    listen_fits_as _ m ports f p = tt

    pub listen_fits : (m : Mine) (ports : List ℕ) → OwnerFits m.owner → Ports ports → Didn (listen shape seed m ports)
    listen_fits m ports f p = listen_fits_as m.owner.state m ports f p

    full_fits : (a : Owner) (slot : ℕ) (old : Option Hashed) → OwnerFits a → Didn (full_done shape seed a slot old)
    full_fits a slot old f = replaced_then (asking IsGood) (λ s. DidFits) tt old (ends (done (full_in shape seed a slot))) f

    connected_fits : (a : Owner) → OwnerFits a → (o : Outcome) → OutcomeFits o → Didn (connect_hashed shape seed a o)
    connected_fits a f (put slot old) h = whenever_done (asking IsGood) (λ s. DidFits) tt (full_done shape seed a slot old) (full_fits a slot old f)
    connected_fits a f (taken name) h = tt
    connected_fits a f (full owned held) h = h

    tried_fits : (a : Owner) (next : Asking Did) → OwnerFits a → Didn next → (o : Outcome) → OutcomeFits o → Didn (connect_tried shape seed a next o)
    tried_fits a next f n (put slot old) h = whenever_done (asking IsGood) (λ s. DidFits) tt (full_done shape seed a slot old) (full_fits a slot old f)
    tried_fits a next f n (taken name) h = n
    tried_fits a next f n (full owned held) h = h

    free_fits : (a : Owner) (moment : ℕ) (rule : Replace) (next : Asking Did) → OwnerFits a → Didn next → (answer : Answer) → Didn (connect_free shape seed a moment rule next answer)
    free_fits a moment rule next f n answers.Done = (good kinds.Full a 0 f, tried_fits a next f n)
    free_fits a moment rule next f n (answers.NotFree name) = n
    free_fits a moment rule next f n _ = tt

    joined : (a : Owner) (source : ℕ) (to : End) → OwnerFits a → source < 2 ^ 32 → EndIn to.addr to.port → OwnerFits (connected_to a source to)
    joined a source to f s e = record { local = record { addr = s; port = f.local.port }; remote = e; dev = f.dev; net = f.net; named = f.named }

    joined_at : (a : Owner) (source port : ℕ) (to : End) → OwnerFits a → source < 2 ^ 32 → port < 2 ^ 16 → EndIn to.addr to.port → OwnerFits (connected_at a source port to)
    joined_at a source port to f s l e = record { local = record { addr = s; port = l }; remote = e; dev = f.dev; net = f.net; named = f.named }

    search_connects : (a : Owner) (source : ℕ) (to : End) (moment : ℕ) (rule : Replace) (ports : List ℕ) → OwnerFits a → source < 2 ^ 32 → EndIn to.addr to.port → Ports ports → Didn (search_connect shape seed a source to moment rule ports)
    search_connects a source to moment rule [] f s e p = tt
    search_connects a source to moment rule (port ∷ ports) f s e p =
        free_fits (connected_at a source port to) moment rule (search_connect shape seed a source to moment rule ports) (joined_at a source port to f s p.0 e) (search_connects a source to moment rule ports f s e p.1)

    abbrev pub SourceIn : Option ℕ → Type 0
    SourceIn None = Unit {0}
    SourceIn (Some source) = source < 2 ^ 32

    bound_connects : (a : Owner) (moment : ℕ) (rule : Replace) → OwnerFits a → Didn (connect_bound shape seed a moment rule)
    bound_connects a moment rule f = (good kinds.Full a 0 f, connected_fits a f)

    connect_fits_from : (state : State) (a : Owner) (source : Option ℕ) (to : End) (moment : ℕ) (rule : Replace) (ports : List ℕ) → OwnerFits a → SourceIn source → EndIn to.addr to.port → Ports ports → Didn (connect_from shape seed state a source to moment rule ports)
    connect_fits_from states.Unbound a (Some source) to moment rule ports f s e p = search_connects a source to moment rule ports f s e p
    connect_fits_from states.Bound a (Some source) to moment rule ports f s e p = bound_connects (connected_to a source to) moment rule (joined a source to f s e)
    connect_fits_from states.Unbound a None to moment rule ports f s e p = tt
    connect_fits_from states.Bound a None to moment rule ports f s e p = tt
    connect_fits_from _ a source to moment rule ports f s e p = tt

    one_of : (b : Bool) (x y : Option ℕ) → SourceIn x → SourceIn y → SourceIn (if b then x else y)
    one_of true x y p q = p
    one_of false x y p q = q

    source_fits : (addr : ℕ) (from : Option ℕ) → addr < 2 ^ 32 → SourceIn from → SourceIn (source_of addr from)
    source_fits addr None a f = one_of (addr == 0) None (Some addr) tt a
    source_fits addr (Some from) a f = one_of (from == 0) None (if (addr == 0) || (addr == from) then Some from else None) tt (one_of ((addr == 0) || (addr == from)) (Some from) None f tt)

    pub connect_fits : (m : Mine) (from : Option ℕ) (to : End) (moment : ℕ) (rule : Replace) (ports : List ℕ) → OwnerFits m.owner → SourceIn from → EndIn to.addr to.port → Ports ports → Didn (connect shape seed m from to moment rule ports)
    connect_fits m from to moment rule ports f s e p =
        connect_fits_from m.owner.state m.owner (source_to m.owner from to) to moment rule ports f
        (one_of (is_no_end to) None (source_of m.owner.addr from) tt (source_fits m.owner.addr from f.local.addr s)) e p

    accepted_fits : (l child : Owner) → OwnerFits child → (o : Outcome) → OutcomeFits o → Didn (accept_hashed shape seed l child o)
    accepted_fits l child f (put slot old) h = whenever_done (asking IsGood) (λ s. DidFits) tt (full_done shape seed child slot old) (full_fits child slot old f)
    accepted_fits l child f (taken name) h = tt
    accepted_fits l child f (full owned held) h = h

    child_fits : (l : Owner) (name mark : ℕ) (from at : End) → OwnerFits l → IsNamed number count name → EndIn from.addr from.port → EndIn at.addr at.port → OwnerFits (child_owner l name mark from at)
    child_fits l name mark from at f n e k = record { local = record { addr = k.addr; port = f.local.port }; remote = e; dev = f.dev; net = f.net; named = n }

    pub accept_fits : (l : Mine) (name mark : ℕ) (from at : End) → OwnerFits l.owner → IsNamed number count name → EndIn from.addr from.port → EndIn at.addr at.port → Didn (accept shape seed l name mark from at)
    accept_fits l name mark from at f n e k =
        tries_if (asking IsGood) (λ s. DidFits) tt (is_no_accept l.owner from at) (ends (refused errors.Inval)) (accept_as shape seed l.owner (child_owner l.owner name mark from at)) tt
        (good kinds.Full (child_owner l.owner name mark from at) 0 (child_fits l.owner name mark from at f n e k), accepted_fits l.owner (child_owner l.owner name mark from at) (child_fits l.owner name mark from at f n e k))

    request_fits : (l : Owner) (name mark : ℕ) (from at : End) → OwnerFits l → IsNamed number count name → EndIn from.addr from.port → EndIn at.addr at.port → OwnerFits (request_owner l name mark from at)
    request_fits l name mark from at f n e k = let c = child_fits l name mark from at f n e k in record { local = c.local; remote = c.remote; dev = c.dev; net = c.net; named = c.named }

    requested_fits : (r : Owner) → OwnerFits r → (o : Outcome) → OutcomeFits o → Didn (syn_hashed shape seed r o)
    requested_fits r f (put slot old) h = replaced_then (asking IsGood) (λ s. DidFits) tt old (ends (done (request_in shape seed r slot))) f
    requested_fits r f (taken name) h = tt
    requested_fits r f (full owned held) h = h

    pub syn_fits : (l : Mine) (name mark : ℕ) (from at : End) → OwnerFits l.owner → IsNamed number count name → EndIn from.addr from.port → EndIn at.addr at.port → Didn (syn shape seed l name mark from at)
    syn_fits l name mark from at f n e k =
        let r = request_owner l.owner name mark from at in
        tries_if (asking IsGood) (λ s. DidFits) tt (is_no_accept l.owner from at) (ends (refused errors.Inval)) (syn_as shape seed r) tt
        (good kinds.Request r 0 (request_fits l.owner name mark from at f n e k), requested_fits r (request_fits l.owner name mark from at f n e k))

    handed_fits : (r : Mine) (l child : Owner) → OwnerFits child → (o : Outcome) → OutcomeFits o → Didn (ack_hashed shape seed r l child o)
    handed_fits r l child f (put slot None) h = whenever_done (asking IsGood) (λ s. DidFits) tt (ends (done (full_in shape seed child slot))) f
    handed_fits r l child f (put slot (Some old)) h = tt
    handed_fits r l child f (taken name) h = tt
    handed_fits r l child f (full owned held) h = h

    heir_fits : (l : Owner) (name mark : ℕ) (r : Owner) → OwnerFits l → IsNamed number count name → OwnerFits r → OwnerFits (heir_owner l name mark r)
    heir_fits l name mark r f n g = child_fits l name mark (other_end r) (own_end r) f n g.remote g.local

    ack_fits_by : (r : Mine) (l : Option Mine) (name mark : ℕ) → OwnerFits r.owner → OpenFits l → IsNamed number count name → Didn (ack_by shape seed r l name mark)
    ack_fits_by r None name mark f g n = tt
    ack_fits_by r (Some l) name mark f g n =
        let child = heir_owner l.owner name mark r.owner in
        tries_if (asking IsGood) (λ s. DidFits) tt (is_no_ack l.owner r.owner) (ends (refused errors.Inval)) (ack_as shape seed r l.owner child) tt
        (good kinds.Full child 0 (heir_fits l.owner name mark r.owner g n f), handed_fits r l.owner child (heir_fits l.owner name mark r.owner g n f))

    ack_fits_from : (state : State) (r : Mine) (l : Option Mine) (name mark : ℕ) → OwnerFits r.owner → OpenFits l → IsNamed number count name → Didn (ack_from shape seed state r l name mark)
    ack_fits_from states.Request r l name mark f g n = ack_fits_by r l name mark f g n
    ack_fits_from _ r l name mark f g n = tt

    pub ack_fits : (r : Mine) (l : Option Mine) (name mark : ℕ) → OwnerFits r.owner → OpenFits l → IsNamed number count name → Didn (ack shape seed r l name mark)
    ack_fits r l name mark f g n = ack_fits_from r.owner.state r l name mark f g n

    closed_fits : (m w : Mine) → OwnerFits w.owner → (o : Outcome) → OutcomeFits o → AskedWell ClosedFits (close_hashed shape seed m w o)
    closed_fits m w f (put slot None) h = whenever_done (asking IsGood) (λ s. ClosedFits) tt (ends (waiting (waits_in shape seed w slot))) f
    closed_fits m w f (put slot (Some old)) h = tt
    closed_fits m w f (taken name) h = tt
    closed_fits m w f (full owned held) h = left_port (asking IsGood) (λ s. ClosedFits) tt m.owner (no_slot owned held) h

    wait_fits : (m : Mine) (moment : ℕ) → OwnerFits m.owner → OwnerFits (wait_of m moment).owner
    wait_fits m moment f = record { local = f.local; remote = f.remote; dev = f.dev; net = f.net; named = f.named }

    close_full_fits : (m w : Mine) → OwnerFits w.owner → AskedWell ClosedFits (close_full shape seed m w)
    close_full_fits m w f = (good kinds.TimeWait w.owner w.extra f, closed_fits m w f)

    close_fits_as : (state : State) (m : Mine) (moment : ℕ) → OwnerFits m.owner → AskedWell ClosedFits (close_as shape seed state m moment)
    close_fits_as states.Full m moment f = close_full_fits m (wait_of m moment) (wait_fits m moment f)
    close_fits_as states.Unbound m moment f = dropped (asking IsGood) (λ s. ClosedFits) tt states.Unbound m gone tt
    close_fits_as states.Bound m moment f = dropped (asking IsGood) (λ s. ClosedFits) tt states.Bound m gone tt
    close_fits_as states.Listening m moment f = dropped (asking IsGood) (λ s. ClosedFits) tt states.Listening m gone tt
    close_fits_as states.TimeWait m moment f = dropped (asking IsGood) (λ s. ClosedFits) tt states.TimeWait m gone tt
    close_fits_as states.Request m moment f = dropped (asking IsGood) (λ s. ClosedFits) tt states.Request m gone tt

    pub close_fits : (m : Mine) (moment : ℕ) → OwnerFits m.owner → AskedWell ClosedFits (close shape seed m moment)
    close_fits m moment f = close_fits_as m.owner.state m moment f

  reaped_fits : (Q : ℕ → Type 0) (w : Mine) (before : ℕ) (next : ℕ → Asking ℕ) (found : Bool) → AskedWell Q (next (before + 1)) → AskedWell Q (next before) → AskedWell Q (reaped_next w before next found)
  reaped_fits Q w before next true h k = λ answer. h
  reaped_fits Q w before next false h k = k

  reap_each_fits : (most : ℕ) (waits : List Mine) (before : ℕ) → before + length waits ≤ most → AskedWell (λ (n : ℕ). n ≤ most) (reap_each waits before)
  reap_each_fits most [] before h = omega (arith, h)
  reap_each_fits most (w ∷ rest) before h =
      λ found. reaped_fits (λ (n : ℕ). n ≤ most) w before (reap_each rest) found
      (reap_each_fits most rest (before + 1) (omega (arith, h))) (reap_each_fits most rest before (omega (arith, h)))

  pub reap_fits : (waits : List Mine) (moment most : ℕ) → length waits ≤ most → AskedWell (λ (n : ℕ). n ≤ most) (reap waits moment)
  reap_fits waits moment most l = reap_each_fits most (filter (is_over moment) waits) 0 (omega (arith, l, shorter (is_over moment) waits))
