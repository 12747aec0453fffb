-- `bind`, carried out on tables that mean a list.
use Rattle.std.proofs.Common.{◌≡◌, ℕ, ◌==◌, Bool, true, false, ◌&&◌, not, cond, List, find, Option, None, Some, ◌⊎◌, inl, inr, refl, ap, sym, ◌∙◌, subst, arith}
use Rattle.list_words.specs.Lists.{Pairs, total}
use Rattle.sock_card.specs.declared.card.Card.{Card}
use Rattle.sock_card.specs.declared.owner.State.{State}
use Rattle.sock_card.specs.declared.owner.State.TheVariants as states
use Rattle.sock_card.specs.Conflict.{bind_key, is_time_wait}
use Rattle.bind_buckets.specs.declared.request.Request.{Request}
use Rattle.bind_buckets.specs.declared.request.Request.TheVariants as requests
use Rattle.bind_buckets.specs.declared.request.Answer.{Answer}
use Rattle.bind_buckets.specs.Journal.{Standing}
use Rattle.chain_book.specs.declared.outcome.Place.{Place}
use Rattle.flat_list.specs.declared.command.End.{End}
use Rattle.flat_list.specs.declared.command.Reply.TheVariants as replies
use Rattle.flat_list.specs.declared.header.First.TheVariants as firsts
use Rattle.flat_list.specs.declared.socket.Socket.{Socket}
use Rattle.flat_list.specs.Flat.{Flat}
use Rattle.flat_list.specs.Groups.{Group}
use Rattle.flat_list.specs.Look.{cards_of}
use Rattle.flat_list.specs.Outcome.{Outcome, draw, changed, unchanged}
use Rattle.flat_list.specs.Owned.{addressed, bound_at}
use Rattle.flat_list.specs.Sockets.{is_owner, put, is_refused, kind_of}
use Rattle.flat_list.specs.Sound.{IsSound, NamesDiffer}
use Rattle.flat_list.specs.Step as flat_step
use Rattle.flat_list.specs.Step.{bind, bind_socket, bind_given, bind_search, bind_found, at_address, at_end, at_port, suits_bind}
use Rattle.table_model.specs.declared.operation.OpEnd.TheVariants as errors
use Rattle.table_model.specs.Asking.{Asking, ends, asks, and_then}
use Rattle.table_model.specs.Tables.{Tables, with_buckets, run}
use Rattle.bind_buckets.specs.BindHash.{asked_at}
use Rattle.table_model.specs.Own.{Own, Mine, ports_of, with_socket}
use Rattle.table_model.specs.Operations.{Did, done, refused, plain, bind_any, bind_as, bind_answered, search_bind, bound}
use Rattle.table_model.specs.Commands.{Replied, bind_command, bind_reply, after_search, is_unbound}
use Rattle.table_model.specs.Means.{TablesMean, OwnMeans, Means, IsShape, owns}
use Rattle.table_model.proofs.lists.Listed.{Listed, put_weighs}
use Rattle.table_model.proofs.questions.Asked.{with_sockets}
use Rattle.table_model.proofs.questions.Requests.{Left, IsDone, IsInUse, bind_asked}
use Rattle.table_model.proofs.questions.Search.{Searched, searched}
use Rattle.table_model.proofs.parts.Own.{own_put}
use Rattle.table_model.proofs.parts.OpenSocket.{IsOpen, OpenBoth}
use Rattle.table_model.proofs.parts.Sections.{with_sections, same_ports, own_drawn, drawn_sockets}
use Rattle.table_model.proofs.commands.Carried.{run_and_then, goes_on, Carried, groups_kept, cards_kept, own_kept}
use Rattle.table_model.proofs.parts.Cards.{card_weight, cards_weigh}

-- a socket that isn't hashed changes no card as it becomes another that isn't
pub unhashed_put : (groups : List Group) (f : Card → ℕ) (new s : Socket) (xs : List Socket) → Pairs NamesDiffer xs → Listed new.owner.name xs s
    → kind_of s.owner.state ≡ None → kind_of new.owner.state ≡ None → total f (cards_of groups (put new xs)) ≡ total f (cards_of groups xs)
unhashed_put groups f new s xs names at was is =
    let old : card_weight groups f s ≡ 0 = rw was refl in
    let now : card_weight groups f new ≡ 0 = rw is refl in
    omega (arith, cards_weigh groups f (put new xs), cards_weigh groups f xs, put_weighs new (card_weight groups f) s xs names at, old, now)

-- buckets changed, and one socket that has become bound
module _ (n : ℕ) (own : Own) (t : Tables) (flat : Flat) (shape : IsShape flat.header) (tables : TablesMean t flat) (own_is : OwnMeans n own t flat) (names : Pairs NamesDiffer flat.sockets) where
  -- nothing is bound
  pub unbound_means : (buckets : List Standing) → Left t.buckets buckets flat → IsSound flat → Means n own (with_buckets t buckets) flat
  unbound_means buckets left sound = record {
    shape = shape;
    sound = sound;
    tables = record { owners = left.owners; chains = tables.chains; groups = groups_kept t buckets flat flat left.groups refl tables.groups };
    own_is = own_kept n own t buckets flat own_is;
  }

  -- one socket is
  pub bound_means : (buckets : List Standing) (s : Socket) (addr port : ℕ) → Listed s.owner.name flat.sockets s → s.owner.state ≡ states.Unbound
      → Left t.buckets buckets (with_sockets flat (put (at_port s addr port) flat.sockets)) → IsSound (with_sockets flat (put (at_port s addr port) flat.sockets))
      → Means n (with_socket own (plain (bound_at s.owner addr port))) (with_buckets t buckets) (with_sockets flat (put (at_port s addr port) flat.sockets))
  bound_means buckets s addr port at unbound left sound =
      let new : Socket = at_port s addr port in
      let after : Flat = with_sockets flat (put new flat.sockets) in
      record {
        shape = shape;
        sound = sound;
        tables = record {
          owners = left.owners;
          chains = cards_kept t.chains flat after refl (λ f. unhashed_put flat.groups f new s flat.sockets names at (ap kind_of unbound) refl) tables.chains;
          groups = groups_kept t buckets flat after left.groups refl tables.groups;
        };
        own_is = own_put n own t (with_buckets t buckets) flat new s (plain (bound_at s.owner addr port)) own_is names at refl refl (ap is_time_wait unbound) refl tt own_is.stand;
      }

  -- one has an address, and no port yet
  pub addressed_means : (s : Socket) (addr : ℕ) → Listed s.owner.name flat.sockets s → s.owner.state ≡ states.Unbound
      → IsSound (with_sockets flat (put (at_address s addr) flat.sockets))
      → Means n (with_socket own (plain (addressed s.owner addr))) t (with_sockets flat (put (at_address s addr) flat.sockets))
  addressed_means s addr at unbound sound =
      let new : Socket = at_address s addr in
      let after : Flat = with_sockets flat (put new flat.sockets) in
      record {
        shape = shape;
        sound = sound;
        tables = record {
          owners = record {
            count = tables.owners.count;
            owners = λ f.
                omega (
                  arith,
                  tables.owners.owners f,
                  put_weighs new (owns f) s flat.sockets names at,
                  ap (λ (st : State). cond {A = ℕ} (is_owner st) (f s.owner) 0) unbound,
                );
            keys = tables.owners.keys;
          };
          chains = cards_kept t.chains flat after refl (λ f. unhashed_put flat.groups f new s flat.sockets names at (ap kind_of unbound) refl) tables.chains;
          groups = groups_kept t t.buckets flat after refl refl tables.groups;
        };
        own_is = own_put n own t t flat new s (plain (addressed s.owner addr)) own_is names at refl refl (ap is_time_wait unbound) refl tt own_is.stand;
      }

module _ (n : ℕ) (own : Own) (t : Tables) (flat : Flat) (h : Means n own t flat) (s : Socket) (extra : ℕ) (place : Place)
    (at : Listed s.owner.name flat.sockets s) (end : End) where
  abbrev m : Mine
  m = record { owner = s.owner; extra = extra; place = place }

  abbrev next : Own → Did → Asking Replied
  next own' did = ends (bind_reply own' did)

  -- to a port that is given
  module _ (unbound : s.owner.state ≡ states.Unbound) where
    abbrev request : Request
    request = requests.Bind (bound_at s.owner end.addr end.port)

    abbrev asked : List Standing
    asked = asked_at t.buckets (bind_key end.port s.owner.net) request

    abbrev given_plan : Asking Replied
    given_plan = and_then (asks (bind_key end.port s.owner.net) request (bind_answered s.owner end)) (next own)

    abbrev then_ : Answer → Asking Replied
    then_ answer = and_then (bind_answered s.owner end answer) (next own)

    abbrev given_as : Bool → Outcome
    given_as b = cond b (unchanged flat replies.Eaddrinuse) (changed flat (at_end s end) (replies.Port end.port))

    given_by : ((is_refused (at_end s end).owner flat.sockets ≡ false) × IsDone t.buckets (bind_key end.port s.owner.net) request (with_sockets flat (put (at_end s end) flat.sockets)))
        ⊎ ((is_refused (at_end s end).owner flat.sockets ≡ true) × IsInUse t.buckets (bind_key end.port s.owner.net) request flat)
        → Carried n t given_plan (bind_given flat s end)
    given_by (inl x) = subst (Carried n t given_plan) (sym (ap given_as x.0)) record {
      ended = record { tables = with_buckets t asked; result = bind_reply own (done (plain (bound_at s.owner end.addr end.port))) };
      runs = ap (λ (answer : Answer). run (with_buckets t asked) (then_ answer)) x.1.answer;
      reply = refl;
      means = bound_means n own t flat h.shape h.tables h.own_is h.sound.names asked s end.addr end.port at unbound x.1.left;
    }
    given_by (inr x) = subst (Carried n t given_plan) (sym (ap given_as x.0)) record {
      ended = record { tables = with_buckets t asked; result = bind_reply own (refused (errors.InUse x.1.other)) };
      runs = ap (λ (answer : Answer). run (with_buckets t asked) (then_ answer)) x.1.answer;
      reply = refl;
      means = unbound_means n own t flat h.shape h.tables h.own_is h.sound.names asked x.1.left;
    }

    given : Carried n t given_plan (bind_given flat s end)
    given = given_by (bind_asked t.buckets flat h.tables.owners h.shape.bind h.sound.names (at_end s end) s at (ap is_owner unbound) refl)

    -- to one that a search finds
    abbrev drawn : Flat
    drawn = (draw flat n flat.header.offset).flat

    abbrev sections : Flat
    sections = with_sections flat drawn.sections

    abbrev own' : Own
    own' = after_search true own

    abbrev searching : List ℕ → Asking Did
    searching ports = search_bind s.owner end.addr (bound s.owner end.addr) (ends (refused errors.NoPort)) ports

    abbrev found_out : Option ℕ → Flat → Outcome
    found_out o f = bind_found (record { port = o; flat = f }) s end.addr o

    tables' : TablesMean t sections
    tables' = record {
      owners = record { count = h.tables.owners.count; owners = h.tables.owners.owners; keys = h.tables.owners.keys };
      chains = cards_kept t.chains flat sections refl (λ f. refl) h.tables.chains;
      groups = groups_kept t t.buckets flat sections refl refl h.tables.groups;
    }

    own_is' : OwnMeans n own' t sections
    own_is' = subst (OwnMeans n own' t) (drawn_sockets flat n flat.header.offset) (own_drawn n own t flat h.own_is)

    search_by : (ports : List ℕ) (o : Option ℕ) → Searched Did flat h.shape.bind h.sound.names s at (ap is_owner unbound) end.addr (bound s.owner end.addr) (ends (refused errors.NoPort)) (run t (searching ports)) t o
        → Carried n t (and_then (searching ports) (next own')) (found_out o sections)
    search_by ports None g = record {
      ended = record { tables = with_buckets t g.buckets; result = bind_reply own' (refused errors.NoPort) };
      runs = run_and_then (next own') t (searching ports) ∙ ap (goes_on (next own')) (sym g.runs);
      reply = refl;
      means = unbound_means n own' t sections h.shape tables' own_is' h.sound.names g.buckets
          record { owners = record { count = g.left.owners.count; owners = g.left.owners.owners; keys = g.left.owners.keys }; groups = g.left.groups };
    }
    search_by ports (Some port) g = record {
      ended = record { tables = with_buckets t g.buckets; result = bind_reply own' (done (plain (bound_at s.owner end.addr port))) };
      runs = run_and_then (next own') t (searching ports) ∙ ap (goes_on (next own')) (sym g.runs);
      reply = refl;
      means = bound_means n own' t sections h.shape tables' own_is' h.sound.names g.buckets s end.addr port at unbound
          record { owners = record { count = g.left.owners.count; owners = g.left.owners.owners; keys = g.left.owners.keys }; groups = g.left.groups };
    }

    search : Carried n t (and_then (searching (ports_of own.offsets firsts.Odd)) (next own')) (bind_search flat n s end.addr)
    search =
        let suits : ℕ → Bool = suits_bind flat s end.addr in
        let ports : List ℕ = ports_of own.offsets firsts.Odd in
        let plan : Asking Replied = and_then (searching ports) (next own') in
        let there : Carried n t plan (found_out (find suits ports) sections) =
        search_by ports (find suits ports) (searched Did flat h.shape.bind h.sound.names s at (ap is_owner unbound) end.addr (bound s.owner end.addr) (ends (refused errors.NoPort)) (run t (searching ports)) ports t h.tables.owners refl) in
        subst (λ (o : Option ℕ). Carried n t plan (found_out o drawn)) (ap (find suits) (same_ports n own t flat h.own_is firsts.Odd))
        (subst (λ (f : Flat). Carried n t plan (found_out (find suits ports) f)) (sym (drawn_sockets flat n flat.header.offset)) there)

    -- or to none yet
    late : Carried n t (next own (done (plain (addressed s.owner end.addr)))) (changed flat (at_address s end.addr) (replies.Port 0))
    late = record {
      ended = record { tables = t; result = bind_reply own (done (plain (addressed s.owner end.addr))) };
      runs = refl;
      reply = refl;
      means = addressed_means n own t flat h.shape h.tables h.own_is h.sound.names s end.addr at unbound;
    }

    any_by : (b : Bool)
        → Carried n t (and_then (cond b (ends (done (plain (addressed s.owner end.addr)))) (searching (ports_of own.offsets firsts.Odd))) (next (after_search (not b) own)))
        (cond b (changed flat (at_address s end.addr) (replies.Port 0)) (bind_search flat n s end.addr))
    any_by true = late
    any_by false = search

    unbound_by : (b : Bool)
        → Carried n t (and_then (cond b (bind_any s.owner end.addr (ports_of own.offsets firsts.Odd)) (asks (bind_key end.port s.owner.net) request (bind_answered s.owner end))) (next (after_search (b && not s.owner.noport) own)))
        (cond b (flat_step.bind_any flat n s end.addr) (bind_given flat s end))
    unbound_by true = any_by s.owner.noport
    unbound_by false = given

  -- of a socket in that state
  abbrev plan_as : State → Asking Replied
  plan_as state =
      and_then (bind_as state m end (ports_of own.offsets firsts.Odd)) (next (after_search (is_unbound state && (end.port == 0) && not s.owner.noport) own))

  not_unbound : Carried n t (next own (refused errors.Inval)) (unchanged flat replies.Einval)
  not_unbound = record {
    ended = record { tables = t; result = bind_reply own (refused errors.Inval) };
    runs = refl;
    reply = refl;
    means = λ sound. h;
  }

  by_state : (state : State) → s.owner.state ≡ state → Carried n t (plan_as state) (bind_socket flat n s state end)
  by_state states.Unbound e = unbound_by e (end.port == 0)
  by_state states.Bound e = not_unbound
  by_state states.Listening e = not_unbound
  by_state states.Full e = not_unbound
  by_state states.TimeWait e = not_unbound
  by_state states.Request e = not_unbound

  -- `bind` of an open socket
  pub bind_mine : Carried n t (bind_command own (Some m) end) (bind flat n (Some s) end)
  bind_mine = by_state s.owner.state refl

module _ (n : ℕ) (own : Own) (t : Tables) (flat : Flat) (h : Means n own t flat) (end : End) where
  -- `bind` of a socket that is open here and in the list
  pub bind_open : (m : Mine) (s : Socket) → IsOpen n t flat m s → Carried n t (bind_command own (Some m) end) (bind flat n (Some s) end)
  bind_open m s is =
      subst (λ (x : Mine). Carried n t (bind_command own (Some x) end) (bind flat n (Some s) end)) (λ i. record m { owner = sym is.same i })
      (bind_mine n own t flat h s m.extra m.place is.listed end)

  -- and where neither has one
  pub bind_none : Carried n t (bind_command own None end) (bind flat n None end)
  bind_none = record { ended = record { tables = t; result = record { own = own; reply = replies.Ebadf } }; runs = refl; reply = refl; means = λ sound. h }

  -- `bind` of what a label names, here and in the list
  pub bind_both : (o : Option Mine) (p : Option Socket) → OpenBoth n t flat o p → Carried n t (bind_command own o end) (bind flat n p end)
  bind_both None None both = bind_none
  bind_both (Some m) (Some s) both = bind_open m s both
  bind_both None (Some s) both = absurd both
  bind_both (Some m) None both = absurd both
