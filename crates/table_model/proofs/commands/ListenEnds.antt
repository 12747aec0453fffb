-- The plan of `listen` comes to an end on tables that mean a list, however many labels there are.
use Rattle.std.proofs.Common.{◌≡◌, ℕ, ◌%◌, ◌≤◌, Bool, true, false, cond, ltb, List, length, find, Option, None, Some, ◌⊎◌, inl, inr, refl, ap, sym, ◌∙◌, subst}
use Rattle.sock_card.specs.Limits.{group_room}
use Rattle.sock_card.specs.Conflict.{owner_key}
use Rattle.list_words.specs.Lists.{Pairs}
use Rattle.sock_card.specs.declared.owner.Owner.{Owner}
use Rattle.sock_card.specs.declared.owner.State.{State}
use Rattle.sock_card.specs.declared.owner.State.TheVariants as states
use Rattle.sock_card.specs.declared.card.Kind.TheVariants as kinds
use Rattle.bind_buckets.specs.declared.request.Answer.{Answer}
use Rattle.bind_buckets.specs.declared.request.Answer.TheVariants as answers
use Rattle.bind_buckets.specs.declared.request.Request.TheVariants as requests
use Rattle.bind_buckets.specs.OwnerStep.{Held, group_answer, group_number, members_at, place_for}
use Rattle.chain_book.specs.Chains.{slot_outcome, hashed}
use Rattle.chain_book.specs.declared.outcome.Place.{Place}
use Rattle.chain_book.specs.Slots.{free_slot}
use Rattle.chain_book.specs.declared.shape.Shape.{Shape}
use Rattle.flat_list.specs.declared.command.Command.TheVariants as commands
use Rattle.flat_list.specs.declared.header.First.TheVariants as firsts
use Rattle.flat_list.specs.declared.socket.Socket.{Socket}
use Rattle.flat_list.specs.Flat.{Flat}
use Rattle.flat_list.specs.Sockets.{is_owner, put}
use Rattle.flat_list.specs.Sound.{NamesDiffer}
use Rattle.flat_list.specs.Step.{at_port, suits_bind}
use Rattle.table_model.specs.declared.operation.OpEnd.{OpEnd}
use Rattle.table_model.specs.declared.operation.OpEnd.TheVariants as errors
use Rattle.table_model.specs.Asking.{Asking, ends, and_then}
use Rattle.table_model.specs.Tables.{Tables, Ended, with_buckets, with_chains, run}
use Rattle.bind_buckets.specs.BindHash.{asked_at, standing_at}
use Rattle.table_model.specs.Own.{Own, Mine, card_of, open_socket, ports_of}
use Rattle.table_model.specs.Operations as operations
use Rattle.table_model.specs.Operations.{Did, done, refused, give_up, listener, listen_answered, listen_hashed, listens_in, listen_at, listen_as, search_bind, when_done}
use Rattle.table_model.specs.Commands.{plan, listen_command, bind_reply, after_search, is_unbound}
use Rattle.table_model.specs.Means.{OwnersMean, Means}
use Rattle.table_model.proofs.questions.Asked.{with_sockets}
use Rattle.table_model.proofs.lists.Listed.{Listed, names_put}
use Rattle.table_model.proofs.questions.Requests.{IsInUse, MayTry, may_listen_asked, listen_answer, remove_answer}
use Rattle.table_model.proofs.questions.Search.{Searched, searched}
use Rattle.table_model.proofs.commands.Carried.{run_and_then, goes_on}
use Rattle.table_model.proofs.parts.OpenSocket.{IsOpen, OpenThere, open_there}
use Rattle.table_model.proofs.commands.FirstPlans.{Ends}
use Rattle.table_model.proofs.commands.ListenBound.{Listens, Refuses, tried}
use Rattle.table_model.proofs.commands.Listen.{put_listed}

-- a plan comes to an end on these tables
abbrev ComesToEnd : {R : Type 0} → Tables → Asking R → Type 0
ComesToEnd {R} t p = (ended : Ended R) × (run t p ≡ Some ended)

-- and so does what replies to it
then_replies : (t : Tables) (own : Own) (p : Asking Did) → ComesToEnd t p → ComesToEnd t (and_then p (λ did. ends (bind_reply own did)))
then_replies t own p e =
    (record { tables = e.0.tables; result = bind_reply own e.0.result }, run_and_then (λ did. ends (bind_reply own did)) t p ∙ ap (goes_on (λ did. ends (bind_reply own did))) e.1)

module _ (flat : Flat) (some : 1 ≤ flat.header.shape.bind) (names : Pairs NamesDiffer flat.sockets) (s : Socket) (at : Listed s.owner.name flat.sockets s) (owner : is_owner s.owner.state ≡ true) (shape : Shape) (seed : ℕ) where
  abbrev a : Owner
  a = s.owner

  -- a port is given up
  gives_up : (t : Tables) → OwnersMean t.buckets flat → (end : OpEnd) → ComesToEnd t (give_up true a end)
  gives_up t om end =
      let t' : Tables = with_buckets t (asked_at t.buckets (owner_key a) (requests.Remove a.name)) in
      (record { tables = t'; result = refused end }, ap (λ (x : Answer). run t' (when_done (ends (refused end)) x)) (remove_answer t.buckets flat om some names a.name s at owner))

  -- a listener finds a slot, or none
  slotted : (t : Tables) → OwnersMean t.buckets flat → (l : Mine) (o : Option ℕ) → ComesToEnd (with_chains t (hashed t.chains (card_of kinds.Listen l) (slot_outcome t.chains o None))) (listen_hashed shape seed true a l (slot_outcome t.chains o None))
  slotted t om l None = gives_up t om (errors.Full (length t.chains.slots.used) 0)
  slotted t om l (Some slot) =
      let t' : Tables = with_buckets (with_chains t (hashed t.chains (card_of kinds.Listen l) (slot_outcome t.chains (Some slot) None))) (asked_at t.buckets (owner_key a) (requests.Listen a.name slot)) in
      (record { tables = t'; result = done (listens_in shape seed l slot) }, ap (λ (x : Answer). run t' (when_done (ends (done (listens_in shape seed l slot))) x)) (listen_answer t.buckets flat om some names a.name s at owner slot))

  in_group : (t : Tables) → OwnersMean t.buckets flat → (group : Option ℕ) → ComesToEnd t (listen_answered shape seed true a (answers.Group group))
  in_group t om group = slotted t om (listener a group) (free_slot t.chains.slots)

  by_room : (t : Tables) → OwnersMean t.buckets flat → (group : Option ℕ) (b : Bool) → ComesToEnd t (listen_answered shape seed true a (cond b (answers.Group group) answers.GroupFull))
  by_room t om group true = in_group t om group
  by_room t om group false = gives_up t om errors.GroupFull

  by_place : (t : Tables) → OwnersMean t.buckets flat → (number : ℕ) (h : Held) (place : Option ℕ) → ComesToEnd t (listen_answered shape seed true a (group_answer number h place))
  by_place t om number h None = gives_up t om errors.GroupsFull
  by_place t om number h (Some place) = by_room t om (Some (group_number number place)) (ltb (length (members_at h place)) group_room)

  by_sharing : (t : Tables) → OwnersMean t.buckets flat → (number : ℕ) (h : Held) (b : Bool) → ComesToEnd t (listen_answered shape seed true a (cond b (group_answer number h (place_for h a)) (answers.Group None)))
  by_sharing t om number h true = by_place t om number h (place_for h a)
  by_sharing t om number h false = in_group t om None

  by_asked : (t : Tables) → {free in_way : Type 0} → (free × MayTry t.buckets (owner_key a) (requests.MayListen a.name) a flat) ⊎ (in_way × IsInUse t.buckets (owner_key a) (requests.MayListen a.name) flat) → ComesToEnd t (listen_at shape seed true a)
  by_asked t (inl x) =
      let t' : Tables = with_buckets t (asked_at t.buckets (owner_key a) (requests.MayListen a.name)) in
      subst (λ (y : Answer). ComesToEnd t' (listen_answered shape seed true a y)) (sym x.1.answer)
      (by_sharing t' x.1.left.owners ((owner_key a) % length t.buckets) (standing_at t.buckets (owner_key a)).held a.reuseport)
  by_asked t (inr x) =
      let t' : Tables = with_buckets t (asked_at t.buckets (owner_key a) (requests.MayListen a.name)) in
      subst (λ (y : Answer). ComesToEnd t' (listen_answered shape seed true a y)) (sym x.1.answer) (gives_up t' x.1.left.owners (errors.InUse x.1.other))

  -- once it has its port
  at_port_ends : (t : Tables) → OwnersMean t.buckets flat → ComesToEnd t (listen_at shape seed true a)
  at_port_ends t om = by_asked t (may_listen_asked t.buckets flat om some names a.name s at owner)

module _ (n : ℕ) (own : Own) (t : Tables) (flat : Flat) (h : Means n own t flat) (few : n ≤ 255) (m : Mine) (s : Socket) (is : IsOpen n t flat m s) where
  bound_ends : (bound : s.owner.state ≡ states.Bound) → Listens n own t flat h few s is.listed is.mine bound false ⊎ Refuses n own t flat h few s is.listed is.mine bound false
      → ComesToEnd t (listen_at flat.header.shape flat.header.seed false s.owner)
  bound_ends bound (inl x) = (record { tables = x.tables; result = done x.result }, x.runs)
  bound_ends bound (inr x) = (record { tables = with_buckets t x.buckets; result = refused x.end }, x.runs)

  module _ (unbound : s.owner.state ≡ states.Unbound) where
    abbrev found : ℕ → Asking Did
    found port = operations.listen_found flat.header.shape flat.header.seed s.owner port

    abbrev searching : List ℕ → Asking Did
    searching ports = search_bind s.owner s.owner.addr found (ends (refused errors.NoPort)) ports

    found_ends : (ports : List ℕ) (o : Option ℕ) → Searched Did flat h.shape.bind h.sound.names s is.listed (ap is_owner unbound) s.owner.addr found (ends (refused errors.NoPort)) (run t (searching ports)) t o → ComesToEnd t (searching ports)
    found_ends ports None g = (record { tables = with_buckets t g.buckets; result = refused errors.NoPort }, sym g.runs)
    found_ends ports (Some port) g =
        let s1 : Socket = at_port s s.owner.addr port in
        let flat1 : Flat = with_sockets flat (put s1 flat.sockets) in
        let e : ComesToEnd (with_buckets t g.buckets) (found port) =
        at_port_ends flat1 h.shape.bind (names_put s1 flat.sockets h.sound.names) s1 (put_listed s1 s flat.sockets is.listed) refl flat.header.shape flat.header.seed (with_buckets t g.buckets) g.left.owners in
        (e.0, sym g.runs ∙ e.1)

    search_ends : (ports : List ℕ) → ComesToEnd t (searching ports)
    search_ends ports =
        found_ends ports (find (suits_bind flat s s.owner.addr) ports)
        (searched Did flat h.shape.bind h.sound.names s is.listed (ap is_owner unbound) s.owner.addr found (ends (refused errors.NoPort)) (run t (searching ports)) ports t h.tables.owners refl)

  state_ends : (extra : ℕ) (place : Place) (state : State) → s.owner.state ≡ state → (ports : List ℕ) → ComesToEnd t (listen_as flat.header.shape flat.header.seed state (record { owner = s.owner; extra = extra; place = place }) ports)
  state_ends extra place states.Unbound e ports = search_ends e ports
  state_ends extra place states.Bound e ports = bound_ends e (tried n own t flat h few s is.listed is.mine e false)
  state_ends extra place states.Listening e ports = (record { tables = t; result = done (record { owner = s.owner; extra = extra; place = place }) }, refl)
  state_ends extra place states.Full e ports = (record { tables = t; result = refused errors.Inval }, refl)
  state_ends extra place states.TimeWait e ports = (record { tables = t; result = refused errors.Inval }, refl)
  state_ends extra place states.Request e ports = (record { tables = t; result = refused errors.Inval }, refl)

  mine_ends : ComesToEnd t (listen_command flat.header own (Some m))
  mine_ends =
      subst (λ (x : Mine). ComesToEnd t (listen_command flat.header own (Some x))) (λ i. record m { owner = sym is.same i })
      (then_replies t (after_search (is_unbound s.owner.state) own) (listen_as flat.header.shape flat.header.seed s.owner.state (record { owner = s.owner; extra = m.extra; place = m.place }) (ports_of own.offsets firsts.Odd))
      (state_ends m.extra m.place s.owner.state refl (ports_of own.offsets firsts.Odd)))

module _ (n : ℕ) (own : Own) (t : Tables) (flat : Flat) (h : Means n own t flat) (few : n ≤ 255) where
  open_ends : (o : Option Mine) → OpenThere n t flat o → ComesToEnd t (listen_command flat.header own o)
  open_ends None there = (_, refl)
  open_ends (Some m) there = mine_ends n own t flat h few m there.0 there.1

  -- `listen` comes to an end
  pub listen_ends : (label : List ℕ) → Ends t own flat (commands.Listen label)
  unfolding plan
  listen_ends label = open_ends (open_socket own label) (open_there n own t flat h.own_is h.sound.names label)
