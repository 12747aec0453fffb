-- `ack` of an open socket of a section's own, carried out on tables that mean a list.
use Rattle.std.proofs.Common.{◌≡◌, ◌≢◌, ℕ, ◌+◌, ◌%◌, ◌^◌, ◌<◌, ◌==◌, Bool, true, false, ◌&&◌, not, cond, List, [], ◌∷◌, ◌++◌, length, Option, Some, None, refl, ap, sym, subst, arith}
use Rattle.std.proofs.lemmas.Bool.{or_parts, eq-eqb}
use Rattle.list_words.specs.Lists.{Each}
use Rattle.list_words.proofs.EachLemmas.{each_weaken, each_filter, each_found}
use Rattle.sock_card.specs.declared.card.Card.{Card}
use Rattle.sock_card.specs.declared.card.Kind.TheVariants as kinds
use Rattle.sock_card.specs.declared.owner.Owner.{Owner}
use Rattle.sock_card.specs.declared.owner.State.{State}
use Rattle.sock_card.specs.declared.owner.State.TheVariants as states
use Rattle.sock_card.specs.Conflict.{owner_key, is_listening}
use Rattle.bind_buckets.specs.declared.request.Request.{Request}
use Rattle.bind_buckets.specs.declared.request.Request.TheVariants as requests
use Rattle.bind_buckets.specs.declared.request.Answer.TheVariants as answers
use Rattle.bind_buckets.specs.BindHash.{asked_at}
use Rattle.chain_book.specs.declared.outcome.Place.{Place}
use Rattle.chain_book.specs.Chains.{Chains, put, full, slot_outcome}
use Rattle.chain_book.specs.Slots.{free_slot}
use Rattle.flat_list.specs.declared.command.Reply.TheVariants as replies
use Rattle.flat_list.specs.declared.socket.Socket.{Socket}
use Rattle.flat_list.specs.Connect as flat_connect
use Rattle.flat_list.specs.Flat.{Flat}
use Rattle.flat_list.specs.Groups.{has_member}
use Rattle.flat_list.specs.Outcome.{Outcome, unchanged, added, no_slot, has_slot as has_room}
use Rattle.flat_list.specs.Owned.{heir_owner, other_end, own_end, is_no_accept, is_no_ack}
use Rattle.flat_list.specs.Sections.{with_given}
use Rattle.flat_list.specs.Sockets.{has_name, is_owner, kind_of, open_in, without, is_open_in}
use Rattle.flat_list.specs.Sound.{NamesDiffer}
use Rattle.table_model.specs.declared.operation.OpEnd.TheVariants as errors
use Rattle.table_model.specs.Asking.{Asking, ends, and_then}
use Rattle.table_model.specs.Tables.{Tables, Ended, run, with_chains}
use Rattle.table_model.specs.Own as own_words
use Rattle.table_model.specs.Own.{Own, Mine, with_label, open_named}
use Rattle.table_model.specs.Operations.{Did, done, refused, plain, full_card, full_in, when_done, ack_hashed, ack_as, ack_by, ack_from}
use Rattle.table_model.specs.Commands.{Replied, ack_reply}
use Rattle.table_model.specs.Means.{OwnersMean, TablesMean, OwnMeans, Means, StandsAs, owns, stands_in_some}
use Rattle.table_model.proofs.lists.Listed.{Listed, without_weighs}
use Rattle.table_model.proofs.parts.Buckets.{owners_kept}
use Rattle.table_model.proofs.parts.Cards.{card_weight, cards_weigh, added_weighs}
use Rattle.table_model.proofs.parts.Chains.{weighing}
use Rattle.table_model.proofs.parts.Claims.{claim_weight}
use Rattle.table_model.proofs.parts.Groups.{others_grouped, groups_stay}
use Rattle.table_model.proofs.parts.Handed.{handed, handed_means, stays_handed, stands_handed, words_handed}
use Rattle.table_model.proofs.parts.NewSocket.{own_new}
use Rattle.table_model.proofs.parts.OpenSocket.{OpenBoth, open_in_both}
use Rattle.table_model.proofs.parts.OwnGoes.{own_gone}
use Rattle.table_model.proofs.parts.Sections.{own_label}
use Rattle.table_model.proofs.questions.Asked.{with_sockets}
use Rattle.table_model.proofs.questions.Inserts.{room_found, room_none}
use Rattle.table_model.proofs.questions.Requests.{IsDone, inherit_asked}
use Rattle.table_model.proofs.questions.Run.{Comes, comes_ends, comes_adds, comes_asks}
use Rattle.table_model.proofs.questions.WhichGroup.{in_no_group}
use Rattle.table_model.proofs.commands.Accept.{accepts_own}
use Rattle.table_model.proofs.commands.Beside.{EndsSo}
use Rattle.table_model.proofs.commands.Carried.{Carried}
use Rattle.table_model.proofs.commands.Labelled.{new_name, fresh_name, new_section, fresh_wait, given, one_more, refused_means, GoodBy, unless, carried_unless, ends_unless}
use Rattle.table_model.proofs.commands.SocketAndAt.{sections_kept}

-- who may accept at a request's ends has a port
acks_own : (l r : Owner) → is_no_ack l r ≡ false → is_owner l.state ≡ true
acks_own l r h = accepts_own l (other_end r) (own_end r) (or_parts (is_no_accept l (other_end r) (own_end r)) (not (l.net == r.net)) h).0

module _ (n : ℕ) (own : Own) (t : Tables) (flat : Flat) (h : Means n own t flat) (label : List ℕ) (r : Socket) (extra : ℕ) (place : Place)
    (at : Listed r.owner.name flat.sockets r) (mine : is_open_in n r ≡ true) (stands : StandsAs t.chains (record { owner = r.owner; extra = extra; place = place }) (kind_of r.owner.state)) where
  abbrev m : Mine
  m = record { owner = r.owner; extra = extra; place = place }

  -- the request's name
  abbrev name : ℕ
  name = r.owner.name

  abbrev given_so : Flat
  given_so = given n own t flat h label

  abbrev labelled_own : Own
  labelled_own = with_label own label

  abbrev reply : Did → Replied
  reply = ack_reply labelled_own name

  abbrev Good_so : Outcome → Ended Did → Type 0
  Good_so = GoodBy n own t flat h label reply

  -- of a request, by its listener
  module _ (is : r.owner.state ≡ states.Request) (l : Socket) (listed : Listed l.owner.name flat.sockets l) (accepts : is_no_ack l.owner r.owner ≡ false) where
    abbrev stands_there : StandsAs t.chains m (Some kinds.Request)
    stands_there = subst (StandsAs t.chains m) (ap kind_of is) stands

    abbrev child : ℕ → Socket
    child k = flat_connect.heir_of l k r

    abbrev inherit : ℕ → Request
    inherit k = requests.Inherit l.owner.name k 0 r.owner.addr r.owner.remote r.owner.rport

    -- the child comes to its listener's port
    inherits : (k : ℕ) → IsDone t.buckets (owner_key l.owner) (inherit k) (with_sockets flat (flat.sockets ++ child k ∷ []))
    inherits k =
        inherit_asked t.buckets flat h.tables.owners h.shape.bind h.sound.names l.owner.name l listed (acks_own l.owner r.owner accepts) k 0 r.owner.addr r.owner.remote r.owner.rport (child k) refl

    abbrev hands : ℕ → Asking Did
    hands k = ack_as flat.header.shape flat.header.seed m l.owner (child k).owner

    module _ (k : ℕ) (slot : ℕ) (free : free_slot t.chains.slots ≡ Some slot) where
      -- the list with the child in the place of the request
      abbrev after : Flat
      after = with_sockets flat (without name flat.sockets ++ child k ∷ [])

      abbrev chains : Chains
      chains = handed t.chains flat h.tables.chains h.shape h.sound.names r at extra place kinds.Request stands_there (plain (child k).owner) kinds.Full slot free

      -- the tables with the child, and without the request
      abbrev left : Tables
      left = record { buckets = asked_at t.buckets (owner_key l.owner) (inherit k); chains = chains }

      weighs : (f : Card → ℕ) → weighing after f + card_weight flat.groups f r ≡ weighing flat f + f (full_card (child k).owner)
      weighs f =
          omega (
            arith,
            cards_weigh flat.groups f (without name flat.sockets ++ child k ∷ []),
            cards_weigh flat.groups f flat.sockets,
            added_weighs (card_weight flat.groups f) (child k) (without name flat.sockets),
            without_weighs name (card_weight flat.groups f) r flat.sockets h.sound.names at,
            claim_weight f flat.groups (child k) refl,
          )

      owners_left : OwnersMean left.buckets after
      owners_left =
          owners_kept left.buckets (with_sockets flat (flat.sockets ++ child k ∷ [])) (inherits k).left.owners h.shape.bind after refl
          (λ f. omega (
            arith,
            added_weighs (owns f) (child k) (without name flat.sockets),
            added_weighs (owns f) (child k) flat.sockets,
            without_weighs name (owns f) r flat.sockets h.sound.names at,
            ap (λ (st : State). cond {A = ℕ} (is_owner st) (f r.owner) 0) is,
          ))

      words : (v : ℕ) → v % 2 ^ 64 ≢ name → stands_in_some v t.chains.rows ≡ true → stands_in_some v chains.rows ≡ true
      words = words_handed t.chains flat h.tables.chains h.shape h.sound.names r at extra place kinds.Request stands_there (plain (child k).owner) kinds.Full slot free

      ungrouped : Each (λ g. has_member name g ≡ false) flat.groups
      ungrouped = in_no_group flat h.sound (has_name name) r at (ap (λ (st : State). is_listening st && r.owner.reuseport) is)

      tables_left : TablesMean left after
      tables_left = record {
        owners = owners_left;
        chains = handed_means t.chains flat h.tables.chains h.shape h.sound.names r at extra place kinds.Request stands_there (plain (child k).owner) kinds.Full slot free (without name flat.sockets ++ child k ∷ []) weighs;
        groups = groups_stay t left flat after h.tables.groups (inherits k).left.groups refl (λ v g st. words v (others_grouped name flat.groups ungrouped (v % 2 ^ 64) g) st);
      }

      -- the child, with its place
      abbrev comer : Mine
      comer = full_in flat.header.shape flat.header.seed (child k).owner slot

      -- it comes so
      pub comes_so : (P : Ended Did → Type 0) → P (record { tables = left; result = done comer }) → Comes t (hands k) P
      comes_so P good =
          comes_adds t (full_card (child k).owner) (ack_hashed flat.header.shape flat.header.seed m l.owner (child k).owner) (put slot None) P (ap (λ (o : Option ℕ). slot_outcome t.chains o None) free)
          (comes_asks (with_chains t chains) (owner_key l.owner) (inherit k) (when_done (ends (done comer))) answers.Done P (inherits k).answer
          (comes_ends left (done comer) P good))

    -- or no slot is free
    full_up : (k : ℕ) → free_slot t.chains.slots ≡ None → (P : Ended Did → Type 0) → P (record { tables = t; result = refused (errors.Full (length t.chains.slots.used) 0) }) → Comes t (hands k) P
    full_up k none P good =
        comes_adds t (full_card (child k).owner) (ack_hashed flat.header.shape flat.header.seed m l.owner (child k).owner) (full (length t.chains.slots.used) 0) P
        (ap (λ (o : Option ℕ). slot_outcome t.chains o None) none) (comes_ends t (refused (errors.Full (length t.chains.slots.used) 0)) P good)

    ends_by : (k : ℕ) (o : Option ℕ) → free_slot t.chains.slots ≡ o → EndsSo t (hands k)
    ends_by k (Some slot) free = comes_so k slot free (λ e. Unit {0}) tt
    ends_by k None none = full_up k none (λ e. Unit {0}) tt

    -- it comes to an end
    pub hands_ends : (k : ℕ) → EndsSo t (hands k)
    hands_ends k = ends_by k (free_slot t.chains.slots) refl

    module _ (few : length own.labels + 1 < 2 ^ 56) where
      abbrev next : ℕ
      next = new_name n own t flat h

      abbrev new : Socket
      new = child next

      is_new : Each (λ (x : Socket). NamesDiffer x new) flat.sockets
      is_new = fresh_name n own t flat h few

      abbrev out_as : Bool → Outcome
      out_as room = cond (not room) (no_slot given_so) (added (flat_connect.without_request given_so r) new replies.Ok)

      own_left : (slot : ℕ) (free : free_slot t.chains.slots ≡ Some slot) → OwnMeans n (own_words.without labelled_own name) (left next slot free) (flat_connect.without_request given_so r)
      own_left slot free =
          let stays : (y : Mine) → StandsAs t.chains y (kind_of y.owner.state) → name ≢ y.owner.name → StandsAs (chains next slot free) y (kind_of y.owner.state) = λ y st d.
          stays_handed t.chains flat h.tables.chains h.shape h.sound.names r at extra place kinds.Request stands_there (plain new.owner) kinds.Full slot free y (kind_of y.owner.state) d st in
          let gone : OwnMeans n (own_words.without own name) (left next slot free) (with_sockets flat (without name flat.sockets)) =
          own_gone n own t flat h.own_is h.sound r at mine (left next slot free) flat.groups
          (each_weaken (λ (y : Mine). StandsAs t.chains y (kind_of y.owner.state)) (λ (y : Mine). name ≢ y.owner.name → StandsAs (chains next slot free) y (kind_of y.owner.state)) own.sockets stays h.own_is.stand) in
          own_label n (own_words.without own name) (left next slot free) (with_sockets flat (without name flat.sockets)) gone label (one_more n own t flat h label)

      other_name : name ≢ new.owner.name
      other_name = each_found (λ (x : Socket). x.owner.name ≢ next) (has_name name) flat.sockets r is_new at

      came_means : (slot : ℕ) (free : free_slot t.chains.slots ≡ Some slot) → Good_so (out_as true) (record { tables = left next slot free; result = done (comer next slot free) })
      came_means slot free = (
        refl,
        λ sound. record {
          shape = h.shape;
          sound = sound;
          tables = sections_kept (left next slot free) (after next slot free) (with_given flat.header n label flat.sections) (tables_left next slot free);
          own_is =
              let kept = own_left slot free in
              own_new n (own_words.without labelled_own name) (left next slot free) (left next slot free) (flat_connect.without_request given_so r) new (comer next slot free) kept refl
              (eq-eqb _ n (new_section n own t flat h few)) refl
              (each_filter (λ (x : Socket). NamesDiffer x new) (λ y. not (has_name name y)) flat.sockets is_new) (fresh_wait n own t flat h)
              (stands_handed t.chains flat h.tables.chains h.shape h.sound.names r at extra place kinds.Request stands_there (plain new.owner) kinds.Full slot free other_name) kept.stand;
        },
      )

      by_slot : (o : Option ℕ) → free_slot t.chains.slots ≡ o → Comes t (hands next) (Good_so (out_as (has_room flat)))
      by_slot (Some slot) free =
          subst (λ (b : Bool). Comes t (hands next) (Good_so (out_as b))) (sym (room_found t.chains flat h.tables.chains slot free)) (comes_so next slot free (Good_so (out_as true)) (came_means slot free))
      by_slot None none =
          subst (λ (b : Bool). Comes t (hands next) (Good_so (out_as b))) (sym (room_none t.chains flat h.tables.chains none))
          (full_up next none (Good_so (out_as false)) (ap (λ (k : ℕ). replies.Enfile k 0) h.tables.chains.slots, refused_means n own t flat h label))

      -- the child comes in the place of the request, as in the list
      pub hands_over : Comes t (hands next) (Good_so (flat_connect.hand_over given_so r new))
      hands_over = by_slot (free_slot t.chains.slots) refl

  abbrev plan_by : ℕ → Option Mine → Asking Replied
  plan_by k o = and_then (ack_by flat.header.shape flat.header.seed m o k 0) (λ did. ends (reply did))

  -- by the listener's owner
  abbrev plan_at : ℕ → Owner → Asking Replied
  plan_at k l = unless n own t flat h label reply (is_no_ack l r.owner) (ack_as flat.header.shape flat.header.seed m l (heir_owner l k 0 r.owner))

  not_so : Carried n t (ends (reply (refused errors.Inval))) (unchanged given_so replies.Einval)
  not_so = record { ended = record { tables = t; result = reply (refused errors.Inval) }; runs = refl; reply = refl; means = refused_means n own t flat h label }

  listener_by : r.owner.state ≡ states.Request → length own.labels + 1 < 2 ^ 56 → (o : Option Mine) (p : Option Socket) → OpenBoth n t flat o p
      → Carried n t (plan_by (new_name n own t flat h) o) (flat_connect.ack_by given_so (new_name n own t flat h) r p)
  listener_by is few None None both = not_so
  listener_by is few (Some x) (Some l) both =
      let k : ℕ = new_name n own t flat h in
      subst (λ (a : Owner). Carried n t (plan_at k a) (flat_connect.ack_by given_so k r (Some l))) (sym both.same)
      (carried_unless n own t flat h label reply refl (is_no_ack l.owner r.owner) (ack_as flat.header.shape flat.header.seed m l.owner (heir_owner l.owner k 0 r.owner))
      (flat_connect.hand_over given_so r (flat_connect.heir_of l k r)) (λ accepts. hands_over is l both.listed accepts few))
  listener_by is few None (Some l) both = absurd both
  listener_by is few (Some x) None both = absurd both

  abbrev plan_as : ℕ → State → Asking Replied
  plan_as k state = and_then (ack_from flat.header.shape flat.header.seed state m (open_named labelled_own r.owner.origin) k 0) (λ did. ends (reply did))

  by_state : length own.labels + 1 < 2 ^ 56 → (state : State) → r.owner.state ≡ state
      → Carried n t (plan_as (new_name n own t flat h) state) (flat_connect.ack_socket given_so n (new_name n own t flat h) r state)
  by_state few states.Request e =
      listener_by e few (open_named own r.owner.origin) (open_in n r.owner.origin flat.sockets) (open_in_both n own t flat h.own_is h.sound.names r.owner.origin)
  by_state few states.Unbound e = not_so
  by_state few states.Bound e = not_so
  by_state few states.Listening e = not_so
  by_state few states.Full e = not_so
  by_state few states.TimeWait e = not_so

  -- whatever its state is
  pub acked : length own.labels + 1 < 2 ^ 56 → Carried n t (plan_as (new_name n own t flat h) r.owner.state) (flat_connect.ack given_so n (new_name n own t flat h) (Some r))
  acked few = by_state few r.owner.state refl

  abbrev Ended_so : Asking Replied → Type 0
  Ended_so plan = (ended : Ended Replied) × (run t plan ≡ Some ended)

  ends_not : Ended_so (ends (reply (refused errors.Inval)))
  ends_not = (record { tables = t; result = reply (refused errors.Inval) }, refl)

  listener_ends : r.owner.state ≡ states.Request → (k : ℕ) (o : Option Mine) (p : Option Socket) → OpenBoth n t flat o p → Ended_so (plan_by k o)
  listener_ends is k None None both = ends_not
  listener_ends is k (Some x) (Some l) both =
      subst (λ (a : Owner). Ended_so (plan_at k a)) (sym both.same)
      (ends_unless n own t flat h label reply (is_no_ack l.owner r.owner) (ack_as flat.header.shape flat.header.seed m l.owner (heir_owner l.owner k 0 r.owner))
      (λ accepts. hands_ends is l both.listed accepts k))
  listener_ends is k None (Some l) both = absurd both
  listener_ends is k (Some x) None both = absurd both

  state_ends : (k : ℕ) (state : State) → r.owner.state ≡ state → Ended_so (plan_as k state)
  state_ends k states.Request e =
      listener_ends e k (open_named own r.owner.origin) (open_in n r.owner.origin flat.sockets) (open_in_both n own t flat h.own_is h.sound.names r.owner.origin)
  state_ends k states.Unbound e = ends_not
  state_ends k states.Bound e = ends_not
  state_ends k states.Listening e = ends_not
  state_ends k states.Full e = ends_not
  state_ends k states.TimeWait e = ends_not

  -- it comes to an end, whatever the child's name
  pub acked_ends : (k : ℕ) → Ended_so (plan_as k r.owner.state)
  acked_ends k = state_ends k r.owner.state refl
