-- `close` of an open socket of a section's own, carried out on tables that mean a list.
use Rattle.std.proofs.Common.{◌≡◌, ◌≢◌, ℕ, ◌+◌, ◌%◌, ◌^◌, ◌≤◌, Bool, true, false, ◌&&◌, cond, length, Option, Some, None, refl, ap, sym, ◌∙◌, subst, arith}
use Rattle.std.proofs.lemmas.Bool.{both_ways}
use Rattle.list_words.specs.Lists.{Each}
use Rattle.list_words.proofs.EachLemmas.{each_weaken}
use Rattle.sock_card.specs.declared.card.Card.{Card}
use Rattle.sock_card.specs.declared.card.Kind.{Kind}
use Rattle.sock_card.specs.declared.card.Kind.TheVariants as kinds
use Rattle.sock_card.specs.declared.owner.State.{State}
use Rattle.sock_card.specs.declared.owner.State.TheVariants as states
use Rattle.sock_card.specs.Conflict.{owner_key, is_time_wait, is_listening}
use Rattle.bind_buckets.specs.declared.request.Answer.{Answer}
use Rattle.bind_buckets.specs.declared.request.Request.TheVariants as requests
use Rattle.chain_book.specs.declared.outcome.Place.{Place}
use Rattle.chain_book.specs.Chains.{Chains, Outcome as ChainOutcome, slot_outcome, hashed}
use Rattle.chain_book.specs.Slots.{free_slot}
use Rattle.flat_list.specs.declared.command.Reply.TheVariants as replies
use Rattle.flat_list.specs.declared.socket.Socket.{Socket}
use Rattle.flat_list.specs.Flat.{Flat}
use Rattle.flat_list.specs.Groups.{has_member}
use Rattle.flat_list.specs.Outcome.{Outcome, changed, removed, has_slot}
use Rattle.flat_list.specs.Sockets.{has_name, is_owner, kind_of, put, is_open_in}
use Rattle.flat_list.specs.Sound.{IsSound}
use Rattle.flat_list.specs.Step as flat_step
use Rattle.table_model.specs.Asking.{Asking, ends, and_then}
use Rattle.table_model.specs.Tables.{Tables, with_chains, run}
use Rattle.bind_buckets.specs.BindHash.{asked_at}
use Rattle.table_model.specs.Own.{Own, Mine, card_of}
use Rattle.table_model.specs.Operations.{Closed, waiting, no_slot, close_as, close_full, close_hashed, wait_of, waits_in, when_done}
use Rattle.table_model.specs.Commands.{Replied, close_command, close_reply}
use Rattle.table_model.specs.Means.{ChainsMean, Means, StandsAs, stands_in_some}
use Rattle.table_model.proofs.parts.Chains.{weighing}
use Rattle.table_model.proofs.parts.Cards.{card_weight, cards_weigh}
use Rattle.table_model.proofs.questions.Inserts.{room_found, room_none}
use Rattle.table_model.proofs.lists.Listed.{Listed, put_weighs}
use Rattle.table_model.proofs.questions.Requests.{IsDone, to_time_wait_asked}
use Rattle.table_model.proofs.questions.Asked.{with_sockets}
use Rattle.table_model.proofs.parts.Sections.{same_moment}
use Rattle.table_model.proofs.commands.Carried.{Carried}
use Rattle.table_model.proofs.parts.OpenSocket.{IsOpen, OpenBoth}
use Rattle.table_model.proofs.parts.Groups.{others_grouped, groups_stay}
use Rattle.table_model.proofs.questions.WhichGroup.{in_no_group}
use Rattle.table_model.proofs.parts.OwnGoes.{is_awake, own_waits}
use Rattle.table_model.proofs.parts.Handed.{handed, handed_means, stays_handed, words_handed}
use Rattle.table_model.proofs.commands.Drop.{stands_so, carried_unhashed, carried_leave, carried_at_once, carried_portless}

module _ (n : ℕ) (own : Own) (t : Tables) (flat : Flat) (h : Means n own t flat) (near : n ≤ 255) (s : Socket) (extra : ℕ) (place : Place)
    (at : Listed s.owner.name flat.sockets s) (mine : is_open_in n s ≡ true) (stands : StandsAs t.chains (record { owner = s.owner; extra = extra; place = place }) (kind_of s.owner.state)) where
  abbrev m : Mine
  m = record { owner = s.owner; extra = extra; place = place }

  abbrev name : ℕ
  name = s.owner.name

  abbrev w : Mine
  w = wait_of m own.moment

  abbrev card : Card
  card = card_of kinds.TimeWait w

  abbrev next : Closed → Asking Replied
  next closed = ends (close_reply own name closed)

  -- of a full socket
  module _ (is_full : s.owner.state ≡ states.Full) where
    abbrev new : Socket
    new = flat_step.waiting s own.moment

    abbrev after : Flat
    after = with_sockets flat (put new flat.sockets)

    abbrev full_stands : StandsAs t.chains m (Some kinds.Full)
    full_stands = subst (StandsAs t.chains m) (ap kind_of is_full) stands

    owner : is_owner s.owner.state ≡ true
    owner = ap is_owner is_full

    module _ (slot : ℕ) (free : free_slot t.chains.slots ≡ Some slot) where
      -- the chains with its card as a TIME_WAIT's, and without the one before
      abbrev chains : Chains
      chains = handed t.chains flat h.tables.chains h.shape h.sound.names s at extra place kinds.Full full_stands w kinds.TimeWait slot free

      weighs : (f : Card → ℕ) → weighing after f + card_weight flat.groups f s ≡ weighing flat f + f card
      weighs f =
          omega (
            arith,
            cards_weigh flat.groups f (put new flat.sockets),
            cards_weigh flat.groups f flat.sockets,
            put_weighs new (card_weight flat.groups f) s flat.sockets h.sound.names at,
          )

      -- they mean the list in which it waits
      chains_mean : ChainsMean chains after
      chains_mean = handed_means t.chains flat h.tables.chains h.shape h.sound.names s at extra place kinds.Full full_stands w kinds.TimeWait slot free (put new flat.sockets) weighs

      others : (y : Mine) (k : Option Kind) → name ≢ y.owner.name → StandsAs t.chains y k → StandsAs chains y k
      others = stays_handed t.chains flat h.tables.chains h.shape h.sound.names s at extra place kinds.Full full_stands w kinds.TimeWait slot free

      words : (v : ℕ) → v % 2 ^ 64 ≢ name → stands_in_some v t.chains.rows ≡ true → stands_in_some v chains.rows ≡ true
      words = words_handed t.chains flat h.tables.chains h.shape h.sound.names s at extra place kinds.Full full_stands w kinds.TimeWait slot free

      asked : IsDone t.buckets (owner_key s.owner) (requests.ToTimeWait name) after
      asked = to_time_wait_asked t.buckets flat h.tables.owners h.shape.bind h.sound.names name s at owner new refl

      abbrev left : Tables
      left = record { buckets = asked_at t.buckets (owner_key s.owner) (requests.ToTimeWait name); chains = chains }

      abbrev waiter : Mine
      waiter = waits_in flat.header.shape flat.header.seed w slot

      ungrouped : Each (λ g. has_member name g ≡ false) flat.groups
      ungrouped = in_no_group flat h.sound (has_name name) s at (ap (λ (st : State). is_listening st && s.owner.reuseport) is_full)

      left_mean : IsSound after → Means n (close_reply own name (waiting waiter)).own left after
      left_mean sound = record {
        shape = h.shape;
        sound = sound;
        tables = record {
          owners = asked.left.owners;
          chains = chains_mean;
          groups = groups_stay t left flat after h.tables.groups asked.left.groups refl (λ v g st. words v (others_grouped name flat.groups ungrouped (v % 2 ^ 64) g) st);
        };
        own_is = own_waits n own t flat h.own_is h.sound s at mine left own.moment waiter refl refl
            (each_weaken (λ (y : Mine). StandsAs t.chains y (kind_of y.owner.state)) (λ (y : Mine). name ≢ y.owner.name → StandsAs chains y (kind_of y.owner.state)) own.sockets
            (λ y st d. others y (kind_of y.owner.state) d st) h.own_is.stand);
      }

      -- a slot is free: it waits
      waits : Carried n t (and_then (close_full flat.header.shape flat.header.seed m w) next) (changed flat new replies.TimeWait)
      waits = record {
        ended = record { tables = left; result = close_reply own name (waiting waiter) };
        runs =
            ap (λ (o : ChainOutcome). run (with_chains t (hashed t.chains card o)) (and_then (close_hashed flat.header.shape flat.header.seed m w o) next)) (ap (λ (o : Option ℕ). slot_outcome t.chains o None) free)
            ∙ ap (λ (a : Answer). run left (and_then (when_done (ends (waiting waiter)) a) next)) asked.answer;
        reply = refl;
        means = left_mean;
      }

    abbrev outcome_at : ℕ → Bool → Outcome
    outcome_at moment b = cond b (changed flat (flat_step.waiting s moment) replies.TimeWait) (removed flat s (replies.NoSlot flat.header.shape.slots 0))

    -- none is free: it is gone
    goes : free_slot t.chains.slots ≡ None → Carried n t (and_then (close_full flat.header.shape flat.header.seed m w) next) (removed flat s (replies.NoSlot flat.header.shape.slots 0))
    goes none =
        let owned : ℕ = length t.chains.slots.used in
        let c = carried_unhashed n own t flat h near s extra place at mine stands (replies.NoSlot owned 0) kinds.Full
        (λ a. and_then (when_done (ends (no_slot owned 0)) a) next) owner (ap kind_of is_full) refl in
        record {
          ended = c.ended;
          runs =
              ap (λ (o : ChainOutcome). run (with_chains t (hashed t.chains card o)) (and_then (close_hashed flat.header.shape flat.header.seed m w o) next)) (ap (λ (o : Option ℕ). slot_outcome t.chains o None) none)
              ∙ c.runs;
          reply = c.reply ∙ ap (λ k. replies.NoSlot k 0) h.tables.chains.slots;
          means = c.means;
        }

    by_slot : (o : Option ℕ) → free_slot t.chains.slots ≡ o → Carried n t (and_then (close_full flat.header.shape flat.header.seed m w) next) (outcome_at own.moment (has_slot flat))
    by_slot (Some slot) free =
        subst (λ (b : Bool). Carried n t (and_then (close_full flat.header.shape flat.header.seed m w) next) (outcome_at own.moment b)) (sym (room_found t.chains flat h.tables.chains slot free)) (waits slot free)
    by_slot None none =
        subst (λ (b : Bool). Carried n t (and_then (close_full flat.header.shape flat.header.seed m w) next) (outcome_at own.moment b)) (sym (room_none t.chains flat h.tables.chains none)) (goes none)

    closes : Carried n t (and_then (close_full flat.header.shape flat.header.seed m w) next) (flat_step.close_full flat n s)
    closes =
        subst (λ (k : ℕ). Carried n t (and_then (close_full flat.header.shape flat.header.seed m w) next) (outcome_at k (has_slot flat))) (sym (same_moment n own t flat h.own_is)) (by_slot (free_slot t.chains.slots) refl)

  abbrev plan_as : State → Asking Replied
  plan_as state = and_then (close_as flat.header.shape flat.header.seed state m own.moment) next

  by_state : (state : State) → s.owner.state ≡ state → Carried n t (plan_as state) (flat_step.close_socket flat n s state)
  by_state states.Unbound e = carried_at_once n own t flat h near s extra place at mine stands replies.Ok (ap is_owner e) (ap kind_of e)
  by_state states.Bound e = carried_leave n own t flat h near s extra place at mine stands replies.Ok _ (ap is_owner e) (ap kind_of e) refl
  by_state states.Listening e = carried_unhashed n own t flat h near s extra place at mine stands replies.Ok kinds.Listen _ (ap is_owner e) (ap kind_of e) refl
  by_state states.Full e = closes e
  by_state states.Request e = carried_portless n own t flat h near s extra place at mine stands replies.Ok kinds.Request (ap is_owner e) (ap kind_of e)
  by_state states.TimeWait e = absurd (both_ways (is_time_wait s.owner.state) (is_awake n own t flat h.own_is h.sound s at mine) (ap is_time_wait e))

  -- whatever its state is
  pub closed : Carried n t (plan_as s.owner.state) (flat_step.close_socket flat n s s.owner.state)
  closed = by_state s.owner.state refl

module _ (n : ℕ) (own : Own) (t : Tables) (flat : Flat) (h : Means n own t flat) (near : n ≤ 255) where
  -- `close` of a socket that is open here and in the list
  pub close_open : (m : Mine) (s : Socket) → IsOpen n t flat m s → Carried n t (close_command flat.header own (Some m)) (flat_step.close flat n (Some s))
  close_open m s is =
      subst (λ (x : Mine). Carried n t (close_command flat.header own (Some x)) (flat_step.close flat n (Some s))) (λ i. record m { owner = sym is.same i })
      (closed n own t flat h near s m.extra m.place is.listed is.mine (stands_so n t flat m s is))

  -- and where neither has one
  pub close_none : Carried n t (close_command flat.header own None) (flat_step.close flat n None)
  close_none = record { ended = record { tables = t; result = record { own = own; reply = replies.Ebadf } }; runs = refl; reply = refl; means = λ sound. h }

  pub close_both : (o : Option Mine) (p : Option Socket) → OpenBoth n t flat o p → Carried n t (close_command flat.header own o) (flat_step.close flat n p)
  close_both None None both = close_none
  close_both (Some m) (Some s) both = close_open m s both
  close_both None (Some s) both = absurd both
  close_both (Some m) None both = absurd both
