-- `drop` of an open socket of a section's own, carried out on tables that mean a list.
use Rattle.std.proofs.Common.{◌≡◌, ℕ, ◌≤◌, true, false, Option, Some, None, refl, ap, sym, ◌∙◌, subst}
use Rattle.std.proofs.lemmas.Bool.{both_ways}
use Rattle.sock_card.specs.declared.card.Kind.{Kind}
use Rattle.sock_card.specs.declared.card.Kind.TheVariants as kinds
use Rattle.sock_card.specs.declared.owner.State.{State}
use Rattle.sock_card.specs.declared.owner.State.TheVariants as states
use Rattle.sock_card.specs.Conflict.{owner_key, is_time_wait}
use Rattle.bind_buckets.specs.declared.request.Answer.{Answer}
use Rattle.bind_buckets.specs.declared.request.Answer.TheVariants as answers
use Rattle.bind_buckets.specs.declared.request.Request.TheVariants as requests
use Rattle.chain_book.specs.declared.outcome.Place.{Place}
use Rattle.chain_book.specs.Chains.{unhashed}
use Rattle.flat_list.specs.declared.command.Reply.{Reply}
use Rattle.flat_list.specs.declared.command.Reply.TheVariants as replies
use Rattle.flat_list.specs.declared.socket.Socket.{Socket}
use Rattle.flat_list.specs.Flat.{Flat}
use Rattle.flat_list.specs.Outcome.{removed}
use Rattle.flat_list.specs.Sockets.{is_owner, kind_of, is_open_in}
use Rattle.flat_list.specs.Step.{drop}
use Rattle.table_model.specs.Asking.{Asking, ends, asks, unhashes}
use Rattle.table_model.specs.Tables.{Tables, with_chains, run}
use Rattle.bind_buckets.specs.BindHash.{asked_at, answer_at}
use Rattle.table_model.specs.Own as own_words
use Rattle.table_model.specs.Own.{Own, Mine, card_of}
use Rattle.table_model.specs.Operations.{drop_as}
use Rattle.table_model.specs.Commands as commands
use Rattle.table_model.specs.Commands.{Replied, drop_command}
use Rattle.table_model.specs.Means.{Means, StandsAs}
use Rattle.table_model.proofs.lists.Listed.{Listed}
use Rattle.table_model.proofs.questions.Requests.{remove_answer}
use Rattle.table_model.proofs.commands.Carried.{Carried}
use Rattle.table_model.proofs.parts.OpenSocket.{IsOpen, OpenBoth}
use Rattle.table_model.proofs.parts.OwnGoes.{is_awake}
use Rattle.table_model.proofs.commands.Gone.{left_unhashed, left_unhashed_none, leaves_port, leaves_nothing}

module _ (n : ℕ) (own : Own) (t : Tables) (flat : Flat) (h : Means n own t flat) (near : n ≤ 255) (s : Socket) (extra : ℕ) (place : Place)
    (at : Listed s.owner.name flat.sockets s) (mine : is_open_in n s ≡ true) (stands : StandsAs t.chains (record { owner = s.owner; extra = extra; place = place }) (kind_of s.owner.state)) (reply : Reply) where
  abbrev pub m : Mine
  m = record { owner = s.owner; extra = extra; place = place }

  -- what is left of the section's own, and the reply
  abbrev pub left_own : Replied
  left_own = commands.answers (own_words.without own s.owner.name) reply

  abbrev pub removal : (Answer → Asking Replied) → Asking Replied
  removal then_ = asks (owner_key s.owner) (requests.Remove s.owner.name) then_

  answered : is_owner s.owner.state ≡ true → answer_at t.buckets (owner_key s.owner) (requests.Remove s.owner.name) ≡ answers.Done
  answered owner = remove_answer t.buckets flat h.tables.owners h.shape.bind h.sound.names s.owner.name s at owner

  -- its card is unhashed, and it leaves its port
  pub carried_unhashed : (kind : Kind) (then_ : Answer → Asking Replied) → is_owner s.owner.state ≡ true → kind_of s.owner.state ≡ Some kind → then_ answers.Done ≡ ends left_own
      → Carried n t (unhashes place (card_of kind m) (removal then_)) (removed flat s reply)
  carried_unhashed kind then_ owner is done =
      let t' : Tables = record { buckets = asked_at t.buckets (owner_key s.owner) (requests.Remove s.owner.name); chains = unhashed t.chains place } in
      record {
        ended = record { tables = t'; result = left_own };
        runs = ap (λ (answer : Answer). run t' (then_ answer)) (answered owner) ∙ ap (run t') done;
        reply = refl;
        means = leaves_port n own t flat h near s at mine owner (unhashed t.chains place)
            (left_unhashed n own t flat h near s at mine m kind refl (subst (StandsAs t.chains m) is stands));
      }

  -- it has no card, and leaves its port
  pub carried_leave : (then_ : Answer → Asking Replied) → is_owner s.owner.state ≡ true → kind_of s.owner.state ≡ None → then_ answers.Done ≡ ends left_own
      → Carried n t (removal then_) (removed flat s reply)
  carried_leave then_ owner none done =
      let t' : Tables = record { buckets = asked_at t.buckets (owner_key s.owner) (requests.Remove s.owner.name); chains = t.chains } in
      record {
        ended = record { tables = t'; result = left_own };
        runs = ap (λ (answer : Answer). run t' (then_ answer)) (answered owner) ∙ ap (run t') done;
        reply = refl;
        means = leaves_port n own t flat h near s at mine owner t.chains (left_unhashed_none n own t flat h near s at mine none);
      }

  -- it has no port either
  pub carried_at_once : is_owner s.owner.state ≡ false → kind_of s.owner.state ≡ None → Carried n t (ends left_own) (removed flat s reply)
  carried_at_once unbound none = record {
    ended = record { tables = t; result = left_own };
    runs = refl;
    reply = refl;
    means = leaves_nothing n own t flat h near s at mine unbound t.chains (left_unhashed_none n own t flat h near s at mine none);
  }

  -- its card is unhashed, and it has no port
  pub carried_portless : (kind : Kind) → is_owner s.owner.state ≡ false → kind_of s.owner.state ≡ Some kind
      → Carried n t (unhashes place (card_of kind m) (ends left_own)) (removed flat s reply)
  carried_portless kind unbound is = record {
    ended = record { tables = with_chains t (unhashed t.chains place); result = left_own };
    runs = refl;
    reply = refl;
    means = leaves_nothing n own t flat h near s at mine unbound (unhashed t.chains place)
        (left_unhashed n own t flat h near s at mine m kind refl (subst (StandsAs t.chains m) is stands));
  }

  by_state : (state : State) → s.owner.state ≡ state → Carried n t (drop_as state m left_own) (removed flat s reply)
  by_state states.Unbound e = carried_at_once (ap is_owner e) (ap kind_of e)
  by_state states.Bound e = carried_leave _ (ap is_owner e) (ap kind_of e) refl
  by_state states.Listening e = carried_unhashed kinds.Listen _ (ap is_owner e) (ap kind_of e) refl
  by_state states.Full e = carried_unhashed kinds.Full _ (ap is_owner e) (ap kind_of e) refl
  by_state states.Request e = carried_portless kinds.Request (ap is_owner e) (ap kind_of e)
  by_state states.TimeWait e = absurd (both_ways (is_time_wait s.owner.state) (is_awake n own t flat h.own_is h.sound s at mine) (ap is_time_wait e))

  -- whatever its state is
  pub dropped : Carried n t (drop_as s.owner.state m left_own) (removed flat s reply)
  dropped = by_state s.owner.state refl

-- an open socket stands as the list's socket
pub stands_so : (n : ℕ) (t : Tables) (flat : Flat) (m : Mine) (s : Socket) → IsOpen n t flat m s → StandsAs t.chains (record { owner = s.owner; extra = m.extra; place = m.place }) (kind_of s.owner.state)
stands_so n t flat m s is =
    subst (λ (x : Mine). StandsAs t.chains x (kind_of x.owner.state)) (λ i. record m { owner = is.same i }) is.stands

module _ (n : ℕ) (own : Own) (t : Tables) (flat : Flat) (h : Means n own t flat) (near : n ≤ 255) where
  -- `drop` of a socket that is open here and in the list
  pub drop_open : (m : Mine) (s : Socket) → IsOpen n t flat m s → Carried n t (drop_command own (Some m)) (drop flat (Some s))
  drop_open m s is =
      subst (λ (x : Mine). Carried n t (drop_command own (Some x)) (drop flat (Some s))) (λ i. record m { owner = sym is.same i })
      (dropped n own t flat h near s m.extra m.place is.listed is.mine (stands_so n t flat m s is) replies.Ok)

  -- and where neither has one
  pub drop_none : Carried n t (drop_command own None) (drop flat None)
  drop_none = record { ended = record { tables = t; result = record { own = own; reply = replies.Ebadf } }; runs = refl; reply = refl; means = λ sound. h }

  pub drop_both : (o : Option Mine) (p : Option Socket) → OpenBoth n t flat o p → Carried n t (drop_command own o) (drop flat p)
  drop_both None None both = drop_none
  drop_both (Some m) (Some s) both = drop_open m s both
  drop_both None (Some s) both = absurd both
  drop_both (Some m) None both = absurd both
