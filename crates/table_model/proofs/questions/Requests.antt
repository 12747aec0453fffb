-- What each request to the bucket of a port is answered, and what the buckets mean after it.
use Rattle.std.proofs.Common.{◌≡◌, ℕ, ◌%◌, ◌≤◌, Bool, true, false, List, [], ◌∷◌, ◌++◌, length, map, find, Option, None, Some, ◌⊎◌, inl, inr, refl, ap, sym, ◌∙◌, subst}
use Rattle.std.specs.Prelude.{is_some}
use Rattle.list_words.specs.Lists.{Pairs}
use Rattle.sock_card.specs.declared.owner.Owner.{Owner}
use Rattle.sock_card.specs.Conflict.{owner_key, bind_key, holds, refuses, overlap, is_time_wait}
use Rattle.sock_card.specs.Became.{as_listener, connected, child, as_waiting}
use Rattle.bind_buckets.specs.declared.request.Request.{Request}
use Rattle.bind_buckets.specs.declared.request.Request.TheVariants as requests
use Rattle.bind_buckets.specs.declared.request.Answer.{Answer}
use Rattle.bind_buckets.specs.declared.request.Answer.TheVariants as answers
use Rattle.bind_buckets.specs.Journal.{Standing}
use Rattle.bind_buckets.specs.OwnerStep.{Held, After, owner_step, has_name as is_owner_named, with_owner, admitted, waits_as, spoken, kept, may_listen, listener_answer, listening, changed, removed, without_waiting, free_answer, others}
use Rattle.flat_list.specs.declared.socket.Socket.{Socket}
use Rattle.flat_list.specs.Flat.{Flat}
use Rattle.flat_list.specs.Sockets.{is_owner, put, without, is_refused, is_overlapped, is_claimed}
use Rattle.flat_list.specs.Sound.{NamesDiffer}
use Rattle.bind_buckets.specs.BindHash.{standing_at, answer_at, asked_at}
use Rattle.table_model.specs.Means.{OwnersMean}
use Rattle.table_model.proofs.lists.Listed.{Listed, listed_name}
use Rattle.table_model.proofs.questions.Conflicts.{refuses_at, overlaps_at, claimed, newcomer, among_others}
use Rattle.table_model.proofs.questions.Asked.{with_sockets, groups_in, held_at, step_at, groups_stay, kept_means, came_means, joined_means, first, became_means, gone_means, first_waits}

-- buckets that mean that list, and have the groups that they had
pub record Left (buckets new : List Standing) (after : Flat) : Type 0 where
  pub owners : OwnersMean new after
  pub groups : map groups_in new ≡ map groups_in buckets

-- it was carried out
pub record IsDone (buckets : List Standing) (port : ℕ) (request : Request) (after : Flat) : Type 0 where
  pub answer : answer_at buckets port request ≡ answers.Done
  pub left : Left buckets (asked_at buckets port request) after

-- an owner is in the way, and all stays
pub record IsInUse (buckets : List Standing) (port : ℕ) (request : Request) (flat : Flat) : Type 0 where
  pub other : ℕ
  pub answer : answer_at buckets port request ≡ answers.InUse other
  pub left : Left buckets (asked_at buckets port request) flat

-- another owner of the port wasn't chosen by `connect`
pub record IsNotFree (buckets : List Standing) (port : ℕ) (request : Request) (flat : Flat) : Type 0 where
  pub other : ℕ
  pub answer : answer_at buckets port request ≡ answers.NotFree other
  pub left : Left buckets (asked_at buckets port request) flat

-- the owner may listen, as far as other owners go
pub record MayTry (buckets : List Standing) (port : ℕ) (request : Request) (a : Owner) (flat : Flat) : Type 0 where
  pub answer : answer_at buckets port request ≡ listener_answer (port % length buckets) (standing_at buckets port).held a None
  pub left : Left buckets (asked_at buckets port request) flat

module _ (n : ℕ) (h : Held) where
  bind_step : (a : Owner) → owner_step n h (requests.Bind a) ≡ admitted h a (find (refuses a) h.owners)
  unfolding owner_step
  bind_step a = refl

  auto_step : (a : Owner) → owner_step n h (requests.BindAuto a) ≡ admitted h a (find (overlap a) h.owners)
  unfolding owner_step
  auto_step a = refl

  free_step : (port net : ℕ) → owner_step n h (requests.Free port net) ≡ kept h (free_answer (find (holds port net) h.owners))
  unfolding owner_step
  free_step port net = refl

  connect_auto_step : (a : Owner) → owner_step n h (requests.ConnectAuto a) ≡ with_owner h a
  unfolding owner_step
  connect_auto_step a = refl

  module _ (name : ℕ) (a : Owner) (at : find (is_owner_named name) h.owners ≡ Some a) where
    may_listen_step : owner_step n h (requests.MayListen name) ≡ may_listen n h name a
    unfolding owner_step
    may_listen_step = ap (λ (o : Option Owner). spoken h name o (may_listen n h name)) at

    listen_step : (slot : ℕ) → owner_step n h (requests.Listen name slot) ≡ listening h name slot a
    unfolding owner_step
    listen_step slot = ap (λ (o : Option Owner). spoken h name o (listening h name slot)) at

    connect_bound_step : (local remote rport : ℕ) → owner_step n h (requests.ConnectBound name local remote rport) ≡ changed h name (connected local remote rport) h.groups
    unfolding owner_step
    connect_bound_step local remote rport = ap (λ (o : Option Owner). spoken h name o (λ _. changed h name (connected local remote rport) h.groups)) at

    inherit_step : (new mark local remote rport : ℕ) → owner_step n h (requests.Inherit name new mark local remote rport) ≡ with_owner h (child new mark local remote rport a)
    unfolding owner_step
    inherit_step new mark local remote rport = ap (λ (o : Option Owner). spoken h name o (λ l. with_owner h (child new mark local remote rport l))) at

    to_time_wait_step : owner_step n h (requests.ToTimeWait name) ≡ changed h name as_waiting h.groups
    unfolding owner_step
    to_time_wait_step = ap (λ (o : Option Owner). spoken h name o (λ _. changed h name as_waiting h.groups)) at

    remove_step : owner_step n h (requests.Remove name) ≡ removed h name
    unfolding owner_step
    remove_step = ap (λ (o : Option Owner). spoken h name o (λ _. removed h name)) at

  remove_waiting_step : (name : ℕ) (a : Owner) → find (waits_as name) h.owners ≡ Some a → owner_step n h (requests.RemoveWaiting name) ≡ without_waiting h name
  unfolding owner_step
  remove_waiting_step name a at = ap (λ (o : Option Owner). spoken h name o (λ _. without_waiting h name)) at

module _ (buckets : List Standing) (flat : Flat) (om : OwnersMean buckets flat) (some : 1 ≤ flat.header.shape.bind) where
  -- a request that leaves the bucket as it is
  pub kept_left : (port : ℕ) (request : Request) (answer : Answer) → step_at buckets flat om some port request ≡ kept (held_at buckets flat om some port) answer
      → Left buckets (asked_at buckets port request) flat
  kept_left port request answer is = record {
    owners = kept_means buckets flat om some port request (ap (λ (x : After). x.held) is);
    groups = groups_stay buckets flat om some port request (ap (λ (x : After). x.held.groups) is);
  }

  module _ (port net : ℕ) where
    abbrev its_key : ℕ
    its_key = bind_key port net

    abbrev asks_free : Request
    asks_free = requests.Free port net

    -- whether `connect` may choose the port is as the list says
    abbrev pub FreeAsked : Type 0
    FreeAsked =
        ((is_claimed port net flat.sockets ≡ false) × IsDone buckets its_key asks_free flat)
        ⊎ ((is_claimed port net flat.sockets ≡ true) × IsNotFree buckets its_key asks_free flat)

    free_by : (o : Option Owner) → find (holds port net) (held_at buckets flat om some its_key).owners ≡ o → FreeAsked
    free_by None e =
        let is : step_at buckets flat om some its_key asks_free ≡ kept (held_at buckets flat om some its_key) answers.Done =
        free_step (its_key % length buckets) (held_at buckets flat om some its_key) port net ∙ ap (λ (o : Option Owner). kept (held_at buckets flat om some its_key) (free_answer o)) e in
        inl (claimed buckets flat om some port net ∙ ap is_some e, record { answer = ap (λ (x : After). x.answer) is; left = kept_left its_key asks_free answers.Done is })
    free_by (Some a) e =
        let is : step_at buckets flat om some its_key asks_free ≡ kept (held_at buckets flat om some its_key) (answers.NotFree a.name) =
        free_step (its_key % length buckets) (held_at buckets flat om some its_key) port net ∙ ap (λ (o : Option Owner). kept (held_at buckets flat om some its_key) (free_answer o)) e in
        inr (claimed buckets flat om some port net ∙ ap is_some e, record { other = a.name; answer = ap (λ (x : After). x.answer) is; left = kept_left its_key asks_free (answers.NotFree a.name) is })

    pub free_asked : FreeAsked
    free_asked = free_by (find (holds port net) (held_at buckets flat om some its_key).owners) refl

  module _ (names : Pairs NamesDiffer flat.sockets) where
    -- a socket without a port comes to have one, whoever is in the way
    module _ (new s : Socket) (at : Listed new.owner.name flat.sockets s) (unbound : is_owner s.owner.state ≡ false) (bound : is_owner new.owner.state ≡ true) where
      abbrev port : ℕ
      port = owner_key new.owner

      abbrev after : Flat
      after = with_sockets flat (put new flat.sockets)

      abbrev held : Held
      held = held_at buckets flat om some port

      came_done : (request : Request) → step_at buckets flat om some port request ≡ with_owner held new.owner → IsDone buckets port request after
      came_done request is = record {
        answer = ap (λ (x : After). x.answer) is;
        left = record {
          owners = came_means buckets flat om some names request new s at unbound bound (ap (λ (x : After). x.held.owners) is);
          groups = groups_stay buckets flat om some port request (ap (λ (x : After). x.held.groups) is);
        };
      }

      admitted_by : (request : Request) (test : Owner → Bool) (in_way : Bool) (o : Option Owner) → step_at buckets flat om some port request ≡ admitted held new.owner (find test held.owners)
          → in_way ≡ is_some (find test held.owners) → find test held.owners ≡ o
          → ((in_way ≡ false) × IsDone buckets port request after) ⊎ ((in_way ≡ true) × IsInUse buckets port request flat)
      admitted_by request test in_way None is decided e =
          inl (decided ∙ ap is_some e, came_done request (is ∙ ap (admitted held new.owner) e))
      admitted_by request test in_way (Some a) is decided e =
          let refused : step_at buckets flat om some port request ≡ kept held (answers.InUse a.name) = is ∙ ap (admitted held new.owner) e in
          inr (decided ∙ ap is_some e, record { other = a.name; answer = ap (λ (x : After). x.answer) refused; left = kept_left port request (answers.InUse a.name) refused })

      -- `bind` to a given port
      pub bind_asked : ((is_refused new.owner flat.sockets ≡ false) × IsDone buckets port (requests.Bind new.owner) after) ⊎ ((is_refused new.owner flat.sockets ≡ true) × IsInUse buckets port (requests.Bind new.owner) flat)
      bind_asked = admitted_by (requests.Bind new.owner) (refuses new.owner) (is_refused new.owner flat.sockets) (find (refuses new.owner) held.owners)
          (bind_step (port % length buckets) held new.owner) (newcomer buckets flat om some names new.owner.name s at (refuses new.owner) port (refuses_at new.owner) unbound) refl

      -- `bind` to a port that a search tries
      pub bind_auto_asked : ((is_overlapped new.owner flat.sockets ≡ false) × IsDone buckets port (requests.BindAuto new.owner) after) ⊎ ((is_overlapped new.owner flat.sockets ≡ true) × IsInUse buckets port (requests.BindAuto new.owner) flat)
      bind_auto_asked = admitted_by (requests.BindAuto new.owner) (overlap new.owner) (is_overlapped new.owner flat.sockets) (find (overlap new.owner) held.owners)
          (auto_step (port % length buckets) held new.owner) (newcomer buckets flat om some names new.owner.name s at (overlap new.owner) port (overlaps_at new.owner) unbound) refl

      -- a connection from a port that `connect` chose
      pub connect_auto_asked : IsDone buckets port (requests.ConnectAuto new.owner) after
      connect_auto_asked = came_done (requests.ConnectAuto new.owner) (connect_auto_step (port % length buckets) held new.owner)

    -- a socket that has a port
    module _ (name : ℕ) (s : Socket) (at : Listed name flat.sockets s) (owner : is_owner s.owner.state ≡ true) where
      abbrev its_port : ℕ
      its_port = owner_key s.owner

      abbrev there : Held
      there = held_at buckets flat om some its_port

      its_first : find (is_owner_named name) there.owners ≡ Some s.owner
      its_first = first buckets flat om some names name s at owner

      told : (o : Option Owner) → is_refused s.owner flat.sockets ≡ is_some o → step_at buckets flat om some its_port (requests.MayListen name) ≡ kept there (listener_answer (its_port % length buckets) there s.owner o)
          → ((is_refused s.owner flat.sockets ≡ false) × MayTry buckets its_port (requests.MayListen name) s.owner flat) ⊎ ((is_refused s.owner flat.sockets ≡ true) × IsInUse buckets its_port (requests.MayListen name) flat)
      told None decided is = inl (decided, record { answer = ap (λ (x : After). x.answer) is; left = kept_left its_port (requests.MayListen name) (listener_answer (its_port % length buckets) there s.owner None) is })
      told (Some a) decided is = inr (decided, record { other = a.name; answer = ap (λ (x : After). x.answer) is; left = kept_left its_port (requests.MayListen name) (answers.InUse a.name) is })

      may_listen_by : (o : Option Owner) → find (refuses s.owner) (others there name) ≡ o
          → ((is_refused s.owner flat.sockets ≡ false) × MayTry buckets its_port (requests.MayListen name) s.owner flat) ⊎ ((is_refused s.owner flat.sockets ≡ true) × IsInUse buckets its_port (requests.MayListen name) flat)
      may_listen_by o e =
          let named_so : s.owner.name ≡ name = listed_name name flat.sockets s at in
          let decided : is_refused s.owner flat.sockets ≡ is_some o =
          subst (λ (k : ℕ). is_refused s.owner flat.sockets ≡ is_some (find (refuses s.owner) (others there k))) named_so
          (among_others buckets flat om some names s.owner.name s (subst (λ (k : ℕ). Listed k flat.sockets s) (sym named_so) at) (refuses s.owner) (refuses_at s.owner) owner)
          ∙ ap is_some e in
          let is : step_at buckets flat om some its_port (requests.MayListen name) ≡ kept there (listener_answer (its_port % length buckets) there s.owner o) =
          may_listen_step (its_port % length buckets) there name s.owner its_first ∙ ap (λ (x : Option Owner). kept there (listener_answer (its_port % length buckets) there s.owner x)) e in
          told o decided is

      -- whether other owners keep it from listening is as the list says
      pub may_listen_asked : ((is_refused s.owner flat.sockets ≡ false) × MayTry buckets its_port (requests.MayListen name) s.owner flat) ⊎ ((is_refused s.owner flat.sockets ≡ true) × IsInUse buckets its_port (requests.MayListen name) flat)
      may_listen_asked = may_listen_by (find (refuses s.owner) (others there name)) refl

      -- it becomes that, in the bucket as in the list
      changed_done : (request : Request) (change : Owner → Owner) (new : Socket) → step_at buckets flat om some its_port request ≡ changed there name change there.groups
          → new.owner ≡ change s.owner → new.owner.name ≡ name → is_owner new.owner.state ≡ true → ((a : Owner) → owner_key (change a) ≡ owner_key a)
          → IsDone buckets its_port request (with_sockets flat (put new flat.sockets))
      changed_done request change new is becomes same bound stays = record {
        answer = ap (λ (x : After). x.answer) is;
        left = record {
          owners = became_means buckets flat om some names name s at owner request change new (ap (λ (x : After). x.held.owners) is) becomes same bound stays;
          groups = groups_stay buckets flat om some its_port request (ap (λ (x : After). x.held.groups) is);
        };
      }

      becomes_owner : (f : Owner → Owner) (new : Socket) → new.owner ≡ f s.owner → is_owner (f s.owner).state ≡ true → is_owner new.owner.state ≡ true
      becomes_owner f new e h = ap (λ (a : Owner). is_owner a.state) e ∙ h

      becomes_named : (f : Owner → Owner) (new : Socket) → new.owner ≡ f s.owner → (f s.owner).name ≡ s.owner.name → new.owner.name ≡ name
      becomes_named f new e h = ap (λ (a : Owner). a.name) e ∙ (h ∙ listed_name name flat.sockets s at)

      -- a bound socket is connected
      pub connect_bound_asked : (local remote rport : ℕ) (new : Socket) → new.owner ≡ connected local remote rport s.owner
          → IsDone buckets its_port (requests.ConnectBound name local remote rport) (with_sockets flat (put new flat.sockets))
      connect_bound_asked local remote rport new e =
          changed_done (requests.ConnectBound name local remote rport) (connected local remote rport) new
          (connect_bound_step (its_port % length buckets) there name s.owner its_first local remote rport) e
          (becomes_named (connected local remote rport) new e refl) (becomes_owner (connected local remote rport) new e refl) (λ a. refl)

      -- a full socket waits
      pub to_time_wait_asked : (new : Socket) → new.owner ≡ as_waiting s.owner → IsDone buckets its_port (requests.ToTimeWait name) (with_sockets flat (put new flat.sockets))
      to_time_wait_asked new e =
          changed_done (requests.ToTimeWait name) as_waiting new (to_time_wait_step (its_port % length buckets) there name s.owner its_first) e
          (becomes_named as_waiting new e refl) (becomes_owner as_waiting new e refl) (λ a. refl)

      -- a listener's child comes beside it
      pub inherit_asked : (child_name mark local remote rport : ℕ) (new : Socket) → new.owner ≡ child child_name mark local remote rport s.owner
          → IsDone buckets its_port (requests.Inherit name child_name mark local remote rport) (with_sockets flat (flat.sockets ++ new ∷ []))
      inherit_asked child_name mark local remote rport new e =
          let request : Request = requests.Inherit name child_name mark local remote rport in
          let is : step_at buckets flat om some its_port request ≡ with_owner there new.owner =
          inherit_step (its_port % length buckets) there name s.owner its_first child_name mark local remote rport ∙ ap (with_owner there) (sym e) in
          record {
            answer = ap (λ (x : After). x.answer) is;
            left = record {
              owners = joined_means buckets flat om some names request its_port new (ap (λ (a : Owner). is_owner a.state) e) (ap (λ (a : Owner). owner_key a) e) (ap (λ (x : After). x.held.owners) is);
              groups = groups_stay buckets flat om some its_port request (ap (λ (x : After). x.held.groups) is);
            };
          }

      -- a TIME_WAIT that was replaced, or whose minute is over, goes
      pub remove_waiting_asked : is_time_wait s.owner.state ≡ true → IsDone buckets its_port (requests.RemoveWaiting name) (with_sockets flat (without name flat.sockets))
      remove_waiting_asked waits =
          let request : Request = requests.RemoveWaiting name in
          let passes : find (waits_as name) there.owners ≡ Some s.owner = first_waits buckets flat om some names name s at owner waits in
          let is : step_at buckets flat om some its_port request ≡ without_waiting there name = remove_waiting_step (its_port % length buckets) there name s.owner passes in
          record {
            answer = ap (λ (x : After). x.answer) is;
            left = record {
              owners = gone_means buckets flat om some names name s at owner request (waits_as name) passes (ap (λ (x : After). x.held.owners) is);
              groups = groups_stay buckets flat om some its_port request (ap (λ (x : After). x.held.groups) is);
            };
          }

      -- a socket leaves its port; its group is another's matter
      pub remove_means : OwnersMean (asked_at buckets its_port (requests.Remove name)) (with_sockets flat (without name flat.sockets))
      remove_means =
          gone_means buckets flat om some names name s at owner (requests.Remove name) (is_owner_named name) its_first
          (ap (λ (x : After). x.held.owners) (remove_step (its_port % length buckets) there name s.owner its_first))

      -- what the bucket is then
      pub remove_is : step_at buckets flat om some its_port (requests.Remove name) ≡ removed there name
      remove_is = remove_step (its_port % length buckets) there name s.owner its_first

      -- it is carried out
      pub remove_answer : answer_at buckets its_port (requests.Remove name) ≡ answers.Done
      remove_answer = ap (λ (x : After). x.answer) remove_is

      -- a socket begins to listen; its group is another's matter
      pub listen_is : (slot : ℕ) → step_at buckets flat om some its_port (requests.Listen name slot) ≡ listening there name slot s.owner
      listen_is slot = listen_step (its_port % length buckets) there name s.owner its_first slot

      -- the buckets mean the list in which it listens
      pub listen_means : (slot : ℕ) (new : Socket) → new.owner ≡ as_listener s.owner → OwnersMean (asked_at buckets its_port (requests.Listen name slot)) (with_sockets flat (put new flat.sockets))
      listen_means slot new e =
          became_means buckets flat om some names name s at owner (requests.Listen name slot) as_listener new
          (ap (λ (x : After). x.held.owners) (listen_is slot)) e (becomes_named as_listener new e refl) (becomes_owner as_listener new e refl) (λ a. refl)

      -- it is carried out
      pub listen_answer : (slot : ℕ) → answer_at buckets its_port (requests.Listen name slot) ≡ answers.Done
      listen_answer slot = ap (λ (x : After). x.answer) (listen_is slot)
