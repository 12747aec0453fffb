-- `connect` searches through ports: on tables that mean a list it comes to what the list's search comes to.
use Rattle.std.proofs.Common.{◌≡◌, ℕ, Bool, true, false, ◌&&◌, not, cond, List, [], ◌∷◌, find, Option, Some, None, refl, ap, sym, subst, inl, inr, ◌⊎◌}
use Rattle.sock_card.specs.declared.owner.State.TheVariants as states
use Rattle.sock_card.specs.Conflict.{bind_key, is_time_wait}
use Rattle.bind_buckets.specs.declared.request.Request.{Request}
use Rattle.bind_buckets.specs.declared.request.Request.TheVariants as requests
use Rattle.bind_buckets.specs.declared.request.Answer.{Answer}
use Rattle.bind_buckets.specs.declared.request.Answer.TheVariants as answers
use Rattle.bind_buckets.specs.Journal.{Standing}
use Rattle.flat_list.specs.declared.command.End.{End}
use Rattle.flat_list.specs.declared.socket.Socket.{Socket}
use Rattle.flat_list.specs.Connect.{connected_by_search}
use Rattle.flat_list.specs.Flat.{Flat}
use Rattle.flat_list.specs.Outcome.{has_slot as has_room}
use Rattle.flat_list.specs.Owned.{connected_at}
use Rattle.flat_list.specs.Sockets.{kind_of, is_owner, is_claimed, is_taken, put as put_socket, without_waiting}
use Rattle.flat_list.specs.Sound.{IsSound}
use Rattle.table_model.specs.declared.operation.OpEnd.TheVariants as errors
use Rattle.table_model.specs.Asking.{Asking, asks}
use Rattle.table_model.specs.Tables.{Tables, Ended, with_buckets}
use Rattle.bind_buckets.specs.BindHash.{asked_at}
use Rattle.table_model.specs.Own.{Own}
use Rattle.table_model.specs.Operations.{Did, refused, connect_tried, connect_free, search_connect}
use Rattle.table_model.specs.Means.{TablesMean, IsShape, OwnMeans}
use Rattle.table_model.proofs.questions.Taken.{taken_same, rule_of}
use Rattle.table_model.proofs.commands.Comes.{HasCome}
use Rattle.table_model.proofs.commands.ConnectOwner.{attempt}
use Rattle.table_model.proofs.questions.Run.{Comes, comes_ends, comes_asks, comes_weaken}
use Rattle.table_model.proofs.lists.Listed.{Listed}
use Rattle.table_model.proofs.questions.Requests.{Left, IsDone, IsNotFree, free_asked, connect_auto_asked}
use Rattle.table_model.proofs.commands.Carried.{groups_kept, own_kept}

-- the tables mean the same list, and the section what it meant
abbrev pub AllStays : ℕ → Own → Flat → Tables → Type 0
AllStays n own flat t = TablesMean t flat × OwnMeans n own t flat

-- buckets were asked, and nothing changed
pub stays_asked : (n : ℕ) (own : Own) (flat : Flat) (t : Tables) (buckets : List Standing) → TablesMean t flat → OwnMeans n own t flat → Left t.buckets buckets flat → AllStays n own flat (with_buckets t buckets)
stays_asked n own flat t buckets mean own_is left =
    (record { owners = left.owners; chains = mean.chains; groups = groups_kept t buckets flat flat left.groups refl mean.groups }, own_kept n own t buckets flat own_is)

module _ (n : ℕ) (own : Own) (flat : Flat) (shape : IsShape flat.header) (sound : IsSound flat) (s : Socket) (at : Listed s.owner.name flat.sockets s) (unbound : s.owner.state ≡ states.Unbound) (source : ℕ) (to : End) (moment : ℕ) (switch : Bool) where
  -- the socket from that port
  abbrev pub new_at : ℕ → Socket
  new_at port = connected_by_search s source to port

  -- a port that the search takes
  abbrev pub suits : ℕ → Bool
  suits port = not (is_claimed port s.owner.net flat.sockets) && not (is_taken switch moment (new_at port).owner flat.sockets)

  -- the list with the socket from that port, and without what it replaces
  abbrev pub list_at : ℕ → List Socket
  list_at port = put_socket (new_at port) (without_waiting (new_at port).owner flat.sockets)

  -- what a search comes to that found that port, or none
  abbrev pub SearchedTo : Option ℕ → Ended Did → Type 0
  SearchedTo None e = (e.result ≡ refused errors.NoPort) × AllStays n own flat e.tables
  SearchedTo (Some port) e =
      ((has_room flat ≡ false) × (e.result ≡ refused (errors.Full flat.header.shape.slots 0)) × AllStays n own flat e.tables)
      ⊎ ((has_room flat ≡ true) × HasCome own flat (new_at port).owner (list_at port) e)

  abbrev searching : List ℕ → Asking Did
  searching ports = search_connect flat.header.shape flat.header.seed s.owner source to moment (rule_of switch) ports

  abbrev found_in : Bool → Bool → ℕ → List ℕ → Option ℕ
  found_in claimed kept port ports = cond (not claimed && not kept) (Some port) (find suits ports)

  module _ (port : ℕ) (ports : List ℕ) (t : Tables) (mean : TablesMean t flat) (own_is : OwnMeans n own t flat)
      (later : (t' : Tables) → TablesMean t' flat → OwnMeans n own t' flat → Comes t' (searching ports) (SearchedTo (find suits ports))) where
    abbrev request : Request
    request = requests.Free port s.owner.net

    abbrev t1 : Tables
    t1 = with_buckets t (asked_at t.buckets (bind_key port s.owner.net) request)

    abbrev then_free : Answer → Asking Did
    then_free = connect_free flat.header.shape flat.header.seed (connected_at s.owner source port to) moment (rule_of switch) (searching ports)

    abbrev kept : Bool
    kept = is_taken switch moment (new_at port).owner flat.sockets

    abbrev P : Ended Did → Type 0
    P = SearchedTo (find suits (port ∷ ports))

    as_found : (claimed k : Bool) → is_claimed port s.owner.net flat.sockets ≡ claimed → kept ≡ k → (e : Ended Did) → SearchedTo (found_in claimed k port ports) e → P e
    as_found claimed k c q e h =
        subst (λ (b : Bool). SearchedTo (found_in b kept port ports) e) (sym c) (subst (λ (b : Bool). SearchedTo (found_in claimed b port ports) e) (sym q) h)

    free_port : is_claimed port s.owner.net flat.sockets ≡ false → IsDone t.buckets (bind_key port s.owner.net) request flat → Comes t (asks (bind_key port s.owner.net) request then_free) P
    free_port free done_so =
        let stays = stays_asked n own flat t (asked_at t.buckets (bind_key port s.owner.net) request) mean own_is done_so.left in
        comes_asks t (bind_key port s.owner.net) request then_free answers.Done P done_so.answer
        (attempt n own t1 flat stays.0 shape sound stays.1 s at (ap is_time_wait unbound) (ap kind_of unbound) (new_at port) refl refl moment (rule_of switch) kept
        (taken_same t1.chains flat switch moment (new_at port).owner stays.0.chains) (bind_key port s.owner.net) (requests.ConnectAuto (new_at port).owner)
        (connect_auto_asked t1.buckets flat stays.0.owners shape.bind sound.names (new_at port) s at (ap is_owner unbound) refl)
        (connect_tried flat.header.shape flat.header.seed (new_at port).owner (searching ports)) P (λ slot old. refl)
        (λ name k. comes_weaken t1 (searching ports) (SearchedTo (find suits ports)) P (λ e h. as_found false true free k e h) (later t1 stays.0 stays.1))
        (λ k room. comes_ends t1 (refused (errors.Full flat.header.shape.slots 0)) P (as_found false false free k (record { tables = t1; result = refused (errors.Full flat.header.shape.slots 0) }) (inl (room, refl, stays))))
        (λ e k room h. as_found false false free k e (inr (room, h))))

    claimed_port : is_claimed port s.owner.net flat.sockets ≡ true → IsNotFree t.buckets (bind_key port s.owner.net) request flat → Comes t (asks (bind_key port s.owner.net) request then_free) P
    claimed_port claimed not_so =
        let stays = stays_asked n own flat t (asked_at t.buckets (bind_key port s.owner.net) request) mean own_is not_so.left in
        comes_asks t (bind_key port s.owner.net) request then_free (answers.NotFree not_so.other) P not_so.answer
        (comes_weaken t1 (searching ports) (SearchedTo (find suits ports)) P (λ e h. as_found true kept claimed refl e h) (later t1 stays.0 stays.1))

    tried : ((is_claimed port s.owner.net flat.sockets ≡ false) × IsDone t.buckets (bind_key port s.owner.net) request flat) ⊎ ((is_claimed port s.owner.net flat.sockets ≡ true) × IsNotFree t.buckets (bind_key port s.owner.net) request flat) → Comes t (asks (bind_key port s.owner.net) request then_free) P
    tried (inl x) = free_port x.0 x.1
    tried (inr x) = claimed_port x.0 x.1

  -- a search on tables finds what the list's search finds
  pub searched_to : (ports : List ℕ) (t : Tables) → TablesMean t flat → OwnMeans n own t flat → Comes t (searching ports) (SearchedTo (find suits ports))
  searched_to [] t mean own_is = comes_ends t (refused errors.NoPort) (SearchedTo None) (refl, (mean, own_is))
  searched_to (port ∷ ports) t mean own_is =
      tried port ports t mean own_is (λ t' m o. searched_to ports t' m o) (free_asked t.buckets flat mean.owners shape.bind port s.owner.net)
