-- Each command leaves a sound list sound.
use Rattle.std.proofs.Common.{◌⊎◌, inl, ◌≡◌, ◌≢◌, ℕ, ◌+◌, ◌*◌, ◌/◌, ◌^◌, ◌<◌, ◌==◌, nat_lt, map, filter, subst, ◌&&◌, ◌||◌, Bool, true, false, not, cond, if◌then◌else◌, List, [], ◌∷◌, ◌++◌, length, Some, None, Option, option_and_then, refl, sym, ap, ◌∙◌, inr, find, count_by, arith}
use Rattle.std.specs.List.{list_any, range_with_len}
use Rattle.std.specs.Option.{option_map}
use Rattle.std.proofs.lemmas.Bool.{true≢false, ne_eqb, eq-eqb, cond_both, eqb-true, or_parts, and_parts}
use Rattle.std.proofs.lemmas.Bool.Decides.{nat_tests}
use Rattle.std.proofs.lemmas.List.Sums.{sum_by-cons}
use Rattle.list_words.specs.Lists.{Each}
use Rattle.list_words.proofs.EachLemmas.{each_push, each_filter, each_weaken, each_both, each_of_all, each_found, each_unless_any, found_passes, some_same}
use Rattle.list_words.proofs.PairsLemmas.{pairs_push, pairs_filter, pairs_found}
use Rattle.sock_card.specs.declared.owner.Owner.{Owner}
use Rattle.sock_card.specs.declared.owner.State.{State}
use Rattle.sock_card.specs.declared.owner.State.TheVariants as states
use Rattle.sock_card.specs.Agreement.{Narrows}
use Rattle.sock_card.specs.Conflict.{owner_key, same_port, holds, is_listening, is_time_wait, refuses, overlap}
use Rattle.sock_card.proofs.Agreement.{same_either_way, overlaps_who_refuses, agrees_both_ways, agrees_unless_refused, agrees_by_origin, agrees_by_choice, agrees_apart, agrees_where_narrowed, refuses_as_listener}
use Rattle.flat_list.specs.declared.header.First.{First}
use Rattle.flat_list.specs.declared.header.First.TheVariants as firsts
use Rattle.flat_list.specs.declared.command.Command.TheVariants as commands
use Rattle.flat_list.specs.declared.command.End.{End}
use Rattle.flat_list.specs.declared.command.Reply.{Reply}
use Rattle.flat_list.specs.declared.command.Reply.TheVariants as replies
use Rattle.flat_list.specs.declared.socket.Socket.{Socket}
use Rattle.flat_list.specs.declared.owned.Options.{Options}
use Rattle.flat_list.specs.Groups.{Group, has_member, bucket_of, is_used, free_number, is_full_group, join, join_group, leave, with_group}
use Rattle.flat_list.specs.Connect.{replacing, is_taken_in, connected_socket, connected_by_search, end_of, connect_as, connect_from, connect_found, connect_search, suits_connect, connect_socket, connect, child_of, accept_as, accept, request_of, syn, heir_of, without_request, hand_over, ack_by, ack_socket, ack}
use Rattle.flat_list.specs.Flat.{Flat, new_flat}
use Rattle.flat_list.specs.Outcome.{Outcome, unchanged, changed, added, removed, with_new_label, open_socket, has_slot, no_slot, Found, search_port}
use Rattle.flat_list.specs.Owned.{source_of, is_no_end, is_no_accept, own_end, other_end, is_no_ack}
use Rattle.sock_card.specs.TimeWait.{expired}
use Rattle.flat_list.specs.Run.{Issued, is_of, after}
use Rattle.flat_list.specs.Sections.{Section, labels_of, name_in, next_name, with_given, moment_of, with_moment}
use Rattle.sock_card.specs.TimeWait.{gives_way}
use Rattle.sock_card.proofs.SameKinds.{listening_is}
use Rattle.flat_list.specs.Sockets.{have_one_tuple, waits_at, without_waiting, claims_tuple, has_twin, open_in, is_open_in, without, is_mate, mate_of, is_expired, put, is_owner, is_other_owner, is_refused, is_overlapped, is_claimed, has_name, open_named}
use Rattle.flat_list.specs.Sound.{NamesDiffer, IsGivenName, IsGiven, CanTake, HasListener, AgreeAsOwners, TuplesDiffer, holds_tuple, IsItsOwn, IsAwakeIfNamed, is_sharing, IsInOneGroup, AreGroupsOf, IsSound, StartsSound, StaysSound, RunsSound}
use Rattle.flat_list.specs.Step.{step, socket, drop, close, close_socket, at, reap, waiting, groups_with, listens_in, listen_as, new_socket, at_end, at_port, suits_bind, search_bind, at_address, bind, bind_any, bind_given, bind_found, bind_search, bind_socket, listening, listen, listen_bound, listen_found, listen_socket}
use Rattle.flat_list.proofs.GivenNames.{next_is_given, next_is_new, is_new, stays_given, stay_given}
use Rattle.flat_list.proofs.LabelsGrow.{GivesAt, moment_keeps, KeepsLabels, keeps_at, given_gives, search_keeps, gives_at_one, grows}
use Rattle.flat_list.proofs.Puts.{each_put, pairs_put}
use Rattle.flat_list.proofs.Searches.{draw_sockets, draw_groups, draw_header}
use Rattle.flat_list.proofs.Counted.{each_filter_kept}
use Rattle.flat_list.proofs.GroupsStay.{count_quiet, leave_none, put_grouped, push_grouped, filter_grouped, remove_grouped, Enters, enter_grouped, join_enters, begin_enters}

pub starts : StartsSound
starts header = record {
  names = tt;
  given = tt;
  bound = tt;
  tuples = tt;
  origins = tt;
  awake = tt;
  requests = tt;
  grouped = record { numbers = tt; each = tt; sharing = tt; mates = tt };
}

names_swap : (a b : Socket) → NamesDiffer a b → NamesDiffer b a
names_swap a b h e = h (sym e)

owners_swap : (a b : Socket) → AgreeAsOwners a b → AgreeAsOwners b a
owners_swap a b h p q = agrees_both_ways b.owner a.owner ∙ h q p

tuples_either_way : (a b : Owner) → have_one_tuple a b ≡ have_one_tuple b a
tuples_either_way a b = rw (same_either_way a.net b.net, same_either_way a.addr b.addr, same_either_way a.port b.port, same_either_way a.remote b.remote, same_either_way a.rport b.rport) refl

tuples_swap : (a b : Socket) → TuplesDiffer a b → TuplesDiffer b a
tuples_swap a b h p q = tuples_either_way b.owner a.owner ∙ h q p

-- what a socket meets that stands in the place of the one of its name
record Fits (flat : Flat) (new : Socket) : Type 0 where
  given : IsGiven flat.sections new
  bound : Each (λ x. NamesDiffer new x → AgreeAsOwners new x) flat.sockets
  tuples : Each (λ x. NamesDiffer new x → TuplesDiffer new x) flat.sockets
  origin : IsItsOwn new
  awake : IsAwakeIfNamed new
  settled : new.owner.state ≢ states.Request
  takes : Each (λ r. r.owner.state ≡ states.Request → CanTake r new) flat.sockets

-- the requests' listeners, once a socket stands in the place of the one of its name
requests_put : (flat : Flat) (new : Socket) → new.owner.state ≢ states.Request → Each (λ r. r.owner.state ≡ states.Request → CanTake r new) flat.sockets → Each (HasListener flat.sections flat.sockets) flat.sockets → Each (HasListener flat.sections (put new flat.sockets)) (put new flat.sockets)
requests_put flat new settled takes requests =
    each_put (HasListener flat.sections (put new flat.sockets)) new flat.sockets (λ is. absurd (settled is))
    (each_weaken (λ r. (r.owner.state ≡ states.Request → CanTake r new) × HasListener flat.sections flat.sockets r) (HasListener flat.sections (put new flat.sockets)) flat.sockets
    (λ r h is. ((h.1 is).0, each_put (CanTake r) new flat.sockets (h.0 is) (h.1 is).1))
    (each_both (λ r. r.owner.state ≡ states.Request → CanTake r new) (HasListener flat.sections flat.sockets) flat.sockets takes requests))

-- the list with that socket in the place of the one of its name, and with those groups
put_sound : (flat : Flat) (new : Socket) (groups : List Group) (reply : Reply) → IsSound flat → Fits flat new → AreGroupsOf flat.header.shape.bind (put new flat.sockets) groups → IsSound (changed (record flat { groups = groups }) new reply).flat
put_sound flat new groups reply sound fits grouped = record {
  names = pairs_put NamesDiffer names_swap new flat.sockets sound.names sound.names (each_of_all (λ x. NamesDiffer new x → NamesDiffer new x) flat.sockets (λ x h. h));
  given = each_put (IsGiven flat.sections) new flat.sockets fits.given sound.given;
  bound = pairs_put AgreeAsOwners owners_swap new flat.sockets sound.names sound.bound fits.bound;
  tuples = pairs_put TuplesDiffer tuples_swap new flat.sockets sound.names sound.tuples fits.tuples;
  origins = each_put IsItsOwn new flat.sockets fits.origin sound.origins;
  awake = each_put IsAwakeIfNamed new flat.sockets fits.awake sound.awake;
  requests = requests_put flat new fits.settled fits.takes sound.requests;
  grouped = grouped;
}

-- a socket that is in no group, and stays out
record Quiet (flat : Flat) (new : Socket) : Type 0 where
  quiet : is_sharing new ≡ false
  out : count_by (has_member new.owner.name) flat.groups ≡ 0

changed_sound : (flat : Flat) (new : Socket) (reply : Reply) → IsSound flat → Fits flat new → Quiet flat new → IsSound (changed flat new reply).flat
changed_sound flat new reply sound fits is =
    put_sound flat new flat.groups reply sound fits (put_grouped flat.header.shape.bind new flat.sockets flat.groups sound.names is.quiet is.out sound.grouped)

-- what a socket meets that comes last, when its label was given
record Joins (flat : Flat) (new : Socket) : Type 0 where
  given : IsGiven flat.sections new
  names : Each (λ x. NamesDiffer x new) flat.sockets
  bound : Each (λ x. AgreeAsOwners x new) flat.sockets
  tuples : Each (λ x. TuplesDiffer x new) flat.sockets
  origin : IsItsOwn new
  quiet : is_sharing new ≡ false
  awake : IsAwakeIfNamed new
  apart : Each (λ r. r.owner.state ≡ states.Request → new.owner.name ≢ r.owner.origin) flat.sockets
  listener : new.owner.state ≡ states.Request → IsGivenName flat.sections new.owner.origin × (Each (CanTake new) flat.sockets × CanTake new new)

-- the requests' listeners, once a socket has come last
requests_push : (flat : Flat) (new : Socket) → Joins flat new → Each (HasListener flat.sections flat.sockets) flat.sockets → Each (HasListener flat.sections (flat.sockets ++ new ∷ [])) (flat.sockets ++ new ∷ [])
requests_push flat new joins requests =
    let Apart : Socket → Type 0 = λ r. r.owner.state ≡ states.Request → new.owner.name ≢ r.owner.origin in
    let sockets : List Socket = flat.sockets ++ new ∷ [] in
    each_push (HasListener flat.sections sockets) flat.sockets new
    (each_weaken (λ r. Apart r × HasListener flat.sections flat.sockets r) (HasListener flat.sections sockets) flat.sockets
    (λ r h is. ((h.1 is).0, each_push (CanTake r) flat.sockets new (h.1 is).1 (λ named same. absurd (h.0 is same))))
    (each_both Apart (HasListener flat.sections flat.sockets) flat.sockets joins.apart requests))
    (λ is. let own = joins.listener is in (own.0, each_push (CanTake new) flat.sockets new own.1.0 own.1.1))

added_sound : (flat : Flat) (new : Socket) → IsSound flat → Joins flat new → IsSound (record flat { sockets = flat.sockets ++ new ∷ [] })
added_sound flat new sound joins = record {
  names = pairs_push NamesDiffer flat.sockets new sound.names joins.names;
  given = each_push (IsGiven flat.sections) flat.sockets new sound.given joins.given;
  bound = pairs_push AgreeAsOwners flat.sockets new sound.bound joins.bound;
  tuples = pairs_push TuplesDiffer flat.sockets new sound.tuples joins.tuples;
  origins = each_push IsItsOwn flat.sockets new sound.origins joins.origin;
  awake = each_push IsAwakeIfNamed flat.sockets new sound.awake joins.awake;
  requests = requests_push flat new joins sound.requests;
  grouped = push_grouped flat.header.shape.bind new flat.sockets flat.groups joins.names joins.quiet sound.grouped;
}

-- the requests' listeners, once a label more is given
requests_stay : (n : ℕ) (old new : List Section) (sockets : List Socket) → GivesAt n old new → Each (HasListener old sockets) sockets → Each (HasListener new sockets) sockets
requests_stay n old new sockets gives requests =
    each_weaken (HasListener old sockets) (HasListener new sockets) sockets (λ r h is. (stays_given n old new r.owner.origin gives (h is).0, (h is).1)) requests

labels_sound : (flat : Flat) (n : ℕ) (sections : List Section) → GivesAt n flat.sections sections → IsSound flat → IsSound (record flat { sections = sections })
labels_sound flat n sections gives sound = record {
  names = sound.names;
  given = stay_given n flat.sections sections flat.sockets gives sound.given;
  bound = sound.bound;
  tuples = sound.tuples;
  origins = sound.origins;
  awake = sound.awake;
  requests = requests_stay n flat.sections sections flat.sockets gives sound.requests;
  grouped = sound.grouped;
}

-- the requests' listeners, once sockets are gone
requests_left : (sections : List Section) (stays_in : Socket → Bool) (sockets : List Socket) → Each (HasListener sections sockets) sockets → Each (HasListener sections (filter stays_in sockets)) (filter stays_in sockets)
requests_left sections stays_in sockets requests =
    each_filter (HasListener sections (filter stays_in sockets)) stays_in sockets
    (each_weaken (HasListener sections sockets) (HasListener sections (filter stays_in sockets)) sockets (λ r h is. ((h is).0, each_filter (CanTake r) stays_in sockets (h is).1)) requests)

-- sockets are gone that were in no group
gone_sound : (flat : Flat) (stays_in : Socket → Bool) → ((x : Socket) → stays_in x ≡ false → is_sharing x ≡ false) → IsSound flat → IsSound (record flat { sockets = filter stays_in flat.sockets })
gone_sound flat stays_in gone sound = record {
  names = pairs_filter NamesDiffer stays_in flat.sockets sound.names;
  given = each_filter (IsGiven flat.sections) stays_in flat.sockets sound.given;
  bound = pairs_filter AgreeAsOwners stays_in flat.sockets sound.bound;
  tuples = pairs_filter TuplesDiffer stays_in flat.sockets sound.tuples;
  origins = each_filter IsItsOwn stays_in flat.sockets sound.origins;
  awake = each_filter IsAwakeIfNamed stays_in flat.sockets sound.awake;
  requests = requests_left flat.sections stays_in flat.sockets sound.requests;
  grouped = filter_grouped flat.header.shape.bind stays_in flat.sockets flat.groups gone sound.grouped;
}

-- a list after a search: the same sockets and groups, and the same labels
record IsAfter (flat after : Flat) : Type 0 where
  sockets : after.sockets ≡ flat.sockets
  groups : after.groups ≡ flat.groups
  header : after.header ≡ flat.header
  labels : KeepsLabels flat after

after_search : (flat : Flat) (n : ℕ) (first : First) (suits : ℕ → Bool) → IsAfter flat (search_port flat n first suits).flat
after_search flat n first suits =
    record { sockets = draw_sockets flat n flat.header.offset; groups = draw_groups flat n flat.header.offset; header = draw_header flat n flat.header.offset; labels = search_keeps flat n first suits }

after_sound : (flat after : Flat) (n : ℕ) → IsAfter flat after → IsSound flat → IsSound after
after_sound flat after n is sound =
    let given : Each (IsGiven after.sections) flat.sockets = stay_given n flat.sections after.sections flat.sockets (keeps_at n flat after is.labels) sound.given in
    let requests : Each (HasListener after.sections flat.sockets) flat.sockets = requests_stay n flat.sections after.sections flat.sockets (keeps_at n flat after is.labels) sound.requests in
    record {
      names = rw is.sockets sound.names;
      given = rw is.sockets given;
      bound = rw is.sockets sound.bound;
      tuples = rw is.sockets sound.tuples;
      origins = rw is.sockets sound.origins;
      awake = rw is.sockets sound.awake;
      requests = rw is.sockets requests;
      grouped = rw (is.header, is.sockets, is.groups) sound.grouped;
    }

-- a name that no label stands for yet is no request's listener's
fresh_origins : (flat : Flat) (n : ℕ) → length (labels_of n flat.sections) + 1 < 2 ^ 56 → IsSound flat → Each (λ r. r.owner.state ≡ states.Request → next_name n flat.sections ≢ r.owner.origin) flat.sockets
fresh_origins flat n room sound =
    each_weaken (HasListener flat.sections flat.sockets) (λ r. r.owner.state ≡ states.Request → next_name n flat.sections ≢ r.owner.origin) flat.sockets
    (λ r h is same. is_new n flat.sections r.owner.origin room (h is).0 (sym same)) sound.requests

-- `socket`

socket_sound : (flat : Flat) (n : ℕ) (label : List ℕ) (options : Options) → length (labels_of n flat.sections) + 1 < 2 ^ 56 → IsSound flat → IsSound (socket flat n label options).flat
socket_sound flat n label options room sound =
    let name : ℕ = next_name n flat.sections in
    let new : Socket = new_socket name options in
    let sections : List Section = with_given flat.header n label flat.sections in
    added_sound (record flat { sections = sections }) new (labels_sound flat n sections (given_gives flat.header n label flat.sections) sound) (record {
      given = next_is_given flat.header n label flat.sections new room refl;
      names = next_is_new n flat.sections flat.sockets room sound.given;
      bound = each_of_all (λ x. AgreeAsOwners x new) flat.sockets (λ x p q. absurd (true≢false (sym q)));
      tuples = each_of_all (λ x. TuplesDiffer x new) flat.sockets (λ x p q. absurd (true≢false (sym q)));
      origin = λ _. (refl, refl);
      quiet = refl;
      awake = refl;
      apart = fresh_origins flat n room sound;
      listener = λ is. absurd (cc);
    })

-- the socket is one of the list's
abbrev pub IsOpen : Flat → Socket → Type 0
IsOpen flat s = (name : ℕ) × (open_named name flat.sockets ≡ Some s)

named_open : (flat : Flat) (o : Option ℕ) (s : Socket) → option_and_then (λ name. open_named name flat.sockets) o ≡ Some s → IsOpen flat s
named_open flat None s h = absurd (cc)
named_open flat (Some name) s h = (name, h)

pub is_open : (flat : Flat) (n : ℕ) (label : List ℕ) (s : Socket) → open_socket flat n label ≡ Some s → IsOpen flat s
is_open flat n label s h = named_open flat (name_in n flat.sections label) s h

after_open : (flat after : Flat) (s : Socket) → IsAfter flat after → IsOpen flat s → IsOpen after s
after_open flat after s is at = (at.0, ap (open_named at.0) is.sockets ∙ at.1)

abbrev of_open : (P : Socket → Type 0) (flat : Flat) (s : Socket) → IsOpen flat s → Each P flat.sockets → P s
of_open P flat s at each = each_found P (λ x. has_name at.0 x && x.named) flat.sockets s each at.1

-- a test on another owner that failed
not_refused : (o same refused : Bool) → (o && not same && refused) ≡ false → o ≡ true → same ≡ false → refused ≡ false
not_refused o same refused h p q = rw (p, q) at h

-- who isn't refused agrees with all others
free_agrees : (a : Owner) (sockets : List Socket) → is_refused a sockets ≡ false → Each (λ x. x.owner.name ≢ a.name → is_owner x.owner.state ≡ true → refuses a x.owner ≡ false) sockets
free_agrees a sockets free =
    let test : Socket → Bool = λ x. is_other_owner a.name x && refuses a x.owner in
    each_weaken (λ x. test x ≡ false) (λ x. x.owner.name ≢ a.name → is_owner x.owner.state ≡ true → refuses a x.owner ≡ false) sockets
    (λ x h differ owns. not_refused (is_owner x.owner.state) (has_name a.name x) (refuses a x.owner) h owns (ne_eqb _ _ differ))
    (each_unless_any test sockets free)

-- a socket that holds no four-tuple fits where no other owner refuses it
record IsFree (flat : Flat) (s new : Socket) (tested : Owner) : Type 0 where
  before : holds_tuple s.owner.state ≡ false
  silent : is_listening s.owner.state ≡ false
  now : holds_tuple new.owner.state ≡ false
  named : new.named ≡ s.named
  name : new.owner.name ≡ s.owner.name
  origin : new.owner.origin ≡ s.owner.origin
  by_connect : new.owner.by_connect ≡ s.owner.by_connect
  same_name : new.owner.name ≡ tested.name
  alike : (b : Owner) → refuses new.owner b ≡ refuses tested b
  free : is_refused tested flat.sockets ≡ false

-- who holds no four-tuple isn't in TIME_WAIT
awake_if : (t : State) → holds_tuple t ≡ false → is_time_wait t ≡ false
awake_if states.Unbound h = refl
awake_if states.Bound h = refl
awake_if states.Listening h = refl
awake_if states.Full h = refl
awake_if states.TimeWait h = absurd (true≢false h)
awake_if states.Request h = refl

awake_alike : (t u : State) → holds_tuple t ≡ false → holds_tuple u ≡ false → is_time_wait t ≡ is_time_wait u
awake_alike t u h k = awake_if t h ∙ sym (awake_if u k)

-- an open socket that doesn't listen is in no group
quiet_by : (flat : Flat) (s new : Socket) → IsSound flat → IsOpen flat s → is_listening s.owner.state ≡ false → is_listening new.owner.state ≡ false → new.owner.name ≡ s.owner.name → Quiet flat new
quiet_by flat s new sound at before now name =
    let one : IsInOneGroup flat.groups s = of_open (IsInOneGroup flat.groups) flat s at sound.grouped.sharing in
    let silent : is_sharing s ≡ false = rw before refl in
    record { quiet = rw now refl; out = ap (λ k. count_by (has_member k) flat.groups) name ∙ count_quiet flat.groups s silent one }

-- no request came by an open socket that doesn't listen
takes_none : (flat : Flat) (s new : Socket) → IsSound flat → IsOpen flat s → is_listening s.owner.state ≡ false → new.named ≡ s.named → new.owner.name ≡ s.owner.name → Each (λ r. r.owner.state ≡ states.Request → CanTake r new) flat.sockets
takes_none flat s new sound at silent named name =
    each_weaken (HasListener flat.sections flat.sockets) (λ r. r.owner.state ≡ states.Request → CanTake r new) flat.sockets
    (λ r h is named_new same.
    let free : is_no_ack s.owner r.owner ≡ false = of_open (CanTake r) flat s at (h is).1 (sym named ∙ named_new) (sym name ∙ same) in
    let none : is_no_ack s.owner r.owner ≡ true = rw silent refl in
    absurd (true≢false (sym none ∙ free)))
    sound.requests

free_fits : (flat : Flat) (s new : Socket) (tested : Owner) → IsSound flat → IsOpen flat s → IsFree flat s new tested → Fits flat new
free_fits flat s new tested sound at is =
    let given : IsGiven flat.sections s = of_open (IsGiven flat.sections) flat s at sound.given in
    let own : IsItsOwn s = of_open IsItsOwn flat s at sound.origins in
    record {
      given = record { first = rw is.name given.first; last = rw is.name given.last };
      bound = each_weaken (λ x. x.owner.name ≢ tested.name → is_owner x.owner.state ≡ true → refuses tested x.owner ≡ false) (λ x. NamesDiffer new x → AgreeAsOwners new x) flat.sockets
          (λ x free differ p q. agrees_unless_refused new.owner x.owner (is.alike x.owner ∙ free (λ e. differ (is.same_name ∙ sym e)) q)) (free_agrees tested flat.sockets is.free);
      tuples = each_of_all (λ x. NamesDiffer new x → TuplesDiffer new x) flat.sockets (λ x differ p q. absurd (true≢false (sym p ∙ is.now)));
      origin = λ _. (is.origin ∙ (own is.before).0 ∙ sym is.name, is.by_connect ∙ (own is.before).1);
      awake = is.named ∙ of_open IsAwakeIfNamed flat s at sound.awake ∙ ap not (awake_alike s.owner.state new.owner.state is.before is.now);
      settled = λ e. true≢false (sym (ap holds_tuple e) ∙ is.now);
      takes = takes_none flat s new sound at is.silent is.named is.name;
    }

-- `bind`

abbrev Sound : Outcome → Type 0
Sound o = IsSound o.flat

-- whom no other owner overlaps is refused by none
apart : (o v r : Bool) → (o && v) ≡ false → (v ≡ false → r ≡ false) → (o && r) ≡ false
apart true v r h k = k h
apart false v r h k = refl

none_refuses : (a : Owner) (sockets : List Socket) → is_overlapped a sockets ≡ false → is_refused a sockets ≡ false
none_refuses a [] h = refl
none_refuses a (x ∷ xs) h =
    let parts = or_parts (is_other_owner a.name x && overlap a x.owner) (is_overlapped a xs) h in
    let here : (is_other_owner a.name x && refuses a x.owner) ≡ false = apart (is_other_owner a.name x) (overlap a x.owner) (refuses a x.owner) parts.0 (overlaps_who_refuses a x.owner) in
    let later : is_refused a xs ≡ false = none_refuses a xs parts.1 in
    rw (here, later) refl

is_true : (b : Bool) → not b ≡ false → b ≡ true
is_true true h = refl
is_true false h = absurd (true≢false h)

not_true : (b : Bool) → not b ≡ true → b ≡ false
not_true false h = refl
not_true true h = absurd (true≢false (sym h))

-- the port that was found suits the list after the search
bind_suits : (flat after : Flat) (s : Socket) (addr : ℕ) (ports : List ℕ) (port : ℕ) → IsAfter flat after → find (suits_bind flat s addr) ports ≡ Some port → is_refused (at_port s addr port).owner after.sockets ≡ false
bind_suits flat after s addr ports port is found =
    let owner : Owner = (at_port s addr port).owner in
    let fits : is_overlapped owner flat.sockets ≡ false = not_true (is_overlapped owner flat.sockets) (found_passes (suits_bind flat s addr) ports port found) in
    none_refuses owner after.sockets (ap (is_overlapped owner) is.sockets ∙ fits)

bound_sound : (flat : Flat) (s : Socket) (end : End) (reply : Reply) → s.owner.state ≡ states.Unbound → IsSound flat → IsOpen flat s → is_refused (at_end s end).owner flat.sockets ≡ false → Sound (changed flat (at_end s end) reply)
bound_sound flat s end reply unbound sound at free =
    changed_sound flat (at_end s end) reply sound (free_fits flat s (at_end s end) (at_end s end).owner sound at (record {
      before = ap holds_tuple unbound;
      silent = ap is_listening unbound;
      now = refl;
      named = refl;
      name = refl;
      origin = refl;
      by_connect = refl;
      same_name = refl;
      alike = λ b. refl;
      free = free;
    }))
    (quiet_by flat s (at_end s end) sound at (ap is_listening unbound) refl refl)

bind_found_sound : (found : Found) (s : Socket) (addr : ℕ) (o : Option ℕ) → s.owner.state ≡ states.Unbound → IsSound found.flat → IsOpen found.flat s → ((port : ℕ) → o ≡ Some port → is_refused (at_port s addr port).owner found.flat.sockets ≡ false) → Sound (bind_found found s addr o)
bind_found_sound found s addr None unbound sound at free = sound
bind_found_sound found s addr (Some port) unbound sound at free =
    bound_sound found.flat s (record { addr = addr; port = port }) (replies.Port port) unbound sound at (free port refl)

pub bind_search_sound : (flat : Flat) (n : ℕ) (s : Socket) (addr : ℕ) → s.owner.state ≡ states.Unbound → IsSound flat → IsOpen flat s → Sound (bind_search flat n s addr)
bind_search_sound flat n s addr unbound sound at =
    let found : Found = search_bind flat n s addr in
    let is : IsAfter flat found.flat = after_search flat n firsts.Odd (suits_bind flat s addr) in
    bind_found_sound found s addr found.port unbound (after_sound flat found.flat n is sound) (after_open flat found.flat s is at)
    (λ port h. bind_suits flat found.flat s addr _ port is h)

bind_given_sound : (flat : Flat) (s : Socket) (end : End) → s.owner.state ≡ states.Unbound → IsSound flat → IsOpen flat s → Sound (bind_given flat s end)
bind_given_sound flat s end unbound sound at =
    let new : Socket = at_end s end in
    cond_both (is_refused new.owner flat.sockets) (unchanged flat replies.Eaddrinuse) (changed flat new (replies.Port end.port)) Sound
    (λ _. sound)
    (bound_sound flat s end (replies.Port end.port) unbound sound at)

-- an open socket without a port meets no other, whatever its address
addressed_sound : (flat : Flat) (s : Socket) (addr : ℕ) (reply : Reply) → s.owner.state ≡ states.Unbound → IsSound flat → IsOpen flat s → Sound (changed flat (at_address s addr) reply)
addressed_sound flat s addr reply unbound sound at =
    let new : Socket = at_address s addr in
    let before : holds_tuple s.owner.state ≡ false = ap holds_tuple unbound in
    let given : IsGiven flat.sections s = of_open (IsGiven flat.sections) flat s at sound.given in
    changed_sound flat new reply sound
    (record {
      given = record { first = given.first; last = given.last };
      bound = each_of_all (λ x. NamesDiffer new x → AgreeAsOwners new x) flat.sockets (λ x differ p q. absurd (true≢false (sym p)));
      tuples = each_of_all (λ x. NamesDiffer new x → TuplesDiffer new x) flat.sockets (λ x differ p q. absurd (true≢false (sym p)));
      origin = λ _. of_open IsItsOwn flat s at sound.origins before;
      awake = of_open IsAwakeIfNamed flat s at sound.awake ∙ ap not (awake_alike s.owner.state states.Unbound before refl);
      settled = λ e. cc;
      takes = takes_none flat s new sound at (ap is_listening unbound) refl refl;
    })
    (quiet_by flat s new sound at (ap is_listening unbound) refl refl)

bind_any_sound : (flat : Flat) (n : ℕ) (s : Socket) (addr : ℕ) → s.owner.state ≡ states.Unbound → IsSound flat → IsOpen flat s → Sound (bind_any flat n s addr)
bind_any_sound flat n s addr unbound sound at =
    cond_both s.owner.noport (changed flat (at_address s addr) (replies.Port 0)) (bind_search flat n s addr) Sound
    (λ _. addressed_sound flat s addr (replies.Port 0) unbound sound at)
    (λ _. bind_search_sound flat n s addr unbound sound at)

bind_socket_sound : (flat : Flat) (n : ℕ) (s : Socket) (t : State) (end : End) → s.owner.state ≡ t → IsSound flat → IsOpen flat s → Sound (bind_socket flat n s t end)
bind_socket_sound flat n s states.Unbound end is sound at =
    cond_both (end.port == 0) (bind_any flat n s end.addr) (bind_given flat s end) Sound
    (λ _. bind_any_sound flat n s end.addr is sound at)
    (λ _. bind_given_sound flat s end is sound at)
bind_socket_sound flat n s _ end is sound at = sound

bind_sound : (flat : Flat) (n : ℕ) (o : Option Socket) (end : End) → IsSound flat → ((s : Socket) → o ≡ Some s → IsOpen flat s) → Sound (bind flat n o end)
bind_sound flat n None end sound at = sound
bind_sound flat n (Some s) end sound at = bind_socket_sound flat n s s.owner.state end refl sound (at s refl)

-- `listen`

-- the open socket, and what it is as it begins to listen: still its own
record MayListen (was s : Socket) : Type 0 where
  before : holds_tuple was.owner.state ≡ false
  silent : is_listening was.owner.state ≡ false
  name : s.owner.name ≡ was.owner.name
  origin : s.owner.origin ≡ was.owner.origin
  by_connect : s.owner.by_connect ≡ was.owner.by_connect
  named : s.named ≡ was.named

listening_fits : (flat : Flat) (was s : Socket) → MayListen was s → IsSound flat → IsOpen flat was → is_refused s.owner flat.sockets ≡ false → Fits flat (listening s)
listening_fits flat was s may sound at free = free_fits flat was (listening s) s.owner sound at (record {
  before = may.before;
  silent = may.silent;
  now = refl;
  named = may.named;
  name = may.name;
  origin = may.origin;
  by_connect = may.by_connect;
  same_name = refl;
  alike = refuses_as_listener s.owner;
  free = free;
})

any_at : (p q : Socket → Bool) (x : Socket) (xs : List Socket) (s : Socket) (b : Bool) → p x ≡ b → (find (λ y. p y && q y) xs ≡ Some s → list_any p xs ≡ true) → find (λ y. p y && q y) (x ∷ xs) ≡ Some s → (p x || list_any p xs) ≡ true
any_at p q x xs s true e rest h = rw e refl
any_at p q x xs s false e rest h = rw e (rest (rw e at h))

any_if_found : (p q : Socket → Bool) (xs : List Socket) (s : Socket) → find (λ y. p y && q y) xs ≡ Some s → list_any p xs ≡ true
any_if_found p q [] s h = absurd (cc)
any_if_found p q (x ∷ xs) s h = any_at p q x xs s (p x) refl (any_if_found p q xs s) h

-- the numbers of a bucket's groups
bucket_numbers : (bucket : ℕ) → Each (λ n. n / 8 ≡ bucket) (range_with_len (8 * bucket) 8)
bucket_numbers bucket =
    (omega arith, (omega arith, (omega arith, (omega arith, (omega arith, (omega arith, (omega arith, (omega arith, tt))))))))

-- an open socket's name is known
known_if : (name : ℕ) (xs : List Socket) (s : Socket) → find (λ x. has_name name x && x.named) xs ≡ Some s → list_any (has_name s.owner.name) xs ≡ true
known_if name xs s h =
    let same : s.owner.name ≡ name = eqb-true s.owner.name name (and_parts (has_name name s) s.named (found_passes (λ x. has_name name x && x.named) xs s h)).0 in
    ap (λ k. list_any (has_name k) xs) same ∙ any_if_found (has_name name) (λ x. x.named) xs s h

out_of_groups : (flat : Flat) (was s : Socket) → MayListen was s → IsSound flat → IsOpen flat was → count_by (has_member s.owner.name) flat.groups ≡ 0
out_of_groups flat was s may sound at =
    ap (λ k. count_by (has_member k) flat.groups) may.name
    ∙ count_quiet flat.groups was (rw may.silent refl) (of_open (IsInOneGroup flat.groups) flat was at sound.grouped.sharing)

-- the groups that a listener entered
mates_group : (flat : Flat) (s : Socket) (groups : List Group) (mate : Socket) (full : Bool) → list_any (is_full_group mate.owner.name) flat.groups ≡ full → find (is_mate s.owner) flat.sockets ≡ Some mate → list_any (has_name s.owner.name) flat.sockets ≡ true → count_by (has_member s.owner.name) flat.groups ≡ 0 → IsSound flat
    → (if full then None else Some (map (join_group mate.owner.name s.owner.name) flat.groups)) ≡ Some groups → Enters flat.header.shape.bind (listening s) flat.sockets flat.groups groups
mates_group flat s groups mate true full at known out sound is = absurd (cc)
mates_group flat s groups mate false full at known out sound is =
    subst (Enters flat.header.shape.bind (listening s) flat.sockets flat.groups) (some_same _ _ is)
    (join_enters flat.header.shape.bind (listening s) mate flat.sockets flat.groups at known out full sound.grouped)

own_group : (flat : Flat) (s : Socket) (groups : List Group) (number : Option ℕ) → free_number (bucket_of (owner_key s.owner) flat.header.shape.bind) flat.groups ≡ number → find (is_mate s.owner) flat.sockets ≡ None → list_any (has_name s.owner.name) flat.sockets ≡ true → count_by (has_member s.owner.name) flat.groups ≡ 0 → IsSound flat
    → option_map (λ n. with_group s.owner.name n flat.groups) number ≡ Some groups → Enters flat.header.shape.bind (listening s) flat.sockets flat.groups groups
own_group flat s groups None free at known out sound is = absurd (cc)
own_group flat s groups (Some number) free at known out sound is =
    let bucket : ℕ = bucket_of (owner_key s.owner) flat.header.shape.bind in
    subst (Enters flat.header.shape.bind (listening s) flat.sockets flat.groups) (some_same _ _ is)
    (begin_enters flat.header.shape.bind number (listening s) flat.sockets flat.groups at known out
    (not_true (is_used flat.groups number) (found_passes (λ n. not (is_used flat.groups n)) (range_with_len (8 * bucket) 8) number free))
    (sym (each_found (λ n. n / 8 ≡ bucket) (λ n. not (is_used flat.groups n)) (range_with_len (8 * bucket) 8) number (bucket_numbers bucket) free))
    sound.grouped)

entered_by : (flat : Flat) (s : Socket) (groups : List Group) (mate : Option Socket) → find (is_mate s.owner) flat.sockets ≡ mate → list_any (has_name s.owner.name) flat.sockets ≡ true → count_by (has_member s.owner.name) flat.groups ≡ 0 → IsSound flat
    → join (bucket_of (owner_key s.owner) flat.header.shape.bind) s.owner.name (option_map (λ (m : Socket). m.owner.name) mate) flat.groups ≡ Some groups → Enters flat.header.shape.bind (listening s) flat.sockets flat.groups groups
entered_by flat s groups None at known out sound is =
    own_group flat s groups (free_number (bucket_of (owner_key s.owner) flat.header.shape.bind) flat.groups) refl at known out sound is
entered_by flat s groups (Some mate) at known out sound is =
    mates_group flat s groups mate (list_any (is_full_group mate.owner.name) flat.groups) refl at known out sound is

grouped_if : (flat : Flat) (s : Socket) (groups : List Group) (shares : Bool) → s.owner.reuseport ≡ shares → list_any (has_name s.owner.name) flat.sockets ≡ true → count_by (has_member s.owner.name) flat.groups ≡ 0 → IsSound flat
    → (if shares then join (bucket_of (owner_key s.owner) flat.header.shape.bind) s.owner.name (mate_of s.owner flat.sockets) flat.groups else Some flat.groups) ≡ Some groups → AreGroupsOf flat.header.shape.bind (put (listening s) flat.sockets) groups
grouped_if flat s groups true shares known out sound is =
    enter_grouped flat.header.shape.bind (listening s) flat.sockets flat.groups groups sound.names shares out
    (entered_by flat s groups (find (is_mate s.owner) flat.sockets) refl known out sound is) sound.grouped
grouped_if flat s groups false shares known out sound is =
    subst (AreGroupsOf flat.header.shape.bind (put (listening s) flat.sockets)) (some_same flat.groups groups is)
    (put_grouped flat.header.shape.bind (listening s) flat.sockets flat.groups sound.names shares out sound.grouped)

listen_as_sound : (flat : Flat) (was s : Socket) (o : Option (List Group)) → groups_with flat s ≡ o → MayListen was s → IsSound flat → IsOpen flat was → is_refused s.owner flat.sockets ≡ false → Sound (listen_as flat s o)
listen_as_sound flat was s None is may sound at free = sound
listen_as_sound flat was s (Some groups) is may sound at free =
    let known : list_any (has_name s.owner.name) flat.sockets ≡ true = ap (λ k. list_any (has_name k) flat.sockets) may.name ∙ known_if at.0 flat.sockets was at.1 in
    cond_both (not (has_slot flat)) (no_slot flat) (listens_in flat s groups) Sound
    (λ _. sound)
    (λ _. put_sound flat (listening s) groups (replies.Port s.owner.port) sound (listening_fits flat was s may sound at free)
    (grouped_if flat s groups s.owner.reuseport refl known (out_of_groups flat was s may sound at) sound is))

listen_bound_sound : (flat : Flat) (was s : Socket) → MayListen was s → IsSound flat → IsOpen flat was → Sound (listen_bound flat s)
listen_bound_sound flat was s may sound at =
    cond_both (is_refused s.owner flat.sockets) (unchanged flat replies.Eaddrinuse) (listen_as flat s (groups_with flat s)) Sound
    (λ _. sound)
    (listen_as_sound flat was s (groups_with flat s) refl may sound at)

listen_found_sound : (found : Found) (s : Socket) (o : Option ℕ) → s.owner.state ≡ states.Unbound → IsSound found.flat → IsOpen found.flat s → Sound (listen_found found s o)
listen_found_sound found s None unbound sound at = sound
listen_found_sound found s (Some port) unbound sound at =
    listen_bound_sound found.flat s (at_port s s.owner.addr port) (record { before = ap holds_tuple unbound; silent = ap is_listening unbound; name = refl; origin = refl; by_connect = refl; named = refl }) sound at

listen_socket_sound : (flat : Flat) (n : ℕ) (s : Socket) (t : State) → s.owner.state ≡ t → IsSound flat → IsOpen flat s → Sound (listen_socket flat n s t)
listen_socket_sound flat n s states.Unbound unbound sound at =
    let found : Found = search_bind flat n s s.owner.addr in
    let is : IsAfter flat found.flat = after_search flat n firsts.Odd (suits_bind flat s s.owner.addr) in
    listen_found_sound found s found.port unbound (after_sound flat found.flat n is sound) (after_open flat found.flat s is at)
listen_socket_sound flat n s states.Bound bound sound at =
    listen_bound_sound flat s s (record { before = ap holds_tuple bound; silent = ap is_listening bound; name = refl; origin = refl; by_connect = refl; named = refl }) sound at
listen_socket_sound flat n s _ is sound at = sound

listen_sound : (flat : Flat) (n : ℕ) (o : Option Socket) → IsSound flat → ((s : Socket) → o ≡ Some s → IsOpen flat s) → Sound (listen flat n o)
listen_sound flat n None sound at = sound
listen_sound flat n (Some s) sound at = listen_socket_sound flat n s s.owner.state refl sound (at s refl)

-- `connect`

-- who holds a four-tuple is full, a request, or waits
no_holder : (t : State) (same : Bool) → (claims_tuple t && same) ≡ false → (is_time_wait t && same) ≡ false → holds_tuple t ≡ true → same ≡ false
no_holder states.Full same full waits holds = full
no_holder states.Request same full waits holds = full
no_holder states.TimeWait same full waits holds = waits
no_holder states.Unbound same full waits holds = absurd (true≢false (sym holds))
no_holder states.Bound same full waits holds = absurd (true≢false (sym holds))
no_holder states.Listening same full waits holds = absurd (true≢false (sym holds))

-- once the TIME_WAITs of its four-tuple are gone, who has no twin shares its four-tuple with none
tuple_is_new : (new : Socket) (flat : Flat) → has_twin new.owner flat.sockets ≡ false → Each (λ x. TuplesDiffer new x) (replacing flat new.owner).sockets
tuple_is_new new flat free =
    let twin : Socket → Bool = λ x. claims_tuple x.owner.state && have_one_tuple new.owner x.owner in
    let NoTwin : Socket → Type 0 = λ x. twin x ≡ false in
    each_filter_kept (λ x. TuplesDiffer new x) (λ x. not (waits_at new.owner x)) flat.sockets
    (each_weaken NoTwin (λ x. not (waits_at new.owner x) ≡ true → TuplesDiffer new x) flat.sockets
    (λ x full kept p q. no_holder x.owner.state (have_one_tuple new.owner x.owner) full (not_true (waits_at new.owner x) kept) q)
    (each_unless_any twin flat.sockets free))

-- the sockets but the TIME_WAITs of a four-tuple
waiter_is_quiet : (t : State) (same shares : Bool) → not (is_time_wait t && same) ≡ false → (is_listening t && shares) ≡ false
waiter_is_quiet states.Listening same shares h = absurd (true≢false h)
waiter_is_quiet states.Full same shares h = refl
waiter_is_quiet states.Unbound same shares h = refl
waiter_is_quiet states.Bound same shares h = refl
waiter_is_quiet states.TimeWait same shares h = refl
waiter_is_quiet states.Request same shares h = refl

replacing_sound : (flat : Flat) (a : Owner) → IsSound flat → IsSound (replacing flat a)
replacing_sound flat a sound =
    gone_sound flat (λ s. not (waits_at a s)) (λ x. waiter_is_quiet x.owner.state (have_one_tuple a x.owner) x.owner.reuseport) sound

-- each socket is the open one, or agrees with it
with_open : (flat : Flat) (s : Socket) → IsSound flat → IsOpen flat s → Each (λ x. (x ≡ s) ⊎ AgreeAsOwners s x) flat.sockets
with_open flat s sound at =
    pairs_found AgreeAsOwners (λ x. has_name at.0 x && x.named) flat.sockets s owners_swap sound.bound at.1

-- the source is the bound address, or that is 0.0.0.0
source_narrows : (addr : ℕ) (from : Option ℕ) (source : ℕ) → source_of addr from ≡ Some source → ((addr == 0) || (addr == source)) ≡ true
source_narrows addr None source h = grind (arith, nat_tests)
source_narrows addr (Some from) source h = grind (arith, nat_tests)

-- what comes from the open socket agrees with all others
agrees_as_new : (flat : Flat) (s new : Socket) → Narrows new.owner s.owner → is_owner s.owner.state ≡ true → new.owner.name ≡ s.owner.name → (x : Socket) → (x ≡ s) ⊎ AgreeAsOwners s x → NamesDiffer new x → AgreeAsOwners new x
agrees_as_new flat s new narrow owns name x (inl e) differ p q = absurd (differ (name ∙ sym (ap (λ (y : Socket). y.owner.name) e)))
agrees_as_new flat s new narrow owns name x (inr h) differ p q = agrees_where_narrowed new.owner s.owner x.owner narrow (h owns q)

connect_fits : (flat : Flat) (s : Socket) (source : ℕ) (to : End) → s.owner.state ≡ states.Bound → ((s.owner.addr == 0) || (s.owner.addr == source)) ≡ true → IsSound flat → IsOpen flat s → Each (λ x. TuplesDiffer (connected_socket s source to) x) flat.sockets → Fits flat (connected_socket s source to)
connect_fits flat s source to bound narrows sound at new_tuple =
    let new : Socket = connected_socket s source to in
    let given : IsGiven flat.sections s = of_open (IsGiven flat.sections) flat s at sound.given in
    let narrow : Narrows new.owner s.owner = record {
      port = refl;
      dev = refl;
      net = refl;
      addr = narrows;
      uid = refl;
      reuseaddr = refl;
      reuseport = refl;
      origin = refl;
      by_connect = refl;
      listening = refl;
      waiting = ap is_time_wait bound;
    } in
    record {
      given = record { first = given.first; last = given.last };
      bound = each_weaken (λ x. (x ≡ s) ⊎ AgreeAsOwners s x) (λ x. NamesDiffer new x → AgreeAsOwners new x) flat.sockets (agrees_as_new flat s new narrow (ap is_owner bound) refl) (with_open flat s sound at);
      tuples = each_weaken (λ x. TuplesDiffer new x) (λ x. NamesDiffer new x → TuplesDiffer new x) flat.sockets (λ x h differ. h) new_tuple;
      origin = λ unconnected. absurd (true≢false unconnected);
      awake = of_open IsAwakeIfNamed flat s at sound.awake ∙ ap (λ t. not (is_time_wait t)) bound;
      settled = λ e. cc;
      takes = takes_none flat s new sound at (ap is_listening bound) refl refl;
    }

-- the open socket stays where TIME_WAITs go
kept_at : (p keep : Socket → Bool) (x : Socket) (xs : List Socket) (s : Socket) (b c : Bool) → p x ≡ b → keep x ≡ c → keep s ≡ true → (find p xs ≡ Some s → find p (filter keep xs) ≡ Some s) → find p (x ∷ xs) ≡ Some s → find p (cond c (x ∷ filter keep xs) (filter keep xs)) ≡ Some s
kept_at p keep x xs s true true e f stays rest h = rw e (rw e at h)
kept_at p keep x xs s true false e f stays rest h =
    absurd (true≢false (sym stays ∙ ap keep (sym (some_same x s (rw e at h))) ∙ f))
kept_at p keep x xs s false true e f stays rest h = rw e (rest (rw e at h))
kept_at p keep x xs s false false e f stays rest h = rest (rw e at h)

find_kept : (p keep : Socket → Bool) (xs : List Socket) (s : Socket) → keep s ≡ true → find p xs ≡ Some s → find p (filter keep xs) ≡ Some s
find_kept p keep [] s stays h = h
find_kept p keep (x ∷ xs) s stays h =
    kept_at p keep x xs s (p x) (keep x) refl refl stays (find_kept p keep xs s stays) h

replaced_open : (flat : Flat) (a : Owner) (s : Socket) → is_time_wait s.owner.state ≡ false → IsOpen flat s → IsOpen (replacing flat a) s
replaced_open flat a s awake at =
    (at.0, find_kept (λ x. has_name at.0 x && x.named) (λ x. not (waits_at a x)) flat.sockets s (rw awake refl) at.1)

-- what a connected socket meets once the TIME_WAITs of its four-tuple are gone
record Connects (flat : Flat) (new : Socket) : Type 0 where
  fits : Fits (replacing flat new.owner) new
  quiet : Quiet (replacing flat new.owner) new

full_sound : (flat : Flat) (new : Socket) → IsSound flat → Connects flat new → Sound (connect_as flat new)
full_sound flat new sound connects =
    cond_both (not (has_slot flat)) (no_slot flat) (changed (replacing flat new.owner) new (replies.End (end_of new))) Sound (λ _. sound)
    (λ _. changed_sound (replacing flat new.owner) new (replies.End (end_of new)) (replacing_sound flat new.owner sound) connects.fits connects.quiet)

bound_connects : (flat : Flat) (s : Socket) (source : ℕ) (to : End) → s.owner.state ≡ states.Bound → ((s.owner.addr == 0) || (s.owner.addr == source)) ≡ true → IsSound flat → IsOpen flat s → has_twin (connected_socket s source to).owner flat.sockets ≡ false → Connects flat (connected_socket s source to)
bound_connects flat s source to bound narrows sound at free =
    let new : Socket = connected_socket s source to in
    let cleared : Flat = replacing flat new.owner in
    let kept : IsSound cleared = replacing_sound flat new.owner sound in
    let still : IsOpen cleared s = replaced_open flat new.owner s (ap is_time_wait bound) at in
    record {
      fits = connect_fits cleared s source to bound narrows kept still (tuple_is_new new flat free);
      quiet = quiet_by cleared s new kept still (ap is_listening bound) refl refl;
    }

-- who isn't taken has no twin
not_taken : (flat : Flat) (n : ℕ) (s : Socket) → is_taken_in flat n s ≡ false → has_twin s.owner flat.sockets ≡ false
not_taken flat n s free =
    let switch : Bool = flat.header.twreuse in
    let moment : ℕ = moment_of flat.header n flat.sections in
    (or_parts (has_twin s.owner flat.sockets) (list_any (λ x. waits_at s.owner x && not (gives_way switch moment x.stamp)) flat.sockets) free).0

connect_from_sound : (flat : Flat) (n : ℕ) (s : Socket) (to : End) (source : Option ℕ) → s.owner.state ≡ states.Bound → ((k : ℕ) → source ≡ Some k → ((s.owner.addr == 0) || (s.owner.addr == k)) ≡ true) → IsSound flat → IsOpen flat s → Sound (connect_from flat n s to source)
connect_from_sound flat n s to None bound narrows sound at = sound
connect_from_sound flat n s to (Some source) bound narrows sound at =
    let new : Socket = connected_socket s source to in
    cond_both (is_taken_in flat n new) (unchanged flat replies.Eaddrnotavail) (connect_as flat new) Sound
    (λ _. sound)
    (λ free. full_sound flat new sound (bound_connects flat s source to bound (narrows source refl) sound at (not_taken flat n new free)))

ports_either_way : (a b : Owner) → same_port a b ≡ same_port b a
ports_either_way a b = rw (same_either_way a.net b.net, same_either_way a.port b.port) refl

-- of an owner of that port `connect` chose it
not_claimed : (o same chosen : Bool) → (o && (same && not chosen)) ≡ false → o ≡ true → same ≡ true → chosen ≡ true
not_claimed o same true h p q = refl
not_claimed o same false h p q = absurd (true≢false (rw (p, q) at h))

-- owners whose ports `connect` chose agree, and so do those of different ports
agrees_as_chosen : (new x : Socket) → new.owner.by_connect ≡ true → (is_owner x.owner.state && holds new.owner.port new.owner.net x.owner) ≡ false → (b : Bool) → same_port x.owner new.owner ≡ b → AgreeAsOwners new x
agrees_as_chosen new x chosen free true same p q =
    agrees_by_choice new.owner x.owner chosen (not_claimed (is_owner x.owner.state) (same_port x.owner new.owner) x.owner.by_connect free q same)
agrees_as_chosen new x chosen free false same p q = agrees_apart new.owner x.owner (ports_either_way new.owner x.owner ∙ same)

-- the owner has that port of that namespace, and `connect` didn't choose it
abbrev claims : ℕ → ℕ → Socket → Bool
claims port net x = is_owner x.owner.state && holds port net x.owner

search_fits : (flat : Flat) (s : Socket) (source : ℕ) (to : End) (port : ℕ) → s.owner.state ≡ states.Unbound → IsSound flat → IsOpen flat s → Each (λ x. claims port s.owner.net x ≡ false) flat.sockets → Each (λ x. TuplesDiffer (connected_by_search s source to port) x) flat.sockets → Fits flat (connected_by_search s source to port)
search_fits flat s source to port unbound sound at unclaimed new_tuple =
    let new : Socket = connected_by_search s source to port in
    let given : IsGiven flat.sections s = of_open (IsGiven flat.sections) flat s at sound.given in
    record {
      given = record { first = given.first; last = given.last };
      bound = each_weaken (λ x. claims port s.owner.net x ≡ false) (λ x. NamesDiffer new x → AgreeAsOwners new x) flat.sockets (λ x h differ. agrees_as_chosen new x refl h (same_port x.owner new.owner) refl) unclaimed;
      tuples = each_weaken (λ x. TuplesDiffer new x) (λ x. NamesDiffer new x → TuplesDiffer new x) flat.sockets (λ x h differ. h) new_tuple;
      origin = λ unconnected. absurd (true≢false unconnected);
      awake = of_open IsAwakeIfNamed flat s at sound.awake ∙ ap (λ t. not (is_time_wait t)) unbound;
      settled = λ e. cc;
      takes = takes_none flat s new sound at (ap is_listening unbound) refl refl;
    }

-- the port that was found suits the list after the search
record Suits (flat : Flat) (s : Socket) (source : ℕ) (to : End) (port : ℕ) : Type 0 where
  unclaimed : is_claimed port s.owner.net flat.sockets ≡ false
  free : has_twin (connected_by_search s source to port).owner flat.sockets ≡ false

both_false : (a b : Bool) → (not a && not b) ≡ true → (a ≡ false) × (b ≡ false)
both_false false false h = (refl, refl)
both_false true b h = absurd (true≢false (sym h))
both_false false true h = absurd (true≢false (sym h))

connect_suits : (flat after : Flat) (n : ℕ) (s : Socket) (source : ℕ) (to : End) (ports : List ℕ) (port : ℕ) → IsAfter flat after → find (suits_connect flat n s source to) ports ≡ Some port → Suits after s source to port
connect_suits flat after n s source to ports port is found =
    let new : Socket = connected_by_search s source to port in
    let parts = both_false (is_claimed port s.owner.net flat.sockets) (is_taken_in flat n new) (found_passes (suits_connect flat n s source to) ports port found) in
    record { unclaimed = ap (is_claimed port s.owner.net) is.sockets ∙ parts.0; free = ap (has_twin new.owner) is.sockets ∙ not_taken flat n new parts.1 }

search_connects : (flat : Flat) (s : Socket) (source : ℕ) (to : End) (port : ℕ) → s.owner.state ≡ states.Unbound → IsSound flat → IsOpen flat s → Suits flat s source to port → Connects flat (connected_by_search s source to port)
search_connects flat s source to port unbound sound at suits =
    let new : Socket = connected_by_search s source to port in
    let cleared : Flat = replacing flat new.owner in
    let kept : IsSound cleared = replacing_sound flat new.owner sound in
    let still : IsOpen cleared s = replaced_open flat new.owner s (ap is_time_wait unbound) at in
    record {
      fits = search_fits cleared s source to port unbound kept still
          (each_filter (λ x. claims port s.owner.net x ≡ false) (λ x. not (waits_at new.owner x)) flat.sockets (each_unless_any (claims port s.owner.net) flat.sockets suits.unclaimed))
          (tuple_is_new new flat suits.free);
      quiet = quiet_by cleared s new kept still (ap is_listening unbound) refl refl;
    }

connect_found_sound : (found : Found) (s : Socket) (source : ℕ) (to : End) (o : Option ℕ) → s.owner.state ≡ states.Unbound → IsSound found.flat → IsOpen found.flat s → ((port : ℕ) → o ≡ Some port → Suits found.flat s source to port) → Sound (connect_found found s source to o)
connect_found_sound found s source to None unbound sound at suits = sound
connect_found_sound found s source to (Some port) unbound sound at suits =
    full_sound found.flat (connected_by_search s source to port) sound (search_connects found.flat s source to port unbound sound at (suits port refl))

connect_search_sound : (flat : Flat) (n : ℕ) (s : Socket) (to : End) (source : Option ℕ) → s.owner.state ≡ states.Unbound → IsSound flat → IsOpen flat s → Sound (connect_search flat n s to source)
connect_search_sound flat n s to None unbound sound at = sound
connect_search_sound flat n s to (Some source) unbound sound at =
    let found : Found = search_port flat n firsts.Even (suits_connect flat n s source to) in
    let is : IsAfter flat found.flat = after_search flat n firsts.Even (suits_connect flat n s source to) in
    connect_found_sound found s source to found.port unbound (after_sound flat found.flat n is sound) (after_open flat found.flat s is at)
    (λ port h. connect_suits flat found.flat n s source to _ port is h)

connect_socket_sound : (flat : Flat) (n : ℕ) (s : Socket) (t : State) (from : Option ℕ) (to : End) → s.owner.state ≡ t → IsSound flat → IsOpen flat s → Sound (connect_socket flat n s t from to)
connect_socket_sound flat n s states.Bound from to is sound at =
    cond_both (is_no_end to) (unchanged flat replies.Einval) (connect_from flat n s to (source_of s.owner.addr from)) Sound
    (λ _. sound)
    (λ _. connect_from_sound flat n s to (source_of s.owner.addr from) is (source_narrows s.owner.addr from) sound at)
connect_socket_sound flat n s states.Unbound from to is sound at =
    cond_both (is_no_end to) (unchanged flat replies.Einval) (connect_search flat n s to (source_of s.owner.addr from)) Sound
    (λ _. sound)
    (λ _. connect_search_sound flat n s to (source_of s.owner.addr from) is sound at)
connect_socket_sound flat n s _ from to is sound at = sound

connect_sound : (flat : Flat) (n : ℕ) (o : Option Socket) (from : Option ℕ) (to : End) → IsSound flat → ((s : Socket) → o ≡ Some s → IsOpen flat s) → Sound (connect flat n o from to)
connect_sound flat n None from to sound at = sound
connect_sound flat n (Some s) from to sound at = connect_socket_sound flat n s s.owner.state from to refl sound (at s refl)

-- `accept`

-- what a listener and two ends are that `accept` doesn't refuse
record CanAccept (l : Owner) (at : End) : Type 0 where
  listens : l.state ≡ states.Listening
  port : at.port ≡ l.port
  addr : ((l.addr == 0) || (l.addr == at.addr)) ≡ true

-- a listens, p has the port, z names no address, m has the address, e no end
none_refused : (a p z m e : Bool) → (not a || not p || z || not m || e) ≡ false → (a ≡ true) × (p ≡ true) × (m ≡ true)
none_refused true true z true e h = (refl, refl, refl)
none_refused false p z m e h = absurd (true≢false h)
none_refused true false z m e h = absurd (true≢false h)
none_refused true true true false e h = absurd (true≢false h)
none_refused true true false false e h = absurd (true≢false h)

can_accept : (l : Owner) (from at : End) → is_no_accept l from at ≡ false → CanAccept l at
can_accept l from at h =
    let parts = none_refused (is_listening l.state) (at.port == l.port) (at.addr == 0) ((l.addr == 0) || (l.addr == at.addr)) (is_no_end from) h in
    record { listens = listening_is l.state parts.0; port = eqb-true at.port l.port parts.1; addr = parts.2 }

-- a listener's child agrees with the listener, and with whatever that agrees with
agrees_as_child : (l child x : Socket) → Narrows child.owner l.owner → is_owner l.owner.state ≡ true → (x ≡ l) ⊎ AgreeAsOwners l x → AgreeAsOwners x child
agrees_as_child l child x narrow owns (inl e) p q = agrees_by_origin x.owner child.owner (ap (λ (y : Socket). y.owner.origin) e ∙ sym narrow.origin)
agrees_as_child l child x narrow owns (inr h) p q = agrees_both_ways x.owner child.owner ∙ agrees_where_narrowed child.owner l.owner x.owner narrow (h owns p)

-- the list once the label is given
labelled_sound : (flat : Flat) (n : ℕ) (label : List ℕ) → IsSound flat → IsSound (with_new_label flat n label)
labelled_sound flat n label sound = labels_sound flat n (with_given flat.header n label flat.sections) (given_gives flat.header n label flat.sections) sound

-- a newcomer of a listener's comes last, once the TIME_WAITs of its four-tuple are gone
newcomer_sound : (flat : Flat) (new : Socket) → IsSound flat → (has_twin new.owner flat.sockets ≡ false → Joins (replacing flat new.owner) new) → Sound (accept_as flat new)
newcomer_sound flat new sound joins =
    let done : Outcome = added (replacing flat new.owner) new replies.Ok in
    cond_both (has_twin new.owner flat.sockets) (unchanged flat replies.Eaddrnotavail) (if not (has_slot flat) then no_slot flat else done) Sound
    (λ _. sound)
    (λ free. cond_both (not (has_slot flat)) (no_slot flat) done Sound (λ _. sound) (λ _. added_sound (replacing flat new.owner) new (replacing_sound flat new.owner sound) (joins free)))

-- a child agrees with each that stays, where it is a listener's among the sockets
child_agrees : (flat : Flat) (l child : Socket) (stays_in : Socket → Bool) → Narrows child.owner l.owner → is_owner l.owner.state ≡ true → Each (λ x. (x ≡ l) ⊎ AgreeAsOwners l x) flat.sockets → Each (λ x. AgreeAsOwners x child) (filter stays_in flat.sockets)
child_agrees flat l child stays_in narrow owns agree =
    each_filter (λ x. AgreeAsOwners x child) stays_in flat.sockets
    (each_weaken (λ x. (x ≡ l) ⊎ AgreeAsOwners l x) (λ x. AgreeAsOwners x child) flat.sockets (λ x. agrees_as_child l child x narrow owns) agree)

child_narrows : (l : Socket) (name : ℕ) (from at : End) → CanAccept l.owner at → Narrows (child_of l name from at).owner l.owner
child_narrows l name from at fit = record {
  port = refl;
  dev = refl;
  net = refl;
  addr = fit.addr;
  uid = refl;
  reuseaddr = refl;
  reuseport = refl;
  origin = refl;
  by_connect = refl;
  listening = refl;
  waiting = ap is_time_wait fit.listens;
}

tuple_joins : (flat : Flat) (new : Socket) → has_twin new.owner flat.sockets ≡ false → Each (λ x. TuplesDiffer x new) (replacing flat new.owner).sockets
tuple_joins flat new free =
    each_weaken (λ x. TuplesDiffer new x) (λ x. TuplesDiffer x new) (without_waiting new.owner flat.sockets) (λ x. tuples_swap new x) (tuple_is_new new flat free)

child_joins : (flat : Flat) (n : ℕ) (label : List ℕ) (l : Socket) (from at : End) → length (labels_of n flat.sections) + 1 < 2 ^ 56 → CanAccept l.owner at → IsSound flat → IsOpen flat l
    → has_twin (child_of l (next_name n flat.sections) from at).owner flat.sockets ≡ false → Joins (replacing (with_new_label flat n label) (child_of l (next_name n flat.sections) from at).owner) (child_of l (next_name n flat.sections) from at)
child_joins flat n label l from at room fit sound is free =
    let child : Socket = child_of l (next_name n flat.sections) from at in
    let stays_in : Socket → Bool = λ x. not (waits_at child.owner x) in
    record {
      given = next_is_given flat.header n label flat.sections child room refl;
      names = each_filter (λ x. NamesDiffer x child) stays_in flat.sockets (next_is_new n flat.sections flat.sockets room sound.given);
      bound = child_agrees flat l child stays_in (child_narrows l (next_name n flat.sections) from at fit) (ap is_owner fit.listens) (with_open flat l sound is);
      tuples = tuple_joins flat child free;
      origin = λ unconnected. absurd (true≢false unconnected);
      quiet = refl;
      awake = refl;
      apart = each_filter (λ r. r.owner.state ≡ states.Request → child.owner.name ≢ r.owner.origin) stays_in flat.sockets (fresh_origins flat n room sound);
      listener = λ is. absurd (cc);
    }

accept_sound : (flat : Flat) (n : ℕ) (label : List ℕ) (o : Option Socket) (from at : End) → length (labels_of n flat.sections) + 1 < 2 ^ 56 → IsSound flat → ((s : Socket) → o ≡ Some s → IsOpen flat s)
    → Sound (accept (with_new_label flat n label) (next_name n flat.sections) o from at)
accept_sound flat n label None from at room sound is = labelled_sound flat n label sound
accept_sound flat n label (Some l) from at room sound is =
    let labelled : Flat = with_new_label flat n label in
    let child : Socket = child_of l (next_name n flat.sections) from at in
    let kept : IsSound labelled = labelled_sound flat n label sound in
    cond_both (is_no_accept l.owner from at) (unchanged labelled replies.Einval) (accept_as labelled child) Sound
    (λ _. kept)
    (λ fits. newcomer_sound labelled child kept (child_joins flat n label l from at room (can_accept l.owner from at fits) sound (is l refl)))

-- `syn`

-- the listener can accept at its request's ends
takes_own : (l : Socket) (name : ℕ) (from at : End) → is_no_accept l.owner from at ≡ false → CanAccept l.owner at → is_no_ack l.owner (request_of l name from at).owner ≡ false
takes_own l name from at accepts fit =
    let same : is_no_accept l.owner from (record { addr = at.addr; port = l.owner.port }) ≡ false = ap (λ port. is_no_accept l.owner from (record { addr = at.addr; port = port })) (sym fit.port) ∙ accepts in
    let one_net : (l.owner.net == l.owner.net) ≡ true = eq-eqb l.owner.net l.owner.net refl in
    rw (same, one_net) refl

-- and no other socket has the name by which the request came
takes_if : (l r x : Socket) → r.owner.origin ≡ l.owner.name → is_no_ack l.owner r.owner ≡ false → (x ≡ l) ⊎ NamesDiffer l x → CanTake r x
takes_if l r x origin fits (inl e) named same = subst (λ (y : Socket). is_no_ack y.owner r.owner ≡ false) (sym e) fits
takes_if l r x origin fits (inr differ) named same = absurd (differ (sym (same ∙ origin)))

-- a request is no owner of a port
request_joins : (flat : Flat) (n : ℕ) (label : List ℕ) (l : Socket) (from at : End) → length (labels_of n flat.sections) + 1 < 2 ^ 56 → is_no_accept l.owner from at ≡ false → IsSound flat → IsOpen flat l
    → has_twin (request_of l (next_name n flat.sections) from at).owner flat.sockets ≡ false → Joins (replacing (with_new_label flat n label) (request_of l (next_name n flat.sections) from at).owner) (request_of l (next_name n flat.sections) from at)
request_joins flat n label l from at room accepts sound is_there free =
    let request : Socket = request_of l (next_name n flat.sections) from at in
    let stays_in : Socket → Bool = λ x. not (waits_at request.owner x) in
    let fit : CanAccept l.owner at = can_accept l.owner from at accepts in
    let origin : l.owner.origin ≡ l.owner.name = (of_open IsItsOwn flat l is_there sound.origins (ap holds_tuple fit.listens)).0 in
    let given : IsGivenName flat.sections l.owner.name = of_open (IsGiven flat.sections) flat l is_there sound.given in
    let takes : is_no_ack l.owner request.owner ≡ false = takes_own l (next_name n flat.sections) from at accepts fit in
    record {
      given = next_is_given flat.header n label flat.sections request room refl;
      names = each_filter (λ x. NamesDiffer x request) stays_in flat.sockets (next_is_new n flat.sections flat.sockets room sound.given);
      bound = each_of_all (λ x. AgreeAsOwners x request) (without_waiting request.owner flat.sockets) (λ x p q. absurd (true≢false (sym q)));
      tuples = tuple_joins flat request free;
      origin = λ unconnected. absurd (true≢false unconnected);
      quiet = refl;
      awake = refl;
      apart = each_filter (λ r. r.owner.state ≡ states.Request → request.owner.name ≢ r.owner.origin) stays_in flat.sockets (fresh_origins flat n room sound);
      listener = λ is. (
        rw origin (stays_given n flat.sections (with_given flat.header n label flat.sections) l.owner.name (given_gives flat.header n label flat.sections) given),
        (
          each_filter (CanTake request) stays_in flat.sockets
              (each_weaken (λ x. (x ≡ l) ⊎ NamesDiffer l x) (CanTake request) flat.sockets (λ x. takes_if l request x origin takes)
              (pairs_found NamesDiffer (λ x. has_name is_there.0 x && x.named) flat.sockets l names_swap sound.names is_there.1)),
          λ named same. absurd (is_new n flat.sections l.owner.name room given (sym (same ∙ origin))),
        ),
      );
    }

syn_sound : (flat : Flat) (n : ℕ) (label : List ℕ) (o : Option Socket) (from at : End) → length (labels_of n flat.sections) + 1 < 2 ^ 56 → IsSound flat → ((s : Socket) → o ≡ Some s → IsOpen flat s)
    → Sound (syn (with_new_label flat n label) (next_name n flat.sections) o from at)
syn_sound flat n label None from at room sound is = labelled_sound flat n label sound
syn_sound flat n label (Some l) from at room sound is =
    let labelled : Flat = with_new_label flat n label in
    let request : Socket = request_of l (next_name n flat.sections) from at in
    let kept : IsSound labelled = labelled_sound flat n label sound in
    cond_both (is_no_accept l.owner from at) (unchanged labelled replies.Einval) (accept_as labelled request) Sound
    (λ _. kept)
    (λ accepts. newcomer_sound labelled request kept (request_joins flat n label l from at room accepts sound (is l refl)))

-- `drop` and `close`

removed_sound : (flat : Flat) (s : Socket) (reply : Reply) → IsSound flat → Sound (removed flat s reply)
removed_sound flat s reply sound =
    let stays_in : Socket → Bool = λ x. not (has_name s.owner.name x) in
    record {
      names = pairs_filter NamesDiffer stays_in flat.sockets sound.names;
      given = each_filter (IsGiven flat.sections) stays_in flat.sockets sound.given;
      bound = pairs_filter AgreeAsOwners stays_in flat.sockets sound.bound;
      tuples = pairs_filter TuplesDiffer stays_in flat.sockets sound.tuples;
      origins = each_filter IsItsOwn stays_in flat.sockets sound.origins;
      awake = each_filter IsAwakeIfNamed stays_in flat.sockets sound.awake;
      requests = requests_left flat.sections stays_in flat.sockets sound.requests;
      grouped = remove_grouped flat.header.shape.bind s.owner.name flat.sockets flat.groups sound.grouped;
    }

drop_sound : (flat : Flat) (o : Option Socket) → IsSound flat → Sound (drop flat o)
drop_sound flat None sound = sound
drop_sound flat (Some s) sound = removed_sound flat s replies.Ok sound

-- `ack`

-- a request is in no group, and so all groups stay as they are where it goes
request_gone : (flat : Flat) (r : Socket) → r.owner.state ≡ states.Request → IsSound flat → IsOpen flat r → IsSound (without_request flat r)
request_gone flat r is sound at =
    let one : IsInOneGroup flat.groups r = of_open (IsInOneGroup flat.groups) flat r at sound.grouped.sharing in
    let silent : is_listening r.owner.state ≡ false = ap is_listening is in
    let same : leave r.owner.name flat.groups ≡ flat.groups = leave_none flat.header.shape.bind r.owner.name flat.sockets flat.groups (count_quiet flat.groups r (rw silent refl) one) sound.grouped in
    subst (λ groups. IsSound (record flat { sockets = without r.owner.name flat.sockets; groups = groups })) same (removed_sound flat r replies.Ok sound)

-- the request's ends are its listener's child's
record CanAck (l r : Owner) : Type 0 where
  accepts : CanAccept l (own_end r)
  net : l.net ≡ r.net

can_ack : (l r : Owner) → is_no_ack l r ≡ false → CanAck l r
can_ack l r h =
    let parts = or_parts (is_no_accept l (other_end r) (own_end r)) (not (l.net == r.net)) h in
    record { accepts = can_accept l (other_end r) (own_end r) parts.0; net = eqb-true l.net r.net (is_true (l.net == r.net) parts.1) }

-- another than the request has another four-tuple than the child
heir_tuple : (l r : Socket) (name : ℕ) (x : Socket) → r.owner.state ≡ states.Request → CanAck l.owner r.owner → (x ≡ r) ⊎ TuplesDiffer r x → not (has_name r.owner.name x) ≡ true → TuplesDiffer x (heir_of l name r)
heir_tuple l r name x is fit (inl e) stays p q =
    absurd (true≢false (sym (eq-eqb x.owner.name r.owner.name (ap (λ (y : Socket). y.owner.name) e)) ∙ not_true (has_name r.owner.name x) stays))
heir_tuple l r name x is fit (inr h) stays p q =
    tuples_either_way x.owner (heir_of l name r).owner
    ∙ rw (fit.net, sym fit.accepts.port) (h (ap holds_tuple is) p)

heir_joins : (flat : Flat) (n : ℕ) (label : List ℕ) (l r : Socket) → length (labels_of n flat.sections) + 1 < 2 ^ 56 → r.owner.state ≡ states.Request → CanAck l.owner r.owner → IsSound flat → IsOpen flat r → open_in n r.owner.origin flat.sockets ≡ Some l
    → Joins (without_request (with_new_label flat n label) r) (heir_of l (next_name n flat.sections) r)
heir_joins flat n label l r room is fit sound at found =
    let child : Socket = heir_of l (next_name n flat.sections) r in
    let stays_in : Socket → Bool = λ x. not (has_name r.owner.name x) in
    record {
      given = next_is_given flat.header n label flat.sections child room refl;
      names = each_filter (λ x. NamesDiffer x child) stays_in flat.sockets (next_is_new n flat.sections flat.sockets room sound.given);
      bound = child_agrees flat l child stays_in (child_narrows l (next_name n flat.sections) (other_end r.owner) (own_end r.owner) fit.accepts) (ap is_owner fit.accepts.listens)
          (pairs_found AgreeAsOwners (λ x. has_name r.owner.origin x && is_open_in n x) flat.sockets l owners_swap sound.bound found);
      tuples = each_filter_kept (λ x. TuplesDiffer x child) stays_in flat.sockets
          (each_weaken (λ x. (x ≡ r) ⊎ TuplesDiffer r x) (λ x. stays_in x ≡ true → TuplesDiffer x child) flat.sockets (λ x. heir_tuple l r (next_name n flat.sections) x is fit)
          (pairs_found TuplesDiffer (λ x. has_name at.0 x && x.named) flat.sockets r tuples_swap sound.tuples at.1));
      origin = λ unconnected. absurd (true≢false unconnected);
      quiet = refl;
      awake = refl;
      apart = each_filter (λ x. x.owner.state ≡ states.Request → child.owner.name ≢ x.owner.origin) stays_in flat.sockets (fresh_origins flat n room sound);
      listener = λ is. absurd (cc);
    }

ack_by_sound : (flat : Flat) (n : ℕ) (label : List ℕ) (r : Socket) (o : Option Socket) → length (labels_of n flat.sections) + 1 < 2 ^ 56 → r.owner.state ≡ states.Request → IsSound flat → IsOpen flat r → open_in n r.owner.origin flat.sockets ≡ o
    → Sound (ack_by (with_new_label flat n label) (next_name n flat.sections) r o)
ack_by_sound flat n label r None room is sound at found = labelled_sound flat n label sound
ack_by_sound flat n label r (Some l) room is sound at found =
    let labelled : Flat = with_new_label flat n label in
    let child : Socket = heir_of l (next_name n flat.sections) r in
    let kept : IsSound labelled = labelled_sound flat n label sound in
    cond_both (is_no_ack l.owner r.owner) (unchanged labelled replies.Einval) (hand_over labelled r child) Sound
    (λ _. kept)
    (λ fits. cond_both (not (has_slot labelled)) (no_slot labelled) (added (without_request labelled r) child replies.Ok) Sound
    (λ _. kept)
    (λ _. added_sound (without_request labelled r) child (request_gone labelled r is kept at) (heir_joins flat n label l r room is (can_ack l.owner r.owner fits) sound at found)))

ack_socket_sound : (flat : Flat) (n : ℕ) (label : List ℕ) (r : Socket) (t : State) → length (labels_of n flat.sections) + 1 < 2 ^ 56 → r.owner.state ≡ t → IsSound flat → IsOpen flat r
    → Sound (ack_socket (with_new_label flat n label) n (next_name n flat.sections) r t)
ack_socket_sound flat n label r states.Request room is sound at =
    ack_by_sound flat n label r (open_in n r.owner.origin flat.sockets) room is sound at refl
ack_socket_sound flat n label r _ room is sound at = labelled_sound flat n label sound

ack_sound : (flat : Flat) (n : ℕ) (label : List ℕ) (o : Option Socket) → length (labels_of n flat.sections) + 1 < 2 ^ 56 → IsSound flat → ((s : Socket) → o ≡ Some s → IsOpen flat s)
    → Sound (ack (with_new_label flat n label) n (next_name n flat.sections) o)
ack_sound flat n label None room sound is = labelled_sound flat n label sound
ack_sound flat n label (Some r) room sound is = ack_socket_sound flat n label r r.owner.state room refl sound (is r refl)

-- `close` of a full socket

any_or_itself : (a : ℕ) → ((a == 0) || (a == a)) ≡ true
any_or_itself a = grind (arith, nat_tests)

-- another than the open socket keeps apart from it
other_tuple : (s new x : Socket) → new.owner.name ≡ s.owner.name → have_one_tuple new.owner x.owner ≡ have_one_tuple s.owner x.owner → holds_tuple s.owner.state ≡ true → (x ≡ s) ⊎ TuplesDiffer s x → NamesDiffer new x → TuplesDiffer new x
other_tuple s new x name same holds (inl e) differ p q = absurd (differ (name ∙ sym (ap (λ (y : Socket). y.owner.name) e)))
other_tuple s new x name same holds (inr h) differ p q = same ∙ h holds q

waiting_fits : (flat : Flat) (s : Socket) (moment : ℕ) → s.owner.state ≡ states.Full → IsSound flat → IsOpen flat s → Fits flat (waiting s moment)
waiting_fits flat s moment full sound at =
    let new : Socket = waiting s moment in
    let given : IsGiven flat.sections s = of_open (IsGiven flat.sections) flat s at sound.given in
    let narrow : Narrows new.owner s.owner = record {
      port = refl;
      dev = refl;
      net = refl;
      addr = any_or_itself s.owner.addr;
      uid = refl;
      reuseaddr = refl;
      reuseport = refl;
      origin = refl;
      by_connect = refl;
      listening = refl;
      waiting = ap is_time_wait full;
    } in
    record {
      given = record { first = given.first; last = given.last };
      bound = each_weaken (λ x. (x ≡ s) ⊎ AgreeAsOwners s x) (λ x. NamesDiffer new x → AgreeAsOwners new x) flat.sockets (agrees_as_new flat s new narrow (ap is_owner full) refl) (with_open flat s sound at);
      tuples = each_weaken (λ x. (x ≡ s) ⊎ TuplesDiffer s x) (λ x. NamesDiffer new x → TuplesDiffer new x) flat.sockets (λ x. other_tuple s new x refl refl (ap holds_tuple full))
          (pairs_found TuplesDiffer (λ x. has_name at.0 x && x.named) flat.sockets s tuples_swap sound.tuples at.1);
      origin = λ unconnected. absurd (true≢false unconnected);
      awake = refl;
      settled = λ e. cc;
      takes = each_of_all (λ r. r.owner.state ≡ states.Request → CanTake r new) flat.sockets (λ r is named. absurd (true≢false (sym named)));
    }

close_socket_sound : (flat : Flat) (n : ℕ) (s : Socket) (t : State) → s.owner.state ≡ t → IsSound flat → IsOpen flat s → Sound (close_socket flat n s t)
close_socket_sound flat n s states.Full full sound at =
    let moment : ℕ = moment_of flat.header n flat.sections in
    let no_slot : Reply = replies.NoSlot flat.header.shape.slots 0 in
    cond_both (has_slot flat) (changed flat (waiting s moment) replies.TimeWait) (removed flat s no_slot) Sound
    (λ _. changed_sound flat (waiting s moment) replies.TimeWait sound (waiting_fits flat s moment full sound at) (quiet_by flat s (waiting s moment) sound at (ap is_listening full) refl refl))
    (λ _. removed_sound flat s no_slot sound)
close_socket_sound flat n s _ is sound at = removed_sound flat s replies.Ok sound

close_sound : (flat : Flat) (n : ℕ) (o : Option Socket) → IsSound flat → ((s : Socket) → o ≡ Some s → IsOpen flat s) → Sound (close flat n o)
close_sound flat n None sound at = sound
close_sound flat n (Some s) sound at = close_socket_sound flat n s s.owner.state refl sound (at s refl)

-- `at` and `reap`

at_sound : (flat : Flat) (n moment : ℕ) → IsSound flat → Sound (at flat n moment)
at_sound flat n moment sound =
    let sections : List Section = with_moment flat.header n moment flat.sections in
    let later : Flat = record flat { sections = sections } in
    cond_both (nat_lt moment (moment_of flat.header n flat.sections)) (unchanged flat replies.Einval) (unchanged later replies.Ok) Sound
    (λ _. sound)
    (λ _. labels_sound flat n sections (keeps_at n flat later (moment_keeps flat.header n moment flat.sections)) sound)

over_is_quiet : (t : State) (ours over shares : Bool) → not (is_time_wait t && ours && over) ≡ false → (is_listening t && shares) ≡ false
over_is_quiet states.Listening ours over shares h = absurd (true≢false h)
over_is_quiet states.Full ours over shares h = refl
over_is_quiet states.Unbound ours over shares h = refl
over_is_quiet states.Bound ours over shares h = refl
over_is_quiet states.TimeWait ours over shares h = refl
over_is_quiet states.Request ours over shares h = refl

reap_sound : (flat : Flat) (n : ℕ) → IsSound flat → Sound (reap flat n)
reap_sound flat n sound =
    let moment : ℕ = moment_of flat.header n flat.sections in
    gone_sound flat (λ s. not (is_expired n moment s))
    (λ x. over_is_quiet x.owner.state (x.owner.name / 2 ^ 56 == n) (expired x.stamp moment) x.owner.reuseport) sound

pub stays : StaysSound
unfolding step
stays flat n (commands.Socket label options) room sound =
    socket_sound flat n label options room sound
stays flat n (commands.Bind label end) room sound = bind_sound flat n (open_socket flat n label) end sound (is_open flat n label)
stays flat n (commands.Listen label) room sound = listen_sound flat n (open_socket flat n label) sound (is_open flat n label)
stays flat n (commands.Connect label from to) room sound = connect_sound flat n (open_socket flat n label) from to sound (is_open flat n label)
stays flat n (commands.Accept listener label from at) room sound =
    accept_sound flat n label (open_socket flat n listener) from at room sound (is_open flat n listener)
stays flat n (commands.Syn listener label from at) room sound =
    syn_sound flat n label (open_socket flat n listener) from at room sound (is_open flat n listener)
stays flat n (commands.Ack request label) room sound =
    ack_sound flat n label (open_socket flat n request) room sound (is_open flat n request)
stays flat n (commands.Drop label) room sound = drop_sound flat (open_socket flat n label) sound
stays flat n (commands.Close label) room sound = close_sound flat n (open_socket flat n label) sound (is_open flat n label)
stays flat n (commands.At moment) room sound = at_sound flat n moment sound
stays flat n commands.Reap room sound = reap_sound flat n sound
stays flat n (commands.Look query) room sound = sound
stays flat n (commands.Packets count) room sound = sound
stays flat n commands.Dump room sound = sound

-- how many labels each section can still give
abbrev HasRoom : Flat → List Issued → Type 0
HasRoom flat commands = (n : ℕ) → length (labels_of n flat.sections) + count_by (is_of n) commands < 2 ^ 56

itself : (n : ℕ) → (n == n) ≡ true
itself n = grind (arith, nat_tests)

one_more : (n : ℕ) (c : Issued) (rest : List Issued) → count_by (is_of n) (c ∷ rest) ≡ cond (c.section == n) 1 0 + count_by (is_of n) rest
one_more n c rest = sum_by-cons (λ x. cond {A = ℕ} (is_of n x) 1 0) c rest

run_sound : (flat : Flat) (commands : List Issued) → HasRoom flat commands → IsSound flat → IsSound (after flat commands)
run_sound flat [] room sound = sound
run_sound flat (c ∷ rest) room sound =
    let next : Flat = (step flat c.section c.command).flat in
    let counted : cond {A = ℕ} (c.section == c.section) 1 0 ≡ 1 = rw (itself c.section) refl in
    let room_now : length (labels_of c.section flat.sections) + 1 < 2 ^ 56 = omega (arith, room c.section, one_more c.section c rest, counted) in
    run_sound next rest
    (λ m. let grown = grows c.section m flat.sections next.sections (gives_at_one flat c.section c.command) in omega (arith, grown.most, room m, one_more m c rest))
    (stays flat c.section c.command room_now sound)

pub runs : RunsSound
runs header commands room = run_sound (new_flat header) commands (λ n. omega (arith, room n)) (starts header)
