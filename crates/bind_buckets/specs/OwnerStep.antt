-- What a request to a bind bucket leaves, and how it is answered: inet_csk_get_port, inet_csk_find_open_port,
-- inet_csk_bind_conflict and inet_csk_listen_start of net/ipv4/inet_connection_sock.c, __inet_hash_connect,
-- __inet_inherit_port and inet_put_port of net/ipv4/inet_hashtables.c, reuseport_alloc and reuseport_add_sock of
-- net/core/sock_reuseport.c. Our own rule: so many places for groups in a bucket, and room for so many members in a
-- group.
--
-- To be read from the end: `owner_step` has a line for each request, and what it calls stands above it.
use Rattle.std.specs.Prelude.{ℕ, ◌+◌, ◌*◌, Bool, ◌==◌, ◌&&◌, nat_lt, List, [], ◌∷◌, ◌++◌, length, Option, None, Some, if◌then◌else◌, find, position, replicate, slice_set}
use Rattle.std.specs.List.{slice_index_or}
use Rattle.std.specs.Option.{option_or, option_and_then}
use Rattle.sock_card.specs.declared.owner.Owner.{Owner}
use Rattle.sock_card.specs.Limits.{group_room}
use Rattle.sock_card.specs.Conflict.{overlap, refuses, holds, is_mate, is_time_wait}
use Rattle.sock_card.specs.Became.{as_listener, connected, child, as_waiting}
use Rattle.bind_buckets.specs.declared.request.Request.{Request}
use Rattle.bind_buckets.specs.declared.request.Request.TheVariants as requests
use Rattle.bind_buckets.specs.declared.request.Answer.{Answer}
use Rattle.bind_buckets.specs.declared.request.Answer.TheVariants as answers
use Rattle.bind_buckets.specs.Limits.{group_places}
use Rattle.bind_buckets.specs.First.{change_first, drop_first}
use Rattle.bind_buckets.specs.Members.{member, has_member, joined_by, without_member}

-- the owners, oldest first, and the members at each place for a group: a place without any is free
pub record Held : Type 0 where
  pub owners : List Owner
  pub groups : List (List ℕ)

-- what a request leaves, and its answer
pub record After : Type 0 where
  pub held : Held
  pub answer : Answer

abbrev pub empty : Held
empty = record { owners = []; groups = replicate group_places [] }

abbrev pub has_name : ℕ → Owner → Bool
has_name name a = a.name == name

-- all stays as it was
abbrev pub kept : Held → Answer → After
kept h answer = record { held = h; answer = answer }

-- one owner more, the last
abbrev pub with_last : Held → Owner → Held
with_last h a = record h { owners = h.owners ++ a ∷ [] }

abbrev pub with_owner : Held → Owner → After
with_owner h a = record { held = with_last h a; answer = answers.Done }

-- the owner comes in, unless one stands in its way
abbrev pub admitted : Held → Owner → Option Owner → After
admitted h a None = with_owner h a
admitted h a (Some other) = kept h (answers.InUse other.name)

-- whether `connect` may choose a port that none holds, or one does
abbrev pub free_answer : Option Owner → Answer
free_answer None = answers.Done
free_answer (Some holder) = answers.NotFree holder.name

-- a call on a name, of which the first owner of that name is spoken
abbrev pub spoken : Held → ℕ → Option Owner → (Owner → After) → After
spoken h name None speak = kept h (answers.Strange name)
spoken h name (Some a) speak = speak a

abbrev pub named : Held → ℕ → (Owner → After) → After
named h name speak = spoken h name (find (has_name name) h.owners) speak

abbrev pub is_free : List ℕ → Bool
is_free members = length members == 0

-- the place of the group in which a listener's mates are
abbrev pub mates_place : Held → Owner → Option ℕ
mates_place h a =
    option_and_then (λ (mate : Owner). position (has_member mate.name) h.groups) (find (is_mate a) h.owners)

-- where a listener goes: to its mates, or to the first free place
abbrev pub place_for : Held → Owner → Option ℕ
place_for h a = option_or (mates_place h a) (position is_free h.groups)

abbrev pub members_at : Held → ℕ → List ℕ
members_at h place = slice_index_or h.groups place []

-- a group's number among those of all buckets
abbrev pub group_number : ℕ → ℕ → ℕ
group_number number place = group_places * number + place

abbrev pub group_answer : ℕ → Held → Option ℕ → Answer
group_answer number h None = answers.GroupsFull
group_answer number h (Some place) =
    if nat_lt (length (members_at h place)) group_room then answers.Group
    (Some (group_number number place)) else answers.GroupFull

-- the answer to a listener that none refuses, or one does
abbrev pub listener_answer : ℕ → Held → Owner → Option Owner → Answer
listener_answer number h a (Some other) = answers.InUse other.name
listener_answer number h a None =
    if a.reuseport then group_answer number h (place_for h a) else answers.Group None

-- all owners but the first of that name
abbrev pub others : Held → ℕ → List Owner
others h name = drop_first (has_name name) h.owners

abbrev pub may_listen : ℕ → Held → ℕ → Owner → After
may_listen number h name a = kept h (listener_answer number h a (find (refuses a) (others h name)))

-- the groups, with one member more at that place
abbrev pub with_member : Option ℕ → ℕ → List (List ℕ) → List (List ℕ)
with_member None m groups = groups
with_member (Some place) m groups = slice_set groups place (joined_by m (slice_index_or groups place []))

abbrev pub changed : Held → ℕ → (Owner → Owner) → List (List ℕ) → After
changed h name change groups =
    record {
      held = record { owners = change_first (has_name name) change h.owners; groups = groups };
      answer = answers.Done;
    }

abbrev pub listening : Held → ℕ → ℕ → Owner → After
listening h name slot a =
    changed h name as_listener
    (if a.reuseport then with_member (place_for h a) (member slot name) h.groups else h.groups)

-- the owner leaves, and the group that it is a member of
abbrev pub removed : Held → ℕ → After
removed h name =
    record {
      held = record {
        owners = drop_first (has_name name) h.owners;
        groups = change_first (has_member name) (without_member name) h.groups;
      };
      answer = answers.Done;
    }

-- an owner of that name in TIME_WAIT
abbrev pub waits_as : ℕ → Owner → Bool
waits_as name a = has_name name a && is_time_wait a.state

-- the first owner of that name in TIME_WAIT leaves
abbrev pub without_waiting : Held → ℕ → After
without_waiting h name =
    record { held = record h { owners = drop_first (waits_as name) h.owners }; answer = answers.Done }

-- the request of the bucket of that number
unfoldable pub owner_step : ℕ → Held → Request → After
owner_step number h (requests.Bind a) = admitted h a (find (refuses a) h.owners)
owner_step number h (requests.BindAuto a) = admitted h a (find (overlap a) h.owners)
owner_step number h (requests.MayListen name) = named h name (may_listen number h name)
owner_step number h (requests.Listen name slot) = named h name (listening h name slot)
owner_step number h (requests.Free port net) = kept h (free_answer (find (holds port net) h.owners))
owner_step number h (requests.ConnectAuto a) = with_owner h a
owner_step number h (requests.ConnectBound name local remote rport) =
    named h name (λ _. changed h name (connected local remote rport) h.groups)
owner_step number h (requests.Inherit parent name mark local remote rport) =
    named h parent (λ listener. with_owner h (child name mark local remote rport listener))
owner_step number h (requests.ToTimeWait name) = named h name (λ _. changed h name as_waiting h.groups)
owner_step number h (requests.Remove name) = named h name (λ _. removed h name)
owner_step number h (requests.RemoveWaiting name) =
    spoken h name (find (waits_as name) h.owners) (λ _. without_waiting h name)
