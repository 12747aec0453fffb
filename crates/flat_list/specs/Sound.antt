-- What holds of every list that commands reach, from the empty one on: our own laws.
--
-- To be read from `IsSound`: what its fields cite stands above it, and the laws stand below it.
use Rattle.std.specs.Prelude.{◌≡◌, ◌≢◌, ℕ, ◌≤◌, ◌<◌, ◌+◌, ◌/◌, ◌%◌, ◌^◌, Bool, true, false, ◌&&◌, not, Some, List, length, count_by, if◌then◌else◌}
use Rattle.std.specs.List.{list_any}
use Rattle.list_words.specs.Lists.{Each, Pairs}
use Rattle.sock_card.specs.declared.owner.State.{State}
use Rattle.sock_card.specs.declared.owner.State.TheVariants as states
use Rattle.sock_card.specs.declared.card.Packet.{Packet}
use Rattle.sock_card.specs.Limits.{group_room}
use Rattle.sock_card.specs.Conflict.{owner_key, agree, is_listening, is_time_wait}
use Rattle.flat_list.specs.declared.command.Command.{Command}
use Rattle.flat_list.specs.declared.command.Command.TheVariants as commands
use Rattle.flat_list.specs.declared.command.Reply.{Reply}
use Rattle.flat_list.specs.declared.command.Reply.TheVariants as replies
use Rattle.flat_list.specs.declared.header.Header.{Header}
use Rattle.flat_list.specs.declared.socket.Socket.{Socket}
use Rattle.flat_list.specs.Flat.{Flat, new_flat}
use Rattle.flat_list.specs.Groups.{Group, has_member, bucket_of}
use Rattle.flat_list.specs.Look.{is_best, cards_of}
use Rattle.flat_list.specs.Outcome.{open_socket}
use Rattle.flat_list.specs.Owned.{is_no_ack}
use Rattle.flat_list.specs.Run.{Issued, is_of, after}
use Rattle.flat_list.specs.Sections.{Section, labels_of}
use Rattle.flat_list.specs.Sockets.{is_owner, have_one_tuple, has_name, is_mate, open_in, slots_used}
use Rattle.flat_list.specs.Step.{step}

-- two sockets have different names
abbrev pub NamesDiffer : Socket → Socket → Type 0
NamesDiffer a b = a.owner.name ≢ b.owner.name

-- the name was given: the number in it is that of a label which the section in it has given
pub record IsGivenName (sections : List Section) (name : ℕ) : Type 0 where
  pub first : 1 ≤ name % 2 ^ 56
  pub last : name % 2 ^ 56 ≤ length (labels_of (name / 2 ^ 56) sections)

-- the socket's name was given
abbrev pub IsGiven : List Section → Socket → Type 0
IsGiven sections s = IsGivenName sections s.owner.name

-- where both have a port, they may stand beside each other
abbrev pub AgreeAsOwners : Socket → Socket → Type 0
AgreeAsOwners a b = is_owner a.owner.state ≡ true → is_owner b.owner.state ≡ true → agree a.owner b.owner ≡ true

-- a socket that keeps its four-tuple from others
abbrev pub holds_tuple : State → Bool
holds_tuple states.Full = true
holds_tuple states.TimeWait = true
holds_tuple states.Request = true
holds_tuple _ = false

-- where both hold a four-tuple, they hold two
abbrev pub TuplesDiffer : Socket → Socket → Type 0
TuplesDiffer a b =
    holds_tuple a.owner.state ≡ true → holds_tuple b.owner.state ≡ true → have_one_tuple a.owner b.owner ≡ false

-- as long as it holds no four-tuple, its origin is its own name, and `connect` hasn't chosen its port
abbrev pub IsItsOwn : Socket → Type 0
IsItsOwn s = holds_tuple s.owner.state ≡ false → (s.owner.origin ≡ s.owner.name) × (s.owner.by_connect ≡ false)

-- an open socket isn't in TIME_WAIT
abbrev pub IsAwakeIfNamed : Socket → Type 0
IsAwakeIfNamed s = s.named ≡ not (is_time_wait s.owner.state)

-- where it is open, the socket by whose name a request came can accept at the request's ends
abbrev pub CanTake : Socket → Socket → Type 0
CanTake r l = l.named ≡ true → l.owner.name ≡ r.owner.origin → is_no_ack l.owner r.owner ≡ false

-- the name by which a request came was given, and is its listener's where that is open
abbrev pub HasListener : List Section → List Socket → Socket → Type 0
HasListener sections sockets r =
    r.owner.state ≡ states.Request → IsGivenName sections r.owner.origin × Each (CanTake r) sockets

-- a listener that shares its end
abbrev pub is_sharing : Socket → Bool
is_sharing s = is_listening s.owner.state && s.owner.reuseport

-- such a listener is in one group, any other socket in none
abbrev pub IsInOneGroup : List Group → Socket → Type 0
IsInOneGroup groups s = count_by (has_member s.owner.name) groups ≡ (if is_sharing s then 1 else 0)

-- some group has both sockets
abbrev pub are_together : List Group → ℕ → ℕ → Bool
are_together groups a b = list_any (λ g. has_member a g && has_member b g) groups

-- two such listeners are in one group where they are mates, and else in two
abbrev pub GroupsAreOfMates : List Group → Socket → Socket → Type 0
GroupsAreOfMates groups a b =
    is_sharing a ≡ true → is_sharing b ≡ true → are_together groups a.owner.name b.owner.name ≡ is_mate a.owner b

-- a group's members differ, no more than there is room for, and each is the name of a socket that belongs to the
-- group's bucket
pub record IsGroupOf (buckets : ℕ) (sockets : List Socket) (g : Group) : Type 0 where
  pub some : 1 ≤ length g.members
  pub most : length g.members ≤ group_room
  pub differ : Pairs (λ a b. a ≢ b) g.members
  pub known : Each (λ name. list_any (has_name name) sockets ≡ true) g.members
  pub bucket :
      Each (λ (s : Socket). has_member s.owner.name g ≡ true
      → bucket_of (owner_key s.owner) buckets ≡ g.number / 8) sockets

-- two groups have different numbers
abbrev pub NumbersDiffer : Group → Group → Type 0
NumbersDiffer a b = a.number ≢ b.number

-- the groups have numbers of their own, and are those of the listeners among the sockets that share an end
pub record AreGroupsOf (buckets : ℕ) (sockets : List Socket) (groups : List Group) : Type 0 where
  pub numbers : Pairs NumbersDiffer groups
  pub each : Each (IsGroupOf buckets sockets) groups
  pub sharing : Each (IsInOneGroup groups) sockets
  pub mates : Pairs (GroupsAreOfMates groups) sockets

-- names are given and differ; no two sockets that have a port conflict; no two full ones, TIME_WAITs or requests have
-- one four-tuple; who has none is of its own origin; all but those in TIME_WAIT are open; a request is as its
-- listener made it; the groups are those of the listeners
pub record IsSound (flat : Flat) : Type 0 where
  pub names : Pairs NamesDiffer flat.sockets
  pub given : Each (IsGiven flat.sections) flat.sockets
  pub bound : Pairs AgreeAsOwners flat.sockets
  pub tuples : Pairs TuplesDiffer flat.sockets
  pub origins : Each IsItsOwn flat.sockets
  pub awake : Each IsAwakeIfNamed flat.sockets
  pub requests : Each (HasListener flat.sections flat.sockets) flat.sockets
  pub grouped : AreGroupsOf flat.header.shape.bind flat.sockets flat.groups

abbrev pub StartsSound : Type 0
StartsSound = (header : Header) → IsSound (new_flat header)

-- a command of a section that can give one more label
abbrev pub StaysSound : Type 0
StaysSound =
    (flat : Flat) (n : ℕ) (command : Command) → length (labels_of n flat.sections) + 1 < 2 ^ 56
    → IsSound flat → IsSound (step flat n command).flat

-- a run in which each section has fewer commands than it can give labels
abbrev pub RunsSound : Type 0
RunsSound =
    (header : Header) (commands : List Issued) → ((n : ℕ) → count_by (is_of n) commands < 2 ^ 56)
    → IsSound (after (new_flat header) commands)

-- a reply by which a command is refused
abbrev pub is_refusal : Reply → Bool
is_refusal replies.Ebadf = true
is_refusal replies.Einval = true
is_refusal replies.Eisconn = true
is_refusal replies.Eaddrinuse = true
is_refusal replies.Eaddrnotavail = true
is_refusal replies.Emfile = true
is_refusal (replies.Enfile owned held) = true
is_refusal _ = false

-- the sockets and the groups are as they were
pub record SameSockets (old new : Flat) : Type 0 where
  pub sockets : new.sockets ≡ old.sockets
  pub groups : new.groups ≡ old.groups

-- a refused command leaves all sockets and groups as they were
abbrev pub RefusalKeeps : Type 0
RefusalKeeps =
    (flat : Flat) (n : ℕ) (command : Command) → is_refusal (step flat n command).reply ≡ true
    → SameSockets flat (step flat n command).flat

-- the sockets take no more slots than there are
abbrev pub FitsSlots : Flat → Type 0
FitsSlots flat = slots_used flat.sockets ≤ flat.header.shape.slots

-- no command takes a slot that isn't there
abbrev pub StaysWithinSlots : Type 0
StaysWithinSlots =
    (flat : Flat) (n : ℕ) (command : Command) → IsSound flat → FitsSlots flat → FitsSlots (step flat n command).flat

-- while a request's listener is open, its `ack` isn't refused EINVAL
abbrev pub AcksWhileOpen : Type 0
AcksWhileOpen =
    (flat : Flat) (n : ℕ) (request label : List ℕ) (r l : Socket) → IsSound flat → open_socket flat n request ≡ Some r
    → r.owner.state ≡ states.Request → open_in n r.owner.origin flat.sockets ≡ Some l
    → (step flat n (commands.Ack request label)).reply ≢ replies.Einval

-- of the cards that match a packet best there is one, or all are members of one group
abbrev pub FindsOneOrOneGroup : Type 0
FindsOneOrOneGroup =
    (flat : Flat) (packet : Packet) → IsSound flat
    → let cards = cards_of flat.groups flat.sockets in
    Pairs
    (λ a b. is_best packet cards a ≡ true → is_best packet cards b ≡ true
    → are_together flat.groups a.name b.name ≡ true)
    cards
