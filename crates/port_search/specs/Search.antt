-- Which port a search finds, and how it leaves the buckets that it asked: inet_csk_find_open_port of
-- net/ipv4/inet_connection_sock.c, __inet_hash_connect of net/ipv4/inet_hashtables.c. That `connect` shares a port only
-- with owners for whom it chose that is our own rule.
--
-- To be read upwards from what contracts cite: for `bind` from `searched` and `FindsNone`, for `connect` from
-- `ConnectsAt` and `ConnectsNowhere`. `IsNotBusy` and `IsNotFull` stand below these.
use Rattle.std.specs.Prelude.{◌≡◌, ℕ, ◌%◌, Bool, true, false, not, List, [], ◌∷◌, ◌++◌, length, map, filter, Option, None, Some, if◌then◌else◌}
use Rattle.std.specs.List.{FoldsTo, list_any, slice_index_or}
use Rattle.sock_card.specs.declared.owner.Owner.{Owner}
use Rattle.sock_card.specs.Conflict.{bind_key, holds}
use Rattle.bind_buckets.specs.declared.request.Request.TheVariants as requests
use Rattle.bind_buckets.specs.declared.request.Answer.{Answer}
use Rattle.bind_buckets.specs.declared.request.Answer.TheVariants as answers
use Rattle.bind_buckets.specs.OwnerStep.{Held, empty}
use Rattle.bind_buckets.specs.Journal.{Standing}
use Rattle.bind_buckets.specs.BindHash.{asked_at, answer_at}
use Rattle.port_search.specs.declared.ends.Attempt.{Attempt}
use Rattle.port_search.specs.declared.ends.Attempt.TheVariants as attempts
use Rattle.port_search.specs.declared.ends.SearchEnd.{SearchEnd}
use Rattle.port_search.specs.declared.ends.SearchEnd.TheVariants as ends

abbrev pub is_done : Answer → Bool
is_done answers.Done = true
is_done _ = false

-- what the buckets hold, whatever they were asked
abbrev pub helds : List Standing → List Held
helds hash = map (λ (s : Standing). s.held) hash

-- what the bucket of a port in that namespace holds
abbrev pub held_at : List Held → ℕ → ℕ → Held
held_at hash net port = slice_index_or hash (bind_key port net % length hash) empty

abbrev pub at_port : Owner → ℕ → Owner
at_port a port = record a { port = port }

-- `connect` chose the port for each of its owners in that namespace
abbrev pub is_free : List Held → ℕ → ℕ → Bool
is_free hash net port = not (list_any (holds port net) (held_at hash net port).owners)

-- the owner, for whom `connect` chose that port
abbrev pub chosen_at : Owner → ℕ → Owner
chosen_at a port = record a { port = port; by_connect = true }

-- how a search of `bind` leaves all buckets, and the port that it found
pub record Found : Type 0 where
  pub hash : List Standing
  pub port : Option ℕ

-- each port's bucket in the owner's namespace is asked to take it in, one after the other, until one does
abbrev pub searched : List Standing → Owner → List ℕ → Found
searched hash a [] = record { hash = hash; port = None }
searched hash a (port ∷ rest) =
    let key = bind_key port a.net in
    let request = requests.BindAuto (at_port a port) in
    let after = asked_at hash key request in
    if is_done (answer_at hash key request) then record { hash = after; port = Some port } else searched after a rest

-- it found no port among these, and left all buckets so
abbrev pub FindsNone : List Standing → Owner → List ℕ → List Standing → Type 0
FindsNone old a ports new = searched old a ports ≡ record { hash = new; port = None }

-- the bucket of a port in that namespace was asked whether `connect` may choose it
abbrev pub freed_at : List Standing → ℕ → ℕ → List Standing
freed_at hash net port = asked_at hash (bind_key port net) (requests.Free port net)

-- those of these ports were, one after the other
abbrev pub freed : List Standing → ℕ → List ℕ → List Standing
freed hash net [] = hash
freed hash net (port ∷ rest) = freed (freed_at hash net port) net rest

-- the owner of the socket that a connection replaced leaves the bucket of that key, if there is one
abbrev pub without_replaced : List Standing → ℕ → Option ℕ → List Standing
without_replaced hash key None = hash
without_replaced hash key (Some name) = asked_at hash key (requests.RemoveWaiting name)

-- the owner came to the port that `connect` chose for it
abbrev pub connected_at : List Standing → Owner → ℕ → Option ℕ → List Standing
connected_at hash a port replaced =
    let key = bind_key port a.net in
    without_replaced (asked_at hash key (requests.ConnectAuto (chosen_at a port))) key replaced

-- the caller's call, asked at a port, said Taken
abbrev pub SaysTaken : {F T : Type 0} → (F → ℕ → Attempt T → F → Type 0) → F → ℕ → F → Type 0
SaysTaken step old port new = (name : ℕ) × step old port (attempts.Taken name) new

-- it said so at each of the ports that are free in that namespace, one after the other
abbrev pub AllRefused : {F T : Type 0} → (F → ℕ → Attempt T → F → Type 0) → List Held → ℕ → List ℕ → F → F
    → Type 0
AllRefused step hash net ports old new = FoldsTo (SaysTaken step) old (filter (is_free hash net) ports) new

-- it answered so at that port, which is free in that namespace, and all ports before it were refused
pub record EndsAt {F T : Type 0} (step : F → ℕ → Attempt T → F → Type 0) (hash : List Held) (old : F)
    (net : ℕ) (ports : List ℕ) (port : ℕ) (answer : Attempt T) : Type 0 where
  pub before : List ℕ
  pub after : List ℕ
  pub split : ports ≡ before ++ port ∷ after
  pub free : is_free hash net port ≡ true
  pub asked : F
  pub last : F
  pub refused : AllRefused step hash net before old asked
  pub answered : step asked port answer last

-- the connection was made at that port, in the owner's namespace, and all buckets left so
pub record ConnectsAt {F T : Type 0} (step : F → ℕ → Attempt T → F → Type 0) (old new : List Standing) (first : F)
    (a : Owner) (ports : List ℕ) (port : ℕ) (value : T) : Type 0 where
  pub replaced : Option ℕ
  pub ends : EndsAt step (helds old) first a.net ports port (attempts.Done value replaced)
  pub left : new ≡ connected_at (freed old a.net (ends.before ++ port ∷ [])) a port replaced

-- each of the ports was refused in that namespace
pub record ConnectsNowhere {F T : Type 0} (step : F → ℕ → Attempt T → F → Type 0) (old new : List Standing) (first : F)
    (net : ℕ) (ports : List ℕ) : Type 0 where
  pub last : F
  pub refused : AllRefused step (helds old) net ports first last
  pub left : new ≡ freed old net ports

-- whoever waits for good never gets the answer that another had a turn for too long
abbrev pub IsNotBusy : SearchEnd → Type 0
IsNotBusy ends.Busy = ⊥
IsNotBusy _ = Unit {0}

-- `bind` takes no slot
abbrev pub IsNotFull : SearchEnd → Type 0
IsNotFull (ends.Full owned held) = ⊥
IsNotFull _ = Unit {0}
