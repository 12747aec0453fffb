-- What a caller's own entries say of its own sockets, whoever else has entries in the bucket: our own law. Of its open
-- sockets they say all: only a TIME_WAIT can be removed by others.
--
-- The laws are `OpenAreTold`, `OwnAreTold`, `FirstOwnIsTold`, `OwnStands`, `OwnComes`, `OwnStays`, `OwnGoesOn` and
-- `OwnAccepted`: each stands on those above it.
use Rattle.std.specs.Prelude.{◌≡◌, ◌≢◌, ℕ, ◌==◌, Bool, true, false, cond, ◌&&◌, not, List, [], Some, filter, find}
use Rattle.list_words.specs.Lists.{Each}
use Rattle.sock_card.specs.declared.owner.Owner.{Owner}
use Rattle.sock_card.specs.Conflict.{is_time_wait}
use Rattle.sock_card.specs.Became.{child}
use Rattle.turn_table.specs.Journals.{by_caller, notes_at}
use Rattle.turn_table.specs.Passes.{known}
use Rattle.turn_table.specs.Passes as words
use Rattle.bind_buckets.specs.declared.request.Request.{Request}
use Rattle.bind_buckets.specs.declared.request.Request.TheVariants as requests
use Rattle.bind_buckets.specs.declared.request.Entry.{Entry}
use Rattle.bind_buckets.specs.declared.request.Answer.{Answer}
use Rattle.bind_buckets.specs.declared.request.Answer.TheVariants as answers
use Rattle.bind_buckets.specs.Notes.{Note}
use Rattle.bind_buckets.specs.OwnerStep.{has_name}
use Rattle.bind_buckets.specs.Journal.{IsLegal, replayed}
use Rattle.bind_buckets.specs.Bucket.{IsSound, entries_of}
use Rattle.bind_buckets.specs.Callers.{MayName, AreOwn}
use Rattle.bind_buckets.specs.Followed.{told, told_from, speaks_of, is_mine}
use Rattle.bind_buckets.specs.Turned.{View, Hash, Pass, Out, IsOut, OneAsked, made, own_of}

abbrev pub removes_waiting : Request → Bool
removes_waiting (requests.RemoveWaiting name) = true
removes_waiting _ = false

-- the request is about an owner of one of these names, and not its removal from TIME_WAIT
abbrev pub is_told : (ℕ → Bool) → Entry → Bool
is_told mine e = not (removes_waiting e.request) && speaks_of mine e.request

-- no owner of one of these names waits by the request, and a child's parent is beside it
abbrev pub KeepsOpen : (ℕ → Bool) → Request → Type 0
KeepsOpen mine (requests.Bind a) = mine a.name ≡ true → is_time_wait a.state ≡ false
KeepsOpen mine (requests.BindAuto a) = mine a.name ≡ true → is_time_wait a.state ≡ false
KeepsOpen mine (requests.ConnectAuto a) = mine a.name ≡ true → is_time_wait a.state ≡ false
KeepsOpen mine (requests.Inherit parent name mark local remote rport) = mine name ≡ true → mine parent ≡ true
KeepsOpen mine (requests.ToTimeWait name) = mine name ≡ false
KeepsOpen mine _ = Unit {0}

abbrev pub AllKeepOpen : (ℕ → Bool) → List Note → Type 0
AllKeepOpen mine notes = Each (λ (x : Note). KeepsOpen mine x.entry.request) notes

-- owners of these names, none of which was put into TIME_WAIT, follow from their entries other than removals from there
abbrev pub OpenAreTold : Type 0
OpenAreTold =
    (number : ℕ) (mine : ℕ → Bool) (entries : List Entry) → IsLegal number entries
    → Each (λ (e : Entry). KeepsOpen mine e.request) entries
    → filter (is_mine mine) (replayed number entries).owners ≡ told_from [] (filter (is_told mine) entries)

-- a caller's own such owners in a bucket that is out follow from what it asked of the bucket itself
abbrev pub OwnAreTold : Type 0
OwnAreTold =
    (t : Hash) (p : Pass) (turn : Out) (mine : ℕ → Bool) → IsOut t p turn → IsSound turn.value.value
    → AreOwn (words.caller p) mine → AllKeepOpen mine (own_of p turn)
    → filter (is_mine mine) turn.value.value.held.owners
    ≡ told_from [] (filter (is_told mine) (entries_of (own_of p turn)))

-- and so is the first owner of each of these names
abbrev pub FirstOwnIsTold : Type 0
FirstOwnIsTold =
    (t : Hash) (p : Pass) (turn : Out) (mine : ℕ → Bool) (name : ℕ) → mine name ≡ true → IsOut t p turn
    → IsSound turn.value.value
    → AreOwn (words.caller p) mine → AllKeepOpen mine (own_of p turn)
    → find (has_name name) turn.value.value.held.owners
    ≡ find (has_name name) (told_from [] (filter (is_told mine) (entries_of (own_of p turn))))

-- all that its caller asked of the bucket of that place, as a pass gave it
abbrev pub own_given : ℕ → View → List Note
own_given place v = by_caller v.caller (notes_at place v.mine)

-- an owner is an open socket of the caller's own, by what it asked of the bucket of that place; beside it are those
-- names that it goes back to, its own and a listener's that accepted it
pub record StandsOwn (a : Owner) (place : ℕ) (v : View) : Type 0 where
  pub mine : ℕ → Bool
  pub it : mine a.name ≡ true
  pub own : AreOwn v.caller mine
  pub keeps : AllKeepOpen mine (own_given place v)
  pub told_is : find (has_name a.name) (told_from [] (filter (is_told mine) (entries_of (own_given place v)))) ≡ Some a

-- then it is the first of its name in the bucket, when its turn comes
abbrev pub OwnStands : Type 0
OwnStands =
    (t : Hash) (p : Pass) (turn : Out) (a : Owner) → IsOut t p turn → IsSound turn.value.value → made p turn ≡ []
    → StandsOwn a turn.place (known p) → find (has_name a.name) turn.value.value.held.owners ≡ Some a

-- the request brings that owner
abbrev pub Brings : Owner → Request → Type 0
Brings a (requests.Bind b) = b ≡ a
Brings a (requests.BindAuto b) = b ≡ a
Brings a (requests.ConnectAuto b) = b ≡ a
Brings a _ = ⊥

abbrev pub is_named_as : Owner → ℕ → Bool
is_named_as a name = name == a.name

-- an owner of a new name that was taken in stands
abbrev pub OwnComes : Type 0
OwnComes =
    (a : Owner) (place : ℕ) (request : Request) (v w : View) → OneAsked place request answers.Done v w
    → Brings a request
    → is_time_wait a.state ≡ false → MayName v.caller a.name
    → Each (λ (x : Note). is_told (is_named_as a) x.entry ≡ false) (own_given place v)
    → StandsOwn a place w

-- what is asked of other buckets changes nothing of it
abbrev pub OwnStays : Type 0
OwnStays =
    (a : Owner) (place other : ℕ) (request : Request) (answer : Answer) (v w : View) → OneAsked other request answer v w
    → other ≢ place → StandsOwn a place v → StandsOwn a place w

-- an owner's own entries, if one is more
abbrev pub told_next : (ℕ → Bool) → List Owner → Entry → List Owner
told_next mine owners e = cond (is_told mine e) (told owners e.request e.answer) owners

-- and what is asked of its bucket changes it as request and answer say
abbrev pub OwnGoesOn : Type 0
OwnGoesOn =
    (a b : Owner) (place : ℕ) (request : Request) (answer : Answer) (v w : View) (s : StandsOwn a place v)
    → OneAsked place request answer v w → KeepsOpen s.mine request → b.name ≡ a.name
    → find (has_name a.name)
    (told_next s.mine (told_from [] (filter (is_told s.mine) (entries_of (own_given place v))))
    (record { request = request; answer = answer }))
    ≡ Some b
    → StandsOwn b place w

-- a socket that a listener of the caller's own accepted stands, too
abbrev pub OwnAccepted : Type 0
OwnAccepted =
    (p : Owner) (place name mark local remote rport : ℕ) (v w : View) → StandsOwn p place v
    → OneAsked place (requests.Inherit p.name name mark local remote rport) answers.Done v w → MayName v.caller name
    → Each (λ (x : Note). is_told (λ n. n == name) x.entry ≡ false) (own_given place v)
    → StandsOwn (child name mark local remote rport p) place w
