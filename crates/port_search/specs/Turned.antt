-- A search through buckets that are shared, each port asked in its own turn: our own.
--
-- Contracts of public calls cite `BindsAt`, `BindsIn`, `BindsNowhere` and `BindsNotYet`, each of which stands on those
-- up to `TakenIn`. `RefusedAt`, and what stands from `RefusesAt` to `TriedAt`, is of private functions.
use Rattle.std.specs.Prelude.{◌≡◌, ℕ, ◌+◌, ◌%◌, ◌≤◌, Bool, true, false, List, [], ◌∷◌, ◌++◌, filter, find, Option, None, Some, Result, Ok, Err}
use Rattle.sock_card.specs.declared.owner.Owner.{Owner}
use Rattle.sock_card.specs.Conflict.{bind_key, is_time_wait}
use Rattle.turn_table.specs.declared.note.Placed.{Placed}
use Rattle.turn_table.specs.Passes as words
use Rattle.turn_table.specs.Passes.{known}
use Rattle.bind_buckets.specs.declared.request.Request.TheVariants as requests
use Rattle.bind_buckets.specs.declared.request.Answer.TheVariants as answers
use Rattle.bind_buckets.specs.declared.request.Entry.{Entry}
use Rattle.bind_buckets.specs.Bucket.{IsSound, entries_of}
use Rattle.bind_buckets.specs.Callers.{AreOwn}
use Rattle.bind_buckets.specs.Followed.{told_from}
use Rattle.bind_buckets.specs.OwnTold.{AllKeepOpen, is_told, own_given}
use Rattle.bind_buckets.specs.OwnerStep.{has_name}
use Rattle.bind_buckets.specs.Turned.{View, Hash, Pass, Out, IsIdle, IsOut, Within, Gave, IsAsked, made}
use Rattle.port_search.specs.declared.ends.SearchEnd.{SearchEnd}
use Rattle.port_search.specs.declared.ends.SearchEnd.TheVariants as ends
use Rattle.port_search.specs.Search.{at_port}

-- the port's bucket in the owner's namespace took it in
abbrev pub IsTaken : ℕ → Owner → ℕ → Placed Entry → Type 0
IsTaken count a port x = IsAsked (bind_key port a.net % count) (requests.BindAuto (at_port a port)) answers.Done x

-- it refused to
pub record IsRefusal (count : ℕ) (a : Owner) (port : ℕ) (x : Placed Entry) : Type 0 where
  pub name : ℕ
  pub asked : IsAsked (bind_key port a.net % count) (requests.BindAuto (at_port a port)) (answers.InUse name) x

-- each of the ports was refused, one after the other
abbrev pub AllRefuse : ℕ → Owner → List ℕ → List (Placed Entry) → Type 0
AllRefuse count a [] [] = Unit {0}
AllRefuse count a (port ∷ ports) (x ∷ xs) = IsRefusal count a port x × AllRefuse count a ports xs
AllRefuse count a [] (x ∷ xs) = ⊥
AllRefuse count a (port ∷ ports) [] = ⊥

-- it refused to in a turn of its own
pub record RefusedAt (count : ℕ) (a : Owner) (port : ℕ) (v w : View) : Type 0 where
  pub entry : Placed Entry
  pub refusal : IsRefusal count a port entry
  pub gave : Gave v w (entry ∷ [])

-- where the caller asked the bucket that is out for no socket of its name before this turn, it has the owner as the
-- first of its name
abbrev pub ComesFirst : Owner → Pass → Out → Type 0
ComesFirst a q turn =
    (mine : ℕ → Bool) → mine a.name ≡ true → AreOwn (words.caller q) mine → is_time_wait a.state ≡ false
    → AllKeepOpen mine (own_given turn.place (known q))
    → find (has_name a.name) (told_from [] (filter (is_told mine) (entries_of (own_given turn.place (known q))))) ≡ None
    → find (has_name a.name) turn.value.value.held.owners ≡ Some a

-- the port's bucket is out, and took the owner in by the one entry of this turn, which began at that view
pub record TakenIn (t : Hash) (a : Owner) (port : ℕ) (v : View) (q : Pass) (turn : Out) : Type 0 where
  pub out : IsOut t q turn
  pub place : turn.place ≡ bind_key port a.net % words.places t
  pub made_is :
      entries_of (made q turn) ≡ record { request = requests.BindAuto (at_port a port); answer = answers.Done } ∷ []
  pub within : Within v (known q)
  pub draws : words.draws q ≡ v.draws + 1
  pub caller : words.caller q ≡ v.caller
  pub sound : IsSound turn.value.value
  pub first : ComesFirst (at_port a port) q turn
  pub entries : 2 ≤ turn.value.value.entries
  pub newcomer : 1 ≤ turn.value.value.newcomers

-- it refused to, and is home again
pub record RefusesAt (t : Hash) (a : Owner) (port : ℕ) (p q : Pass) : Type 0 where
  pub idle : IsIdle t q
  pub refused : RefusedAt (words.places t) a port (known p) (known q)

-- a search may be left off so before a port is asked: for want of memory, or of its bucket's turn
abbrev pub IsLeavingOff : SearchEnd → Type 0
IsLeavingOff ends.Memory = Unit {0}
IsLeavingOff ends.Busy = Unit {0}
IsLeavingOff _ = ⊥

-- nothing was asked
pub record GivenUp (t : Hash) (p q : Pass) (end : SearchEnd) : Type 0 where
  pub idle : IsIdle t q
  pub gave : Gave (known p) (known q) []
  pub leaving : IsLeavingOff end

-- one port was tried
abbrev pub TriedAt : Hash → Owner → ℕ → Pass → Pass → Result (Option Out) SearchEnd → Type 0
TriedAt t a port p q (Ok (Some turn)) = TakenIn t a port (known p) q turn
TriedAt t a port p q (Ok None) = RefusesAt t a port p q
TriedAt t a port p q (Err end) = GivenUp t p q end

-- the search ended at that port, and all before it were refused
pub record BindsAt (count : ℕ) (a : Owner) (ports : List ℕ) (v w : View) (port : ℕ) : Type 0 where
  pub before : List ℕ
  pub after : List ℕ
  pub split : ports ≡ before ++ port ∷ after
  pub refused : List (Placed Entry)
  pub last : Placed Entry
  pub refusals : AllRefuse count a before refused
  pub taken : IsTaken count a port last
  pub gave : Gave v w (refused ++ last ∷ [])

-- so it did, and that port's bucket is still out
pub record BindsIn (t : Hash) (a : Owner) (ports : List ℕ) (v : View) (q : Pass) (port : ℕ) (turn : Out) : Type 0 where
  pub before : List ℕ
  pub after : List ℕ
  pub split : ports ≡ before ++ port ∷ after
  pub refused : List (Placed Entry)
  pub refusals : AllRefuse (words.places t) a before refused
  pub begun : View
  pub gave : Gave v begun refused
  pub taken : TakenIn t a port begun q turn

-- each port was refused
pub record BindsNowhere (count : ℕ) (a : Owner) (ports : List ℕ) (v w : View) : Type 0 where
  pub refused : List (Placed Entry)
  pub refusals : AllRefuse count a ports refused
  pub gave : Gave v w refused

-- the search was left off before that port, and all before it were refused
pub record BindsNotYet (count : ℕ) (a : Owner) (ports : List ℕ) (v w : View) : Type 0 where
  pub before : List ℕ
  pub port : ℕ
  pub after : List ℕ
  pub split : ports ≡ before ++ port ∷ after
  pub refused : List (Placed Entry)
  pub refusals : AllRefuse count a before refused
  pub gave : Gave v w refused
