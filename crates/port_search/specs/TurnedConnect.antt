-- A search of `connect` through buckets that are shared, each port asked in its own turn: our own.
--
-- The contract of `find_connect` cites `MayTry`, which is what it asks, and for each way in which it ends one of
-- `MakesAt`, `MakesNone`, `SaysFull`, `MakesNotYet` and `FindsBusy`. What stands below these is of one port's turn.
use Rattle.std.specs.Prelude.{◌≡◌, ℕ, ◌+◌, ◌%◌, ◌^◌, ◌<◌, ◌≤◌, ◌⊎◌, List, [], ◌∷◌, ◌++◌, Option, None, Some, Result, Ok, Err}
use Rattle.std.specs.List.{FoldsTo}
use denote.Ref.{MutBor}
use Rattle.sock_card.specs.declared.owner.Owner.{Owner}
use Rattle.sock_card.specs.Conflict.{bind_key}
use Rattle.turn_table.specs.declared.note.Placed.{Placed}
use Rattle.turn_table.specs.Passes as words
use Rattle.turn_table.specs.Passes.{known}
use Rattle.bind_buckets.specs.declared.request.Request.TheVariants as requests
use Rattle.bind_buckets.specs.declared.request.Answer.{Answer}
use Rattle.bind_buckets.specs.declared.request.Answer.TheVariants as answers
use Rattle.bind_buckets.specs.declared.request.Entry.{Entry}
use Rattle.bind_buckets.specs.Bucket.{CanConnect, entries_of}
use Rattle.bind_buckets.specs.Turned.{View, Hash, Pass, Out, IsIdle, IsOut, Within, Gave, IsAsked, made}
use Rattle.port_search.specs.declared.ends.Attempt.{Attempt}
use Rattle.port_search.specs.declared.ends.Attempt.TheVariants as attempts
use Rattle.port_search.specs.declared.ends.SearchEnd.{SearchEnd}
use Rattle.port_search.specs.declared.ends.SearchEnd.TheVariants as ends
use Rattle.port_search.specs.Search.{chosen_at, SaysTaken}
use Rattle.port_search.specs.Turned.{GivenUp}

-- `connect` may choose the port in that namespace
abbrev pub IsFree : ℕ → ℕ → ℕ → Placed Entry → Type 0
IsFree count net port x = IsAsked (bind_key port net % count) (requests.Free port net) answers.Done x

-- it may not
pub record IsHeld (count net port : ℕ) (x : Placed Entry) : Type 0 where
  pub name : ℕ
  pub asked : IsAsked (bind_key port net % count) (requests.Free port net) (answers.NotFree name) x

-- the caller's call, at its own context and that port, may answer so and leave the context so
pub record Tries {C T : Type 0} (post : MutBor C → ℕ → Attempt T → MutBor C → Type 0) (old : C) (port : ℕ)
    (answer : Attempt T) (new : C) : Type 0 where
  pub shown : MutBor C
  pub shows : shown.now ≡ old
  pub left : MutBor C
  pub answered : post shown port answer left
  pub leaves : left.now ≡ new

-- it may be called at each port, as long as it said Taken before
abbrev pub MayTry :
    {C T : Type 0} → (MutBor C → ℕ → Type 0) → (MutBor C → ℕ → Attempt T → MutBor C → Type 0) → C → Type 0
MayTry {C} pre post context =
    (ports : List ℕ) (now : C) → FoldsTo (SaysTaken (Tries post)) context ports now
    → (shown : MutBor C) (port : ℕ) → shown.now ≡ now → port < 2 ^ 16 → pre shown port

module _ {C T : Type 0} (step : C → ℕ → Attempt T → C → Type 0) (count net : ℕ) where
  -- the port is free, but the caller's call says that its four-tuple is taken
  pub record IsTakenThere (port : ℕ) (x : Placed Entry) (old new : C) : Type 0 where
    pub free : IsFree count net port x
    pub name : ℕ
    pub said : step old port (attempts.Taken name) new

  -- a port is passed over, with one entry
  abbrev pub IsPassed : ℕ → Placed Entry → C → C → Type 0
  IsPassed port x old new = (IsHeld count net port x × (old ≡ new)) ⊎ IsTakenThere port x old new

  -- each of the ports is, one after the other
  abbrev pub AllPassed : List ℕ → List (Placed Entry) → C → C → Type 0
  AllPassed [] [] old new = old ≡ new
  AllPassed (port ∷ ports) (x ∷ xs) old new = (mid : C) × IsPassed port x old mid × AllPassed ports xs mid new
  AllPassed [] (x ∷ xs) old new = ⊥
  AllPassed (port ∷ ports) [] old new = ⊥

  -- all ports before that one were passed over, and there the caller's call answered so
  pub record ComesTo (ports : List ℕ) (old : C) (port : ℕ) (answer : Attempt T) (new : C) : Type 0 where
    pub before : List ℕ
    pub after : List ℕ
    pub split : ports ≡ before ++ port ∷ after
    pub passed : List (Placed Entry)
    pub asked : C
    pub all : AllPassed before passed old asked
    pub answered : step asked port answer new

-- the owner came to the port, in its namespace: the entries of that turn
abbrev pub IsCome : ℕ → Owner → ℕ → Option ℕ → List (Placed Entry) → Type 0
IsCome count a port None (x ∷ y ∷ []) =
    IsFree count a.net port x × IsAsked (bind_key port a.net % count)
    (requests.ConnectAuto (chosen_at a port)) answers.Done y
IsCome count a port (Some name) (x ∷ y ∷ z ∷ []) =
    IsFree count a.net port x × IsAsked (bind_key port a.net % count)
    (requests.ConnectAuto (chosen_at a port)) answers.Done y
    × (answer : Answer) × IsAsked (bind_key port a.net % count) (requests.RemoveWaiting name) answer z
IsCome count a port replaced _ = ⊥

-- the owner came in this turn
pub record CameAt (count : ℕ) (a : Owner) (port : ℕ) (replaced : Option ℕ) (v w : View) : Type 0 where
  pub entries : List (Placed Entry)
  pub come : IsCome count a port replaced entries
  pub gave : Gave v w entries

-- the connection was made at that port, in the owner's namespace
pub record MakesAt {C T : Type 0} (step : C → ℕ → Attempt T → C → Type 0) (count : ℕ) (a : Owner) (ports : List ℕ)
    (v w : View) (old : C) (port : ℕ) (value : T) (new : C) : Type 0 where
  pub replaced : Option ℕ
  pub comes : ComesTo step count a.net ports old port (attempts.Done value replaced) new
  pub entries : List (Placed Entry)
  pub come : IsCome count a port replaced entries
  pub gave : Gave v w (comes.passed ++ entries)

module _ {C T : Type 0} (step : C → ℕ → Attempt T → C → Type 0) (count net : ℕ) where
  -- each port was passed over
  pub record MakesNone (ports : List ℕ) (v w : View) (old new : C) : Type 0 where
    pub passed : List (Placed Entry)
    pub all : AllPassed step count net ports passed old new
    pub gave : Gave v w passed

  -- no slot was left for the connection at that port
  pub record FindsFull (ports : List ℕ) (v w : View) (old : C) (owned held : ℕ) (new : C) : Type 0 where
    pub port : ℕ
    pub comes : ComesTo step count net ports old port (attempts.Full owned held) new
    pub entry : Placed Entry
    pub free : IsFree count net port entry
    pub gave : Gave v w (comes.passed ++ entry ∷ [])

  abbrev pub SaysFull : List ℕ → View → View → C → SearchEnd → C → Type 0
  SaysFull ports v w old (ends.Full owned held) new = FindsFull ports v w old owned held new
  SaysFull ports v w old _ new = Unit {0}

  -- where a search was left off for want of memory: before the next port, or at that port, which is free
  abbrev pub IsLeftOff : List ℕ → List (Placed Entry) → C → C → Type 0
  IsLeftOff (port ∷ after) [] old new = old ≡ new
  IsLeftOff (port ∷ after) (x ∷ []) old new = IsFree count net port x × step old port attempts.Memory new
  IsLeftOff _ _ old new = ⊥

  -- it was left off after some ports that were passed over
  pub record MakesNotYet (ports : List ℕ) (v w : View) (old new : C) : Type 0 where
    pub before : List ℕ
    pub after : List ℕ
    pub split : ports ≡ before ++ after
    pub passed : List (Placed Entry)
    pub state : C
    pub all : AllPassed step count net before passed old state
    pub entries : List (Placed Entry)
    pub off : IsLeftOff after entries state new
    pub gave : Gave v w (passed ++ entries)

  -- another had the turn of the next port's bucket, and all ports before it were passed over
  pub record FindsBusy (ports : List ℕ) (v w : View) (old new : C) : Type 0 where
    pub before : List ℕ
    pub port : ℕ
    pub after : List ℕ
    pub split : ports ≡ before ++ port ∷ after
    pub passed : List (Placed Entry)
    pub all : AllPassed step count net before passed old new
    pub gave : Gave v w passed

-- a bucket that is out, of whose port `connect` may choose in that namespace
pub record OpenAt (t : Hash) (net port : ℕ) (p q : Pass) (turn : Out) : Type 0 where
  pub out : IsOut t q turn
  pub place : turn.place ≡ bind_key port net % words.places t
  pub made_is : entries_of (made q turn) ≡ record { request = requests.Free port net; answer = answers.Done } ∷ []
  pub within : Within (known p) (known q)
  pub draws : words.draws q ≡ words.draws p + 1
  pub caller : words.caller q ≡ words.caller p
  pub free : CanConnect turn.value.value port net
  pub entries : 2 ≤ turn.value.value.entries
  pub newcomer : 1 ≤ turn.value.value.newcomers

-- it is held, and home again
pub record ClosedAt (t : Hash) (net port : ℕ) (p q : Pass) : Type 0 where
  pub idle : IsIdle t q
  pub entry : Placed Entry
  pub held : IsHeld (words.places t) net port entry
  pub gave : Gave (known p) (known q) (entry ∷ [])

abbrev pub Opened : Hash → ℕ → ℕ → Pass → Pass → Result (Option Out) SearchEnd → Type 0
Opened t net port p q (Ok (Some turn)) = OpenAt t net port p q turn
Opened t net port p q (Ok None) = ClosedAt t net port p q
Opened t net port p q (Err end) = GivenUp t p q end
