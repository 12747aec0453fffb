-- How the calls on a bucket answer, and why: our own rule.
--
-- To be read from the beginning: most stand on no other here. `IsOfBind`, `IsOfFree`, `IsOfName` and `IsOfListen` are
-- of private functions.
use Rattle.std.specs.Prelude.{◌≡◌, ℕ, true, List, length, Option, None, Some, Result, Ok, Err, find, IfSome, MatchOption, IsSome, ◌+◌}
use Rattle.std.specs.Option.{option_map}
use Rattle.sock_card.specs.declared.owner.Owner.{Owner}
use Rattle.list_words.specs.Lists.{Each}
use Rattle.sock_card.specs.Limits.{group_room}
use Rattle.sock_card.specs.Conflict.{overlap, refuses, has_port, holds}
use Rattle.bind_buckets.specs.declared.request.Answer.{Answer}
use Rattle.bind_buckets.specs.declared.request.Answer.TheVariants as answers
use Rattle.bind_buckets.specs.declared.request.InUse.{InUse}
use Rattle.bind_buckets.specs.declared.request.NotFree.{NotFree}
use Rattle.bind_buckets.specs.declared.request.Strange.{Strange}
use Rattle.bind_buckets.specs.declared.request.ListenEnd.{ListenEnd}
use Rattle.bind_buckets.specs.declared.request.ListenEnd.TheVariants as ends
use Rattle.bind_buckets.specs.OwnerStep.{Held, has_name, waits_as, others, place_for, members_at}

-- the name of the first owner that refuses this one
abbrev pub refusal : Owner → List Owner → Option ℕ
refusal a owners = option_map (λ (o : Owner). o.name) (find (refuses a) owners)

-- that of the first owner that overlaps it
abbrev pub overlapping : Owner → List Owner → Option ℕ
overlapping a owners = option_map (λ (o : Owner). o.name) (find (overlap a) owners)

-- that of the first owner of the port in that namespace that `connect` didn't choose
abbrev pub holder : ℕ → ℕ → List Owner → Option ℕ
holder port net owners = option_map (λ (o : Owner). o.name) (find (holds port net) owners)

-- `connect` chose each owner of the port in that namespace
abbrev pub AllByConnect : ℕ → ℕ → List Owner → Type 0
AllByConnect port net owners = Each (λ (a : Owner). has_port port net a ≡ true → a.by_connect ≡ true) owners

abbrev pub answer_of_bind : Result (Unit {0}) InUse → Answer
answer_of_bind (Ok done) = answers.Done
answer_of_bind (Err end) = answers.InUse end.0

abbrev pub answer_of_free : Result (Unit {0}) NotFree → Answer
answer_of_free (Ok done) = answers.Done
answer_of_free (Err end) = answers.NotFree end.0

abbrev pub answer_of_name : Result (Unit {0}) Strange → Answer
answer_of_name (Ok done) = answers.Done
answer_of_name (Err end) = answers.Strange end.0

abbrev pub answer_of_end : ListenEnd → Answer
answer_of_end (ends.InUse name) = answers.InUse name
answer_of_end ends.GroupFull = answers.GroupFull
answer_of_end ends.GroupsFull = answers.GroupsFull
answer_of_end (ends.Strange name) = answers.Strange name

abbrev pub answer_of_listen : Result (Option ℕ) ListenEnd → Answer
answer_of_listen (Ok group) = answers.Group group
answer_of_listen (Err end) = answer_of_end end

-- the answers that a newcomer gets
abbrev pub IsOfBind : Answer → Type 0
IsOfBind answers.Done = Unit {0}
IsOfBind (answers.InUse name) = Unit {0}
IsOfBind _ = ⊥

-- those that a call on a port gets
abbrev pub IsOfFree : Answer → Type 0
IsOfFree answers.Done = Unit {0}
IsOfFree (answers.NotFree name) = Unit {0}
IsOfFree _ = ⊥

-- those that a call on a name gets
abbrev pub IsOfName : Answer → Type 0
IsOfName answers.Done = Unit {0}
IsOfName (answers.Strange name) = Unit {0}
IsOfName _ = ⊥

-- those that a listener gets
abbrev pub IsOfListen : Answer → Type 0
IsOfListen answers.Done = ⊥
IsOfListen (answers.NotFree name) = ⊥
IsOfListen _ = Unit {0}

-- the owner that the answer to a refused newcomer names
abbrev pub told_of : Result (Unit {0}) InUse → Option ℕ
told_of (Ok done) = None
told_of (Err end) = Some end.0

-- the owner that keeps `connect` from a port
abbrev pub holder_told : Result (Unit {0}) NotFree → Option ℕ
holder_told (Ok done) = None
holder_told (Err end) = Some end.0

-- no owner has the name that was asked for
pub record IsStrange (name : ℕ) (owners : List Owner) (end : Strange) : Type 0 where
  pub named : end.0 ≡ name
  pub none : find (has_name name) owners ≡ None

-- an owner has the name, or Strange says which name none has
abbrev pub KnowsOrSays : ℕ → List Owner → Result (Unit {0}) Strange → Type 0
KnowsOrSays name owners (Ok done) = IsSome (find (has_name name) owners)
KnowsOrSays name owners (Err end) = IsStrange name owners end

-- no owner of the name that was asked for is in TIME_WAIT
pub record IsNotWaiting (name : ℕ) (owners : List Owner) (end : Strange) : Type 0 where
  pub named : end.0 ≡ name
  pub none : find (waits_as name) owners ≡ None

-- an owner of the name is in TIME_WAIT, or Strange says of which name none is
abbrev pub KnowsWaitingOrSays : ℕ → List Owner → Result (Unit {0}) Strange → Type 0
KnowsWaitingOrSays name owners (Ok done) = IsSome (find (waits_as name) owners)
KnowsWaitingOrSays name owners (Err end) = IsNotWaiting name owners end

-- one of so many is taken, but where the call is refused
abbrev pub TakesIfOk : {E : Type 0} → Result (Unit {0}) E → ℕ → ℕ → Type 0
TakesIfOk (Ok done) old new = new + 1 ≡ old
TakesIfOk (Err end) old new = new ≡ old

-- one is taken only where the call is refused
abbrev pub TakesIfErr : {E : Type 0} → Result (Unit {0}) E → ℕ → ℕ → Type 0
TakesIfErr (Ok done) old new = new ≡ old
TakesIfErr (Err end) old new = new + 1 ≡ old

-- why this owner, the first of that name, can't listen
abbrev pub Hinders : Held → ℕ → Owner → ListenEnd → Type 0
Hinders h name a (ends.InUse other) = refusal a (others h name) ≡ Some other
Hinders h name a ends.GroupFull = IfSome (place_for h a) (λ place. length (members_at h place) ≡ group_room)
Hinders h name a ends.GroupsFull = place_for h a ≡ None
Hinders h name a (ends.Strange other) = ⊥

-- why the socket of that name can't
abbrev pub IsWhy : Held → ℕ → ListenEnd → Type 0
IsWhy h name end = MatchOption (find (has_name name) h.owners) (end ≡ ends.Strange name) (λ a. Hinders h name a end)
