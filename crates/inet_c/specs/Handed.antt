-- How workers and lookers are handed out of shared tables. Our own.
use Rattle.std.specs.Prelude.{◌≡◌, ◌≢◌, ◌⊎◌, ℕ, [], ◌∷◌, Option, None, Some}
use Rattle.shared_calls.specs.Callings.{Calling}
use Rattle.shared_calls.specs.Limits.{limited}
use Rattle.shared_calls.specs.Lookings.{Looking}
use Rattle.shared_calls.specs.Sharings.{Sharing, GivesCaller, HandsCaller, HandsLooker}
use Rattle.shared_calls.specs.declared.limited.Limited.{Limited}
use Rattle.shared_calls.specs.declared.limited.Limits.{Limits}
use Rattle.inet_c.specs.declared.making.Making.{Making}
use Rattle.inet_c.specs.declared.making.Making.TheVariants as makings

-- a worker, under these limits, and its number: the one that was given back last, or the next
abbrev pub IsWorker : Limits → (number : ℕ) → Sharing → Sharing → Limited → Type 0
IsWorker limits number old new worker =
    (caller : Calling) × (worker ≡ limited caller limits) × (number ≡ caller.kept.own.number)
    × GivesCaller old new caller

-- a worker was made, and waits to be handed out
abbrev pub MakesWorker : Sharing → Sharing → Type 0
MakesWorker old new = (c : Calling) × HandsCaller old (record new { idle = [] }) c × (new.idle ≡ c ∷ [])

-- so of a looker
abbrev pub MakesLooker : Sharing → Sharing → Type 0
MakesLooker old new = (l : Looking) × HandsLooker old (record new { resting = [] }) l × (new.resting ≡ l ∷ [])

-- the tables are as they were, but for a worker or a looker that was made and waits
abbrev pub MayMake : Sharing → Sharing → Type 0
MayMake old new = (new ≡ old) ⊎ MakesWorker old new ⊎ MakesLooker old new

-- What came of it, by what is handed out and when all are out: it went from the tables of one handle into another that
-- held nothing, or that is as it was. The causes exclude each other; want of memory alone may come or not where tables
-- have not handed all out.
abbrev pub Hands : {S : Type 0} → (Sharing → Sharing → S → Type 0) → (Sharing → Type 0)
    → Option Sharing → Option Sharing → Option S → Option S → Making → Type 0
Hands {S} Is All (Some from) (Some to) old new makings.Made =
    (old ≡ None) × (All from → ⊥) × ((state : S) × (new ≡ Some state) × Is from to state)
Hands Is All from to old new makings.There = (old ≢ None) × (new ≡ old) × (to ≡ from)
Hands Is All from to old new makings.NoTables = (old ≡ None) × (from ≡ None) × (new ≡ old) × (to ≡ from)
Hands Is All (Some from) to old new makings.AllOut = (old ≡ None) × All from × (new ≡ old) × (to ≡ Some from)
Hands Is All (Some from) (Some to) old new makings.NoMemory =
    (old ≡ None) × (All from → ⊥) × (new ≡ old) × MayMake from to
Hands Is All _ _ _ _ _ = ⊥

-- no number is given for a worker that wasn't handed out
abbrev pub NumberedIf : Making → ℕ → Type 0
NumberedIf makings.Made number = Unit {0}
NumberedIf _ number = number ≡ 0
