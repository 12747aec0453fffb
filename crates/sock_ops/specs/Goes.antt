-- What an operation did by its plan, among others and alone: our own.
--
-- To be read from the beginning. Contracts of public calls cite what stands up to `Comes`; from `AreAsked` on it is of
-- private functions.
use Rattle.std.specs.Prelude.{◌≡◌, ℕ, ◌%◌, Bool, true, false, List, [], ◌∷◌, ◌++◌, Option, None, Some, Result, Ok, Err}
use Rattle.sock_card.specs.declared.owner.Owner.{Owner}
use Rattle.turn_table.specs.declared.note.Placed.{Placed}
use Rattle.bind_buckets.specs.declared.request.Entry.{Entry}
use Rattle.bind_buckets.specs.declared.request.Request.{Request}
use Rattle.bind_buckets.specs.declared.request.Request.TheVariants as requests
use Rattle.bind_buckets.specs.declared.request.Answer.{Answer}
use Rattle.bind_buckets.specs.declared.request.Answer.TheVariants as answers
use Rattle.bind_buckets.specs.Turned.{View, Gave, IsAsked}
use Rattle.sock_ops.specs.Sides.{Side, chains_by, changes_by}
use Rattle.sock_ops.specs.Made.{Does}
use Rattle.table_model.specs.declared.operation.Cause.TheVariants as causes
use Rattle.table_model.specs.declared.operation.OpEnd.{OpEnd}
use Rattle.table_model.specs.declared.operation.OpEnd.TheVariants as errors
use Rattle.table_model.specs.Asking.{Asking, ends, asks, impossible}
use Rattle.table_model.specs.Tables.{run}
use Rattle.table_model.specs.Goes.{tables_by}
use Rattle.race_record.specs.Deeds.{Deed, entries_in}
use Rattle.sock_ops.specs.Leads.{Leads}

-- The plan went on so far by these deeds: the pass of the buckets gave their entries, of so many buckets, and the
-- pass of the chains made their changes, and neither did anything else.
pub record Went {R : Type 0} (count : ℕ) (plan : Asking R) (v w : View) (c d : Side) (rest : Asking R) : Type 0 where
  pub deeds : List Deed
  pub leads : Leads plan deeds rest
  pub gave : Gave v w (entries_in count deeds)
  pub does : Does deeds c d

-- A question that isn't that for which these entries stand: where the owner has left its port, another than that it
-- leave it, with which a refused `listen` ends.
abbrev pub IsOther : Request → List (Placed Entry) → Type 0
IsOther (requests.Remove name) (x ∷ more) = ⊥
IsOther request back = Unit {0}

-- A plan that has a question left, beside these entries: it was neither carried out nor refused.
abbrev pub IsUndecided : {R : Type 0} → Asking R → List (Placed Entry) → Type 0
IsUndecided (ends result) back = ⊥
IsUndecided impossible back = ⊥
IsUndecided (asks key request then_) back = IsOther request back
IsUndecided rest back = Unit {0}

-- For want of memory or of patience the plan went only that far: it stopped before it changed a chain and before it came
-- to an end.
pub record Stops {R : Type 0} (count : ℕ) (plan : Asking R) (v w : View) (c d : Side) : Type 0 where
  pub rest : Asking R
  pub went : Went count plan v w c d rest
  pub still : changes_by d ≡ changes_by c
  pub undecided : IsUndecided rest []

-- the owner of that name leaves its port
abbrev pub GivesUp : ℕ → ℕ → List (Placed Entry) → Type 0
GivesUp count name [] = Unit {0}
GivesUp count name (x ∷ []) = (key : ℕ) × IsAsked (key % count) (requests.Remove name) answers.Done x
GivesUp count name _ = ⊥

-- For want of memory or of patience the plan was left off before it changed a chain and before it came to an end, and
-- then the owner left its port, or nothing more was asked. That no port stays taken is said by each call's clause on
-- what it kept.
pub record LeftOff {R : Type 0} (count name : ℕ) (plan : Asking R) (v w : View) (c d : Side) : Type 0 where
  pub rest : Asking R
  pub deeds : List Deed
  pub leads : Leads plan deeds rest
  pub back : List (Placed Entry)
  pub gives : GivesUp count name back
  pub gave : Gave v w (entries_in count deeds ++ back)
  pub does : Does deeds c d
  pub still : changes_by d ≡ changes_by c
  pub undecided : IsUndecided rest back

-- it wasn't left off since another had a bucket or a chain for too long
abbrev pub NotBusy : OpEnd → Type 0
NotBusy (errors.LeftOff causes.Busy) = ⊥
NotBusy end = Unit {0}

-- the plan went on to the end that the result says, or stopped, whoever else was there
abbrev pub Carried :
    {X R : Type 0} → (X → R) → (OpEnd → R) → ℕ → Asking R → View → View → Side → Side → Result X OpEnd → Type 0
Carried did not_done count plan v w c d (Ok x) = Went count plan v w c d (ends (did x))
Carried did not_done count plan v w c d (Err (errors.LeftOff cause)) = Stops count plan v w c d
Carried did not_done count plan v w c d (Err end) = Went count plan v w c d (ends (not_done end))

-- and so the plan of a socket of that name, which may give up a port that it took
abbrev pub CarriedOut :
    {X R : Type 0} → (X → R) → (OpEnd → R) → ℕ → ℕ → Asking R → View → View → Side → Side → Result X OpEnd → Type 0
CarriedOut did not_done count name plan v w c d (Ok x) = Went count plan v w c d (ends (did x))
CarriedOut did not_done count name plan v w c d (Err (errors.LeftOff cause)) = LeftOff count name plan v w c d
CarriedOut did not_done count name plan v w c d (Err end) = Went count plan v w c d (ends (not_done end))

-- the plan comes to that on the tables that the old entries and changes make, and leaves those that all of them make
abbrev pub Comes : {R : Type 0} → ℕ → Asking R → List (Placed Entry) → List (Placed Entry) → Side → Side → R → Type 0
Comes count plan old new c d did =
    run (tables_by count old (chains_by c)) plan
    ≡ Some (record { tables = tables_by count new (chains_by d); result = did })

-- the bucket of that place was asked so in turn
abbrev pub AreAsked : ℕ → List Entry → List (Placed Entry) → Type 0
AreAsked place [] [] = Unit {0}
AreAsked place (e ∷ es) (x ∷ xs) = IsAsked place e.request e.answer x × AreAsked place es xs
AreAsked place _ _ = ⊥

-- in one turn, and nothing else
pub record AskedAll (place : ℕ) (es : List Entry) (v w : View) : Type 0 where
  pub xs : List (Placed Entry)
  pub asked : AreAsked place es xs
  pub gave : Gave v w xs

-- In one turn the bucket of that place was asked so first, and this holds of the view as these questions left it.
pub record HoldsAfter (place : ℕ) (es : List Entry) (v : View) (Holds : View → Type 0) : Type 0 where
  pub then_ : View
  pub asked : AskedAll place es v then_
  pub holds : Holds then_

-- what an owner asks that gives up a port which this call took
abbrev pub gone_if : Bool → Owner → List Entry
gone_if true a = record { request = requests.Remove a.name; answer = answers.Done } ∷ []
gone_if false a = []

-- what is asked for the owner of a TIME_WAIT that was replaced, if there was one
abbrev pub gone_of : Option ℕ → Answer → List Entry
gone_of None answer = []
gone_of (Some name) answer = record { request = requests.RemoveWaiting name; answer = answer } ∷ []
