-- Which entries a caller may make: our own rule. The caller k, from 1, runs script k alone; the caller 0 runs all
-- scripts, and then there are no others.
use Rattle.std.specs.Prelude.{◌≡◌, ◌≢◌, ℕ, ◌/◌, ◌^◌, Bool, true, List, [], ◌∷◌}
use Rattle.list_words.specs.Lists.{Each}
use Rattle.bind_buckets.specs.Notes.{Note}
use Rattle.bind_buckets.specs.Bucket.{Bucket}
use Rattle.bind_buckets.specs.declared.request.Request.{Request}
use Rattle.bind_buckets.specs.declared.request.Request.TheVariants as requests
use Rattle.bind_buckets.specs.declared.request.Entry.{Entry}
use Rattle.bind_buckets.specs.declared.request.Sharing.{Sharing}
use Rattle.bind_buckets.specs.declared.request.Sharing.TheVariants as sharings

-- the names of the sockets that must be the caller's own: a TIME_WAIT is removed by whoever replaces it
abbrev pub names_of : Request → List ℕ
names_of (requests.Bind a) = a.name ∷ []
names_of (requests.BindAuto a) = a.name ∷ []
names_of (requests.MayListen name) = name ∷ []
names_of (requests.Listen name slot) = name ∷ []
names_of (requests.Free port net) = []
names_of (requests.ConnectAuto a) = a.name ∷ []
names_of (requests.ConnectBound name local remote rport) = name ∷ []
names_of (requests.Inherit parent name mark local remote rport) = parent ∷ name ∷ []
names_of (requests.ToTimeWait name) = name ∷ []
names_of (requests.Remove name) = name ∷ []
names_of (requests.RemoveWaiting name) = []

-- the caller runs the script whose socket has that name
abbrev pub MayName : ℕ → ℕ → Type 0
MayName caller name = caller ≢ 0 → name / 2 ^ 56 ≡ caller

-- the caller may ask so
abbrev pub MayAsk : ℕ → Request → Type 0
MayAsk caller request = Each (MayName caller) (names_of request)

abbrev pub MayMake : ℕ → Entry → Type 0
MayMake caller e = MayAsk caller e.request

-- in a table that is so shared, the caller may make entries
abbrev pub MayCall : Sharing → ℕ → Type 0
MayCall sharings.Alone caller = caller ≡ 0
MayCall sharings.Shared caller = caller ≢ 0

-- they are names of the caller's own sockets
abbrev pub AreOwn : ℕ → (ℕ → Bool) → Type 0
AreOwn caller mine = (name : ℕ) → mine name ≡ true → MayName caller name

-- the bucket of that number among so many, in a table that is so shared
pub record IsMadeFor (sharing : Sharing) (i n : ℕ) (b : Bucket) : Type 0 where
  pub number_is : b.number ≡ i
  pub buckets_is : b.buckets ≡ n
  pub callers : Each (λ (x : Note). MayCall sharing x.caller) b.journal
