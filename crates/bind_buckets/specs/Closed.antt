-- Buckets as a table begins with them, and as the last pass leaves them: our own. Their entries exist in proofs
-- alone; a program has their count.
use Rattle.std.specs.Prelude.{◌≡◌, ℕ, ◌+◌, List, [], ◌∷◌, length}
use Rattle.std.specs.Global.{Box}
use Rattle.list_words.specs.Lists.{Each}
use Rattle.bind_buckets.specs.Notes.{Note}
use Rattle.turn_table.specs.Values.{Fits, AllNew}
use Rattle.bind_buckets.specs.declared.request.Sharing.{Sharing}
use Rattle.bind_buckets.specs.Callers.{MayMake, IsMadeFor}
use Rattle.bind_buckets.specs.Journal.{IsLegal, replayed}
use Rattle.bind_buckets.specs.Bucket.{Bucket, IsSound, entries_of}

abbrev pub notes_in : Box Bucket → List Note
notes_in b = b.value.journal

abbrev pub count_in : Box Bucket → ℕ
count_in b = length b.value.journal

-- the bucket of that number among so many, in a table that is so shared
abbrev pub FitsAt : Sharing → ℕ → ℕ → Box Bucket → Type 0
FitsAt sharing number buckets b =
    Fits notes_in (λ (x : Box Bucket). IsSound x.value) (λ home i n (x : Box Bucket). IsMadeFor home i n x.value)
    MayMake sharing number buckets b

-- they are the buckets of a new table, the first with that number: none was asked anything
abbrev pub AreNew : Sharing → ℕ → ℕ → List (Box Bucket) → Type 0
AreNew sharing number buckets bs = AllNew notes_in (FitsAt sharing) number buckets bs

-- the bucket of that number among so many: its journal is lawful, and what it holds is the replay of it
pub record IsLeft (number buckets : ℕ) (b : Bucket) : Type 0 where
  pub number_is : b.number ≡ number
  pub buckets_is : b.buckets ≡ buckets
  pub legal : IsLegal number (entries_of b.journal)
  pub replay : b.held ≡ replayed number (entries_of b.journal)
  pub may : Each (λ (x : Note). MayMake x.caller x.entry) b.journal

-- they are the buckets of a table, the first with that number
abbrev pub AreLeft : ℕ → ℕ → List (Box Bucket) → Type 0
AreLeft number buckets [] = Unit {0}
AreLeft number buckets (b ∷ rest) = IsLeft number buckets b.value × AreLeft (number + 1) buckets rest
