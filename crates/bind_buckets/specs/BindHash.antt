-- The bind hash: a bucket for each remainder of a key, inet_bhashfn of include/net/inet_hashtables.h.
use Rattle.std.specs.Prelude.{ℕ, ◌%◌, List, [], length, slice_set}
use Rattle.std.specs.List.{slice_index_or}
use Rattle.bind_buckets.specs.declared.request.Request.{Request}
use Rattle.bind_buckets.specs.declared.request.Answer.{Answer}
use Rattle.bind_buckets.specs.OwnerStep.{owner_step, empty}
use Rattle.bind_buckets.specs.Journal.{Standing, asked}

-- a bucket of which nothing was asked yet
abbrev pub untouched : Standing
untouched = record { held = empty; entries = [] }

-- how the bucket of a key stands
abbrev pub standing_at : List Standing → ℕ → Standing
standing_at hash key = slice_index_or hash (key % length hash) untouched

-- all buckets, once that of a key was asked
abbrev pub asked_at : List Standing → ℕ → Request → List Standing
asked_at hash key request =
    let number = key % length hash in slice_set hash number (asked number (standing_at hash key) request)

-- what it answers
abbrev pub answer_at : List Standing → ℕ → Request → Answer
answer_at hash key request = (owner_step (key % length hash) (standing_at hash key).held request).answer
