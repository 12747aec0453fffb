-- What holds of every bucket, with the room that its two lists have: our own rule.
use Rattle.std.specs.Prelude.{ℕ, ◌+◌, ◌≤◌, length}
use Rattle.bind_buckets.specs.Bucket.{Bucket, IsSound}

-- room for so many notes and so many newcomers
pub record IsKept (b : Bucket) (more_notes more_owners : ℕ) : Type 0 where
  pub sound : IsSound b
  -- beside the room that is promised, a note is kept for each owner that may go
  pub notes : length b.held.owners + b.entries + b.newcomers ≤ more_notes
  pub owners : b.newcomers ≤ more_owners
