-- The notes of a journal, which only clauses read: our own rule.
use Rattle.std.specs.Prelude.{ℕ, List, [], ◌∷◌, ◌++◌}
use Rattle.bind_buckets.specs.Notes.{Note}
use Rattle.bind_buckets.specs.declared.journal.Log.{Log, Empty, After'}

-- a journal's notes, oldest first, and how many more can be counted
pub record Noted : Type 0 where
  pub notes : List Note
  pub room : ℕ

abbrev pub lines : Log → List Note
lines Empty = []
lines (After' note shape before) = lines before ++ note ∷ []
