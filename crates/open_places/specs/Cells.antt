-- A list of places, each empty or with a value, of which only some are kept in memory: our own form.
use Rattle.std.specs.Prelude.{◌≡◌, ℕ, ◌<◌, ◌≤◌, Bool, true, List, [], ◌∷◌, ◌++◌, Option, None, is_some}
use Rattle.std.specs.List.{slice_index_or}

-- what each place has, and whether it is kept: a place that isn't is empty, and stays so
pub record Places (T : Type 0) : Type 0 where
  pub cells : List (Option T)
  pub kept : List Bool

-- one place more, which is empty and kept
abbrev pub one_more : {T : Type 0} → Places T → Places T
one_more p = record { cells = p.cells ++ None ∷ []; kept = p.kept ++ true ∷ [] }

-- the places from the first number up to the second, without it, are empty
abbrev pub AreEmpty : {T : Type 0} → List (Option T) → (first past : ℕ) → Type 0
AreEmpty cells first past = (i : ℕ) → first ≤ i → i < past → slice_index_or cells i None ≡ None

-- and so are all from that number on
abbrev pub AreEmptyFrom : {T : Type 0} → List (Option T) → ℕ → Type 0
AreEmptyFrom cells first = (i : ℕ) → first ≤ i → slice_index_or cells i None ≡ None

-- the place has a value, and is the first from that number on that has one
pub record IsNextFull {T : Type 0} (cells : List (Option T)) (first place : ℕ) : Type 0 where
  pub from : first ≤ place
  pub full : is_some (slice_index_or cells place None) ≡ true
  pub between : AreEmpty cells first place
