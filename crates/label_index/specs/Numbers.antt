-- Labels that are the numbers from 1 on: our own.
use Rattle.std.specs.Prelude.{ℕ, zero, suc, List, [], ◌∷◌, ◌++◌}
use Rattle.flat_calls.specs.Numbers.{label_of}

-- the labels of the first n
abbrev pub labels_to : ℕ → List (List ℕ)
labels_to zero = []
labels_to (suc n) = labels_to n ++ label_of (suc n) ∷ []
