-- Where a label stands among others: our own.
use Rattle.std.specs.Prelude.{ℕ, List, Option, position, bytes_eq}

-- where a label was given first, if it was
abbrev pub place_in : List (List ℕ) → List ℕ → Option ℕ
place_in labels label = position (λ l. bytes_eq l label) labels
