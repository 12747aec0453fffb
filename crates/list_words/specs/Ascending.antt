-- Lists in the order of a number that each item has: our own words.
use Rattle.std.specs.Prelude.{ℕ, nat_lt, List, [], ◌∷◌, if◌then◌else◌}

-- an item among others that ascend by their numbers
abbrev pub put_by : {A : Type 0} → (A → ℕ) → A → List A → List A
put_by number x [] = x ∷ []
put_by number x (y ∷ rest) = if nat_lt (number y) (number x) then y ∷ put_by number x rest else x ∷ y ∷ rest

-- the items, ascending by their numbers; those of one number stay in their order
abbrev pub ascending_by : {A : Type 0} → (A → ℕ) → List A → List A
ascending_by number [] = []
ascending_by number (x ∷ rest) = put_by number x (ascending_by number rest)
