-- The first item of a list that passes a test, changed or taken out: words of our own.
use Rattle.std.specs.Prelude.{Bool, List, [], ◌∷◌, if◌then◌else◌}

abbrev pub change_first : {A : Type 0} → (A → Bool) → (A → A) → List A → List A
change_first is change [] = []
change_first is change (x ∷ rest) = if is x then change x ∷ rest else x ∷ change_first is change rest

abbrev pub drop_first : {A : Type 0} → (A → Bool) → List A → List A
drop_first is [] = []
drop_first is (x ∷ rest) = if is x then rest else x ∷ drop_first is rest
