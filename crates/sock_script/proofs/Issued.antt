-- Commands in two parts.
use Rattle.std.proofs.Common.{◌≡◌, List, [], ◌∷◌, ◌++◌, refl, ap}
use Rattle.flat_list.specs.Flat.{Flat}
use Rattle.flat_list.specs.Run.{Issued, after}
use Rattle.flat_list.specs.Step.{step}
use Rattle.sock_script.specs.Output.{lists_from}

-- the lists that the first leave, and then those that the others leave
pub lists_append : (flat : Flat) (xs ys : List Issued) → lists_from flat (xs ++ ys) ≡ lists_from flat xs ++ lists_from (after flat xs) ys
lists_append flat [] ys = refl
lists_append flat (c ∷ xs) ys =
    ap (λ rest. (step flat c.section c.command).flat ∷ rest) (lists_append (step flat c.section c.command).flat xs ys)
