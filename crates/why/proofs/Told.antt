-- The bytes that a source states, once it was read whole.
use Rattle.std.proofs.Common.{◌≡◌, ℕ, List, ◌++◌, Option, Some, None, IfSome, subst, sym, ap, ◌∙◌, append-nil}
use Rattle.inet_io.specs.Ends.{ReadsWhole}

-- the bytes that it stated are those that were read
pub told : (P : List ℕ → Type 0) (left left' : Option (List ℕ)) (bytes : List ℕ) → ReadsWhole left left' bytes → P bytes → IfSome left P
told P None left' bytes whole holds = tt
told P (Some xs) None bytes whole holds = absurd whole.read
told P (Some xs) (Some ys) bytes whole holds =
    let all : xs ≡ bytes = whole.read ∙ ap (λ rest. bytes ++ rest) whole.ended ∙ append-nil bytes in subst P (sym all) holds
