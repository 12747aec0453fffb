-- How a process ends, over ends whose bytes can be stated. Our own rule.
use Rattle.std.specs.Prelude.{◌≡◌, ℕ, List, Option, IfSome}
use Rattle.why.specs.declared.input.Input.{Input}
use Rattle.why.specs.declared.status.Status.{Status}
use Rattle.why.specs.declared.status.Status.TheVariants.{Usage}
use Rattle.why.specs.Asked.{AsksFor}
use Rattle.why.specs.Written.{Answers, IsEnd, WritesAnswer}

-- Called with these words, the program's name first, it ends with that status: others than a command's are refused,
-- and else what the source had left gets its answer.
pub record IsEndOf (words : List (List ℕ)) (status : Status) (left left' written written' : Option (List ℕ))
    : Type 0 where
  pub usage : ((input : Input) → ¬ (AsksFor input words)) → status ≡ Usage
  pub told : (input : Input) → AsksFor input words → IsEnd status → WritesAnswer input left left' written written' status
  pub answers : (input : Input) → AsksFor input words → IfSome left (λ bytes. Answers input bytes status)
