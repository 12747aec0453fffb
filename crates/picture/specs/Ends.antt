-- How a process ends, over ends whose bytes can be stated. Our own rule.
use Rattle.std.specs.Prelude.{◌≡◌, ◌≤◌, ◌<◌, ℕ, List, Option, IfSome}
use Rattle.picture.specs.declared.status.Status.{Status}
use Rattle.picture.specs.declared.status.Status.TheVariants.{Usage}
use Rattle.picture.specs.Written.{Answers, IsEnd, WritesOutcome}

-- Called with so many words, the program's name among them, it ends with that status: a word behind the name is
-- refused, and else what the source had left gets its picture or its verdict.
pub record IsEndOf (words : ℕ) (status : Status) (left left' written written' : Option (List ℕ)) : Type 0 where
  pub usage : 1 < words → status ≡ Usage
  pub told : words ≤ 1 → IsEnd status → WritesOutcome left left' written written' status
  pub answers : words ≤ 1 → IfSome left (λ bytes. Answers bytes status)
