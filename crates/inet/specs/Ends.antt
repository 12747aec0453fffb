-- How a process ends, over ends whose bytes can be stated: what the contract of the top call says of each status. Our
-- own rule.
use Rattle.std.specs.Prelude.{◌≡◌, ◌⊎◌, ℕ, List, Option, IfSome}
use Rattle.sock_script.specs.declared.parse.Mode.{Mode}
use Rattle.inet_tool.specs.declared.status.Status.{Status}
use Rattle.inet_tool.specs.declared.status.Status.TheVariants.{Done, Usage, Memory}
use Rattle.inet_tool.specs.Audit.{AuditAnswers, IsEnd, WritesOutcome}
use Rattle.inet_tool.specs.Races.{WritesRace}
use Rattle.inet_tool.specs.Table.{WritesCounts, WritesFlatOut}
use Rattle.inet_tool.specs.Verdict.{Answers}
use Rattle.inet_tool.specs.Words.{AsksToRead, IsAudit, IsMake, IsRace, IsRefused, IsRun}

-- Called with these words, the program's name first, it ends with that status.
pub record IsEndOf (words : List (List ℕ)) (status : Status) (left left' written written' : Option (List ℕ))
    : Type 0 where
  pub usage : status ≡ Usage → IsRefused words
  pub refused : IsRefused words → (status ≡ Usage) ⊎ (status ≡ Memory)
  -- which status a script or a record gets
  pub answers : (mode : Mode) → AsksToRead mode words → IfSome left (λ bytes. Answers mode bytes status)
  pub audit_answers : IsAudit words → IfSome left (λ bytes. AuditAnswers bytes status)
  -- what was written where it is 0, and what an audit wrote
  pub done : IsRun words → status ≡ Done → WritesFlatOut left left' written written'
  pub raced : (lookers passes : ℕ) → IsRace words lookers passes → status ≡ Done
      → WritesRace lookers passes left left' written written'
  pub made : (seed count : ℕ) → IsMake words seed count → status ≡ Done → WritesCounts written written' seed count
  pub audited : IsAudit words → IsEnd status → WritesOutcome left left' written written' status
