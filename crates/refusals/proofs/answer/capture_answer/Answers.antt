use Rattle.std.proofs.Common.{◌≡◌, ◌⊎◌, ℕ, List, [], subst}
use Rattle.capture_reader.specs.Flaws.{IsBadHead}
use Rattle.capture_reader.specs.Header.{HasHeader}
use Rattle.refusals.proofs.answer.capture_answer.Goals as goal

pub returns-in-None : goal.returns-in-None
returns-in-None c =
    (c.args.script.now, c.requires, subst (λ (b : List ℕ). (b ≡ []) ⊎ HasHeader b) c.capture_of.ensures c.in-None.ensures.none)

pub returns-in-Some : goal.returns-in-Some
returns-in-Some c =
    (c.args.script.now, c.requires, subst (λ (b : List ℕ). IsBadHead b c.in-Some.flaw) c.capture_of.ensures c.in-Some.ensures.some)
