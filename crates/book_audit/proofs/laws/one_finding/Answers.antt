use Rattle.book_audit.proofs.Found.{some_finding}
use Rattle.book_audit.proofs.Verdicts.{one_finding}
use Rattle.book_audit.proofs.laws.one_finding.Goals as goal

pub returns-clause-most : goal.returns-clause-most
returns-clause-most c = one_finding

pub returns-clause-least : goal.returns-clause-least
returns-clause-least c = some_finding
