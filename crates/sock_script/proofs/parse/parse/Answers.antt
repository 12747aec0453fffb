use Rattle.sock_script.specs.Words.{lines_of}
use Rattle.sock_script.proofs.Printed.{are_lines}
use Rattle.sock_script.proofs.Small.{small_script}
use Rattle.sock_script.proofs.parse.parse.Goals as goal

pub returns-clause-small : goal.returns-clause-small
returns-clause-small c small =
    small_script c.args.mode c.args.text.now c.in_ok-draft.draft _ small c.in_ok-draft.ensures.read c.in_ok-into_script.ensures

pub returns-clause-script : goal.returns-clause-script
returns-clause-script c =
    are_lines c.args.mode (lines_of c.args.text.now) _ (c.in_ok-draft.draft, c.in_ok-draft.ensures.read, c.in_ok-into_script.ensures)
