use Rattle.sock_script.specs.Seen.{texts}
use Rattle.refusals.proofs.Found.{found}
use Rattle.refusals.proofs.reason.has_form.Goals as goal

pub returns : goal.returns
returns c =
    rw c.is_read.ensures
    (found (texts c.args.words.now) c.in_ok-command.command c.other_of-other.result c.in_ok-command.ensures.some c.in_ok-command.ensures.none
    c.other_of-other.ensures.some c.other_of-other.ensures.none)
