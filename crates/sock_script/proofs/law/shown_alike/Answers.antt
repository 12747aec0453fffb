use Rattle.sock_script.proofs.ShownTexts.{shown_counts, shown_script}
use Rattle.sock_script.proofs.law.shown_alike.Goals as goal

pub returns : goal.returns
returns c = record { texts = shown_script; counts = shown_counts }
