use Rattle.std.proofs.Common.{◌≡◌, [], ◌∷◌, take}
use Rattle.sock_script.specs.Seen.{texts}
use Rattle.sock_script.specs.Grammar.{given_labels}
use Rattle.sock_script.proofs.label.labels_of.Given as goal

abbrev pub invariant-loop-command : goal.invariant-loop-command
invariant-loop-command l = texts l.labels.items ≡ [] ∷ given_labels (take l.command-index l.commands)
