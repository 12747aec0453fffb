use Rattle.std.proofs.Common.{◌≡◌, ◌++◌, take}
use Rattle.std.specs.List.{flat_map}
use Rattle.sock_script.specs.Output.{socket_line}
use Rattle.sock_script.specs.Seen.{tables}
use Rattle.sock_script.specs.Steps.{label_at}
use Rattle.sock_script.proofs.output.put_sockets.Given as goal

abbrev pub invariant-loop-card : goal.invariant-loop-card
invariant-loop-card l =
    l.out.items ≡ l.fn.out.items ++ flat_map (socket_line (label_at (tables l.labels.by_section.items)) l.n) (take l.card-index l.cards)
