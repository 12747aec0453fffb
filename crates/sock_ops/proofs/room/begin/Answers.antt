use Rattle.std.proofs.Common.{List, map, subst, ◌∙◌}
use Rattle.turn_table.specs.Journals.{placed}
use Rattle.turn_table.specs.Passes.{known}
use Rattle.bind_buckets.specs.Notes.{Note}
use Rattle.bind_buckets.specs.Turned.{Gave}
use Rattle.sock_ops.specs.Stands.{turned}
use Rattle.sock_ops.proofs.room.begin.Goals as goal

pub returns-in-Err-clause-nothing : goal.returns-in-Err-clause-nothing
returns-in-Err-clause-nothing g c =
    let v = turned c.args.worker.now in
    subst (λ (ms : List Note). Gave v (known c.give.new.pass) (map (placed c.make_room.new.turn.place) ms)) (c.make_room.ensures.made ∙ c.in-Some.ensures.none)
    (c.give.ensures.gave v (c.make_room.ensures.within v c.in-Some.ensures.within))
