use Rattle.std.proofs.Common.{ℕ, List, ◌++◌, take, arith, length-append, length-take}
use Rattle.std.proofs.KnownBytes.{Consumes-trans}
use Rattle.inet_io.proofs.transfer.read_all.Goals as goal

pub returns-then-count-room-clause-too_long : goal.returns-then-count-room-clause-too_long
returns-then-count-room-clause-too_long g c =
    let so_far : List ℕ = c.loop-turn.bytes.items in
    let count : ℕ = c.in-Ok.count in
    let piece : List ℕ = take count c.read.new.buf in
    λ is. (
      so_far ++ piece,
      omega (arith, c.loop-turn.bytes.ok.0, c.in-Ok.ensures.bound, length-append so_far piece, length-take {A = ℕ}),
      Consumes-trans (g.S.Source.left c.args.source.now) (g.S.Source.left c.loop-turn.source) (g.S.Source.left c.read.new.self)
          so_far piece c.loop-turn.invariant.so_far c.in-Ok.ensures.bytes.0,
    )
