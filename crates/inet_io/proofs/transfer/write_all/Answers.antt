use Rattle.std.proofs.Common.{ℕ, ◌-◌, ◌≤◌, List, length, arith, subst, length-take, length-drop}
use Rattle.std.proofs.KnownBytes.{Appends-trans}
use Rattle.std.specs.Io.KnownBytes.{Appends}
use Rattle.inet_io.proofs.Pieces.{take_further}
use Rattle.inet_io.proofs.transfer.write_all.Goals as goal

pub loop-done-preserved : goal.loop-done-preserved
loop-done-preserved g c =
    let bytes : List ℕ = c.args.bytes.now in
    let done : ℕ = c.loop-done.done in
    let count : ℕ = c.in_ok-done.field-0 in
    let bound : count ≤ length bytes - done = omega (arith, c.in_ok-done.ensures.bound, length-take {A = ℕ}, length-drop {A = ℕ}) in
    record {
      within = omega arith;
      so_far = subst (Appends (g.K.Sink.written c.args.sink.now) (g.K.Sink.written c.write.new.self)) (take_further done count bytes bound)
          (Appends-trans (g.K.Sink.written c.args.sink.now) (g.K.Sink.written c.loop-done.sink) (g.K.Sink.written c.write.new.self)
          _ _ c.loop-done.invariant.so_far c.in_ok-done.ensures.bytes);
      later = omega (arith, c.write.ensures.cause.later);
    }
