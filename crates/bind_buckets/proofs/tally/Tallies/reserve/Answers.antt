use Rattle.std.proofs.Common.{◌<◌, arith}
use Rattle.std.specs.Prelude.{vec_len}
use Rattle.bind_buckets.specs.Tally.{IsTallyOf}
use Rattle.bind_buckets.proofs.Tallied.{reserve_tallied}
use Rattle.bind_buckets.proofs.tally.Tallies.reserve.Goals as goal

pub returns-in_ok-resize-clause-stays : goal.returns-in_ok-resize-clause-stays
returns-in_ok-resize-clause-stays c = λ place_of has_mark owners tallied.
    let f = c.self.inside in
    let known : IsTallyOf place_of has_mark f.tallies.items owners = rw c.self.view_is tallied in
    let few : vec_len f.tallies < 256 = rw c.len.ensures at c.if-len-lt-PLACES.true in
    reserve_tallied place_of has_mark f.tallies.items c.resize.new.self.items (vec_len f.tallies) owners (omega (arith, f.tallies.ok.0)) few c.in_ok-resize.ensures.items known
