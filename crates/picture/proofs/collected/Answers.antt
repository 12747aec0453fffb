-- Each word that the iterator has left is taken, in its order.
use Rattle.std.proofs.Common.{length, ◌≡◌, refl, arith}
use Rattle.std.proofs.lemmas.Iterator.{items_from_collect}
use Rattle.std.proofs.lemmas.Iterator.Adapters.{YieldsList-from_vec}
use Rattle.std.specs.Vec.Iter.{into_iter_items, into_iter_len}
use Rattle.picture.proofs.collected.Goals as goal

pub returns : goal.returns
returns c =
    let len : into_iter_len c.args.words ≡ length (into_iter_items c.args.words) = omega (arith, c.args.words.rest.ok.0) in
    items_from_collect c.collect.result c.collect.ensures.ran (YieldsList-from_vec (into_iter_items c.args.words) refl len)
