use Rattle.std.proofs.lemmas.Simd.{get_or-chunk}
use Rattle.sock_script.proofs.SixteenBits.{ends_marked}
use Rattle.sock_script.proofs.word.end_bits.Goals as goal

pub returns : goal.returns
returns c =
    ends_marked c.args.text.now _ c.args.at (λ k lt. get_or-chunk c.args.at 16 c.args.text.now k 0 lt) _ _ _ c.bits_of.ensures c.bits_of-2.ensures c.bits_of-3.ensures
