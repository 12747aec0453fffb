use Rattle.std.proofs.Common.{rules}
use Rattle.sock_script.proofs.SixteenBits.{ends_at, goes_past, ends_later}
use Rattle.sock_script.proofs.word.end_of_piece.Goals as goal

pub returns-then-bits-ne0 : goal.returns-then-bits-ne0
returns-then-bits-ne0 c =
    let so_far = c.loop-at.invariant in
    ends_at c.args.text.now c.args.start c.loop-at.at so_far.0 so_far.2 c.end_bits-bits.result c.end_bits-bits.ensures (search rules) (search rules) (search rules)

pub loop-at-preserved : goal.loop-at-preserved
loop-at-preserved c =
    let so_far = c.loop-at.invariant in (
      search rules,
      search rules,
      goes_past c.args.text.now c.args.start c.loop-at.at so_far.0 so_far.2 c.end_bits-bits.result c.end_bits-bits.ensures (search rules),
    )

pub returns : goal.returns
returns c =
    let so_far = c.loop-at.invariant in
    ends_later c.args.text.now c.args.start c.loop-at.at so_far.0 so_far.2 _ c.end_by_bytes.ensures
