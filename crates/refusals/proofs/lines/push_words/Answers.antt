use Rattle.std.proofs.Common.{[], arith, length, ◌<◌}
use Rattle.std.proofs.lemmas.List.{length-map, get_or-map}
use Rattle.sock_script.specs.Seen.{texts}
use Rattle.refusals.proofs.Words.{words_more}
use Rattle.refusals.proofs.lines.push_words.Goals as goal

pub loop-piece-preserved : goal.loop-piece-preserved
loop-piece-preserved c =
    let lt : c.loop-piece.piece-index < length (texts c.args.pieces.now) = omega (arith, length-map c.args.pieces.now (λ w. w.now), c.loop-piece-test.true) in
    words_more (texts c.args.pieces.now) c.loop-piece.piece-index lt _
    (get_or-map (λ w. w.now) c.args.pieces.now c.loop-piece.piece-index _ [] c.loop-piece-test.true)
    _ _ _ c.in_ok-push_word.ensures c.loop-piece.invariant
