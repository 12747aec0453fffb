use Rattle.std.proofs.Common.{◌≡◌, ◌++◌, drop, filter}
use Rattle.sock_script.specs.Seen.{texts}
use Rattle.sock_script.specs.Words.{is_word}
use Rattle.refusals.proofs.lines.push_words.Given as goal

abbrev pub invariant-loop-piece : goal.invariant-loop-piece
invariant-loop-piece l =
    texts l.words.items ++ filter is_word (drop l.piece-index (texts l.pieces))
    ≡ texts l.fn.words.items ++ filter is_word (texts l.pieces)
