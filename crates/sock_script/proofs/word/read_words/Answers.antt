use Rattle.std.proofs.Common.{rules, ◌++◌, ◌∙◌, ap, subst, sym, arith}
use Rattle.sock_script.specs.Seen.{texts}
use Rattle.sock_script.specs.Pieces.{word_in}
use Rattle.sock_script.proofs.TakenLines.{Reached, at_first, at_next, line_ends, line_words}
use Rattle.sock_script.proofs.word.read_words.Goals.{then-loop-end-test+else-is_blank, else-loop-end-test}
use Rattle.sock_script.proofs.word.read_words.Goals as goal

pub loop-end-init : goal.loop-end-init
loop-end-init c = (
  c.end_of_piece-end.ensures,
  subst (λ words. Reached c.args.text.now 0 (texts words)) (sym c.requires) (at_first c.args.text.now),
)

pub loop-end-preserved : goal.loop-end-preserved
loop-end-preserved c =
    let so_far = c.loop-end.invariant in (
      c.end_of_piece-end-in-loop-end.ensures,
      at_next c.args.text.now c.loop-end.start (texts c.loop-end.words.items) c.loop-end.end so_far.0 so_far.1 (texts c.push_word.new.words.items) (search rules) (search rules) c.in_ok-push_word.ensures,
    )

pub returns-clause-ends : goal.returns-clause-ends
returns-clause-ends c =
    let so_far = c.loop-end.invariant in
    line_ends c.args.text.now c.loop-end.start (texts c.loop-end.words.items) c.loop-end.end so_far.0 so_far.1
    (elim c.loop-end-test.branch [
      | then-loop-end-test+else-is_blank w ↦ λ lt. search rules
      | else-loop-end-test w ↦ λ lt. absurd (omega (arith, w.loop-end-test.false))
    ])

pub returns-clause-words : goal.returns-clause-words
returns-clause-words c =
    let so_far = c.loop-end.invariant in
    c.in_ok-push_word-2.ensures
    ∙ ap (λ piece. texts c.loop-end.words.items ++ word_in piece) c.without_carriage_return.ensures
    ∙ sym (line_words c.args.text.now c.loop-end.start (texts c.loop-end.words.items) c.loop-end.end so_far.0 so_far.1)
