use Rattle.std.proofs.Common.{rules, ◌≡◌, arith, sym, ◌∙◌, ap, decimal}
use Rattle.record_reader.proofs.Numerals.{is_text, is_read}
use Rattle.record_reader.proofs.word.number_of.Goals as goal
use Rattle.record_reader.proofs.word.number_of.Goals.{then-n-least-via-then-n-least, then-n-least-via-else-n-least+then-n-most}

pub returns-in_default-clause-none : goal.returns-in_default-clause-none
returns-in_default-clause-none c = λ n e low high.
    c.in_default.ensures.cases.0 (is_text c.args.word.now n (omega arith) e)

pub returns-in_default-parse-clause-none : goal.returns-in_default-parse-clause-none
returns-in_default-parse-clause-none c = λ n e low high.
    let read = is_read c.args.word.now n c.parse.result (omega arith) e (search rules) in cc read

pub returns-then-n-least-clause-none : goal.returns-then-n-least-clause-none
returns-then-n-least-clause-none c = λ n e low high.
    let read = is_read c.args.word.now n c.parse.result (omega arith) e (search rules) in
    let same : c.in-Ok-parse.n ≡ n = cc read in
    elim c.then-n-least.branch [
      | then-n-least-via-then-n-least w ↦ omega arith
      | then-n-least-via-else-n-least+then-n-most w ↦ omega arith
    ]

pub returns-else-eq-clause-none : goal.returns-else-eq-clause-none
returns-else-eq-clause-none c = λ n e low high.
    let read = is_read c.args.word.now n c.parse.result (omega arith) e (search rules) in
    let same : c.in-Ok-parse.n ≡ n = cc read in
    let spelled : c.format.result.now ≡ c.in-Ok.text.now =
    c.format.ensures.text ∙ ap decimal same ∙ sym e ∙ sym c.in-Ok.ensures.cases.0 in
    search rules
