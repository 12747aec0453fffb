use Rattle.std.proofs.Common.{rules, ◌∙◌, ap, subst, arith, take_all}
use Rattle.sock_script.specs.Words.{lines_of}
use Rattle.sock_script.specs.Pieces.{lines_left}
use Rattle.sock_script.specs.Reading.{Reads, nothing_yet}
use Rattle.sock_script.proofs.Turns.{goes_on, ends_here, read_to_capture, line_fits, bytes_more, next_line, line_left, none_left}
use Rattle.sock_script.proofs.Small.{count_weighs, lines_weigh}
use Rattle.sock_script.proofs.parse.read_lines.Goals as goal

pub returns-then-has_capture-clause-read : goal.returns-then-has_capture-clause-read
returns-then-has_capture-clause-read c =
    read_to_capture c.args.mode c.loop-left.draft (lines_of c.args.text.now) c.loop-left.number c.loop-left.invariant.2 (search rules)

pub overflow_add-number : goal.overflow_add-number
overflow_add-number c =
    let lines = lines_of c.args.text.now in
    let within = line_left lines c.loop-left.number c.in-Some.text.now (c.loop-left.invariant.1 ∙ ap lines_left c.in-Some.is) in
    record { fits = omega (arith, within, count_weighs lines, lines_weigh c.args.text.now) }

pub read_line-requires-clause-room : goal.read_line-requires-clause-room
read_line-requires-clause-room c =
    let lines = lines_of c.args.text.now in
    let next = next_line lines c.loop-left.number c.in_ok-line.line.now _ (c.loop-left.invariant.1 ∙ ap lines_left c.in-Some.is ∙ c.in_ok-line.ensures.lines) in
    omega (arith, line_fits lines c.loop-left.number c.in_ok-line.line.now next.0 next.1, lines_weigh c.args.text.now, c.loop-left.invariant.3)

pub returns-then-not-branch-clause-bad : goal.returns-then-not-branch-clause-bad
returns-then-not-branch-clause-bad c =
    let lines = lines_of c.args.text.now in
    let next = next_line lines c.loop-left.number c.in_ok-line.line.now _ (c.loop-left.invariant.1 ∙ ap lines_left c.in-Some.is ∙ c.in_ok-line.ensures.lines) in
    ends_here c.args.mode c.loop-left.draft c.read_line.new.draft lines c.loop-left.number c.in_ok-line.line.now next.0 next.1 c.loop-left.invariant.2 c.in_ok-read_line.field-0 c.in_ok-read_line.ensures c.if-not-branch.true

pub loop-left-preserved : goal.loop-left-preserved
loop-left-preserved c =
    let lines = lines_of c.args.text.now in
    let next = next_line lines c.loop-left.number c.in_ok-line.line.now _ (c.loop-left.invariant.1 ∙ ap lines_left c.in-Some.is ∙ c.in_ok-line.ensures.lines) in (
      omega (arith, next.0),
      next.2,
      goes_on c.args.mode c.loop-left.draft c.read_line.new.draft lines c.loop-left.number c.in_ok-line.line.now next.0 next.1 c.loop-left.invariant.2 c.in_ok-read_line.field-0 c.in_ok-read_line.ensures c.if-not-branch.false,
      bytes_more lines c.loop-left.number c.in_ok-line.line.now next.0 next.1 c.args.mode c.loop-left.draft c.read_line.new.draft c.in_ok-read_line.field-0 c.if-not-branch.false c.in_ok-read_line.ensures c.loop-left.invariant.3,
    )

pub returns-clause-read : goal.returns-clause-read
returns-clause-read c =
    let lines = lines_of c.args.text.now in
    let none = none_left lines c.loop-left.number (c.loop-left.invariant.1 ∙ ap lines_left c.in_default.is) in
    subst (λ t. Reads c.args.mode nothing_yet t c.loop-left.draft) (take_all c.loop-left.number lines none) c.loop-left.invariant.2
