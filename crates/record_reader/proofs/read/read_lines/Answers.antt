use Rattle.std.proofs.Common.{sym, ap, subst, ◌≡◌, ◌∙◌, List, [], false, refl}
use Rattle.std.proofs.lemmas.Bool.{false≢true}
use Rattle.record_reader.specs.Words.{texts}
use Rattle.record_reader.specs.declared.line.Line.{Line}
use Rattle.record_reader.specs.Steps.{EndsWell, Turns}
use Rattle.record_reader.proofs.Reading.{reads_on, stops, ends_badly, ends_well, nothing_read}
use Rattle.record_reader.proofs.read.read_lines.Goals as goal

pub loop-line-init : goal.loop-line-init
loop-line-init c = nothing_read c.args.text.now _ c.new-lines.ensures.items

pub loop-line-preserved : goal.loop-line-preserved
loop-line-preserved c =
    reads_on c.args.text.now c.loop-line.lines.items _ c.loop-line.rest.now c.in-Some.line.now c.in-Some.after.now _ c.loop-line.invariant c.in-Some.ensures.line
    (ap texts c.deref.ensures.value ∙ c.in_ok-read_words.ensures)
    (subst (Turns c.loop-line.lines.items _ c.push_line.new.lines.items) c.if-not-branch.false c.in_ok-push_line.ensures)

pub returns-then-not-branch-clause-bad : goal.returns-then-not-branch-clause-bad
returns-then-not-branch-clause-bad c =
    let turn : Turns c.loop-line.lines.items _ c.push_line.new.lines.items false =
    subst (Turns c.loop-line.lines.items (texts c.deref.result.now) c.push_line.new.lines.items) c.if-not-branch.true c.in_ok-push_line.ensures in
    rw (c.next_number.ensures, c.deref-then-not-branch.ensures.value, turn.0)
    (stops c.args.text.now c.loop-line.lines.items c.push_line.new.lines.items c.loop-line.rest.now c.in-Some.line.now c.in-Some.after.now _ c.loop-line.invariant c.in-Some.ensures.line
    (ap texts c.deref.ensures.value ∙ c.in_ok-read_words.ensures) turn)

pub returns-then-not-is_whole-clause-bad : goal.returns-then-not-is_whole-clause-bad
returns-then-not-is_whole-clause-bad c =
    rw (c.next_number-then-not-is_whole.ensures, c.deref-then-not-is_whole.ensures.value)
    (ends_badly c.args.text.now c.loop-line.lines.items c.loop-line.rest.now c.loop-line.invariant c.in_default.ensures.line
    (λ well. false≢true (c.if-not-is_whole.ensures.1 (subst (λ (ls : List Line). (c.loop-line.rest.now ≡ []) × EndsWell ls) (sym c.deref-2.ensures.value) well))))

pub returns-clause-record : goal.returns-clause-record
returns-clause-record c =
    ends_well c.args.text.now c.loop-line.lines.items c.loop-line.rest.now c.loop-line.invariant c.in_default.ensures.line
    (subst (λ (ls : List Line). (c.loop-line.rest.now ≡ []) × EndsWell ls) c.deref-2.ensures.value (c.if-not-is_whole.ensures.0 refl))
