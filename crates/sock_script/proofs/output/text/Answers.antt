use Rattle.std.proofs.Common.{◌∙◌, ◌++◌, ap, ap₂, length, arith}
use Rattle.std.proofs.lemmas.List.{length-map}
use Rattle.sock_script.specs.Output.{issued_from, events_from, cut_text}
use Rattle.sock_script.specs.Seen.{tables}
use Rattle.sock_script.specs.Steps.{Unwritten, lines_at}
use Rattle.sock_script.proofs.LabelTable.{same_lines}
use Rattle.sock_script.proofs.LineTurns.{wrote_section, wrote_sections}
use Rattle.sock_script.proofs.RunTurns.{commands_at}
use Rattle.sock_script.proofs.output.text.Goals as goal

pub loop-i-preserved : goal.loop-i-preserved
loop-i-preserved c =
    let at = commands_at _ c.args.script.now.sections c.loop-i.i c.commands-item.result c.sections-commands-items.ensures c.loop-i-test.true c.commands-item.is in
    wrote_section (tables c.in_ok-labels.labels.by_section.items) c.args.script.now.sections (record { number = 1; items = c.args.capture.now.items; replies = c.args.replies.now; listings = c.args.listings.now }) c.loop-i.left c.in_ok-left.left c.loop-i.out.items c.put_section.new.out.items
    c.loop-i.i c.commands-item.result.items at.0 at.1 c.loop-i.invariant (rw c.deref.ensures.value at c.in_ok-left.ensures)

pub returns : goal.returns
returns c =
    let table = tables c.in_ok-labels.labels.by_section.items in
    let sections = c.args.script.now.sections in
    let events = events_from c.args.capture.now.items (issued_from 1 sections) in
    let first : Unwritten = record { number = 1; items = c.args.capture.now.items; replies = c.args.replies.now; listings = c.args.listings.now } in
    let last = c.in_ok-put_packets.ensures in
    let lines =
    wrote_sections table sections first c.loop-i.left c.in_ok-put_packets.field-0 c.loop-i.out.items c.put_packets.new.out.items c.loop-i.i
    (omega (arith, ap length c.sections-commands-items.ensures, length-map c.sections-commands-items.result.now (λ v. v.items))) c.loop-i.invariant
    (rw c.item_count-count.ensures at last)
    ∙ ap (λ t. lines_at t 1 events c.args.replies.now c.args.listings.now) c.in_ok-labels.ensures
    ∙ same_lines sections 1 events c.args.replies.now c.args.listings.now in
    c.in_ok-put_cut.ensures ∙ ap₂ (λ l b. l ++ cut_text b) lines c.is_cut.ensures
