use Rattle.std.proofs.Common.{◌∙◌, [], append-nil, false}
use Rattle.sock_script.specs.Output.{script_text}
use Rattle.sock_script.proofs.ShownTexts.{shown_script}
use Rattle.race_text.proofs.render.commands_text.Goals as goal

pub returns : goal.returns
returns c =
    let script = c.args.script.now in
    let replies = c.args.replies.now in
    let listings = c.args.listings.now in
    c.in_ok-lines.ensures
    ∙ (λ i. script_text script (c.new.ensures i) ((c.deref.ensures.value ∙ c.in_ok-shown.ensures) i) listings)
    ∙ shown_script script (record { items = []; cut = false }) replies listings ∙ append-nil _
