use Rattle.std.proofs.Common.{rules, ap, ◌≡◌, ◌∙◌}
use Rattle.std.specs.Prelude.{Err}
use Rattle.capture_reader.specs.declared.capture.CaptureEnd.TheVariants as ends
use Rattle.inet_tool.specs.declared.fault.Fault.TheVariants as faults
use Rattle.inet_tool.specs.Table.{IsRunOf}
use Rattle.inet_tool.proofs.Faults.{bad_reply}
use Rattle.sock_script.specs.declared.parse.Mode.TheVariants as modes
use Rattle.sock_script.specs.Output.{Replies, flat_listings, flat_replies, script_text}
use Rattle.sock_script.proofs.ShownTexts.{shown_script}
use Rattle.sock_script.proofs.SoundLists.{texts_sound}
use Rattle.sock_script.proofs.HeadersFit.{scripts_fit}
use Rattle.inet_tool.proofs.reply.reply_to.Goals as goal

pub run-requires-clause-header : goal.run-requires-clause-header
run-requires-clause-header g c = scripts_fit modes.Run c.args.bytes.items c.in-Ok.script (rw c.deref.ensures.value at c.in-Ok.ensures.script)

pub returns : goal.returns
returns g c = (
  (
    c.in-Ok.script,
    c.in-Ok-read.capture,
    record {
      script_is = rw c.deref.ensures.value at c.in-Ok.ensures.script;
      capture_is = rw c.deref-2.ensures.value at c.in-Ok-read.ensures.capture;
    },
    c.in_ok-text.ensures
        ∙ (λ i. script_text c.in-Ok.script c.in-Ok-read.capture
        ((c.deref-3.ensures.value ∙ ap (λ (r : Replies). r.each) c.replies.view_is ∙ c.in_ok-replies.ensures.replied) i)
        ((c.deref-4.ensures.value ∙ ap (λ (r : Replies). r.listings) c.replies.view_is ∙ c.in_ok-replies.ensures.listed) i))
        ∙ shown_script c.in-Ok.script c.in-Ok-read.capture (flat_replies c.in-Ok.script c.in-Ok-read.capture.items) (flat_listings c.in-Ok.script c.in-Ok-read.capture.items),
  ),
  λ script is. texts_sound modes.Run c.args.bytes.items script c.requires is,
)

pub returns-in-Err-BadHead : goal.returns-in-Err-BadHead
returns-in-Err-BadHead g c =
    let is : c.read.result ≡ Err ends.BadHead = search rules in
    let none = (rw c.deref-2.ensures.value at c.read.ensures.bad_head).0 is in
    bad_reply modes.Run IsRunOf c.args.bytes.items faults.Capture c.refusal-in-Err-BadHead.result
    (c.in-Ok.script, rw c.deref.ensures.value at c.in-Ok.ensures.script, none.0, none.1)
    c.refusal-in-Err-BadHead.ensures.text c.refusal-in-Err-BadHead.ensures.fault
