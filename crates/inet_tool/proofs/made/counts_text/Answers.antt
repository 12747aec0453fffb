use Rattle.std.proofs.Common.{◌∙◌, ap}
use Rattle.sock_script.specs.declared.parse.Mode.TheVariants as modes
use Rattle.sock_script.specs.Make.{made_text}
use Rattle.sock_script.specs.Output.{Replies}
use Rattle.sock_script.proofs.HeadersFit.{scripts_fit}
use Rattle.inet_tool.proofs.CountsTold.{counted}
use Rattle.inet_tool.proofs.made.counts_text.Goals as goal

pub returns : goal.returns
returns g c =
    counted c.args.seed c.args.count c.in_ok-script.script c.deref.result.now c.new.result.items c.of.result c.text.result
    c.in_ok-script.ensures.made c.of.ensures.counted (c.deref.ensures.value ∙ ap (λ (r : Replies). r.each) c.replies.view_is ∙ c.in_ok-replies.ensures.replied) (ap (λ capture. capture.items) c.new.ensures) c.text.ensures

pub run-requires-clause-header : goal.run-requires-clause-header
run-requires-clause-header g c =
    scripts_fit modes.Run (made_text c.args.seed c.args.count) c.in_ok-script.script c.in_ok-script.ensures.made
