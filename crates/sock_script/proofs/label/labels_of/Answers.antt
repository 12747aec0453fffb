use Rattle.std.proofs.Common.{◌∙◌, sym, ap}
use Rattle.std.specs.Option.{option_copied}
use Rattle.sock_script.proofs.LabelTable.{label_more, none_more}
use Rattle.sock_script.proofs.label.labels_of.Goals as goal
use Rattle.sock_script.proofs.label.labels_of.Goals.{in-Some+in_ok-push-2, in_default}

pub loop-command-preserved : goal.loop-command-preserved
loop-command-preserved c =
    elim c.match-given_bytes.branch [
      | in-Some+in_ok-push-2 w ↦
          label_more c.loop-command.labels.items _ w.in-Some.label c.args.commands.now c.loop-command.command-index c.command-item.result c.loop-command-test.true c.command-item.is
          (sym c.given_bytes.ensures ∙ ap option_copied w.in-Some.is) (ap (λ v. v.items) w.labels-is ∙ w.in_ok-push-2.ensures.items) c.loop-command.invariant
      | in_default w ↦
          none_more c.loop-command.labels.items _ c.args.commands.now c.loop-command.command-index c.command-item.result c.loop-command-test.true c.command-item.is
          (sym c.given_bytes.ensures ∙ ap option_copied w.in_default.is) (ap (λ v. v.items) w.labels-is) c.loop-command.invariant
    ]
