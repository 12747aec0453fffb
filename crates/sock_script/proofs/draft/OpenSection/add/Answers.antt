use Rattle.std.proofs.Common.{◌∙◌, List, [], ◌∷◌, ◌++◌, sym, ap}
use Rattle.std.specs.Option.{option_to_list}
use Rattle.flat_list.specs.declared.command.Command.{Command}
use Rattle.sock_script.specs.Grammar.{given_label, given_labels}
use Rattle.sock_script.proofs.Labels.{given_more}
use Rattle.sock_script.proofs.draft.OpenSection.add.Goals as goal

pub invariant_of-self-2 : goal.invariant_of-self-2
invariant_of-self-2 c =
    c.in_ok-new.ensures.noted
    ∙ ap (λ labels. labels ++ option_to_list (given_label c.args.command)) c.self.invariant
    ∙ sym (given_more c.self.inside.commands.items c.args.command)
    ∙ ap given_labels (sym (c.in_ok-push.ensures.items ∙ ap (λ (commands : List Command). commands ++ c.args.command ∷ []) c.reserve.ensures.items))
