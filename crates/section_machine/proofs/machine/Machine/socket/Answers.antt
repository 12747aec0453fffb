use Rattle.std.proofs.Common.{ℕ, Some, length, ap, ◌∙◌}
use Rattle.flat_list.specs.declared.command.Command.TheVariants as commands
use Rattle.flat_list.specs.Owned.{new_owner}
use Rattle.table_model.specs.Own.{Mine}
use Rattle.table_model.specs.Operations.{plain}
use Rattle.section_machine.specs.Places.{Labelled, with_place}
use Rattle.section_machine.proofs.Gives.{gives_not, labels_more, labels_same}
use Rattle.section_machine.proofs.Made.{made}
use Rattle.section_machine.proofs.machine.Machine.socket.Goals as goal

pub returns-clause-carried : goal.returns-clause-carried
returns-clause-carried c =
    made c.args.tables.now c.args.self.now c.self.inside.header c.self.inside.labels c.give.new.self c.put.new.self c.self.inside.moment c.self.inside.offsets c.self.inside.waits c.args.label c.args.options c.args.worker.now
    c.self.view_is c.len-place.ensures.places c.in_ok-give.ensures.given
    (c.put.ensures.put
    ∙ (ap (λ (i : ℕ). with_place c.give.new.self i (Some c.new.result)) c.len-place.ensures.labels
    ∙ ap (λ (m : Mine). with_place c.give.new.self (length c.self.inside.labels.labels) (Some m)) (c.new.ensures ∙ (λ i. plain (new_owner (c.newcomer-newcomer.ensures.name i) (c.newcomer-newcomer.ensures.mark i) c.args.options)))))
    c.requires.room c.requires.section

pub returns-clause-gives : goal.returns-clause-gives
returns-clause-gives c =
    ap (λ (x : Labelled). x.labels) c.put.ensures.put
    ∙ labels_more c.args.self.now c.self.inside.header c.self.inside.labels c.give.new.self c.self.inside.moment c.self.inside.offsets c.self.inside.waits c.self.view_is c.args.label c.in_ok-give.ensures.given

pub returns-in_err-give-clause-gives : goal.returns-in_err-give-clause-gives
returns-in_err-give-clause-gives c =
    gives_not (commands.Socket c.args.label c.args.options) c.args.self.now.own.labels c.give.new.self.labels
    (labels_same c.args.self.now c.self.inside.header c.self.inside.labels c.give.new.self c.self.inside.moment c.self.inside.offsets c.self.inside.waits c.self.view_is c.in_err-give.ensures.err) c.from_residual.result c.from_residual.ensures.0
