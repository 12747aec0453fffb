use Rattle.flat_list.specs.declared.command.Command.TheVariants as commands
use Rattle.flat_list.specs.Step.{step}
use Rattle.flat_list.proofs.LabelsGrow.{from_done, from_step}
use Rattle.flat_list.proofs.flat.Flat.apply.Goals as goal

pub returns-in-Socket-clause-labels : goal.returns-in-Socket-clause-labels
unfolding step
returns-in-Socket-clause-labels c =
    (from_step _ _ c.args.section (commands.Socket c.in-Socket.label c.in-Socket.options) _ c.socket.ensures.step c.socket.ensures.err).labels

pub returns-in-Socket-clause-others : goal.returns-in-Socket-clause-others
unfolding step
returns-in-Socket-clause-others c =
    (from_step _ _ c.args.section (commands.Socket c.in-Socket.label c.in-Socket.options) _ c.socket.ensures.step c.socket.ensures.err).others

pub returns-in-Accept-clause-labels : goal.returns-in-Accept-clause-labels
unfolding step
returns-in-Accept-clause-labels c =
    (from_step _ _ c.args.section (commands.Accept c.in-Accept.listener c.in-Accept.label c.in-Accept.from c.in-Accept.at) _ c.accept.ensures.step c.accept.ensures.err).labels

pub returns-in-Accept-clause-others : goal.returns-in-Accept-clause-others
unfolding step
returns-in-Accept-clause-others c =
    (from_step _ _ c.args.section (commands.Accept c.in-Accept.listener c.in-Accept.label c.in-Accept.from c.in-Accept.at) _ c.accept.ensures.step c.accept.ensures.err).others

pub returns-in-Syn-clause-labels : goal.returns-in-Syn-clause-labels
unfolding step
returns-in-Syn-clause-labels c =
    (from_step _ _ c.args.section (commands.Syn c.in-Syn.listener c.in-Syn.label c.in-Syn.from c.in-Syn.at) _ c.syn.ensures.step c.syn.ensures.err).labels

pub returns-in-Syn-clause-others : goal.returns-in-Syn-clause-others
unfolding step
returns-in-Syn-clause-others c =
    (from_step _ _ c.args.section (commands.Syn c.in-Syn.listener c.in-Syn.label c.in-Syn.from c.in-Syn.at) _ c.syn.ensures.step c.syn.ensures.err).others

pub returns-in-Ack-clause-labels : goal.returns-in-Ack-clause-labels
unfolding step
returns-in-Ack-clause-labels c =
    (from_step _ _ c.args.section (commands.Ack c.in-Ack.request c.in-Ack.label) _ c.ack.ensures.step c.ack.ensures.err).labels

pub returns-in-Ack-clause-others : goal.returns-in-Ack-clause-others
unfolding step
returns-in-Ack-clause-others c =
    (from_step _ _ c.args.section (commands.Ack c.in-Ack.request c.in-Ack.label) _ c.ack.ensures.step c.ack.ensures.err).others

pub returns-in-Bind-clause-labels : goal.returns-in-Bind-clause-labels
unfolding step
returns-in-Bind-clause-labels c =
    (from_done _ _ c.args.section (commands.Bind c.in-Bind.label c.in-Bind.end) _ c.bind.ensures).labels

pub returns-in-Bind-clause-others : goal.returns-in-Bind-clause-others
unfolding step
returns-in-Bind-clause-others c =
    (from_done _ _ c.args.section (commands.Bind c.in-Bind.label c.in-Bind.end) _ c.bind.ensures).others

pub returns-in-Listen-clause-labels : goal.returns-in-Listen-clause-labels
unfolding step
returns-in-Listen-clause-labels c =
    (from_step _ _ c.args.section (commands.Listen c.in-Listen.label) _ c.listen.ensures.step c.listen.ensures.err).labels

pub returns-in-Listen-clause-others : goal.returns-in-Listen-clause-others
unfolding step
returns-in-Listen-clause-others c =
    (from_step _ _ c.args.section (commands.Listen c.in-Listen.label) _ c.listen.ensures.step c.listen.ensures.err).others

pub returns-in-Connect-clause-labels : goal.returns-in-Connect-clause-labels
unfolding step
returns-in-Connect-clause-labels c =
    (from_done _ _ c.args.section (commands.Connect c.in-Connect.label c.in-Connect.from c.in-Connect.to) _ c.connect.ensures).labels

pub returns-in-Connect-clause-others : goal.returns-in-Connect-clause-others
unfolding step
returns-in-Connect-clause-others c =
    (from_done _ _ c.args.section (commands.Connect c.in-Connect.label c.in-Connect.from c.in-Connect.to) _ c.connect.ensures).others

pub returns-in-Drop-clause-labels : goal.returns-in-Drop-clause-labels
unfolding step
returns-in-Drop-clause-labels c =
    (from_done _ _ c.args.section (commands.Drop c.in-Drop.label) _ c.drop_socket.ensures).labels

pub returns-in-Drop-clause-others : goal.returns-in-Drop-clause-others
unfolding step
returns-in-Drop-clause-others c =
    (from_done _ _ c.args.section (commands.Drop c.in-Drop.label) _ c.drop_socket.ensures).others

pub returns-in-Close-clause-labels : goal.returns-in-Close-clause-labels
unfolding step
returns-in-Close-clause-labels c =
    (from_done _ _ c.args.section (commands.Close c.in-Close.label) _ c.close.ensures).labels

pub returns-in-Close-clause-others : goal.returns-in-Close-clause-others
unfolding step
returns-in-Close-clause-others c =
    (from_done _ _ c.args.section (commands.Close c.in-Close.label) _ c.close.ensures).others

pub returns-in-At-clause-labels : goal.returns-in-At-clause-labels
unfolding step
returns-in-At-clause-labels c =
    (from_step _ _ c.args.section (commands.At c.in-At.moment) _ c.at.ensures.step c.at.ensures.err).labels

pub returns-in-At-clause-others : goal.returns-in-At-clause-others
unfolding step
returns-in-At-clause-others c =
    (from_step _ _ c.args.section (commands.At c.in-At.moment) _ c.at.ensures.step c.at.ensures.err).others

pub returns-in-Reap-clause-labels : goal.returns-in-Reap-clause-labels
unfolding step
returns-in-Reap-clause-labels c =
    (from_done _ _ c.args.section commands.Reap _ c.reap.ensures).labels

pub returns-in-Reap-clause-others : goal.returns-in-Reap-clause-others
unfolding step
returns-in-Reap-clause-others c =
    (from_done _ _ c.args.section commands.Reap _ c.reap.ensures).others
