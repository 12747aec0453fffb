use Rattle.std.proofs.Common.{refl, sym, subst}
use Rattle.std.proofs.lemmas.Result.{on_err_weaker}
use Rattle.flat_list.specs.declared.command.Reply.TheVariants as replies
use Rattle.table_model.specs.Commands.{plan}
use Rattle.section_machine.specs.Sections.{Kept}
use Rattle.section_machine.specs.Standing.{IsSection}
use Rattle.section_machine.proofs.Gives.{no_more}
use Rattle.section_machine.proofs.LeftOff.{made_none}
use Rattle.section_machine.proofs.Settled.{ends_at_once}
use Rattle.section_machine.proofs.Spent.{spends_none}
use Rattle.section_machine.proofs.machine.Machine.carry.Goals as goal

pub returns-in-Bind-clause-carried : goal.returns-in-Bind-clause-carried
unfolding plan
returns-in-Bind-clause-carried g c = rw c.in-Bind.is c.bind.ensures.carried

pub returns-in-Listen-clause-carried : goal.returns-in-Listen-clause-carried
unfolding plan
returns-in-Listen-clause-carried g c = rw c.in-Listen.is c.listen.ensures.carried

pub returns-in-Connect-clause-carried : goal.returns-in-Connect-clause-carried
unfolding plan
returns-in-Connect-clause-carried g c = rw c.in-Connect.is c.connect.ensures.carried

pub returns-in-Close-clause-carried : goal.returns-in-Close-clause-carried
unfolding plan
returns-in-Close-clause-carried g c = rw c.in-Close.is c.close.ensures.carried

pub returns-in-Reap-clause-carried : goal.returns-in-Reap-clause-carried
unfolding plan
returns-in-Reap-clause-carried g c = rw c.in-Reap.is c.reap.ensures.carried

pub returns-in-Drop-clause-carried : goal.returns-in-Drop-clause-carried
unfolding plan
returns-in-Drop-clause-carried g c = rw c.in-Drop.is c.drop_labelled.ensures.carried

pub returns-in-At-clause-carried : goal.returns-in-At-clause-carried
unfolding plan
returns-in-At-clause-carried g c = rw c.in-At.is c.at.ensures.carried

pub returns-in-Socket-clause-carried : goal.returns-in-Socket-clause-carried
unfolding plan
returns-in-Socket-clause-carried g c = rw c.in-Socket.is c.socket.ensures.carried

pub returns-in-Accept-clause-carried : goal.returns-in-Accept-clause-carried
unfolding plan
returns-in-Accept-clause-carried g c = rw c.in-Accept.is c.accept.ensures.carried

pub returns-in-Syn-clause-carried : goal.returns-in-Syn-clause-carried
unfolding plan
returns-in-Syn-clause-carried g c = rw c.in-Syn.is c.syn.ensures.carried

pub returns-in-Ack-clause-carried : goal.returns-in-Ack-clause-carried
unfolding plan
returns-in-Ack-clause-carried g c = rw c.in-Ack.is c.ack.ensures.carried

pub returns-in-Dump-clause-carried : goal.returns-in-Dump-clause-carried
unfolding plan
returns-in-Dump-clause-carried g c =
    rw c.in-Dump.is (ends_at_once c.args.tables.now c.args.self.now _ c.args.self.now c.args.worker.now replies.Ok refl c.requires.section)

pub returns-in-Dump-clause-spends : goal.returns-in-Dump-clause-spends
returns-in-Dump-clause-spends g c = spends_none c.args.self.now c.args.self.now c.args.worker.now refl

pub returns-in-At-clause-spends : goal.returns-in-At-clause-spends
returns-in-At-clause-spends g c = spends_none c.args.self.now c.at.new.self c.args.worker.now c.at.ensures.waits

pub returns-in-Socket-clause-spends : goal.returns-in-Socket-clause-spends
returns-in-Socket-clause-spends g c = spends_none c.args.self.now c.socket.new.self c.args.worker.now c.socket.ensures.waits

pub returns-in-Bind-clause-left : goal.returns-in-Bind-clause-left
returns-in-Bind-clause-left g c = rw c.in-Bind.is c.bind.ensures.left

pub returns-in-Listen-clause-left : goal.returns-in-Listen-clause-left
returns-in-Listen-clause-left g c = rw c.in-Listen.is c.listen.ensures.left

pub returns-in-Connect-clause-left : goal.returns-in-Connect-clause-left
returns-in-Connect-clause-left g c = rw c.in-Connect.is c.connect.ensures.left

pub returns-in-Accept-clause-left : goal.returns-in-Accept-clause-left
returns-in-Accept-clause-left g c = rw c.in-Accept.is c.accept.ensures.left

pub returns-in-Syn-clause-left : goal.returns-in-Syn-clause-left
returns-in-Syn-clause-left g c = rw c.in-Syn.is c.syn.ensures.left

pub returns-in-Ack-clause-left : goal.returns-in-Ack-clause-left
returns-in-Ack-clause-left g c = rw c.in-Ack.is c.ack.ensures.left

pub returns-in-Close-clause-left : goal.returns-in-Close-clause-left
returns-in-Close-clause-left g c = rw c.in-Close.is c.close.ensures.left

pub returns-in-Drop-clause-left : goal.returns-in-Drop-clause-left
returns-in-Drop-clause-left g c = rw c.in-Drop.is c.drop_labelled.ensures.left

pub returns-in-Reap-clause-left : goal.returns-in-Reap-clause-left
returns-in-Reap-clause-left g c = rw c.in-Reap.is c.reap.ensures.left

pub returns-in-Socket-clause-left : goal.returns-in-Socket-clause-left
returns-in-Socket-clause-left g c =
    rw c.in-Socket.is (on_err_weaker c.socket.result (λ same. made_none c.args.tables.now c.args.self.now c.socket.new.self _ _ c.args.worker.now same) c.socket.ensures.left)

pub returns-in-Bind-clause-gives : goal.returns-in-Bind-clause-gives
returns-in-Bind-clause-gives g c = rw c.in-Bind.is c.bind.ensures.gives

pub returns-in-Listen-clause-gives : goal.returns-in-Listen-clause-gives
returns-in-Listen-clause-gives g c = rw c.in-Listen.is c.listen.ensures.gives

pub returns-in-Connect-clause-gives : goal.returns-in-Connect-clause-gives
returns-in-Connect-clause-gives g c = rw c.in-Connect.is c.connect.ensures.gives

pub returns-in-Accept-clause-gives : goal.returns-in-Accept-clause-gives
returns-in-Accept-clause-gives g c = rw c.in-Accept.is c.accept.ensures.gives

pub returns-in-Syn-clause-gives : goal.returns-in-Syn-clause-gives
returns-in-Syn-clause-gives g c = rw c.in-Syn.is c.syn.ensures.gives

pub returns-in-Ack-clause-gives : goal.returns-in-Ack-clause-gives
returns-in-Ack-clause-gives g c = rw c.in-Ack.is c.ack.ensures.gives

pub returns-in-Close-clause-gives : goal.returns-in-Close-clause-gives
returns-in-Close-clause-gives g c = rw c.in-Close.is c.close.ensures.gives

pub returns-in-Drop-clause-gives : goal.returns-in-Drop-clause-gives
returns-in-Drop-clause-gives g c = rw c.in-Drop.is c.drop_labelled.ensures.gives

pub returns-in-Reap-clause-gives : goal.returns-in-Reap-clause-gives
returns-in-Reap-clause-gives g c = rw c.in-Reap.is c.reap.ensures.gives

pub returns-in-Socket-clause-gives : goal.returns-in-Socket-clause-gives
returns-in-Socket-clause-gives g c = rw c.in-Socket.is c.socket.ensures.gives

pub returns-in-At-clause-gives : goal.returns-in-At-clause-gives
returns-in-At-clause-gives g c = rw c.in-At.is (no_more _ _ c.at.ensures.labels)

pub returns-in-Dump-clause-gives : goal.returns-in-Dump-clause-gives
returns-in-Dump-clause-gives g c = rw c.in-Dump.is (no_more _ _ refl)

pub returns-in-Socket-clause-section : goal.returns-in-Socket-clause-section
returns-in-Socket-clause-section g c =
    on_err_weaker c.socket.result (λ same. subst (λ (k : Kept). IsSection c.args.tables.now k c.args.worker.now) (sym same) c.requires.section) c.socket.ensures.left
