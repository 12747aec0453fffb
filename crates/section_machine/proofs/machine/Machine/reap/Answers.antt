use Rattle.std.proofs.Common.{sym, ap, refl}
use Rattle.flat_list.specs.declared.command.Command.TheVariants as commands
use Rattle.section_machine.specs.Places.{own_of}
use Rattle.section_machine.specs.Sections.{Kept, kept}
use Rattle.section_machine.proofs.Gives.{gives_none, no_more}
use Rattle.section_machine.proofs.LeftOff.{reap_left}
use Rattle.section_machine.proofs.Settled.{on_err}
use Rattle.section_machine.proofs.Reaped.{reap_spends, reaped_so, stopped_so}
use Rattle.section_machine.proofs.machine.Machine.reap.Goals as goal

pub returns-clause-carried : goal.returns-clause-carried
returns-clause-carried g c =
    reaped_so c.args.tables.now c.args.self.now c.self.inside.header c.self.inside.labels c.self.inside.moment c.self.inside.offsets c.self.inside.waits c.reap.new.self c.args.worker.now c.reap.new.worker c.self.view_is c.requires.section
    c.reap.ensures.ready c.reap.ensures.caller c.in_ok-count.count c.in_ok-count.ensures.reaps c.in_ok-count.ensures.kept

pub returns-clause-spends : goal.returns-clause-spends
returns-clause-spends g c =
    reap_spends c.args.self.now (kept c.self.inside.header (own_of c.self.inside.labels c.self.inside.moment c.self.inside.offsets c.reap.new.self)) c.args.worker.now c.reap.new.worker c.self.inside.waits c.reap.new.self
    (ap (λ (k : Kept). k.own.waits) (sym c.self.view_is)) refl c.reap.ensures.entered c.reap.ensures.drawn

pub returns-in_err-count-clause-spends : goal.returns-in_err-count-clause-spends
returns-in_err-count-clause-spends g c =
    reap_spends c.args.self.now (kept c.self.inside.header (own_of c.self.inside.labels c.self.inside.moment c.self.inside.offsets c.reap.new.self)) c.args.worker.now c.reap.new.worker c.self.inside.waits c.reap.new.self
    (ap (λ (k : Kept). k.own.waits) (sym c.self.view_is)) refl c.reap.ensures.entered c.reap.ensures.drawn

pub returns-in_err-count-clause-left : goal.returns-in_err-count-clause-left
returns-in_err-count-clause-left g c =
    on_err c.from_residual.result
    (reap_left c.args.tables.now c.self.inside.header c.self.inside.labels c.self.inside.moment c.self.inside.offsets c.self.inside.waits c.reap.new.self c.args.worker.now c.reap.new.worker c.args.self.now c.self.view_is c.requires.section.tables c.in_err-count.ensures.stops)

pub returns-in_err-count-clause-section : goal.returns-in_err-count-clause-section
returns-in_err-count-clause-section g c =
    on_err c.from_residual.result
    (stopped_so c.args.tables.now c.args.self.now c.self.inside.header c.self.inside.labels c.self.inside.moment c.self.inside.offsets c.self.inside.waits c.reap.new.self c.args.worker.now c.reap.new.worker c.self.view_is c.requires.section
    c.reap.ensures.ready c.reap.ensures.caller c.in_err-count.ensures.stops)

pub returns-clause-gives : goal.returns-clause-gives
returns-clause-gives g c = no_more _ _ (ap (λ (k : Kept). k.own.labels) c.self.view_is)

pub returns-in_err-count-clause-gives : goal.returns-in_err-count-clause-gives
returns-in_err-count-clause-gives g c =
    gives_none commands.Reap c.args.self.now.own.labels c.self.inside.labels.labels refl (ap (λ (k : Kept). k.own.labels) c.self.view_is) c.from_residual.result
