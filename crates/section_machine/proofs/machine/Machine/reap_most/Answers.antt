use Rattle.std.proofs.Common.{sym, ap, refl}
use Rattle.section_machine.specs.Places.{own_of}
use Rattle.section_machine.specs.Sections.{Kept, kept}
use Rattle.section_machine.proofs.Reaped.{reap_spends}
use Rattle.section_machine.proofs.ReapsMost.{reaps_most, section_most, left_most}
use Rattle.section_machine.proofs.machine.Machine.reap_most.Goals as goal

pub returns-clause-section : goal.returns-clause-section
returns-clause-section g c =
    section_most c.args.tables.now c.args.self.now c.self.inside.header c.self.inside.labels c.self.inside.moment c.self.inside.offsets c.self.inside.waits c.reap_most.new.self c.args.worker.now c.reap_most.new.worker c.self.view_is c.requires.section
    c.reap_most.ensures.ready c.reap_most.ensures.caller c.args.most c.reap_most.result c.reap_most.ensures.reaps c.reap_most.ensures.stops

pub returns-clause-reaps : goal.returns-clause-reaps
returns-clause-reaps g c =
    reaps_most c.args.tables.now c.args.self.now c.self.inside.header c.self.inside.labels c.self.inside.moment c.self.inside.offsets c.self.inside.waits c.reap_most.new.self c.args.worker.now c.reap_most.new.worker c.self.view_is c.requires.section
    c.reap_most.ensures.ready c.reap_most.ensures.caller c.args.most c.reap_most.result c.reap_most.ensures.reaps

pub returns-clause-left : goal.returns-clause-left
returns-clause-left g c =
    left_most c.args.tables.now c.args.self.now c.self.inside.header c.self.inside.labels c.self.inside.moment c.self.inside.offsets c.self.inside.waits c.reap_most.new.self c.args.worker.now c.reap_most.new.worker c.self.view_is c.requires.section
    c.reap_most.ensures.ready c.reap_most.ensures.caller c.args.most c.reap_most.result c.reap_most.ensures.stops

pub returns-clause-spends : goal.returns-clause-spends
returns-clause-spends g c =
    reap_spends c.args.self.now (kept c.self.inside.header (own_of c.self.inside.labels c.self.inside.moment c.self.inside.offsets c.reap_most.new.self)) c.args.worker.now c.reap_most.new.worker c.self.inside.waits c.reap_most.new.self
    (ap (λ (k : Kept). k.own.waits) (sym c.self.view_is)) refl c.reap_most.ensures.entered c.reap_most.ensures.drawn
