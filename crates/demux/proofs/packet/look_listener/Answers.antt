use Rattle.std.proofs.Common.{ap, ◌∙◌, refl, subst, sym}
use Rattle.chain_book.specs.Homes.{packet_hash}
use Rattle.chain_book.specs.declared.book.PacketAnswer.TheVariants as answers
use Rattle.chain_book.specs.declared.book.PassEnd.{PassEnd}
use Rattle.null_reader.specs.declared.answers.LookEnd.{LookEnd}
use Rattle.reuseport_group.specs.Passes.{groups}
use Rattle.demux.proofs.Follows.{laid_as, listener_later, listener_follows, listener_stays, then_none, alone_before, sole_before, known_before}
use Rattle.demux.proofs.packet.look_listener.Goals as goal
use Rattle.demux.specs.Concludes.{AfterListener, whole_to}
use Rattle.listeners.specs.Finds.{FindsListener}
use Rattle.table_rule.specs.Calls.{view, me, layout_of}

pub finish-requires-clause-follows : goal.finish-requires-clause-follows
finish-requires-clause-follows g c = listener_follows (layout_of c.args.tables.now.chains.now).shape.slots (groups c.args.tables.now.groups.now) c.args.tables.now.layout c.args.packet.now (packet_hash c.args.packet.now c.args.tables.now.layout.seed) c.args.from c.find-end.result.t0 (me c.args.steps.now) (me c.find-end.new.steps) (me c.by_group-card.new.steps) c.in-Found.held c.in-Found.best c.by_group-card.result c.args.group_passes.now c.by_group-card.new.group_passes (subst (λ (e : LookEnd). FindsListener c.args.tables.now.layout c.args.packet.now (me c.args.steps.now) e c.find-end.result.t0 (me c.find-end.new.steps)) c.in-Found.is c.find-end.ensures.finds) c.by_group-card.ensures.chosen (me c.put_best.new.steps) c.put_best.ensures.put (laid_as c.args.tables.now.layout (view c.put_best.new.steps).layout c.args.tables.now.chains.now c.requires.layout c.put_best.ensures.table.1) c.requires.low c.find-end.ensures.fresh c.requires.cleared

pub finish-requires-in-None-clause-follows : goal.finish-requires-in-None-clause-follows
finish-requires-in-None-clause-follows g c = then_none c.args.tables.now.layout c.args.packet.now c.args.from c.find-end.result.t0 (me c.args.steps.now) (me c.find-end.new.steps) c.requires.low c.find-end.ensures.fresh c.requires.cleared (laid_as c.args.tables.now.layout (view c.find-end.new.steps).layout c.args.tables.now.chains.now c.requires.layout c.find-end.ensures.table.1) (subst (λ (e : LookEnd). FindsListener c.args.tables.now.layout c.args.packet.now (me c.args.steps.now) e c.find-end.result.t0 (me c.find-end.new.steps)) c.in-None.is c.find-end.ensures.finds)

pub returns-in-Found-clause-concluded : goal.returns-in-Found-clause-concluded
returns-in-Found-clause-concluded g c = ((me c.put_best.new.steps), (listener_stays (layout_of c.args.tables.now.chains.now).shape.slots (groups c.args.tables.now.groups.now) c.args.tables.now.layout c.args.packet.now (packet_hash c.args.packet.now c.args.tables.now.layout.seed) c.args.from c.find-end.result.t0 (me c.args.steps.now) (me c.find-end.new.steps) (me c.by_group-card.new.steps) c.in-Found.held c.in-Found.best c.by_group-card.result c.args.group_passes.now c.by_group-card.new.group_passes (subst (λ (e : LookEnd). FindsListener c.args.tables.now.layout c.args.packet.now (me c.args.steps.now) e c.find-end.result.t0 (me c.find-end.new.steps)) c.in-Found.is c.find-end.ensures.finds) c.by_group-card.ensures.chosen (me c.put_best.new.steps) c.put_best.ensures.put), c.finish.ensures.view)

pub returns-in-Found-clause-order : goal.returns-in-Found-clause-order
returns-in-Found-clause-order g c = (c.find-end.result.end, c.find-end.result.t0, c.find-end.result.t1, (me c.find-end.new.steps), c.find-end.ensures.order, subst (λ (e : LookEnd). AfterListener (layout_of c.args.tables.now.chains.now).shape.slots (groups c.args.tables.now.groups.now) c.args.tables.now.layout.seed c.args.packet.now (me c.find-end.new.steps) c.args.group_passes.now e c.finish.result.end c.by_group-card.new.group_passes (whole_to c.args.packet.now c.args.tables.now.layout.seed c.args.from c.finish.result.t1 c.finish.result.end) (me c.finish.new.steps)) (sym c.in-Found.is) (c.by_group-card.result, (me c.by_group-card.new.steps), (me c.put_best.new.steps), c.finish.ensures.answer.0, c.by_group-card.ensures.chosen, c.put_best.ensures.put, c.finish.ensures.view, c.finish.ensures.seen), listener_later c.args.tables.now.layout c.args.packet.now (me c.args.steps.now) (me c.find-end.new.steps) c.find-end.result.end c.find-end.result.t0 c.find-end.ensures.finds, c.find-end.ensures.fresh)

pub returns-in-None-clause-order : goal.returns-in-None-clause-order
returns-in-None-clause-order g c = (c.find-end.result.end, c.find-end.result.t0, c.find-end.result.t1, (me c.find-end.new.steps), c.find-end.ensures.order, subst (λ (e : LookEnd). AfterListener (layout_of c.args.tables.now.chains.now).shape.slots (groups c.args.tables.now.groups.now) c.args.tables.now.layout.seed c.args.packet.now (me c.find-end.new.steps) c.args.group_passes.now e c.finish-in-None.result.end c.args.group_passes.now (whole_to c.args.packet.now c.args.tables.now.layout.seed c.args.from c.finish-in-None.result.t1 c.finish-in-None.result.end) (me c.finish-in-None.new.steps)) (sym c.in-None.is) (c.finish-in-None.ensures.answer.0, refl, c.finish-in-None.ensures.view, c.finish-in-None.ensures.seen), listener_later c.args.tables.now.layout c.args.packet.now (me c.args.steps.now) (me c.find-end.new.steps) c.find-end.result.end c.find-end.result.t0 c.find-end.ensures.finds, c.find-end.ensures.fresh)

pub returns-in-Again-clause-order : goal.returns-in-Again-clause-order
returns-in-Again-clause-order g c = (c.find-end.result.end, c.find-end.result.t0, c.find-end.result.t1, (me c.find-end.new.steps), c.find-end.ensures.order, subst (λ (e : LookEnd). AfterListener (layout_of c.args.tables.now.chains.now).shape.slots (groups c.args.tables.now.groups.now) c.args.tables.now.layout.seed c.args.packet.now (me c.find-end.new.steps) c.args.group_passes.now e c.finish-in-Again.result.end c.args.group_passes.now (whole_to c.args.packet.now c.args.tables.now.layout.seed c.args.from c.finish-in-Again.result.t1 c.finish-in-Again.result.end) (me c.finish-in-Again.new.steps)) (sym c.in-Again.is) (c.finish-in-Again.ensures.answer.0 ∙ ap (λ (s : PassEnd). answers.Again c.in-Again.bucket s) c.book_end-stop.ensures, refl, c.finish-in-Again.ensures.view, c.finish-in-Again.ensures.seen), listener_later c.args.tables.now.layout c.args.packet.now (me c.args.steps.now) (me c.find-end.new.steps) c.find-end.result.end c.find-end.result.t0 c.find-end.ensures.finds, c.find-end.ensures.fresh)

pub returns-in-Found-clause-sole : goal.returns-in-Found-clause-sole
returns-in-Found-clause-sole g c = λ alone. sole_before (me c.args.steps.now) (me c.put_best.new.steps) (listener_stays (layout_of c.args.tables.now.chains.now).shape.slots (groups c.args.tables.now.groups.now) c.args.tables.now.layout c.args.packet.now (packet_hash c.args.packet.now c.args.tables.now.layout.seed) c.args.from c.find-end.result.t0 (me c.args.steps.now) (me c.find-end.new.steps) (me c.by_group-card.new.steps) c.in-Found.held c.in-Found.best c.by_group-card.result c.args.group_passes.now c.by_group-card.new.group_passes (subst (λ (e : LookEnd). FindsListener c.args.tables.now.layout c.args.packet.now (me c.args.steps.now) e c.find-end.result.t0 (me c.find-end.new.steps)) c.in-Found.is c.find-end.ensures.finds) c.by_group-card.ensures.chosen (me c.put_best.new.steps) c.put_best.ensures.put) (whole_to c.args.packet.now c.args.tables.now.layout.seed c.args.from c.finish.result.t1 c.finish.result.end) (c.finish.ensures.sole (alone_before (me c.args.steps.now) (me c.put_best.new.steps) (listener_stays (layout_of c.args.tables.now.chains.now).shape.slots (groups c.args.tables.now.groups.now) c.args.tables.now.layout c.args.packet.now (packet_hash c.args.packet.now c.args.tables.now.layout.seed) c.args.from c.find-end.result.t0 (me c.args.steps.now) (me c.find-end.new.steps) (me c.by_group-card.new.steps) c.in-Found.held c.in-Found.best c.by_group-card.result c.args.group_passes.now c.by_group-card.new.group_passes (subst (λ (e : LookEnd). FindsListener c.args.tables.now.layout c.args.packet.now (me c.args.steps.now) e c.find-end.result.t0 (me c.find-end.new.steps)) c.in-Found.is c.find-end.ensures.finds) c.by_group-card.ensures.chosen (me c.put_best.new.steps) c.put_best.ensures.put) c.args.from alone))

pub returns-in-None-clause-sole : goal.returns-in-None-clause-sole
returns-in-None-clause-sole g c = λ alone. sole_before (me c.args.steps.now) (me c.find-end.new.steps) (subst (λ (e : LookEnd). FindsListener c.args.tables.now.layout c.args.packet.now (me c.args.steps.now) e c.find-end.result.t0 (me c.find-end.new.steps)) c.in-None.is c.find-end.ensures.finds).0 (whole_to c.args.packet.now c.args.tables.now.layout.seed c.args.from c.finish-in-None.result.t1 c.finish-in-None.result.end) (c.finish-in-None.ensures.sole (alone_before (me c.args.steps.now) (me c.find-end.new.steps) (subst (λ (e : LookEnd). FindsListener c.args.tables.now.layout c.args.packet.now (me c.args.steps.now) e c.find-end.result.t0 (me c.find-end.new.steps)) c.in-None.is c.find-end.ensures.finds).0 c.args.from alone))

pub returns-in-Found-clause-known : goal.returns-in-Found-clause-known
returns-in-Found-clause-known g c = known_before (me c.args.steps.now) (me c.put_best.new.steps) (listener_stays (layout_of c.args.tables.now.chains.now).shape.slots (groups c.args.tables.now.groups.now) c.args.tables.now.layout c.args.packet.now (packet_hash c.args.packet.now c.args.tables.now.layout.seed) c.args.from c.find-end.result.t0 (me c.args.steps.now) (me c.find-end.new.steps) (me c.by_group-card.new.steps) c.in-Found.held c.in-Found.best c.by_group-card.result c.args.group_passes.now c.by_group-card.new.group_passes (subst (λ (e : LookEnd). FindsListener c.args.tables.now.layout c.args.packet.now (me c.args.steps.now) e c.find-end.result.t0 (me c.find-end.new.steps)) c.in-Found.is c.find-end.ensures.finds) c.by_group-card.ensures.chosen (me c.put_best.new.steps) c.put_best.ensures.put) (whole_to c.args.packet.now c.args.tables.now.layout.seed c.args.from c.finish.result.t1 c.finish.result.end) c.finish.ensures.known
