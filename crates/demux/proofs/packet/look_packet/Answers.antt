use Rattle.std.proofs.Common.{rules, ap, ◌∙◌, ℕ, refl, subst, sym}
use Rattle.chain_book.specs.declared.book.PacketAnswer.TheVariants as answers
use Rattle.chain_book.specs.declared.book.PassEnd.{PassEnd}
use Rattle.null_reader.specs.declared.answers.LookEnd.{LookEnd}
use Rattle.reuseport_group.specs.Passes.{groups}
use Rattle.demux.proofs.Follows.{full_follows, full_later, full_stays, alone_before, sole_before, concluded_on}
use Rattle.demux.proofs.packet.look_packet.Goals as goal
use Rattle.demux.specs.Concludes.{AfterFull, ByOrder, Concluded, whole_to}
use Rattle.established.specs.Finds.{FindsFull}
use Rattle.table_rule.specs.Alone.{IsAlone, IsSoleWhole}
use Rattle.table_rule.specs.Calls.{view, me, layout_of}

pub returns-in-Found-clause-concluded : goal.returns-in-Found-clause-concluded
returns-in-Found-clause-concluded g c = subst (λ (k : ℕ). Concluded (me c.args.steps.now) (whole_to c.args.packet.now c.args.tables.now.layout.seed k c.finish.result.t1 c.finish.result.end) (me c.finish.new.steps)) (sym c.finish.ensures.answer.1) ((me c.put_best.new.steps), (full_stays c.args.tables.now.layout c.args.packet.now c.find-end.result.t0 (me c.args.steps.now) (me c.find-end.new.steps) c.in-Found.held c.in-Found.card (subst (λ (e : LookEnd). FindsFull c.args.tables.now.layout c.args.packet.now (me c.args.steps.now) e c.find-end.result.t0 (me c.find-end.new.steps)) c.in-Found.is c.find-end.ensures.finds) (me c.put_best.new.steps) c.put_best.ensures.put), c.finish.ensures.view)

pub returns-in-None-clause-concluded : goal.returns-in-None-clause-concluded
returns-in-None-clause-concluded g c = subst (λ (k : ℕ). Concluded (me c.args.steps.now) (whole_to c.args.packet.now c.args.tables.now.layout.seed k c.look_listener.result.t1 c.look_listener.result.end) (me c.look_listener.new.steps)) (sym c.look_listener.ensures.from) (concluded_on (me c.args.steps.now) (me c.find-end.new.steps) (me c.look_listener.new.steps) (whole_to c.args.packet.now c.args.tables.now.layout.seed c.find-end.result.t0 c.look_listener.result.t1 c.look_listener.result.end) (subst (λ (e : LookEnd). FindsFull c.args.tables.now.layout c.args.packet.now (me c.args.steps.now) e c.find-end.result.t0 (me c.find-end.new.steps)) c.in-None.is c.find-end.ensures.finds).0 c.look_listener.ensures.concluded)

pub returns-in-Again-clause-concluded : goal.returns-in-Again-clause-concluded
returns-in-Again-clause-concluded g c = subst (λ (k : ℕ). Concluded (me c.args.steps.now) (whole_to c.args.packet.now c.args.tables.now.layout.seed k c.finish-in-Again.result.t1 c.finish-in-Again.result.end) (me c.finish-in-Again.new.steps)) (sym c.finish-in-Again.ensures.answer.1) ((me c.find-end.new.steps), (subst (λ (e : LookEnd). FindsFull c.args.tables.now.layout c.args.packet.now (me c.args.steps.now) e c.find-end.result.t0 (me c.find-end.new.steps)) c.in-Again.is c.find-end.ensures.finds).0, c.finish-in-Again.ensures.view)

pub returns-in-Found-clause-order : goal.returns-in-Found-clause-order
returns-in-Found-clause-order g c = subst (λ (k : ℕ). ByOrder (layout_of c.args.tables.now.chains.now).shape.slots (groups c.args.tables.now.groups.now) c.args.tables.now.layout c.args.packet.now c.args.passes (me c.args.steps.now) c.args.group_passes.now c.finish.result.end c.args.group_passes.now k (whole_to c.args.packet.now c.args.tables.now.layout.seed k c.finish.result.t1 c.finish.result.end) (me c.finish.new.steps)) (sym c.finish.ensures.answer.1) (c.find-end.result.end, c.find-end.result.t1, (me c.find-end.new.steps), c.find-end.ensures.looked, subst (λ (e : LookEnd). AfterFull (layout_of c.args.tables.now.chains.now).shape.slots (groups c.args.tables.now.groups.now) c.args.tables.now.layout c.args.packet.now c.args.passes (me c.find-end.new.steps) c.args.group_passes.now e c.finish.result.end c.args.group_passes.now (whole_to c.args.packet.now c.args.tables.now.layout.seed c.find-end.result.t0 c.finish.result.t1 c.finish.result.end) (me c.finish.new.steps)) (sym c.in-Found.is) ((me c.put_best.new.steps), c.finish.ensures.answer.0, refl, c.put_best.ensures.put, c.finish.ensures.view, c.finish.ensures.seen), full_later c.args.tables.now.layout c.args.packet.now (me c.args.steps.now) (me c.find-end.new.steps) c.find-end.result.end c.find-end.result.t0 c.find-end.ensures.finds, c.find-end.ensures.span)

pub returns-in-None-clause-order : goal.returns-in-None-clause-order
returns-in-None-clause-order g c = subst (λ (k : ℕ). ByOrder (layout_of c.args.tables.now.chains.now).shape.slots (groups c.args.tables.now.groups.now) c.args.tables.now.layout c.args.packet.now c.args.passes (me c.args.steps.now) c.args.group_passes.now c.look_listener.result.end c.look_listener.new.group_passes k (whole_to c.args.packet.now c.args.tables.now.layout.seed k c.look_listener.result.t1 c.look_listener.result.end) (me c.look_listener.new.steps)) (sym c.look_listener.ensures.from) (c.find-end.result.end, c.find-end.result.t1, (me c.find-end.new.steps), c.find-end.ensures.looked, subst (λ (e : LookEnd). AfterFull (layout_of c.args.tables.now.chains.now).shape.slots (groups c.args.tables.now.groups.now) c.args.tables.now.layout c.args.packet.now c.args.passes (me c.find-end.new.steps) c.args.group_passes.now e c.look_listener.result.end c.look_listener.new.group_passes (whole_to c.args.packet.now c.args.tables.now.layout.seed c.find-end.result.t0 c.look_listener.result.t1 c.look_listener.result.end) (me c.look_listener.new.steps)) (sym c.in-None.is) c.look_listener.ensures.order, full_later c.args.tables.now.layout c.args.packet.now (me c.args.steps.now) (me c.find-end.new.steps) c.find-end.result.end c.find-end.result.t0 c.find-end.ensures.finds, c.find-end.ensures.span)

pub returns-in-Again-clause-order : goal.returns-in-Again-clause-order
returns-in-Again-clause-order g c = subst (λ (k : ℕ). ByOrder (layout_of c.args.tables.now.chains.now).shape.slots (groups c.args.tables.now.groups.now) c.args.tables.now.layout c.args.packet.now c.args.passes (me c.args.steps.now) c.args.group_passes.now c.finish-in-Again.result.end c.args.group_passes.now k (whole_to c.args.packet.now c.args.tables.now.layout.seed k c.finish-in-Again.result.t1 c.finish-in-Again.result.end) (me c.finish-in-Again.new.steps)) (sym c.finish-in-Again.ensures.answer.1) (c.find-end.result.end, c.find-end.result.t1, (me c.find-end.new.steps), c.find-end.ensures.looked, subst (λ (e : LookEnd). AfterFull (layout_of c.args.tables.now.chains.now).shape.slots (groups c.args.tables.now.groups.now) c.args.tables.now.layout c.args.packet.now c.args.passes (me c.find-end.new.steps) c.args.group_passes.now e c.finish-in-Again.result.end c.args.group_passes.now (whole_to c.args.packet.now c.args.tables.now.layout.seed c.find-end.result.t0 c.finish-in-Again.result.t1 c.finish-in-Again.result.end) (me c.finish-in-Again.new.steps)) (sym c.in-Again.is) (c.finish-in-Again.ensures.answer.0 ∙ ap (λ (s : PassEnd). answers.Again c.in-Again.bucket s) c.book_end-stop.ensures, refl, c.finish-in-Again.ensures.view, c.finish-in-Again.ensures.seen), full_later c.args.tables.now.layout c.args.packet.now (me c.args.steps.now) (me c.find-end.new.steps) c.find-end.result.end c.find-end.result.t0 c.find-end.ensures.finds, c.find-end.ensures.span)

pub returns-in-Found-clause-sole : goal.returns-in-Found-clause-sole
returns-in-Found-clause-sole g c = λ w. let alone : IsAlone (view c.args.steps.now) c.find-end.result.t0 = (record { parts = w.0; closed = w.1; before = c.find-end.ensures.before }) in subst (λ (k : ℕ). IsSoleWhole (view c.args.steps.now) (whole_to c.args.packet.now c.args.tables.now.layout.seed k c.finish.result.t1 c.finish.result.end)) (sym c.finish.ensures.answer.1) (sole_before (me c.args.steps.now) (me c.put_best.new.steps) (full_stays c.args.tables.now.layout c.args.packet.now c.find-end.result.t0 (me c.args.steps.now) (me c.find-end.new.steps) c.in-Found.held c.in-Found.card (subst (λ (e : LookEnd). FindsFull c.args.tables.now.layout c.args.packet.now (me c.args.steps.now) e c.find-end.result.t0 (me c.find-end.new.steps)) c.in-Found.is c.find-end.ensures.finds) (me c.put_best.new.steps) c.put_best.ensures.put) (whole_to c.args.packet.now c.args.tables.now.layout.seed c.find-end.result.t0 c.finish.result.t1 c.finish.result.end) (c.finish.ensures.sole (alone_before (me c.args.steps.now) (me c.put_best.new.steps) (full_stays c.args.tables.now.layout c.args.packet.now c.find-end.result.t0 (me c.args.steps.now) (me c.find-end.new.steps) c.in-Found.held c.in-Found.card (subst (λ (e : LookEnd). FindsFull c.args.tables.now.layout c.args.packet.now (me c.args.steps.now) e c.find-end.result.t0 (me c.find-end.new.steps)) c.in-Found.is c.find-end.ensures.finds) (me c.put_best.new.steps) c.put_best.ensures.put) c.find-end.result.t0 alone)))

pub returns-in-None-clause-sole : goal.returns-in-None-clause-sole
returns-in-None-clause-sole g c = λ w. let alone : IsAlone (view c.args.steps.now) c.find-end.result.t0 = (record { parts = w.0; closed = w.1; before = c.find-end.ensures.before }) in subst (λ (k : ℕ). IsSoleWhole (view c.args.steps.now) (whole_to c.args.packet.now c.args.tables.now.layout.seed k c.look_listener.result.t1 c.look_listener.result.end)) (sym c.look_listener.ensures.from) (sole_before (me c.args.steps.now) (me c.find-end.new.steps) (subst (λ (e : LookEnd). FindsFull c.args.tables.now.layout c.args.packet.now (me c.args.steps.now) e c.find-end.result.t0 (me c.find-end.new.steps)) c.in-None.is c.find-end.ensures.finds).0 (whole_to c.args.packet.now c.args.tables.now.layout.seed c.find-end.result.t0 c.look_listener.result.t1 c.look_listener.result.end) (c.look_listener.ensures.sole (alone_before (me c.args.steps.now) (me c.find-end.new.steps) (subst (λ (e : LookEnd). FindsFull c.args.tables.now.layout c.args.packet.now (me c.args.steps.now) e c.find-end.result.t0 (me c.find-end.new.steps)) c.in-None.is c.find-end.ensures.finds).0 c.find-end.result.t0 alone)))

pub returns-in-Again-clause-sole : goal.returns-in-Again-clause-sole
returns-in-Again-clause-sole g c = λ w. let alone : IsAlone (view c.args.steps.now) c.find-end.result.t0 = (record { parts = w.0; closed = w.1; before = c.find-end.ensures.before }) in subst (λ (k : ℕ). IsSoleWhole (view c.args.steps.now) (whole_to c.args.packet.now c.args.tables.now.layout.seed k c.finish-in-Again.result.t1 c.finish-in-Again.result.end)) (sym c.finish-in-Again.ensures.answer.1) (sole_before (me c.args.steps.now) (me c.find-end.new.steps) (subst (λ (e : LookEnd). FindsFull c.args.tables.now.layout c.args.packet.now (me c.args.steps.now) e c.find-end.result.t0 (me c.find-end.new.steps)) c.in-Again.is c.find-end.ensures.finds).0 (whole_to c.args.packet.now c.args.tables.now.layout.seed c.find-end.result.t0 c.finish-in-Again.result.t1 c.finish-in-Again.result.end) (c.finish-in-Again.ensures.sole (alone_before (me c.args.steps.now) (me c.find-end.new.steps) (subst (λ (e : LookEnd). FindsFull c.args.tables.now.layout c.args.packet.now (me c.args.steps.now) e c.find-end.result.t0 (me c.find-end.new.steps)) c.in-Again.is c.find-end.ensures.finds).0 c.find-end.result.t0 alone)))

pub finish-requires-clause-follows : goal.finish-requires-clause-follows
finish-requires-clause-follows g c = full_follows c.args.tables.now.layout c.args.packet.now c.find-end.result.t0 (me c.args.steps.now) (me c.find-end.new.steps) c.in-Found.held c.in-Found.card (subst (λ (e : LookEnd). FindsFull c.args.tables.now.layout c.args.packet.now (me c.args.steps.now) e c.find-end.result.t0 (me c.find-end.new.steps)) c.in-Found.is c.find-end.ensures.finds) (me c.put_best.new.steps) c.put_best.ensures.put (search rules)
