use Rattle.std.proofs.Common.{false, length, arith, Some, inr, refl, sym, ap, ◌∙◌}
use Rattle.flat_list.specs.declared.command.Command.TheVariants as commands
use Rattle.table_model.specs.Operations as plan
use Rattle.table_model.specs.Asking.{ends}
use Rattle.sock_ops.specs.Stands.{buckets_of, turned, chained}
use Rattle.flat_list.specs.declared.command.Reply.TheVariants as replies
use Rattle.table_model.specs.Own.{without}
use Rattle.sock_ops.specs.Closes.{is_gone}
use Rattle.table_model.specs.Commands.{drop_command, answers}
use Rattle.sock_ops.specs.Socks.{mine_of}
use Rattle.section_machine.specs.Places.{Labelled, own_of, with_place}
use Rattle.section_machine.specs.Sections.{Kept, kept}
use Rattle.section_machine.proofs.Closes.{closed_off, unclosed_left}
use Rattle.section_machine.proofs.Ended.{dropped_so}
use Rattle.section_machine.proofs.Gives.{labels_put, labels_same, no_more, off_patient}
use Rattle.section_machine.proofs.LeftOff.{left_by_header, socket_left, drop_plan, its_speaker}
use Rattle.section_machine.proofs.Settled.{nobody, before, rests_so, stands_before, tells_before, sockets_back}
use Rattle.section_machine.proofs.Spent.{spends_of}
use Rattle.section_machine.proofs.machine.Machine.drop_labelled.Goals as goal

pub returns-in_default-clause-carried : goal.returns-in_default-clause-carried
returns-in_default-clause-carried g c =
    nobody c.args.tables.now c.args.self.now c.self.inside.header c.self.inside.labels c.take.new.self c.self.inside.moment c.self.inside.offsets c.self.inside.waits c.args.label.now c.args.worker.now
    (record { view = c.self.view_is; names = c.take.ensures.names }) c.in_default.ensures.cases c.requires.section (λ h x o. drop_command x o) (λ h x. refl)

pub drop_sock-requires-clause-may : goal.drop_sock-requires-clause-may
drop_sock-requires-clause-may g c =
    tells_before c.args.tables.now c.args.self.now c.self.inside.header c.self.inside.labels c.take.new.self c.self.inside.moment c.self.inside.offsets c.self.inside.waits c.args.label.now c.in-Some.place c.in-Some.socket c.args.worker.now
    (record { view = c.self.view_is; names = c.take.ensures.names }) c.in-Some.ensures.cases c.requires.section

pub drop_sock-requires-clause-stands : goal.drop_sock-requires-clause-stands
drop_sock-requires-clause-stands g c =
    stands_before c.args.tables.now c.args.self.now c.self.inside.header c.self.inside.labels c.take.new.self c.self.inside.moment c.self.inside.offsets c.self.inside.waits c.args.label.now c.in-Some.place c.in-Some.socket c.args.worker.now
    (record { view = c.self.view_is; names = c.take.ensures.names }) c.in-Some.ensures.cases c.requires.section

pub returns-in-Err-clause-err : goal.returns-in-Err-clause-err
returns-in-Err-clause-err g c =
    sockets_back c.args.self.now c.self.inside.header c.self.inside.labels c.take.new.self c.put.new.self c.self.inside.moment c.self.inside.offsets c.self.inside.waits c.in-Some.place (mine_of c.in-Some.socket) c.self.view_is c.in-Some.ensures.cases.there c.in-Some.ensures.cases.after
    (c.put.ensures.put ∙ ap (λ x. with_place c.take.new.self c.in-Some.place (Some (mine_of x))) c.in-Err.ensures.back)

pub returns-in-Ok-clause-carried : goal.returns-in-Ok-clause-carried
returns-in-Ok-clause-carried g c =
    dropped_so c.args.tables.now c.args.self.now c.self.inside.header c.self.inside.labels c.take.new.self c.self.inside.moment c.self.inside.offsets c.self.inside.waits c.args.label.now c.in-Some.place c.in-Some.socket c.args.worker.now
    (record { view = c.self.view_is; names = c.take.ensures.names }) c.in-Some.ensures.cases c.requires.section c.drop_sock.new.worker c.drop_sock.ensures.ready c.drop_sock.ensures.caller c.in-Ok.ensures.carried

pub returns-in-Ok-clause-spends : goal.returns-in-Ok-clause-spends
returns-in-Ok-clause-spends g c =
    spends_of c.args.self.now (kept c.self.inside.header (own_of c.take.new.self c.self.inside.moment c.self.inside.offsets c.self.inside.waits)) c.args.worker.now c.drop_sock.new.worker c.self.inside.waits 2 (1) 0 (ap (λ (k : Kept). length k.own.waits) (sym c.self.view_is)) (omega arith) c.drop_sock.ensures.entered (omega arith) (omega arith) c.drop_sock.ensures.drawn

pub returns-in-Err-clause-spends : goal.returns-in-Err-clause-spends
returns-in-Err-clause-spends g c =
    spends_of c.args.self.now (kept c.self.inside.header (own_of c.put.new.self c.self.inside.moment c.self.inside.offsets c.self.inside.waits)) c.args.worker.now c.drop_sock.new.worker c.self.inside.waits 2 (1) 0 (ap (λ (k : Kept). length k.own.waits) (sym c.self.view_is)) (omega arith) c.drop_sock.ensures.entered (omega arith) (omega arith) c.drop_sock.ensures.drawn

pub returns-in-Err-clause-left : goal.returns-in-Err-clause-left
returns-in-Err-clause-left g c =
    let t = c.args.tables.now in
    let h = c.self.inside.header in
    let o = c.self.inside.offsets in
    let s = c.in-Some.socket in
    let w = c.args.worker.now in
    let u = c.drop_sock.new.worker in
    let own = own_of c.self.inside.labels c.self.inside.moment o c.self.inside.waits in
    let sec = before t c.args.self.now h c.self.inside.labels c.take.new.self c.self.inside.moment o c.self.inside.waits c.args.label.now c.in-Some.place s w (record { view = c.self.view_is; names = c.take.ensures.names }) c.in-Some.ensures.cases c.requires.section in
    socket_left t c.args.self.now h c.self.inside.labels c.take.new.self c.put.new.self c.self.inside.moment o o c.self.inside.waits c.args.label.now c.in-Some.place s w u
    (record { view = c.self.view_is; names = c.take.ensures.names }) c.in-Some.ensures.cases (c.put.ensures.put ∙ ap (λ x. with_place c.take.new.self c.in-Some.place (Some (mine_of x))) c.in-Err.ensures.back) (commands.Drop c.args.label.now) false refl
    (plan.drop (mine_of s) plan.gone) (λ closed. ends (answers (without own (mine_of s).owner.name) replies.Ok)) (λ e. drop_plan h own c.args.label.now (mine_of s) e) (λ e. its_speaker h own c.args.label.now (mine_of s) e) (λ e deeds back. refl)
    (left_by_header h t (λ shape seed. plan.drop (mine_of s) plan.gone) (mine_of s).owner.name (turned w) (turned u) (chained t w) (chained t u) sec.tables
    (unclosed_left is_gone (buckets_of t) (mine_of s).owner.name (plan.drop (mine_of s) plan.gone) (turned w) (turned u) (chained t w) (chained t u) _ c.in-Err.ensures.carried))

pub returns-in-Err-clause-section : goal.returns-in-Err-clause-section
returns-in-Err-clause-section g c =
    rests_so c.args.tables.now c.args.self.now c.self.inside.header c.self.inside.labels c.take.new.self c.self.inside.moment c.self.inside.offsets c.self.inside.waits c.args.label.now c.in-Some.place c.in-Some.socket c.args.worker.now
    (record { view = c.self.view_is; names = c.take.ensures.names }) c.in-Some.ensures.cases c.requires.section c.drop_sock.new.worker c.drop_sock.ensures.ready c.drop_sock.ensures.caller c.put.new.self
    c.in-Err.ensures.nothing c.in-Err.ensures.side c.in-Err.ensures.kept (c.put.ensures.put ∙ ap (λ x. with_place c.take.new.self c.in-Some.place (Some (mine_of x))) c.in-Err.ensures.back)

pub returns-in_default-clause-gives : goal.returns-in_default-clause-gives
returns-in_default-clause-gives g c =
    no_more _ _ (labels_same c.args.self.now c.self.inside.header c.self.inside.labels c.take.new.self c.self.inside.moment c.self.inside.offsets c.self.inside.waits c.self.view_is c.in_default.ensures.cases.kept)

pub returns-in-Ok-clause-gives : goal.returns-in-Ok-clause-gives
returns-in-Ok-clause-gives g c =
    no_more _ _ (ap (λ (x : Labelled). x.labels) c.in-Some.ensures.cases.after ∙ ap (λ (k : Kept). k.own.labels) c.self.view_is)

pub returns-in-Err-clause-gives : goal.returns-in-Err-clause-gives
returns-in-Err-clause-gives g c =
    inr (labels_put c.self.inside.labels c.take.new.self c.put.new.self c.in-Some.place c.in-Some.place _ _ c.in-Some.ensures.cases.after c.put.ensures.put ∙ ap (λ (k : Kept). k.own.labels) c.self.view_is)

pub cause_of-requires : goal.cause_of-requires
cause_of-requires g c =
    closed_off is_gone (buckets_of c.args.tables.now) (mine_of c.in-Some.socket).owner.name _ _ _ _ _ c.in-Err.end c.in-Err.ensures.carried

pub returns-in-Err-clause-patient : goal.returns-in-Err-clause-patient
returns-in-Err-clause-patient g c = λ endless.
    off_patient c.in-Err.end c.cause_of.result c.cause_of.ensures (c.in-Err.ensures.patient endless)
