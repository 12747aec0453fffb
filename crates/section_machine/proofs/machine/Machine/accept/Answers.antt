use Rattle.std.proofs.Common.{ℕ, length, Some, refl, sym, ap, ◌∙◌, subst, arith}
use Rattle.flat_list.specs.Sections.{name_at}
use Rattle.flat_list.specs.declared.command.Command.TheVariants as commands
use Rattle.table_model.specs.Own.{Own}
use Rattle.table_model.specs.Asking.{ends}
use Rattle.table_model.specs.Own.{next_name, with_label}
use Rattle.table_model.specs.Operations as plans
use Rattle.table_model.specs.Operations.{done, refused}
use Rattle.table_model.specs.Commands.{accept_reply, connect_error}
use Rattle.sock_ops.specs.Accepting.{accepted}
use Rattle.sock_ops.specs.Socks.{mine_of}
use Rattle.sock_ops.specs.Stands.{MayTell, buckets_of, turned, chained}
use Rattle.sock_ops.specs.There.{IsNew}
use Rattle.section_machine.specs.Places.{Labelled, own_of, with_place}
use Rattle.section_machine.specs.Sections.{Kept, kept}
use Rattle.section_machine.proofs.Children.{accept_asker, accept_asks, child_named, its_off, its_plan, parent_tells, parent_stands, accepts_left, accepts_refused, accepts}
use Rattle.section_machine.proofs.Given.{Giving, new_tells, is_new, given_own, asked_none}
use Rattle.section_machine.proofs.Gives.{err_patient, gives_not, gives_one, labels_more, labels_same}
use Rattle.section_machine.proofs.LeftOff.{accept_gives, accept_plan, label_left, no_label}
use Rattle.section_machine.proofs.Owns.{found_named}
use Rattle.section_machine.proofs.Settled.{refused_went, same_section, on_err}
use Rattle.section_machine.proofs.Spent.{spends_of}
use Rattle.section_machine.proofs.machine.Machine.accept.Goals as goal

pub returns-in_default-clause-carried : goal.returns-in_default-clause-carried
returns-in_default-clause-carried g c =
    let gives : Giving c.args.tables.now c.args.self.now c.self.inside.header c.self.inside.labels c.give.new.self c.self.inside.moment c.self.inside.offsets c.self.inside.waits c.args.label c.args.worker.now =
    record { before = record { view = c.self.view_is; names = c.len-place.ensures.names }; section = c.requires.section; room = c.requires.room; count = c.len-place.ensures.places; given = c.in_ok-give.ensures.given } in
    asked_none gives (accept_asker c.args.from c.args.at) c.args.listener.now (λ h x n. refl)
    (sym (found_named c.self.inside.labels c.give.new.self c.args.label c.place_of-listener.result c.args.listener.now c.in_ok-give.ensures.given c.place_of-listener.ensures.place) ∙ sym c.in_default.ensures.socket)

pub accept-requires-clause-parent : goal.accept-requires-clause-parent
accept-requires-clause-parent g c =
    let gives : Giving c.args.tables.now c.args.self.now c.self.inside.header c.self.inside.labels c.give.new.self c.self.inside.moment c.self.inside.offsets c.self.inside.waits c.args.label c.args.worker.now =
    record { before = record { view = c.self.view_is; names = c.len-place.ensures.names }; section = c.requires.section; room = c.requires.room; count = c.len-place.ensures.places; given = c.in_ok-give.ensures.given } in
    parent_tells gives c.args.listener.now c.in-Some.socket.now
    (sym (found_named c.self.inside.labels c.give.new.self c.args.label c.place_of-listener.result c.args.listener.now c.in_ok-give.ensures.given c.place_of-listener.ensures.place) ∙ sym c.in-Some.ensures.socket) c.in-Some.ensures.state

pub accept-requires-clause-may : goal.accept-requires-clause-may
accept-requires-clause-may g c =
    let gives : Giving c.args.tables.now c.args.self.now c.self.inside.header c.self.inside.labels c.give.new.self c.self.inside.moment c.self.inside.offsets c.self.inside.waits c.args.label c.args.worker.now =
    record { before = record { view = c.self.view_is; names = c.len-place.ensures.names }; section = c.requires.section; room = c.requires.room; count = c.len-place.ensures.places; given = c.in_ok-give.ensures.given } in
    subst (MayTell c.args.worker.now) (sym c.newcomer-newcomer.ensures.name) (new_tells gives)

pub accept-requires-clause-new : goal.accept-requires-clause-new
accept-requires-clause-new g c =
    let gives : Giving c.args.tables.now c.args.self.now c.self.inside.header c.self.inside.labels c.give.new.self c.self.inside.moment c.self.inside.offsets c.self.inside.waits c.args.label c.args.worker.now =
    record { before = record { view = c.self.view_is; names = c.len-place.ensures.names }; section = c.requires.section; room = c.requires.room; count = c.len-place.ensures.places; given = c.in_ok-give.ensures.given } in
    subst (λ (n : ℕ). IsNew n (turned c.args.worker.now)) (sym c.newcomer-newcomer.ensures.name) (is_new gives)

pub accept-requires-clause-stands : goal.accept-requires-clause-stands
accept-requires-clause-stands g c =
    let gives : Giving c.args.tables.now c.args.self.now c.self.inside.header c.self.inside.labels c.give.new.self c.self.inside.moment c.self.inside.offsets c.self.inside.waits c.args.label c.args.worker.now =
    record { before = record { view = c.self.view_is; names = c.len-place.ensures.names }; section = c.requires.section; room = c.requires.room; count = c.len-place.ensures.places; given = c.in_ok-give.ensures.given } in
    parent_stands gives c.args.listener.now c.in-Some.socket.now
    (sym (found_named c.self.inside.labels c.give.new.self c.args.label c.place_of-listener.result c.args.listener.now c.in_ok-give.ensures.given c.place_of-listener.ensures.place) ∙ sym c.in-Some.ensures.socket) c.in-Some.ensures.state

pub put-requires-clause-name : goal.put-requires-clause-name
put-requires-clause-name g c =
    let layout = c.args.tables.now.chains.layout in
    child_named (accept_asks c.args.from c.args.at) layout.shape layout.seed (mine_of c.in-Some.socket.now) (mine_of c.in-Ok.child) c.newcomer-newcomer.result.name c.newcomer-newcomer.result.mark _ _ _ _ _ c.in-Ok.ensures.carried
    ∙ (c.newcomer-newcomer.ensures.name
    ∙ (ap (name_at c.self.inside.labels.number) (sym c.len-place.ensures.labels) ∙ ap (λ (l : Labelled). name_at l.number c.len-place.result) (sym c.in_ok-give.ensures.given)))

pub returns-in-Ok-clause-carried : goal.returns-in-Ok-clause-carried
returns-in-Ok-clause-carried g c =
    let w = c.args.worker.now in
    let u = c.accept.new.worker in
    let m = mine_of c.in-Some.socket.now in
    let child = mine_of c.in-Ok.child in
    let gives : Giving c.args.tables.now c.args.self.now c.self.inside.header c.self.inside.labels c.give.new.self c.self.inside.moment c.self.inside.offsets c.self.inside.waits c.args.label c.args.worker.now =
    record { before = record { view = c.self.view_is; names = c.len-place.ensures.names }; section = c.requires.section; room = c.requires.room; count = c.len-place.ensures.places; given = c.in_ok-give.ensures.given } in
    accepts gives c.args.listener.now c.in-Some.socket.now
    (sym (found_named c.self.inside.labels c.give.new.self c.args.label c.place_of-listener.result c.args.listener.now c.in_ok-give.ensures.given c.place_of-listener.ensures.place) ∙ sym c.in-Some.ensures.socket) c.in-Some.ensures.state
    (accept_asks c.args.from c.args.at) u c.accept.ensures.ready c.accept.ensures.caller c.in-Ok.child c.put.new.self
    (its_plan (accept_asks c.args.from c.args.at) c.args.tables.now c.args.self.now c.self.inside.header (own_of c.self.inside.labels c.self.inside.moment c.self.inside.offsets c.self.inside.waits) w c.self.view_is c.requires.section u m c.newcomer-newcomer.result.name c.newcomer-newcomer.result.mark (done child)
    c.newcomer-newcomer.ensures.name c.newcomer-newcomer.ensures.mark c.in-Ok.ensures.carried)
    c.put.ensures.state c.in-Ok.ensures.stands (c.put.ensures.put ∙ ap (λ (i : ℕ). with_place c.give.new.self i (Some child)) c.len-place.ensures.labels)

pub returns-in_ok-refusal-in-Err-clause-carried : goal.returns-in_ok-refusal-in-Err-clause-carried
returns-in_ok-refusal-in-Err-clause-carried g c =
    let t = c.args.tables.now in
    let w = c.args.worker.now in
    let u = c.accept.new.worker in
    let m = mine_of c.in-Some.socket.now in
    let gives : Giving c.args.tables.now c.args.self.now c.self.inside.header c.self.inside.labels c.give.new.self c.self.inside.moment c.self.inside.offsets c.self.inside.waits c.args.label c.args.worker.now =
    record { before = record { view = c.self.view_is; names = c.len-place.ensures.names }; section = c.requires.section; room = c.requires.room; count = c.len-place.ensures.places; given = c.in_ok-give.ensures.given } in
    accepts_refused gives c.args.listener.now c.in-Some.socket.now
    (sym (found_named c.self.inside.labels c.give.new.self c.args.label c.place_of-listener.result c.args.listener.now c.in_ok-give.ensures.given c.place_of-listener.ensures.place) ∙ sym c.in-Some.ensures.socket) c.in-Some.ensures.state
    (accept_asks c.args.from c.args.at) u c.accept.ensures.ready c.accept.ensures.caller c.in-Err.end c.connect_error.result
    (its_plan (accept_asks c.args.from c.args.at) t c.args.self.now c.self.inside.header (own_of c.self.inside.labels c.self.inside.moment c.self.inside.offsets c.self.inside.waits) w c.self.view_is c.requires.section u m c.newcomer-newcomer.result.name c.newcomer-newcomer.result.mark (refused c.in-Err.end)
    c.newcomer-newcomer.ensures.name c.newcomer-newcomer.ensures.mark
    (refused_went accepted (buckets_of t) _ (turned w) (turned u) (chained t w) (chained t u) c.in-Err.end c.in_ok-refusal-in-Err.ensures.kept.told c.in-Err.ensures.carried))
    (c.connect_error.ensures ∙ ap connect_error c.in_ok-refusal-in-Err.ensures.kept.same)

pub returns-in_err-refusal-in-Err-clause-err : goal.returns-in_err-refusal-in-Err-clause-err
returns-in_err-refusal-in-Err-clause-err g c =
    let gives : Giving c.args.tables.now c.args.self.now c.self.inside.header c.self.inside.labels c.give.new.self c.self.inside.moment c.self.inside.offsets c.self.inside.waits c.args.label c.args.worker.now =
    record { before = record { view = c.self.view_is; names = c.len-place.ensures.names }; section = c.requires.section; room = c.requires.room; count = c.len-place.ensures.places; given = c.in_ok-give.ensures.given } in
    on_err c.from_residual-in_err-refusal-in-Err.result
    (sym (ap (λ (x : Own). x.sockets) (given_own gives)) ∙ ap (λ (k : Kept). k.own.sockets) c.self.view_is)

pub returns-in-Ok-clause-spends : goal.returns-in-Ok-clause-spends
returns-in-Ok-clause-spends g c =
    spends_of c.args.self.now (kept c.self.inside.header (own_of c.put.new.self c.self.inside.moment c.self.inside.offsets c.self.inside.waits)) c.args.worker.now c.accept.new.worker c.self.inside.waits 4 2 0 (ap (λ (k : Kept). length k.own.waits) (sym c.self.view_is)) (omega arith) c.accept.ensures.entered (omega arith) (omega arith) c.accept.ensures.drawn

pub returns-in_err-refusal-in-Err-clause-spends : goal.returns-in_err-refusal-in-Err-clause-spends
returns-in_err-refusal-in-Err-clause-spends g c =
    spends_of c.args.self.now (kept c.self.inside.header (own_of c.give.new.self c.self.inside.moment c.self.inside.offsets c.self.inside.waits)) c.args.worker.now c.accept.new.worker c.self.inside.waits 4 2 0 (ap (λ (k : Kept). length k.own.waits) (sym c.self.view_is)) (omega arith) c.accept.ensures.entered (omega arith) (omega arith) c.accept.ensures.drawn

pub returns-in_ok-refusal-in-Err-clause-spends : goal.returns-in_ok-refusal-in-Err-clause-spends
returns-in_ok-refusal-in-Err-clause-spends g c =
    spends_of c.args.self.now (kept c.self.inside.header (own_of c.give.new.self c.self.inside.moment c.self.inside.offsets c.self.inside.waits)) c.args.worker.now c.accept.new.worker c.self.inside.waits 4 2 0 (ap (λ (k : Kept). length k.own.waits) (sym c.self.view_is)) (omega arith) c.accept.ensures.entered (omega arith) (omega arith) c.accept.ensures.drawn

pub returns-in_err-refusal-in-Err-clause-left : goal.returns-in_err-refusal-in-Err-clause-left
returns-in_err-refusal-in-Err-clause-left g c =
    let t = c.args.tables.now in
    let h = c.self.inside.header in
    let l = c.self.inside.labels in
    let w = c.args.worker.now in
    let u = c.accept.new.worker in
    let m = mine_of c.in-Some.socket.now in
    let own = own_of l c.self.inside.moment c.self.inside.offsets c.self.inside.waits in
    let gives : Giving c.args.tables.now c.args.self.now c.self.inside.header c.self.inside.labels c.give.new.self c.self.inside.moment c.self.inside.offsets c.self.inside.waits c.args.label c.args.worker.now =
    record { before = record { view = c.self.view_is; names = c.len-place.ensures.names }; section = c.requires.section; room = c.requires.room; count = c.len-place.ensures.places; given = c.in_ok-give.ensures.given } in
    on_err c.from_residual-in_err-refusal-in-Err.result
    (label_left (accept_gives c.args.listener.now c.args.label c.args.from c.args.at) t c.args.self.now h l c.give.new.self c.self.inside.moment c.self.inside.offsets c.self.inside.waits w gives.before c.args.listener.now m
    (plans.accept h.shape h.seed m (next_name own) own.mark c.args.from c.args.at) (λ did. ends (accept_reply (with_label own c.args.label) did)) u c.in_ok-give.ensures.given
    (sym (found_named c.self.inside.labels c.give.new.self c.args.label c.place_of-listener.result c.args.listener.now c.in_ok-give.ensures.given c.place_of-listener.ensures.place) ∙ sym c.in-Some.ensures.socket)
    (λ is. accept_plan h own m c.args.listener.now c.args.label is c.args.from c.args.at)
    (its_off (accept_asks c.args.from c.args.at) t c.args.self.now h own w c.self.view_is c.requires.section u m c.newcomer-newcomer.result.name c.newcomer-newcomer.result.mark c.in-Err.end _ c.newcomer-newcomer.ensures.name c.newcomer-newcomer.ensures.mark c.in_err-refusal-in-Err.ensures.left c.in-Err.ensures.carried))

pub returns-in_err-give-clause-left : goal.returns-in_err-give-clause-left
returns-in_err-give-clause-left g c =
    on_err c.from_residual.result
    (no_label (accept_gives c.args.listener.now c.args.label c.args.from c.args.at) c.args.tables.now c.args.self.now c.self.inside.header c.self.inside.labels c.give.new.self c.self.inside.moment c.self.inside.offsets c.self.inside.waits c.args.worker.now
    (record { view = c.self.view_is; names = c.len-place.ensures.names }) c.in_err-give.ensures.err)

pub returns-in_err-refusal-in-Err-clause-section : goal.returns-in_err-refusal-in-Err-clause-section
returns-in_err-refusal-in-Err-clause-section g c =
    let t = c.args.tables.now in
    let h = c.self.inside.header in
    let w = c.args.worker.now in
    let u = c.accept.new.worker in
    let m = mine_of c.in-Some.socket.now in
    let own = own_of c.self.inside.labels c.self.inside.moment c.self.inside.offsets c.self.inside.waits in
    let gives : Giving c.args.tables.now c.args.self.now c.self.inside.header c.self.inside.labels c.give.new.self c.self.inside.moment c.self.inside.offsets c.self.inside.waits c.args.label c.args.worker.now =
    record { before = record { view = c.self.view_is; names = c.len-place.ensures.names }; section = c.requires.section; room = c.requires.room; count = c.len-place.ensures.places; given = c.in_ok-give.ensures.given } in
    on_err c.from_residual-in_err-refusal-in-Err.result
    (accepts_left gives c.args.listener.now c.in-Some.socket.now
    (sym (found_named c.self.inside.labels c.give.new.self c.args.label c.place_of-listener.result c.args.listener.now c.in_ok-give.ensures.given c.place_of-listener.ensures.place) ∙ sym c.in-Some.ensures.socket) c.in-Some.ensures.state
    (accept_asks c.args.from c.args.at) u c.accept.ensures.ready c.accept.ensures.caller
    (its_off (accept_asks c.args.from c.args.at) t c.args.self.now h own w c.self.view_is c.requires.section u m c.newcomer-newcomer.result.name c.newcomer-newcomer.result.mark c.in-Err.end _ c.newcomer-newcomer.ensures.name c.newcomer-newcomer.ensures.mark c.in_err-refusal-in-Err.ensures.left c.in-Err.ensures.carried))

pub returns-in_err-give-clause-section : goal.returns-in_err-give-clause-section
returns-in_err-give-clause-section g c =
    on_err c.from_residual.result
    (same_section c.args.tables.now c.args.self.now c.self.inside.header c.self.inside.labels c.give.new.self c.self.inside.moment c.self.inside.offsets c.self.inside.waits c.args.worker.now c.self.view_is c.in_err-give.ensures.err c.requires.section)

pub returns-in_err-give-clause-gives : goal.returns-in_err-give-clause-gives
returns-in_err-give-clause-gives g c =
    gives_not (commands.Accept c.args.listener.now c.args.label c.args.from c.args.at) c.args.self.now.own.labels c.give.new.self.labels
    (labels_same c.args.self.now c.self.inside.header c.self.inside.labels c.give.new.self c.self.inside.moment c.self.inside.offsets c.self.inside.waits c.self.view_is c.in_err-give.ensures.err) c.from_residual.result c.from_residual.ensures.0

pub returns-in_default-clause-gives : goal.returns-in_default-clause-gives
returns-in_default-clause-gives g c =
    (labels_more c.args.self.now c.self.inside.header c.self.inside.labels c.give.new.self c.self.inside.moment c.self.inside.offsets c.self.inside.waits c.self.view_is c.args.label c.in_ok-give.ensures.given)

pub returns-in-Ok-clause-gives : goal.returns-in-Ok-clause-gives
returns-in-Ok-clause-gives g c =
    ap (λ (x : Labelled). x.labels) c.put.ensures.put ∙ (labels_more c.args.self.now c.self.inside.header c.self.inside.labels c.give.new.self c.self.inside.moment c.self.inside.offsets c.self.inside.waits c.self.view_is c.args.label c.in_ok-give.ensures.given)

pub returns-in_ok-refusal-in-Err-clause-gives : goal.returns-in_ok-refusal-in-Err-clause-gives
returns-in_ok-refusal-in-Err-clause-gives g c =
    (labels_more c.args.self.now c.self.inside.header c.self.inside.labels c.give.new.self c.self.inside.moment c.self.inside.offsets c.self.inside.waits c.self.view_is c.args.label c.in_ok-give.ensures.given)

pub returns-in_err-refusal-in-Err-clause-gives : goal.returns-in_err-refusal-in-Err-clause-gives
returns-in_err-refusal-in-Err-clause-gives g c =
    gives_one (commands.Accept c.args.listener.now c.args.label c.args.from c.args.at) c.args.self.now.own.labels c.give.new.self.labels
    (labels_more c.args.self.now c.self.inside.header c.self.inside.labels c.give.new.self c.self.inside.moment c.self.inside.offsets c.self.inside.waits c.self.view_is c.args.label c.in_ok-give.ensures.given) c.from_residual-in_err-refusal-in-Err.result

pub returns-in_err-refusal-in-Err-clause-patient : goal.returns-in_err-refusal-in-Err-clause-patient
returns-in_err-refusal-in-Err-clause-patient g c = λ endless.
    err_patient c.from_residual-in_err-refusal-in-Err.result c.in-Err.end c.in_err-refusal-in-Err.field-0.0 c.from_residual-in_err-refusal-in-Err.ensures.1 c.in_err-refusal-in-Err.ensures.left (c.in-Err.ensures.patient endless)
