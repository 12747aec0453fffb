use Rattle.std.proofs.Common.{ℕ, find, length, None, Some, sym, ap, ◌∙◌, subst, arith}
use Rattle.sock_card.specs.declared.owner.Owner.{Owner}
use Rattle.flat_list.specs.declared.command.Command.TheVariants as commands
use Rattle.flat_list.specs.Sections.{name_at}
use Rattle.table_model.specs.Asking.{ends}
use Rattle.table_model.specs.Own.{is_named, next_name, open_named, with_label}
use Rattle.table_model.specs.Operations as plans
use Rattle.table_model.specs.Operations.{Did, done, refused}
use Rattle.table_model.specs.Commands.{ack_reply, connect_error}
use Rattle.sock_ops.specs.Accepting.{accepted}
use Rattle.sock_ops.specs.Handshaking.{mine_found}
use Rattle.sock_ops.specs.Socks.{mine_of}
use Rattle.sock_ops.specs.Stands.{MayTell, buckets_of, turned, chained}
use Rattle.sock_ops.specs.There.{IsNew}
use Rattle.section_machine.specs.LeftOff.{IsLeftOff}
use Rattle.section_machine.specs.Places.{Labelled, own_of, those, with_place}
use Rattle.section_machine.specs.Sections.{Kept, kept}
use Rattle.section_machine.proofs.Given.{Giving, new_tells, is_new}
use Rattle.section_machine.proofs.Handshakes.{acks_none, heir_named, request_stands, listener_tells, listener_stands, its_off, its_plan, put_again, sockets_again, acks_left, acks_refused, acks}
use Rattle.section_machine.proofs.Gives.{err_patient, gives_not, gives_one, labels_more, labels_same}
use Rattle.section_machine.proofs.LeftOff.{ack_gives, ack_plan, label_left, no_label}
use Rattle.section_machine.proofs.Owns.{named_again}
use Rattle.section_machine.proofs.Settled.{refused_went, same_section, typed_stands, on_err}
use Rattle.section_machine.proofs.Spent.{spends_of}
use Rattle.section_machine.proofs.machine.Machine.ack.Goals as goal

pub returns-in_default-clause-carried : goal.returns-in_default-clause-carried
returns-in_default-clause-carried g c =
    let gives : Giving c.args.tables.now c.args.self.now c.self.inside.header c.self.inside.labels c.give.new.self c.self.inside.moment c.self.inside.offsets c.self.inside.waits c.args.label c.args.worker.now =
    record { before = record { view = c.self.view_is; names = c.len-child_place.ensures.names }; section = c.requires.section; room = c.requires.room; count = c.len-child_place.ensures.places; given = c.in_ok-give.ensures.given } in
    acks_none gives c.take.new.self c.args.request.now c.in_default.ensures.cases

pub ack-requires-clause-parent : goal.ack-requires-clause-parent
ack-requires-clause-parent g c =
    let gives : Giving c.args.tables.now c.args.self.now c.self.inside.header c.self.inside.labels c.give.new.self c.self.inside.moment c.self.inside.offsets c.self.inside.waits c.args.label c.args.worker.now =
    record { before = record { view = c.self.view_is; names = c.len-child_place.ensures.names }; section = c.requires.section; room = c.requires.room; count = c.len-child_place.ensures.places; given = c.in_ok-give.ensures.given } in
    listener_tells gives c.take.new.self c.args.request.now c.in-Some.place c.in-Some.socket c.in-Some.ensures.cases c.named-listener.result
    (c.named-listener.ensures.socket ∙ ap (λ (a : Owner). find (is_named a.origin) (those c.take.new.self.places)) c.owner.ensures.owner)

pub ack-requires-clause-may : goal.ack-requires-clause-may
ack-requires-clause-may g c =
    let gives : Giving c.args.tables.now c.args.self.now c.self.inside.header c.self.inside.labels c.give.new.self c.self.inside.moment c.self.inside.offsets c.self.inside.waits c.args.label c.args.worker.now =
    record { before = record { view = c.self.view_is; names = c.len-child_place.ensures.names }; section = c.requires.section; room = c.requires.room; count = c.len-child_place.ensures.places; given = c.in_ok-give.ensures.given } in
    subst (MayTell c.args.worker.now) (sym c.newcomer-newcomer.ensures.name) (new_tells gives)

pub ack-requires-clause-new : goal.ack-requires-clause-new
ack-requires-clause-new g c =
    let gives : Giving c.args.tables.now c.args.self.now c.self.inside.header c.self.inside.labels c.give.new.self c.self.inside.moment c.self.inside.offsets c.self.inside.waits c.args.label c.args.worker.now =
    record { before = record { view = c.self.view_is; names = c.len-child_place.ensures.names }; section = c.requires.section; room = c.requires.room; count = c.len-child_place.ensures.places; given = c.in_ok-give.ensures.given } in
    subst (λ (n : ℕ). IsNew n (turned c.args.worker.now)) (sym c.newcomer-newcomer.ensures.name) (is_new gives)

pub ack-requires-clause-request : goal.ack-requires-clause-request
ack-requires-clause-request g c =
    let gives : Giving c.args.tables.now c.args.self.now c.self.inside.header c.self.inside.labels c.give.new.self c.self.inside.moment c.self.inside.offsets c.self.inside.waits c.args.label c.args.worker.now =
    record { before = record { view = c.self.view_is; names = c.len-child_place.ensures.names }; section = c.requires.section; room = c.requires.room; count = c.len-child_place.ensures.places; given = c.in_ok-give.ensures.given } in
    request_stands gives c.take.new.self c.args.request.now c.in-Some.place c.in-Some.socket c.in-Some.ensures.cases

pub ack-requires-clause-stands : goal.ack-requires-clause-stands
ack-requires-clause-stands g c =
    let gives : Giving c.args.tables.now c.args.self.now c.self.inside.header c.self.inside.labels c.give.new.self c.self.inside.moment c.self.inside.offsets c.self.inside.waits c.args.label c.args.worker.now =
    record { before = record { view = c.self.view_is; names = c.len-child_place.ensures.names }; section = c.requires.section; room = c.requires.room; count = c.len-child_place.ensures.places; given = c.in_ok-give.ensures.given } in
    listener_stands gives c.take.new.self c.args.request.now c.in-Some.place c.in-Some.socket c.in-Some.ensures.cases c.named-listener.result
    (c.named-listener.ensures.socket ∙ ap (λ (a : Owner). find (is_named a.origin) (those c.take.new.self.places)) c.owner.ensures.owner)
    c.named-listener.ensures.state

pub put-requires-clause-name : goal.put-requires-clause-name
put-requires-clause-name g c =
    let layout = c.args.tables.now.chains.layout in
    heir_named layout.shape layout.seed (mine_of c.in-Some.socket) (mine_of c.in-Ok.child) (mine_found c.named-listener.result) c.newcomer-newcomer.result.name c.newcomer-newcomer.result.mark _ _ _ _ _ c.in-Ok.ensures.carried
    ∙ (c.newcomer-newcomer.ensures.name
    ∙ (ap (name_at c.self.inside.labels.number) (sym c.len-child_place.ensures.labels)
    ∙ ap (λ (l : Labelled). name_at l.number c.len-child_place.result) (sym (c.in-Some.ensures.cases.after ∙ ap (λ (l : Labelled). with_place l c.in-Some.place None) c.in_ok-give.ensures.given))))

pub returns-in-Ok-clause-carried : goal.returns-in-Ok-clause-carried
returns-in-Ok-clause-carried g c =
    let u = c.ack.new.worker in
    let child = mine_of c.in-Ok.child in
    let gives : Giving c.args.tables.now c.args.self.now c.self.inside.header c.self.inside.labels c.give.new.self c.self.inside.moment c.self.inside.offsets c.self.inside.waits c.args.label c.args.worker.now =
    record { before = record { view = c.self.view_is; names = c.len-child_place.ensures.names }; section = c.requires.section; room = c.requires.room; count = c.len-child_place.ensures.places; given = c.in_ok-give.ensures.given } in
    acks gives c.take.new.self c.args.request.now c.in-Some.place c.in-Some.socket c.in-Some.ensures.cases
    u c.ack.ensures.ready c.ack.ensures.caller c.in-Ok.child c.put.new.self
    (its_plan gives c.take.new.self c.args.request.now c.in-Some.place c.in-Some.socket c.in-Some.ensures.cases
    u c.newcomer-newcomer.result.name c.newcomer-newcomer.result.mark (mine_found c.named-listener.result) (done child) c.newcomer-newcomer.ensures.name c.newcomer-newcomer.ensures.mark
    (c.named-listener.ensures.socket ∙ ap (λ (a : Owner). find (is_named a.origin) (those c.take.new.self.places)) c.owner.ensures.owner)
    c.in-Ok.ensures.carried)
    c.put.ensures.state c.in-Ok.ensures.stands (c.put.ensures.put ∙ ap (λ (i : ℕ). with_place c.take.new.self i (Some child)) c.len-child_place.ensures.labels)

pub returns-in_ok-refusal-in-Err-clause-carried : goal.returns-in_ok-refusal-in-Err-clause-carried
returns-in_ok-refusal-in-Err-clause-carried g c =
    let t = c.args.tables.now in
    let w = c.args.worker.now in
    let u = c.ack.new.worker in
    let gives : Giving c.args.tables.now c.args.self.now c.self.inside.header c.self.inside.labels c.give.new.self c.self.inside.moment c.self.inside.offsets c.self.inside.waits c.args.label c.args.worker.now =
    record { before = record { view = c.self.view_is; names = c.len-child_place.ensures.names }; section = c.requires.section; room = c.requires.room; count = c.len-child_place.ensures.places; given = c.in_ok-give.ensures.given } in
    acks_refused gives c.take.new.self c.args.request.now c.in-Some.place c.in-Some.socket c.in-Some.ensures.cases
    u c.ack.ensures.ready c.ack.ensures.caller c.in-Err.end c.connect_error.result c.put-in-Err.new.self
    (its_plan gives c.take.new.self c.args.request.now c.in-Some.place c.in-Some.socket c.in-Some.ensures.cases
    u c.newcomer-newcomer.result.name c.newcomer-newcomer.result.mark (mine_found c.named-listener.result) (refused c.in-Err.end) c.newcomer-newcomer.ensures.name c.newcomer-newcomer.ensures.mark
    (c.named-listener.ensures.socket ∙ ap (λ (a : Owner). find (is_named a.origin) (those c.take.new.self.places)) c.owner.ensures.owner)
    (refused_went accepted (buckets_of t) _ (turned w) (turned u) (chained t w) (chained t u) c.in-Err.end c.in_ok-refusal-in-Err.ensures.kept.told c.in-Err.ensures.carried))
    (typed_stands t c.in-Some.socket (turned u) (chained t u) c.in-Some.ensures.cases.state c.in-Err.ensures.kept)
    (c.connect_error.ensures ∙ ap connect_error c.in_ok-refusal-in-Err.ensures.kept.same)
    (c.put-in-Err.ensures.put ∙ ap (λ x. with_place c.take.new.self c.in-Some.place (Some (mine_of x))) c.in-Err.ensures.back)

pub returns-in_err-refusal-in-Err-clause-err : goal.returns-in_err-refusal-in-Err-clause-err
returns-in_err-refusal-in-Err-clause-err g c =
    let gives : Giving c.args.tables.now c.args.self.now c.self.inside.header c.self.inside.labels c.give.new.self c.self.inside.moment c.self.inside.offsets c.self.inside.waits c.args.label c.args.worker.now =
    record { before = record { view = c.self.view_is; names = c.len-child_place.ensures.names }; section = c.requires.section; room = c.requires.room; count = c.len-child_place.ensures.places; given = c.in_ok-give.ensures.given } in
    on_err c.from_residual-in_err-refusal-in-Err.result
    (sockets_again gives c.take.new.self c.args.request.now c.in-Some.place c.in-Some.socket c.in-Some.ensures.cases c.put-in-Err.new.self
    (c.put-in-Err.ensures.put ∙ ap (λ x. with_place c.take.new.self c.in-Some.place (Some (mine_of x))) c.in-Err.ensures.back))

pub returns-in-Ok-clause-spends : goal.returns-in-Ok-clause-spends
returns-in-Ok-clause-spends g c =
    spends_of c.args.self.now (kept c.self.inside.header (own_of c.put.new.self c.self.inside.moment c.self.inside.offsets c.self.inside.waits)) c.args.worker.now c.ack.new.worker c.self.inside.waits 4 1 0 (ap (λ (k : Kept). length k.own.waits) (sym c.self.view_is)) (omega arith) c.ack.ensures.entered (omega arith) (omega arith) c.ack.ensures.drawn

pub returns-in_err-refusal-in-Err-clause-spends : goal.returns-in_err-refusal-in-Err-clause-spends
returns-in_err-refusal-in-Err-clause-spends g c =
    spends_of c.args.self.now (kept c.self.inside.header (own_of c.put-in-Err.new.self c.self.inside.moment c.self.inside.offsets c.self.inside.waits)) c.args.worker.now c.ack.new.worker c.self.inside.waits 4 1 0 (ap (λ (k : Kept). length k.own.waits) (sym c.self.view_is)) (omega arith) c.ack.ensures.entered (omega arith) (omega arith) c.ack.ensures.drawn

pub returns-in_ok-refusal-in-Err-clause-spends : goal.returns-in_ok-refusal-in-Err-clause-spends
returns-in_ok-refusal-in-Err-clause-spends g c =
    spends_of c.args.self.now (kept c.self.inside.header (own_of c.put-in-Err.new.self c.self.inside.moment c.self.inside.offsets c.self.inside.waits)) c.args.worker.now c.ack.new.worker c.self.inside.waits 4 1 0 (ap (λ (k : Kept). length k.own.waits) (sym c.self.view_is)) (omega arith) c.ack.ensures.entered (omega arith) (omega arith) c.ack.ensures.drawn

pub returns-in_err-refusal-in-Err-clause-left : goal.returns-in_err-refusal-in-Err-clause-left
returns-in_err-refusal-in-Err-clause-left g c =
    let t = c.args.tables.now in
    let h = c.self.inside.header in
    let l = c.self.inside.labels in
    let w = c.args.worker.now in
    let u = c.ack.new.worker in
    let m = mine_of c.in-Some.socket in
    let own = own_of l c.self.inside.moment c.self.inside.offsets c.self.inside.waits in
    let more = with_label own c.args.label in
    let name = c.newcomer-newcomer.result.name in
    let found = mine_found c.named-listener.result in
    let gives : Giving c.args.tables.now c.args.self.now c.self.inside.header c.self.inside.labels c.give.new.self c.self.inside.moment c.self.inside.offsets c.self.inside.waits c.args.label c.args.worker.now =
    record { before = record { view = c.self.view_is; names = c.len-child_place.ensures.names }; section = c.requires.section; room = c.requires.room; count = c.len-child_place.ensures.places; given = c.in_ok-give.ensures.given } in
    on_err c.from_residual-in_err-refusal-in-Err.result
    (subst (λ (x : Labelled). IsLeftOff t c.args.self.now (commands.Ack c.args.request.now c.args.label) (kept h (own_of x c.self.inside.moment c.self.inside.offsets c.self.inside.waits)) w u)
    (sym (put_again gives c.take.new.self c.args.request.now c.in-Some.place c.in-Some.socket c.in-Some.ensures.cases c.put-in-Err.new.self
    (c.put-in-Err.ensures.put ∙ ap (λ x. with_place c.take.new.self c.in-Some.place (Some (mine_of x))) c.in-Err.ensures.back)))
    (label_left (ack_gives c.args.request.now c.args.label) t c.args.self.now h l c.give.new.self c.self.inside.moment c.self.inside.offsets c.self.inside.waits w gives.before c.args.request.now m
    (plans.ack h.shape h.seed m (open_named more m.owner.origin) (next_name own) own.mark) (λ did. ends (ack_reply more m.owner.name did)) u c.in_ok-give.ensures.given
    (sym (named_again l c.give.new.self c.args.label c.args.request.now gives.count gives.given) ∙ c.in-Some.ensures.cases.named)
    (λ is. ack_plan h own m c.args.request.now c.args.label is)
    (its_off gives c.take.new.self c.args.request.now c.in-Some.place c.in-Some.socket c.in-Some.ensures.cases u c.newcomer-newcomer.result.name c.newcomer-newcomer.result.mark (mine_found c.named-listener.result) c.in-Err.end _ c.newcomer-newcomer.ensures.name c.newcomer-newcomer.ensures.mark
    (c.named-listener.ensures.socket ∙ ap (λ (a : Owner). find (is_named a.origin) (those c.take.new.self.places)) c.owner.ensures.owner)
    c.in_err-refusal-in-Err.ensures.left c.in-Err.ensures.carried)))

pub returns-in_err-give-clause-left : goal.returns-in_err-give-clause-left
returns-in_err-give-clause-left g c =
    on_err c.from_residual.result
    (no_label (ack_gives c.args.request.now c.args.label) c.args.tables.now c.args.self.now c.self.inside.header c.self.inside.labels c.give.new.self c.self.inside.moment c.self.inside.offsets c.self.inside.waits c.args.worker.now
    (record { view = c.self.view_is; names = c.len-child_place.ensures.names }) c.in_err-give.ensures.err)

pub returns-in_err-refusal-in-Err-clause-section : goal.returns-in_err-refusal-in-Err-clause-section
returns-in_err-refusal-in-Err-clause-section g c =
    let t = c.args.tables.now in
    let u = c.ack.new.worker in
    let gives : Giving c.args.tables.now c.args.self.now c.self.inside.header c.self.inside.labels c.give.new.self c.self.inside.moment c.self.inside.offsets c.self.inside.waits c.args.label c.args.worker.now =
    record { before = record { view = c.self.view_is; names = c.len-child_place.ensures.names }; section = c.requires.section; room = c.requires.room; count = c.len-child_place.ensures.places; given = c.in_ok-give.ensures.given } in
    on_err c.from_residual-in_err-refusal-in-Err.result
    (acks_left gives c.take.new.self c.args.request.now c.in-Some.place c.in-Some.socket c.in-Some.ensures.cases u c.ack.ensures.ready c.ack.ensures.caller c.put-in-Err.new.self
    (its_off gives c.take.new.self c.args.request.now c.in-Some.place c.in-Some.socket c.in-Some.ensures.cases u c.newcomer-newcomer.result.name c.newcomer-newcomer.result.mark (mine_found c.named-listener.result) c.in-Err.end _ c.newcomer-newcomer.ensures.name c.newcomer-newcomer.ensures.mark
    (c.named-listener.ensures.socket ∙ ap (λ (a : Owner). find (is_named a.origin) (those c.take.new.self.places)) c.owner.ensures.owner)
    c.in_err-refusal-in-Err.ensures.left c.in-Err.ensures.carried)
    (typed_stands t c.in-Some.socket (turned u) (chained t u) c.in-Some.ensures.cases.state c.in-Err.ensures.kept)
    (c.put-in-Err.ensures.put ∙ ap (λ x. with_place c.take.new.self c.in-Some.place (Some (mine_of x))) c.in-Err.ensures.back))

pub returns-in_err-give-clause-section : goal.returns-in_err-give-clause-section
returns-in_err-give-clause-section g c =
    on_err c.from_residual.result
    (same_section c.args.tables.now c.args.self.now c.self.inside.header c.self.inside.labels c.give.new.self c.self.inside.moment c.self.inside.offsets c.self.inside.waits c.args.worker.now c.self.view_is c.in_err-give.ensures.err c.requires.section)

pub returns-in_err-give-clause-gives : goal.returns-in_err-give-clause-gives
returns-in_err-give-clause-gives g c =
    gives_not (commands.Ack c.args.request.now c.args.label) c.args.self.now.own.labels c.give.new.self.labels
    (labels_same c.args.self.now c.self.inside.header c.self.inside.labels c.give.new.self c.self.inside.moment c.self.inside.offsets c.self.inside.waits c.self.view_is c.in_err-give.ensures.err) c.from_residual.result c.from_residual.ensures.0

pub returns-in_default-clause-gives : goal.returns-in_default-clause-gives
returns-in_default-clause-gives g c =
    ap (λ (x : Labelled). x.labels) c.in_default.ensures.cases.kept
    ∙ (labels_more c.args.self.now c.self.inside.header c.self.inside.labels c.give.new.self c.self.inside.moment c.self.inside.offsets c.self.inside.waits c.self.view_is c.args.label c.in_ok-give.ensures.given)

pub returns-in-Ok-clause-gives : goal.returns-in-Ok-clause-gives
returns-in-Ok-clause-gives g c =
    ap (λ (x : Labelled). x.labels) c.put.ensures.put ∙ (ap (λ (x : Labelled). x.labels) c.in-Some.ensures.cases.after ∙ (labels_more c.args.self.now c.self.inside.header c.self.inside.labels c.give.new.self c.self.inside.moment c.self.inside.offsets c.self.inside.waits c.self.view_is c.args.label c.in_ok-give.ensures.given))

pub returns-in_ok-refusal-in-Err-clause-gives : goal.returns-in_ok-refusal-in-Err-clause-gives
returns-in_ok-refusal-in-Err-clause-gives g c =
    ap (λ (x : Labelled). x.labels) c.put-in-Err.ensures.put ∙ (ap (λ (x : Labelled). x.labels) c.in-Some.ensures.cases.after ∙ (labels_more c.args.self.now c.self.inside.header c.self.inside.labels c.give.new.self c.self.inside.moment c.self.inside.offsets c.self.inside.waits c.self.view_is c.args.label c.in_ok-give.ensures.given))

pub returns-in_err-refusal-in-Err-clause-gives : goal.returns-in_err-refusal-in-Err-clause-gives
returns-in_err-refusal-in-Err-clause-gives g c =
    gives_one (commands.Ack c.args.request.now c.args.label) c.args.self.now.own.labels c.put-in-Err.new.self.labels
    (ap (λ (x : Labelled). x.labels) c.put-in-Err.ensures.put ∙ (ap (λ (x : Labelled). x.labels) c.in-Some.ensures.cases.after ∙ (labels_more c.args.self.now c.self.inside.header c.self.inside.labels c.give.new.self c.self.inside.moment c.self.inside.offsets c.self.inside.waits c.self.view_is c.args.label c.in_ok-give.ensures.given))) c.from_residual-in_err-refusal-in-Err.result

pub returns-in_err-refusal-in-Err-clause-patient : goal.returns-in_err-refusal-in-Err-clause-patient
returns-in_err-refusal-in-Err-clause-patient g c = λ endless.
    err_patient c.from_residual-in_err-refusal-in-Err.result c.in-Err.end c.in_err-refusal-in-Err.field-0.0 c.from_residual-in_err-refusal-in-Err.ensures.1 c.in_err-refusal-in-Err.ensures.left (c.in-Err.ensures.patient endless)
