use Rattle.std.proofs.Common.{ℕ, ◌+◌, length, arith, Some, refl, sym, ap, ◌∙◌, subst}
use Rattle.flat_list.specs.declared.header.First.TheVariants as firsts
use Rattle.flat_list.specs.declared.command.Command.TheVariants as commands
use Rattle.flat_list.specs.declared.command.Reply.TheVariants as replies
use Rattle.flat_list.specs.Sections.{name_at}
use Rattle.table_model.specs.Asking.{Asking, ends}
use Rattle.table_model.specs.Own.{with_socket, ports_of}
use Rattle.table_model.specs.Operations as plan
use Rattle.table_model.specs.Operations.{Did, done, refused}
use Rattle.table_model.specs.Commands.{answers, after_search, listen_command, bind_reply, bind_error, is_unbound}
use Rattle.sock_ops.specs.Goes.{Went}
use Rattle.sock_ops.specs.Socks.{mine_of, first_mine}
use Rattle.sock_ops.specs.Stands.{buckets_of, turned, chained}
use Rattle.section_machine.specs.Places.{Labelled, with_place}
use Rattle.section_machine.specs.Searches as searches
use Rattle.section_machine.proofs.Asked.{of_listen, still_named}
use Rattle.section_machine.proofs.Spent.{spends_of}
use Rattle.section_machine.specs.Places.{own_of}
use Rattle.section_machine.specs.Sections.{Kept, kept}
use Rattle.section_machine.proofs.Searches.{listen_same}
use Rattle.section_machine.proofs.Gives.{err_patient, gives_none, labels_put, labels_same, no_more}
use Rattle.section_machine.proofs.LeftOff.{off_out, socket_left, listen_plan, its_speaker, its_search}
use Rattle.section_machine.proofs.Settled.{nobody, done_so, left_so, refused_then, refused_out, before, stands_before, tells_before, of_header, on_err, sockets_back}
use Rattle.section_machine.proofs.machine.Machine.listen.Goals as goal

pub returns-in_default-clause-carried : goal.returns-in_default-clause-carried
returns-in_default-clause-carried g c =
    nobody c.args.tables.now c.args.self.now c.self.inside.header c.self.inside.labels c.take.new.self c.self.inside.moment c.self.inside.offsets c.self.inside.waits c.args.label.now c.args.worker.now
    (record { view = c.self.view_is; names = c.take.ensures.names }) c.in_default.ensures.cases c.requires.section (λ h x o. listen_command h x o) (λ h x. refl)

pub listen-requires-clause-may : goal.listen-requires-clause-may
listen-requires-clause-may g c =
    tells_before c.args.tables.now c.args.self.now c.self.inside.header c.self.inside.labels c.take.new.self c.self.inside.moment c.self.inside.offsets c.self.inside.waits c.args.label.now c.in-Some.place c.in-Some.socket c.args.worker.now
    (record { view = c.self.view_is; names = c.take.ensures.names }) c.in-Some.ensures.cases c.requires.section

pub listen-requires-clause-stands : goal.listen-requires-clause-stands
listen-requires-clause-stands g c =
    stands_before c.args.tables.now c.args.self.now c.self.inside.header c.self.inside.labels c.take.new.self c.self.inside.moment c.self.inside.offsets c.self.inside.waits c.args.label.now c.in-Some.place c.in-Some.socket c.args.worker.now
    (record { view = c.self.view_is; names = c.take.ensures.names }) c.in-Some.ensures.cases c.requires.section

pub put-requires-clause-name : goal.put-requires-clause-name
put-requires-clause-name g c =
    still_named (mine_of c.in-Some.socket) (mine_of c.in-Ok.socket) _ _ _ _ _ _ (of_listen c.args.tables.now.chains.layout.shape c.args.tables.now.chains.layout.seed (mine_of c.in-Some.socket) c.ports-ports.result) c.in-Ok.ensures.carried
    ∙ (c.in-Some.ensures.cases.name ∙ ap (λ (l : Labelled). name_at l.number c.in-Some.place) (sym c.in-Some.ensures.cases.after))

pub returns-in_err-refusal-in-Err-clause-err : goal.returns-in_err-refusal-in-Err-clause-err
returns-in_err-refusal-in-Err-clause-err g c =
    on_err c.from_residual.result
    (sockets_back c.args.self.now c.self.inside.header c.self.inside.labels c.take.new.self c.put-in-Err.new.self c.self.inside.moment c.self.inside.offsets c.self.inside.waits c.in-Some.place (mine_of c.in-Some.socket) c.self.view_is c.in-Some.ensures.cases.there c.in-Some.ensures.cases.after
    (c.put-in-Err.ensures.put ∙ ap (λ x. with_place c.take.new.self c.in-Some.place (Some (mine_of x))) c.in-Err.ensures.back))

pub returns-in-Ok-clause-carried : goal.returns-in-Ok-clause-carried
returns-in-Ok-clause-carried g c =
    let t = c.args.tables.now in
    let h = c.self.inside.header in
    let o = c.self.inside.offsets in
    let s = c.in-Some.socket in
    let w = c.args.worker.now in
    let u = c.listen.new.worker in
    let began = is_unbound (mine_of s).owner.state in
    let same = listen_same t.chains.layout.shape t.chains.layout.seed (mine_of s) c.ports-ports.result (ports_of o firsts.Odd) (λ yes. c.ports-ports.ensures.ports (c.is_unbound-begins.ensures ∙ yes)) in
    let p = plan.listen h.shape h.seed (mine_of s) (ports_of o firsts.Odd) in
    let rest = ends (done (mine_of c.in-Ok.socket)) in
    let sec = before t c.args.self.now h c.self.inside.labels c.take.new.self c.self.inside.moment o c.self.inside.waits c.args.label.now c.in-Some.place s w (record { view = c.self.view_is; names = c.take.ensures.names }) c.in-Some.ensures.cases c.requires.section in
    done_so t c.args.self.now h c.self.inside.labels c.take.new.self c.self.inside.moment o c.self.inside.waits c.args.label.now c.in-Some.place s w
    (record { view = c.self.view_is; names = c.take.ensures.names }) c.in-Some.ensures.cases c.requires.section u c.listen.ensures.ready c.listen.ensures.caller p (of_listen h.shape h.seed (mine_of s) (ports_of o firsts.Odd))
    (λ h x o. listen_command h x o) began bind_reply refl c.ports-ports.new.self (c.ports-ports.ensures.after ∙ ap (λ b. searches.after_search b o) c.is_unbound-begins.ensures)
    c.in-Ok.socket (replies.Port c.in-Ok.port) c.put.new.self
    (of_header h t (λ shape seed. plan.listen shape seed (mine_of s) (ports_of o firsts.Odd)) (turned w) (turned u) (chained t w) (chained t u) rest sec.tables
    (subst (λ (q : Asking Did). Went (buckets_of t) q (turned w) (turned u) (chained t w) (chained t u) rest) same c.in-Ok.ensures.carried))
    c.put.ensures.state c.in-Ok.ensures.stands c.put.ensures.put
    (λ x. ap (λ (n : ℕ). answers (with_socket x (mine_of c.in-Ok.socket)) (replies.Port n)) (sym c.in-Ok.ensures.port))

pub returns-in_ok-refusal-in-Err-clause-carried : goal.returns-in_ok-refusal-in-Err-clause-carried
returns-in_ok-refusal-in-Err-clause-carried g c =
    let t = c.args.tables.now in
    let h = c.self.inside.header in
    let o = c.self.inside.offsets in
    let s = c.in-Some.socket in
    let w = c.args.worker.now in
    let u = c.listen.new.worker in
    let began = is_unbound (mine_of s).owner.state in
    let same = listen_same t.chains.layout.shape t.chains.layout.seed (mine_of s) c.ports-ports.result (ports_of o firsts.Odd) (λ yes. c.ports-ports.ensures.ports (c.is_unbound-begins.ensures ∙ yes)) in
    let p = plan.listen h.shape h.seed (mine_of s) (ports_of o firsts.Odd) in
    let rest = ends (refused c.in-Err.end) in
    let sec = before t c.args.self.now h c.self.inside.labels c.take.new.self c.self.inside.moment o c.self.inside.waits c.args.label.now c.in-Some.place s w (record { view = c.self.view_is; names = c.take.ensures.names }) c.in-Some.ensures.cases c.requires.section in
    refused_then t c.args.self.now h c.self.inside.labels c.take.new.self c.self.inside.moment o c.self.inside.waits c.args.label.now c.in-Some.place s w
    (record { view = c.self.view_is; names = c.take.ensures.names }) c.in-Some.ensures.cases c.requires.section u c.listen.ensures.ready c.listen.ensures.caller p (of_listen h.shape h.seed (mine_of s) (ports_of o firsts.Odd))
    (λ h x o. listen_command h x o) began bind_reply refl c.ports-ports.new.self (c.ports-ports.ensures.after ∙ ap (λ b. searches.after_search b o) c.is_unbound-begins.ensures)
    c.in-Err.end c.bind_error.result c.put-in-Err.new.self
    (of_header h t (λ shape seed. plan.listen shape seed (mine_of s) (ports_of o firsts.Odd)) (turned w) (turned u) (chained t w) (chained t u) rest sec.tables
    (subst (λ (q : Asking Did). Went (buckets_of t) q (turned w) (turned u) (chained t w) (chained t u) rest) same
    (refused_out (first_mine {B = ℕ}) (buckets_of t) (mine_of s).owner.name _ (turned w) (turned u) (chained t w) (chained t u) c.in-Err.end c.in_ok-refusal-in-Err.ensures.kept.told c.in-Err.ensures.carried)))
    c.in-Err.ensures.kept
    (c.put-in-Err.ensures.put ∙ ap (λ x. with_place c.take.new.self c.in-Some.place (Some (mine_of x))) c.in-Err.ensures.back)
    (λ x. ap (answers x) (sym (c.bind_error.ensures ∙ ap bind_error c.in_ok-refusal-in-Err.ensures.kept.same)))

pub returns-in-Ok-clause-spends : goal.returns-in-Ok-clause-spends
returns-in-Ok-clause-spends g c =
    spends_of c.args.self.now (kept c.self.inside.header (own_of c.put.new.self c.self.inside.moment c.ports-ports.new.self c.self.inside.waits)) c.args.worker.now c.listen.new.worker c.self.inside.waits 2 (length c.ports-ports.result + 2) 0 (ap (λ (k : Kept). length k.own.waits) (sym c.self.view_is)) (omega arith) c.listen.ensures.entered (let few = c.ports-ports.ensures.few in omega (arith, few)) (omega arith) c.listen.ensures.drawn

pub returns-in_err-refusal-in-Err-clause-spends : goal.returns-in_err-refusal-in-Err-clause-spends
returns-in_err-refusal-in-Err-clause-spends g c =
    spends_of c.args.self.now (kept c.self.inside.header (own_of c.put-in-Err.new.self c.self.inside.moment c.ports-ports.new.self c.self.inside.waits)) c.args.worker.now c.listen.new.worker c.self.inside.waits 2 (length c.ports-ports.result + 2) 0 (ap (λ (k : Kept). length k.own.waits) (sym c.self.view_is)) (omega arith) c.listen.ensures.entered (let few = c.ports-ports.ensures.few in omega (arith, few)) (omega arith) c.listen.ensures.drawn

pub returns-in_ok-refusal-in-Err-clause-spends : goal.returns-in_ok-refusal-in-Err-clause-spends
returns-in_ok-refusal-in-Err-clause-spends g c =
    spends_of c.args.self.now (kept c.self.inside.header (own_of c.put-in-Err.new.self c.self.inside.moment c.ports-ports.new.self c.self.inside.waits)) c.args.worker.now c.listen.new.worker c.self.inside.waits 2 (length c.ports-ports.result + 2) 0 (ap (λ (k : Kept). length k.own.waits) (sym c.self.view_is)) (omega arith) c.listen.ensures.entered (let few = c.ports-ports.ensures.few in omega (arith, few)) (omega arith) c.listen.ensures.drawn

pub returns-in_err-refusal-in-Err-clause-left : goal.returns-in_err-refusal-in-Err-clause-left
returns-in_err-refusal-in-Err-clause-left g c =
    let t = c.args.tables.now in
    let h = c.self.inside.header in
    let o = c.self.inside.offsets in
    let s = c.in-Some.socket in
    let w = c.args.worker.now in
    let u = c.listen.new.worker in
    let began = is_unbound (mine_of s).owner.state in
    let own = own_of c.self.inside.labels c.self.inside.moment o c.self.inside.waits in
    let same = listen_same t.chains.layout.shape t.chains.layout.seed (mine_of s) c.ports-ports.result (ports_of o firsts.Odd) (λ yes. c.ports-ports.ensures.ports (c.is_unbound-begins.ensures ∙ yes)) in
    let p = plan.listen h.shape h.seed (mine_of s) (ports_of o firsts.Odd) in
    let sec = before t c.args.self.now h c.self.inside.labels c.take.new.self c.self.inside.moment o c.self.inside.waits c.args.label.now c.in-Some.place s w (record { view = c.self.view_is; names = c.take.ensures.names }) c.in-Some.ensures.cases c.requires.section in
    on_err c.from_residual.result
    (socket_left t c.args.self.now h c.self.inside.labels c.take.new.self c.put-in-Err.new.self c.self.inside.moment o c.ports-ports.new.self c.self.inside.waits c.args.label.now c.in-Some.place s w u
    (record { view = c.self.view_is; names = c.take.ensures.names }) c.in-Some.ensures.cases (c.put-in-Err.ensures.put ∙ ap (λ x. with_place c.take.new.self c.in-Some.place (Some (mine_of x))) c.in-Err.ensures.back) (commands.Listen c.args.label.now) began (c.ports-ports.ensures.after ∙ ap (λ b. searches.after_search b o) c.is_unbound-begins.ensures)
    p (λ did. ends (bind_reply (after_search began own) did)) (λ e. listen_plan h own c.args.label.now (mine_of s) e) (λ e. its_speaker h own c.args.label.now (mine_of s) e) (λ e deeds back. its_search h own c.args.label.now (mine_of s) e (λ m. is_unbound m.owner.state))
    (off_out (first_mine {B = ℕ}) h t (λ shape seed. plan.listen shape seed (mine_of s) (ports_of o firsts.Odd)) _ (mine_of s).owner.name (turned w) (turned u) (chained t w) (chained t u) c.in-Err.end _ sec.tables same c.in_err-refusal-in-Err.ensures.left c.in-Err.ensures.carried))

pub returns-in_err-refusal-in-Err-clause-section : goal.returns-in_err-refusal-in-Err-clause-section
returns-in_err-refusal-in-Err-clause-section g c =
    let t = c.args.tables.now in
    let h = c.self.inside.header in
    let o = c.self.inside.offsets in
    let s = c.in-Some.socket in
    let w = c.args.worker.now in
    let u = c.listen.new.worker in
    let same = listen_same t.chains.layout.shape t.chains.layout.seed (mine_of s) c.ports-ports.result (ports_of o firsts.Odd) (λ yes. c.ports-ports.ensures.ports (c.is_unbound-begins.ensures ∙ yes)) in
    let p = plan.listen h.shape h.seed (mine_of s) (ports_of o firsts.Odd) in
    let sec = before t c.args.self.now c.self.inside.header c.self.inside.labels c.take.new.self c.self.inside.moment c.self.inside.offsets c.self.inside.waits c.args.label.now c.in-Some.place s w (record { view = c.self.view_is; names = c.take.ensures.names }) c.in-Some.ensures.cases c.requires.section in
    on_err c.from_residual.result
    (left_so t c.args.self.now c.self.inside.header c.self.inside.labels c.take.new.self c.self.inside.moment c.self.inside.offsets c.self.inside.waits c.args.label.now c.in-Some.place s w
    (record { view = c.self.view_is; names = c.take.ensures.names }) c.in-Some.ensures.cases c.requires.section u c.listen.ensures.ready c.listen.ensures.caller p (of_listen h.shape h.seed (mine_of s) (ports_of o firsts.Odd)) c.ports-ports.new.self c.put-in-Err.new.self
    (off_out (first_mine {B = ℕ}) h t (λ shape seed. plan.listen shape seed (mine_of s) (ports_of o firsts.Odd)) _ (mine_of s).owner.name (turned w) (turned u) (chained t w) (chained t u) c.in-Err.end _ sec.tables same c.in_err-refusal-in-Err.ensures.left c.in-Err.ensures.carried)
    c.in-Err.ensures.kept (c.put-in-Err.ensures.put ∙ ap (λ x. with_place c.take.new.self c.in-Some.place (Some (mine_of x))) c.in-Err.ensures.back))

pub returns-in_default-clause-gives : goal.returns-in_default-clause-gives
returns-in_default-clause-gives g c =
    no_more _ _ (labels_same c.args.self.now c.self.inside.header c.self.inside.labels c.take.new.self c.self.inside.moment c.self.inside.offsets c.self.inside.waits c.self.view_is c.in_default.ensures.cases.kept)

pub returns-in-Ok-clause-gives : goal.returns-in-Ok-clause-gives
returns-in-Ok-clause-gives g c =
    no_more _ _ (labels_put c.self.inside.labels c.take.new.self c.put.new.self c.in-Some.place c.in-Some.place _ _ c.in-Some.ensures.cases.after c.put.ensures.put ∙ ap (λ (k : Kept). k.own.labels) c.self.view_is)

pub returns-in_ok-refusal-in-Err-clause-gives : goal.returns-in_ok-refusal-in-Err-clause-gives
returns-in_ok-refusal-in-Err-clause-gives g c =
    no_more _ _ (labels_put c.self.inside.labels c.take.new.self c.put-in-Err.new.self c.in-Some.place c.in-Some.place _ _ c.in-Some.ensures.cases.after c.put-in-Err.ensures.put ∙ ap (λ (k : Kept). k.own.labels) c.self.view_is)

pub returns-in_err-refusal-in-Err-clause-gives : goal.returns-in_err-refusal-in-Err-clause-gives
returns-in_err-refusal-in-Err-clause-gives g c =
    gives_none (commands.Listen c.args.label.now) c.args.self.now.own.labels c.put-in-Err.new.self.labels refl (labels_put c.self.inside.labels c.take.new.self c.put-in-Err.new.self c.in-Some.place c.in-Some.place _ _ c.in-Some.ensures.cases.after c.put-in-Err.ensures.put ∙ ap (λ (k : Kept). k.own.labels) c.self.view_is) c.from_residual.result

pub returns-in_err-refusal-in-Err-clause-patient : goal.returns-in_err-refusal-in-Err-clause-patient
returns-in_err-refusal-in-Err-clause-patient g c = λ endless.
    err_patient c.from_residual.result c.in-Err.end c.in_err-refusal-in-Err.field-0.0 c.from_residual.ensures.1 c.in_err-refusal-in-Err.ensures.left (c.in-Err.ensures.patient endless)
