use Rattle.std.proofs.Common.{ℕ, Some, Ok, Err, refl, sym, ap, ◌∙◌, subst}
use Rattle.flat_list.specs.declared.header.First.TheVariants as firsts
use Rattle.flat_list.specs.declared.command.Command.TheVariants as commands
use Rattle.flat_list.specs.declared.command.Reply.TheVariants as replies
use Rattle.flat_list.specs.Sections.{name_at}
use Rattle.table_model.specs.Asking.{Asking, ends}
use Rattle.table_model.specs.Own.{with_socket, ports_of}
use Rattle.table_model.specs.Operations as plan
use Rattle.table_model.specs.Operations.{Did, done, refused}
use Rattle.table_model.specs.Commands.{answers, after_search, bind_command, bind_reply, bind_error, searches_port}
use Rattle.sock_ops.specs.Goes.{Went}
use Rattle.sock_ops.specs.Socks.{mine_of, first_mine}
use Rattle.sock_ops.specs.Stands.{buckets_of, turned, chained}
use Rattle.sock_ops.proofs.BindStands.{bind_stands}
use Rattle.section_machine.specs.Places.{Labelled, own_of, with_place}
use Rattle.section_machine.specs.Sections.{Kept}
use Rattle.section_machine.specs.Searches as searches
use Rattle.section_machine.specs.Sections.{Kept}
use Rattle.section_machine.proofs.Asked.{of_bind, still_named}
use Rattle.section_machine.proofs.Searches.{bind_same}
use Rattle.section_machine.proofs.Gives.{err_patient, gives_none, labels_put, labels_same, no_more}
use Rattle.section_machine.proofs.LeftOff.{off_as, socket_left, bind_plan, its_speaker, its_search}
use Rattle.section_machine.proofs.Settled.{nobody, done_so, left_so, refused_then, refused_went, before, stands_before, tells_before, of_header, on_err, sockets_back}
use Rattle.section_machine.proofs.machine.Machine.bind.Goals as goal

pub returns-in_default-clause-carried : goal.returns-in_default-clause-carried
returns-in_default-clause-carried g c =
    nobody c.args.tables.now c.args.self.now c.self.inside.header c.self.inside.labels c.take.new.self c.self.inside.moment c.self.inside.offsets c.self.inside.waits c.args.label.now c.args.worker.now
    (record { view = c.self.view_is; names = c.take.ensures.names }) c.in_default.ensures.cases c.requires.section (λ h x o. bind_command x o c.args.end) (λ h x. refl)

pub bind-requires-clause-may : goal.bind-requires-clause-may
bind-requires-clause-may g c =
    tells_before c.args.tables.now c.args.self.now c.self.inside.header c.self.inside.labels c.take.new.self c.self.inside.moment c.self.inside.offsets c.self.inside.waits c.args.label.now c.in-Some.place c.in-Some.socket c.args.worker.now
    (record { view = c.self.view_is; names = c.take.ensures.names }) c.in-Some.ensures.cases c.requires.section

pub put-requires-clause-name : goal.put-requires-clause-name
put-requires-clause-name g c =
    still_named (mine_of c.in-Some.socket) (mine_of c.in-Ok.socket) _ _ _ _ _ _ (of_bind (mine_of c.in-Some.socket) c.args.end c.ports-ports.result) c.in-Ok.ensures.carried
    ∙ (c.in-Some.ensures.cases.name ∙ ap (λ (l : Labelled). name_at l.number c.in-Some.place) (sym c.in-Some.ensures.cases.after))

pub returns-in_err-refusal-in-Err-clause-err : goal.returns-in_err-refusal-in-Err-clause-err
returns-in_err-refusal-in-Err-clause-err g c =
    on_err c.from_residual.result
    (sockets_back c.args.self.now c.self.inside.header c.self.inside.labels c.take.new.self c.put-in-Err.new.self c.self.inside.moment c.self.inside.offsets c.self.inside.waits c.in-Some.place (mine_of c.in-Some.socket) c.self.view_is c.in-Some.ensures.cases.there c.in-Some.ensures.cases.after
    (c.put-in-Err.ensures.put ∙ ap (λ x. with_place c.take.new.self c.in-Some.place (Some (mine_of x))) c.in-Err.ensures.back))

pub returns-in-Ok-clause-carried : goal.returns-in-Ok-clause-carried
returns-in-Ok-clause-carried g c =
    let t = c.args.tables.now in
    let h = c.self.inside.header in
    let o = c.self.inside.offsets in
    let s = c.in-Some.socket in
    let w = c.args.worker.now in
    let u = c.bind.new.worker in
    let began = searches_port (mine_of s).owner c.args.end in
    let same = bind_same (mine_of s) c.args.end c.ports-ports.result (ports_of o firsts.Odd) (λ yes. c.ports-ports.ensures.ports (c.searches_bind-begins.ensures ∙ yes)) in
    let p = plan.bind (mine_of s) c.args.end (ports_of o firsts.Odd) in
    let rest = ends (done (mine_of c.in-Ok.socket)) in
    let stood = stands_before t c.args.self.now c.self.inside.header c.self.inside.labels c.take.new.self c.self.inside.moment c.self.inside.offsets c.self.inside.waits c.args.label.now c.in-Some.place s w
    (record { view = c.self.view_is; names = c.take.ensures.names }) c.in-Some.ensures.cases c.requires.section in
    let left = bind_stands t s c.args.end c.ports-ports.result (turned w) (turned u) (chained t w) (chained t u) (Ok (c.in-Ok.socket, c.in-Ok.port)) c.in-Some.ensures.cases.state stood c.in-Ok.ensures.carried in
    let sec = before t c.args.self.now h c.self.inside.labels c.take.new.self c.self.inside.moment o c.self.inside.waits c.args.label.now c.in-Some.place s w (record { view = c.self.view_is; names = c.take.ensures.names }) c.in-Some.ensures.cases c.requires.section in
    done_so t c.args.self.now h c.self.inside.labels c.take.new.self c.self.inside.moment o c.self.inside.waits c.args.label.now c.in-Some.place s w
    (record { view = c.self.view_is; names = c.take.ensures.names }) c.in-Some.ensures.cases c.requires.section u c.bind.ensures.ready c.bind.ensures.caller p (of_bind (mine_of s) c.args.end (ports_of o firsts.Odd))
    (λ h x o. bind_command x o c.args.end) began bind_reply refl c.ports-ports.new.self (c.ports-ports.ensures.after ∙ ap (λ b. searches.after_search b o) c.searches_bind-begins.ensures)
    c.in-Ok.socket (replies.Port c.in-Ok.port) c.put.new.self
    (of_header h t (λ shape seed. p) (turned w) (turned u) (chained t w) (chained t u) rest sec.tables
    (subst (λ (q : Asking Did). Went (buckets_of t) q (turned w) (turned u) (chained t w) (chained t u) rest) same c.in-Ok.ensures.carried))
    c.put.ensures.state (left c.put.ensures.state) c.put.ensures.put
    (λ x. ap (λ (n : ℕ). answers (with_socket x (mine_of c.in-Ok.socket)) (replies.Port n)) (sym c.in-Ok.ensures.port))

pub returns-in_ok-refusal-in-Err-clause-carried : goal.returns-in_ok-refusal-in-Err-clause-carried
returns-in_ok-refusal-in-Err-clause-carried g c =
    let t = c.args.tables.now in
    let h = c.self.inside.header in
    let o = c.self.inside.offsets in
    let s = c.in-Some.socket in
    let w = c.args.worker.now in
    let u = c.bind.new.worker in
    let began = searches_port (mine_of s).owner c.args.end in
    let same = bind_same (mine_of s) c.args.end c.ports-ports.result (ports_of o firsts.Odd) (λ yes. c.ports-ports.ensures.ports (c.searches_bind-begins.ensures ∙ yes)) in
    let p = plan.bind (mine_of s) c.args.end (ports_of o firsts.Odd) in
    let rest = ends (refused c.in-Err.end) in
    let stood = stands_before t c.args.self.now c.self.inside.header c.self.inside.labels c.take.new.self c.self.inside.moment c.self.inside.offsets c.self.inside.waits c.args.label.now c.in-Some.place s w
    (record { view = c.self.view_is; names = c.take.ensures.names }) c.in-Some.ensures.cases c.requires.section in
    let left = bind_stands t s c.args.end c.ports-ports.result (turned w) (turned u) (chained t w) (chained t u) (Err c.in-Err.end) c.in-Some.ensures.cases.state stood c.in-Err.ensures.carried in
    let sec = before t c.args.self.now h c.self.inside.labels c.take.new.self c.self.inside.moment o c.self.inside.waits c.args.label.now c.in-Some.place s w (record { view = c.self.view_is; names = c.take.ensures.names }) c.in-Some.ensures.cases c.requires.section in
    refused_then t c.args.self.now h c.self.inside.labels c.take.new.self c.self.inside.moment o c.self.inside.waits c.args.label.now c.in-Some.place s w
    (record { view = c.self.view_is; names = c.take.ensures.names }) c.in-Some.ensures.cases c.requires.section u c.bind.ensures.ready c.bind.ensures.caller p (of_bind (mine_of s) c.args.end (ports_of o firsts.Odd))
    (λ h x o. bind_command x o c.args.end) began bind_reply refl c.ports-ports.new.self (c.ports-ports.ensures.after ∙ ap (λ b. searches.after_search b o) c.searches_bind-begins.ensures)
    c.in-Err.end c.bind_error.result c.put-in-Err.new.self
    (of_header h t (λ shape seed. p) (turned w) (turned u) (chained t w) (chained t u) rest sec.tables
    (subst (λ (q : Asking Did). Went (buckets_of t) q (turned w) (turned u) (chained t w) (chained t u) rest) same
    (refused_went (first_mine {B = ℕ}) (buckets_of t) _ (turned w) (turned u) (chained t w) (chained t u) c.in-Err.end c.in_ok-refusal-in-Err.ensures.kept.told c.in-Err.ensures.carried)))
    left
    (c.put-in-Err.ensures.put ∙ ap (λ x. with_place c.take.new.self c.in-Some.place (Some (mine_of x))) c.in-Err.ensures.back)
    (λ x. ap (answers x) (sym (c.bind_error.ensures ∙ ap bind_error c.in_ok-refusal-in-Err.ensures.kept.same)))

pub returns-in_err-refusal-in-Err-clause-left : goal.returns-in_err-refusal-in-Err-clause-left
returns-in_err-refusal-in-Err-clause-left g c =
    let t = c.args.tables.now in
    let h = c.self.inside.header in
    let o = c.self.inside.offsets in
    let s = c.in-Some.socket in
    let w = c.args.worker.now in
    let u = c.bind.new.worker in
    let began = searches_port (mine_of s).owner c.args.end in
    let own = own_of c.self.inside.labels c.self.inside.moment o c.self.inside.waits in
    let same = bind_same (mine_of s) c.args.end c.ports-ports.result (ports_of o firsts.Odd) (λ yes. c.ports-ports.ensures.ports (c.searches_bind-begins.ensures ∙ yes)) in
    let p = plan.bind (mine_of s) c.args.end (ports_of o firsts.Odd) in
    let sec = before t c.args.self.now h c.self.inside.labels c.take.new.self c.self.inside.moment o c.self.inside.waits c.args.label.now c.in-Some.place s w (record { view = c.self.view_is; names = c.take.ensures.names }) c.in-Some.ensures.cases c.requires.section in
    on_err c.from_residual.result
    (socket_left t c.args.self.now h c.self.inside.labels c.take.new.self c.put-in-Err.new.self c.self.inside.moment o c.ports-ports.new.self c.self.inside.waits c.args.label.now c.in-Some.place s w u
    (record { view = c.self.view_is; names = c.take.ensures.names }) c.in-Some.ensures.cases (c.put-in-Err.ensures.put ∙ ap (λ x. with_place c.take.new.self c.in-Some.place (Some (mine_of x))) c.in-Err.ensures.back) (commands.Bind c.args.label.now c.args.end) began (c.ports-ports.ensures.after ∙ ap (λ b. searches.after_search b o) c.searches_bind-begins.ensures)
    p (λ did. ends (bind_reply (after_search began own) did)) (λ e. bind_plan h own c.args.label.now (mine_of s) e c.args.end) (λ e. its_speaker h own c.args.label.now (mine_of s) e) (λ e deeds back. its_search h own c.args.label.now (mine_of s) e (λ m. searches_port m.owner c.args.end))
    (off_as (first_mine {B = ℕ}) h t (λ shape seed. p) _ (mine_of s).owner.name (turned w) (turned u) (chained t w) (chained t u) c.in-Err.end _ sec.tables same c.in_err-refusal-in-Err.ensures.left c.in-Err.ensures.carried))

pub returns-in_err-refusal-in-Err-clause-section : goal.returns-in_err-refusal-in-Err-clause-section
returns-in_err-refusal-in-Err-clause-section g c =
    let t = c.args.tables.now in
    let h = c.self.inside.header in
    let o = c.self.inside.offsets in
    let s = c.in-Some.socket in
    let w = c.args.worker.now in
    let u = c.bind.new.worker in
    let same = bind_same (mine_of s) c.args.end c.ports-ports.result (ports_of o firsts.Odd) (λ yes. c.ports-ports.ensures.ports (c.searches_bind-begins.ensures ∙ yes)) in
    let p = plan.bind (mine_of s) c.args.end (ports_of o firsts.Odd) in
    let stood = stands_before t c.args.self.now c.self.inside.header c.self.inside.labels c.take.new.self c.self.inside.moment c.self.inside.offsets c.self.inside.waits c.args.label.now c.in-Some.place s w
    (record { view = c.self.view_is; names = c.take.ensures.names }) c.in-Some.ensures.cases c.requires.section in
    let left = bind_stands t s c.args.end c.ports-ports.result (turned w) (turned u) (chained t w) (chained t u) (Err c.in-Err.end) c.in-Some.ensures.cases.state stood c.in-Err.ensures.carried in
    let sec = before t c.args.self.now c.self.inside.header c.self.inside.labels c.take.new.self c.self.inside.moment c.self.inside.offsets c.self.inside.waits c.args.label.now c.in-Some.place s w (record { view = c.self.view_is; names = c.take.ensures.names }) c.in-Some.ensures.cases c.requires.section in
    on_err c.from_residual.result
    (left_so t c.args.self.now c.self.inside.header c.self.inside.labels c.take.new.self c.self.inside.moment c.self.inside.offsets c.self.inside.waits c.args.label.now c.in-Some.place s w
    (record { view = c.self.view_is; names = c.take.ensures.names }) c.in-Some.ensures.cases c.requires.section u c.bind.ensures.ready c.bind.ensures.caller p (of_bind (mine_of s) c.args.end (ports_of o firsts.Odd)) c.ports-ports.new.self c.put-in-Err.new.self
    (off_as (first_mine {B = ℕ}) h t (λ shape seed. p) _ (mine_of s).owner.name (turned w) (turned u) (chained t w) (chained t u) c.in-Err.end _ sec.tables same c.in_err-refusal-in-Err.ensures.left c.in-Err.ensures.carried)
    left (c.put-in-Err.ensures.put ∙ ap (λ x. with_place c.take.new.self c.in-Some.place (Some (mine_of x))) c.in-Err.ensures.back))

pub returns-in_default-clause-gives : goal.returns-in_default-clause-gives
returns-in_default-clause-gives g c =
    no_more _ _ (labels_same c.args.self.now c.self.inside.header c.self.inside.labels c.take.new.self c.self.inside.moment c.self.inside.offsets c.self.inside.waits c.self.view_is c.in_default.ensures.cases.kept)

pub returns-in-Ok-clause-gives : goal.returns-in-Ok-clause-gives
returns-in-Ok-clause-gives g c =
    no_more _ _ (labels_put c.self.inside.labels c.take.new.self c.put.new.self c.in-Some.place c.in-Some.place _ _ c.in-Some.ensures.cases.after c.put.ensures.put ∙ ap (λ (k : Kept). k.own.labels) c.self.view_is)

pub returns-in_ok-refusal-in-Err-clause-gives : goal.returns-in_ok-refusal-in-Err-clause-gives
returns-in_ok-refusal-in-Err-clause-gives g c =
    no_more _ _ (labels_put c.self.inside.labels c.take.new.self c.put-in-Err.new.self c.in-Some.place c.in-Some.place _ _ c.in-Some.ensures.cases.after c.put-in-Err.ensures.put ∙ ap (λ (k : Kept). k.own.labels) c.self.view_is)

pub returns-in_err-refusal-in-Err-clause-gives : goal.returns-in_err-refusal-in-Err-clause-gives
returns-in_err-refusal-in-Err-clause-gives g c =
    gives_none (commands.Bind c.args.label.now c.args.end) c.args.self.now.own.labels c.put-in-Err.new.self.labels refl (labels_put c.self.inside.labels c.take.new.self c.put-in-Err.new.self c.in-Some.place c.in-Some.place _ _ c.in-Some.ensures.cases.after c.put-in-Err.ensures.put ∙ ap (λ (k : Kept). k.own.labels) c.self.view_is) c.from_residual.result

pub returns-in_err-refusal-in-Err-clause-patient : goal.returns-in_err-refusal-in-Err-clause-patient
returns-in_err-refusal-in-Err-clause-patient g c = λ endless.
    err_patient c.from_residual.result c.in-Err.end c.in_err-refusal-in-Err.field-0.0 c.from_residual.ensures.1 c.in_err-refusal-in-Err.ensures.left (c.in-Err.ensures.patient endless)
