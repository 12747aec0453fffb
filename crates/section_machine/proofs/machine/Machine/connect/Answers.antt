use Rattle.std.proofs.Common.{◌&&◌, ◌+◌, length, arith, Some, refl, sym, ap, ◌∙◌, subst}
use Rattle.flat_list.specs.declared.header.First.TheVariants as firsts
use Rattle.flat_list.specs.declared.command.Command.TheVariants as commands
use Rattle.flat_list.specs.declared.command.Reply.TheVariants as replies
use Rattle.flat_list.specs.declared.command.End.{End}
use Rattle.flat_list.specs.Sections.{name_at}
use Rattle.table_model.specs.Asking.{Asking, ends}
use Rattle.table_model.specs.Own.{with_socket, ports_of}
use Rattle.table_model.specs.Operations as plan
use Rattle.table_model.specs.Operations.{Did, done, refused}
use Rattle.table_model.specs.Commands.{answers, after_search, connect_command, connect_reply, connect_error, connect_rule, is_unbound, is_some}
use Rattle.sock_ops.specs.Goes.{Went}
use Rattle.sock_ops.specs.Socks.{mine_of, first_mine}
use Rattle.sock_ops.specs.Stands.{buckets_of, turned, chained}
use Rattle.section_machine.specs.Places.{Labelled, with_place}
use Rattle.section_machine.specs.Searches as searches
use Rattle.section_machine.proofs.Asked.{of_connect, still_named}
use Rattle.section_machine.proofs.Spent.{spends_of}
use Rattle.section_machine.specs.Places.{own_of}
use Rattle.section_machine.specs.Sections.{Kept, kept}
use Rattle.section_machine.proofs.Searches.{connect_same}
use Rattle.section_machine.proofs.Gives.{err_patient, gives_none, labels_put, labels_same, no_more}
use Rattle.section_machine.proofs.LeftOff.{off_as, socket_left, connect_plan, its_speaker, its_search}
use Rattle.section_machine.proofs.Settled.{nobody, done_so, left_so, refused_then, refused_went, before, stands_before, tells_before, of_header, on_err, sockets_back}
use Rattle.section_machine.proofs.machine.Machine.connect.Goals as goal

pub returns-in_default-clause-carried : goal.returns-in_default-clause-carried
returns-in_default-clause-carried g c =
    nobody c.args.tables.now c.args.self.now c.self.inside.header c.self.inside.labels c.take.new.self c.self.inside.moment c.self.inside.offsets c.self.inside.waits c.args.label.now c.args.worker.now
    (record { view = c.self.view_is; names = c.take.ensures.names }) c.in_default.ensures.cases c.requires.section (λ h x o. connect_command h x o c.args.from c.args.to) (λ h x. refl)

pub connect-requires-clause-may : goal.connect-requires-clause-may
connect-requires-clause-may g c =
    tells_before c.args.tables.now c.args.self.now c.self.inside.header c.self.inside.labels c.take.new.self c.self.inside.moment c.self.inside.offsets c.self.inside.waits c.args.label.now c.in-Some.place c.in-Some.socket c.args.worker.now
    (record { view = c.self.view_is; names = c.take.ensures.names }) c.in-Some.ensures.cases c.requires.section

pub connect-requires-clause-stands : goal.connect-requires-clause-stands
connect-requires-clause-stands g c =
    stands_before c.args.tables.now c.args.self.now c.self.inside.header c.self.inside.labels c.take.new.self c.self.inside.moment c.self.inside.offsets c.self.inside.waits c.args.label.now c.in-Some.place c.in-Some.socket c.args.worker.now
    (record { view = c.self.view_is; names = c.take.ensures.names }) c.in-Some.ensures.cases c.requires.section

pub put-requires-clause-name : goal.put-requires-clause-name
put-requires-clause-name g c =
    still_named (mine_of c.in-Some.socket) (mine_of c.in-Ok.socket) _ _ _ _ _ _ (of_connect c.args.tables.now.chains.layout.shape c.args.tables.now.chains.layout.seed (mine_of c.in-Some.socket) c.args.from c.args.to c.self.inside.moment c.connect_rule-rule.result c.ports-ports.result) c.in-Ok.ensures.carried
    ∙ (c.in-Some.ensures.cases.name ∙ ap (λ (l : Labelled). name_at l.number c.in-Some.place) (sym c.in-Some.ensures.cases.after))

pub returns-in_err-refusal-in-Err-clause-err : goal.returns-in_err-refusal-in-Err-clause-err
returns-in_err-refusal-in-Err-clause-err g c =
    on_err c.from_residual.result
    (sockets_back c.args.self.now c.self.inside.header c.self.inside.labels c.take.new.self c.put-in-Err.new.self c.self.inside.moment c.self.inside.offsets c.self.inside.waits c.in-Some.place (mine_of c.in-Some.socket) c.self.view_is c.in-Some.ensures.cases.there c.in-Some.ensures.cases.after
    (c.put-in-Err.ensures.put ∙ ap (λ x. with_place c.take.new.self c.in-Some.place (Some (mine_of x))) c.in-Err.ensures.back))

pub returns-in-Ok-clause-carried : goal.returns-in-Ok-clause-carried
returns-in-Ok-clause-carried g c =
    let t = c.args.tables.now in
    let h = c.self.inside.header in
    let o = c.self.inside.offsets in
    let s = c.in-Some.socket in
    let w = c.args.worker.now in
    let u = c.connect.new.worker in
    let began = is_unbound (mine_of s).owner.state && is_some (plan.source_to (mine_of s).owner c.args.from c.args.to) in
    let m = c.self.inside.moment in
    let same = connect_same t.chains.layout.shape t.chains.layout.seed (mine_of s) c.args.from c.args.to m c.connect_rule-rule.result c.ports-ports.result (ports_of o firsts.Even) (λ yes. c.ports-ports.ensures.ports (c.searches_connect-begins.ensures ∙ yes)) in
    let ours = ports_of o firsts.Even in
    let ruled = ap (λ rule. plan.connect t.chains.layout.shape t.chains.layout.seed (mine_of s) c.args.from c.args.to m rule ours) c.connect_rule-rule.ensures in
    let p = plan.connect h.shape h.seed (mine_of s) c.args.from c.args.to m (connect_rule h) ours in
    let rest = ends (done (mine_of c.in-Ok.socket)) in
    let sec = before t c.args.self.now h c.self.inside.labels c.take.new.self c.self.inside.moment o c.self.inside.waits c.args.label.now c.in-Some.place s w (record { view = c.self.view_is; names = c.take.ensures.names }) c.in-Some.ensures.cases c.requires.section in
    done_so t c.args.self.now h c.self.inside.labels c.take.new.self c.self.inside.moment o c.self.inside.waits c.args.label.now c.in-Some.place s w
    (record { view = c.self.view_is; names = c.take.ensures.names }) c.in-Some.ensures.cases c.requires.section u c.connect.ensures.ready c.connect.ensures.caller p (of_connect h.shape h.seed (mine_of s) c.args.from c.args.to m (connect_rule h) ours)
    (λ h x o. connect_command h x o c.args.from c.args.to) began connect_reply refl c.ports-ports.new.self (c.ports-ports.ensures.after ∙ ap (λ b. searches.after_search b o) c.searches_connect-begins.ensures)
    c.in-Ok.socket (replies.End c.in-Ok.end) c.put.new.self
    (of_header h t (λ shape seed. plan.connect shape seed (mine_of s) c.args.from c.args.to m (connect_rule h) ours) (turned w) (turned u) (chained t w) (chained t u) rest sec.tables
    (subst (λ (q : Asking Did). Went (buckets_of t) q (turned w) (turned u) (chained t w) (chained t u) rest) (same ∙ ruled) c.in-Ok.ensures.carried))
    c.put.ensures.state c.in-Ok.ensures.stands c.put.ensures.put
    (λ x. ap (λ e. answers (with_socket x (mine_of c.in-Ok.socket)) (replies.End e)) (sym c.in-Ok.ensures.own_end))

pub returns-in_ok-refusal-in-Err-clause-carried : goal.returns-in_ok-refusal-in-Err-clause-carried
returns-in_ok-refusal-in-Err-clause-carried g c =
    let t = c.args.tables.now in
    let h = c.self.inside.header in
    let o = c.self.inside.offsets in
    let s = c.in-Some.socket in
    let w = c.args.worker.now in
    let u = c.connect.new.worker in
    let began = is_unbound (mine_of s).owner.state && is_some (plan.source_to (mine_of s).owner c.args.from c.args.to) in
    let m = c.self.inside.moment in
    let same = connect_same t.chains.layout.shape t.chains.layout.seed (mine_of s) c.args.from c.args.to m c.connect_rule-rule.result c.ports-ports.result (ports_of o firsts.Even) (λ yes. c.ports-ports.ensures.ports (c.searches_connect-begins.ensures ∙ yes)) in
    let ours = ports_of o firsts.Even in
    let ruled = ap (λ rule. plan.connect t.chains.layout.shape t.chains.layout.seed (mine_of s) c.args.from c.args.to m rule ours) c.connect_rule-rule.ensures in
    let p = plan.connect h.shape h.seed (mine_of s) c.args.from c.args.to m (connect_rule h) ours in
    let rest = ends (refused c.in-Err.end) in
    let sec = before t c.args.self.now h c.self.inside.labels c.take.new.self c.self.inside.moment o c.self.inside.waits c.args.label.now c.in-Some.place s w (record { view = c.self.view_is; names = c.take.ensures.names }) c.in-Some.ensures.cases c.requires.section in
    refused_then t c.args.self.now h c.self.inside.labels c.take.new.self c.self.inside.moment o c.self.inside.waits c.args.label.now c.in-Some.place s w
    (record { view = c.self.view_is; names = c.take.ensures.names }) c.in-Some.ensures.cases c.requires.section u c.connect.ensures.ready c.connect.ensures.caller p (of_connect h.shape h.seed (mine_of s) c.args.from c.args.to m (connect_rule h) ours)
    (λ h x o. connect_command h x o c.args.from c.args.to) began connect_reply refl c.ports-ports.new.self (c.ports-ports.ensures.after ∙ ap (λ b. searches.after_search b o) c.searches_connect-begins.ensures)
    c.in-Err.end c.connect_error.result c.put-in-Err.new.self
    (of_header h t (λ shape seed. plan.connect shape seed (mine_of s) c.args.from c.args.to m (connect_rule h) ours) (turned w) (turned u) (chained t w) (chained t u) rest sec.tables
    (subst (λ (q : Asking Did). Went (buckets_of t) q (turned w) (turned u) (chained t w) (chained t u) rest) (same ∙ ruled)
    (refused_went (first_mine {B = End}) (buckets_of t) _ (turned w) (turned u) (chained t w) (chained t u) c.in-Err.end c.in_ok-refusal-in-Err.ensures.kept.told c.in-Err.ensures.carried)))
    c.in-Err.ensures.kept
    (c.put-in-Err.ensures.put ∙ ap (λ x. with_place c.take.new.self c.in-Some.place (Some (mine_of x))) c.in-Err.ensures.back)
    (λ x. ap (answers x) (sym (c.connect_error.ensures ∙ ap connect_error c.in_ok-refusal-in-Err.ensures.kept.same)))

pub returns-in-Ok-clause-spends : goal.returns-in-Ok-clause-spends
returns-in-Ok-clause-spends g c =
    spends_of c.args.self.now (kept c.self.inside.header (own_of c.put.new.self c.self.inside.moment c.ports-ports.new.self c.self.inside.waits)) c.args.worker.now c.connect.new.worker c.self.inside.waits 4 (length c.ports-ports.result + 2) 0 (ap (λ (k : Kept). length k.own.waits) (sym c.self.view_is)) (omega arith) c.connect.ensures.entered (let few = c.ports-ports.ensures.few in omega (arith, few)) (omega arith) c.connect.ensures.drawn

pub returns-in_err-refusal-in-Err-clause-spends : goal.returns-in_err-refusal-in-Err-clause-spends
returns-in_err-refusal-in-Err-clause-spends g c =
    spends_of c.args.self.now (kept c.self.inside.header (own_of c.put-in-Err.new.self c.self.inside.moment c.ports-ports.new.self c.self.inside.waits)) c.args.worker.now c.connect.new.worker c.self.inside.waits 4 (length c.ports-ports.result + 2) 0 (ap (λ (k : Kept). length k.own.waits) (sym c.self.view_is)) (omega arith) c.connect.ensures.entered (let few = c.ports-ports.ensures.few in omega (arith, few)) (omega arith) c.connect.ensures.drawn

pub returns-in_ok-refusal-in-Err-clause-spends : goal.returns-in_ok-refusal-in-Err-clause-spends
returns-in_ok-refusal-in-Err-clause-spends g c =
    spends_of c.args.self.now (kept c.self.inside.header (own_of c.put-in-Err.new.self c.self.inside.moment c.ports-ports.new.self c.self.inside.waits)) c.args.worker.now c.connect.new.worker c.self.inside.waits 4 (length c.ports-ports.result + 2) 0 (ap (λ (k : Kept). length k.own.waits) (sym c.self.view_is)) (omega arith) c.connect.ensures.entered (let few = c.ports-ports.ensures.few in omega (arith, few)) (omega arith) c.connect.ensures.drawn

pub returns-in_err-refusal-in-Err-clause-left : goal.returns-in_err-refusal-in-Err-clause-left
returns-in_err-refusal-in-Err-clause-left g c =
    let t = c.args.tables.now in
    let h = c.self.inside.header in
    let o = c.self.inside.offsets in
    let s = c.in-Some.socket in
    let w = c.args.worker.now in
    let u = c.connect.new.worker in
    let began = is_unbound (mine_of s).owner.state && is_some (plan.source_to (mine_of s).owner c.args.from c.args.to) in
    let m = c.self.inside.moment in
    let ours = ports_of o firsts.Even in
    let ruled = ap (λ rule. plan.connect t.chains.layout.shape t.chains.layout.seed (mine_of s) c.args.from c.args.to m rule ours) c.connect_rule-rule.ensures in
    let own = own_of c.self.inside.labels c.self.inside.moment o c.self.inside.waits in
    let same = connect_same t.chains.layout.shape t.chains.layout.seed (mine_of s) c.args.from c.args.to m c.connect_rule-rule.result c.ports-ports.result (ports_of o firsts.Even) (λ yes. c.ports-ports.ensures.ports (c.searches_connect-begins.ensures ∙ yes)) in
    let p = plan.connect h.shape h.seed (mine_of s) c.args.from c.args.to m (connect_rule h) ours in
    let sec = before t c.args.self.now h c.self.inside.labels c.take.new.self c.self.inside.moment o c.self.inside.waits c.args.label.now c.in-Some.place s w (record { view = c.self.view_is; names = c.take.ensures.names }) c.in-Some.ensures.cases c.requires.section in
    on_err c.from_residual.result
    (socket_left t c.args.self.now h c.self.inside.labels c.take.new.self c.put-in-Err.new.self c.self.inside.moment o c.ports-ports.new.self c.self.inside.waits c.args.label.now c.in-Some.place s w u
    (record { view = c.self.view_is; names = c.take.ensures.names }) c.in-Some.ensures.cases (c.put-in-Err.ensures.put ∙ ap (λ x. with_place c.take.new.self c.in-Some.place (Some (mine_of x))) c.in-Err.ensures.back) (commands.Connect c.args.label.now c.args.from c.args.to) began (c.ports-ports.ensures.after ∙ ap (λ b. searches.after_search b o) c.searches_connect-begins.ensures)
    p (λ did. ends (connect_reply (after_search began own) did)) (λ e. connect_plan h own c.args.label.now (mine_of s) e c.args.from c.args.to) (λ e. its_speaker h own c.args.label.now (mine_of s) e) (λ e deeds back. its_search h own c.args.label.now (mine_of s) e (λ x. is_unbound x.owner.state && is_some (plan.source_to x.owner c.args.from c.args.to)))
    (off_as (first_mine {B = End}) h t (λ shape seed. plan.connect shape seed (mine_of s) c.args.from c.args.to m (connect_rule h) ours) _ (mine_of s).owner.name (turned w) (turned u) (chained t w) (chained t u) c.in-Err.end _ sec.tables (same ∙ ruled) c.in_err-refusal-in-Err.ensures.left c.in-Err.ensures.carried))

pub returns-in_err-refusal-in-Err-clause-section : goal.returns-in_err-refusal-in-Err-clause-section
returns-in_err-refusal-in-Err-clause-section g c =
    let t = c.args.tables.now in
    let h = c.self.inside.header in
    let o = c.self.inside.offsets in
    let s = c.in-Some.socket in
    let w = c.args.worker.now in
    let u = c.connect.new.worker in
    let m = c.self.inside.moment in
    let ours = ports_of o firsts.Even in
    let ruled = ap (λ rule. plan.connect t.chains.layout.shape t.chains.layout.seed (mine_of s) c.args.from c.args.to m rule ours) c.connect_rule-rule.ensures in
    let same = connect_same t.chains.layout.shape t.chains.layout.seed (mine_of s) c.args.from c.args.to m c.connect_rule-rule.result c.ports-ports.result (ports_of o firsts.Even) (λ yes. c.ports-ports.ensures.ports (c.searches_connect-begins.ensures ∙ yes)) in
    let p = plan.connect h.shape h.seed (mine_of s) c.args.from c.args.to m (connect_rule h) ours in
    let sec = before t c.args.self.now c.self.inside.header c.self.inside.labels c.take.new.self c.self.inside.moment c.self.inside.offsets c.self.inside.waits c.args.label.now c.in-Some.place s w (record { view = c.self.view_is; names = c.take.ensures.names }) c.in-Some.ensures.cases c.requires.section in
    on_err c.from_residual.result
    (left_so t c.args.self.now c.self.inside.header c.self.inside.labels c.take.new.self c.self.inside.moment c.self.inside.offsets c.self.inside.waits c.args.label.now c.in-Some.place s w
    (record { view = c.self.view_is; names = c.take.ensures.names }) c.in-Some.ensures.cases c.requires.section u c.connect.ensures.ready c.connect.ensures.caller p (of_connect h.shape h.seed (mine_of s) c.args.from c.args.to m (connect_rule h) ours) c.ports-ports.new.self c.put-in-Err.new.self
    (off_as (first_mine {B = End}) h t (λ shape seed. plan.connect shape seed (mine_of s) c.args.from c.args.to m (connect_rule h) ours) _ (mine_of s).owner.name (turned w) (turned u) (chained t w) (chained t u) c.in-Err.end _ sec.tables (same ∙ ruled) c.in_err-refusal-in-Err.ensures.left c.in-Err.ensures.carried)
    c.in-Err.ensures.kept (c.put-in-Err.ensures.put ∙ ap (λ x. with_place c.take.new.self c.in-Some.place (Some (mine_of x))) c.in-Err.ensures.back))

pub returns-in_default-clause-gives : goal.returns-in_default-clause-gives
returns-in_default-clause-gives g c =
    no_more _ _ (labels_same c.args.self.now c.self.inside.header c.self.inside.labels c.take.new.self c.self.inside.moment c.self.inside.offsets c.self.inside.waits c.self.view_is c.in_default.ensures.cases.kept)

pub returns-in-Ok-clause-gives : goal.returns-in-Ok-clause-gives
returns-in-Ok-clause-gives g c =
    no_more _ _ (labels_put c.self.inside.labels c.take.new.self c.put.new.self c.in-Some.place c.in-Some.place _ _ c.in-Some.ensures.cases.after c.put.ensures.put ∙ ap (λ (k : Kept). k.own.labels) c.self.view_is)

pub returns-in_ok-refusal-in-Err-clause-gives : goal.returns-in_ok-refusal-in-Err-clause-gives
returns-in_ok-refusal-in-Err-clause-gives g c =
    no_more _ _ (labels_put c.self.inside.labels c.take.new.self c.put-in-Err.new.self c.in-Some.place c.in-Some.place _ _ c.in-Some.ensures.cases.after c.put-in-Err.ensures.put ∙ ap (λ (k : Kept). k.own.labels) c.self.view_is)

pub returns-in_err-refusal-in-Err-clause-gives : goal.returns-in_err-refusal-in-Err-clause-gives
returns-in_err-refusal-in-Err-clause-gives g c =
    gives_none (commands.Connect c.args.label.now c.args.from c.args.to) c.args.self.now.own.labels c.put-in-Err.new.self.labels refl (labels_put c.self.inside.labels c.take.new.self c.put-in-Err.new.self c.in-Some.place c.in-Some.place _ _ c.in-Some.ensures.cases.after c.put-in-Err.ensures.put ∙ ap (λ (k : Kept). k.own.labels) c.self.view_is) c.from_residual.result

pub returns-in_err-refusal-in-Err-clause-patient : goal.returns-in_err-refusal-in-Err-clause-patient
returns-in_err-refusal-in-Err-clause-patient g c = λ endless.
    err_patient c.from_residual.result c.in-Err.end c.in_err-refusal-in-Err.field-0.0 c.from_residual.ensures.1 c.in_err-refusal-in-Err.ensures.left (c.in-Err.ensures.patient endless)
