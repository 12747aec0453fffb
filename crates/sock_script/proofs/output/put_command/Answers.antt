use Rattle.std.proofs.Common.{◌≡◌, [], ◌∷◌, false, subst, sym, IfOk}
use Rattle.std.proofs.lemmas.Result.{IfOk-weaker}
use Rattle.flat_list.specs.declared.command.Command.TheVariants as commands
use Rattle.sock_script.specs.Output.{is_dump}
use Rattle.sock_script.specs.Seen.{tables}
use Rattle.sock_script.specs.Steps.{issue, takes_items, Writes, WritesDump}
use Rattle.sock_script.proofs.Events.{kept_takes_none, kept_lists_none}
use Rattle.sock_script.proofs.LineTurns.{wrote_asked, wrote_dump, wrote_none}
use Rattle.sock_script.proofs.output.put_command.Goals as goal

pub returns-in_default-next : goal.returns-in_default-next
returns-in_default-next c =
    wrote_none (tables c.args.labels.now.by_section.items) c.args.unwritten c.args.out.now.items c.args.n c.args.command.now
    (subst (λ command. takes_items command ≡ false) (sym c.form.ensures) (kept_takes_none c.form.result.now c.in_default.not-Packets)) c.in_default-next.ensures

pub returns-in-Dump : goal.returns-in-Dump
returns-in-Dump c =
    let table = tables c.args.labels.now.by_section.items in
    let before = c.args.out.now.items in
    let after = c.put_dump.new.out.items in
    let is : c.args.command.now ≡ commands.Dump = rw c.in-Dump.is at c.form-2.ensures in
    subst (λ command. IfOk c.put_dump.result (Writes table (issue c.args.n (command ∷ [])) c.args.unwritten before after)) (sym is)
    (IfOk-weaker c.put_dump.result (WritesDump table c.args.n c.in-Some.left before after) (Writes table (issue c.args.n (commands.Dump ∷ [])) c.args.unwritten before after)
    (λ new w. wrote_dump table c.args.unwritten new before after c.args.n c.in-Some.reply.now c.in-Some.left c.in-Some.ensures w) c.put_dump.ensures)

pub returns : goal.returns
returns c =
    wrote_asked (tables c.args.labels.now.by_section.items) c.args.unwritten c.in-Some.left c.args.out.now.items c.put_line.new.out.items c.args.n c.args.command.now c.in-Some.reply.now
    (subst (λ command. takes_items command ≡ false) (sym c.form.ensures) (kept_takes_none c.form.result.now c.in_default.not-Packets))
    (subst (λ command. is_dump command ≡ false) (sym c.form-2.ensures) (kept_lists_none c.form-2.result.now c.in_default-form.not-Dump)) c.in-Some.ensures
    c.in_ok-put_line.ensures
