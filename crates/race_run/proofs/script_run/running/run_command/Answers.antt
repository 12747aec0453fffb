use Rattle.std.proofs.Common.{rules, ◌≡◌, false, [], ◌∷◌, ◌++◌, ◌∙◌, refl, sym, ap, subst, arith}
use Rattle.flat_list.specs.declared.command.Command.{Command}
use Rattle.flat_list.specs.declared.command.Reply.{Reply}
use Rattle.sock_script.specs.Output.{Replies}
use Rattle.sock_script.specs.Steps.{takes_items}
use Rattle.sock_script.proofs.Events.{kept_takes_none}
use Rattle.table_model.specs.Tables.{Tables as Plain}
use Rattle.race_run.specs.Sole.{tables_of}
use Rattle.race_run.specs.Steps.{RefinesEach, RunsEach}
use Rattle.race_run.proofs.CommandRuns.{command_run}
use Rattle.race_run.proofs.Lookups.{enough_still, packets_look, running_same, spends_behind, spends_nothing, tables_same}
use Rattle.race_run.proofs.script_run.running.run_command.Goals as goal

pub returns-in-Packets : goal.returns-in-Packets
returns-in-Packets g c =
    let t = c.args.tables.now in
    let w = c.args.worker.now in
    let u = c.look_up.new.worker in
    let k = c.args.machine.now in
    let l = c.in_ok-look_up.ensures.looked in
    let before : Replies = record { each = c.replies.inside.each.items; listings = c.replies.inside.listings.items } in
    let left = c.split_at.result.1.now in
    record {
      running = running_same t w u l k c.requires.running c.in_ok-look_up.ensures.sole;
      kept = record { header = refl; number = refl; labels = omega arith };
      spends = spends_nothing t w u l k;
      runs =
          subst (λ (b : Replies). RunsEach k (tables_of t w) c.args.command.now c.args.items.now left b (record before { each = c.look_up.new.replies.items }) k.own (tables_of t u)) c.replies.view_is
          (subst (λ (command : Command). RunsEach k (tables_of t w) command c.args.items.now left before (record before { each = c.look_up.new.replies.items }) k.own (tables_of t u)) (sym (rw c.in-Packets.is at c.form.ensures))
          (packets_look t w u l k c.in-Packets.count c.args.items.now c.split_at.result.0.now left before c.look_up.new.replies.items
          (search rules) (search rules) c.in_ok-look_up.ensures.answers));
    }

pub step-requires-clause-one : goal.step-requires-clause-one
step-requires-clause-one g c = subst (λ command. takes_items command ≡ false) (sym c.form.ensures) (kept_takes_none c.form.result.now (λ count is. c.in_default.not-Packets count is))

pub step-requires-clause-running : goal.step-requires-clause-running
step-requires-clause-running g c =
    let e = c.in_ok-list.ensures in
    running_same c.args.tables.now c.args.worker.now c.list.new.worker e.looked c.args.machine.now c.requires.running e.sole

pub step-requires-clause-enough : goal.step-requires-clause-enough
step-requires-clause-enough g c =
    enough_still c.args.tables.now c.args.worker.now c.list.new.worker c.in_ok-list.ensures.looked c.args.machine.now c.requires.enough

pub returns-clause-spends : goal.returns-clause-spends
returns-clause-spends g c =
    spends_behind c.args.tables.now c.args.worker.now c.list.new.worker c.in_ok-list.ensures.looked c.args.machine.now c.step.new.machine c.step.new.worker c.in_ok-reply.ensures.spends

pub returns-clause-runs : goal.returns-clause-runs
returns-clause-runs g c =
    let t = c.args.tables.now in
    let w = c.args.worker.now in
    let u = c.list.new.worker in
    let y = c.step.new.worker in
    let k = c.args.machine.now in
    let m = c.step.new.machine in
    let l = c.in_ok-list.ensures in
    let reply = c.in_ok-reply.reply in
    let before : Replies = record { each = c.replies.inside.each.items; listings = c.replies.inside.listings.items } in
    let out : Replies = record { each = c.push.new.self.items; listings = c.list.new.listings.items } in
    let refines : RefinesEach k (tables_of t w) c.args.command.now (tables_of t y) m.own reply =
    subst (λ (x : Plain). RefinesEach k x c.args.command.now (tables_of t y) m.own reply) (tables_same t w u l.looked) c.in_ok-reply.ensures.refines in
    subst (λ (b : Replies). RunsEach k (tables_of t w) c.args.command.now c.args.items.now c.args.items.now b out m.own (tables_of t y)) c.replies.view_is
    (command_run k (tables_of t w) (tables_of t y) c.args.command.now m.own c.args.items.now reply before c.push.new.self.items c.list.new.listings.items
    (subst (λ command. takes_items command ≡ false) (sym c.form.ensures) (kept_takes_none c.form.result.now (λ count is. c.in_default.not-Packets count is))) l.lists refines (c.in_ok-push.ensures.items ∙ ap (λ (r : Reply). before.each ++ r ∷ []) c.of.ensures))
