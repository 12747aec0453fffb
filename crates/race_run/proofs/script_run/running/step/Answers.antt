use Rattle.std.proofs.Common.{◌≡◌, false, IfOk, refl, sym, subst, arith}
use Rattle.flat_list.specs.declared.command.Command.{Command}
use Rattle.flat_list.specs.declared.command.Query.{Query}
use Rattle.flat_list.specs.declared.command.Reply.TheVariants as replies
use Rattle.flat_list.specs.declared.kept.Form.{Form}
use Rattle.flat_list.specs.declared.kept.Form.TheVariants as forms
use Rattle.flat_list.specs.Kept.{kept_command}
use Rattle.sock_script.specs.Steps.{takes_items}
use Rattle.table_model.specs.Means.{is_lookup}
use Rattle.race_run.specs.Sole.{tables_of}
use Rattle.race_run.specs.Steps.{RefinesEach}
use Rattle.race_run.proofs.Alone.{kept_no_lookup, step_leaves, step_refines}
use Rattle.race_run.proofs.Lookups.{running_same, spends_nothing, look_refines}
use Rattle.race_run.proofs.script_run.running.step.Goals as goal

pub returns-in-Look : goal.returns-in-Look
returns-in-Look g c =
    let t = c.args.tables.now in
    let w = c.args.worker.now in
    let u = c.look.new.worker in
    let k = c.args.machine.now in
    let l = c.look.ensures.looked in
    record {
      running = running_same t w u l k c.requires.running c.look.ensures.sole;
      kept = record { header = refl; number = refl; labels = omega arith };
      spends = spends_nothing t w u l k;
      refines = subst (λ command. RefinesEach k (tables_of t w) command (tables_of t u) k.own (replies.Found c.look.result)) (sym (rw c.in-Look.is at c.form.ensures))
          (look_refines t w u l k c.in-Look.query c.packet_of-packet.result c.look.result c.packet_of-packet.ensures c.look.ensures.found);
    }

pub returns-in_default-clause-running : goal.returns-in_default-clause-running
returns-in_default-clause-running g c =
    let e = c.step.ensures in
    step_leaves c.args.tables.now c.args.machine.now c.step.new.self c.args.worker.now c.step.new.worker c.plain.result c.requires.running e.ready c.step.result e.did e.section e.listed

-- it is no lookup
other_than_look : (form : Form) (command : Command) → command ≡ kept_command form → takes_items command ≡ false → ((query : Query) → form ≡ forms.Look query → ⊥) → is_lookup command ≡ false
other_than_look form command is none other =
    subst (λ x. is_lookup x ≡ false) (sym is) (kept_no_lookup form (subst (λ x. takes_items x ≡ false) is none) other)

pub step-requires-clause-look : goal.step-requires-clause-look
step-requires-clause-look g c =
    subst (λ x. is_lookup x ≡ false) (sym c.plain.ensures) (other_than_look c.form.result.now c.args.command.now c.form.ensures c.requires.one (λ query is. c.in_default.not-Look query is))

pub returns-in_default-clause-refines : goal.returns-in_default-clause-refines
returns-in_default-clause-refines g c =
    let e = c.step.ensures in
    let t = c.args.tables.now in
    let none = other_than_look c.form.result.now c.args.command.now c.form.ensures c.requires.one (λ query is. c.in_default.not-Look query is) in
    subst (λ command. IfOk c.step.result (RefinesEach c.args.machine.now (tables_of t c.args.worker.now) command (tables_of t c.step.new.worker) c.step.new.self.own)) c.plain.ensures
    (step_refines t c.args.machine.now c.step.new.self c.args.worker.now c.step.new.worker c.plain.result c.requires.running e.ready c.step.result e.did
    c.requires.room (subst (λ x. is_lookup x ≡ false) (sym c.plain.ensures) none))
