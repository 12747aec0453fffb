use Rattle.std.proofs.Common.{take, ◌++◌, ◌∷◌, [], ◌≡◌, ◌+◌, ◌*◌, ◌-◌, ◌<◌, ℕ, length, arith, ap, sym, ◌∙◌, subst, refl, false}
use Rattle.std.proofs.lemmas.List.{take_more, take_all}
use Rattle.flat_list.specs.declared.command.Command.{Command}
use Rattle.section_machine.specs.Sections.{Kept}
use Rattle.table_model.specs.Means.{is_lookup}
use Rattle.sock_ops.specs.declared.tables.Worker.{Worker}
use Rattle.turn_table.specs.Passes as words
use Rattle.race_run.specs.Said.{said_as}
use Rattle.race_run.proofs.Running.{runs_none, runs_more, runs_rest, runs_done, draws_first, draws_same, each_get}
use Rattle.race_run.proofs.section.run_section.Goals as goal

pub loop-at-init : goal.loop-at-init
loop-at-init g c =
    let f = c.requires.worker in
    let labels : length c.new-machine.result.own.labels ≡ 0 = ap (λ (k : Kept). length k.own.labels) c.new-machine.ensures in
    let waits : length c.new-machine.result.own.waits ≡ 0 = ap (λ (k : Kept). length k.own.waits) c.new-machine.ensures in
    record {
      runs = runs_none c.args.header.now c.args.tables.now c.args.number c.new-machine.result c.args.worker.now _ c.new-replies.result.items c.new-listings.result.items c.section_begins.ensures c.requires.tables f c.requires.number c.new-machine.ensures refl c.new-replies.ensures.items c.new-listings.ensures.items;
      labels = omega (arith, labels);
      entered = omega (arith, waits, f.draws);
      drawn = let may = draws_first c.args.header.now c.args.tables.now c.args.number (length c.args.commands.now) c.args.worker.now f (omega (arith, c.requires.few)) in omega (arith, may, waits);
    }

pub loop-at-preserved : goal.loop-at-preserved
loop-at-preserved g c =
    let i = c.loop-at.invariant in
    let e = c.in_ok-reply.ensures in
    let b = c.list_for.ensures in
    let n = c.now-clock.ensures in
    let at : ℕ = c.loop-at.at in
    let test : at < length c.args.commands.now = omega arith in
    let command = c.plain-command.result in
    let after : Worker = record { turns = c.list_for.new.worker.turns; chain = c.now-clock.new.pass; groups = c.list_for.new.worker.groups } in
    record {
      runs = runs_more c.args.header.now c.args.tables.now c.args.number (take at c.args.commands.now) (take (at + 1) c.args.commands.now) c.loop-at.machine c.step.new.self c.loop-at.worker c.step.new.worker c.list_for.new.worker after c.loop-at.replies.items c.push.new.self.items c.loop-at.listings.items c.list_for.new.listings.items command c.in_ok-reply.reply c.now-clock.result
          i.runs e.section e.kept.header e.did b.keeps c.in_ok-list_for.ensures.lists refl refl n.sees n.next n.rests n.later (omega arith) n.settled
          (take_more c.args.commands.now at c.index-commands-at.result test ∙ ap (λ z. take at c.args.commands.now ++ z ∷ []) (sym (c.plain-command.ensures ∙ c.index-commands-at.is))) c.in_ok-push.ensures.items;
      labels = omega (arith, e.kept.labels, i.labels);
      entered = omega (arith, e.spends.entered, i.entered, ap words.draws b.keeps.turns);
      drawn = let more : ℕ = 6 * (length c.args.commands.now - (at + 1)) + 2 * length c.step.new.self.own.waits in
          draws_same more c.list_for.new.worker after c.now-clock.result n.sees
          (b.draws more (let s = e.spends.drawn (6 * (length c.args.commands.now - (at + 1))) (let d = i.drawn in omega (arith, d, test)) in omega (arith, s)));
    }

pub step-requires : goal.step-requires
step-requires g c =
    let i = c.loop-at.invariant in
    let few = c.requires.few in
    let test : c.loop-at.at < length c.args.commands.now = omega arith in
    let labels = i.labels in
    let entered = i.entered in
    let drawn = i.drawn in
    record {
      section = i.runs.section;
      look = subst (λ (x : Command). is_lookup x ≡ false) (sym (c.plain-command.ensures ∙ c.index-commands-at.is)) (each_get (λ (x : Command). is_lookup x ≡ false) c.args.commands.now c.loop-at.at c.index-commands-at.result c.requires.looks test);
      room = omega (arith, labels, few, test);
      enough = record { enters = omega (arith, entered, few, test); draws = omega (arith, drawn, test) };
    }

pub returns : goal.returns
returns g c =
    let r = c.loop-at.invariant.runs in
    let all : take c.loop-at.at c.args.commands.now ≡ c.args.commands.now = take_all c.loop-at.at c.args.commands.now (omega arith) in
    record {
      rest = runs_rest c.args.header.now c.args.tables.now c.args.number (take c.loop-at.at c.args.commands.now) c.loop-at.machine c.loop-at.worker (said_as c.loop-at.replies.items c.loop-at.listings.items) r;
      turn_part = r.turn_part;
      chain_part = r.chain_part;
      done = runs_done c.args.header.now c.args.tables.now c.args.number (take c.loop-at.at c.args.commands.now) c.args.commands.now c.loop-at.machine c.loop-at.worker (said_as c.loop-at.replies.items c.loop-at.listings.items) c.requires.tables all r;
    }
