use Rattle.std.proofs.Common.{◌≡◌, ℕ, ◌+◌, ◌-◌, ◌<◌, ◌≤◌, length, ap, sym, ◌∙◌, subst, arith}
use Rattle.section_machine.specs.Sections.{Kept}
use Rattle.section_machine.specs.Standing.{IsSection}
use Rattle.race_run.specs.Sole.{tables_of}
use Rattle.section_machine.specs.Carried.{MayGoOn}
use Rattle.race_run.specs.Steps.{commands_after}
use Rattle.section_machine.proofs.Budgets.{go_on_first, go_on_enough, go_on_next, go_on_last, carry_fewer}
use Rattle.race_run.proofs.SectionTurns.{turns_start, turns_next, turns_end}
use Rattle.race_run.proofs.script_run.running.run_section.Goals as goal

-- the commands that are left, with the next one
left_after : (all i rest : ℕ) → i < all → all - i + rest ≡ all - (i + 1) + rest + 1
left_after all i rest below = omega (arith, below)

pub loop-command-init : goal.loop-command-init
loop-command-init g c =
    let t = c.args.tables.now in
    let w = c.args.worker.now in
    let k = c.reserve.new.self in
    let is = c.reserve.ensures ∙ c.new-machine.ensures in
    let labels : length k.own.labels ≡ 0 = ap (λ (x : Kept). length x.own.labels) is in
    let waits : length k.own.waits ≡ 0 = ap (λ (x : Kept). length x.own.waits) is in
    let sole = c.requires.sole in
    let all = length c.args.commands.now - 0 + commands_after c.args.n in
    let few : length c.args.commands.now - 0 + commands_after c.args.n ≤ commands_after (c.args.n - 1) = omega (arith, c.requires.room, c.requires.first, c.requires.number) in
    record {
      running = record {
        section = subst (λ (x : Kept). IsSection t x w) (sym is)
            (c.section_comes_next.ensures t c.args.header.now c.args.n w c.requires.tables sole.ready (omega (arith, c.requires.number)) (λ some. absurd (some sole.turns.0)) c.requires.unspoken);
        sole = sole;
      };
      labels = omega (arith, labels);
      number = ap (λ (x : Kept). x.own.number) is;
      may = go_on_first all k w waits (carry_fewer (commands_after (c.args.n - 1)) all w few c.requires.may);
      turns = turns_start c.args.header.now c.args.n (tables_of t w) c.args.commands.now c.args.items.now c.args.replies.now k c.requires.first is;
    }

pub run_command-requires : goal.run_command-requires
run_command-requires g c =
    let i = c.loop-command.invariant in
    let below : c.loop-command.command-index < length c.args.commands.now = c.loop-command-test.true in
    record {
      room = omega (arith, i.labels, below, c.requires.room);
      running = i.running;
      enough = go_on_enough (length c.args.commands.now - (c.loop-command.command-index + 1) + commands_after c.args.n) c.loop-command.machine c.loop-command.worker
          (subst (λ n. MayGoOn n c.loop-command.machine c.loop-command.worker) (left_after (length c.args.commands.now) c.loop-command.command-index (commands_after c.args.n) below) i.may);
    }

pub loop-command-preserved : goal.loop-command-preserved
loop-command-preserved g c =
    let i = c.loop-command.invariant in
    let e = c.in_ok-left.ensures in
    let below : c.loop-command.command-index < length c.args.commands.now = c.loop-command-test.true in
    record {
      running = e.running;
      labels = omega (arith, e.kept.labels, i.labels);
      number = e.kept.number ∙ i.number;
      may = go_on_next (length c.args.commands.now - (c.loop-command.command-index + 1) + commands_after c.args.n) c.loop-command.machine c.run_command.new.machine c.loop-command.worker c.run_command.new.worker
          (subst (λ n. MayGoOn n c.loop-command.machine c.loop-command.worker) (left_after (length c.args.commands.now) c.loop-command.command-index (commands_after c.args.n) below) i.may) e.spends;
      turns = turns_next c.args.header.now c.args.n (tables_of c.args.tables.now c.args.worker.now) c.args.commands.now c.args.items.now c.loop-command.left.now c.args.replies.now c.loop-command.replies c.loop-command.command-index c.loop-command.machine (tables_of c.args.tables.now c.loop-command.worker)
          c.in_ok-left.left.now c.run_command.new.replies c.run_command.new.machine (tables_of c.args.tables.now c.run_command.new.worker) c.command-item.result
          below c.command-item.is e.kept e.runs i.turns;
    }

pub returns : goal.returns
returns g c =
    let i = c.loop-command.invariant in
    let k = c.loop-command.machine in
    let w = c.loop-command.worker in
    let past : length c.args.commands.now ≤ c.loop-command.command-index = c.loop-command-test.false in
    let none : length c.args.commands.now - c.loop-command.command-index + commands_after c.args.n ≡ commands_after c.args.n = omega (arith, past) in
    let whole : c.loop-command.command-index ≤ length c.args.commands.now = omega arith in
    record {
      sole = i.running.sole;
      unspoken = λ name least. i.running.section.unspoken name (omega (arith, least, i.labels, i.number, c.requires.room, whole));
      may = go_on_last (commands_after c.args.n) k w (subst (λ n. MayGoOn n k w) none i.may);
      runs = turns_end c.args.header.now c.args.n (tables_of c.args.tables.now c.args.worker.now) c.args.commands.now c.args.items.now c.loop-command.left.now c.args.replies.now c.loop-command.replies c.loop-command.command-index k (tables_of c.args.tables.now w)
          past i.turns;
    }
