use Rattle.std.proofs.Common.{◌≡◌, ℕ, ◌+◌, ◌-◌, ◌<◌, ◌≤◌, length, ap, subst, arith}
use Rattle.section_machine.specs.Carried.{MayGoOn}
use Rattle.section_machine.proofs.Budgets.{go_on_first, go_on_enough, go_on_next}
use Rattle.table_tests.proofs.sections.stage_after.Goals as goal

-- the commands that are left, with the next one
left_after : (i all : ℕ) → i < all → all ≤ 4 → 6 - i ≡ 6 - (i + 1) + 1
left_after i all below few = omega (arith, below, few)

pub loop-command-init : goal.loop-command-init
loop-command-init c =
    let e = c.in_ok-tables.ensures in
    let stage = c.in_ok-tables.field-0 in
    let labels : length stage.machine.own.labels ≡ 0 = ap length e.labels in
    let waits : length stage.machine.own.waits ≡ 0 = ap length e.waits in
    let enters = e.enters in
    let draws = e.draws in
    record {
      section = e.section;
      labels = omega (arith, labels);
      may = go_on_first 6 stage.machine stage.worker waits (record { enters = omega (arith, enters); draws = omega (arith, draws) });
    }

pub try_step-done-requires-clause-enough : goal.try_step-done-requires-clause-enough
try_step-done-requires-clause-enough c =
    let l = c.loop-command in
    go_on_enough (6 - (l.command-index + 1)) l.machine l.worker
    (subst (λ n. MayGoOn n l.machine l.worker) (left_after l.command-index (length c.args.commands.now) c.loop-command-test.true c.requires.few) l.invariant.may)

pub loop-command-preserved : goal.loop-command-preserved
loop-command-preserved c =
    let l = c.loop-command in
    let e = c.try_step-done.ensures in
    record {
      section = e.section;
      labels = omega (arith, e.kept.labels, l.invariant.labels);
      may = go_on_next (6 - (l.command-index + 1)) l.machine c.try_step-done.new.self l.worker c.try_step-done.new.worker
          (subst (λ n. MayGoOn n l.machine l.worker) (left_after l.command-index (length c.args.commands.now) c.loop-command-test.true c.requires.few) l.invariant.may) e.spends;
    }

pub returns-clause-enters : goal.returns-clause-enters
returns-clause-enters c =
    let whole : c.loop-command.command-index ≤ length c.args.commands.now = omega arith in
    let enters = c.loop-command.invariant.may.enters in
    omega (arith, enters, whole, c.requires.few)

pub returns-clause-draws : goal.returns-clause-draws
returns-clause-draws c =
    let whole : c.loop-command.command-index ≤ length c.args.commands.now = omega arith in
    let draws = c.loop-command.invariant.may.draws in
    omega (arith, draws, whole, c.requires.few)
