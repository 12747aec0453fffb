use Rattle.std.proofs.Common.{rules, ap, ◌∙◌, refl}
use mathlib.Core.Option.{none}
use Rattle.atomic_table.specs.Table.{step}
use Rattle.table_rule.specs.Plays.{Sat, ended_again}
use Rattle.table_rule.proofs.AllowedLookups.{ends-again}
use Rattle.table_rule.proofs.Calls.{moved_to, numbers_seen}
use Rattle.table_rule.proofs.table.Chains.step_clock_again.Goals as goal

pub load-now-requires : goal.load-now-requires
load-now-requires c = (search rules, search rules, moved_to c.args.self.now.layout c.args.self.now.table.shared.key c.args.self.now.table.shared.table_id.slots c.args.steps.now.seat.id c.args.steps.now.seat.me 0 0 (λ n. n) (λ x. ended_again (step c.args.self.now.table.shared.table_id.slots x 0 0 none) c.args.steps.now.seat.me) c.args.self.now.keyed refl (let r = c.requires.stopped in ends-again c.args.self.now.layout c.args.self.now.table.shared.table_id.slots c.args.steps.now.seat.id c.args.steps.now.seat.me c.requires.table.1 r.0 r.1 r.2))

pub returns-clause-table : goal.returns-clause-table
returns-clause-table c = (c.load-now.ensures.0 ∙ c.requires.table.0, ap (λ (s : Sat). s.0.layout) (c.load-now.ensures.2.1 c.requires.stopped.0 c.requires.stopped.1).0 ∙ c.requires.table.1)

pub returns-clause-view : goal.returns-clause-view
returns-clause-view c = λ q e. (c.load-now.ensures.2.1 q e).0

pub returns-clause-sole : goal.returns-clause-sole
returns-clause-sole c = λ q e. (c.load-now.ensures.2.1 q e).1

pub returns-clause-own : goal.returns-clause-own
returns-clause-own c = λ q e. (c.load-now.ensures.2.1 q e).2

pub invariant_of-steps : goal.invariant_of-steps
invariant_of-steps c = record { numbers = numbers_seen c.args.steps.now.seat.me.0 c.load-now.new.seat.me.0 c.args.steps.now.seen c.args.steps.now.drawn c.load-now.result (ap (λ (s : Sat). s.0.seen) (c.load-now.ensures.2.1 c.requires.stopped.0 c.requires.stopped.1).0) (ap (λ (s : Sat). s.0.book) (c.load-now.ensures.2.1 c.requires.stopped.0 c.requires.stopped.1).0) c.args.steps.now.numbers }
