use Rattle.std.proofs.Common.{rules, eqb, ◌∙◌}
use mathlib.Core.Option.{none}
use prog.Atomic.{either}
use Rattle.atomic_table.specs.Table.{step}
use Rattle.table_rule.specs.Words.{lock_at}
use Rattle.table_rule.specs.Plays.{locked}
use Rattle.table_rule.proofs.Allowed.{locks-it}
use Rattle.table_rule.proofs.Calls.{moved_to, locked_lasts, layout_lasts, numbers_last}
use Rattle.table_rule.proofs.table.Chains.step_lock.Goals as goal

pub compare_exchange-requires : goal.compare_exchange-requires
compare_exchange-requires c = (search rules, search rules, moved_to c.args.self.now.layout c.args.self.now.table.shared.key c.args.self.now.table.shared.table_id.slots c.args.steps.now.seat.id c.args.steps.now.seat.me (lock_at c.args.bucket) c.lock_word-word.result (λ n. either (eqb n 0) 1 n) (λ x. locked (step c.args.self.now.table.shared.table_id.slots x 0 1 none) c.args.steps.now.seat.me) c.args.self.now.keyed c.lock_word-word.ensures.is (locks-it c.args.self.now.layout c.args.self.now.table.shared.table_id.slots c.args.steps.now.seat.id c.args.steps.now.seat.me c.requires.table.1 c.args.bucket c.requires.bucket c.requires.closed c.requires.free.0 c.requires.free.1))

pub returns-clause-table : goal.returns-clause-table
returns-clause-table c = (c.compare_exchange.ensures.0 ∙ c.requires.table.0, layout_lasts c.args.steps.now.seat.me.0 c.compare_exchange.new.seat.me.0 (locked_lasts (step c.args.self.now.table.shared.table_id.slots c.lock_word-word.result 0 1 none) c.args.steps.now.seat.me _ _ c.args.bucket c.lock_word-word.ensures.is c.compare_exchange.ensures.2) ∙ c.requires.table.1)

pub returns-clause-locked : goal.returns-clause-locked
returns-clause-locked c = λ z. c.compare_exchange.ensures.2.0 z c.args.bucket c.lock_word-word.ensures.is

pub invariant_of-steps : goal.invariant_of-steps
invariant_of-steps c = record { numbers = numbers_last c.args.steps.now.seat.me.0 c.compare_exchange.new.seat.me.0 c.args.steps.now.seen c.args.steps.now.drawn (locked_lasts (step c.args.self.now.table.shared.table_id.slots c.lock_word-word.result 0 1 none) c.args.steps.now.seat.me _ _ c.args.bucket c.lock_word-word.ensures.is c.compare_exchange.ensures.2) c.args.steps.now.numbers }
