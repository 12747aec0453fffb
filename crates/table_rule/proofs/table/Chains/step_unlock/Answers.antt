use Rattle.std.proofs.Common.{rules, ℕ, ap, ◌∙◌}
use mathlib.Core.Option.{none}
use Rattle.atomic_table.specs.Table.{step}
use Rattle.table_rule.specs.Words.{lock_at}
use Rattle.table_rule.specs.Plays.{unlocked, Sat}
use Rattle.table_rule.proofs.Allowed.{unlocks-it}
use Rattle.table_rule.proofs.Calls.{moved_to}
use Rattle.table_rule.proofs.table.Chains.step_unlock.Goals as goal

pub store-requires : goal.store-requires
store-requires c = (search rules, search rules, moved_to c.args.self.now.layout c.args.self.now.table.shared.key c.args.self.now.table.shared.table_id.slots c.args.steps.now.seat.id c.args.steps.now.seat.me (lock_at c.args.bucket) c.lock_word-word.result (λ _. 0) (λ x (_ : ℕ). unlocked (step c.args.self.now.table.shared.table_id.slots x 0 0 none) c.args.steps.now.seat.me (0)) c.args.self.now.keyed c.lock_word-word.ensures.is (unlocks-it c.args.self.now.layout c.args.self.now.table.shared.table_id.slots c.args.steps.now.seat.id c.args.steps.now.seat.me c.requires.table.1 c.args.bucket c.requires.bucket c.requires.held c.requires.alone c.requires.closed c.requires.idle.0 c.requires.idle.1 c.requires.idle.2))

pub returns-clause-table : goal.returns-clause-table
returns-clause-table c = (c.store.ensures.0 ∙ c.requires.table.0, ap (λ (s : Sat). s.0.layout) c.store.ensures.2.2 ∙ c.requires.table.1)
