use Rattle.std.proofs.Common.{rules, ℕ, ◌*◌, sym, ap, ◌∙◌, arith, subst}
use mathlib.Core.Option.{none}
use Rattle.atomic_table.specs.Table.{step}
use Rattle.table_rule.specs.Words.{head_at}
use Rattle.table_rule.specs.Plays.{hung, Sat}
use Rattle.table_rule.proofs.Allowed.{hangs-it}
use Rattle.table_rule.proofs.Calls.{moved_to}
use Rattle.table_rule.proofs.table.Chains.step_head.Goals as goal

pub store-requires : goal.store-requires
store-requires c = (search rules, search rules, moved_to c.args.self.now.layout c.args.self.now.table.shared.key c.args.self.now.table.shared.table_id.slots c.args.steps.now.seat.id c.args.steps.now.seat.me (head_at c.args.bucket) c.head_word-word.result (λ _. 2 * c.from.result) (λ x (_ : ℕ). hung (step c.args.self.now.table.shared.table_id.slots x (2 * c.from.result) 0 none) c.args.steps.now.seat.me ((2 * c.from.result))) c.args.self.now.keyed c.head_word-word.ensures.is (subst (λ (k : ℕ). Rattle.atomic_table.specs.Table.Allows (Rattle.table_rule.specs.Rule.Holds c.args.self.now.layout) c.args.self.now.table.shared.table_id.slots c.args.steps.now.seat.id c.args.steps.now.seat.me (head_at c.args.bucket) (λ _. 2 * k) (λ _. hung (step c.args.self.now.table.shared.table_id.slots (head_at c.args.bucket) (2 * k) 0 none) c.args.steps.now.seat.me (2 * k))) (c.requires.tied.1 ∙ sym c.from.ensures) (hangs-it c.args.self.now.layout c.args.self.now.table.shared.table_id.slots c.args.steps.now.seat.id c.args.steps.now.seat.me c.requires.table.1 c.args.bucket c.requires.bucket c.requires.held c.requires.begun.0.0 c.requires.tied.0 c.requires.begun.0.1 c.requires.begun.0.2 (c.requires.begun.0.3 ∙ sym c.requires.tied.1) c.requires.begun.1 (omega (arith, c.requires.slot, c.requires.tied.1)) c.requires.tied.2 c.requires.idle c.requires.whole)))

pub returns-clause-table : goal.returns-clause-table
returns-clause-table c = (c.store.ensures.0 ∙ c.requires.table.0, ap (λ (s : Sat). s.0.layout) c.store.ensures.2 ∙ c.requires.table.1)
