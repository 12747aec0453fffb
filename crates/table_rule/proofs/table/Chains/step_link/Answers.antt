use Rattle.std.proofs.Common.{rules, ℕ, sym, ap, ◌∙◌, arith}
use mathlib.Core.Option.{none}
use Rattle.atomic_table.specs.Table.{step}
use Rattle.table_rule.specs.Words.{at}
use Rattle.table_rule.specs.Plays.{tied, Sat}
use Rattle.table_rule.proofs.Allowed.{ties-it}
use Rattle.table_rule.proofs.Calls.{moved_to}
use Rattle.table_rule.proofs.table.Chains.step_link.Goals as goal

pub store-requires : goal.store-requires
store-requires c = (search rules, search rules, moved_to c.args.self.now.layout c.args.self.now.table.shared.key c.args.self.now.table.shared.table_id.slots c.args.steps.now.seat.id c.args.steps.now.seat.me (at c.args.self.now.layout c.requires.fresh.0.slot 1) c.word_at-word.result (λ _. c.args.head) (λ x (_ : ℕ). tied (step c.args.self.now.table.shared.table_id.slots x c.args.head 0 none) c.args.steps.now.seat.me (c.args.head)) c.args.self.now.keyed (c.word_at-word.ensures.is ∙ ap (λ (k : ℕ). at c.args.self.now.layout k 1) (sym c.requires.fresh.1)) (ties-it c.args.self.now.layout c.args.self.now.table.shared.table_id.slots c.args.steps.now.seat.id c.args.steps.now.seat.me c.requires.table.1 c.args.bucket c.requires.bucket c.requires.held c.requires.begun.0 c.requires.begun.1 c.requires.begun.2 c.requires.fresh.0 c.args.head (c.requires.begun.3 ∙ sym c.requires.fresh.1) (omega (arith, c.requires.slot, c.requires.fresh.1)) c.requires.fresh.2 c.requires.idle c.requires.whole c.requires.head))

pub returns-clause-table : goal.returns-clause-table
returns-clause-table c = (c.store.ensures.0 ∙ c.requires.table.0, ap (λ (s : Sat). s.0.layout) c.store.ensures.2 ∙ c.requires.table.1)
