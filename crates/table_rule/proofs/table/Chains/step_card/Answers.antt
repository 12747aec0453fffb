use Rattle.std.proofs.Common.{rules, ℕ, ◌+◌, sym, ap, ◌∙◌, arith, length}
use mathlib.Core.Option.{none}
use Rattle.atomic_table.specs.Table.{step}
use Rattle.table_rule.specs.Words.{at}
use Rattle.table_rule.specs.Plays.{wrote, Sat}
use Rattle.table_rule.proofs.Allowed.{writes}
use Rattle.table_rule.proofs.Calls.{moved_to}
use Rattle.table_rule.proofs.table.Chains.step_card.Goals as goal

pub store-requires : goal.store-requires
store-requires c = (search rules, search rules, moved_to c.args.self.now.layout c.args.self.now.table.shared.key c.args.self.now.table.shared.table_id.slots c.args.steps.now.seat.id c.args.steps.now.seat.me (at c.args.self.now.layout c.args.slot (2 + length c.requires.fresh.0.words)) c.word_at-place.result (λ _. c.args.value) (λ x (_ : ℕ). wrote (step c.args.self.now.table.shared.table_id.slots x c.args.value 0 none) c.args.steps.now.seat.me (c.args.value)) c.args.self.now.keyed (c.word_at-place.ensures.is ∙ ap (λ (k : ℕ). at c.args.self.now.layout c.args.slot (2 + k)) (sym c.requires.fresh.2)) (writes c.args.self.now.layout c.args.self.now.table.shared.table_id.slots c.args.steps.now.seat.id c.args.steps.now.seat.me c.requires.table.1 c.requires.begun.0 c.requires.begun.1 c.requires.begun.2 c.args.slot c.args.value c.requires.fresh.0 c.requires.fresh.1 c.requires.begun.3 c.requires.slot (omega (arith, c.requires.fresh.2, c.requires.word)) c.requires.fresh.3))

pub returns-clause-table : goal.returns-clause-table
returns-clause-table c = (c.store.ensures.0 ∙ c.requires.table.0, ap (λ (s : Sat). s.0.layout) c.store.ensures.2 ∙ c.requires.table.1)
