use Rattle.std.proofs.Common.{rules, ℕ, ◌∷◌, [], sym, ap, ◌∙◌, arith}
use mathlib.Core.Option.{none}
use Rattle.atomic_table.specs.Table.{step}
use Rattle.table_rule.specs.Words.{head_at}
use Rattle.table_rule.specs.Plays.{passed, Sat}
use Rattle.table_rule.proofs.Allowed.{passes-head}
use Rattle.table_rule.proofs.Calls.{moved_to}
use Rattle.table_rule.proofs.table.Chains.step_past_head.Goals as goal

pub store-requires : goal.store-requires
store-requires c = (
  search rules,
  search rules,
  moved_to c.args.self.now.layout c.args.self.now.table.shared.key c.args.self.now.table.shared.table_id.slots c.args.steps.now.seat.id c.args.steps.now.seat.me (head_at c.args.bucket) c.head_word-word.result (λ _. c.args.link) (λ x (_ : ℕ). passed (step c.args.self.now.table.shared.table_id.slots x c.args.link 0 none) c.args.steps.now.seat.me c.args.link) c.args.self.now.keyed c.head_word-word.ensures.is
      (passes-head c.args.self.now.layout c.args.self.now.table.shared.table_id.slots c.args.steps.now.seat.id c.args.steps.now.seat.me c.requires.table.1 c.args.bucket c.requires.bucket c.requires.held c.requires.first.0 c.requires.first.1 c.args.link (omega (arith, c.requires.slot, c.requires.first.2)) (c.requires.leaving.0 ∙ ap (λ (k : ℕ). k ∷ []) (sym c.requires.first.2)) c.requires.leaving.1 c.requires.leaving.2 c.requires.leaving.3 c.requires.begun.0.0 c.requires.begun.0.1 c.requires.begun.0.2 (c.requires.begun.0.3 ∙ sym c.requires.first.2) c.requires.begun.1 c.requires.first.4 c.requires.first.5 c.requires.first.3),
)

pub returns-clause-table : goal.returns-clause-table
returns-clause-table c = (c.store.ensures.0 ∙ c.requires.table.0, ap (λ (s : Sat). s.0.layout) c.store.ensures.2 ∙ c.requires.table.1)
