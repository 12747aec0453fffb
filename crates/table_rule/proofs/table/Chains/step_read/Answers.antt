use Rattle.std.proofs.Common.{rules, ℕ, ◌+◌, sym, ap, ◌∙◌, arith, length}
use mathlib.Core.Option.{none}
use Rattle.atomic_table.specs.Table.{step}
use Rattle.table_rule.specs.Words.{at}
use Rattle.table_rule.specs.Plays.{read, Sat}
use Rattle.table_rule.proofs.Allowed.{reads}
use Rattle.table_rule.proofs.Calls.{moved_to}
use Rattle.table_rule.proofs.table.Chains.step_read.Goals as goal

pub load-requires : goal.load-requires
load-requires c = (search rules, search rules, moved_to c.args.self.now.layout c.args.self.now.table.shared.key c.args.self.now.table.shared.table_id.slots c.args.steps.now.seat.id c.args.steps.now.seat.me (at c.args.self.now.layout c.args.slot (2 + length c.requires.ahead.0.words)) c.word_at-place.result (λ n. n) (λ x. read (step c.args.self.now.table.shared.table_id.slots x 0 0 none) c.args.steps.now.seat.me) c.args.self.now.keyed (c.word_at-place.ensures.is ∙ ap (λ (k : ℕ). at c.args.self.now.layout c.args.slot (2 + k)) (sym c.requires.ahead.2)) (reads c.args.self.now.layout c.args.self.now.table.shared.table_id.slots c.args.steps.now.seat.id c.args.steps.now.seat.me c.requires.table.1 c.args.slot c.requires.ahead.0 c.requires.ahead.1 c.requires.slot (omega (arith, c.requires.ahead.2, c.requires.word)) c.requires.ahead.3))

pub returns-clause-table : goal.returns-clause-table
returns-clause-table c = (c.load.ensures.0 ∙ c.requires.table.0, ap (λ (s : Sat). s.0.layout) c.load.ensures.2.0 ∙ c.requires.table.1)
