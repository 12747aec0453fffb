use Rattle.std.proofs.Common.{rules, ap, ◌∙◌, bit_and}
use mathlib.Core.Option.{none}
use Rattle.atomic_table.specs.Table.{step}
use Rattle.table_rule.specs.Words.{at}
use Rattle.table_rule.specs.Plays.{freed, Sat}
use Rattle.table_rule.proofs.Allowed.{frees-it}
use Rattle.table_rule.proofs.Calls.{moved_to}
use Rattle.table_rule.proofs.table.Chains.step_clear_own.Goals as goal

pub fetch_and-requires : goal.fetch_and-requires
fetch_and-requires c = (search rules, search rules, moved_to c.args.self.now.layout c.args.self.now.table.shared.key c.args.self.now.table.shared.table_id.slots c.args.steps.now.seat.id c.args.steps.now.seat.me (at c.args.self.now.layout c.args.slot 0) c.word_at-word.result (λ n. bit_and n 9223372036854775807) (λ x. freed (step c.args.self.now.table.shared.table_id.slots x 9223372036854775807 0 none) c.args.steps.now.seat.me) c.args.self.now.keyed c.word_at-word.ensures.is (frees-it c.args.self.now.layout c.args.self.now.table.shared.table_id.slots c.args.steps.now.seat.id c.args.steps.now.seat.me c.requires.table.1 c.args.slot c.requires.slot c.requires.begun.0 c.requires.begun.1 c.requires.begun.2 c.requires.loose))

pub returns-clause-table : goal.returns-clause-table
returns-clause-table c = (c.fetch_and.ensures.0 ∙ c.requires.table.0, ap (λ (s : Sat). s.0.layout) c.fetch_and.ensures.2 ∙ c.requires.table.1)
