use Rattle.std.proofs.Common.{rules, ap, ◌∙◌, bit_or}
use mathlib.Core.Option.{none}
use Rattle.atomic_table.specs.Table.{step}
use Rattle.table_rule.specs.Words.{at}
use Rattle.table_rule.specs.Plays.{lit, Sat}
use Rattle.table_rule.proofs.Allowed.{lightens}
use Rattle.table_rule.proofs.Calls.{moved_to}
use Rattle.table_rule.proofs.table.Chains.step_live.Goals as goal

pub fetch_or-requires : goal.fetch_or-requires
fetch_or-requires c = (search rules, search rules, moved_to c.args.self.now.layout c.args.self.now.table.shared.key c.args.self.now.table.shared.table_id.slots c.args.steps.now.seat.id c.args.steps.now.seat.me (at c.args.self.now.layout c.args.slot 0) c.word_at-word.result (λ n. bit_or n 4611686018427387904) (λ x. lit (step c.args.self.now.table.shared.table_id.slots x 4611686018427387904 0 none) c.args.steps.now.seat.me) c.args.self.now.keyed c.word_at-word.ensures.is (lightens c.args.self.now.layout c.args.self.now.table.shared.table_id.slots c.args.steps.now.seat.id c.args.steps.now.seat.me c.requires.table.1 c.args.slot c.requires.slot c.requires.begun.0.0 c.requires.first.0 c.requires.first.1 c.requires.first.2 c.requires.first.3 c.requires.first.4 c.requires.first.5 c.requires.begun.0.1 c.requires.begun.0.2 c.requires.begun.0.3 c.requires.first.6 c.requires.first.7 c.requires.first.8 c.requires.held.0 c.requires.held.1 c.requires.hung.0 c.requires.hung.1 c.requires.whole c.requires.alone c.requires.begun.1 c.requires.first.9 (c.requires.held.2 c.requires.first.0 c.requires.first.1 c.requires.first.6)))

pub returns-clause-table : goal.returns-clause-table
returns-clause-table c = (c.fetch_or.ensures.0 ∙ c.requires.table.0, ap (λ (s : Sat). s.0.layout) c.fetch_or.ensures.2 ∙ c.requires.table.1)
