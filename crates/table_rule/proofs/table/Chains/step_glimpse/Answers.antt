use Rattle.std.proofs.Common.{rules, ◌∙◌}
use mathlib.Core.Option.{none}
use Rattle.atomic_table.specs.Table.{step}
use Rattle.table_rule.specs.Words.{at}
use Rattle.table_rule.specs.Plays.{glimpsed}
use Rattle.table_rule.proofs.Allowed.{glimpses}
use Rattle.table_rule.proofs.Calls.{moved_to, word_is, glimpsed_lasts, layout_lasts, numbers_last}
use Rattle.table_rule.proofs.table.Chains.step_glimpse.Goals as goal

pub load-requires : goal.load-requires
load-requires c = (search rules, search rules, moved_to c.args.self.now.layout c.args.self.now.table.shared.key c.args.self.now.table.shared.table_id.slots c.args.steps.now.seat.id c.args.steps.now.seat.me (at c.args.self.now.layout c.args.slot 0) c.word_at-word.result (λ n. n) (λ x. glimpsed (step c.args.self.now.table.shared.table_id.slots x 0 0 none) c.args.steps.now.seat.me) c.args.self.now.keyed c.word_at-word.ensures.is (glimpses c.args.self.now.layout c.args.self.now.table.shared.table_id.slots c.args.steps.now.seat.id c.args.steps.now.seat.me c.requires.table.1 c.args.slot c.requires.slot))

pub returns-clause-table : goal.returns-clause-table
returns-clause-table c = (c.load.ensures.0 ∙ c.requires.table.0, layout_lasts c.args.steps.now.seat.me.0 c.load.new.seat.me.0 (glimpsed_lasts (step c.args.self.now.table.shared.table_id.slots c.word_at-word.result 0 0 none) c.args.steps.now.seat.me _ _ c.args.slot (word_is _ _ _ 0 _ c.requires.table.1 c.word_at-word.ensures.is) c.load.ensures.2) ∙ c.requires.table.1)

pub returns-clause-held : goal.returns-clause-held
returns-clause-held c = λ ne lt. c.load.ensures.2.1.0 ne lt c.args.slot (word_is _ _ _ 0 _ c.requires.table.1 c.word_at-word.ensures.is)

pub returns-clause-owned : goal.returns-clause-owned
returns-clause-owned c = λ z. c.load.ensures.2.1.1 z c.args.slot (word_is _ _ _ 0 _ c.requires.table.1 c.word_at-word.ensures.is)

pub returns-clause-known : goal.returns-clause-known
returns-clause-known c = c.load.ensures.2.2 c.args.slot (word_is _ _ _ 0 _ c.requires.table.1 c.word_at-word.ensures.is)

pub invariant_of-steps : goal.invariant_of-steps
invariant_of-steps c = record { numbers = numbers_last c.args.steps.now.seat.me.0 c.load.new.seat.me.0 c.args.steps.now.seen c.args.steps.now.drawn (glimpsed_lasts (step c.args.self.now.table.shared.table_id.slots c.word_at-word.result 0 0 none) c.args.steps.now.seat.me _ _ c.args.slot (word_is _ _ _ 0 _ c.requires.table.1 c.word_at-word.ensures.is) c.load.ensures.2) c.args.steps.now.numbers }
