use Rattle.std.proofs.Common.{rules, ◌+◌, ◌%◌, ◌^◌, ◌∙◌}
use mathlib.Core.Option.{none}
use Rattle.atomic_table.specs.Table.{step}
use Rattle.table_rule.specs.Words.{at}
use Rattle.table_rule.specs.Plays.{reached}
use Rattle.table_rule.proofs.AllowedLookups.{reaches-it}
use Rattle.table_rule.proofs.Calls.{moved_to, word_is, reached_lasts, layout_lasts, numbers_last}
use Rattle.table_rule.proofs.table.Chains.step_take_best.Goals as goal

pub fetch_add-requires : goal.fetch_add-requires
fetch_add-requires c = (search rules, search rules, moved_to c.args.self.now.layout c.args.self.now.table.shared.key c.args.self.now.table.shared.table_id.slots c.args.steps.now.seat.id c.args.steps.now.seat.me (at c.args.self.now.layout c.args.slot 0) c.word_at-word.result (λ n. (n + 1) % 2 ^ 64) (λ x. reached (step c.args.self.now.table.shared.table_id.slots x 1 0 none) c.args.steps.now.seat.me) c.args.self.now.keyed c.word_at-word.ensures.is (reaches-it c.args.self.now.layout c.args.self.now.table.shared.table_id.slots c.args.steps.now.seat.id c.args.steps.now.seat.me c.requires.table.1 c.args.slot c.requires.slot c.requires.room c.requires.at.q c.requires.at.looks c.requires.at.walking c.requires.at.link))

pub returns-clause-table : goal.returns-clause-table
returns-clause-table c = (c.fetch_add.ensures.0 ∙ c.requires.table.0, layout_lasts c.args.steps.now.seat.me.0 c.fetch_add.new.seat.me.0 (reached_lasts (step c.args.self.now.table.shared.table_id.slots c.word_at-word.result 1 0 none) c.args.steps.now.seat.me _ _ c.args.slot c.requires.at.q c.requires.at.looks (word_is _ _ _ 0 _ c.requires.table.1 c.word_at-word.ensures.is) c.fetch_add.ensures.2) ∙ c.requires.table.1)

pub returns-clause-live : goal.returns-clause-live
returns-clause-live c = λ live. c.fetch_add.ensures.2.0 live c.args.slot (word_is _ _ _ 0 _ c.requires.table.1 c.word_at-word.ensures.is)

pub returns-clause-dead : goal.returns-clause-dead
returns-clause-dead c = λ dead q e. c.fetch_add.ensures.2.1 dead q e c.args.slot (word_is _ _ _ 0 _ c.requires.table.1 c.word_at-word.ensures.is)

pub invariant_of-steps : goal.invariant_of-steps
invariant_of-steps c = record { numbers = numbers_last c.args.steps.now.seat.me.0 c.fetch_add.new.seat.me.0 c.args.steps.now.seen c.args.steps.now.drawn (reached_lasts (step c.args.self.now.table.shared.table_id.slots c.word_at-word.result 1 0 none) c.args.steps.now.seat.me _ _ c.args.slot c.requires.at.q c.requires.at.looks (word_is _ _ _ 0 _ c.requires.table.1 c.word_at-word.ensures.is) c.fetch_add.ensures.2) c.args.steps.now.numbers }
