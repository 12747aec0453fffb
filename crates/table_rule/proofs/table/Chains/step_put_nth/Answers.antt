use Rattle.std.proofs.Common.{rules, ◌+◌, ◌-◌, ◌%◌, ◌^◌, ap, ◌∙◌}
use mathlib.Core.Option.{none}
use Rattle.atomic_table.specs.Table.{step}
use Rattle.table_rule.specs.Words.{at}
use Rattle.table_rule.specs.Plays.{Sat, let_go}
use Rattle.table_rule.proofs.AllowedLookups.{lets-go}
use Rattle.table_rule.proofs.Calls.{moved_to, word_is, lasting, numbers_last}
use Rattle.table_rule.proofs.table.Chains.step_put_nth.Goals as goal

pub fetch_sub-requires : goal.fetch_sub-requires
fetch_sub-requires g c = (search rules, search rules, moved_to c.args.self.now.layout c.args.self.now.table.shared.key c.args.self.now.table.shared.table_id.slots c.args.steps.now.seat.id c.args.steps.now.seat.me (at c.args.self.now.layout c.args.slot 0) c.word_at-word.result (λ n. (n + (2 ^ 64 - 1)) % 2 ^ 64) (λ x. let_go g.T.Told.slot (step c.args.self.now.table.shared.table_id.slots x 1 0 none) c.args.steps.now.seat.me) c.args.self.now.keyed c.word_at-word.ensures.is (lets-go c.args.self.now.layout c.args.self.now.table.shared.table_id.slots c.args.steps.now.seat.id c.args.steps.now.seat.me c.requires.table.1 c.args.slot c.requires.slot g.T.Told.slot c.requires.nth.kept c.requires.nth.there c.requires.nth.slot-is))

pub returns-clause-table : goal.returns-clause-table
returns-clause-table g c = (c.fetch_sub.ensures.0 ∙ c.requires.table.0, ap (λ (s : Sat). s.0.layout) (c.fetch_sub.ensures.2 c.args.slot (word_is _ _ _ 0 _ c.requires.table.1 c.word_at-word.ensures.is)) ∙ c.requires.table.1)

pub returns-clause-view : goal.returns-clause-view
returns-clause-view g c = c.fetch_sub.ensures.2 c.args.slot (word_is _ _ _ 0 _ c.requires.table.1 c.word_at-word.ensures.is)

pub invariant_of-steps : goal.invariant_of-steps
invariant_of-steps g c = record { numbers = numbers_last c.args.steps.now.seat.me.0 c.fetch_sub.new.seat.me.0 c.args.steps.now.seen c.args.steps.now.drawn (ap (λ (s : Sat). lasting s.0) (c.fetch_sub.ensures.2 c.args.slot (word_is _ _ _ 0 _ c.requires.table.1 c.word_at-word.ensures.is))) c.args.steps.now.numbers }
