use Rattle.std.proofs.Common.{rules, ◌∙◌}
use mathlib.Core.Option.{none}
use Rattle.atomic_table.specs.Table.{step}
use Rattle.table_rule.specs.Words.{at}
use Rattle.table_rule.specs.Plays.{arrived, following}
use Rattle.table_rule.proofs.AllowedLookups.{peeks-link}
use Rattle.table_rule.proofs.Calls.{moved_to, arrives_lasts, layout_lasts, numbers_last}
use Rattle.table_rule.proofs.table.Chains.step_peek_link.Goals as goal

pub load-requires : goal.load-requires
load-requires c = (search rules, search rules, moved_to c.args.self.now.layout c.args.self.now.table.shared.key c.args.self.now.table.shared.table_id.slots c.args.steps.now.seat.id c.args.steps.now.seat.me (at c.args.self.now.layout c.args.slot 1) c.word_at-word.result (λ n. n) (λ x. arrived following (step c.args.self.now.table.shared.table_id.slots x 0 0 none) c.args.steps.now.seat.me) c.args.self.now.keyed c.word_at-word.ensures.is (let r = c.requires.passed in peeks-link c.args.self.now.layout c.args.self.now.table.shared.table_id.slots c.args.steps.now.seat.id c.args.steps.now.seat.me c.requires.table.1 r.q c.args.slot r.a r.b r.peeked r.looks r.walking r.link c.requires.slot r.few r.peek r.slot-is r.words r.low))

pub returns-clause-table : goal.returns-clause-table
returns-clause-table c = (c.load.ensures.0 ∙ c.requires.table.0, layout_lasts c.args.steps.now.seat.me.0 c.load.new.seat.me.0 (arrives_lasts c.args.steps.now.seat.me _ (following c.requires.passed.q) c.requires.passed.q.bucket _ (c.load.ensures.2 c.requires.passed.q c.requires.passed.looks)) ∙ c.requires.table.1)

pub invariant_of-steps : goal.invariant_of-steps
invariant_of-steps c = record { numbers = numbers_last c.args.steps.now.seat.me.0 c.load.new.seat.me.0 c.args.steps.now.seen c.args.steps.now.drawn (arrives_lasts c.args.steps.now.seat.me _ (following c.requires.passed.q) c.requires.passed.q.bucket _ (c.load.ensures.2 c.requires.passed.q c.requires.passed.looks)) c.args.steps.now.numbers }
