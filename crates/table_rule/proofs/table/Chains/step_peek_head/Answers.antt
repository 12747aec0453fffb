use Rattle.std.proofs.Common.{rules, sym, ap, ◌∙◌, arith}
use mathlib.Core.Option.{none}
use Rattle.atomic_table.specs.Table.{step}
use Rattle.table_rule.specs.Words.{head_at}
use Rattle.table_rule.specs.Plays.{arrived, entering}
use Rattle.table_rule.proofs.AllowedLookups.{peeks-head}
use Rattle.table_rule.proofs.Calls.{moved_to, arrives_lasts, layout_lasts, numbers_last}
use Rattle.table_rule.proofs.table.Chains.step_peek_head.Goals as goal

pub load-requires : goal.load-requires
load-requires c = (search rules, search rules, moved_to c.args.self.now.layout c.args.self.now.table.shared.key c.args.self.now.table.shared.table_id.slots c.args.steps.now.seat.id c.args.steps.now.seat.me (head_at c.requires.looks.0.bucket) c.head_word-word.result (λ n. n) (λ x. arrived entering (step c.args.self.now.table.shared.table_id.slots x 0 0 none) c.args.steps.now.seat.me) c.args.self.now.keyed (c.head_word-word.ensures.is ∙ ap head_at (sym c.requires.looks.2)) (peeks-head c.args.self.now.layout c.args.self.now.table.shared.table_id.slots c.args.steps.now.seat.id c.args.steps.now.seat.me c.requires.table.1 c.requires.looks.0 c.requires.looks.1 (omega (arith, c.requires.bucket, c.requires.looks.2))))

pub returns-clause-table : goal.returns-clause-table
returns-clause-table c = (c.load.ensures.0 ∙ c.requires.table.0, layout_lasts c.args.steps.now.seat.me.0 c.load.new.seat.me.0 (arrives_lasts c.args.steps.now.seat.me _ (entering c.requires.looks.0) c.requires.looks.0.bucket _ (c.load.ensures.2 c.requires.looks.0 c.requires.looks.1)) ∙ c.requires.table.1)

pub invariant_of-steps : goal.invariant_of-steps
invariant_of-steps c = record { numbers = numbers_last c.args.steps.now.seat.me.0 c.load.new.seat.me.0 c.args.steps.now.seen c.args.steps.now.drawn (arrives_lasts c.args.steps.now.seat.me _ (entering c.requires.looks.0) c.requires.looks.0.bucket _ (c.load.ensures.2 c.requires.looks.0 c.requires.looks.1)) c.args.steps.now.numbers }
