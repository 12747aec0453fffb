use Rattle.std.proofs.Common.{rules, ℕ, ◌+◌, sym, ap, ◌∙◌, arith, length}
use mathlib.Core.Option.{none}
use Rattle.atomic_table.specs.Table.{step}
use Rattle.table_rule.specs.Words.{at}
use Rattle.table_rule.specs.Plays.{Sat, glanced}
use Rattle.table_rule.proofs.AllowedLookups.{glances-at}
use Rattle.table_rule.proofs.Calls.{moved_to, lasting, numbers_last}
use Rattle.table_rule.proofs.table.Chains.step_read_peeked.Goals as goal

pub load-requires : goal.load-requires
load-requires c = (search rules, search rules, moved_to c.args.self.now.layout c.args.self.now.table.shared.key c.args.self.now.table.shared.table_id.slots c.args.steps.now.seat.id c.args.steps.now.seat.me (at c.args.self.now.layout c.requires.at.peeked.slot (2 + length c.requires.at.peeked.words)) c.word_at-place.result (λ n. n) (λ x. glanced (step c.args.self.now.table.shared.table_id.slots x 0 0 none) c.args.steps.now.seat.me) c.args.self.now.keyed (c.word_at-place.ensures.is ∙ (ap (λ (k : ℕ). at c.args.self.now.layout c.args.slot (2 + k)) (sym c.requires.at.known) ∙ ap (λ (k : ℕ). at c.args.self.now.layout k (2 + length c.requires.at.peeked.words)) (sym c.requires.at.slot-is))) (let r = c.requires.at in glances-at c.args.self.now.layout c.args.self.now.table.shared.table_id.slots c.args.steps.now.seat.id c.args.steps.now.seat.me c.requires.table.1 r.q r.peeked r.looks r.peek (omega (arith, c.requires.slot, r.slot-is)) (omega (arith, c.requires.word, r.known))))

pub returns-clause-table : goal.returns-clause-table
returns-clause-table c = (c.load.ensures.0 ∙ c.requires.table.0, ap (λ (s : Sat). s.0.layout) (c.load.ensures.2 c.requires.at.q c.requires.at.looks) ∙ c.requires.table.1)

pub invariant_of-steps : goal.invariant_of-steps
invariant_of-steps c = record { numbers = numbers_last c.args.steps.now.seat.me.0 c.load.new.seat.me.0 c.args.steps.now.seen c.args.steps.now.drawn (ap (λ (s : Sat). lasting s.0) (c.load.ensures.2 c.requires.at.q c.requires.at.looks)) c.args.steps.now.numbers }
