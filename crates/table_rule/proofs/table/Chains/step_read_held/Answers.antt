use Rattle.std.proofs.Common.{rules, ℕ, ◌+◌, sym, ap, ◌∙◌, arith, length}
use mathlib.Core.Option.{none}
use Rattle.atomic_table.specs.Table.{step}
use Rattle.table_rule.specs.Words.{at}
use Rattle.table_rule.specs.Plays.{Sat, learned}
use Rattle.table_rule.proofs.AllowedLookups.{learns-it}
use Rattle.table_rule.proofs.Calls.{moved_to}
use Rattle.table_rule.proofs.table.Chains.step_read_held.Goals as goal

pub load-requires : goal.load-requires
load-requires c = (search rules, search rules, moved_to c.args.self.now.layout c.args.self.now.table.shared.key c.args.self.now.table.shared.table_id.slots c.args.steps.now.seat.id c.args.steps.now.seat.me (at c.args.self.now.layout c.requires.kept.kept.slot (2 + length c.requires.kept.kept.words)) c.word_at-place.result (λ n. n) (λ x. learned (step c.args.self.now.table.shared.table_id.slots x 0 0 none) c.args.steps.now.seat.me) c.args.self.now.keyed (c.word_at-place.ensures.is ∙ (ap (λ (k : ℕ). at c.args.self.now.layout c.args.slot (2 + k)) (sym c.requires.kept.known) ∙ ap (λ (k : ℕ). at c.args.self.now.layout k (2 + length c.requires.kept.kept.words)) (sym c.requires.kept.slot-is))) (let r = c.requires.kept in learns-it c.args.self.now.layout c.args.self.now.table.shared.table_id.slots c.args.steps.now.seat.id c.args.steps.now.seat.me c.requires.table.1 r.kept r.others r.there (omega (arith, c.requires.slot, r.slot-is)) (omega (arith, c.requires.word, r.known))))

pub returns-clause-table : goal.returns-clause-table
returns-clause-table c = (c.load.ensures.0 ∙ c.requires.table.0, ap (λ (s : Sat). s.0.layout) c.load.ensures.2.0 ∙ c.requires.table.1)
