use Rattle.std.proofs.Common.{rules, ℕ, ◌+◌, sym, ap, ◌∙◌, arith, length}
use mathlib.Core.Option.{none}
use Rattle.atomic_table.specs.Table.{step}
use Rattle.table_rule.specs.Words.{at}
use Rattle.table_rule.specs.Plays.{judged}
use Rattle.table_rule.proofs.AllowedLookups.{judges-it}
use Rattle.table_rule.proofs.Calls.{moved_to, judged_lasts, layout_lasts, numbers_last}
use Rattle.table_rule.proofs.table.Chains.step_read_last.Goals as goal

pub load-requires : goal.load-requires
load-requires c = (search rules, search rules, moved_to c.args.self.now.layout c.args.self.now.table.shared.key c.args.self.now.table.shared.table_id.slots c.args.steps.now.seat.id c.args.steps.now.seat.me (at c.args.self.now.layout c.requires.kept.kept.slot (2 + length c.requires.kept.kept.words)) c.word_at-place.result (λ n. n) (λ x. judged (step c.args.self.now.table.shared.table_id.slots x 0 0 none) c.args.steps.now.seat.me) c.args.self.now.keyed (c.word_at-place.ensures.is ∙ (ap (λ (k : ℕ). at c.args.self.now.layout c.args.slot (2 + k)) (sym (ap (length {A = ℕ}) c.requires.kept.known)) ∙ ap (λ (k : ℕ). at c.args.self.now.layout k (2 + length c.requires.kept.kept.words)) (sym c.requires.kept.slot-is))) (let r = c.requires.kept in judges-it c.args.self.now.layout c.args.self.now.table.shared.table_id.slots c.args.steps.now.seat.id c.args.steps.now.seat.me c.requires.table.1 r.q r.peeked r.kept r.others r.a r.b r.a' r.b' r.c' r.looks r.peek r.words r.there r.same-slot (omega (arith, c.requires.slot, r.slot-is)) r.known r.better))

pub returns-clause-table : goal.returns-clause-table
returns-clause-table c = (c.load.ensures.0 ∙ c.requires.table.0, layout_lasts c.args.steps.now.seat.me.0 c.load.new.seat.me.0 (judged_lasts c.args.steps.now.seat.me _ c.requires.kept.q c.requires.kept.peeked c.requires.kept.kept _ (c.load.ensures.2 c.requires.kept.q c.requires.kept.peeked c.requires.kept.kept c.requires.kept.others c.requires.kept.looks c.requires.kept.peek c.requires.kept.there)) ∙ c.requires.table.1)

pub invariant_of-steps : goal.invariant_of-steps
invariant_of-steps c = record { numbers = numbers_last c.args.steps.now.seat.me.0 c.load.new.seat.me.0 c.args.steps.now.seen c.args.steps.now.drawn (judged_lasts c.args.steps.now.seat.me _ c.requires.kept.q c.requires.kept.peeked c.requires.kept.kept _ (c.load.ensures.2 c.requires.kept.q c.requires.kept.peeked c.requires.kept.kept c.requires.kept.others c.requires.kept.looks c.requires.kept.peek c.requires.kept.there)) c.args.steps.now.numbers }
