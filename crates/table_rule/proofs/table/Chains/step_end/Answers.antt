use Rattle.std.proofs.Common.{rules, ◌+◌, ◌%◌, ◌^◌, refl, ap, ◌∙◌}
use mathlib.Core.Option.{none}
use Rattle.atomic_table.specs.Table.{step}
use Rattle.table_rule.specs.Plays.{Sat, ended}
use Rattle.table_rule.specs.Rule.{drawn}
use Rattle.table_rule.proofs.Allowed.{closes-it}
use Rattle.table_rule.proofs.Calls.{moved_to, numbers_drawn, closing_drawn}
use Rattle.table_rule.proofs.table.Chains.step_end.Goals as goal

pub fetch_add-number-requires : goal.fetch_add-number-requires
fetch_add-number-requires c = (search rules, search rules, moved_to c.args.self.now.layout c.args.self.now.table.shared.key c.args.self.now.table.shared.table_id.slots c.args.steps.now.seat.id c.args.steps.now.seat.me 0 0 (λ n. (n + 1) % 2 ^ 64) (λ x. ended (step c.args.self.now.table.shared.table_id.slots x 1 0 none) c.args.steps.now.seat.me) c.args.self.now.keyed refl (closes-it c.args.self.now.layout c.args.self.now.table.shared.table_id.slots c.args.steps.now.seat.id c.args.steps.now.seat.me c.requires.table.1 c.requires.held.0 c.requires.held.1 c.requires.share c.requires.open.0 c.requires.open.1 c.requires.open.2 c.requires.done c.requires.idle))

pub invariant_of-steps : goal.invariant_of-steps
invariant_of-steps c = record { numbers = numbers_drawn c.args.steps.now.seat.me.0 c.fetch_add-number.new.seat.me.0 c.args.steps.now.seen c.args.steps.now.drawn c.fetch_add-number.result (ap (λ (s : Sat). s.0.seen) c.fetch_add-number.ensures.2.1) (ap (λ (s : Sat). drawn s.0) c.fetch_add-number.ensures.2.1 ∙ closing_drawn c.args.steps.now.seat.me.0 _ c.requires.open.1 _) c.args.steps.now.numbers }
