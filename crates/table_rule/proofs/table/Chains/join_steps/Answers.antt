use Rattle.std.proofs.Common.{rules, ap, refl, ◌∙◌, arith}
use mathlib.Core.Option.{none}
use Rattle.atomic_table.specs.Table.{step}
use Rattle.table_rule.specs.Plays.{Sat, counted}
use Rattle.table_rule.specs.Rule.{drawn}
use Rattle.table_rule.proofs.Allowed.{counts-it}
use Rattle.table_rule.proofs.Calls.{moved_to, both_drawn}
use Rattle.table_rule.proofs.Joins.{joins_at}
use Rattle.table_rule.proofs.table.Chains.join_steps.Goals as goal

pub join_seat-requires : goal.join_seat-requires
join_seat-requires c = (search rules, search rules, search rules, search rules, joins_at c.args.self.now.layout c.args.self.now.table.shared.key c.args.steps.now.seat.id _ c.args.steps.now.seat.me.0 _ c.args.self.now.keyed c.requires.table.1 c.requires.other.2)

pub load-steps-requires : goal.load-steps-requires
load-steps-requires c = (search rules, search rules, moved_to c.args.self.now.layout c.args.self.now.table.shared.key c.args.self.now.table.shared.table_id.slots c.join_seat.new.seat.id c.join_seat.new.seat.me 0 0 (λ n. n) (λ x. counted (step c.args.self.now.table.shared.table_id.slots x 0 0 none) c.join_seat.new.seat.me) c.args.self.now.keyed refl (counts-it c.args.self.now.layout c.args.self.now.table.shared.table_id.slots c.join_seat.new.seat.id c.join_seat.new.seat.me (ap (λ (s : Sat). s.0.layout) c.join_seat.ensures.2 ∙ c.requires.table.1)))

pub overflow_add-steps : goal.overflow_add-steps
overflow_add-steps c = omega (arith, both_drawn c.args.steps.now.seat.me.0 c.args.other.seat.me.0 c.requires.other.2.7, c.args.steps.now.numbers.1, c.args.other.numbers.1, ap (λ (s : Sat). drawn s.0) c.join_seat.ensures.2, c.load-steps.ensures.2.1, c.load-steps.type_inv)

pub invariant_of-steps : goal.invariant_of-steps
invariant_of-steps c =
    let is = c.load-steps.ensures.2.0 ∙ c.join_seat.ensures.2 in
    record {
      numbers = (
        omega (arith, c.max-steps.ensures, c.args.steps.now.numbers.0, c.args.other.numbers.0, ap (λ (s : Sat). s.0.seen) is),
        omega (arith, both_drawn c.args.steps.now.seat.me.0 c.args.other.seat.me.0 c.requires.other.2.7, c.args.steps.now.numbers.1, c.args.other.numbers.1, ap (λ (s : Sat). drawn s.0) is),
      );
    }
