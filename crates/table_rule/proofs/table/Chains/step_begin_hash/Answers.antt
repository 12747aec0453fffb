use Rattle.std.proofs.Common.{rules, ◌+◌, ◌%◌, ◌^◌, refl}
use mathlib.Core.Option.{none}
use Rattle.atomic_table.specs.Table.{step}
use Rattle.table_rule.specs.Plays.{began}
use Rattle.table_rule.proofs.Allowed.{begins-it}
use Rattle.table_rule.proofs.Calls.{moved_to}
use Rattle.table_rule.proofs.table.Chains.step_begin_hash.Goals as goal

pub fetch_add-number-requires : goal.fetch_add-number-requires
fetch_add-number-requires c = (search rules, search rules, moved_to c.args.self.now.layout c.args.self.now.table.shared.key c.args.self.now.table.shared.table_id.slots c.args.steps.now.seat.id c.args.steps.now.seat.me 0 0 (λ n. (n + 1) % 2 ^ 64) (λ x. began (step c.args.self.now.table.shared.table_id.slots x 1 0 none) c.args.steps.now.seat.me) c.args.self.now.keyed refl (begins-it c.args.self.now.layout c.args.self.now.table.shared.table_id.slots c.args.steps.now.seat.id c.args.steps.now.seat.me c.requires.table.1 c.requires.held.0 c.requires.held.1 c.requires.share c.requires.closed c.requires.idle.0 c.requires.idle.1))
