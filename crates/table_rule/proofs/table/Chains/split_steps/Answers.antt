use Rattle.std.proofs.Common.{rules}
use Rattle.table_rule.proofs.Splits.{splits_at}
use Rattle.table_rule.proofs.table.Chains.split_steps.Goals as goal

pub split_seat-requires : goal.split_seat-requires
split_seat-requires c = (search rules, search rules, splits_at c.args.self.now.layout c.args.self.now.table.shared.key c.args.steps.now.seat.id c.args.steps.now.seat.me.0 c.args.self.now.keyed c.requires.table.1 c.requires.parts c.requires.share.0 c.requires.share.1)
