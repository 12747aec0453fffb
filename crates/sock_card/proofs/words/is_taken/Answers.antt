use Rattle.std.proofs.Common.{sym, ◌∙◌}
use Rattle.sock_card.proofs.WordTuples.{second_of_both}
use Rattle.sock_card.proofs.words.is_taken.Goals as goal

pub returns-then-has_tuple : goal.returns-then-has_tuple
returns-then-has_tuple c = second_of_both _ _ _ (sym c.has_tuple.ensures ∙ c.if-has_tuple.true) (c.takes_device.ensures c.args.ends)
