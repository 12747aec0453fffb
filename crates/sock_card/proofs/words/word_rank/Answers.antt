use Rattle.std.proofs.Common.{Bool, sym, ap, ◌∙◌, if◌then◌else◌}
use Rattle.sock_card.proofs.WordTuples.{tuple_decides}
use Rattle.sock_card.proofs.words.word_rank.Goals as goal

pub returns-clause-rank : goal.returns-clause-rank
returns-clause-rank c =
    c.five_if.ensures
    ∙ ap (λ (b : Bool). if b then 5 else 0) c.is_taken.ensures
    ∙ sym (tuple_decides c.args.packet.now c.args.ends c.args.ports (sym c.is_listener.ensures ∙ c.if-is_listener.false))
