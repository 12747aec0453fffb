use Rattle.std.proofs.Common.{ap, sym, decimal}
use Rattle.refusals.specs.Texts.{kind_text}
use Rattle.refusals.proofs.Joined.{then_ok, behind, named}
use Rattle.refusals.proofs.text.put_kind.Goals as goal

pub returns-in_ok-put-in-Power : goal.returns-in_ok-put-in-Power
unfolding kind_text
returns-in_ok-put-in-Power c =
    then_ok c.put_number.result c.put_number.ensures
    (λ last. named _ _ _ _ (behind _ _ _ _ _ c.in_ok-put-in-Power.ensures (named _ _ _ _ last (ap decimal c.from.ensures))) (ap kind_text (sym c.in-Power.is)))
