use Rattle.std.proofs.Common.{ap, ◌∙◌}
use Rattle.sock_card.specs.Words.{packed}
use Rattle.table_rule.proofs.CardWords.{packs_back}
use Rattle.table_rule.proofs.cards.known_card.Goals as goal

pub returns : goal.returns
returns c = ap packed c.unpack.ensures ∙ packs_back c.args.words.now c.requires.card
