use Rattle.race_text.proofs.Commands.{lawful_text}
use Rattle.race_text.proofs.rows.lawful_texts.Goals as goal

pub returns : goal.returns
returns c = lawful_text
