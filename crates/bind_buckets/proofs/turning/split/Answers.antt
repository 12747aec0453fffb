use Rattle.turn_table.specs.Passes as words
use Rattle.bind_buckets.proofs.Opened.{idle_split}
use Rattle.bind_buckets.proofs.turning.split.Goals as goal

pub returns-clause-idle : goal.returns-clause-idle
returns-clause-idle c = idle_split c.args.turns.now c.split.result (words.about c.args.pass.now) (words.splits c.args.pass.now) (words.seen c.args.pass.now) c.split.ensures.table.1 c.split.ensures.hand.1 c.split.ensures.new c.requires.some c.requires.shared
