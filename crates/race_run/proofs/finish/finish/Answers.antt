use Rattle.std.proofs.Common.{refl}
use Rattle.race_run.proofs.Finishing.{finished}
use Rattle.race_run.proofs.finish.finish.Goals as goal

pub returns-clause-finished : goal.returns-clause-finished
returns-clause-finished c passes worked =
    let o = c.in_ok-outcomes.ensures in
    let n = c.now-clock.ensures in
    let b = c.in_ok-buckets.ensures in
    finished c.args.script.now passes c.args.capture.now.items c.args.lookers c.args.tables c.args.tickets.now c.args.first c.gather.new.first c.gather.new.draws c.args.done.items c.in_ok-outcomes.outcomes.items
    (record { chain = c.now-clock.new.pass; buckets = c.in_ok-buckets.buckets; clock = c.now-clock.result; outcomes = c.in_ok-outcomes.outcomes })
    c.requires.some c.requires.count c.requires.tables c.requires.first worked c.requires.tickets o.rest o.parts o.draws c.count-count.ensures.once o.joined o.outcomes o.count refl
    n.later n.sees n.whole n.rests.kept b.long b.left b.given b.in_order
