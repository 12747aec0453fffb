use Rattle.bind_buckets.proofs.turning.ask.Goals as goal

pub returns-clause-asks : goal.returns-clause-asks
returns-clause-asks c =
    let e = c.ask_one.ensures in
    record { out = e.out; place = e.place; value = e.after; made_is = e.made; draws = e.draws; caller = e.caller; within = e.within }
