use Rattle.race_run.proofs.Dumping.{lists_more}
use Rattle.race_run.proofs.section.list_for.Goals as goal

pub returns-clause-lists : goal.returns-clause-lists
returns-clause-lists g c =
    lists_more c.args.tables.now c.args.worker.now c.dump.new.worker c.in_ok-listing.listing c.dump.ensures.keeps c.in_ok-listing.ensures.lists c.args.command.now c.args.listings.now.items c.push.new.self.items
    c.in-Dump.is c.in_ok-push.ensures.items
