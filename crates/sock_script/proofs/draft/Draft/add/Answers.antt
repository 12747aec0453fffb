use Rattle.sock_script.proofs.draft.Draft.add.Goals as goal

pub returns-in-Table : goal.returns-in-Table
returns-in-Table c = rw c.in-Table.is (c.add_table.ensures c.args.mode)

pub returns-in-Range : goal.returns-in-Range
returns-in-Range c = rw c.in-Range.is (c.add_range.ensures c.args.mode)

pub returns-in-Reserved : goal.returns-in-Reserved
returns-in-Reserved c = rw c.in-Reserved.is (c.add_reserved.ensures c.args.mode)

pub returns-in-Seed : goal.returns-in-Seed
returns-in-Seed c = rw c.in-Seed.is (c.add_seed.ensures c.args.mode)

pub returns-in-Offset : goal.returns-in-Offset
returns-in-Offset c = rw c.in-Offset.is (c.add_offset.ensures c.args.mode)

pub returns-in-TimeWaitReuse : goal.returns-in-TimeWaitReuse
returns-in-TimeWaitReuse c = rw c.in-TimeWaitReuse.is (c.add_twreuse.ensures c.args.mode)

pub returns-in-Capture : goal.returns-in-Capture
returns-in-Capture c = rw c.in-Capture.is (c.begin_capture.ensures c.args.mode)
