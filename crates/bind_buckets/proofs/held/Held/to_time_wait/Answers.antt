use Rattle.std.proofs.Common.{sym, ◌∙◌}
use Rattle.bind_buckets.specs.HeldBy.{held_by}
use Rattle.bind_buckets.specs.OwnerStep.{has_name}
use Rattle.bind_buckets.proofs.Named.{strange_there, unreplaced}
use Rattle.bind_buckets.proofs.RoomLeft.{changes, no_more}
use Rattle.bind_buckets.proofs.held.Held.to_time_wait.Goals as goal

pub returns-in-None-clause-step : goal.returns-in-None-clause-step
returns-in-None-clause-step c =
    let none = sym c.change.ensures.was ∙ c.in-None.is in
    let h = held_by c.args.self.now in
    strange_there h c.args.name _ c.change.new.self.owners none (c.change.ensures.owners ∙ unreplaced (has_name c.args.name) _ h.owners none)

pub returns-in-None-clause-room : goal.returns-in-None-clause-room
returns-in-None-clause-room c = changes c.args.self.now.owners c.change.new.self _ _ c.change.ensures.owners c.change.ensures.room

pub returns-in-None-clause-none : goal.returns-in-None-clause-none
returns-in-None-clause-none c = no_more c.args.self.now.owners c.change.new.self _ _ c.change.ensures.owners

pub returns-in-Some-clause-room : goal.returns-in-Some-clause-room
returns-in-Some-clause-room c = changes c.args.self.now.owners c.change.new.self _ _ c.change.ensures.owners c.change.ensures.room

pub returns-in-Some-clause-none : goal.returns-in-Some-clause-none
returns-in-Some-clause-none c = no_more c.args.self.now.owners c.change.new.self _ _ c.change.ensures.owners
