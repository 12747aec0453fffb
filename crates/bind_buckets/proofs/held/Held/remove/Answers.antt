use Rattle.std.proofs.Common.{sym, ◌∙◌}
use Rattle.bind_buckets.specs.HeldBy.{held_by}
use Rattle.bind_buckets.specs.OwnerStep.{has_name, removed}
use Rattle.bind_buckets.proofs.Named.{speaks_of, strange_there, undropped}
use Rattle.bind_buckets.proofs.RoomLeft.{goes, fewer}
use Rattle.bind_buckets.proofs.held.Held.remove.Goals as goal

pub returns-in-None-clause-step : goal.returns-in-None-clause-step
returns-in-None-clause-step c =
    let none = sym c.remove.ensures.gone ∙ c.in-None.is in
    let h = held_by c.args.self.now in
    strange_there h c.args.name (λ _. removed h c.args.name) c.remove.new.self.owners none (c.remove.ensures.owners ∙ undropped (has_name c.args.name) h.owners none)

pub returns-in-None-clause-room : goal.returns-in-None-clause-room
returns-in-None-clause-room c = goes c.args.self.now.owners c.remove.new.self _ c.remove.ensures.owners c.remove.ensures.room

pub returns-in-Some-clause-step : goal.returns-in-Some-clause-step
returns-in-Some-clause-step c =
    rw (c.leave.ensures.owners, c.leave.ensures.groups, c.remove.ensures.owners)
    (speaks_of (held_by c.args.self.now) c.args.name (λ _. removed (held_by c.args.self.now) c.args.name) c.in-Some.field-0 (sym c.remove.ensures.gone ∙ c.in-Some.is))

pub returns-in-Some-clause-room : goal.returns-in-Some-clause-room
returns-in-Some-clause-room c =
    rw c.leave.ensures.owners (goes c.args.self.now.owners c.remove.new.self _ c.remove.ensures.owners c.remove.ensures.room)

pub returns-in-None-clause-none : goal.returns-in-None-clause-none
returns-in-None-clause-none c = fewer c.args.self.now.owners c.remove.new.self _ c.remove.ensures.owners

pub returns-in-Some-clause-none : goal.returns-in-Some-clause-none
returns-in-Some-clause-none c = rw c.leave.ensures.owners (fewer c.args.self.now.owners c.remove.new.self _ c.remove.ensures.owners)
