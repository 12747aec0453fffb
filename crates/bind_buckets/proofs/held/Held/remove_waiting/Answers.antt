use Rattle.std.proofs.Common.{refl, sym, ◌∙◌}
use Rattle.bind_buckets.specs.OwnerStep.{waits_as}
use Rattle.bind_buckets.proofs.Named.{undropped}
use Rattle.bind_buckets.proofs.RoomLeft.{goes, fewer}
use Rattle.bind_buckets.proofs.held.Held.remove_waiting.Goals as goal

pub returns-in-None-clause-step : goal.returns-in-None-clause-step
returns-in-None-clause-step c =
    let none = sym c.remove_waiting.ensures.gone ∙ c.in-None.is in
    rw (c.remove_waiting.ensures.owners, undropped (waits_as c.args.name) _ none, none) refl

pub returns-in-None-clause-room : goal.returns-in-None-clause-room
returns-in-None-clause-room c = goes c.args.self.now.owners c.remove_waiting.new.self _ c.remove_waiting.ensures.owners c.remove_waiting.ensures.room

pub returns-in-Some-clause-step : goal.returns-in-Some-clause-step
returns-in-Some-clause-step c =
    rw (c.remove_waiting.ensures.owners, sym c.remove_waiting.ensures.gone ∙ c.in-Some.is) refl

pub returns-in-Some-clause-room : goal.returns-in-Some-clause-room
returns-in-Some-clause-room c = goes c.args.self.now.owners c.remove_waiting.new.self _ c.remove_waiting.ensures.owners c.remove_waiting.ensures.room

pub returns-in-None-clause-none : goal.returns-in-None-clause-none
returns-in-None-clause-none c = fewer c.args.self.now.owners c.remove_waiting.new.self _ c.remove_waiting.ensures.owners

pub returns-in-Some-clause-none : goal.returns-in-Some-clause-none
returns-in-Some-clause-none c = fewer c.args.self.now.owners c.remove_waiting.new.self _ c.remove_waiting.ensures.owners
