use Rattle.std.proofs.Common.{◌≡◌, ap, ◌∙◌}
use Rattle.sock_card.specs.Became.{as_listener}
use Rattle.bind_buckets.specs.declared.held.Held.{Held as Inside}
use Rattle.bind_buckets.specs.Owners.{Listed}
use Rattle.bind_buckets.specs.First.{change_first}
use Rattle.bind_buckets.specs.OwnerStep.{has_name}
use Rattle.bind_buckets.proofs.RoomLeft.{changes, no_more}
use Rattle.bind_buckets.proofs.held.Held.listen.Goals as goal
use Rattle.bind_buckets.proofs.held.Held.listen.Goals.{then-owner, else-owner}

-- joining a group leaves the owners
same_owners : (c : goal.After-change) → c.if-owner.self.owners ≡ c.args.self.now.owners
same_owners c =
    elim c.if-owner.branch [
      | then-owner w ↦ ap (λ (x : Inside). x.owners) w.self-is ∙ w.join.ensures.owners
      | else-owner w ↦ ap (λ (x : Inside). x.owners) w.self-is
    ]

changed_owners : (c : goal.After-change) → c.change.new.self.owners ≡ change_first (has_name c.args.name) as_listener c.args.self.now.owners.owners
changed_owners c =
    c.change.ensures.owners ∙ ap (λ (l : Listed). change_first (has_name c.args.name) as_listener l.owners) (same_owners c)

pub returns-after-owner-clause-room : goal.returns-after-owner-clause-room
returns-after-owner-clause-room c =
    changes c.args.self.now.owners c.change.new.self _ _ (changed_owners c) (c.change.ensures.room ∙ ap (λ (l : Listed). l.room) (same_owners c))

pub returns-after-owner-clause-none : goal.returns-after-owner-clause-none
returns-after-owner-clause-none c = no_more c.args.self.now.owners c.change.new.self _ _ (changed_owners c)
