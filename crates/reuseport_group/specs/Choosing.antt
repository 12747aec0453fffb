-- What a choice loads, and what it answers: reuseport_select_sock of net/core/sock_reuseport.c, which reads the count
-- and then one member.
use Rattle.std.specs.Prelude.{◌≡◌, ◌≢◌, ℕ, ◌==◌, if◌then◌else◌, List, length, Option, None, Some}
use Rattle.jhash_words.specs.Places.{scale}
use Rattle.list_words.specs.Lists.{Each}
use Rattle.reuseport_group.specs.Words.{count_at, member_at, list_at, NotBefore, AllOccur, WasPublished, WasMember}
use Rattle.reuseport_group.specs.Passes.{stored, moments, now}
use Rattle.reuseport_group.specs.declared.choice.Choice.{Choice}
use Rattle.reuseport_group.specs.declared.pass.GroupPasses.{GroupPasses}
use Rattle.reuseport_group.specs.declared.view.Stored.{Stored}

-- a choice, or none where its member is 0
abbrev pub present : Option Choice → Option Choice
present None = None
present (Some c) = if c.member == 0 then None else Some c

-- the choice by a count and the member at the place to which it scales the hash:
-- none exactly where one of the two is 0
abbrev pub choice_of : ℕ → (ℕ → ℕ) → ℕ → Option Choice
choice_of count member hash =
    let place = scale hash count in
    if count == 0 then None else present (Some (record { member = member place; place = place; count = count }))

-- The count was loaded at one moment, and the member, where the count isn't 0, at the last one.
pub record Chose (before after : GroupPasses) (group hash : ℕ) (result : Option Choice) : Type 0 where
  pub counted : List Stored
  -- neither is before any moment that the passes knew, and by both all that they stored was stored
  pub known : Each (NotBefore counted) (moments before)
  pub own : AllOccur (stored before) counted
  pub later : NotBefore (now after) counted
  -- a count that isn't 0 is that of a list of which each word was stored by then. So the member is that list's, or
  -- was stored later
  pub complete : count_at group counted ≢ 0 → WasPublished group (list_at group counted) counted
  pub answer : result ≡ choice_of (count_at group counted) (λ place. member_at group place (now after)) hash

-- the count is that of a list that was published by this moment, and the member was one of a list at that place
pub record IsOfPublished (group : ℕ) (moment : List Stored) (c : Choice) : Type 0 where
  pub list : List ℕ
  pub published : WasPublished group list moment
  pub count : c.count ≡ length list
  pub member : WasMember group c.place c.member moment
