-- Words for what passes are between two calls, and for what their table is: our own. What passes know is `known`, and
-- the other words are read off it.
use Rattle.std.specs.Prelude.{◌≡◌, ℕ, ◌<◌, true, List, [], ◌∷◌}
use Rattle.reuseport_group.specs.Words.{list_at, Settled}
use Rattle.reuseport_group.specs.declared.view.Stored.{Stored}
use Rattle.reuseport_group.specs.declared.view.GroupView.{GroupView}
use Rattle.reuseport_group.specs.declared.pass.GroupPasses.{GroupPasses}
use Rattle.reuseport_group.specs.declared.pass.Groups.{Groups}

-- how many groups there are
abbrev pub groups : Groups → ℕ
groups t = t.count

abbrev pub known : GroupPasses → GroupView
known p = p.seat.me.0

-- they were never split
abbrev pub IsSole : GroupPasses → Type 0
IsSole p = (known p).sole ≡ true

-- their parts of the right to know the whole: all 16,384 where each other passes were joined to them
abbrev pub parts : GroupPasses → ℕ
parts p = (known p).parts

-- what they stored, newest first, and behind it what those that they joined stored
abbrev pub stored : GroupPasses → List Stored
stored p = (known p).mine

-- the list that they published last for a group, or, where they published none, that passes which they joined did
abbrev pub published : GroupPasses → ℕ → List ℕ
published p group = list_at group (stored p)

-- passes of this table, with a part. Where they were never split, no list is torn
abbrev pub IsPassOf : Groups → GroupPasses → Type 0
IsPassOf t p = (p.seat.table_id ≡ t.table.shared.table_id) × (0 < parts p) × (IsSole p → Settled (stored p))

-- the moments that they know: that of their last step, or those that they began with and were joined with
abbrev pub moments : GroupPasses → List (List Stored)
moments p = (known p).moments

abbrev pub newest : List (List Stored) → List Stored
newest [] = []
newest (m ∷ ms) = m

-- after a call of `publish` or `choose`: the moment of its last step
abbrev pub now : GroupPasses → List Stored
now p = newest (moments p)
