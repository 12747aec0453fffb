-- The members of a group of listeners that share a port: reuseport_add_sock and reuseport_detach_sock of
-- net/core/sock_reuseport.c. How a member is written as one number is our own rule.
use Rattle.std.specs.Prelude.{ℕ, ◌+◌, ◌-◌, ◌*◌, ◌%◌, ◌^◌, Bool, ◌==◌, List, [], ◌∷◌, ◌++◌, length, take, slice_index}
use Rattle.std.specs.List.{list_any}
use Rattle.bind_buckets.specs.First.{change_first}

-- a member: the slot of its card, and its name
abbrev pub member : ℕ → ℕ → ℕ
member slot name = slot * 2 ^ 64 + name

abbrev pub is_named : ℕ → ℕ → Bool
is_named name m = m % 2 ^ 64 == name

-- the group has a member of that name
abbrev pub has_member : ℕ → List ℕ → Bool
has_member name members = list_any (is_named name) members

abbrev pub joined_by : ℕ → List ℕ → List ℕ
joined_by m members = members ++ m ∷ []

-- the last member takes the leaver's place
abbrev pub without_member : ℕ → List ℕ → List ℕ
without_member name members =
    let last = length members - 1 in take last (change_first (is_named name) (λ _. slice_index members last) members)
