-- The words of a group and what was stored in them: `num_socks` and `socks[]` of struct sock_reuseport in
-- include/net/sock_reuseport.h. How words are numbered, and that a moment is known by all that was stored,
-- is our own.
--
-- To be read from the beginning.
use Rattle.std.specs.Prelude.{◌≡◌, ℕ, zero, suc, ◌+◌, ◌*◌, ◌<◌, ◌≤◌, ◌==◌, ◌&&◌, if◌then◌else◌, List, [], ◌∷◌, ◌++◌, length, slice_get, slice_index, Some}
use mathlib.Core.Option.{some}
use lib.ListN.{get_elem?}
use Rattle.list_words.specs.Lists.{Each}
use Rattle.reuseport_group.specs.declared.pass.TheConstants.{MOST}
use Rattle.reuseport_group.specs.declared.view.Stored.{Stored}

-- the most members of a group
abbrev pub most : ℕ
most = MOST

-- where word j of a group stands among the words of all groups: word 0 is the count, and those from 1 on are the
-- members
abbrev pub at : ℕ → ℕ → ℕ
at group j = (1 + most) * group + j

-- word j of a list: its length, and from 1 on its members, with 0 past them
abbrev pub word_of : List ℕ → ℕ → ℕ
word_of list zero = length list
word_of list (suc place) = slice_index list place

-- A moment is all that was stored up to it, newest first.

-- what stands in word j of a group at a moment: what was stored there last, or the 0 with which it begins
abbrev pub latest : ℕ → ℕ → List Stored → ℕ
latest group j [] = 0
latest group j (e ∷ es) = if (e.group == group) && (e.at == j) then word_of e.members j else latest group j es

abbrev pub count_at : ℕ → List Stored → ℕ
count_at group moment = latest group 0 moment

abbrev pub member_at : ℕ → ℕ → List Stored → ℕ
member_at group place moment = latest group (1 + place) moment

-- the list whose count stands in a group at a moment: of no members, where none was stored
abbrev pub list_at : ℕ → List Stored → List ℕ
list_at group [] = []
list_at group (e ∷ es) = if (e.group == group) && (e.at == 0) then e.members else list_at group es

-- the stores of the first n members of a list, or of zeros in their place
abbrev pub members_stored : ℕ → List ℕ → ℕ → List Stored
members_stored group list zero = []
members_stored group list (suc place) =
    record { group = group; at = suc place; members = list } ∷ members_stored group list place

-- the stores of a whole list: its members, zeros after them, and last its count, as __reuseport_add_sock of
-- net/core/sock_reuseport.c stores a member before it raises the count
unfoldable pub stores : ℕ → List ℕ → List Stored
stores group list = record { group = group; at = 0; members = list } ∷ members_stored group list most

-- this moment is that one, or comes after it: what was stored by then was stored, and maybe more
abbrev pub NotBefore : List Stored → List Stored → Type 0
NotBefore now before = (more : List Stored) × (now ≡ more ++ before)

-- it is one of these stores
abbrev pub Occurs : Stored → List Stored → Type 0
Occurs e es = (k : ℕ) × (get_elem? es k ≡ some e)

-- each of these was stored by that moment
abbrev pub AllOccur : List Stored → List Stored → Type 0
AllOccur es moment = Each (λ (e : Stored). Occurs e moment) es

-- each word of that list was stored in that group by that moment: its members, zeros after them, and its count
abbrev pub WasPublished : ℕ → List ℕ → List Stored → Type 0
WasPublished group list moment = (j : ℕ) → j ≤ most → Occurs record { group = group; at = j; members = list } moment

-- it was stored by that moment at that place of that group, as the member there of some list
abbrev pub WasMember : ℕ → ℕ → ℕ → List Stored → Type 0
WasMember group place member moment =
    (list : List ℕ) × Occurs record { group = group; at = 1 + place; members = list } moment
    × (slice_get list place ≡ Some member)

-- each member of that list was stored in that group by that moment, and zeros after them
abbrev pub HasMembers : ℕ → List ℕ → List Stored → Type 0
HasMembers group list moment =
    (place : ℕ) → place < most → Occurs record { group = group; at = suc place; members = list } moment

-- no count was stored before the members of its list: smp_wmb in __reuseport_add_sock
abbrev pub Ordered : List Stored → Type 0
Ordered [] = Unit {0}
Ordered (e ∷ es) = (e.at ≡ 0 → HasMembers e.group e.members es) × Ordered es

-- each word of each group is of the list whose count stands there: no list is torn
abbrev pub Settled : List Stored → Type 0
Settled moment = (group j : ℕ) → j ≤ most → latest group j moment ≡ word_of (list_at group moment) j

-- what isn't before these moments isn't before those
abbrev pub Follows : List (List Stored) → List (List Stored) → Type 0
Follows these those = (moment : List Stored) → Each (NotBefore moment) these → Each (NotBefore moment) those
