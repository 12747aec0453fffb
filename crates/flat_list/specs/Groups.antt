-- Groups of listeners that share an end by SO_REUSEPORT: reuseport_alloc, reuseport_add_sock and
-- reuseport_detach_sock of net/core/sock_reuseport.c. Our own: a bind bucket has eight places for groups,
-- and a group room for so many members.
--
-- To be read from `leave` and `join` upwards: these are what one that leaves and a newcomer make of the groups.
use Rattle.std.specs.Prelude.{ℕ, ◌-◌, ◌*◌, ◌%◌, Bool, ◌==◌, ◌&&◌, not, nat_lt, List, [], ◌∷◌, ◌++◌, length, Option, None, Some, if◌then◌else◌, map, filter, find, take, slice_index}
use Rattle.std.specs.List.{list_any, range_with_len}
use Rattle.std.specs.Option.{option_map}
use Rattle.sock_card.specs.Limits.{group_room}

-- a group's number, which is 8 times its bind bucket's and its place there, and the names of its members
pub record Group : Type 0 where
  pub number : ℕ
  pub members : List ℕ

abbrev pub has_member : ℕ → Group → Bool
has_member name g = list_any (λ m. m == name) g.members

abbrev pub last_of : List ℕ → ℕ
last_of xs = slice_index xs (length xs - 1)

-- a member, with new in place of old
abbrev pub renamed : ℕ → ℕ → ℕ → ℕ
renamed old new member = if member == old then new else member

-- the last member takes the leaver's place
abbrev pub left_by : ℕ → List ℕ → List ℕ
left_by name xs = take (length xs - 1) (map (renamed name (last_of xs)) xs)

abbrev pub leave_group : ℕ → Group → Group
leave_group name g = if has_member name g then record g { members = left_by name g.members } else g

abbrev pub has_members : Group → Bool
has_members g = nat_lt 0 (length g.members)

-- the groups after the socket of that name is gone: a group without members frees its place
abbrev pub leave : ℕ → List Group → List Group
leave name groups = filter has_members (map (leave_group name) groups)

abbrev pub join_group : ℕ → ℕ → Group → Group
join_group mate name g = if has_member mate g then record g { members = g.members ++ name ∷ [] } else g

-- the mate's group has no room
abbrev pub is_full_group : ℕ → Group → Bool
is_full_group mate g = has_member mate g && (length g.members == group_room)

-- the bind bucket of a key, where there are so many
abbrev pub bucket_of : ℕ → ℕ → ℕ
bucket_of key buckets = key % buckets

-- some group has that number
abbrev pub is_used : List Group → ℕ → Bool
is_used groups number = list_any (λ (g : Group). g.number == number) groups

-- the lowest number of a bind bucket that no group has
abbrev pub free_number : ℕ → List Group → Option ℕ
free_number bucket groups = find (λ number. not (is_used groups number)) (range_with_len (8 * bucket) 8)

abbrev pub with_group : ℕ → ℕ → List Group → List Group
with_group name number groups = groups ++ record { number = number; members = name ∷ [] } ∷ []

-- the groups after a socket joined the group of its mate, where it has one, or began one in that bind bucket; none
-- where there is no place for it
abbrev pub join : ℕ → ℕ → Option ℕ → List Group → Option (List Group)
join bucket name (Some mate) groups =
    if list_any (is_full_group mate) groups then None else Some (map (join_group mate name) groups)
join bucket name None groups = option_map (λ number. with_group name number groups) (free_number bucket groups)
