-- The slots in which a list keeps its owners, and how they are filed: our own rule.
--
-- In two parts: how owners are kept and filed, up to `AreKept`, which holds between two calls; and what the steps over
-- them find, from `is_other` on.
use Rattle.std.specs.Prelude.{◌≡◌, ℕ, ◌+◌, ◌*◌, ◌%◌, ◌<◌, ◌≤◌, Bool, true, false, ◌==◌, ◌&&◌, ◌||◌, List, [], ◌∷◌, map, filter, length, Option, None, Some, zero, suc, min, slice_index, IfSome}
use Rattle.std.specs.List.{slice_index_or}
use Rattle.sock_card.specs.declared.owner.Owner.{Owner}
use Rattle.sock_card.specs.Conflict.{refuses, overlap, holds, is_mate}
use Rattle.bind_buckets.specs.declared.slot.Slot.{Slot}
use Rattle.bind_buckets.specs.declared.slot.Asked.{Asked}
use Rattle.bind_buckets.specs.declared.slot.Asked.TheVariants as asks
use Rattle.bind_buckets.specs.declared.slot.Under.{Under}
use Rattle.bind_buckets.specs.declared.slot.Under.TheVariants as unders
use Rattle.bind_buckets.specs.Links.{Keyed, IsFirstIn, place_or_end, IsAfter}
use Rattle.bind_buckets.specs.OwnerStep.{has_name, waits_as}

-- the owners that are here, oldest first
abbrev pub owners_in : List Slot → List Owner
owners_in slots = map (λ (s : Slot). s.owner) (filter (λ (s : Slot). s.here) slots)

-- what is asked holds of the owner
abbrev pub answers : Asked → Owner → Bool
answers (asks.Named name) = has_name name
answers (asks.Waiting name) = waits_as name
answers (asks.Refuses a) = refuses a
answers (asks.Overlaps a) = overlap a
answers (asks.Groups a) = is_mate a
answers (asks.Holds port net) = holds port net

-- an owner is here of which it holds
abbrev pub has : Asked → Slot → Bool
has asked s = s.here && answers asked s.owner

-- the slots, once the owner has left that one
abbrev pub left_at : ℕ → List Slot → List Slot
left_at place [] = []
left_at zero (s ∷ rest) = record s { here = false } ∷ rest
left_at (suc place) (s ∷ rest) = s ∷ left_at place rest

-- the slots, beside that one if one is named
abbrev pub beside : Option ℕ → List Slot → List Slot
beside None slots = slots
beside (Some place) slots = left_at place slots

-- where what is asked can hold: under a name, a port, or a port and an address
abbrev pub is_under : Under → Slot → Bool
is_under (unders.Name name) s = s.owner.name == name
is_under (unders.Port port) s = s.owner.port == port
is_under (unders.End port addr) s = (s.owner.port == port) && ((s.owner.addr == addr) || (s.owner.addr == 0))

abbrev pub IsUnder : Asked → Under → Type 0
IsUnder asked under = (s : Slot) → has asked s ≡ true → is_under under s ≡ true

-- what a port and an address are filed under, in 32 bits; ports spread by 2654435769, which is 2^32 over the golden
-- ratio
abbrev pub end_key : ℕ → ℕ → ℕ
end_key port addr = (addr + port * 2654435769) % 4294967296

abbrev pub names_in : List Slot → List ℕ
names_in slots = map (λ (s : Slot). s.owner.name) slots

abbrev pub ports_in : List Slot → List ℕ
ports_in slots = map (λ (s : Slot). s.owner.port) slots

abbrev pub ends_in : List Slot → List ℕ
ends_in slots = map (λ (s : Slot). end_key s.owner.port s.filed) slots

-- filed under its own address, or that of all
abbrev pub is_filed : Slot → Bool
is_filed s = (s.filed == 0) || (s.filed == s.owner.addr)

-- the keys under which slots are filed, and how many more may come without memory
pub record Filed : Type 0 where
  pub names : List ℕ
  pub ports : List ℕ
  pub ends : List ℕ
  pub room : ℕ

-- these slots are filed so
pub record AreFiled (slots : List Slot) (filed : Filed) : Type 0 where
  pub names : filed.names ≡ names_in slots
  pub ports : filed.ports ≡ ports_in slots
  pub ends : filed.ends ≡ ends_in slots
  pub right : (place : ℕ) (d : Slot) → place < length slots → is_filed (slice_index_or slots place d) ≡ true

-- what holds of slots, in a vector of that capacity
pub record AreKept (slots : List Slot) (index : Filed) (gone capacity : ℕ) : Type 0 where
  pub filed : AreFiled slots index
  pub gone_is : length (owners_in slots) + gone ≡ length slots
  pub room : length slots + index.room ≤ capacity

-- the key, if one is named
abbrev pub is_other : Option ℕ → ℕ → Bool
is_other None k = false
is_other (Some key) k = k == key

-- what is asked holds only of slots whose key is one of these
abbrev pub HoldsAt : Asked → ℕ → Option ℕ → List ℕ → List Slot → Type 0
HoldsAt asked one other keys slots =
    (place : ℕ) (d : Slot) → place < length slots → has asked (slice_index_or slots place d) ≡ true
    → ((slice_index keys place == one) || is_other other (slice_index keys place)) ≡ true

-- the lesser of two places
abbrev pub earlier : Option ℕ → Option ℕ → Option ℕ
earlier None b = b
earlier (Some a) None = Some a
earlier (Some a) (Some b) = Some (min a b)

-- as many keys of each kind, and room for as many more
pub record IsRoomy (room : ℕ) (names ports ends : Keyed) : Type 0 where
  pub as_many_ports : length ports.keys ≡ length names.keys
  pub as_many_ends : length ends.keys ≡ length names.keys
  pub name_room : room ≤ names.room
  pub port_room : room ≤ ports.room
  pub end_room : room ≤ ends.room

-- from the first that passes, the first behind that place, which none before it is
abbrev pub IsStep : ℕ → (ℕ → Bool) → List ℕ → Option ℕ → Option ℕ → Type 0
IsStep place is keys at next =
    (from : ℕ) → IsFirstIn is keys from (length keys) at → from ≤ place → place ≤ place_or_end at (length keys)
    → place < length keys → IsFirstIn is keys (place + 1) (length keys) next

abbrev pub IsAfterOther : Option ℕ → Option ℕ → List ℕ → Type 0
IsAfterOther None after keys = after ≡ None
IsAfterOther (Some key) after keys = IsAfter key after keys

-- this owner may take the place of that one, and is found where it was
abbrev pub StandsThere : Owner → Option Owner → Type 0
StandsThere a there =
    IfSome there (λ (b : Owner). (b.port ≡ a.port) × ((b.addr == 0) || (b.addr == a.addr)) ≡ true)
