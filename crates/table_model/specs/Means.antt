-- What tables mean as a flat list of sockets, and what a section's own means in it: our own. What buckets and chains
-- hold is compared by weight: whatever number is given to each owner or card, both sides weigh the same. So both hold
-- the same, each as often, and in no matter which order.
--
-- To be read from `Means`: what it says of the tables is `TablesMean`, and of a section's own `OwnMeans`. `Refines`
-- says it of what a command's plan comes to. The laws stand at the end, from `PlansRefine` on.
use Rattle.std.specs.Prelude.{◌≡◌, ◌≢◌, ℕ, ◌+◌, ◌*◌, ◌/◌, ◌%◌, ◌^◌, ◌<◌, ◌≤◌, Bool, true, false, ◌==◌, ◌&&◌, cond, List, [], ◌++◌, length, map, filter, count_by, Option, None, Some, unwrap_or, find}
use Rattle.std.specs.List.{list_any, slice_index_or}
use Rattle.std.specs.Option.{option_map}
use Rattle.list_words.specs.Lists.{Each, Pairs, total}
use Rattle.sock_card.specs.declared.owner.Owner.{Owner}
use Rattle.sock_card.specs.declared.card.Card.{Card}
use Rattle.sock_card.specs.declared.card.Kind.{Kind}
use Rattle.sock_card.specs.Conflict.{owner_key, is_time_wait}
use Rattle.bind_buckets.specs.Journal.{Standing}
use Rattle.bind_buckets.specs.Members.{has_member}
use Rattle.bind_buckets.specs.OwnerStep.{has_name as is_owner_named, members_at}
use Rattle.chain_book.specs.declared.outcome.Hashed.{Hashed}
use Rattle.chain_book.specs.Chains.{Chains, row_at, home_in, has_slot}
use Rattle.chain_book.specs.Homes.{chain_count}
use Rattle.flat_list.specs.declared.header.Header.{Header}
use Rattle.flat_list.specs.declared.command.Command.{Command}
use Rattle.flat_list.specs.declared.command.Command.TheVariants as commands
use Rattle.flat_list.specs.declared.socket.Socket.{Socket}
use Rattle.flat_list.specs.Flat.{Flat, new_flat}
use Rattle.flat_list.specs.Groups.{Group}
use Rattle.flat_list.specs.Look.{cards_of}
use Rattle.flat_list.specs.Sections.{Section, section_of}
use Rattle.flat_list.specs.Sockets.{is_owner, has_name, is_open_in, slots_used, kind_of}
use Rattle.flat_list.specs.Sound.{IsSound}
use Rattle.flat_list.specs.Step.{step}
use Rattle.table_model.specs.Tables.{Tables, Ended, new_tables, run}
use Rattle.bind_buckets.specs.BindHash.{standing_at, untouched}
use Rattle.table_model.specs.Own.{Own, Mine, new_own, card_of}
use Rattle.table_model.specs.Commands.{Replied, plan}

-- what a socket adds to the weight of all owners
abbrev pub owns : (Owner → ℕ) → Socket → ℕ
owns f s = cond (is_owner s.owner.state) (f s.owner) 0

-- the weight of all owners of the buckets
abbrev pub weigh_owners : (Owner → ℕ) → List Standing → ℕ
weigh_owners f buckets = total (λ (s : Standing). total f s.held.owners) buckets

-- the buckets hold the owners of the list, each in that of its key
pub record OwnersMean (buckets : List Standing) (flat : Flat) : Type 0 where
  pub count : length buckets ≡ flat.header.shape.bind
  pub owners : (f : Owner → ℕ) → weigh_owners f buckets ≡ total (owns f) flat.sockets
  pub keys : (key : ℕ) → Each (λ (a : Owner). owner_key a % length buckets ≡ key % length buckets)
      (standing_at buckets key).held.owners

-- the weight of all cards of the chains
abbrev pub weigh_cards : (Card → ℕ) → List (List Hashed) → ℕ
weigh_cards f rows = total (λ row. total (λ (x : Hashed). f x.card) row) rows

-- how many cards stand in that slot
abbrev pub count_in_slot : ℕ → List (List Hashed) → ℕ
count_in_slot slot rows = total (λ row. count_by (has_slot slot) row) rows

abbrev pub is_used : Bool → Bool
is_used used = used

-- the chains hold the cards of the list, each at home, and each in a slot of its own
pub record ChainsMean (chains : Chains) (flat : Flat) : Type 0 where
  pub shape : chains.shape ≡ flat.header.shape
  pub seed : chains.seed ≡ flat.header.seed
  pub count : length chains.rows ≡ chain_count chains.shape
  pub cards : (f : Card → ℕ) → weigh_cards f chains.rows ≡ total f (cards_of flat.groups flat.sockets)
  pub homes : (bucket : ℕ) → Each (λ (x : Hashed). home_in chains x.card ≡ bucket) (row_at chains bucket)
  pub slots : length chains.slots.used ≡ flat.header.shape.slots
  pub alone : (slot : ℕ) → count_in_slot slot chains.rows ≡ cond (slice_index_or chains.slots.used slot false) 1 0
  pub used : count_by is_used chains.slots.used ≡ slots_used flat.sockets
  pub next : chains.slots.next ≤ length chains.slots.used

-- the names in members' words
abbrev pub names_in : List ℕ → List ℕ
names_in members = map (λ m. m % 2 ^ 64) members

-- the names of the members of the group of that number in the list, none where it has no such group
abbrev pub members_of : ℕ → List Group → List ℕ
members_of number groups =
    unwrap_or (option_map (λ (g : Group). g.members) (find (λ (g : Group). g.number == number) groups)) []

-- a member's word contains the slot of a listener and its name, and under that name it stands in that slot
abbrev pub stands_as : ℕ → Hashed → Bool
stands_as m x = (x.slot == m / 2 ^ 64) && (x.card.name == m % 2 ^ 64)

abbrev pub stands_in_some : ℕ → List (List Hashed) → Bool
stands_in_some m rows = list_any (λ row. list_any (stands_as m) row) rows

-- at each place of each bucket are the members of the list's group of that number, in one order
pub record GroupsMean (t : Tables) (flat : Flat) : Type 0 where
  pub members : (number place : ℕ) → number < length t.buckets → place < 8
      → names_in (members_at (slice_index_or t.buckets number untouched).held place)
      ≡ members_of (8 * number + place) flat.groups
  pub places : Each (λ (s : Standing). length s.held.groups ≡ 8) t.buckets
  pub stand : Each (λ (s : Standing). Each
      (λ members. Each (λ m. stands_in_some m t.chains.rows ≡ true) members) s.held.groups) t.buckets

-- tables that mean the list
pub record TablesMean (t : Tables) (flat : Flat) : Type 0 where
  pub owners : OwnersMean t.buckets flat
  pub chains : ChainsMean t.chains flat
  pub groups : GroupsMean t flat

-- a TIME_WAIT of section n
abbrev pub is_wait_of : ℕ → Socket → Bool
is_wait_of n s = is_time_wait s.owner.state && (s.owner.name / 2 ^ 56 == n)

abbrev pub owner_of : Socket → Owner
owner_of s = s.owner

abbrev pub owner_in : Mine → Owner
owner_in m = m.owner

abbrev pub name_in : Mine → ℕ
name_in m = m.owner.name

-- a socket of one's own that is hashed as that kind stands in its place
abbrev pub StandsAs : Chains → Mine → Option Kind → Type 0
StandsAs chains m (Some kind) =
    list_any (λ (x : Hashed). has_slot m.place.slot x && (x.card.name == m.owner.name)) (row_at chains m.place.bucket)
    ≡ true
    × (m.place.bucket ≡ home_in chains (card_of kind m))
StandsAs chains m None = Unit {0}

-- what a TIME_WAIT of one's own adds to the weight of those that are still there
abbrev pub weighs_if_there : (Owner → ℕ → ℕ) → List Socket → Mine → ℕ
weighs_if_there f sockets w = cond (list_any (has_name w.owner.name) sockets) (f w.owner w.extra) 0

-- what a TIME_WAIT of section n in the list adds to it
abbrev pub weighs_as_wait : (Owner → ℕ → ℕ) → ℕ → Socket → ℕ
weighs_as_wait f n s = cond (is_wait_of n s) (f s.owner s.stamp) 0

-- a name that a section with so many labels has given
pub record IsNameOf (n labels name : ℕ) : Type 0 where
  pub section : name / 2 ^ 56 ≡ n
  pub first : 1 ≤ name % 2 ^ 56
  pub last : name % 2 ^ 56 ≤ labels

abbrev pub section_as : Own → Section
section_as own =
    record { number = own.number; labels = own.labels; moment = own.moment; generator = own.offsets.generator }

-- what a section knows of itself is what the list says of it: it gives no marks, its open sockets are those of the list,
-- each stands in its place, and the TIME_WAITs that it left are those of the list, but for such as were replaced
pub record OwnMeans (n : ℕ) (own : Own) (t : Tables) (flat : Flat) : Type 0 where
  pub number : own.number ≡ n
  pub unmarked : own.mark ≡ 0
  pub section : section_as own ≡ section_of flat.header n flat.sections
  pub range : own.offsets.range ≡ flat.header.range
  pub offset : own.offsets.offset ≡ flat.header.offset
  pub sockets : map owner_in own.sockets ≡ map owner_of (filter (is_open_in n) flat.sockets)
  pub stand : Each (λ (m : Mine). StandsAs t.chains m (kind_of m.owner.state)) own.sockets
  pub waits : (f : Owner → ℕ → ℕ)
      → total (weighs_if_there f flat.sockets) own.waits ≡ total (weighs_as_wait f n) flat.sockets
  pub names : Pairs (λ (a b : ℕ). a ≢ b) (map name_in own.sockets ++ map name_in own.waits)
  pub given : Each (λ (w : Mine). IsNameOf n (length own.labels) w.owner.name) own.waits

-- a shape as a script may give it: one bucket of each kind at least
pub record IsShape (header : Header) : Type 0 where
  pub bind : 1 ≤ header.shape.bind
  pub hash : 1 ≤ header.shape.hash
  pub listen : 1 ≤ header.shape.listen

-- the tables, and what section n knows of itself, are those of a sound list
pub record Means (n : ℕ) (own : Own) (t : Tables) (flat : Flat) : Type 0 where
  pub shape : IsShape flat.header
  pub sound : IsSound flat
  pub tables : TablesMean t flat
  pub own_is : OwnMeans n own t flat

-- the reply is the list's, and what is left means what the list leaves
pub record Refines (n : ℕ) (ended : Ended Replied) (flat : Flat) (command : Command) : Type 0 where
  pub reply : ended.result.reply ≡ (step flat n command).reply
  pub means : Means n ended.result.own ended.tables (step flat n command).flat

-- a command that asks for lookups, and changes nothing
abbrev pub is_lookup : Command → Bool
is_lookup (commands.Look query) = true
is_lookup (commands.Packets count) = true
is_lookup _ = false

-- a command's plan, carried out on tables that mean a list, replies as the list does, and leaves what it leaves
abbrev pub PlansRefine : Type 0
PlansRefine =
    (n : ℕ) (own : Own) (t : Tables) (flat : Flat) (command : Command) (ended : Ended Replied)
    → n ≤ 255 → length own.labels + 1 < 2 ^ 56 → is_lookup command ≡ false
    → Means n own t flat → run t (plan flat.header own command) ≡ Some ended → Refines n ended flat command

-- and the tables never answer what no table answers
abbrev pub PlansEnd : Type 0
PlansEnd =
    (n : ℕ) (own : Own) (t : Tables) (flat : Flat) (command : Command)
    → n ≤ 255 → is_lookup command ≡ false → Means n own t flat
    → (ended : Ended Replied) × (run t (plan flat.header own command) ≡ Some ended)

-- and what another section knows of itself stays meant
abbrev pub OthersStay : Type 0
OthersStay =
    (n m : ℕ) (own other : Own) (t : Tables) (flat : Flat) (command : Command) (ended : Ended Replied)
    → n ≤ 255 → length own.labels + 1 < 2 ^ 56 → is_lookup command ≡ false → m ≢ n
    → Means n own t flat → Means m other t flat → run t (plan flat.header own command) ≡ Some ended
    → Means m other ended.tables (step flat n command).flat

-- new tables mean the empty list
abbrev pub NewMeanEmpty : Type 0
NewMeanEmpty = (header : Header) → TablesMean (new_tables header.shape header.seed) (new_flat header)

-- a section that hasn't begun knows nothing of itself yet, whatever others have done
abbrev pub StartsMeant : Type 0
StartsMeant =
    (n : ℕ) (t : Tables) (flat : Flat) → 1 ≤ n → IsShape flat.header → IsSound flat → TablesMean t flat
    → section_of flat.header n flat.sections ≡ section_as (new_own flat.header n)
    → Means n (new_own flat.header n) t flat

-- an open socket of a section's own is an owner in its bucket, the first of its name
abbrev pub OwnersStand : Type 0
OwnersStand =
    (n : ℕ) (own : Own) (t : Tables) (flat : Flat) → Means n own t flat
    → Each
    (λ (m : Mine). is_owner m.owner.state ≡ true
    → find (is_owner_named m.owner.name) (standing_at t.buckets (owner_key m.owner)).held.owners ≡ Some m.owner)
    own.sockets

-- of an open socket of a section's own that has no port, no bucket has an owner or a member of that name
abbrev pub UnboundFresh : Type 0
UnboundFresh =
    (n : ℕ) (own : Own) (t : Tables) (flat : Flat) → Means n own t flat
    → Each
    (λ (m : Mine). is_owner m.owner.state ≡ false
    → (key : ℕ) → (find (is_owner_named m.owner.name) (standing_at t.buckets key).held.owners ≡ None)
    × (find (has_member m.owner.name) (standing_at t.buckets key).held.groups ≡ None))
    own.sockets
