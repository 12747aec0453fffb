-- Counts of a bucket's owners, by which most conflicts are ruled out without a scan: fastreuse and fastreuseport of
-- struct inet_bind_bucket, sk_reuseport_match of net/ipv4/inet_connection_sock.c. That they always hold is our own
-- rule.
--
-- In two parts: the tally of one place, up to `rules_out`; and those of all places, from `tally_at` on.
use Rattle.std.specs.Prelude.{◌≡◌, ℕ, ◌+◌, ◌-◌, ◌<◌, ◌≤◌, Bool, ◌==◌, ◌&&◌, ◌||◌, not, nat_lt, min, List, length, count_by, if◌then◌else◌}
use Rattle.std.specs.List.{slice_index_or}
use Rattle.sock_card.specs.declared.owner.Owner.{Owner}
use Rattle.sock_card.specs.Conflict.{is_listening}
use Rattle.bind_buckets.specs.declared.tally.Tally.{Tally}
use Rattle.bind_buckets.specs.declared.tally.Spot.{Spot}

-- the owner's place is that one
abbrev pub has_place : (Owner → ℕ) → ℕ → Owner → Bool
has_place place_of place a = place_of a == place

-- it keeps its port from others with reuseaddr, too
abbrev pub is_exclusive : Owner → Bool
is_exclusive a = not a.reuseaddr || is_listening a.state

-- it doesn't share its port by reuseport with that user
abbrev pub is_unshared : ℕ → Owner → Bool
is_unshared uid a = not (a.reuseport && (a.uid == uid))

abbrev pub empty_tally : Tally
empty_tally = record { owners = 0; exclusive = 0; unshared = 0; marked = 0; uid = 0 }

-- a count that reaches this stays there
abbrev pub count_limit : ℕ
count_limit = 255

-- a count of so many: exact below its limit
abbrev pub IsCount : ℕ → ℕ → Type 0
IsCount count many = count < count_limit → count ≡ many

-- one more, if it counts
abbrev pub more : ℕ → Bool → ℕ
more count counts = min (count + (if counts then 1 else 0)) count_limit

-- one less, if it counted
abbrev pub less : ℕ → Bool → ℕ
less count counted = if nat_lt count count_limit then count - (if counted then 1 else 0) else count

-- of the owners that pass the first test, the tally counts what it says: those that pass the second are marked
pub record Counts (at has_mark : Owner → Bool) (t : Tally) (all : List Owner) : Type 0 where
  pub owners : IsCount t.owners (count_by at all)
  pub exclusive : IsCount t.exclusive (count_by (λ a. at a && is_exclusive a) all)
  pub unshared : IsCount t.unshared (count_by (λ a. at a && is_unshared t.uid a) all)
  pub marked : IsCount t.marked (count_by (λ a. at a && has_mark a) all)

-- both count alike, but for their places and marks
pub record CountAlike (a b : Owner) : Type 0 where
  pub exclusive : is_exclusive a ≡ is_exclusive b
  pub reuseport : a.reuseport ≡ b.reuseport
  pub uid : a.uid ≡ b.uid

-- where the owner is counted, and how
abbrev pub spot_of : (Owner → ℕ) → (Owner → Bool) → Owner → Spot
spot_of place_of has_mark a = record { place = place_of a; marked = has_mark a }

-- the counts show that none of the owners refuses this one: there is none, or all share the port with it
abbrev pub rules_out : Tally → Owner → Bool
rules_out t a =
    (t.owners == 0)
    || a.reuseaddr && (t.exclusive == 0)
    || a.reuseport && (a.uid == t.uid) && (t.unshared == 0)

-- of tallies by places, that at this one
abbrev pub tally_at : List Tally → ℕ → Tally
tally_at tallies place = slice_index_or tallies place empty_tally

-- the memory for all tallies is there
abbrev pub AreMade : List Tally → Type 0
AreMade tallies = 256 ≤ length tallies

abbrev pub is_made : List Tally → Bool
is_made tallies = not (nat_lt (length tallies) 256)

-- the tallies are of these owners, by their places and marks
pub record IsTallyOf (place_of : Owner → ℕ) (has_mark : Owner → Bool) (tallies : List Tally)
    (owners : List Owner) : Type 0 where
  pub made : 0 < length owners → AreMade tallies
  pub counts : (place : ℕ) → Counts (has_place place_of place) has_mark (tally_at tallies place) owners
