-- Keys of places, and the links between the places of one home: our own rule.
--
-- To be read from the beginning. What holds of the links between two calls is `AreInHomes`.
use Rattle.std.specs.Prelude.{◌≡◌, ℕ, ◌+◌, ◌%◌, ◌≤◌, ◌<◌, Bool, true, false, ◌==◌, List, map, length, Option, None, Some, slice_index, ◌-◌, min}
use Rattle.std.specs.List.{slice_index_or}
use Rattle.bind_buckets.specs.declared.links.Place.{Place}
use Rattle.bind_buckets.specs.declared.links.Ends.{Ends}

-- the key of each place, and how many more may come without memory
pub record Keyed : Type 0 where
  pub keys : List ℕ
  pub room : ℕ

-- how many places there are at most: each fits 32 bits, with a word for none
abbrev pub most_places : ℕ
most_places = 4294967295

-- how many more may come without memory
abbrev pub room_in : ℕ → ℕ → ℕ
room_in capacity count = min capacity most_places - count

-- the place, or the end where there is none
abbrev pub place_or_end : Option ℕ → ℕ → ℕ
place_or_end None end = end
place_or_end (Some place) end = place

-- the place behind it, or the first where there is none
abbrev pub place_after : Option ℕ → ℕ
place_after None = 0
place_after (Some place) = place + 1

-- of the items from some place on, and before an end, the first that passes
pub record IsFirstIn {A : Type 0} (is : A → Bool) (items : List A) (from end : ℕ) (first : Option ℕ) : Type 0 where
  pub reaches : from ≤ place_or_end first end
  pub within : (place : ℕ) → first ≡ Some place → place < end
  pub passes : (place : ℕ) (d : A) → first ≡ Some place → is (slice_index_or items place d) ≡ true
  pub fails : (j : ℕ) (d : A) → from ≤ j → j < place_or_end first end → is (slice_index_or items j d) ≡ false

-- of the items before an end, the last that passes
pub record IsLastIn {A : Type 0} (is : A → Bool) (items : List A) (end : ℕ) (last : Option ℕ) : Type 0 where
  pub within : (place : ℕ) → last ≡ Some place → place < end
  pub passes : (place : ℕ) (d : A) → last ≡ Some place → is (slice_index_or items place d) ≡ true
  pub fails : (j : ℕ) (d : A) → place_after last ≤ j → j < end → is (slice_index_or items j d) ≡ false

abbrev pub is_key : ℕ → ℕ → Bool
is_key key k = k == key

-- the key has that home, among so many
abbrev pub is_home : ℕ → ℕ → ℕ → Bool
is_home homes home k = k % homes == home

abbrev pub keys_in : List Place → List ℕ
keys_in places = map (λ (p : Place). p.key) places

abbrev pub newers_in : List Place → List (Option ℕ)
newers_in places = map (λ (p : Place). p.newer) places

abbrev pub no_ends : Ends
no_ends = record { oldest = None; newest = None }

-- the ends of a home, once that place is its last
abbrev pub ends_with : Ends → ℕ → Ends
ends_with ends place = record { oldest = Some (place_or_end ends.oldest place); newest = Some place }

abbrev pub home_at : List Ends → ℕ → Ends
home_at homes home = slice_index_or homes home no_ends

-- the links between so many first places: the first and the last of each home, and behind each place the next of its
-- home
pub record AreLinked (places : List Place) (homes : List Ends) (count : ℕ) : Type 0 where
  pub oldest_is : (home : ℕ) → home < length homes
      → IsFirstIn (is_home (length homes) home) (keys_in places) 0 count (home_at homes home).oldest
  pub newest_is : (home : ℕ) → home < length homes
      → IsLastIn (is_home (length homes) home) (keys_in places) count (home_at homes home).newest
  pub newer_is : (place : ℕ) → place < count
      → IsFirstIn (is_home (length homes) (slice_index (keys_in places) place % length homes)) (keys_in places)
      (place + 1) count (slice_index_or (newers_in places) place None)

-- all are linked, those that may come have a home, and each place fits
pub record AreInHomes (places : List Place) (homes : List Ends) (capacity : ℕ) : Type 0 where
  pub linked : AreLinked places homes (length places)
  pub some : 0 < capacity → 0 < length homes
  pub fits : length places ≤ most_places

-- a place with that key, or none
pub record IsAfter (key : ℕ) (after : Option ℕ) (keys : List ℕ) : Type 0 where
  pub within : (place : ℕ) → after ≡ Some place → place < length keys
  pub same : (place : ℕ) → after ≡ Some place → slice_index keys place ≡ key
