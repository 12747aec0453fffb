-- How places stand on pages of 32 that follow each other: our own.
--
-- To be read from the end: `places_on` are the places of such pages, and `ArePages` says which pages may be.
use Rattle.std.specs.Prelude.{◌≡◌, ◌≢◌, ℕ, ◌+◌, ◌*◌, ◌^◌, ◌/◌, ◌%◌, ◌<◌, ◌≤◌, ◌==◌, true, cond, List, [], ◌∷◌, length, Option, None, Some, map, is_some, IsSome, IfSome, slice_set}
use Rattle.std.specs.List.{range_with_len, slice_index_or}
use Rattle.std.specs.Option.{option_flatten}
use Rattle.std.specs.Ordering.{nat_cmp}
use Rattle.std.specs.BTreeMap.{BTreeMap, get}
use Rattle.open_places.specs.Cells.{Places}

-- what a place has: nothing once it is let go, else its value or none
abbrev pub Cell : Type 0 → Type 0
Cell T = Option (Option T)

-- earlier pages, by their numbers
abbrev pub Tree : Type 0 → Type 0
Tree T = BTreeMap ℕ (List (Cell T))

-- 1 of a place that is kept
abbrev pub one_if : {X : Type 0} → Option X → ℕ
one_if None = 0
one_if (Some x) = 1

-- how many places of a page are kept
abbrev pub kept_on : {X : Type 0} → List (Option X) → ℕ
kept_on [] = 0
kept_on (cell ∷ cells) = one_if cell + kept_on cells

-- a page that isn't there has no cell
abbrev pub cells_of : {X : Type 0} → Option (List X) → List X
cells_of None = []
cells_of (Some cells) = cells

module _ {T : Type 0} where
  -- the cell at a place of a page, and its value
  abbrev pub cell_on : List (Cell T) → ℕ → Cell T
  cell_on page i = slice_index_or page i None

  abbrev pub value_on : List (Cell T) → ℕ → Option T
  value_on page i = option_flatten (cell_on page i)

  -- no value stands on the page from that place on
  abbrev pub HasNoneFrom : List (Cell T) → ℕ → Type 0
  HasNoneFrom page first = (i : ℕ) → first ≤ i → value_on page i ≡ None

  -- nor between those two, without the second
  abbrev pub HasNoneBetween : List (Cell T) → (first past : ℕ) → Type 0
  HasNoneBetween page first past = (i : ℕ) → first ≤ i → i < past → value_on page i ≡ None

  -- the first place of the page from that one on that has a value
  pub record IsFirstOn (page : List (Cell T)) (first place : ℕ) : Type 0 where
    pub from : first ≤ place
    pub full : is_some (value_on page place) ≡ true
    pub between : HasNoneBetween page first place

  -- places so many, each with the cell that is given for it
  abbrev pub places_of : (count : ℕ) (cell : ℕ → Cell T) → Places T
  places_of count cell =
      record {
        cells = map (λ i. option_flatten (cell i)) (range_with_len 0 count);
        kept = map (λ i. is_some (cell i)) (range_with_len 0 count);
      }

  -- the cell of a place: places 0 to 31 are on page 0, and so on
  abbrev pub cell_at : (pages : ℕ → List (Cell T)) (place : ℕ) → Cell T
  cell_at pages place = cell_on (pages (place / 32)) (place % 32)

  -- an earlier page, and its cell of a place
  abbrev pub earlier_page : Tree T → ℕ → List (Cell T)
  earlier_page earlier n = cells_of (get nat_cmp earlier n)

  abbrev pub earlier_cell : Tree T → ℕ → Cell T
  earlier_cell earlier place = cell_at (earlier_page earlier) place

  -- the page of that number: the last one, or an earlier one
  abbrev pub page_of : Tree T → (number : ℕ) (last : List (Cell T)) → ℕ → List (Cell T)
  page_of earlier number last n = cond (n == number) last (earlier_page earlier n)

  -- the places on those pages
  abbrev pub places_on : Tree T → (number : ℕ) (last : List (Cell T)) → Places T
  places_on earlier number last = places_of (number * 32 + length last) (cell_at (page_of earlier number last))

  -- earlier pages are whole, the last one has 32 places at most, and the number of each place fits 64 bits
  pub record ArePages (earlier : Tree T) (number : ℕ) (last : List (Cell T)) : Type 0 where
    pub whole : (n : ℕ) → IfSome (get nat_cmp earlier n) (λ page. (n < number) × (length page ≡ 32))
    pub within : length last ≤ 32
    pub fits : number * 32 + 32 < 2 ^ 64

  -- of the earlier pages one place has that cell now; and each page that is still there was there, as long as it is
  pub record Sets (old : Tree T) (place : ℕ) (cell : Cell T) (new : Tree T) : Type 0 where
    pub others : (n : ℕ) → n ≢ place / 32 → get nat_cmp new n ≡ get nat_cmp old n
    pub there : (i : ℕ) → cell_on (earlier_page new (place / 32)) i
        ≡ cell_on (slice_set (earlier_page old (place / 32)) (place % 32) cell) i
    pub count : IfSome (get nat_cmp new (place / 32)) (λ page.
        IfSome (get nat_cmp old (place / 32)) (λ was. length page ≡ length was))
    pub still : IsSome (get nat_cmp new (place / 32)) → IsSome (get nat_cmp old (place / 32))

  -- that page came to the earlier ones, unless each of its places was let go
  pub record Turns (old : Tree T) (number : ℕ) (full : List (Cell T)) (new : Tree T) : Type 0 where
    pub others : (n : ℕ) → n ≢ number → get nat_cmp new n ≡ get nat_cmp old n
    pub there : (i : ℕ) → cell_on (earlier_page new number) i ≡ cell_on full i
    pub whole : IfSome (get nat_cmp new number) (λ page. page ≡ full)

  -- the page has the values of its 32 places
  abbrev pub Shows : List (Option T) → (number : ℕ) (page : List (Cell T)) → Type 0
  Shows cells number page = (i : ℕ) → i < 32 → slice_index_or cells (number * 32 + i) None ≡ value_on page i
