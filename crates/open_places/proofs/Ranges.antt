-- Lists that a function gives, of the numbers in order; and places, each with the cell that a function gives for it.
use Rattle.std.proofs.Common.{◌≡◌, ◌≢◌, ℕ, zero, suc, ◌+◌, ◌<◌, ◌≤◌, true, false, List, [], ◌∷◌, ◌++◌, length, map, None, set, refl, sym, ap, ◌∙◌, arith}
use mathlib.Core.Logic.{dite}
use Rattle.std.proofs.Math.Decide.{dec_le}
use Rattle.std.specs.List.{range_with_len, slice_index_or}
use Rattle.std.specs.Option.{option_flatten}
use Rattle.std.specs.Prelude.{is_some}
use Rattle.std.proofs.lemmas.List.{get_or_past}
use Rattle.std.proofs.lemmas.List.FromFn.{map-range_with_len_more, get_or-map-range_with_len, length-map-range_with_len}
use Rattle.open_places.specs.Cells.{Places, one_more}
use Rattle.open_places.specs.Pages.{Cell, places_of}

module _ {X : Type 0} (f g : ℕ → X) where
  pub same_range : (a n : ℕ) → ((j : ℕ) → a ≤ j → j < a + n → g j ≡ f j) → map g (range_with_len a n) ≡ map f (range_with_len a n)
  same_range a zero h = refl
  same_range a (suc n) h =
      let first : g a ≡ f a = h a (omega arith) (omega arith) in
      let rest = same_range (a + 1) n (λ j l m. h j (omega (arith, l)) (omega (arith, m))) in
      λ i. first i ∷ rest i

  set_range : (v : X) (a n i : ℕ) → g (a + i) ≡ v → ((j : ℕ) → j ≢ a + i → g j ≡ f j) → map g (range_with_len a n) ≡ set (map f (range_with_len a n)) i v
  set_range v a zero i at else = refl
  set_range v a (suc n) zero at else =
      let first : g a ≡ v = ap g (let z : a ≡ a + 0 = omega arith in z) ∙ at in
      let rest = same_range (a + 1) n (λ j l m. else j (λ e. omega (arith, l, e))) in
      λ k. first k ∷ rest k
  set_range v a (suc n) (suc i) at else =
      let first : g a ≡ f a = else a (λ e. omega (arith, e)) in
      let rest = set_range v (a + 1) n i (ap g (let z : a + 1 + i ≡ a + suc i = omega arith in z) ∙ at) (λ j ne. else j (λ e. ne (omega (arith, e)))) in
      λ k. first k ∷ rest k

  -- one number more
  more_range : (v : X) (n m : ℕ) → m ≡ n + 1 → g n ≡ v → ((j : ℕ) → j ≢ n → g j ≡ f j) → map g (range_with_len 0 m) ≡ map f (range_with_len 0 n) ++ v ∷ []
  more_range v n m more at else =
      ap (λ k. map g (range_with_len 0 k)) more
      ∙ map-range_with_len_more g 0 n n (omega arith)
      ∙ (λ i. same_range 0 n (λ j l b. else j (λ e. omega (arith, b, e))) i ++ at i ∷ [])

-- no place from that number on has a cell
abbrev pub AreGiven : {T : Type 0} → (count : ℕ) (cell : ℕ → Cell T) → Type 0
AreGiven count cell = (i : ℕ) → count ≤ i → cell i ≡ None

module _ {T : Type 0} (count : ℕ) (cell : ℕ → Cell T) where
  pub counted : (count ≡ length (places_of count cell).cells) × (length (places_of count cell).kept ≡ length (places_of count cell).cells)
  counted =
      let cells = length-map-range_with_len (λ i. option_flatten (cell i)) 0 count in
      let kept = length-map-range_with_len (λ i. is_some (cell i)) 0 count in
      (sym cells, kept ∙ sym cells)

  module _ (given : AreGiven count cell) (place : ℕ) where
    pub found : slice_index_or (places_of count cell).cells place None ≡ option_flatten (cell place)
    found = dite (dec_le count place)
        (λ l. get_or_past (places_of count cell).cells place None (omega (arith, length-map-range_with_len (λ i. option_flatten (cell i)) 0 count, l)) ∙ sym (ap option_flatten (given place l)))
        (λ l. get_or-map-range_with_len (λ i. option_flatten (cell i)) 0 count place place None (omega (arith, l)) (omega arith))

    pub kept_found : slice_index_or (places_of count cell).kept place false ≡ is_some (cell place)
    kept_found = dite (dec_le count place)
        (λ l. get_or_past (places_of count cell).kept place false (omega (arith, length-map-range_with_len (λ i. is_some (cell i)) 0 count, l)) ∙ sym (ap is_some (given place l)))
        (λ l. get_or-map-range_with_len (λ i. is_some (cell i)) 0 count place place false (omega (arith, l)) (omega arith))

-- the same places
pub same_places : {T : Type 0} (f g : ℕ → Cell T) (n m : ℕ) → m ≡ n → ((j : ℕ) → g j ≡ f j) → places_of m g ≡ places_of n f
same_places f g n m count same =
    ap (λ k. places_of k g) count
    ∙ (λ i. record {
      cells = same_range (λ j. option_flatten (f j)) (λ j. option_flatten (g j)) 0 n (λ j l b. ap option_flatten (same j)) i;
      kept = same_range (λ j. is_some (f j)) (λ j. is_some (g j)) 0 n (λ j l b. ap is_some (same j)) i;
    })

-- the cell of one place is another
module _ {T : Type 0} (f g : ℕ → Cell T) (place : ℕ) (cell : Cell T) (here : g place ≡ cell) (there : (j : ℕ) → j ≢ place → g j ≡ f j) where
  zero_more : 0 + place ≡ place
  zero_more = omega arith

  pub cells_set : (count : ℕ) → (places_of count g).cells ≡ set (places_of count f).cells place (option_flatten cell)
  cells_set count = set_range (λ i. option_flatten (f i)) (λ i. option_flatten (g i)) (option_flatten cell) 0 count place (ap (λ i. option_flatten (g i)) zero_more ∙ ap option_flatten here) (λ j ne. ap option_flatten (there j (λ e. ne (e ∙ sym zero_more))))

  pub kept_set : (count : ℕ) → (places_of count g).kept ≡ set (places_of count f).kept place (is_some cell)
  kept_set count = set_range (λ i. is_some (f i)) (λ i. is_some (g i)) (is_some cell) 0 count place (ap (λ i. is_some (g i)) zero_more ∙ ap is_some here) (λ j ne. ap is_some (there j (λ e. ne (e ∙ sym zero_more))))

  pub cells_more : (count : ℕ) → count ≡ place + 1 → (places_of count g).cells ≡ (places_of place f).cells ++ option_flatten cell ∷ []
  cells_more count more = more_range (λ i. option_flatten (f i)) (λ i. option_flatten (g i)) (option_flatten cell) place count more (ap option_flatten here) (λ j ne. ap option_flatten (there j ne))

  pub kept_more : (count : ℕ) → count ≡ place + 1 → (places_of count g).kept ≡ (places_of place f).kept ++ is_some cell ∷ []
  kept_more count more = more_range (λ i. is_some (f i)) (λ i. is_some (g i)) (is_some cell) place count more (ap is_some here) (λ j ne. ap is_some (there j ne))

-- a place that is set to what it has
pub set_same : {X : Type 0} (xs : List X) (i : ℕ) (d : X) → set xs i (slice_index_or xs i d) ≡ xs
set_same [] i d = refl
set_same (x ∷ xs) zero d = refl
set_same (x ∷ xs) (suc i) d = ap (λ l. x ∷ l) (set_same xs i d)

pub set_to : {X : Type 0} (xs : List X) (i : ℕ) (d x : X) → slice_index_or xs i d ≡ x → set xs i x ≡ xs
set_to xs i d x is = ap (set xs i) (sym is) ∙ set_same xs i d

-- Lists with one item more.

abbrev front_by : {X : Type 0} → X → List X → List X
front_by x [] = []
front_by x (y ∷ ys) = x ∷ front_by y ys

-- all but the last
abbrev front : {X : Type 0} → List X → List X
front [] = []
front (x ∷ xs) = front_by x xs

front_by_of : {X : Type 0} (x : X) (xs : List X) (last : X) → front_by x (xs ++ last ∷ []) ≡ x ∷ xs
front_by_of x [] last = refl
front_by_of x (y ∷ ys) last = ap (λ l. x ∷ l) (front_by_of y ys last)

front_of : {X : Type 0} (xs : List X) (last : X) → front (xs ++ last ∷ []) ≡ xs
front_of [] last = refl
front_of (x ∷ xs) last = front_by_of x xs last

same_front : {X : Type 0} (xs ys : List X) (x y : X) → xs ++ x ∷ [] ≡ ys ++ y ∷ [] → xs ≡ ys
same_front xs ys x y same = sym (front_of xs x) ∙ ap front same ∙ front_of ys y

-- the last place taken back
module _ {T : Type 0} (f g : ℕ → Cell T) (place count : ℕ) (more : count ≡ place + 1) (others : (j : ℕ) → j ≢ place → g j ≡ f j) where
  pub taken_back : (before : Places T) → places_of count f ≡ one_more before → places_of place g ≡ before
  taken_back before is =
      let cells = cells_more g f place (f place) refl (λ j ne. sym (others j ne)) count more in
      let kept = kept_more g f place (f place) refl (λ j ne. sym (others j ne)) count more in
      let same_cells : (places_of place g).cells ≡ before.cells = same_front (places_of place g).cells before.cells (option_flatten (f place)) None (sym cells ∙ ap (λ (p : Places T). p.cells) is) in
      let same_kept : (places_of place g).kept ≡ before.kept = same_front (places_of place g).kept before.kept (is_some (f place)) true (sym kept ∙ ap (λ (p : Places T). p.kept) is) in
      λ i. record { cells = same_cells i; kept = same_kept i }
