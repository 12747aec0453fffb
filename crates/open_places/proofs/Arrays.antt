-- What places in an array have, and what becomes of them where one cell changes.
use Rattle.std.proofs.Common.{Result, Ok, Err, OnOk, OnErr, subst, ◌≡◌, ℕ, zero, suc, ◌+◌, ◌-◌, ◌<◌, ◌≤◌, true, false, List, [], ◌∷◌, ◌++◌, length, map, take, Option, Some, None, is_some, set, refl, sym, ap, ◌∙◌, arith}
use Rattle.std.specs.Prelude.{MatchOption}
use Rattle.std.specs.List.{slice_index_or}
use Rattle.std.specs.Option.{option_flatten}
use Rattle.std.proofs.lemmas.List.{length-append, length-map, map-set, take-map}
use Rattle.open_places.specs.Cells.{Places, AreEmptyFrom, IsNextFull, one_more}
use Rattle.open_places.specs.Forms.{in_array}
use Rattle.open_places.specs.Pages.{Cell, HasNoneFrom, IsFirstOn, cell_on, value_on}
use Rattle.open_places.proofs.Pages.{Becomes, Holds, more_kept}

module _ {T : Type 0} where
  pub array_values : (cells : List (Cell T)) (place : ℕ) → slice_index_or (in_array cells).cells place None ≡ value_on cells place
  array_values [] place = refl
  array_values (c ∷ cs) zero = refl
  array_values (c ∷ cs) (suc place) = array_values cs place

  array_kept : (cells : List (Cell T)) (place : ℕ) → slice_index_or (in_array cells).kept place false ≡ is_some (cell_on cells place)
  array_kept [] place = refl
  array_kept (c ∷ cs) zero = refl
  array_kept (c ∷ cs) (suc place) = array_kept cs place

  -- what a place has
  pub array_holds : (cells : List (Cell T)) (place : ℕ) → Holds (in_array cells) place (cell_on cells place)
  array_holds cells place = record { value = array_values cells place; kept = array_kept cells place }

  -- a cell changes
  pub array_becomes : (old new : List (Cell T)) (place : ℕ) (cell : Cell T) → new ≡ set old place cell → Becomes (in_array old) (in_array new) place cell
  array_becomes old new place cell sets =
      record {
        cells = ap (map option_flatten) sets ∙ map-set option_flatten old place cell;
        kept = ap (map is_some) sets ∙ map-set is_some old place cell;
      }

  array_more_cells : (cells : List (Cell T)) → map option_flatten (cells ++ Some None ∷ []) ≡ map option_flatten cells ++ None ∷ []
  array_more_cells [] = refl
  array_more_cells (c ∷ cs) = ap (λ l. option_flatten c ∷ l) (array_more_cells cs)

  array_more_kept : (cells : List (Cell T)) → map is_some (cells ++ Some None ∷ []) ≡ map is_some cells ++ true ∷ []
  array_more_kept [] = refl
  array_more_kept (c ∷ cs) = ap (λ l. is_some c ∷ l) (array_more_kept cs)

  -- a place more
  pub array_more : (cells : List (Cell T)) → in_array (cells ++ Some None ∷ []) ≡ one_more (in_array cells)
  array_more cells = λ i. record { cells = array_more_cells cells i; kept = array_more_kept cells i }

  pub array_count : (cells : List (Cell T)) → length cells ≡ length (in_array cells).cells
  array_count cells = sym (length-map cells option_flatten)

  pub array_kept_count : (cells : List (Cell T)) → length (in_array cells).kept ≡ length (in_array cells).cells
  array_kept_count cells = length-map cells is_some ∙ array_count cells

  -- the first place with a value
  pub array_next : (cells : List (Cell T)) (first : ℕ) (result : Option ℕ) → MatchOption result (HasNoneFrom cells first) (IsFirstOn cells first) → MatchOption result (AreEmptyFrom (in_array cells).cells first) (IsNextFull (in_array cells).cells first)
  array_next cells first None none = λ i from. array_values cells i ∙ none i from
  array_next cells first (Some place) on = record {
    from = on.from;
    full = ap is_some (array_values cells place) ∙ on.full;
    between = λ i from past. array_values cells i ∙ on.between i from past;
  }

front : {X : Type 0} (xs : List X) (x : X) → take (length xs) (xs ++ x ∷ []) ≡ xs
front [] x = refl
front (y ∷ ys) x = ap (λ l. y ∷ l) (front ys x)

-- the items but for the last
all_but_last : {X Y : Type 0} (f : X → Y) (xs : List X) (before : List Y) (y : Y) → map f xs ≡ before ++ y ∷ [] → map f (take (length xs - 1) xs) ≡ before
all_but_last f xs before y is =
    let count : length xs - 1 ≡ length before = omega (arith, length-map xs f, ap length is, length-append before (y ∷ [])) in
    sym (take-map f (length xs - 1) xs)
    ∙ ap (take (length xs - 1)) is
    ∙ ap (λ k. take k (before ++ y ∷ [])) count
    ∙ front before y

-- the last place taken back
pub array_back : {T : Type 0} (cells : List (Cell T)) (before : Places T) → in_array cells ≡ one_more before → in_array (take (length cells - 1) cells) ≡ before
array_back {T} cells before is = λ i. record {
  cells = all_but_last option_flatten cells before.cells None (ap (λ (p : Places T). p.cells) is) i;
  kept = all_but_last is_some cells before.kept true (ap (λ (p : Places T). p.kept) is) i;
}

-- The same, of an array that is seen as those places.
module _ {T : Type 0} (cells new : List (Cell T)) (now : Places T) where
  pub array_moves : (place : ℕ) → in_array cells ≡ now → (cell : Cell T) → new ≡ set cells place cell → Becomes now (in_array new) place cell
  array_moves place is cell sets = subst (λ (p : Places T). Becomes p (in_array new) place cell) is (array_becomes cells new place cell sets)

  module _ {E F : Type 0} (is : in_array cells ≡ now) where
    pub on_ok_more : (r : Result E F) → OnOk r (new ≡ cells ++ Some None ∷ []) → OnOk r (in_array new ≡ one_more now)
    on_ok_more (Ok x) more = ap in_array more ∙ array_more cells ∙ ap one_more is
    on_ok_more (Err e) more = tt

    pub on_ok_kept : (r : Result E F) → OnOk r (new ≡ cells ++ Some None ∷ []) → OnOk r (slice_index_or (in_array new).kept (length now.cells) false ≡ true)
    on_ok_kept (Ok x) more = more_kept now (in_array new) (ap in_array more ∙ array_more cells ∙ ap one_more is) (subst (λ (p : Places T). length p.kept ≡ length p.cells) is (array_kept_count cells))
    on_ok_kept (Err e) more = tt

    pub on_err_same : (r : Result E F) → OnErr r (new ≡ cells) → OnErr r (in_array new ≡ now)
    on_err_same (Ok x) same = tt
    on_err_same (Err e) same = ap in_array same ∙ is

pub array_holds_now : {T : Type 0} (cells : List (Cell T)) (now : Places T) (place : ℕ) → in_array cells ≡ now → Holds now place (cell_on cells place)
array_holds_now {T} cells now place is = subst (λ (p : Places T). Holds p place (cell_on cells place)) is (array_holds cells place)
