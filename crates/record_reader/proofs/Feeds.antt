-- A text cut at its first line feed.
use Rattle.std.proofs.Common.{◌≡◌, ℕ, ◌+◌, ◌<◌, ◌≤◌, List, [], ◌∷◌, length, take, drop, position, Some, None, arith, sym, ap, ap₂, ◌∙◌, refl, Bool, true, false, cond, not, suc}
use Rattle.std.specs.List.{position_or_len, onto_first}
use Rattle.std.proofs.lemmas.List.Splits.{slice_split_first}
use Rattle.record_reader.specs.Words.{is_line_feed, pieces_of}

-- a place that is found is the first, and within the text
place_is : (i : ℕ) (xs : List ℕ) → position is_line_feed xs ≡ Some i → (i ≡ position_or_len is_line_feed xs) × (i < length xs)
place_is i xs h = grind (arith, h)

-- where none is found, the first place is past the end
no_place : (xs : List ℕ) → position is_line_feed xs ≡ None → length xs ≤ position_or_len is_line_feed xs
no_place xs h = grind (arith, h)

-- the text up to its first line feed, and behind it
pub cut_at : (xs : List ℕ) (i : ℕ) → position is_line_feed xs ≡ Some i → pieces_of xs ≡ take i xs ∷ pieces_of (drop (i + 1) xs)
cut_at xs i h =
    let place = place_is i xs h in
    let same : i ≡ position_or_len is_line_feed xs = place.0 in
    slice_split_first is_line_feed xs 0 (omega (arith, place.1))
    ∙ ap (λ n. take n xs ∷ pieces_of (drop (n + 1) xs)) (sym same)

past_end : (feed : Bool) (n m : ℕ) → suc n ≤ cond (not feed) (1 + m) 0 → (feed ≡ false) × (n ≤ m)
past_end true n m h = absurd (omega arith)
past_end false n m h = (refl, omega arith)

one_piece : (feed : Bool) (x : ℕ) (xs : List ℕ) (pieces : List (List ℕ)) → feed ≡ false → pieces ≡ xs ∷ [] → cond feed ([] ∷ pieces) (onto_first x pieces) ≡ (x ∷ xs) ∷ []
one_piece feed x xs pieces e is = ap₂ (λ f ps. cond f ([] ∷ ps) (onto_first x ps)) e is

whole_from : (xs : List ℕ) → length xs ≤ position_or_len is_line_feed xs → pieces_of xs ≡ xs ∷ []
whole_from [] h = refl
whole_from (x ∷ xs) h =
    let past = past_end (is_line_feed x) (length xs) (position_or_len is_line_feed xs) h in
    one_piece (is_line_feed x) x xs (pieces_of xs) past.0 (whole_from xs past.1)

-- a text without a line feed
pub uncut : (xs : List ℕ) → position is_line_feed xs ≡ None → pieces_of xs ≡ xs ∷ []
uncut xs h = whole_from xs (no_place xs h)
