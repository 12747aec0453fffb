-- Words with a space between them, and lines with a line feed at their ends, are split into the same words and lines.
use Rattle.std.proofs.Common.{◌≡◌, ℕ, zero, suc, ◌<◌, ◌-◌, ◌==◌, ◌∙◌, List, [], ◌∷◌, ◌++◌, append_assoc, length, get_or, map, Bool, true, false, codes, filter, arith, refl, ap}
use Rattle.std.proofs.lemmas.Bool.{cond-true, cond-false, eqb-true, lt-ltb, false_from_ne_true}
use Rattle.std.proofs.lemmas.List.Splits.{slice_split-cons_yes, slice_split-cons_no}
use Rattle.std.specs.List.{slice_split, onto_first, join_with_byte, flat_map}
use Rattle.std.specs.Str.Lines.{strip_carriage_return}
use Rattle.list_words.specs.Lists.{Each}
use Rattle.list_words.proofs.EachLemmas.{each_weaken, each_append}
use Rattle.sock_script.specs.Words.{is_blank, is_line_feed, is_word, lines_of, words_of}
use Rattle.sock_script.specs.Make.{line_bytes}

-- no blank, no line feed and no carriage return
abbrev pub IsClear : List ℕ → Type 0
IsClear bytes = Each (λ b. 32 < b) bytes

-- one byte or more, all clear
pub record IsClearWord (word : List ℕ) : Type 0 where
  pub some : 0 < length word
  pub clear : IsClear word

-- one word or more, all clear
pub record IsClearLine (words : List (List ℕ)) : Type 0 where
  pub some : 0 < length words
  pub clear : Each IsClearWord words

-- the bytes of a line
abbrev pub spaced : List (List ℕ) → List ℕ
spaced words = join_with_byte 32 words

module _ (p : ℕ → Bool) (y : ℕ) (cut : p y ≡ true) where
  -- the first piece ends at the first byte that passes
  piece_first : (xs ys : List ℕ) → Each (λ x. p x ≡ false) xs → slice_split p (xs ++ y ∷ ys) ≡ xs ∷ slice_split p ys
  piece_first [] ys h = slice_split-cons_yes p y ys cut
  piece_first (x ∷ xs) ys h =
      slice_split-cons_no p x (xs ++ y ∷ ys) h.0 ∙ ap (onto_first x) (piece_first xs ys h.1)

-- bytes of which none passes are one piece
pub one_piece : (p : ℕ → Bool) (xs : List ℕ) → Each (λ x. p x ≡ false) xs → slice_split p xs ≡ xs ∷ []
one_piece p [] h = refl
one_piece p (x ∷ xs) h = slice_split-cons_no p x xs h.0 ∙ ap (onto_first x) (one_piece p xs h.1)

-- a byte above another isn't that one
not_equal : (b c : ℕ) → c < b → (b == c) ≡ false
not_equal b c lt = false_from_ne_true (b == c) (λ e. let same : b ≡ c = eqb-true b c e in absurd (omega arith))

-- a clear byte is no blank
no_blank : (b : ℕ) → 32 < b → is_blank b ≡ false
no_blank b lt = rw (not_equal b 32 lt, not_equal b 9 (omega arith)) refl

-- the bytes of a line, once they are joined, are spaces or clear
spaces_or_clear : (words : List (List ℕ)) → Each IsClearWord words → Each (λ b. 31 < b) (spaced words)
spaces_or_clear [] h = tt
spaces_or_clear (w ∷ []) h = each_weaken (λ b. 32 < b) (λ b. 31 < b) w (λ b lt. omega arith) h.0.clear
spaces_or_clear (w ∷ v ∷ ws) h =
    each_append (λ b. 31 < b) w _ (each_weaken (λ b. 32 < b) (λ b. 31 < b) w (λ b lt. omega arith) h.0.clear)
    (omega arith, spaces_or_clear (v ∷ ws) h.1)

-- no such byte is a carriage return
no_return : (bytes : List ℕ) (k : ℕ) → Each (λ b. 31 < b) bytes → get_or bytes k 0 ≡ 13 → ⊥
no_return [] k h e = absurd (omega arith)
no_return (b ∷ bs) zero h e = absurd (omega (arith, h.0))
no_return (b ∷ bs) (suc k) h e = no_return bs k h.1 e

-- so none is dropped
nothing_stripped : (bytes : List ℕ) → Each (λ b. 31 < b) bytes → strip_carriage_return bytes ≡ bytes
nothing_stripped bytes h =
    cond-false (get_or bytes (length bytes - 1) 0 == 13) _ _
    (false_from_ne_true _ (λ e. no_return bytes (length bytes - 1) h (eqb-true _ _ e)))

-- the words of a line, once they are joined, are its pieces
pieces : (words : List (List ℕ)) → 0 < length words → Each IsClearWord words → slice_split is_blank (spaced words) ≡ words
pieces [] some h = absurd (omega arith)
pieces (w ∷ []) some h = one_piece is_blank w (each_weaken (λ b. 32 < b) (λ b. is_blank b ≡ false) w no_blank h.0.clear)
pieces (w ∷ v ∷ ws) some h =
    piece_first is_blank 32 refl w (spaced (v ∷ ws)) (each_weaken (λ b. 32 < b) (λ b. is_blank b ≡ false) w no_blank h.0.clear)
    ∙ ap (λ ps. w ∷ ps) (pieces (v ∷ ws) (omega arith) h.1)

-- no piece is empty
all_words : (words : List (List ℕ)) → Each IsClearWord words → filter is_word words ≡ words
all_words [] h = refl
all_words (w ∷ ws) h =
    cond-true (is_word w) _ _ (lt-ltb 0 (length w) h.0.some) ∙ ap (λ ps. w ∷ ps) (all_words ws h.1)

-- a line of clear words has these words
pub words_of_spaced : (words : List (List ℕ)) → IsClearLine words → words_of (spaced words) ≡ words
unfolding words_of
words_of_spaced words h =
    ap (λ bytes. filter is_word (slice_split is_blank bytes)) (nothing_stripped (spaced words) (spaces_or_clear words h.clear))
    ∙ ap (filter is_word) (pieces words h.some h.clear) ∙ all_words words h.clear

-- what stands between the line feeds of such lines, where the last is empty
pub lines_of_bytes : (lines : List (List (List ℕ))) → Each IsClearLine lines → lines_of (flat_map line_bytes lines) ≡ map spaced lines ++ [] ∷ []
unfolding lines_of
lines_of_bytes [] h = refl
lines_of_bytes (words ∷ lines) h =
    let clear = each_weaken (λ b. 31 < b) (λ b. is_line_feed b ≡ false) (spaced words) (λ b lt. not_equal b 10 (omega arith)) (spaces_or_clear words h.0.clear) in
    ap (slice_split is_line_feed) (append_assoc (spaced words) (codes "\n") (flat_map line_bytes lines))
    ∙ piece_first is_line_feed 10 refl (spaced words) (flat_map line_bytes lines) clear
    ∙ ap (λ ls. spaced words ∷ ls) (lines_of_bytes lines h.1)
