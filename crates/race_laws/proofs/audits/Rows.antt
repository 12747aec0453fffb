-- Lines of plain words, with a space between them and a line feed at their ends, are read as these words.
use Rattle.std.proofs.Common.{◌≡◌, ℕ, ◌-◌, suc, ◌<◌, ◌≤◌, ◌==◌, nat_lt, Bool, true, false, List, [], ◌∷◌, ◌++◌, append_assoc, length, take, slice_get, map, Some, None, codes, refl, sym, ap, ◌∙◌, subst, arith}
use Rattle.std.specs.List.{slice_split, join_with_byte, flat_map, list_all}
use Rattle.std.proofs.lemmas.Bool.{ltb-true, eqb-true, false_from_ne_true}
use Rattle.std.proofs.lemmas.List.{take-append-le, take_all}
use Rattle.std.proofs.lemmas.List.Splits.{slice_split-cons_yes, slice_split-cons_no}
use Rattle.std.specs.List.{onto_first}
use Rattle.list_words.specs.Lists.{Each}
use Rattle.list_words.proofs.EachLemmas.{each_weaken, each_append}
use Rattle.sock_script.proofs.SpacedWords.{one_piece}
use Rattle.race_book.proofs.Checks.{and_left, and_right}
use Rattle.record_reader.specs.declared.line.Line.{Line}
use Rattle.record_reader.specs.declared.line.Line.TheVariants as lines
use Rattle.record_reader.specs.Words.{is_line_feed, is_space, pieces_of, words_of}
use Rattle.record_reader.specs.Forms.{HasForm, is_plain}
use Rattle.record_reader.specs.Record.{AreInOrder, HaveForms, IsRecord}
use Rattle.race_laws.proofs.audits.Plain.{IsClear, plain_clear}

-- the words of a line, and the line
pub record Row : Type 0 where
  pub words : List (List ℕ)
  pub line : Line

-- the words are plain, and the line's
pub record IsRow (r : Row) : Type 0 where
  pub some : 0 < length r.words
  pub plain : list_all is_plain r.words ≡ true
  pub form : HasForm r.words r.line

abbrev pub spaced : List (List ℕ) → List ℕ
spaced words = join_with_byte 32 words

abbrev pub row_text : Row → List ℕ
row_text r = spaced r.words ++ codes "\n"

abbrev pub line_of : Row → Line
line_of r = r.line

abbrev pub EachIsRow : List Row → Type 0
EachIsRow [] = Unit {0}
EachIsRow (r ∷ rows) = IsRow r × EachIsRow rows

-- a text that a test doesn't find, before the next byte that it finds
module _ (test : ℕ → Bool) (y : ℕ) (cut : test y ≡ true) where
  piece_first : (xs ys : List ℕ) → Each (λ x. test x ≡ false) xs → slice_split test (xs ++ y ∷ ys) ≡ xs ∷ slice_split test ys
  piece_first [] ys h = slice_split-cons_yes test y ys cut
  piece_first (x ∷ xs) ys h =
      slice_split-cons_no test x (xs ++ y ∷ ys) h.0 ∙ ap (onto_first x) (piece_first xs ys h.1)

not_equal : (b c : ℕ) → c < b → (b == c) ≡ false
not_equal b c lt = false_from_ne_true (b == c) (λ e. let same : b ≡ c = eqb-true b c e in absurd (omega arith))

each_clear : (xs : List ℕ) → IsClear xs → Each (λ b. 32 < b) xs
each_clear [] c = tt
each_clear (b ∷ bs) c =
    (ltb-true 32 b (and_left (nat_lt 32 b) (list_all (nat_lt 32) bs) c), each_clear bs (and_right (nat_lt 32 b) (list_all (nat_lt 32) bs) c))

word_clear : (word : List ℕ) → is_plain word ≡ true → Each (λ b. 32 < b) word
word_clear word p = each_clear word (plain_clear word p)

no_space : (word : List ℕ) → is_plain word ≡ true → Each (λ b. is_space b ≡ false) word
no_space word p = each_weaken (λ b. 32 < b) (λ b. is_space b ≡ false) word (λ b lt. not_equal b 32 lt) (word_clear word p)

-- the words of plain words with spaces between them
pub words_of_spaced : (words : List (List ℕ)) → 0 < length words → list_all is_plain words ≡ true → words_of (spaced words) ≡ words
words_of_spaced [] some p = absurd (omega arith)
words_of_spaced (w ∷ []) some p = one_piece is_space w (no_space w (and_left (is_plain w) true p))
words_of_spaced (w ∷ v ∷ ws) some p =
    piece_first is_space 32 refl w (spaced (v ∷ ws)) (no_space w (and_left (is_plain w) (list_all is_plain (v ∷ ws)) p))
    ∙ ap (λ ps. w ∷ ps) (words_of_spaced (v ∷ ws) (omega arith) (and_right (is_plain w) (list_all is_plain (v ∷ ws)) p))

wider : (word : List ℕ) → is_plain word ≡ true → Each (λ b. 31 < b) word
wider word p = each_weaken (λ b. 32 < b) (λ b. 31 < b) word (λ b lt. omega arith) (word_clear word p)

spaces_or_clear : (words : List (List ℕ)) → list_all is_plain words ≡ true → Each (λ b. 31 < b) (spaced words)
spaces_or_clear [] p = tt
spaces_or_clear (w ∷ []) p = wider w (and_left (is_plain w) true p)
spaces_or_clear (w ∷ v ∷ ws) p =
    each_append (λ b. 31 < b) w (32 ∷ spaced (v ∷ ws)) (wider w (and_left (is_plain w) (list_all is_plain (v ∷ ws)) p))
    (omega arith, spaces_or_clear (v ∷ ws) (and_right (is_plain w) (list_all is_plain (v ∷ ws)) p))

no_line_feed : (words : List (List ℕ)) → list_all is_plain words ≡ true → Each (λ b. is_line_feed b ≡ false) (spaced words)
no_line_feed words p = each_weaken (λ b. 31 < b) (λ b. is_line_feed b ≡ false) (spaced words) (λ b lt. not_equal b 10 (omega arith)) (spaces_or_clear words p)

abbrev pub rows_text : List Row → List ℕ
rows_text rows = flat_map row_text rows

abbrev pub lines_of : List Row → List (List ℕ)
lines_of rows = map (λ (r : Row). spaced r.words) rows

-- the lines of a text of rows, where the last is empty
pub pieces_of_rows : (rows : List Row) → EachIsRow rows → pieces_of (rows_text rows) ≡ lines_of rows ++ [] ∷ []
pieces_of_rows [] h = refl
pieces_of_rows (r ∷ rows) h =
    ap pieces_of (append_assoc (spaced r.words) (codes "\n") (rows_text rows))
    ∙ piece_first is_line_feed 10 refl (spaced r.words) (rows_text rows) (no_line_feed r.words h.0.plain)
    ∙ ap (λ ls. spaced r.words ∷ ls) (pieces_of_rows rows h.1)

have_forms : (rows : List Row) → EachIsRow rows → HaveForms (lines_of rows) (map line_of rows)
have_forms [] h = tt
have_forms (r ∷ rows) h =
    (subst (λ ws. HasForm ws r.line) (sym (words_of_spaced r.words h.0.some h.0.plain)) h.0.form, have_forms rows h.1)

front : {A : Type 0} (xs ys : List A) (n : ℕ) → n ≡ length xs → take n (xs ++ ys) ≡ xs
front xs ys n e =
    let le : n ≤ length xs = omega arith in
    rw take-append-le (take_all n xs (omega arith))

same_length : (rows : List Row) → length (map line_of rows) ≡ length (lines_of rows)
same_length [] = refl
same_length (r ∷ rows) = ap suc (same_length rows)

-- a text of rows is a record of their lines
pub is_record : (rows : List Row) (clock : ℕ) → EachIsRow rows → AreInOrder None (map line_of rows) → slice_get (map line_of rows) (length (map line_of rows) - 1) ≡ Some (lines.Clock clock) → IsRecord (rows_text rows) (map line_of rows)
is_record rows clock h order ends =
    let pieces = pieces_of_rows rows h in
    let taken : take (length (map line_of rows)) (pieces_of (rows_text rows)) ≡ lines_of rows =
    ap (take (length (map line_of rows))) pieces ∙ front (lines_of rows) ([] ∷ []) (length (map line_of rows)) (same_length rows) in record {
      clock = clock;
      begins = record { forms = subst (λ ts. HaveForms ts (map line_of rows)) (sym taken) (have_forms rows h); order = order };
      whole = pieces ∙ ap (λ ls. ls ++ [] ∷ []) (sym taken);
      ends = ends;
    }
