-- A line taken off the front of a text, piece by piece: where it ends, and which words it has.
use Rattle.std.proofs.Common.{◌≡◌, ◌≢◌, ℕ, suc, ◌+◌, ◌-◌, ◌<◌, ◌≤◌, ◌∙◌, ⊎_elim, List, [], ◌∷◌, ◌++◌, append_assoc, length, take, drop, slice_index, Bool, true, false, ◌==◌, ◌||◌, cond, filter, All, refl, sym, ap, subst, arith}
use Rattle.std.specs.List.{slice_split}
use Rattle.std.specs.Str.Lines.{strip_carriage_return}
use Rattle.std.proofs.Math.Bool.{or-false}
use Rattle.std.proofs.Math.Seq.{take-add}
use Rattle.std.proofs.lemmas.Bool.{cond-false, cond_both, cases_lt, false≢true, eqb-true, eq-eqb, ne_eqb, or_parts}
use Rattle.std.proofs.lemmas.List.{take_more, take_all, take-append-drop, drop_more, get_or-drop, get_or-take, length-take, length-drop}
use Rattle.std.proofs.lemmas.List.Elements.{All-take, All-from_get_or, filter-append}
use Rattle.std.proofs.lemmas.List.Splits.{slice_split_at, slice_split_none}
use Rattle.sock_script.specs.Words.{is_blank, is_line_feed, is_word, lines_of, words_of}
use Rattle.sock_script.specs.Pieces.{EndsPiece, EndsLine, word_in}

-- ---- the bytes at which pieces end

-- a blank is no line feed, and no carriage return
pub no_feed : (b : ℕ) → is_blank b ≡ true → b ≢ 10
no_feed b blank e = false≢true (subst (λ k. is_blank k ≡ true) e blank)

no_return : (b : ℕ) → is_blank b ≡ true → (b == 13) ≡ false
no_return b blank = ne_eqb b 13 (λ e. false≢true (subst (λ k. is_blank k ≡ true) e blank))

-- ---- the carriage return at a line's end

strip_at : ℕ → List ℕ → List ℕ
strip_at n l = cond (slice_index l n == 13) (take n l) l

strip_is : (l : List ℕ) (n : ℕ) → length l - 1 ≡ n → strip_carriage_return l ≡ strip_at n l
unfolding strip_at
strip_is l n e = ap (λ k. cond (slice_index l k == 13) (take k l) l) e

both_begin : (b : Bool) (x : ℕ) (s t : List ℕ) → cond b (x ∷ s) (x ∷ t) ≡ x ∷ cond b s t
both_begin true x s t = refl
both_begin false x s t = refl

-- a byte in front of others stays
strip_more : (x y : ℕ) (ys : List ℕ) → strip_carriage_return (x ∷ y ∷ ys) ≡ x ∷ strip_carriage_return (y ∷ ys)
unfolding strip_at
strip_more x y ys =
    let n = length ys in
    strip_is (x ∷ y ∷ ys) (suc n) (omega arith)
    ∙ both_begin (slice_index (y ∷ ys) n == 13) x (take n (y ∷ ys)) (y ∷ ys)
    ∙ ap (λ l. x ∷ l) (sym (strip_is (y ∷ ys) n (omega arith)))

-- a line's bytes up to one that is no carriage return stay
pub strip_front : (piece : List ℕ) (b : ℕ) (rest : List ℕ) → (b == 13) ≡ false → strip_carriage_return (piece ++ b ∷ rest) ≡ piece ++ b ∷ strip_carriage_return rest
strip_front [] b [] other = cond-false (b == 13) _ _ other
strip_front [] b (y ∷ ys) other = strip_more b y ys
strip_front (x ∷ []) b rest other = strip_more x b rest ∙ ap (λ l. x ∷ l) (strip_front [] b rest other)
strip_front (x ∷ y ∷ piece) b rest other =
    strip_more x y (piece ++ b ∷ rest) ∙ ap (λ l. x ∷ l) (strip_front (y ∷ piece) b rest other)

strip_keeps : (P : ℕ → Type 0) (l : List ℕ) → All P l → All P (strip_carriage_return l)
strip_keeps P l h = cond_both (slice_index l (length l - 1) == 13) _ _ (All P) (λ e. All-take P _ l h) (λ e. h)

-- ---- words

-- no blank
abbrev pub IsUnparted : List ℕ → Type 0
IsUnparted bytes = All (λ b. is_blank b ≡ false) bytes

-- a blank ends the word before it
pub words_past : (piece : List ℕ) (b : ℕ) (rest : List ℕ) → IsUnparted piece → is_blank b ≡ true → words_of (piece ++ b ∷ rest) ≡ word_in piece ++ words_of rest
unfolding words_of
words_past piece b rest clear blank =
    let stripped = strip_carriage_return rest in
    ap (λ l. filter is_word (slice_split is_blank l)) (strip_front piece b rest (no_return b blank))
    ∙ ap (filter is_word) (slice_split_at is_blank piece b stripped clear blank)
    ∙ filter-append is_word (piece ∷ []) (slice_split is_blank stripped)

-- a line with no blank has one word at most
words_last : (piece : List ℕ) → IsUnparted piece → words_of piece ≡ word_in (strip_carriage_return piece)
unfolding words_of
words_last piece clear =
    ap (filter is_word) (slice_split_none is_blank (strip_carriage_return piece) (strip_keeps (λ b. is_blank b ≡ false) piece clear))

-- ---- how far a line was read

-- up to `start` no line ends, and however the line goes on there, these words and the rest's are its words
pub record Reached (text : List ℕ) (start : ℕ) (words : List (List ℕ)) : Type 0 where
  pub within : (k : ℕ) → k < start → slice_index text k ≢ 10
  pub onward : (rest : List ℕ) → words_of (take start text ++ rest) ≡ words ++ words_of rest

pub at_first : (text : List ℕ) → Reached text 0 []
at_first text = record { within = λ k lt. absurd (omega arith); onward = λ rest. refl }

module _ (text : List ℕ) (start : ℕ) (words : List (List ℕ)) (end : ℕ) (ends : EndsPiece text start end) (reached : Reached text start words) where
  piece : List ℕ
  piece = take (end - start) (drop start text)

  unparted : IsUnparted piece
  unfolding piece
  unparted =
      All-from_get_or (λ b. is_blank b ≡ false) (take (end - start) (drop start text)) 0
      (λ i lt.
      let low = ends.low in
      let most = length-take (end - start) (drop start text) in
      let le : i < end - start = omega (arith, lt, most) in
      let reads = get_or-take (end - start) (drop start text) i 0 le ∙ get_or-drop start text i 0 in
      let other = ends.goes_on (start + i) (omega arith) (omega arith) in
      subst (λ b. is_blank b ≡ false) (sym reads) (or_parts (is_line_feed (slice_index text (start + i))) _ other).1)

  -- what was read before the piece, and the piece
  so_far : take start text ++ piece ≡ take end text
  unfolding piece
  so_far =
      let low = ends.low in
      let sum : start + (end - start) ≡ end = omega arith in
      sym (take-add start (end - start) text) ∙ ap (λ n. take n text) sum

  no_feed_in : (k : ℕ) → k < end → slice_index text k ≢ 10
  no_feed_in k lt e =
      ⊎_elim (λ before. reached.within k before e)
      (λ from. false≢true (sym (or_parts (is_line_feed (slice_index text k)) _ (ends.goes_on k from lt)).0 ∙ eq-eqb _ 10 e))
      (cases_lt k start)

  -- past a blank
  pub at_next : (more : List (List ℕ)) → end < length text → is_blank (slice_index text end) ≡ true → more ≡ words ++ word_in (take (end - start) (drop start text)) → Reached text (end + 1) more
  unfolding piece
  at_next more lt blank is =
      let b = slice_index text end in
      record {
        within = λ k le e.
            ⊎_elim (λ before. no_feed_in k before e)
            (λ from. let same : k ≡ end = omega arith in no_feed b blank (subst (λ i. slice_index text i ≡ 10) same e))
            (cases_lt k end);
        onward = λ rest.
            let front : take (end + 1) text ++ rest ≡ take start text ++ (piece ++ b ∷ rest) =
            ap (λ l. l ++ rest) (take_more text end 0 lt) ∙ append_assoc (take end text) (b ∷ []) rest
            ∙ ap (λ l. l ++ b ∷ rest) (sym so_far) ∙ append_assoc (take start text) piece (b ∷ rest) in
            ap words_of front ∙ reached.onward (piece ++ b ∷ rest) ∙ ap (λ ws. words ++ ws) (words_past piece b rest unparted blank)
            ∙ sym (append_assoc words (word_in piece) (words_of rest)) ∙ ap (λ ws. ws ++ words_of rest) (sym is);
      }

  -- at the line's end
  pub line_ends : (end < length text → is_blank (slice_index text end) ≡ false) → EndsLine text end
  line_ends no_blank = record {
    high = ends.high;
    goes_on = no_feed_in;
    stops = λ lt. eqb-true _ 10 (sym (or-false _) ∙ subst (λ l. (is_line_feed (slice_index text end) || l) ≡ true) (no_blank lt) (ends.stops lt));
  }

  pub line_words : words_of (take end text) ≡ words ++ word_in (strip_carriage_return (take (end - start) (drop start text)))
  unfolding piece
  line_words = ap words_of (sym so_far) ∙ reached.onward piece ∙ ap (λ ws. words ++ ws) (words_last piece unparted)

-- ---- lines

module _ (text : List ℕ) (end : ℕ) (ends : EndsLine text end) where
  no_feeds : All (λ b. is_line_feed b ≡ false) (take end text)
  no_feeds =
      All-from_get_or (λ b. is_line_feed b ≡ false) (take end text) 0
      (λ i lt.
      let le : i < end = omega (arith, lt, length-take end text) in
      subst (λ b. is_line_feed b ≡ false) (sym (get_or-take end text i 0 le)) (ne_eqb _ 10 (ends.goes_on i le)))

  -- the first line, and the others
  pub first_line : end < length text → lines_of text ≡ take end text ∷ lines_of (take (length text - (end + 1)) (drop (end + 1) text))
  unfolding lines_of
  first_line lt =
      let behind = take_all (length text - (end + 1)) (drop (end + 1) text) (omega (arith, length-drop (end + 1) text)) in
      let parts : text ≡ take end text ++ slice_index text end ∷ drop (end + 1) text =
      sym (take-append-drop end text) ∙ ap (λ l. take end text ++ l) (drop_more text end 0 lt) in
      ap (slice_split is_line_feed) parts
      ∙ slice_split_at is_line_feed (take end text) (slice_index text end) (drop (end + 1) text) no_feeds (eq-eqb _ 10 (ends.stops lt))
      ∙ ap (λ l. take end text ∷ slice_split is_line_feed l) (sym behind)

  -- the only line
  pub only_line : length text ≤ end → lines_of text ≡ text ∷ []
  unfolding lines_of
  only_line le =
      let all = take_all end text le in
      slice_split_none is_line_feed text (subst (All (λ b. is_line_feed b ≡ false)) all no_feeds)
