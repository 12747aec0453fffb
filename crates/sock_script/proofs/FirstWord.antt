-- A line's first word, by its first byte.
use Rattle.std.proofs.Common.{◌≡◌, ℕ, ◌<◌, ◌∙◌, ◌⊎◌, ⊎_elim, List, [], ◌∷◌, Option, Some, None, MatchOption, Bool, true, false, ◌==◌, cond, not, find, filter, refl, sym, ap, subst, length, arith}
use Rattle.std.proofs.lemmas.Bool.{cond-true, cond_both, lt-ltb, eq-eqb, ne_eqb}
use Rattle.std.proofs.lemmas.List.Elements.{All-nil}
use Rattle.std.proofs.lemmas.List.Splits.{length-slice_split, slice_split-cons_yes, slice_split-cons_no}
use Rattle.std.specs.List.{slice_split, onto_first}
use Rattle.std.specs.Str.Lines.{strip_carriage_return}
use Rattle.sock_script.specs.Words.{is_blank, is_line_feed, is_word, lines_of, words_of}
use Rattle.sock_script.proofs.TakenLines.{no_feed, strip_front, words_past}
use Rattle.sock_script.specs.Forms.{IsPassedOver}

-- no word, or a first word that begins with that byte
abbrev pub BeginsWith : Option ℕ → List (List ℕ) → Type 0
BeginsWith o words = MatchOption o (words ≡ []) (λ b. (w : List ℕ) × (rest : List (List ℕ)) × (words ≡ (b ∷ w) ∷ rest))

-- one byte more in front, a blank or not
one_byte : (blank : Bool) (b : ℕ) (pieces : List (List ℕ)) (o : Option ℕ) → BeginsWith o (filter is_word pieces)
    → BeginsWith (cond (not blank) (Some b) o) (filter is_word (cond blank ([] ∷ pieces) (onto_first b pieces)))
one_byte true b pieces o h = h
one_byte false b [] o h = ([], [], refl)
one_byte false b (piece ∷ pieces) o h =
    (piece, filter is_word pieces, cond-true (is_word (b ∷ piece)) _ _ (lt-ltb 0 (length (b ∷ piece)) (omega arith)))

first_word : (bs : List ℕ) → BeginsWith (find (λ b. not (is_blank b)) bs) (filter is_word (slice_split is_blank bs))
first_word [] = refl
first_word (b ∷ bs) = one_byte (is_blank b) b (slice_split is_blank bs) (find (λ b. not (is_blank b)) bs) (first_word bs)

is_not : (b : Bool) → not b ≡ false → b ≡ true
is_not true e = refl
is_not false e = cc

-- ---- what the first byte says of a text's first line

-- that line is passed over
abbrev pub IsFirstPassed : List ℕ → Type 0
IsFirstPassed text = (line : List ℕ) (later : List (List ℕ)) → lines_of text ≡ line ∷ later → IsPassedOver (words_of line)

-- where there is no byte but blanks, and where it is a number sign or a line feed
abbrev pub TellsOfText : List ℕ → Option ℕ → Type 0
TellsOfText text o = MatchOption o (IsFirstPassed text) (λ b. (b ≡ 35) ⊎ (b ≡ 10) → IsFirstPassed text)

empty_line : (line : List ℕ) → line ≡ [] → IsPassedOver (words_of line)
unfolding words_of
empty_line line e = subst (λ l. IsPassedOver (words_of l)) (sym e) tt

comment_line : (rest line : List ℕ) → line ≡ 35 ∷ rest → IsPassedOver (words_of line)
unfolding words_of
comment_line rest line e =
    let words = first_word (35 ∷ strip_carriage_return rest) in
    subst (λ l. IsPassedOver (words_of l)) (sym e)
    (subst (λ l. IsPassedOver (filter is_word (slice_split is_blank l))) (sym (strip_front [] 35 rest refl)) (subst IsPassedOver (sym words.2) refl))

some_part : (parts : List (List ℕ)) → 0 < length parts → (part : List ℕ) × (more : List (List ℕ)) × (parts ≡ part ∷ more)
some_part [] h = absurd (omega arith)
some_part (part ∷ more) h = (part, more, refl)

-- a byte that is no line feed begins the line that follows it
begins_line : (b : ℕ) (text line : List ℕ) (later : List (List ℕ)) → is_line_feed b ≡ false → lines_of (b ∷ text) ≡ line ∷ later
    → (rest : List ℕ) × (more : List (List ℕ)) × (lines_of text ≡ rest ∷ more) × (line ≡ b ∷ rest)
unfolding lines_of
begins_line b text line later other h =
    let first = some_part (slice_split is_line_feed text) (omega (arith, length-slice_split is_line_feed text)) in
    let same : line ∷ later ≡ (b ∷ first.0) ∷ first.1 = sym h ∙ slice_split-cons_no is_line_feed b text other ∙ ap (onto_first b) first.2 in
    (first.0, first.1, first.2, cc)

-- a blank in front changes nothing
past_blank : (b : ℕ) (text : List ℕ) → is_blank b ≡ true → IsFirstPassed text → IsFirstPassed (b ∷ text)
past_blank b text blank h line later e =
    let r = begins_line b text line later (ne_eqb b 10 (no_feed b blank)) e in
    subst (λ l. IsPassedOver (words_of l)) (sym r.3)
    (subst IsPassedOver (sym (words_past [] b r.0 (All-nil _) blank)) (h r.0 r.1 r.2))

told_past : (b : ℕ) (text : List ℕ) (o : Option ℕ) → is_blank b ≡ true → TellsOfText text o → TellsOfText (b ∷ text) o
told_past b text None blank h = past_blank b text blank h
told_past b text (Some c) blank h = λ which. past_blank b text blank (h which)

told_here : (b : ℕ) (text : List ℕ) → TellsOfText (b ∷ text) (Some b)
unfolding lines_of
told_here b text which line later e =
    ⊎_elim
    (λ (is : b ≡ 35).
    let r = begins_line b text line later (ap (λ c. c == 10) is) e in comment_line r.0 line (r.3 ∙ ap (λ c. c ∷ r.0) is))
    (λ (is : b ≡ 10).
    let same : line ∷ later ≡ [] ∷ slice_split is_line_feed text = sym e ∙ slice_split-cons_yes is_line_feed b text (eq-eqb b 10 is) in
    let none : line ≡ [] = cc in
    empty_line line none)
    which

pub first_byte_tells : (text : List ℕ) → TellsOfText text (find (λ b. not (is_blank b)) text)
unfolding lines_of
first_byte_tells [] = λ line later e. let none : line ≡ [] = cc in empty_line line none
first_byte_tells (b ∷ text) =
    cond_both (not (is_blank b)) (Some b) (find (λ c. not (is_blank c)) text) (TellsOfText (b ∷ text))
    (λ other. told_here b text)
    (λ blank. told_past b text _ (is_not (is_blank b) blank) (first_byte_tells text))
