-- Where a text's pieces end, of which its words and lines are made: our own. No public contract cites this file.
use Rattle.std.specs.Prelude.{◌≡◌, ◌≢◌, ◌⊎◌, ◌↔◌, ℕ, ◌+◌, ◌<◌, ◌≤◌, Bool, true, false, ◌||◌, List, [], ◌∷◌, length, slice_index, filter, Option, None, Some}
use Rattle.std.specs.Borrow.{Bor}
use Rattle.std.specs.Int.{bit_at}
use Rattle.sock_script.specs.Words.{is_blank, is_line_feed, is_word, lines_of, words_of}
use Rattle.sock_script.specs.Forms.{IsPassedOver}

-- a piece ends before a line feed, a space or a tab
abbrev pub is_end : ℕ → Bool
is_end b = is_line_feed b || is_blank b

-- no piece ends at a place from i on and below j
abbrev pub GoesOn : List ℕ → ℕ → ℕ → Type 0
GoesOn text i j = (k : ℕ) → i ≤ k → k < j → is_end (slice_index text k) ≡ false

-- the piece from `start` on ends at `end`, before a byte that ends one or with the text
pub record EndsPiece (text : List ℕ) (start end : ℕ) : Type 0 where
  pub low : start ≤ end
  pub high : end ≤ length text
  pub goes_on : GoesOn text start end
  pub stops : end < length text → is_end (slice_index text end) ≡ true

-- of sixteen bits, bit k is set where lane k holds the byte
pub record MarksByte (lanes : List ℕ) (byte bits : ℕ) : Type 0 where
  pub few : (k : ℕ) → bit_at bits k ≡ 1 → k < 16
  pub each : (k : ℕ) → k < 16 → (bit_at bits k ≡ 1) ↔ (slice_index lanes k ≡ byte)

-- of sixteen bits, bit k is set where a piece ends k places past `at`
pub record MarksEnds (text : List ℕ) (at bits : ℕ) : Type 0 where
  pub few : (k : ℕ) → bit_at bits k ≡ 1 → k < 16
  pub each : (k : ℕ) → k < 16 → (bit_at bits k ≡ 1) ↔ (is_end (slice_index text (at + k)) ≡ true)

-- the first line ends at `end`, before a line feed or with the text
pub record EndsLine (text : List ℕ) (end : ℕ) : Type 0 where
  pub high : end ≤ length text
  pub goes_on : (k : ℕ) → k < end → slice_index text k ≢ 10
  pub stops : end < length text → slice_index text end ≡ 10

-- the word that a piece is, if it has a byte
abbrev pub word_in : List ℕ → List (List ℕ)
word_in piece = filter is_word (piece ∷ [])

-- the lines of what is left behind a line feed, if there was one
abbrev pub lines_left : Option (Bor (List ℕ)) → List (List ℕ)
lines_left None = []
lines_left (Some rest) = lines_of rest.now

-- the words are the line's, or none of a line that is passed over
abbrev pub HasWords : List ℕ → List (List ℕ) → Type 0
HasWords line words = (words ≡ words_of line) ⊎ ((words ≡ []) × IsPassedOver (words_of line))
