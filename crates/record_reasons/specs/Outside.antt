-- Why a line is the first outside the grammar of records: our own.
--
-- To be read from the end: `IsOutside` is what contracts cite, and each stands on those above it.
use Rattle.std.specs.Prelude.{◌≡◌, ◌≢◌, ℕ, ◌-◌, ◌<◌, ◌&&◌, nat_le, Bool, false, bytes_eq, List, [], ◌∷◌, length, codes, slice_get, Option, Some, if◌then◌else◌}
use Rattle.record_reader.specs.declared.line.Line.{Line}
use Rattle.record_reader.specs.Words.{pieces_of, words_of}
use Rattle.record_reader.specs.Forms.{HasForm}
use Rattle.record_reader.specs.Record.{IsFirstOutside, may_follow}
use Rattle.record_reasons.specs.declared.outside.Head.{Head}
use Rattle.record_reasons.specs.declared.outside.Head.TheVariants as heads
use Rattle.record_reasons.specs.declared.outside.Outside.{Outside}
use Rattle.record_reasons.specs.declared.outside.Outside.TheVariants as reasons
use Rattle.record_reasons.specs.Lines.{IsBefore}

-- a word that begins with a digit, as the section of a command's line
abbrev pub is_section : List ℕ → Bool
is_section [] = false
is_section (b ∷ rest) = nat_le 48 b && nat_le b 57

-- of which kind of line a word is the first
abbrev pub head_named : List ℕ → Head
head_named word =
    if bytes_eq word (codes "life") then heads.Life
    else if bytes_eq word (codes "packet") then heads.Packet
    else if bytes_eq word (codes "journal") then heads.Journal
    else if bytes_eq word (codes "race") then heads.Race
    else if bytes_eq word (codes "shape") then heads.Shape
    else if bytes_eq word (codes "cut") then heads.Cut
    else if bytes_eq word (codes "clock") then heads.Clock
    else if is_section word then heads.Command
    else heads.Other

abbrev pub head_of : List (List ℕ) → Head
head_of [] = heads.Other
head_of (word ∷ rest) = head_named word

-- what stands behind the last line feed: nothing, where a line is missing, or something without a line feed
abbrev pub EndReason : List ℕ → Outside → Type 0
EndReason line reasons.Missing = line ≡ []
EndReason line reasons.Unended = line ≢ []
EndReason line _ = ⊥

-- a line with its line feed: it has no form, or it is that line
abbrev pub LineReason : List ℕ → Outside → Type 0
LineReason line (reasons.NoForm head) =
    (head ≡ head_of (words_of line)) × ((it : Line) → ¬ (HasForm (words_of line) it))
LineReason line (reasons.NoPlace it) = HasForm (words_of line) it
LineReason line _ = ⊥

-- the reason isn't of a line's place, or else that line may not follow the one before it
abbrev pub IsOutOfPlace : Option Line → Outside → Type 0
IsOutOfPlace before (reasons.NoPlace it) = may_follow before it ≡ false
IsOutOfPlace before _ = Unit {0}

-- Line n, counted from 1, is the first outside, has that text, stands behind that line, and is refused for that reason.
pub record IsOutside (text : List ℕ) (n : ℕ) (line : List ℕ) (before : Option Line) (reason : Outside) : Type 0 where
  pub first : IsFirstOutside text n
  pub there : slice_get (pieces_of text) (n - 1) ≡ Some line
  pub behind : IsBefore (pieces_of text) n before
  pub at_end : n ≡ length (pieces_of text) → EndReason line reason
  pub within : n < length (pieces_of text) → LineReason line reason
  pub out_of_place : IsOutOfPlace before reason
