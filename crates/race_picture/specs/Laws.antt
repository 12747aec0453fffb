-- What is said of pictures: our own laws.
use Rattle.std.specs.Prelude.{◌≡◌, ℕ, ◌==◌, Bool, true, false, List, count_by, slice_get, Option, Some, None, is_some, if◌then◌else◌}
use Rattle.record_reader.specs.declared.audit.Verdict.{Verdict}
use Rattle.record_reader.specs.declared.line.Line.{Line}
use Rattle.race_picture.specs.declared.lanes.Bar.{Bar}
use Rattle.race_picture.specs.declared.lanes.Place.{Place}
use Rattle.race_picture.specs.declared.rows.Mark.{Mark}
use Rattle.race_picture.specs.Texts.{text_at}
use Rattle.race_picture.specs.Lanes.{IsArranged, bars_from, place_in, places_from}
use Rattle.race_picture.specs.Rows.{span_in}
use Rattle.race_picture.specs.Picture.{IsPictureOf, marks_of}
use Rattle.race_picture.specs.WellFormed.{IsDocument}

-- a picture is well-formed XML, whatever the text and its labels are
abbrev pub IsWellFormed : Type 0
IsWellFormed = (text : List ℕ) (verdict : Verdict) (picture : List ℕ) → IsPictureOf text verdict picture → IsDocument picture

-- once where it is so, else never
abbrev pub once_if : Bool → ℕ
once_if holds = if holds then 1 else 0

abbrev pub has_place : ℕ → Option Line → Bool
has_place n None = false
has_place n (Some line) = is_some (place_in n line)

-- each life's line has one bar, and no other line has one
abbrev pub HasOneBar : Type 0
HasOneBar =
    (all : List Line) (places : List Place) (n : ℕ) → IsArranged (places_from 0 all) places
    → count_by (λ (b : Bar). b.line == n) (bars_from None 0 places) ≡ once_if (has_place n (slice_get all n))

abbrev pub has_span : List ℕ → Option Line → Bool
has_span said None = false
has_span said (Some line) = is_some (span_in said line)

-- each packet's line and each list's has one mark, and no other line has one
abbrev pub HasOneMark : Type 0
HasOneMark =
    (texts : List (List ℕ)) (all : List Line) (n : ℕ)
    → count_by (λ (m : Mark). m.line == n) (marks_of texts all) ≡ once_if (has_span (text_at texts n) (slice_get all n))
