-- The picture of a race: our own.
--
-- To be read from the end: `IsPictureOf` is what contracts cite, and each stands on those above it.
use Rattle.std.specs.Prelude.{◌≡◌, ℕ, ◌-◌, ◌||◌, nat_lt, Bool, true, false, List, [], ◌++◌, length, codes, count_by, slice_get, Option, Some, None, if◌then◌else◌}
use Rattle.std.specs.List.{flat_map}
use Rattle.record_reader.specs.declared.audit.Verdict.{Verdict}
use Rattle.record_reader.specs.declared.line.Line.{Line}
use Rattle.record_reader.specs.declared.line.Line.TheVariants as lines
use Rattle.record_reader.specs.Record.{IsRecord}
use Rattle.record_reader.specs.Verdicts.{IsVerdict}
use Rattle.record_reader.specs.Words.{pieces_of}
use Rattle.race_picture.specs.declared.frame.Counts.{Counts}
use Rattle.race_picture.specs.declared.lanes.Bar.{Bar}
use Rattle.race_picture.specs.declared.lanes.Place.{Place}
use Rattle.race_picture.specs.declared.rows.Mark.{Mark}
use Rattle.race_picture.specs.declared.sheet.Sheet.{Sheet}
use Rattle.race_picture.specs.Xml.{end_tag}
use Rattle.race_picture.specs.Lanes.{IsArranged, bars_from, lane_count, places_from}
use Rattle.race_picture.specs.Rows.{marks_from, row_count}
use Rattle.race_picture.specs.Bars.{bar}
use Rattle.race_picture.specs.Marks.{mark, links}
use Rattle.race_picture.specs.Frame.{clock, commands, header, last_fault, legend, svg_tag}

abbrev pub is_life : Line → Bool
is_life (lines.Life l) = true
is_life _ = false

abbrev pub is_packet : Line → Bool
is_packet (lines.Packet number item) = true
is_packet _ = false

abbrev pub is_command : Line → Bool
is_command (lines.Reply vain) = true
is_command _ = false

-- what the clock came to, which the last line says
abbrev pub clock_in : Option Line → ℕ
clock_in (Some (lines.Clock n)) = n
clock_in _ = 0

abbrev pub clock_of : List Line → ℕ
clock_of all = clock_in (slice_get all (length all - 1))

abbrev pub counts_of : List Line → Counts
counts_of all = record { lives = count_by is_life all; packets = count_by is_packet all; clock = clock_of all }

-- a record that is drawn close together and without names
abbrev pub is_large : List Line → Bool
is_large all = nat_lt 400 (length all) || nat_lt 100 (count_by is_packet all)

-- the marks: in a large record one of the last 64 rows may take more than one, else each has a row of its own
abbrev pub marks_of : List (List ℕ) → List Line → List Mark
marks_of texts all = marks_from (if is_large all then 64 else 0) 0 [] texts all

abbrev pub sheet_of : List Line → List Bar → List Mark → Sheet
sheet_of all bars marks =
    record {
      clock = clock_of all;
      lanes = lane_count bars;
      rows = row_count marks;
      commands = count_by is_command all;
      large = is_large all;
    }

-- what stands above the bars, and what stands beside them and below the marks
unfoldable pub front : Sheet → List (List ℕ) → List Line → Verdict → List ℕ
front s texts all verdict = header s (counts_of all) texts verdict ++ clock s ++ last_fault s all verdict

unfoldable pub back : Sheet → List (List ℕ) → List Line → List ℕ
back s texts all = commands s texts all ++ legend s

-- all that is drawn, between the tags of the whole
abbrev pub content : Sheet → List (List ℕ) → List Line → Verdict → List Bar → List Mark → List ℕ
content s texts all verdict bars marks =
    front s texts all verdict ++ links s all bars marks ++ flat_map (bar s texts all verdict) bars
    ++ flat_map (mark s texts all verdict) marks ++ back s texts all

unfoldable pub drawing_on : Sheet → List (List ℕ) → List Line → Verdict → List Bar → List Mark → List ℕ
drawing_on s texts all verdict bars marks =
    svg_tag s ++ content s texts all verdict bars marks ++ end_tag (codes "svg") ++ codes "\n"

abbrev pub drawing_with : List (List ℕ) → List Line → Verdict → List Bar → List Mark → List ℕ
drawing_with texts all verdict bars marks =
    drawing_on (sheet_of all bars marks) texts all verdict bars marks

-- the drawing of a record's lines, by their texts, the verdict on it, and the places of its lives in their order
unfoldable pub drawing : List (List ℕ) → List Line → Verdict → List Place → List ℕ
drawing texts all verdict places = drawing_with texts all verdict (bars_from None 0 places) (marks_of texts all)

-- the picture of a text with that verdict
pub record IsPictureOf (text : List ℕ) (verdict : Verdict) (picture : List ℕ) : Type 0 where
  pub all : List Line
  pub places : List Place
  pub is : IsRecord text all
  pub judged : IsVerdict text verdict
  pub arranged : IsArranged (places_from 0 all) places
  pub drawn : picture ≡ drawing (pieces_of text) all verdict places
