-- The rows of marks: of packets, and of the lists of sockets that a `dump` gave. Our own.
--
-- To be read from the beginning: from when until when each lasted, and which row that gives it.
use Rattle.std.specs.Prelude.{ℕ, ◌+◌, ◌-◌, ◌^◌, ◌==◌, ◌&&◌, nat_lt, bytes_eq, Bool, List, [], ◌∷◌, ◌++◌, length, drop, codes, decimal, position, count_by, slice_set, Option, Some, None, unwrap_or, if◌then◌else◌}
use Rattle.std.specs.Option.{option_to_list}
use Rattle.std.specs.Str.Parse.{digits_value}
use Rattle.book_audit.specs.declared.printed.Span.{Span}
use Rattle.record_reader.specs.Words.{words_of}
use Rattle.record_reader.specs.declared.line.ItemLine.{ItemLine}
use Rattle.record_reader.specs.declared.line.ItemLine.TheVariants as items
use Rattle.record_reader.specs.declared.line.Line.{Line}
use Rattle.record_reader.specs.declared.line.Line.TheVariants as lines
use Rattle.race_picture.specs.declared.rows.Mark.{Mark}
use Rattle.race_picture.specs.Texts.{text_at}

-- the number of 64 bits that a word is, in decimal digits without a leading zero
abbrev pub count_in : List ℕ → Option ℕ
count_in word =
    if bytes_eq word (decimal (digits_value 10 word)) && nat_lt (digits_value 10 word) (2 ^ 64)
    then Some (digits_value 10 word) else None

abbrev pub span_of : Option ℕ → Option ℕ → Option Span
span_of (Some begin) (Some end) = Some (record { begin = begin; end = end })
span_of _ _ = None

-- such words say that a `dump` listed sockets between two loads of the clock: `SECTION dump COUNT t0 N0 t1 N1`
abbrev pub is_dump : List (List ℕ) → Bool
is_dump words =
    (length words == 7) && bytes_eq (text_at words 1) (codes "dump") && bytes_eq (text_at words 3) (codes "t0")
    && bytes_eq (text_at words 5) (codes "t1")

abbrev pub dump_span : List (List ℕ) → Option Span
dump_span words = if is_dump words then span_of (count_in (text_at words 4)) (count_in (text_at words 6)) else None

-- from when until when a command's line says that its list lasted
unfoldable pub list_span : List ℕ → Option Span
list_span text = dump_span (words_of text)

-- from when until when a packet was looked up; one that wasn't stands before the clock
abbrev pub item_span : ItemLine → Span
item_span (items.Looked l) = record { begin = l.t0; end = l.t1 }
item_span _ = record { begin = 0; end = 0 }

-- from when until when the packet or the list of a line lasted, if the line has one
abbrev pub span_in : List ℕ → Line → Option Span
span_in text (lines.Packet number item) = Some (item_span item)
span_in text (lines.Reply vain) = list_span text
span_in text _ = None

-- the rows' ends, where what ends then is put last into that row
abbrev pub ends_with : List ℕ → ℕ → ℕ → List ℕ
ends_with ends row end = if nat_lt row (length ends) then slice_set ends row end else ends ++ end ∷ []

-- the first of the rows, each given by its last end, that ended below that beginning; else one below all
abbrev pub first_open : List ℕ → ℕ → ℕ
first_open ends begin = unwrap_or (position (λ end. nat_lt end begin) ends) (length ends)

-- `window`: how many of the last rows may take another mark
module _ (window : ℕ) where
  -- the first of these rows that is open, else a new row below all
  abbrev pub row_for : List ℕ → ℕ → ℕ
  row_for ends begin = (length ends - window) + first_open (drop (length ends - window) ends) begin

  abbrev pub mark_in : ℕ → List ℕ → Option Span → Option Mark
  mark_in at ends None = None
  mark_in at ends (Some s) =
      Some (record { line = at; row = row_for ends s.begin; heads_row = row_for ends s.begin == length ends })

  abbrev pub ends_after : List ℕ → Option Span → List ℕ
  ends_after ends None = ends
  ends_after ends (Some s) = ends_with ends (row_for ends s.begin) s.end

  -- a mark for each line that has such a span, where the first of the lines has that number
  abbrev pub marks_from : ℕ → List ℕ → List (List ℕ) → List Line → List Mark
  marks_from at ends texts [] = []
  marks_from at ends texts (line ∷ rest) =
      option_to_list (mark_in at ends (span_in (text_at texts at) line))
      ++ marks_from (at + 1) (ends_after ends (span_in (text_at texts at) line)) texts rest

-- how many rows there are
abbrev pub row_count : List Mark → ℕ
row_count marks = count_by (λ (m : Mark). m.heads_row) marks
