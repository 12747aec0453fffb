-- How a packet is drawn, and the list of a `dump`: our own.
--
-- To be read from the end: `mark` is what stands for a packet or a list, and `link` the line from a packet to the life
-- that it found. Each stands on those above it.
use Rattle.std.specs.Prelude.{ℕ, ◌+◌, ◌-◌, ◌*◌, ◌%◌, max, ◌==◌, ◌&&◌, Bool, true, false, List, [], ◌∷◌, ◌++◌, codes, slice_get, position, Option, Some, None, is_some, if◌then◌else◌}
use Rattle.std.specs.List.{flat_map}
use Rattle.sock_card.specs.declared.card.Kind.{Kind}
use Rattle.sock_card.specs.declared.card.Kind.TheVariants as kinds
use Rattle.sock_card.specs.Kinds.{same_kind}
use Rattle.book_audit.specs.declared.printed.Span.{Span}
use Rattle.book_audit.specs.declared.printed.Why.{Why}
use Rattle.record_reader.specs.Forms.{kind_word}
use Rattle.record_reader.specs.Names.{same_name}
use Rattle.record_reader.specs.Words.{words_of}
use Rattle.record_reader.specs.declared.audit.Verdict.{Verdict}
use Rattle.record_reader.specs.declared.line.Answer.{Answer}
use Rattle.record_reader.specs.declared.line.Answer.TheVariants as answers
use Rattle.record_reader.specs.declared.line.ItemLine.{ItemLine}
use Rattle.record_reader.specs.declared.line.ItemLine.TheVariants as items
use Rattle.record_reader.specs.declared.line.Line.{Line}
use Rattle.record_reader.specs.declared.line.Line.TheVariants as lines
use Rattle.record_reader.specs.declared.line.LookLine.{LookLine}
use Rattle.record_reader.specs.declared.line.Name.{Name}
use Rattle.race_picture.specs.declared.lanes.Bar.{Bar}
use Rattle.race_picture.specs.declared.marks.Found.{Found}
use Rattle.race_picture.specs.declared.rows.Mark.{Mark}
use Rattle.race_picture.specs.declared.shapes.Area.{Area}
use Rattle.race_picture.specs.declared.shapes.Point.{Point}
use Rattle.race_picture.specs.declared.sheet.Sheet.{Sheet}
use Rattle.race_picture.specs.Xml.{element, escaped}
use Rattle.race_picture.specs.Sheet.{left, x_of, across, mark_height, mark_drop, lane_top, row_top}
use Rattle.race_picture.specs.Shapes.{area, line, rect, text, title}
use Rattle.race_picture.specs.Texts.{text_at}
use Rattle.race_picture.specs.Rows.{list_span}
use Rattle.race_picture.specs.Bars.{is_named, why_at, why_text}

-- the class of an answer, and the kind whose shape it has
abbrev pub answer_word : Answer → List ℕ
answer_word (answers.Found kind name) = kind_word kind
answer_word answers.None = codes "none"
answer_word (answers.Again bucket end) = codes "again"

abbrev pub answer_kind : Answer → Kind
answer_kind (answers.Found kind name) = kind
answer_kind answers.None = kinds.Full
answer_kind (answers.Again bucket end) = kinds.Listen

-- the line is that of a life of that kind and name
abbrev pub is_found : Kind → Name → Option Line → Bool
is_found kind name (Some (lines.Life l)) = same_kind kind l.card.kind && same_name name l.name
is_found kind name _ = false

-- and so is that of a bar
abbrev pub is_bar_found : Kind → Name → List Line → Bar → Bool
is_bar_found kind name all b = is_found kind name (slice_get all b.line)

-- the number at which the hash of a life began
abbrev pub begin_of : Option Line → ℕ
begin_of (Some (lines.Life l)) = l.hash.begin
begin_of _ = 0

abbrev pub found_of : List Line → Option Bar → Option Found
found_of all None = None
found_of all (Some b) = Some (record { lane = b.lane; begin = begin_of (slice_get all b.line) })

abbrev pub found_at : List Line → List Bar → Option ℕ → Option Found
found_at all bars None = None
found_at all bars (Some place) = found_of all (slice_get bars place)

-- what is known of the first bar of a life of that kind and name
abbrev pub found_among : Kind → Name → List Line → List Bar → Option Found
found_among kind name all bars = found_at all bars (position (is_bar_found kind name all) bars)

-- and of the life that an answer names, if it names one
abbrev pub found_by : Answer → List Line → List Bar → Option Found
found_by (answers.Found kind name) all bars = found_among kind name all bars
found_by _ all bars = None

-- where a mark begins to be drawn that begins at that number
abbrev pub mark_at : Sheet → Mark → ℕ → Point
mark_at s m n = record { x = x_of s n; y = row_top s m.row + mark_drop s }

-- the line from the mark of a lookup that began at t0 to the life that it found, where both are there; those of four
-- rows stand beside each other
abbrev pub link_x : Sheet → Mark → ℕ → Found → ℕ
link_x s m t0 f = x_of s (max t0 f.begin) + 2 + 2 * (m.row % 4)

abbrev pub link_to : Sheet → Mark → ℕ → Option Found → List ℕ
link_to s m t0 None = []
link_to s m t0 (Some f) =
    line (codes "link") false (record { x = link_x s m t0 f; y = row_top s m.row + mark_drop s })
    (record { x = link_x s m t0 f; y = lane_top s f.lane + 26 })
    ++ codes "\n"

-- the words of a packet's line that are shown: which packet it is, and what came of it
abbrev pub word : List (List ℕ) → ℕ → List ℕ
word words n = codes " " ++ escaped (text_at words n)

abbrev pub more_of : List (List ℕ) → Answer → List ℕ
more_of words (answers.Found kind name) = word words 3
more_of words answers.None = []
more_of words (answers.Again bucket end) = word words 3 ++ word words 4

abbrev pub more_words : List (List ℕ) → ItemLine → List ℕ
more_words words items.Skip = []
more_words words items.Short = []
more_words words (items.Looked l) = more_of words l.answer

abbrev pub item_words : List (List ℕ) → ItemLine → List ℕ
item_words words item = word words 0 ++ word words 1 ++ word words 2 ++ more_words words item

abbrev pub label : Bool → List ℕ → Option Why → ItemLine → Point → List ℕ
label named said why item at =
    if named then text (codes "name") (is_some why) at (item_words (words_of said) item ++ why_text why) else []

-- what a packet that wasn't looked up has: a mark before the clock
abbrev pub passed_area : Sheet → Mark → Area
passed_area s m =
    area kinds.Listen (record { x = left - 40; y = row_top s m.row + mark_drop s }) (mark_height s) (mark_height s)

-- and one that was: a mark from the number of the clock as its lookup began to that as it ended
abbrev pub looked_area : Sheet → Mark → LookLine → Area
looked_area s m l =
    area (answer_kind l.answer) (mark_at s m l.t0) (across s l.t0 l.t1 + mark_height s) (mark_height s)

abbrev pub shape : Sheet → Bool → Mark → ItemLine → List ℕ
shape s wrong m items.Skip = rect (codes "passed") wrong (passed_area s m)
shape s wrong m items.Short = rect (codes "passed") wrong (passed_area s m)
shape s wrong m (items.Looked l) = rect (answer_word l.answer) wrong (looked_area s m l)

-- where the words begin
abbrev pub label_at : Sheet → Mark → ItemLine → Point
label_at s m (items.Looked l) =
    record { x = x_of s l.t0 + across s l.t0 l.t1 + mark_height s + 6; y = row_top s m.row + 13 }
label_at s m _ = record { x = left - 40 + mark_height s + 6; y = row_top s m.row + 13 }

-- the group of what stands for a packet, by its line
unfoldable pub packet : Sheet → List ℕ → Option Why → Mark → ItemLine → List ℕ
packet s said why m item =
    element (codes "g") []
    (title said ++ shape s (is_some why) m item ++ label (is_named s why) said why item (label_at s m item))
    ++ codes "\n"

-- the group of what stands for the list of a `dump`, by its line
abbrev pub list_name : Sheet → List ℕ → Mark → List ℕ
list_name s said m =
    if s.large then []
    else text (codes "end") false (record { x = left - 20; y = row_top s m.row + 13 })
    (word (words_of said) 0 ++ word (words_of said) 1)

unfoldable pub list_group : Sheet → List ℕ → Mark → Span → List ℕ
list_group s said m span =
    element (codes "g") []
    (title said
    ++ rect (codes "dump") false
    (area kinds.Listen (mark_at s m span.begin) (across s span.begin span.end + mark_height s) (mark_height s))
    ++ list_name s said m)
    ++ codes "\n"

abbrev pub list_at : Sheet → List ℕ → Mark → Option Span → List ℕ
list_at s said m None = []
list_at s said m (Some span) = list_group s said m span

abbrev pub list_of : Sheet → List ℕ → Mark → List ℕ
list_of s said m = list_at s said m (list_span said)

-- what stands for the packet or the list of a line
abbrev pub mark_of : Sheet → List ℕ → Option Why → Mark → Option Line → List ℕ
mark_of s said why m (Some (lines.Packet number item)) = packet s said why m item
mark_of s said why m (Some (lines.Reply vain)) = list_of s said m
mark_of s said why m _ = []

unfoldable pub mark : Sheet → List (List ℕ) → List Line → Verdict → Mark → List ℕ
mark s texts all verdict m = mark_of s (text_at texts m.line) (why_at verdict m.line) m (slice_get all m.line)

-- the line from the packet of a line to the life that it found, where names are drawn
abbrev pub item_link : Sheet → Mark → ItemLine → List Line → List Bar → List ℕ
item_link s m (items.Looked l) all bars = link_to s m l.t0 (found_by l.answer all bars)
item_link s m _ all bars = []

abbrev pub link_of : Sheet → Mark → Option Line → List Line → List Bar → List ℕ
link_of s m (Some (lines.Packet number item)) all bars = item_link s m item all bars
link_of s m _ all bars = []

abbrev pub link : Sheet → List Line → List Bar → Mark → List ℕ
link s all bars m = link_of s m (slice_get all m.line) all bars

unfoldable pub links : Sheet → List Line → List Bar → List Mark → List ℕ
links s all bars marks = if s.large then [] else flat_map (link s all bars) marks
