-- How a life is drawn: our own.
--
-- To be read from the end: `bar` is what stands for a life, and each stands on those above it.
use Rattle.std.specs.Prelude.{ℕ, ◌+◌, ◌-◌, ◌==◌, Bool, true, false, not, ◌&&◌, ◌||◌, List, [], ◌++◌, codes, decimal, slice_get, Option, Some, None, is_some, if◌then◌else◌}
use Rattle.sock_card.specs.declared.card.Kind.{Kind}
use Rattle.book_audit.specs.declared.printed.Span.{Span}
use Rattle.book_audit.specs.declared.printed.Why.{Why}
use Rattle.book_audit.specs.declared.printed.Why.TheVariants as whys
use Rattle.record_reader.specs.Forms.{kind_word}
use Rattle.record_reader.specs.Words.{words_of}
use Rattle.record_reader.specs.declared.audit.Verdict.{Verdict}
use Rattle.record_reader.specs.declared.audit.Verdict.TheVariants as verdicts
use Rattle.record_reader.specs.declared.line.LifeLine.{LifeLine}
use Rattle.record_reader.specs.declared.line.Line.{Line}
use Rattle.record_reader.specs.declared.line.Line.TheVariants as lines
use Rattle.race_picture.specs.declared.lanes.Bar.{Bar}
use Rattle.race_picture.specs.declared.shapes.Point.{Point}
use Rattle.race_picture.specs.declared.sheet.Sheet.{Sheet}
use Rattle.race_picture.specs.Xml.{element, escaped}
use Rattle.race_picture.specs.Sheet.{left, plot, x_of, across, bar_height, bar_drop, lane_top}
use Rattle.race_picture.specs.Shapes.{area, line, rect, text, title}
use Rattle.race_picture.specs.Texts.{text_at}

-- the word by which an audit names a test
abbrev pub why_word : Why → List ℕ
why_word whys.Stamp = codes "stamp"
why_word whys.Home = codes "home"
why_word whys.Overlap = codes "overlap"
why_word whys.Slot = codes "slot"
why_word whys.Twin = codes "twin"
why_word whys.Receipt = codes "receipt"
why_word whys.Count = codes "count"

-- the test that a line fails, if it is the one that the verdict names; lines are counted from 0 here, and from 1 there
abbrev pub why_at : Verdict → ℕ → Option Why
why_at (verdicts.Yes lives packets clock) at = None
why_at (verdicts.No n why) at = if n == at + 1 then Some why else None

-- what stands behind a name in such a line
abbrev pub why_text : Option Why → List ℕ
why_text None = []
why_text (Some why) = codes ": " ++ why_word why

-- names are drawn where there is room for them, and where a line is refuted
abbrev pub is_named : Sheet → Option Why → Bool
is_named s why = not s.large || is_some why

-- the number at which a bar ends: that of the unhash's end, or of the clock
abbrev pub end_of : Sheet → Option Span → ℕ
end_of s None = s.clock
end_of s (Some span) = span.end

-- what is hatched of a bar: a change, from its beginning to its end
abbrev pub change : Sheet → Kind → ℕ → Span → List ℕ
change s kind y span =
    rect (codes "changing") false
    (area kind (record { x = x_of s span.begin; y = y }) (across s span.begin span.end + 1) (bar_height s))

abbrev pub last_change : Sheet → Kind → ℕ → Option Span → List ℕ
last_change s kind y None = []
last_change s kind y (Some span) = change s kind y span

-- the bar of a life, from its hash to its unhash
abbrev pub stay : Sheet → Bool → ℕ → LifeLine → List ℕ
stay s wrong y l =
    rect (kind_word l.card.kind) wrong
    (area l.card.kind (record { x = x_of s l.hash.begin; y = y }) (across s l.hash.begin (end_of s l.unhash) + 1) (bar_height s))
    ++ change s l.card.kind y l.hash ++ last_change s l.card.kind y l.unhash

-- its kind and name, as its line has them
abbrev pub name_text : List (List ℕ) → Option Why → List ℕ
name_text words why = escaped (text_at words 3) ++ codes " " ++ escaped (text_at words 4) ++ why_text why

abbrev pub name : Bool → List ℕ → Option Why → Point → List ℕ
name named said why at =
    if named then text (codes "name") (is_some why) at (name_text (words_of said) why) else []

-- where its bar begins to be drawn
abbrev pub bar_top : Sheet → Bar → ℕ
bar_top s b = lane_top s b.lane + bar_drop s

-- the group of what stands for a life, by its line
unfoldable pub group : Sheet → List ℕ → Option Why → Bar → LifeLine → List ℕ
group s said why b l =
    element (codes "g") []
    (title said ++ stay s (is_some why) (bar_top s b) l
    ++ name (is_named s why) said why (record { x = x_of s l.hash.begin; y = lane_top s b.lane + 11 }))
    ++ codes "\n"

-- what stands before the lane of the first life in its slot, and in its chain
abbrev pub chain_head : ℕ → Bar → LifeLine → ℕ → List ℕ
chain_head right b l y =
    if b.heads_chain
    then line (codes "grid") false (record { x = 20; y = y }) (record { x = right; y = y })
    ++ text (codes "name") false (record { x = 20; y = y + 24 }) (codes "chain " ++ decimal l.bucket)
    else []

abbrev pub slot_head : LifeLine → ℕ → List ℕ
slot_head l y =
    text (codes "end") false (record { x = left - 20; y = y + 24 }) (codes "slot " ++ decimal l.slot) ++ codes "\n"

unfoldable pub head : Sheet → Bar → LifeLine → List ℕ
head s b l =
    if b.heads_lane && not s.large
    then chain_head (left + plot s) b l (lane_top s b.lane) ++ slot_head l (lane_top s b.lane)
    else []

-- what stands for the life of a line
abbrev pub bar_in : Sheet → List ℕ → Option Why → Bar → Option Line → List ℕ
bar_in s said why b (Some (lines.Life l)) = head s b l ++ group s said why b l
bar_in s said why b _ = []

unfoldable pub bar : Sheet → List (List ℕ) → List Line → Verdict → Bar → List ℕ
bar s texts all verdict b = bar_in s (text_at texts b.line) (why_at verdict b.line) b (slice_get all b.line)
