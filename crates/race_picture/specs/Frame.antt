-- What stands round the bars and marks: colours, title, clock, commands and legend. Our own; the colours of kinds are
-- those of Okabe and Ito, which people with any kind of colour vision tell apart.
--
-- To be read from the beginning.
use Rattle.std.specs.Prelude.{ℕ, ◌+◌, ◌-◌, ◌*◌, ◌/◌, min, max, Bool, true, false, List, [], ◌∷◌, ◌++◌, length, codes, decimal, suc, zero, Option, Some, None, slice_get, if◌then◌else◌}
use Rattle.sock_card.specs.declared.card.Kind.{Kind}
use Rattle.sock_card.specs.declared.card.Kind.TheVariants as kinds
use Rattle.book_audit.specs.declared.printed.Why.{Why}
use Rattle.record_reader.specs.declared.audit.Verdict.{Verdict}
use Rattle.record_reader.specs.declared.audit.Verdict.TheVariants as verdicts
use Rattle.record_reader.specs.declared.line.Line.{Line}
use Rattle.record_reader.specs.declared.line.Line.TheVariants as lines
use Rattle.race_picture.specs.declared.shapes.Point.{Point}
use Rattle.race_picture.specs.declared.sheet.Sheet.{Sheet}
use Rattle.race_picture.specs.declared.frame.Counts.{Counts}
use Rattle.race_picture.specs.Xml.{Attribute, number, begin_tag, element, empty_element, escaped}
use Rattle.race_picture.specs.Sheet.{left, top, plot, x_of, bottom, side, side_line, width, height}
use Rattle.race_picture.specs.Shapes.{area, line, rect, text, title}
use Rattle.race_picture.specs.Texts.{text_at}
use Rattle.race_picture.specs.Bars.{why_at, why_text, why_word}

-- how texts, kinds and refuted lines look on a light page
unfoldable pub light : List ℕ
light =
    codes "text{font:12px sans-serif;fill:#222}.head{font-size:16px}.mono{font:12px monospace}.end{text-anchor:end}"
    ++ codes ".tick{text-anchor:middle}.page{fill:#fff}.grid{stroke:#ddd}.full{fill:#0072b2}.time-wait{fill:#e69f00}"
    ++ codes ".listen{fill:#009e73}.request{fill:#cc79a7}.none,.passed{fill:none;stroke:#777;stroke-width:2}"
    ++ codes ".passed{stroke-dasharray:2 2}.again{fill:#000}.dump{fill:#56b4e9}.link{stroke:#777;stroke-dasharray:3 3}"
    ++ codes ".changing{fill:url(#changing)}.hatch{stroke:#fff;stroke-width:3}.wrong{fill:#d00;stroke:#d00}"
    ++ codes "text.wrong{font-weight:bold;stroke:none}"

-- and what differs on a dark one
unfoldable pub dark : List ℕ
dark =
    codes "@media(prefers-color-scheme:dark){text{fill:#ddd}.page{fill:#1c1c1c}.grid{stroke:#444}.again{fill:#fff}"
    ++ codes ".none,.passed,.link{stroke:#999}.hatch{stroke:#1c1c1c}.wrong,text.wrong{fill:#f66;stroke:#f66}"
    ++ codes "text.wrong{stroke:none}}"

unfoldable pub style : List ℕ
style = element (codes "style") [] (light ++ dark)

abbrev pub word : List ℕ → List ℕ → Attribute
word attribute value = record { name = attribute; value = value }

-- the hatching of changes
unfoldable pub hatching : List ℕ
hatching =
    element (codes "pattern")
    (word (codes "id") (codes "changing") ∷ word (codes "width") (codes "6") ∷ word (codes "height") (codes "6")
    ∷ word (codes "patternUnits") (codes "userSpaceOnUse") ∷ [])
    (empty_element (codes "path")
    (word (codes "class") (codes "hatch") ∷ word (codes "d") (codes "M-1 1l2 -2M0 6l6 -6M5 7l2 -2") ∷ []))

-- the tag of the whole: its namespace, and how large it is
abbrev pub namespace : Attribute
namespace = word (codes "xmlns") (codes "http://www.w3.org/2000/svg")

unfoldable pub extent : ℕ → ℕ → List ℕ
extent across down = codes "0 0 " ++ decimal across ++ codes " " ++ decimal down

abbrev pub view_box : ℕ → ℕ → Attribute
view_box across down = word (codes "viewBox") (extent across down)

unfoldable pub svg_tag : Sheet → List ℕ
svg_tag s =
    begin_tag (codes "svg")
    (namespace ∷ number (codes "width") (width s) ∷ number (codes "height") (height s)
    ∷ view_box (width s) (height s) ∷ [])

unfoldable pub page : Sheet → List ℕ
page s = rect (codes "page") false (record { x = 0; y = 0; width = width s; height = height s; radius = 0 })

unfoldable pub refuted_at : List ℕ
refuted_at = codes ": refuted at line "

abbrev pub test_words : Why → List ℕ
test_words why = codes ", " ++ why_word why

abbrev pub refuted_words : ℕ → Why → List ℕ
refuted_words n why = refuted_at ++ decimal n ++ test_words why

-- what the title says: how many lives and packets there are, what the clock came to, and what an audit says
abbrev pub verdict_words : Verdict → List ℕ
verdict_words (verdicts.Yes lives packets clock) = codes ": passes the audit"
verdict_words (verdicts.No n why) = refuted_words n why

unfoldable pub counted : List ℕ → ℕ → List ℕ
counted words n = words ++ decimal n

abbrev pub counts_words : Counts → List ℕ
counts_words n =
    counted (codes "Race: lives ") n.lives ++ counted (codes ", packets ") n.packets
    ++ counted (codes ", clock ") n.clock

unfoldable pub heading : Counts → Verdict → List ℕ
heading n verdict = counts_words n ++ verdict_words verdict

abbrev pub is_refuted : Verdict → Bool
is_refuted (verdicts.Yes lives packets clock) = false
is_refuted (verdicts.No n why) = true

unfoldable pub large_words : List ℕ
large_words =
    codes "More than 400 lines or 100 packets: drawn close together, without names and commands. "
    ++ codes "A pointer on a shape shows its line."

unfoldable pub large_note : Sheet → List ℕ
large_note s = if s.large then text (codes "name") false (record { x = 20; y = 62 }) large_words else []

-- the title, for the window and on the page, and the record's first two lines
unfoldable pub window_title : Counts → Verdict → List ℕ
window_title n verdict = element (codes "title") [] (heading n verdict)

unfoldable pub page_title : Counts → Verdict → List ℕ
page_title n verdict = text (codes "head") (is_refuted verdict) (record { x = 20; y = 26 }) (heading n verdict)

unfoldable pub first_lines : List (List ℕ) → List ℕ
first_lines texts =
    text (codes "mono") false (record { x = 20; y = 46 })
    (escaped (text_at texts 0) ++ codes "; " ++ escaped (text_at texts 1))

unfoldable pub header : Sheet → Counts → List (List ℕ) → Verdict → List ℕ
header s n texts verdict =
    window_title n verdict ++ style ++ hatching ++ page s ++ page_title n verdict ++ first_lines texts ++ large_note s
    ++ codes "\n"

-- the clock: a line for each number, or for one in so many, so that there are 21 at most
abbrev pub unit : Sheet → ℕ
unit s = s.clock / 20 + 1

unfoldable pub tick : Sheet → ℕ → List ℕ
tick s n =
    line (codes "grid") false (record { x = x_of s n; y = top - 14 }) (record { x = x_of s n; y = bottom s })
    ++ text (codes "tick") false (record { x = x_of s n; y = top - 20 }) (decimal n)

-- so many of them, from the clock's beginning
abbrev pub ticks : Sheet → ℕ → List ℕ
ticks s zero = []
ticks s (suc k) = ticks s k ++ tick s (k * unit s)

unfoldable pub clock : Sheet → List ℕ
clock s =
    text (codes "end") false (record { x = left - 20; y = top - 20 }) (codes "clock")
    ++ ticks s (s.clock / unit s + 1) ++ codes "\n"

-- the line of the clock, where it fails the test
unfoldable pub wrong_clock : Sheet → ℕ → Why → List ℕ
wrong_clock s n why =
    line (codes "wrong") true (record { x = x_of s s.clock; y = top - 14 }) (record { x = x_of s s.clock; y = bottom s })
    ++ text (codes "name") true (record { x = x_of s s.clock + 20; y = top - 20 })
    (codes "clock " ++ decimal n ++ why_text (Some why))
    ++ codes "\n"

abbrev pub clock_fault : Sheet → Option Line → Option Why → List ℕ
clock_fault s (Some (lines.Clock n)) (Some why) = wrong_clock s n why
clock_fault s _ _ = []

unfoldable pub last_fault : Sheet → List Line → Verdict → List ℕ
last_fault s all verdict = clock_fault s (slice_get all (length all - 1)) (why_at verdict (length all - 1))

-- the commands with their replies, each in the line that it has in the record, from 0
abbrev pub command : Sheet → ℕ → List ℕ → Line → List ℕ
command s at said (lines.Reply vain) =
    text (codes "mono") false (record { x = side s; y = side_line at }) (escaped said) ++ codes "\n"
command s at said _ = []

abbrev pub commands_from : Sheet → List (List ℕ) → ℕ → List Line → List ℕ
commands_from s texts at [] = []
commands_from s texts at (line ∷ rest) = command s at (text_at texts at) line ++ commands_from s texts (at + 1) rest

unfoldable pub commands : Sheet → List (List ℕ) → List Line → List ℕ
commands s texts all =
    if s.large then []
    else text (codes "name") false (record { x = side s; y = side_line 1 }) (codes "commands and replies") ++ codes "\n"
    ++ commands_from s texts 0 all

-- the legend: samples with their words
unfoldable pub sample : Sheet → ℕ → List ℕ → Kind → List ℕ → List ℕ
sample s x class kind said =
    rect class false (area kind (record { x = x; y = bottom s + 30 }) 30 12)
    ++ text (codes "name") false (record { x = x + 36; y = bottom s + 40 }) said

unfoldable pub legend : Sheet → List ℕ
legend s =
    sample s 20 (codes "full") kinds.Full (codes "connected")
    ++ sample s 134 (codes "time-wait") kinds.TimeWait (codes "TIME_WAIT")
    ++ sample s 248 (codes "listen") kinds.Listen (codes "listener")
    ++ sample s 352 (codes "request") kinds.Request (codes "request")
    ++ sample s 456 (codes "none") kinds.Full (codes "none found")
    ++ sample s 576 (codes "again") kinds.Listen (codes "given up")
    ++ sample s 680 (codes "dump") kinds.Listen (codes "list")
    ++ rect (codes "listen") false (area kinds.Listen (record { x = 764; y = bottom s + 30 }) 30 12)
    ++ sample s 764 (codes "changing") kinds.Listen (codes "change") ++ codes "\n"
