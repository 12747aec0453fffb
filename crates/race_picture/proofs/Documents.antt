-- A picture is well-formed XML.
use Rattle.std.proofs.Common.{◌≡◌, ℕ, ◌+◌, ◌/◌, ◌&&◌, not, Bool, true, false, List, [], ◌∷◌, ◌++◌, refl, zero, suc, codes, decimal, Option, Some, None, is_some, slice_get}
use Rattle.std.specs.List.{list_all}
use Rattle.sock_card.specs.declared.card.Kind.{Kind}
use Rattle.book_audit.specs.declared.printed.Span.{Span}
use Rattle.book_audit.specs.declared.printed.Why.{Why}
use Rattle.book_audit.specs.declared.printed.Why.TheVariants as whys
use Rattle.record_reader.specs.Words.{words_of}
use Rattle.record_reader.specs.declared.audit.Verdict.{Verdict}
use Rattle.record_reader.specs.declared.audit.Verdict.TheVariants as verdicts
use Rattle.record_reader.specs.declared.line.Answer.{Answer}
use Rattle.record_reader.specs.declared.line.Answer.TheVariants as answers
use Rattle.record_reader.specs.declared.line.ItemLine.{ItemLine}
use Rattle.record_reader.specs.declared.line.ItemLine.TheVariants as items
use Rattle.record_reader.specs.declared.line.LifeLine.{LifeLine}
use Rattle.record_reader.specs.declared.line.Line.{Line}
use Rattle.record_reader.specs.declared.line.Line.TheVariants as lines
use Rattle.race_picture.specs.declared.frame.Counts.{Counts}
use Rattle.race_picture.specs.declared.lanes.Bar.{Bar}
use Rattle.race_picture.specs.declared.lanes.Place.{Place}
use Rattle.race_picture.specs.declared.marks.Found.{Found}
use Rattle.race_picture.specs.declared.rows.Mark.{Mark}
use Rattle.race_picture.specs.declared.shapes.Point.{Point}
use Rattle.race_picture.specs.declared.sheet.Sheet.{Sheet}
use Rattle.race_picture.specs.Xml.{is_plain, number}
use Rattle.race_picture.specs.Sheet.{height, lane_top, left, plot, width}
use Rattle.race_picture.specs.Texts.{text_at}
use Rattle.race_picture.specs.Rows.{list_span}
use Rattle.race_picture.specs.Bars as bars
use Rattle.race_picture.specs.Bars.{bar, group, head}
use Rattle.race_picture.specs.Marks as marks
use Rattle.race_picture.specs.Marks.{links, list_group, mark, packet}
use Rattle.race_picture.specs.Frame as frame
use Rattle.race_picture.specs.Frame.{clock, commands, counted, dark, extent, first_lines, hatching, header, heading, large_note, large_words, last_fault, legend, light, namespace, page, page_title, refuted_at, sample, style, svg_tag, tick, view_box, window_title, word, wrong_clock}
use Rattle.race_picture.specs.Picture as picture
use Rattle.race_picture.specs.Picture.{back, drawing, drawing_on, front}
use Rattle.race_picture.specs.WellFormed.{AreAttributes, IsContent, IsDocument, text, both, filled, empty}
use Rattle.race_picture.proofs.Plain.{append_plain, decimal_content, decimal_plain, each_content, either, escaped_content, plain_content}
use Rattle.race_picture.proofs.Elements.{group_content, kind_plain, line_content, none_are, number_is, rect_content, text_content, title_content}

why_word_content : (why : Why) → IsContent (bars.why_word why)
why_word_content whys.Stamp = text (codes "stamp") refl
why_word_content whys.Home = text (codes "home") refl
why_word_content whys.Overlap = text (codes "overlap") refl
why_word_content whys.Slot = text (codes "slot") refl
why_word_content whys.Twin = text (codes "twin") refl
why_word_content whys.Receipt = text (codes "receipt") refl
why_word_content whys.Count = text (codes "count") refl

why_content : (why : Option Why) → IsContent (bars.why_text why)
why_content None = text [] refl
why_content (Some why) = both (text (codes ": ") refl) (why_word_content why)

change_content : (s : Sheet) (kind : Kind) (y : ℕ) (span : Span) → IsContent (bars.change s kind y span)
change_content s kind y span = rect_content (codes "changing") false _ refl

last_content : (s : Sheet) (kind : Kind) (y : ℕ) (unhash : Option Span) → IsContent (bars.last_change s kind y unhash)
last_content s kind y None = text [] refl
last_content s kind y (Some span) = change_content s kind y span

stay_content : (s : Sheet) (wrong : Bool) (y : ℕ) (l : LifeLine) → IsContent (bars.stay s wrong y l)
stay_content s wrong y l =
    both (both (rect_content _ wrong _ (kind_plain l.card.kind)) (change_content s l.card.kind y l.hash))
    (last_content s l.card.kind y l.unhash)

name_content : (named : Bool) (said : List ℕ) (why : Option Why) (at : Point) → IsContent (bars.name named said why at)
name_content named said why at =
    either named _ _
    (λ _. text_content (codes "name") (is_some why) at refl
    (both (both (both (escaped_content (text_at (words_of said) 3)) (text (codes " ") refl)) (escaped_content (text_at (words_of said) 4))) (why_content why)))
    (λ _. text [] refl)

life_content : (s : Sheet) (said : List ℕ) (why : Option Why) (b : Bar) (l : LifeLine) → IsContent (bars.group s said why b l)
unfolding group
life_content s said why b l =
    both (group_content
    (both (both (title_content said) (stay_content s (is_some why) (bars.bar_top s b) l)) (name_content (bars.is_named s why) said why _)))
    (text (codes "\n") refl)

chain_content : (right : ℕ) (b : Bar) (l : LifeLine) (y : ℕ) → IsContent (bars.chain_head right b l y)
chain_content right b l y =
    either b.heads_chain _ _
    (λ _. both (line_content (codes "grid") false _ _ refl)
    (text_content (codes "name") false _ refl (both (text (codes "chain ") refl) (decimal_content l.bucket))))
    (λ _. text [] refl)

slot_content : (l : LifeLine) (y : ℕ) → IsContent (bars.slot_head l y)
slot_content l y =
    both (text_content (codes "end") false _ refl (both (text (codes "slot ") refl) (decimal_content l.slot))) (text (codes "\n") refl)

head_content : (s : Sheet) (b : Bar) (l : LifeLine) → IsContent (bars.head s b l)
unfolding head
head_content s b l =
    either (b.heads_lane && not s.large) (bars.chain_head (left + plot s) b l (lane_top s b.lane) ++ bars.slot_head l (lane_top s b.lane)) []
    (λ _. both (chain_content (left + plot s) b l (lane_top s b.lane)) (slot_content l (lane_top s b.lane)))
    (λ _. text [] refl)

bar_content : (s : Sheet) (said : List ℕ) (why : Option Why) (b : Bar) (line : Option Line) → IsContent (bars.bar_in s said why b line)
bar_content s said why b (Some (lines.Life l)) = both (head_content s b l) (life_content s said why b l)
bar_content s said why b (Some (lines.Race lookers passes)) = text [] refl
bar_content s said why b (Some (lines.Shape shape seed)) = text [] refl
bar_content s said why b (Some (lines.Reply vain)) = text [] refl
bar_content s said why b (Some (lines.Journal bucket count)) = text [] refl
bar_content s said why b (Some (lines.Packet number item)) = text [] refl
bar_content s said why b (Some lines.Cut) = text [] refl
bar_content s said why b (Some (lines.Clock n)) = text [] refl
bar_content s said why b None = text [] refl

link_content : (s : Sheet) (m : Mark) (t0 : ℕ) (found : Option Found) → IsContent (marks.link_to s m t0 found)
link_content s m t0 None = text [] refl
link_content s m t0 (Some f) = both (line_content (codes "link") false _ _ refl) (text (codes "\n") refl)

item_link_content : (s : Sheet) (m : Mark) (item : ItemLine) (all : List Line) (bs : List Bar) → IsContent (marks.item_link s m item all bs)
item_link_content s m (items.Looked l) all bs = link_content s m l.t0 (marks.found_by l.answer all bs)
item_link_content s m items.Skip all bs = text [] refl
item_link_content s m items.Short all bs = text [] refl

link_of_content : (s : Sheet) (m : Mark) (line : Option Line) (all : List Line) (bs : List Bar) → IsContent (marks.link_of s m line all bs)
link_of_content s m (Some (lines.Packet number item)) all bs = item_link_content s m item all bs
link_of_content s m (Some (lines.Race lookers passes)) all bs = text [] refl
link_of_content s m (Some (lines.Shape shape seed)) all bs = text [] refl
link_of_content s m (Some (lines.Reply vain)) all bs = text [] refl
link_of_content s m (Some (lines.Journal bucket count)) all bs = text [] refl
link_of_content s m (Some (lines.Life l)) all bs = text [] refl
link_of_content s m (Some lines.Cut) all bs = text [] refl
link_of_content s m (Some (lines.Clock n)) all bs = text [] refl
link_of_content s m None all bs = text [] refl

links_content : (s : Sheet) (all : List Line) (bs : List Bar) (ms : List Mark) → IsContent (marks.links s all bs ms)
unfolding links
links_content s all bs ms =
    either s.large _ _ (λ _. text [] refl)
    (λ _. each_content (marks.link s all bs) ms (λ m. link_of_content s m (slice_get all m.line) all bs))

word_content : (words : List (List ℕ)) (n : ℕ) → IsContent (marks.word words n)
word_content words n = both (text (codes " ") refl) (escaped_content (text_at words n))

more_content : (words : List (List ℕ)) (answer : Answer) → IsContent (marks.more_of words answer)
more_content words (answers.Found kind name) = word_content words 3
more_content words answers.None = text [] refl
more_content words (answers.Again bucket end) = both (word_content words 3) (word_content words 4)

more_words_content : (words : List (List ℕ)) (item : ItemLine) → IsContent (marks.more_words words item)
more_words_content words items.Skip = text [] refl
more_words_content words items.Short = text [] refl
more_words_content words (items.Looked l) = more_content words l.answer

label_content : (named : Bool) (said : List ℕ) (why : Option Why) (item : ItemLine) (at : Point) → IsContent (marks.label named said why item at)
label_content named said why item at =
    either named _ _
    (λ _. text_content (codes "name") (is_some why) at refl
    (both (both (both (both (word_content (words_of said) 0) (word_content (words_of said) 1)) (word_content (words_of said) 2)) (more_words_content (words_of said) item)) (why_content why)))
    (λ _. text [] refl)

answer_plain : (answer : Answer) → list_all is_plain (marks.answer_word answer) ≡ true
answer_plain (answers.Found kind name) = kind_plain kind
answer_plain answers.None = refl
answer_plain (answers.Again bucket end) = refl

shape_content : (s : Sheet) (wrong : Bool) (m : Mark) (item : ItemLine) → IsContent (marks.shape s wrong m item)
shape_content s wrong m items.Skip = rect_content (codes "passed") wrong _ refl
shape_content s wrong m items.Short = rect_content (codes "passed") wrong _ refl
shape_content s wrong m (items.Looked l) = rect_content _ wrong _ (answer_plain l.answer)

packet_content : (s : Sheet) (said : List ℕ) (why : Option Why) (m : Mark) (item : ItemLine) → IsContent (marks.packet s said why m item)
unfolding packet
packet_content s said why m item =
    both (group_content
    (both (both (title_content said) (shape_content s (is_some why) m item)) (label_content (bars.is_named s why) said why item _)))
    (text (codes "\n") refl)

list_name_content : (s : Sheet) (said : List ℕ) (m : Mark) → IsContent (marks.list_name s said m)
list_name_content s said m =
    either s.large _ _ (λ _. text [] refl)
    (λ _. text_content (codes "end") false _ refl (both (word_content (words_of said) 0) (word_content (words_of said) 1)))

list_content : (s : Sheet) (said : List ℕ) (m : Mark) (span : Option Span) → IsContent (marks.list_at s said m span)
unfolding list_group
list_content s said m None = text [] refl
list_content s said m (Some span) =
    both (group_content (both (both (title_content said) (rect_content (codes "dump") false _ refl)) (list_name_content s said m)))
    (text (codes "\n") refl)

mark_content : (s : Sheet) (said : List ℕ) (why : Option Why) (m : Mark) (line : Option Line) → IsContent (marks.mark_of s said why m line)
mark_content s said why m (Some (lines.Packet number item)) = packet_content s said why m item
mark_content s said why m (Some (lines.Reply vain)) = list_content s said m (list_span said)
mark_content s said why m (Some (lines.Race lookers passes)) = text [] refl
mark_content s said why m (Some (lines.Shape shape seed)) = text [] refl
mark_content s said why m (Some (lines.Journal bucket count)) = text [] refl
mark_content s said why m (Some (lines.Life l)) = text [] refl
mark_content s said why m (Some lines.Cut) = text [] refl
mark_content s said why m (Some (lines.Clock n)) = text [] refl
mark_content s said why m None = text [] refl

style_content : IsContent frame.style
unfolding style light dark
style_content = filled (codes "style") [] refl none_are (text (light ++ dark) refl)

hatching_content : IsContent frame.hatching
unfolding hatching
hatching_content =
    filled (codes "pattern")
    (word (codes "id") (codes "changing") ∷ word (codes "width") (codes "6") ∷ word (codes "height") (codes "6") ∷ word (codes "patternUnits") (codes "userSpaceOnUse") ∷ [])
    refl (record {
      are = (record { name = refl; value = refl }, (record { name = refl; value = refl }, (record { name = refl; value = refl }, (record { name = refl; value = refl }, tt))));
      differ = ((refl, (refl, (refl, tt))), ((refl, (refl, tt)), ((refl, tt), (tt, tt))));
    })
    (empty (codes "path") (word (codes "class") (codes "hatch") ∷ word (codes "d") (codes "M-1 1l2 -2M0 6l6 -6M5 7l2 -2") ∷ []) refl (record {
      are = (record { name = refl; value = refl }, (record { name = refl; value = refl }, tt));
      differ = ((refl, tt), (tt, tt));
    }))

verdict_content : (verdict : Verdict) → IsContent (frame.verdict_words verdict)
unfolding refuted_at
verdict_content (verdicts.Yes lives packets clock) = text (codes ": passes the audit") refl
verdict_content (verdicts.No n why) =
    both (both (text refuted_at refl) (decimal_content n)) (both (text (codes ", ") refl) (why_word_content why))

heading_content : (n : Counts) (verdict : Verdict) → IsContent (frame.heading n verdict)
unfolding heading counted
heading_content n verdict =
    both
    (both
    (both (both (text (codes "Race: lives ") refl) (decimal_content n.lives)) (both (text (codes ", packets ") refl) (decimal_content n.packets)))
    (both (text (codes ", clock ") refl) (decimal_content n.clock)))
    (verdict_content verdict)

note_content : (s : Sheet) → IsContent (frame.large_note s)
unfolding large_note large_words
note_content s = either s.large _ _ (λ _. text_content (codes "name") false _ refl (text large_words refl)) (λ _. text [] refl)

page_content : (s : Sheet) → IsContent (frame.page s)
unfolding page
page_content s = rect_content (codes "page") false _ refl

header_content : (s : Sheet) (n : Counts) (texts : List (List ℕ)) (verdict : Verdict) → IsContent (frame.header s n texts verdict)
unfolding header window_title page_title first_lines
header_content s n texts verdict =
    both (both (both (both (both (both (both (filled (codes "title") [] refl none_are (heading_content n verdict)) style_content) hatching_content) (page_content s))
    (text_content (codes "head") (frame.is_refuted verdict) _ refl (heading_content n verdict)))
    (text_content (codes "mono") false _ refl (both (both (escaped_content (text_at texts 0)) (text (codes "; ") refl)) (escaped_content (text_at texts 1)))))
    (note_content s))
    (text (codes "\n") refl)

tick_content : (s : Sheet) (n : ℕ) → IsContent (frame.tick s n)
unfolding tick
tick_content s n = both (line_content (codes "grid") false _ _ refl) (text_content (codes "tick") false _ refl (decimal_content n))

ticks_content : (s : Sheet) (k : ℕ) → IsContent (frame.ticks s k)
ticks_content s zero = text [] refl
ticks_content s (suc k) = both (ticks_content s k) (tick_content s _)

clock_content : (s : Sheet) → IsContent (frame.clock s)
unfolding clock
clock_content s =
    both (both (text_content (codes "end") false _ refl (text (codes "clock") refl)) (ticks_content s (s.clock / frame.unit s + 1))) (text (codes "\n") refl)

wrong_content : (s : Sheet) (n : ℕ) (why : Why) → IsContent (frame.wrong_clock s n why)
unfolding wrong_clock
wrong_content s n why =
    both (both (line_content (codes "wrong") true _ _ refl)
    (text_content (codes "name") true _ refl (both (both (text (codes "clock ") refl) (decimal_content n)) (why_content (Some why)))))
    (text (codes "\n") refl)

fault_content : (s : Sheet) (line : Option Line) (why : Option Why) → IsContent (frame.clock_fault s line why)
fault_content s (Some (lines.Clock n)) (Some why) = wrong_content s n why
fault_content s (Some (lines.Clock n)) None = text [] refl
fault_content s (Some (lines.Packet number item)) why = text [] refl
fault_content s (Some (lines.Reply vain)) why = text [] refl
fault_content s (Some (lines.Race lookers passes)) why = text [] refl
fault_content s (Some (lines.Shape shape seed)) why = text [] refl
fault_content s (Some (lines.Journal bucket count)) why = text [] refl
fault_content s (Some (lines.Life l)) why = text [] refl
fault_content s (Some lines.Cut) why = text [] refl
fault_content s None why = text [] refl

last_fault_content : (s : Sheet) (all : List Line) (verdict : Verdict) → IsContent (frame.last_fault s all verdict)
unfolding last_fault
last_fault_content s all verdict = fault_content s _ _

command_content : (s : Sheet) (at : ℕ) (said : List ℕ) (line : Line) → IsContent (frame.command s at said line)
command_content s at said (lines.Reply vain) =
    both (text_content (codes "mono") false _ refl (escaped_content said)) (text (codes "\n") refl)
command_content s at said (lines.Packet number item) = text [] refl
command_content s at said (lines.Race lookers passes) = text [] refl
command_content s at said (lines.Shape shape seed) = text [] refl
command_content s at said (lines.Journal bucket count) = text [] refl
command_content s at said (lines.Life l) = text [] refl
command_content s at said lines.Cut = text [] refl
command_content s at said (lines.Clock n) = text [] refl

command_lines_content : (s : Sheet) (texts : List (List ℕ)) (at : ℕ) (all : List Line) → IsContent (frame.commands_from s texts at all)
command_lines_content s texts at [] = text [] refl
command_lines_content s texts at (line ∷ rest) = both (command_content s at (text_at texts at) line) (command_lines_content s texts (at + 1) rest)

commands_content : (s : Sheet) (texts : List (List ℕ)) (all : List Line) → IsContent (frame.commands s texts all)
unfolding commands
commands_content s texts all =
    either s.large _ _ (λ _. text [] refl)
    (λ _. both (both (text_content (codes "name") false _ refl (text (codes "commands and replies") refl)) (text (codes "\n") refl))
    (command_lines_content s texts 0 all))

sample_content : (s : Sheet) (x : ℕ) (class : List ℕ) (kind : Kind) (said : List ℕ) → list_all is_plain class ≡ true → list_all is_plain said ≡ true → IsContent (frame.sample s x class kind said)
unfolding sample
sample_content s x class kind said h k = both (rect_content class false _ h) (text_content (codes "name") false _ refl (plain_content said k))

legend_content : (s : Sheet) → IsContent (frame.legend s)
unfolding legend
legend_content s =
    both (both (both (both (both (both (both (both (both (sample_content s 20 _ _ _ refl refl) (sample_content s 134 _ _ _ refl refl)) (sample_content s 248 _ _ _ refl refl)) (sample_content s 352 _ _ _ refl refl))
    (sample_content s 456 _ _ _ refl refl)) (sample_content s 576 _ _ _ refl refl)) (sample_content s 680 _ _ _ refl refl)) (rect_content (codes "listen") false _ refl)) (sample_content s 764 _ _ _ refl refl)) (text (codes "\n") refl)

bar_is : (s : Sheet) (texts : List (List ℕ)) (all : List Line) (verdict : Verdict) (b : Bar) → IsContent (bars.bar s texts all verdict b)
unfolding bar
bar_is s texts all verdict b = bar_content s (text_at texts b.line) (bars.why_at verdict b.line) b (slice_get all b.line)

mark_is : (s : Sheet) (texts : List (List ℕ)) (all : List Line) (verdict : Verdict) (m : Mark) → IsContent (marks.mark s texts all verdict m)
unfolding mark
mark_is s texts all verdict m = mark_content s (text_at texts m.line) (bars.why_at verdict m.line) m (slice_get all m.line)

content_is : (s : Sheet) (texts : List (List ℕ)) (all : List Line) (verdict : Verdict) (bs : List Bar) (ms : List Mark) → IsContent (picture.content s texts all verdict bs ms)
unfolding front back
content_is s texts all verdict bs ms =
    both (both (both (both (both (both (header_content s (picture.counts_of all) texts verdict) (clock_content s)) (last_fault_content s all verdict)) (links_content s all bs ms))
    (each_content (bars.bar s texts all verdict) bs (λ b. bar_is s texts all verdict b)))
    (each_content (marks.mark s texts all verdict) ms (λ m. mark_is s texts all verdict m)))
    (both (commands_content s texts all) (legend_content s))

drawing_is : (s : Sheet) (texts : List (List ℕ)) (all : List Line) (verdict : Verdict) (bs : List Bar) (ms : List Mark) → IsDocument (picture.drawing_on s texts all verdict bs ms)
unfolding drawing_on svg_tag extent
drawing_is s texts all verdict bs ms =
    record {
      name = codes "svg";
      attributes = namespace ∷ number (codes "width") (width s) ∷ number (codes "height") (height s) ∷ view_box (width s) (height s) ∷ [];
      content = picture.content s texts all verdict bs ms;
      named = refl;
      well = record {
        are = (
          record { name = refl; value = refl },
          (
            number_is (codes "width") (width s) refl,
            (
              number_is (codes "height") (height s) refl,
              (
                record {
                  name = refl;
                  value = append_plain (codes "0 0 " ++ decimal (width s) ++ codes " ") (decimal (height s))
                      (append_plain (codes "0 0 " ++ decimal (width s)) (codes " ") (append_plain (codes "0 0 ") (decimal (width s)) refl (decimal_plain (width s))) refl)
                      (decimal_plain (height s));
                },
                tt,
              ),
            ),
          ),
        );
        differ = ((refl, (refl, (refl, tt))), ((refl, (refl, tt)), ((refl, tt), (tt, tt))));
      };
      within = content_is s texts all verdict bs ms;
      spelled = refl;
    }

pub drawn_is : (texts : List (List ℕ)) (all : List Line) (verdict : Verdict) (places : List Place) → IsDocument (picture.drawing texts all verdict places)
unfolding drawing
drawn_is texts all verdict places = drawing_is _ texts all verdict _ _
