-- The words of lines whose numbers are in range are plain, and these lines'.
use Rattle.std.proofs.Common.{◌≡◌, ℕ, ◌<◌, ◌≤◌, ◌^◌, ◌==◌, Bool, true, false, List, [], ◌∷◌, ◌++◌, map, bytes_eq, codes, decimal, Option, None, Some, if◌then◌else◌, refl, ◌∙◌, arith}
use Rattle.std.specs.List.{list_all, list_any}
use Rattle.std.proofs.lemmas.List.Folds.{list_all-append}
use Rattle.std.proofs.lemmas.Bool.{and_from}
use Rattle.list_words.specs.Lists.{Each}
use Rattle.inet_io.specs.Texts.{end_text}
use Rattle.sock_card.specs.declared.card.Card.{Card}
use Rattle.sock_card.specs.declared.card.Kind.{Kind}
use Rattle.sock_card.specs.declared.card.Kind.TheVariants as kinds
use Rattle.sock_card.specs.declared.card.Packet.{Packet}
use Rattle.chain_book.specs.declared.shape.Shape.{Shape}
use Rattle.book_audit.specs.declared.printed.Span.{Span}
use Rattle.book_audit.specs.declared.printed.PrintedEnd.{PrintedEnd}
use Rattle.book_audit.specs.declared.printed.PrintedEnd.TheVariants as ends
use Rattle.record_reader.specs.declared.line.Name.{Name}
use Rattle.record_reader.specs.declared.line.Answer.{Answer}
use Rattle.record_reader.specs.declared.line.Answer.TheVariants as answers
use Rattle.record_reader.specs.declared.line.LookLine.{LookLine}
use Rattle.record_reader.specs.declared.line.ItemLine.{ItemLine}
use Rattle.record_reader.specs.declared.line.ItemLine.TheVariants as items
use Rattle.record_reader.specs.declared.line.LifeLine.{LifeLine}
use Rattle.record_reader.specs.declared.line.Line.{Line}
use Rattle.record_reader.specs.declared.line.Line.TheVariants as lines
use Rattle.record_reader.specs.Names.{NameFits, name_text, label_of}
use Rattle.chain_book.specs.Shapes.{ShapeFits}
use Rattle.record_reader.specs.Forms.{AnswerFits, CardFits, EndFits, ItemFits, LifeFits, LineFits, LookFits, PacketFits, SpanFits, UnhashFits, answer_words, card_words, dev_words, end_words, is_plain, item_words, kind_word, life_words, look_words, net_words, packet_words, shape_words, span_words, tells_vain, unhash_words, verbs}
use Rattle.race_laws.proofs.audits.Plain.{plain_front, plain_clear, decimal_plain, end_plain, label_plain}
use Rattle.race_laws.proofs.audits.Rows.{IsRow, EachIsRow}
use Rattle.race_laws.proofs.audits.Lines.{row}

record ArePlain (words : List (List ℕ)) : Type 0 where
  each : list_all is_plain words ≡ true

none_plain : ArePlain []
none_plain = record { each = refl }

and_words : (w : List ℕ) (ws : List (List ℕ)) → is_plain w ≡ true → ArePlain ws → ArePlain (w ∷ ws)
and_words w ws p q = record { each = and_from (is_plain w) (list_all is_plain ws) p q.each }

both_plain : (xs ys : List (List ℕ)) → ArePlain xs → ArePlain ys → ArePlain (xs ++ ys)
both_plain xs ys p q = record { each = list_all-append is_plain xs ys ∙ and_from (list_all is_plain xs) (list_all is_plain ys) p.each q.each }

and_number : (n : ℕ) (ws : List (List ℕ)) → n < 2 ^ 64 → ArePlain ws → ArePlain (decimal n ∷ ws)
and_number n ws f q = and_words (decimal n) ws (decimal_plain n f) q

name_is_plain : (name : Name) → NameFits name → is_plain (name_text name) ≡ true
unfolding name_text
name_is_plain name f =
    plain_front (decimal name.section ++ codes ".") (label_of name) (plain_front (decimal name.section) (codes ".") (decimal_plain name.section (omega (arith, f.section.1))) refl) (plain_clear (label_of name) (label_plain (label_of name) f.label))

kind_plain : (k : Kind) → is_plain (kind_word k) ≡ true
kind_plain kinds.Full = refl
kind_plain kinds.TimeWait = refl
kind_plain kinds.Listen = refl
kind_plain kinds.Request = refl

net_by : (b : Bool) (net : ℕ) → net < 16 → ArePlain (if b then [] else codes "net" ∷ decimal net ∷ [])
net_by true net f = none_plain
net_by false net f = and_words (codes "net") (decimal net ∷ []) refl (and_number net [] (omega (arith, f)) none_plain)

dev_plain : (dev net : ℕ) → dev < 2 ^ 16 → net < 16 → ArePlain (dev_words dev net)
dev_plain dev net f g = and_words (codes "dev") (decimal dev ∷ net_words net) refl (and_number dev (net_words net) (omega (arith, f)) (net_by (net == 0) net g))

card_plain : (name : Name) (c : Card) → NameFits name → CardFits c → ArePlain (card_words name c)
card_plain name c n f =
    and_words (kind_word c.kind) _ (kind_plain c.kind) (and_words (name_text name) _ (name_is_plain name n)
    (and_words (end_text c.local c.lport) _ (end_plain c.local c.lport f.local f.lport) (and_words (end_text c.remote c.rport) _ (end_plain c.remote c.rport f.remote f.rport) (dev_plain c.dev c.net f.dev f.net))))

-- a section's number, a verb and a word, and what came of it
pub reply_row : (n : ℕ) (verb word : List ℕ) (rest : List (List ℕ)) (vain : Bool) → 1 ≤ n → n ≤ 64 → list_any (bytes_eq verb) verbs ≡ true → is_plain verb ≡ true → list_all is_plain (word ∷ rest) ≡ true → vain ≡ tells_vain rest
    → IsRow (record { words = decimal n ∷ verb ∷ word ∷ rest; line = lines.Reply vain })
reply_row n verb word rest vain low high known clear plain told = record {
  some = omega arith;
  plain = and_from (is_plain (decimal n)) (list_all is_plain (verb ∷ word ∷ rest)) (decimal_plain n (omega (arith, high))) (and_from (is_plain verb) (list_all is_plain (word ∷ rest)) clear plain);
  form = record { section = n; verb = verb; word = word; rest = rest; spelled = refl; in_range = (low, high); known = known; plain = plain; told = told };
}

-- a card's own words
pub words_plain : (name : Name) (c : Card) → NameFits name → CardFits c → list_all is_plain (card_words name c) ≡ true
words_plain name c n f = (card_plain name c n f).each

unhash_plain : (u : Option Span) → UnhashFits u → ArePlain (unhash_words u)
unhash_plain None f = record { each = refl }
unhash_plain (Some s) f = and_words (codes "unhash") _ refl (and_number s.begin (decimal s.end ∷ []) f.0 (and_number s.end [] f.1 none_plain))

span_plain : (s : Span) (u : Option Span) → SpanFits s → UnhashFits u → ArePlain (span_words s u)
span_plain s u f g = and_words (codes "hash") _ refl (and_number s.begin _ f.0 (and_number s.end (unhash_words u) f.1 (unhash_plain u g)))

life_plain : (l : LifeLine) → LifeFits l → ArePlain (life_words l)
life_plain l f =
    and_words (codes "life") _ refl (and_number l.bucket _ f.bucket (and_number l.slot _ f.slot
    (both_plain (card_words l.name l.card) (span_words l.hash l.unhash) (card_plain l.name l.card f.name f.card) (span_plain l.hash l.unhash f.hash f.unhash))))

end_words_plain : (e : PrintedEnd) (more : List (List ℕ)) → EndFits e → ArePlain more → ArePlain (end_words e more)
end_words_plain (ends.Foreign n) more f p = and_words (codes "foreign") _ refl (and_number n more f p)
end_words_plain (ends.Dead n) more f p = and_words (codes "dead") _ refl (and_number n more f p)
end_words_plain (ends.Changed n) more f p = and_words (codes "changed") _ refl (and_number n more f p)
end_words_plain (ends.Long n) more f p = and_words (codes "long") _ refl (and_number n more f p)

answer_plain : (a : Answer) (more : List (List ℕ)) → AnswerFits a → ArePlain more → ArePlain (answer_words a more)
answer_plain (answers.Found kind name) more f p = and_words (kind_word kind) _ (kind_plain kind) (and_words (name_text name) more (name_is_plain name f) p)
answer_plain answers.None more f p = and_words (codes "none") more refl p
answer_plain (answers.Again bucket end) more f p =
    and_words (codes "again") _ refl (end_words_plain end (codes "in" ∷ decimal bucket ∷ more) f.1 (and_words (codes "in") _ refl (and_number bucket more f.0 p)))

packet_plain : (p : Packet) → PacketFits p → ArePlain (packet_words p)
packet_plain p f =
    and_words (codes "from") _ refl (and_words (end_text p.src p.sport) _ (end_plain p.src p.sport f.src f.sport)
    (and_words (codes "to") _ refl (and_words (end_text p.dst p.dport) _ (end_plain p.dst p.dport f.dst f.dport) (dev_plain p.dev p.net f.dev f.net))))

look_plain : (l : LookLine) → LookFits l → ArePlain (look_words l)
look_plain l f = answer_plain l.answer _ f.answer
    (and_words (codes "t0") _ refl (and_number l.t0 _ f.t0 (and_words (codes "t1") _ refl (and_number l.t1 _ f.t1 (packet_plain l.packet f.packet)))))

item_plain : (i : ItemLine) → ItemFits i → ArePlain (item_words i)
item_plain items.Skip f = record { each = refl }
item_plain items.Short f = record { each = refl }
item_plain (items.Looked l) f = look_plain l f

shape_plain : (s : Shape) (seed : ℕ) → ShapeFits s → seed < 2 ^ 32 → ArePlain (shape_words s seed)
shape_plain s seed f l =
    and_words (codes "shape") _ refl (and_number s.slots _ (omega (arith, f.slots.1)) (and_number s.bind _ (omega (arith, f.bind.1)) (and_number s.hash _ (omega (arith, f.hash.1)) (and_number s.listen _ (omega (arith, f.listen.1))
    (and_words (codes "seed") _ refl (and_number seed [] (omega (arith, l)) none_plain))))))

-- a line that isn't a command's
abbrev pub TellsWords : Line → Type 0
TellsWords (lines.Reply vain) = ⊥
TellsWords _ = Unit {0}

-- a line whose numbers are in range
pub line_row : (line : Line) → TellsWords line → LineFits line → IsRow (row line)
line_row (lines.Race lookers passes) t f = record {
  some = omega arith;
  plain = (and_words (codes "race") _ refl (and_words (codes "lookers") _ refl (and_number lookers _ f.0 (and_words (codes "passes") _ refl (and_number passes [] f.1 none_plain))))).each;
  form = (refl, f);
}
line_row (lines.Shape shape seed) t f = record { some = omega arith; plain = (shape_plain shape seed f.0 f.1).each; form = (refl, f) }
line_row (lines.Reply vain) t f = absurd t
line_row (lines.Journal bucket count) t f = record {
  some = omega arith;
  plain = (and_words (codes "journal") _ refl (and_number bucket _ f.0 (and_number count [] f.1 none_plain))).each;
  form = (refl, f);
}
line_row (lines.Life l) t f = record { some = omega arith; plain = (life_plain l f).each; form = (refl, f) }
line_row (lines.Packet number item) t f = record {
  some = omega arith;
  plain = (and_words (codes "packet") _ refl (and_number number _ f.0 (item_plain item f.1))).each;
  form = (refl, f);
}
line_row lines.Cut t f = record { some = omega arith; plain = refl; form = (refl, f) }
line_row (lines.Clock clock) t f = record { some = omega arith; plain = (and_words (codes "clock") _ refl (and_number clock [] f none_plain)).each; form = (refl, f) }

abbrev pub IsInRange : Line → Type 0
IsInRange line = TellsWords line × LineFits line

pub line_rows : (all : List Line) → Each IsInRange all → EachIsRow (map row all)
line_rows [] h = tt
line_rows (line ∷ rest) h = (line_row line h.0.0 h.0.1, line_rows rest h.1)
