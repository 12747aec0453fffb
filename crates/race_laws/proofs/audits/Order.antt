-- The lines of a race are in their order, and the clock's is the last.
use Rattle.std.proofs.Common.{◌≡◌, ℕ, ◌+◌, ◌<◌, ◌≤◌, ◌==◌, nat_lt, nat_le, Bool, true, false, List, [], ◌∷◌, ◌++◌, append_assoc, length, map, Option, None, Some, if◌then◌else◌, IsTrue, refl, sym, subst, arith}
use Rattle.std.proofs.lemmas.Bool.{lt-ltb, le-leb, eq-eqb, or_left}
use Rattle.std.specs.List.{flat_map}
use Rattle.list_words.specs.Lists.{Each, Pairs}
use Rattle.sock_card.specs.declared.card.Card.{Card}
use Rattle.list_words.proofs.EachLemmas.{each_weaken, each_of_all}
use Rattle.flat_list.specs.declared.command.Command.{Command}
use Rattle.race_book.specs.declared.lives.Life.{Life}
use Rattle.race_book.specs.Listed.{lives_of}
use Rattle.race_record.specs.declared.record.Looked.{Looked}
use Rattle.race_record.specs.Laws.{drew_for}
use Rattle.race_record.specs.Record.{Race, Step}
use Rattle.record_reader.specs.declared.line.Line.{Line}
use Rattle.record_reader.specs.declared.line.Line.TheVariants as lines
use Rattle.record_reader.specs.declared.line.ItemLine.{ItemLine}
use Rattle.record_reader.specs.Record.{AreInOrder, may_follow, rank}
use Rattle.record_reader.proofs.Reading.{last_from}
use Rattle.race_laws.proofs.audits.Lines.{cut_lines, item_line, journals_from, later_lines, life_line, life_lines, listed_cards, packets_from, race_lines, reply_lines, step_lines}

-- behind `race`, and of a kind before that one
record Before (k : ℕ) (b : Line) : Type 0 where
  later : 0 < rank b
  earlier : rank b < k

-- what may come next is in order, behind any such line
abbrev GoesOn : (Line → Type 0) → List Line → Type 0
GoesOn May rest = (b : Line) → May b → AreInOrder (Some b) rest

reply_may : (b : Line) (vain : Bool) → Before 3 b → IsTrue (may_follow (Some b) (lines.Reply vain))
reply_may (lines.Race m n) vain h = absurd (omega (arith, h.later))
reply_may (lines.Shape s n) vain h = refl
reply_may (lines.Reply v) vain h = refl
reply_may (lines.Journal k c) vain h = absurd (omega (arith, h.earlier))
reply_may (lines.Life l) vain h = absurd (omega (arith, h.earlier))
reply_may (lines.Packet n i) vain h = absurd (omega (arith, h.earlier))
reply_may lines.Cut vain h = absurd (omega (arith, h.earlier))
reply_may (lines.Clock c) vain h = absurd (omega (arith, h.earlier))

items_order : (cards : List Card) (rest : List Line) → GoesOn (Before 3) rest → GoesOn (Before 3) (map (λ (c : Card). lines.Reply false) cards ++ rest)
items_order [] rest k b h = k b h
items_order (c ∷ cards) rest k b h = (reply_may b false h, items_order cards rest k (lines.Reply false) (record { later = omega arith; earlier = omega arith }))

step_order : (s : Step) (rest : List Line) → GoesOn (Before 3) rest → GoesOn (Before 3) (step_lines s ++ rest)
step_order s rest k b h =
    (reply_may b _ h, items_order (listed_cards s) rest k (lines.Reply (drew_for s.reply)) (record { later = omega arith; earlier = omega arith }))

steps_order : (steps : List Step) (rest : List Line) → GoesOn (Before 3) rest → GoesOn (Before 3) (flat_map step_lines steps ++ rest)
steps_order [] rest k b h = k b h
steps_order (s ∷ steps) rest k b h =
    subst (AreInOrder (Some b)) (sym (append_assoc (step_lines s) (flat_map step_lines steps) rest)) (step_order s (flat_map step_lines steps ++ rest) (steps_order steps rest k) b h)

replies_order : (sections : List (List Step)) (rest : List Line) → GoesOn (Before 3) rest → GoesOn (Before 3) (reply_lines sections ++ rest)
replies_order [] rest k = k
replies_order (steps ∷ more) rest k = λ b h.
    subst (AreInOrder (Some b)) (sym (append_assoc (flat_map step_lines steps) (reply_lines more) rest)) (steps_order steps (reply_lines more ++ rest) (replies_order more rest k) b h)

-- behind that line the journal of the bucket may come
abbrev JournalMay : ℕ → Line → Type 0
JournalMay bucket (lines.Journal k count) = k < bucket
JournalMay bucket b = Before 3 b

journal_may : (bucket count : ℕ) (b : Line) → JournalMay bucket b → IsTrue (may_follow (Some b) (lines.Journal bucket count))
journal_may bucket count (lines.Race m n) h = absurd (omega (arith, h.later))
journal_may bucket count (lines.Shape s n) h = refl
journal_may bucket count (lines.Reply v) h = refl
journal_may bucket count (lines.Journal k c) h = or_left (nat_lt k bucket) _ (lt-ltb k bucket h)
journal_may bucket count (lines.Life l) h = absurd (omega (arith, h.earlier))
journal_may bucket count (lines.Packet n i) h = absurd (omega (arith, h.earlier))
journal_may bucket count lines.Cut h = absurd (omega (arith, h.earlier))
journal_may bucket count (lines.Clock c) h = absurd (omega (arith, h.earlier))

journal_later : (bucket : ℕ) (b : Line) → JournalMay bucket b → JournalMay (bucket + 1) b
journal_later bucket (lines.Journal k c) h = omega (arith, h)
journal_later bucket (lines.Race m n) h = h
journal_later bucket (lines.Shape s n) h = h
journal_later bucket (lines.Reply v) h = h
journal_later bucket (lines.Life l) h = h
journal_later bucket (lines.Packet n i) h = h
journal_later bucket lines.Cut h = h
journal_later bucket (lines.Clock c) h = h

wider : (j k : ℕ) (b : Line) → j ≤ k → Before j b → Before k b
wider j k b l h = record { later = h.later; earlier = omega (arith, h.earlier, l) }

journals_over : (bucket : ℕ) (b : Line) → JournalMay bucket b → Before 4 b
journals_over bucket (lines.Journal k c) h = record { later = omega arith; earlier = omega arith }
journals_over bucket (lines.Race m n) h = wider 3 4 (lines.Race m n) (omega arith) h
journals_over bucket (lines.Shape s n) h = wider 3 4 (lines.Shape s n) (omega arith) h
journals_over bucket (lines.Reply v) h = wider 3 4 (lines.Reply v) (omega arith) h
journals_over bucket (lines.Life l) h = wider 3 4 (lines.Life l) (omega arith) h
journals_over bucket (lines.Packet n i) h = wider 3 4 (lines.Packet n i) (omega arith) h
journals_over bucket lines.Cut h = wider 3 4 lines.Cut (omega arith) h
journals_over bucket (lines.Clock c) h = wider 3 4 (lines.Clock c) (omega arith) h

journals_start : (bucket : ℕ) (b : Line) → Before 3 b → JournalMay bucket b
journals_start bucket (lines.Journal k c) h = absurd (omega (arith, h.earlier))
journals_start bucket (lines.Race m n) h = h
journals_start bucket (lines.Shape s n) h = h
journals_start bucket (lines.Reply v) h = h
journals_start bucket (lines.Life l) h = h
journals_start bucket (lines.Packet n i) h = h
journals_start bucket lines.Cut h = h
journals_start bucket (lines.Clock c) h = h

journals_by : (none : Bool) (bucket count : ℕ) (more rest : List Line) → GoesOn (JournalMay (bucket + 1)) (more ++ rest) → GoesOn (JournalMay bucket) ((if none then more else lines.Journal bucket count ∷ more) ++ rest)
journals_by true bucket count more rest k b h = k b (journal_later bucket b h)
journals_by false bucket count more rest k b h = (journal_may bucket count b h, k (lines.Journal bucket count) (omega arith))

journals_order : (bucket : ℕ) (counts : List ℕ) (rest : List Line) → GoesOn (Before 4) rest → GoesOn (JournalMay bucket) (journals_from bucket counts ++ rest)
journals_order bucket [] rest k b h = k b (journals_over bucket b h)
journals_order bucket (count ∷ more) rest k b h =
    journals_by (count == 0) bucket count (journals_from (bucket + 1) more) rest (journals_order (bucket + 1) more rest k) b h

-- behind that line a life may come whose hash begins there
abbrev LifeMay : Line → ℕ → Type 0
LifeMay (lines.Life l) n = l.hash.begin ≤ n
LifeMay b n = Before 4 b

life_may : (b : Line) (sections : List (List Command)) (l : Life) → LifeMay b l.hash.begin → IsTrue (may_follow (Some b) (lines.Life (life_line sections l)))
life_may (lines.Race m n) sections l h = absurd (omega (arith, h.later))
life_may (lines.Shape s n) sections l h = refl
life_may (lines.Reply v) sections l h = refl
life_may (lines.Journal k c) sections l h = refl
life_may (lines.Life m) sections l h = or_left (nat_le m.hash.begin l.hash.begin) _ (le-leb m.hash.begin l.hash.begin h)
life_may (lines.Packet n i) sections l h = absurd (omega (arith, h.earlier))
life_may lines.Cut sections l h = absurd (omega (arith, h.earlier))
life_may (lines.Clock c) sections l h = absurd (omega (arith, h.earlier))

lives_start : (b : Line) (n : ℕ) → Before 4 b → LifeMay b n
lives_start (lines.Life m) n h = absurd (omega (arith, h.earlier))
lives_start (lines.Race m k) n h = h
lives_start (lines.Shape s k) n h = h
lives_start (lines.Reply v) n h = h
lives_start (lines.Journal k c) n h = h
lives_start (lines.Packet k i) n h = h
lives_start lines.Cut n h = h
lives_start (lines.Clock c) n h = h

abbrev Up : Life → Life → Type 0
Up l m = l.hash.begin < m.hash.begin

lives_order : (sections : List (List Command)) (lives : List Life) (rest : List Line) → Pairs Up lives → GoesOn (Before 5) rest → (b : Line) → Before 5 b → Each (λ (l : Life). LifeMay b l.hash.begin) lives → AreInOrder (Some b) (life_lines sections lives ++ rest)
lives_order sections [] rest p k b h m = k b h
lives_order sections (l ∷ lives) rest p k b h m = (
  life_may b sections l m.0,
  lives_order sections lives rest p.1 k (lines.Life (life_line sections l)) (record { later = omega arith; earlier = omega arith })
      (each_weaken (Up l) (λ (x : Life). l.hash.begin ≤ x.hash.begin) lives (λ x lt. omega (arith, lt)) p.0),
)

-- behind that line the packet of that number may come
abbrev PacketMay : ℕ → Line → Type 0
PacketMay n (lines.Packet k item) = n ≡ k + 1
PacketMay n b = Before 5 b × (n ≡ 1)

first_packet : (b : Line) (n : ℕ) (item : ItemLine) → n ≡ 1 → IsTrue (may_follow (Some b) (lines.Packet 1 item)) → IsTrue (may_follow (Some b) (lines.Packet n item))
first_packet b n item e h = subst (λ m. IsTrue (may_follow (Some b) (lines.Packet m item))) (sym e) h

packet_may : (n : ℕ) (item : ItemLine) (b : Line) → PacketMay n b → IsTrue (may_follow (Some b) (lines.Packet n item))
packet_may n item (lines.Race m k) h = absurd (omega (arith, h.0.later))
packet_may n item (lines.Shape s k) h = first_packet (lines.Shape s k) n item h.1 refl
packet_may n item (lines.Reply v) h = first_packet (lines.Reply v) n item h.1 refl
packet_may n item (lines.Journal k c) h = first_packet (lines.Journal k c) n item h.1 refl
packet_may n item (lines.Life l) h = first_packet (lines.Life l) n item h.1 refl
packet_may n item (lines.Packet k i) h = or_left (n == k + 1) _ (eq-eqb n (k + 1) h)
packet_may n item lines.Cut h = absurd (omega (arith, h.0.earlier))
packet_may n item (lines.Clock c) h = absurd (omega (arith, h.0.earlier))

packets_start : (b : Line) → Before 5 b → PacketMay 1 b
packets_start (lines.Packet k i) h = absurd (omega (arith, h.earlier))
packets_start (lines.Race m k) h = (h, refl)
packets_start (lines.Shape s k) h = (h, refl)
packets_start (lines.Reply v) h = (h, refl)
packets_start (lines.Journal k c) h = (h, refl)
packets_start (lines.Life l) h = (h, refl)
packets_start lines.Cut h = (h, refl)
packets_start (lines.Clock c) h = (h, refl)

packets_over : (n : ℕ) (b : Line) → PacketMay n b → Before 6 b
packets_over n (lines.Packet k i) h = record { later = omega arith; earlier = omega arith }
packets_over n (lines.Race m k) h = wider 5 6 (lines.Race m k) (omega arith) h.0
packets_over n (lines.Shape s k) h = wider 5 6 (lines.Shape s k) (omega arith) h.0
packets_over n (lines.Reply v) h = wider 5 6 (lines.Reply v) (omega arith) h.0
packets_over n (lines.Journal k c) h = wider 5 6 (lines.Journal k c) (omega arith) h.0
packets_over n (lines.Life l) h = wider 5 6 (lines.Life l) (omega arith) h.0
packets_over n lines.Cut h = wider 5 6 lines.Cut (omega arith) h.0
packets_over n (lines.Clock c) h = wider 5 6 (lines.Clock c) (omega arith) h.0

packets_order : (sections : List (List Command)) (n : ℕ) (looked : List Looked) (rest : List Line) → GoesOn (Before 6) rest → GoesOn (PacketMay n) (packets_from sections n looked ++ rest)
packets_order sections n [] rest k b h = k b (packets_over n b h)
packets_order sections n (looked ∷ more) rest k b h = (
  packet_may n (item_line sections looked) b h,
  packets_order sections (n + 1) more rest k (lines.Packet n (item_line sections looked)) refl,
)

cut_may : (b : Line) → Before 6 b → IsTrue (may_follow (Some b) lines.Cut)
cut_may (lines.Race m n) h = absurd (omega (arith, h.later))
cut_may (lines.Shape s n) h = refl
cut_may (lines.Reply v) h = refl
cut_may (lines.Journal k c) h = refl
cut_may (lines.Life l) h = refl
cut_may (lines.Packet n i) h = refl
cut_may lines.Cut h = absurd (omega (arith, h.earlier))
cut_may (lines.Clock c) h = absurd (omega (arith, h.earlier))

cut_order : (cut : Bool) (rest : List Line) → GoesOn (Before 7) rest → GoesOn (Before 6) (cut_lines cut ++ rest)
cut_order true rest k b h = (cut_may b h, k lines.Cut (record { later = omega arith; earlier = omega arith }))
cut_order false rest k b h = k b (wider 6 7 b (omega arith) h)

clock_may : (clock : ℕ) (b : Line) → Before 7 b → IsTrue (may_follow (Some b) (lines.Clock clock))
clock_may clock (lines.Race m n) h = absurd (omega (arith, h.later))
clock_may clock (lines.Shape s n) h = refl
clock_may clock (lines.Reply v) h = refl
clock_may clock (lines.Journal k c) h = refl
clock_may clock (lines.Life l) h = refl
clock_may clock (lines.Packet n i) h = refl
clock_may clock lines.Cut h = refl
clock_may clock (lines.Clock c) h = absurd (omega (arith, h.earlier))

pub lines_order : (sections : List (List Command)) (race : Race) → Pairs Up (lives_of race.book) → AreInOrder None (race_lines sections race)
lines_order sections race up =
    let clock : GoesOn (Before 7) (lines.Clock race.clock ∷ []) = λ b h. (clock_may race.clock b h, tt) in
    let cut : GoesOn (Before 6) (cut_lines race.cut ++ lines.Clock race.clock ∷ []) = cut_order race.cut (lines.Clock race.clock ∷ []) clock in
    let packets : GoesOn (Before 5) (packets_from sections 1 race.looked ++ (cut_lines race.cut ++ lines.Clock race.clock ∷ [])) =
    λ b h. packets_order sections 1 race.looked (cut_lines race.cut ++ lines.Clock race.clock ∷ []) cut b (packets_start b h) in
    let lives : GoesOn (Before 4) (life_lines sections (lives_of race.book) ++ (packets_from sections 1 race.looked ++ (cut_lines race.cut ++ lines.Clock race.clock ∷ []))) =
    λ b h. lives_order sections (lives_of race.book) (packets_from sections 1 race.looked ++ (cut_lines race.cut ++ lines.Clock race.clock ∷ [])) up packets b (wider 4 5 b (omega arith) h)
    (each_of_all (λ (l : Life). LifeMay b l.hash.begin) (lives_of race.book) (λ l. lives_start b l.hash.begin h)) in
    let journals : GoesOn (Before 3) (later_lines sections race) = λ b h. journals_order 0 (map length race.journals) _ lives b (journals_start 0 b h) in
    (refl, (refl, replies_order race.sections (later_lines sections race) journals (lines.Shape race.shape race.seed) (record { later = omega arith; earlier = omega arith })))

-- the last line, behind whatever comes first
abbrev EndsWith : Line → List Line → Type 0
EndsWith line all = (b : Option Line) → last_from b all ≡ Some line

past : (line : Line) (xs ys : List Line) → EndsWith line ys → EndsWith line (xs ++ ys)
past line [] ys e b = e b
past line (x ∷ xs) ys e b = past line xs ys e (Some x)

pub lines_end : (sections : List (List Command)) (race : Race) → last_from None (race_lines sections race) ≡ Some (lines.Clock race.clock)
lines_end sections race =
    let line = lines.Clock race.clock in
    past line (reply_lines race.sections) (later_lines sections race)
    (past line (journals_from 0 (map length race.journals)) _
    (past line (life_lines sections (lives_of race.book)) _
    (past line (packets_from sections 1 race.looked) _ (past line (cut_lines race.cut) (line ∷ []) (λ b. refl))))) (Some (lines.Shape race.shape race.seed))
