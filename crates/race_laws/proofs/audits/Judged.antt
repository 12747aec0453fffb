-- The judge finds a lawful race sound.
use Rattle.std.proofs.Common.{◌≡◌, ℕ, ◌+◌, ◌*◌, ◌<◌, ◌≤◌, List, [], ◌∷◌, length, map, filter, refl, sym, ap, ◌∙◌, subst, arith}
use Rattle.list_words.specs.Lists.{Each}
use Rattle.list_words.proofs.EachLemmas.{each_weaken}
use Rattle.capture_reader.specs.Captures.{Capture}
use Rattle.capture_reader.specs.declared.packet.Item.{Item}
use Rattle.capture_reader.specs.declared.packet.Item.TheVariants as items
use Rattle.sock_card.specs.declared.card.Packet.{Packet}
use Rattle.chain_book.specs.declared.book.Change.{Change}
use Rattle.chain_book.specs.declared.book.Receipt.{Receipt}
use Rattle.chain_book.specs.declared.shape.Shape.{Shape}
use Rattle.flat_list.specs.Script.{Script}
use Rattle.race_book.specs.Among.{Among}
use Rattle.race_book.specs.Explained.{NamesItsBucket}
use Rattle.race_book.specs.Listed.{StampsDiffer, stamps_of}
use Rattle.race_book.specs.Serial.{IsSerial}
use Rattle.race_book.specs.Laws.{BeginApart}
use Rattle.race_book.proofs.Listing.{begin_apart}
use Rattle.race_record.specs.declared.record.Looked.{Looked}
use Rattle.race_record.specs.declared.record.Looked.TheVariants as looks
use Rattle.race_record.specs.Headline.{NumbersTell}
use Rattle.race_record.specs.Laws.{drew_in_vain}
use Rattle.race_record.specs.Record.{Race, steps_of}
use Rattle.race_record.specs.Lawful.{AreAnswered, IsReceiptOf, Lawful}
use Rattle.race_record.proofs.Drawn.{numbers_tell}
use Rattle.book_audit.specs.declared.printed.Printed.{Printed}
use Rattle.book_audit.specs.declared.printed.PrintedLife.{PrintedLife}
use Rattle.book_audit.specs.declared.printed.Why.{Why}
use Rattle.book_audit.specs.declared.printed.Why.TheVariants as whys
use Rattle.book_audit.specs.Book.{book_of}
use Rattle.book_audit.specs.Findings.{Passes}
use Rattle.book_audit.specs.Lines.{NoTwo, AreStamped, AreHoused, overlap, share_slot, are_twins}
use Rattle.book_audit.specs.Looks.{IsLineExplained, IsLookExplained}
use Rattle.book_audit.proofs.Numbers.{sound_differ}
use Rattle.race_laws.proofs.audits.Printed.{told_item, told_lives, told_look}
use Rattle.race_laws.proofs.audits.Clear.{LivesPass, lives_pass}
use Rattle.race_laws.proofs.audits.Counted.{as_many}
use Rattle.race_laws.proofs.audits.Explained.{look_explained}

-- a printed race is that race as its text gives it, with those numbers for names
pub record Tells (number : ℕ → ℕ) (race : Race) (p : Printed) : Type 0 where
  pub shape : p.shape ≡ race.shape
  pub seed : p.seed ≡ race.seed
  pub lives : p.lives.items ≡ told_lives number race.book
  pub packets : p.packets.items ≡ map (told_item number) race.looked
  pub vain : p.vain ≡ length (filter drew_in_vain (steps_of race))
  pub clock : p.clock ≡ race.clock

module _ (number : ℕ → ℕ) (book : List Change) (apart : BeginApart book) (shape : Shape) (seed clock : ℕ) (serial : IsSerial (Among book) shape seed) where
  receipt_explained : (p : Packet) (r : Receipt) → IsReceiptOf (Among book) shape seed clock p r → IsLookExplained shape seed (told_lives number book) (told_look number r)
  receipt_explained p r i =
      let bucket : NamesItsBucket shape r.seed r.packet r.answer =
      subst (λ (n : ℕ). NamesItsBucket shape n r.packet r.answer) (sym i.seed_is) (subst (λ (x : Packet). NamesItsBucket shape seed x r.answer) (sym i.packet_is) i.bucket) in
      subst (λ (n : ℕ). IsLookExplained shape n (told_lives number book) (told_look number r)) i.seed_is
      (look_explained number book apart serial.ends shape r i.explained bucket)

  all_explained : (all : List Item) (looked : List Looked) → AreAnswered (Among book) shape seed clock all looked → Each (IsLineExplained shape seed (told_lives number book)) (map (told_item number) looked)
  all_explained [] [] a = tt
  all_explained (items.Packet p ∷ all) (looks.Answered r ∷ looked) a = (receipt_explained p r a.0, all_explained all looked a.1)
  all_explained (items.Skip ∷ all) (looks.Skip ∷ looked) a = (tt, all_explained all looked a.1)
  all_explained (items.Short ∷ all) (looks.Short ∷ looked) a = (tt, all_explained all looked a.1)
  all_explained (items.Packet p ∷ all) (looks.Skip ∷ looked) a = absurd a.0
  all_explained (items.Packet p ∷ all) (looks.Short ∷ looked) a = absurd a.0
  all_explained (items.Skip ∷ all) (looks.Answered r ∷ looked) a = absurd a.0
  all_explained (items.Skip ∷ all) (looks.Short ∷ looked) a = absurd a.0
  all_explained (items.Short ∷ all) (looks.Answered r ∷ looked) a = absurd a.0
  all_explained (items.Short ∷ all) (looks.Skip ∷ looked) a = absurd a.0
  all_explained [] (x ∷ looked) a = absurd a
  all_explained (item ∷ all) [] a = absurd a

module _ (script : Script) (capture : Capture) (race : Race) (l : Lawful script capture race) (number : ℕ → ℕ) where
  numbers : NumbersTell race
  numbers = numbers_tell script capture race l

  apart : BeginApart race.book
  apart = begin_apart race.book numbers.distinct

  abbrev lives : List PrintedLife
  lives = told_lives number race.book

  pass_below : (clock : ℕ) → race.clock ≤ clock → LivesPass race.shape race.seed clock number race.book
  pass_below clock most = lives_pass race.shape race.seed clock number race.book numbers.distinct
      (each_weaken (λ (n : ℕ). n < race.clock) (λ (n : ℕ). n < clock) (stamps_of race.book) (λ n lt. omega (arith, lt, most)) numbers.below) numbers.order l.serial

  receipts : Each (IsLineExplained race.shape race.seed lives) (map (told_item number) race.looked)
  receipts = all_explained number race.book apart race.shape race.seed race.clock l.serial capture.items race.looked l.items

  module _ (p : Printed) (t : Tells number race p) where
    -- the printed race with another clock, as if each further number had been drawn in vain
    later : ℕ → ℕ → Printed
    later clock vain = record p { clock = clock; vain = vain }

    passes_at : (clock vain : ℕ) → race.clock ≤ clock → clock ≡ 2 * length (book_of p.lives.items) + vain → (w : Why) → Passes (later clock vain) w
    unfolding later
    passes_at clock vain most count whys.Stamp = subst (AreStamped clock) (sym t.lives) (pass_below clock most).stamped
    passes_at clock vain most count whys.Home =
        subst (λ (s : Shape). AreHoused s p.seed p.lives.items) (sym t.shape) (subst (λ (n : ℕ). AreHoused race.shape n p.lives.items) (sym t.seed) (subst (AreHoused race.shape race.seed) (sym t.lives) (pass_below clock most).housed))
    passes_at clock vain most count whys.Overlap = subst (NoTwo overlap) (sym t.lives) (pass_below clock most).overlap
    passes_at clock vain most count whys.Slot = subst (NoTwo share_slot) (sym t.lives) (pass_below clock most).slots
    passes_at clock vain most count whys.Twin = subst (NoTwo are_twins) (sym t.lives) (pass_below clock most).twins
    passes_at clock vain most count whys.Receipt =
        subst (λ (s : Shape). Each (IsLineExplained s p.seed p.lives.items) p.packets.items) (sym t.shape)
        (subst (λ (n : ℕ). Each (IsLineExplained race.shape n p.lives.items) p.packets.items) (sym t.seed)
        (subst (λ (ls : List PrintedLife). Each (IsLineExplained race.shape race.seed ls) p.packets.items) (sym t.lives)
        (subst (Each (IsLineExplained race.shape race.seed lives)) (sym t.packets) receipts)))
    passes_at clock vain most count whys.Count = count

    told_differ : StampsDiffer (book_of p.lives.items)
    unfolding later
    told_differ =
        let clock : ℕ = 2 * length (book_of p.lives.items) + race.clock in
        sound_differ (later clock race.clock) (passes_at clock race.clock (omega arith) refl)

    told_count : length (book_of p.lives.items) ≡ length race.book
    told_count =
        let differ : StampsDiffer (book_of lives) = subst (λ (ls : List PrintedLife). StampsDiffer (book_of ls)) t.lives told_differ in
        ap (λ (ls : List PrintedLife). length (book_of ls)) t.lives ∙ as_many number race.book apart l.serial.ends (begin_apart (book_of lives) differ)

    -- it passes each test
    pub passes_each : (w : Why) → Passes p w
    unfolding later
    passes_each = passes_at p.clock p.vain (omega (arith, t.clock)) (omega (arith, t.clock, t.vain, told_count, numbers.count))
