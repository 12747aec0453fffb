-- The lines behind the replies of a lawful race have their numbers in range.
use Rattle.std.proofs.Common.{◌≡◌, ℕ, ◌+◌, ◌/◌, ◌%◌, ◌<◌, ◌^◌, ◌==◌, Bool, true, false, List, [], ◌∷◌, length, Option, None, Some, if◌then◌else◌, refl, sym, ◌∙◌, subst, arith, inl, inr}
use Rattle.std.specs.Option.{option_map}
use Rattle.std.proofs.lemmas.Nat.{mod_below}
use Rattle.list_words.specs.Lists.{Each}
use Rattle.list_words.proofs.EachLemmas.{each_map}
use Rattle.sock_card.specs.declared.card.Card.{Card}
use Rattle.sock_card.specs.declared.card.Kind.{Kind}
use Rattle.sock_card.specs.declared.card.Kind.TheVariants as kinds
use Rattle.sock_card.specs.declared.card.Packet.{Packet}
use Rattle.jhash_words.specs.Places.{listen_hash, tuple_hash}
use Rattle.capture_reader.specs.declared.packet.Item.{Item}
use Rattle.capture_reader.specs.declared.packet.Item.TheVariants as items
use Rattle.chain_book.specs.declared.book.Act.TheVariants as acts
use Rattle.chain_book.specs.declared.book.Change.{Change}
use Rattle.chain_book.specs.declared.book.PassEnd.{PassEnd}
use Rattle.chain_book.specs.declared.book.PassEnd.TheVariants as ends
use Rattle.chain_book.specs.declared.book.PacketAnswer.{PacketAnswer}
use Rattle.chain_book.specs.declared.book.PacketAnswer.TheVariants as answers
use Rattle.chain_book.specs.declared.book.Receipt.{Receipt}
use Rattle.chain_book.specs.declared.shape.Shape.{Shape}
use Rattle.chain_book.specs.Homes.{home, home_as, packet_hash}
use Rattle.flat_list.specs.declared.command.Command.{Command}
use Rattle.race_book.specs.declared.lives.Life.{Life}
use Rattle.race_book.specs.Among.{Among}
use Rattle.race_book.specs.Listed.{FitSlots, lives_of, stamps_of}
use Rattle.race_book.specs.Explained.{MayAnswer, MayEnd, NamesItsBucket, at_home, buckets_of}
use Rattle.race_book.specs.Serial.{AreHome}
use Rattle.race_book.proofs.Endings.{each_of, to_each, ending_ends}
use Rattle.race_book.proofs.Listing.{stamp_of}
use Rattle.race_record.specs.declared.record.Looked.{Looked}
use Rattle.race_record.specs.declared.record.Looked.TheVariants as looks
use Rattle.race_record.specs.Lawful.{AreAnswered, IsReceiptOf}
use Rattle.record_reader.specs.declared.line.Line.{Line}
use Rattle.record_reader.specs.declared.line.Line.TheVariants as lines
use Rattle.chain_book.specs.Shapes.{ShapeFits}
use Rattle.record_reader.specs.Forms.{AnswerFits, EndFits, ItemFits, LifeFits, PacketFits, UnhashFits}
use Rattle.chain_book.proofs.Powers.{power_positive}
use Rattle.race_laws.proofs.audits.Printed.{told_end}
use Rattle.race_laws.proofs.audits.Ascending.{IsOfBook, life_back}
use Rattle.race_laws.proofs.audits.Captures.{ItemIn}
use Rattle.race_laws.proofs.audits.Forms.{IsInRange}
use Rattle.race_laws.proofs.audits.Lines.{answer_line, cut_lines, item_line, journals_from, life_line, life_lines, packets_from}
use Rattle.race_laws.proofs.audits.Names.{name_fits}
use Rattle.race_laws.proofs.audits.Steps.{CardTold}
use Rattle.race_laws.proofs.audits.Texts.{AnswerLabelled, Labelled, LookedLabelled}
use Rattle.book_audit.proofs.Lives.{span_of}

journals_by : (b : Bool) (bucket count : ℕ) (rest : List Line) → bucket < 2 ^ 64 → count < 2 ^ 64 → Each IsInRange rest → Each IsInRange (if b then rest else lines.Journal bucket count ∷ rest)
journals_by true bucket count rest f g h = h
journals_by false bucket count rest f g h = ((tt, (f, g)), h)

pub journals_in : (bucket : ℕ) (counts : List ℕ) → bucket + length counts < 2 ^ 64 → Each (λ (n : ℕ). n < 2 ^ 64) counts → Each IsInRange (journals_from bucket counts)
journals_in bucket [] l h = tt
journals_in bucket (count ∷ rest) l h =
    journals_by (count == 0) bucket count (journals_from (bucket + 1) rest) (omega (arith, l)) h.0 (journals_in (bucket + 1) rest (omega (arith, l)) h.1)

pub cut_in : (cut : Bool) → Each IsInRange (cut_lines cut)
cut_in true = ((tt, tt), tt)
cut_in false = tt

module _ (shape : Shape) (f : ShapeFits shape) where
  hash_below : (n : ℕ) → n % shape.hash < 2 ^ 32
  hash_below n = let b : n % shape.hash < shape.hash = mod_below n shape.hash (omega (arith, power_positive shape.hash f.hash.0)) in omega (arith, b, f.hash.1)

  listen_below : (n : ℕ) → shape.hash + n % shape.listen < 2 ^ 32
  listen_below n = let b : n % shape.listen < shape.listen = mod_below n shape.listen (omega (arith, power_positive shape.listen f.listen.0)) in omega (arith, b, f.hash.1, f.listen.1)

  home_by : (k : Kind) (seed : ℕ) (c : Card) → home_as k shape seed c < 2 ^ 32
  home_by kinds.Full seed c = hash_below (tuple_hash c.local c.lport c.remote c.rport seed c.net)
  home_by kinds.TimeWait seed c = hash_below (tuple_hash c.local c.lport c.remote c.rport seed c.net)
  home_by kinds.Listen seed c = listen_below (listen_hash c.local c.lport seed c.net)
  home_by kinds.Request seed c = hash_below (tuple_hash c.local c.lport c.remote c.rport seed c.net)

  home_below : (seed : ℕ) (c : Card) → home shape seed c < 2 ^ 32
  unfolding home
  home_below seed c = home_by c.kind seed c

  named_below : (seed : ℕ) (p : Packet) (bucket : ℕ) → Among (buckets_of shape seed p) bucket → bucket < 2 ^ 64
  named_below seed p bucket (inl e) = omega (arith, e, hash_below (packet_hash p seed))
  named_below seed p bucket (inr (inl e)) = omega (arith, e, listen_below (listen_hash p.dst p.dport seed p.net))
  named_below seed p bucket (inr (inr (inl e))) = omega (arith, e, listen_below (listen_hash 0 p.dport seed p.net))
  named_below seed p bucket (inr (inr (inr a))) = absurd a

  module _ (seed clock : ℕ) (sections : List (List Command)) (book : List Change) (small : clock < 2 ^ 64) (homes : AreHome (Among book) shape seed) (slots : FitSlots shape.slots book)
      (below : Each (λ (n : ℕ). n < clock) (stamps_of book)) (cards : (c : Change) → Among book c → c.act ≡ acts.Hash → CardTold sections c.card) where
    begin_below : (c : Change) → Among book c → c.begin < 2 ^ 64
    begin_below c a = omega (arith, small, each_of (λ (n : ℕ). n < clock) (stamps_of book) below c.begin (stamp_of book c a).0)

    end_below : (c : Change) → Among book c → c.end < 2 ^ 64
    end_below c a = omega (arith, small, each_of (λ (n : ℕ). n < clock) (stamps_of book) below c.end (stamp_of book c a).1)

    bucket_below : (c : Change) → Among book c → c.bucket < 2 ^ 64
    bucket_below c a = omega (arith, homes c a, home_below seed c.card)

    slot_below : (c : Change) → Among book c → c.slot < 2 ^ 64
    slot_below c a = omega (arith, f.slots.1, each_of (λ (x : Change). x.slot < shape.slots) book slots c a)

    unhash_in : (l : Life) → IsOfBook book l → (o : Option Change) → l.unhash ≡ o → UnhashFits (option_map span_of o)
    unhash_in l b None e = tt
    unhash_in l b (Some u) e = let there = (ending_ends book l.hash u (sym b.unhash ∙ e)).there in (begin_below u there, end_below u there)

    life_in_range : (l : Life) → IsOfBook book l → LifeFits (life_line sections l)
    life_in_range l b =
        let c : CardTold sections l.hash.card = cards l.hash b.there b.hash in record {
          bucket = bucket_below l.hash b.there;
          slot = slot_below l.hash b.there;
          name = name_fits (l.hash.card.name / 2 ^ 56) _ c.least c.most c.label;
          card = record { local = c.local.addr; lport = c.local.port; remote = c.remote.addr; rport = c.remote.port; dev = c.dev; net = c.net; name = refl; extra = refl; mark = refl };
          hash = (begin_below l.hash b.there, end_below l.hash b.there);
          unhash = unhash_in l b l.unhash refl;
        }

    pub lives_in : Each IsInRange (life_lines sections (lives_of book))
    lives_in = each_map IsInRange (λ l. lines.Life (life_line sections l)) (lives_of book)
        (to_each (λ l. IsInRange (lines.Life (life_line sections l))) (lives_of book) (λ l a. (tt, life_in_range l (life_back book l a))))

    pub lives_labelled : Each (λ (l : Life). Labelled sections l.hash.card.name) (lives_of book)
    lives_labelled = to_each (λ (l : Life). Labelled sections l.hash.card.name) (lives_of book)
        (λ l a. let b = life_back book l a in (cards l.hash b.there b.hash).label)

    end_in : (bucket t0 t1 : ℕ) (e : PassEnd) → MayEnd (Among book) shape.slots bucket t0 t1 e → EndFits (told_end e)
    end_in bucket t0 t1 (ends.Foreign other) m = omega (arith, m.1.sort.1, bucket_below m.1.change m.1.there)
    end_in bucket t0 t1 (ends.Dead slot) m = omega (arith, m.sort, slot_below m.change m.there)
    end_in bucket t0 t1 (ends.Changed slot) m = omega (arith, m.sort, slot_below m.change m.there)
    end_in bucket t0 t1 (ends.Long n) m = omega (arith, m.0, f.slots.1)

    answer_in : (s : ℕ) (p : Packet) (t0 t1 : ℕ) (a : PacketAnswer) → MayAnswer (Among book) (at_home shape s) shape.slots p t0 t1 a → NamesItsBucket shape seed p a → AnswerFits (answer_line sections a) × AnswerLabelled sections a
    answer_in s p t0 t1 (answers.Found card) m n =
        let c : CardTold sections card = subst (CardTold sections) m.same (cards m.life m.is.there m.is.hash) in
        (name_fits (card.name / 2 ^ 56) _ c.least c.most c.label, c.label)
    answer_in s p t0 t1 answers.None m n = (tt, tt)
    answer_in s p t0 t1 (answers.Again bucket end) m n = ((named_below seed p bucket n, end_in bucket t0 t1 end m), tt)

    abbrev pub LookedFits : Looked → Type 0
    LookedFits looked = ItemFits (item_line sections looked) × LookedLabelled sections looked

    receipt_in : (p : Packet) (r : Receipt) → PacketFits p → IsReceiptOf (Among book) shape seed clock p r → LookedFits (looks.Answered r)
    receipt_in p r g i =
        let a = answer_in r.seed r.packet r.t0 r.t1 r.answer i.explained (subst (λ x. NamesItsBucket shape seed x r.answer) (sym i.packet_is) i.bucket) in (
          record {
            answer = a.0;
            t0 = omega (arith, i.order, i.most, small);
            t1 = omega (arith, i.most, small);
            packet = subst PacketFits (sym i.packet_is) g;
          },
          a.1,
        )

    pub looked_in : (all : List Item) (looked : List Looked) → AreAnswered (Among book) shape seed clock all looked → Each ItemIn all → Each LookedFits looked
    looked_in [] [] a h = tt
    looked_in (items.Packet p ∷ all) (looks.Answered r ∷ looked) a h = (receipt_in p r h.0 a.0, looked_in all looked a.1 h.1)
    looked_in (items.Skip ∷ all) (looks.Skip ∷ looked) a h = ((tt, tt), looked_in all looked a.1 h.1)
    looked_in (items.Short ∷ all) (looks.Short ∷ looked) a h = ((tt, tt), looked_in all looked a.1 h.1)
    looked_in (items.Packet p ∷ all) (looks.Skip ∷ looked) a h = absurd a.0
    looked_in (items.Packet p ∷ all) (looks.Short ∷ looked) a h = absurd a.0
    looked_in (items.Skip ∷ all) (looks.Answered r ∷ looked) a h = absurd a.0
    looked_in (items.Skip ∷ all) (looks.Short ∷ looked) a h = absurd a.0
    looked_in (items.Short ∷ all) (looks.Answered r ∷ looked) a h = absurd a.0
    looked_in (items.Short ∷ all) (looks.Skip ∷ looked) a h = absurd a.0
    looked_in [] (x ∷ looked) a h = absurd a
    looked_in (item ∷ all) [] a h = absurd a

pub packets_in : (sections : List (List Command)) (number : ℕ) (looked : List Looked) → number + length looked < 2 ^ 64 → Each (λ x. ItemFits (item_line sections x)) looked → Each IsInRange (packets_from sections number looked)
packets_in sections number [] l h = tt
packets_in sections number (looked ∷ rest) l h = ((tt, (omega (arith, l), h.0)), packets_in sections (number + 1) rest (omega (arith, l)) h.1)
