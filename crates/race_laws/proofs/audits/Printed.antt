-- What lines say of a race's lives and lookups, where some number stands for each name of a socket: our own.
use Rattle.std.proofs.Common.{ℕ, List, map}
use Rattle.std.specs.Option.{option_map}
use Rattle.sock_card.specs.declared.card.Card.{Card}
use Rattle.chain_book.specs.declared.book.Change.{Change}
use Rattle.chain_book.specs.declared.book.PassEnd.{PassEnd}
use Rattle.chain_book.specs.declared.book.PassEnd.TheVariants as ends
use Rattle.chain_book.specs.declared.book.PacketAnswer.{PacketAnswer}
use Rattle.chain_book.specs.declared.book.PacketAnswer.TheVariants as answers
use Rattle.chain_book.specs.declared.book.Receipt.{Receipt}
use Rattle.race_book.specs.declared.lives.Life.{Life}
use Rattle.race_book.specs.Listed.{lives_of}
use Rattle.book_audit.specs.declared.printed.PrintedLife.{PrintedLife}
use Rattle.book_audit.specs.declared.printed.PrintedEnd.{PrintedEnd}
use Rattle.book_audit.specs.declared.printed.PrintedEnd.TheVariants as printed_ends
use Rattle.book_audit.specs.declared.printed.PrintedAnswer.{PrintedAnswer}
use Rattle.book_audit.specs.declared.printed.PrintedAnswer.TheVariants as printed
use Rattle.book_audit.specs.declared.printed.PrintedLook.{PrintedLook}
use Rattle.book_audit.specs.declared.printed.PrintedPacket.{PrintedPacket}
use Rattle.book_audit.specs.declared.printed.PrintedPacket.TheVariants as packets
use Rattle.book_audit.proofs.Lives.{span_of}
use Rattle.race_record.specs.declared.record.Looked.{Looked}
use Rattle.race_record.specs.declared.record.Looked.TheVariants as looks

abbrev pub told_end : PassEnd → PrintedEnd
told_end (ends.Foreign b) = printed_ends.Foreign b
told_end (ends.Dead s) = printed_ends.Dead s
told_end (ends.Changed s) = printed_ends.Changed s
told_end (ends.Long n) = printed_ends.Long n

-- `number`: the number that stands for a name
module _ (number : ℕ → ℕ) where
  -- a card, but for what no line says of it
  abbrev pub told_card : Card → Card
  told_card c = record c { name = number c.name; extra = 0; mark = 0 }

  abbrev pub told_life : Life → PrintedLife
  told_life l =
      record {
        bucket = l.hash.bucket;
        slot = l.hash.slot;
        card = told_card l.hash.card;
        hash = span_of l.hash;
        unhash = option_map span_of l.unhash;
      }

  -- the lives of a list of changes
  abbrev pub told_lives : List Change → List PrintedLife
  told_lives book = map told_life (lives_of book)

  abbrev pub told_answer : PacketAnswer → PrintedAnswer
  told_answer (answers.Found card) = printed.Found card.kind (number card.name)
  told_answer answers.None = printed.None
  told_answer (answers.Again bucket end) = printed.Again bucket (told_end end)

  abbrev pub told_look : Receipt → PrintedLook
  told_look r = record { packet = r.packet; answer = told_answer r.answer; t0 = r.t0; t1 = r.t1 }

  abbrev pub told_item : Looked → PrintedPacket
  told_item (looks.Answered r) = packets.Looked (told_look r)
  told_item looks.Skip = packets.Passed
  told_item looks.Short = packets.Passed
