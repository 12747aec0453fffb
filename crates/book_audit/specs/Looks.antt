-- Whether printed lives explain what came of a packet, in the words of race_book. Our own.
use Rattle.std.specs.Prelude.{◌≡◌, ℕ, List}
use Rattle.chain_book.specs.declared.book.PassEnd.{PassEnd}
use Rattle.chain_book.specs.declared.book.PassEnd.TheVariants as ends
use Rattle.chain_book.specs.declared.book.PacketAnswer.{PacketAnswer}
use Rattle.chain_book.specs.declared.book.PacketAnswer.TheVariants as answers
use Rattle.chain_book.specs.declared.book.Receipt.{Receipt}
use Rattle.chain_book.specs.declared.shape.Shape.{Shape}
use Rattle.race_book.specs.Among.{Among}
use Rattle.race_book.specs.Explained.{IsExplained, NamesItsBucket}
use Rattle.book_audit.specs.declared.printed.PrintedEnd.{PrintedEnd}
use Rattle.book_audit.specs.declared.printed.PrintedEnd.TheVariants as printed_ends
use Rattle.book_audit.specs.declared.printed.PrintedAnswer.{PrintedAnswer}
use Rattle.book_audit.specs.declared.printed.PrintedAnswer.TheVariants as printed
use Rattle.book_audit.specs.declared.printed.PrintedLife.{PrintedLife}
use Rattle.book_audit.specs.declared.printed.PrintedLook.{PrintedLook}
use Rattle.book_audit.specs.declared.printed.PrintedPacket.{PrintedPacket}
use Rattle.book_audit.specs.declared.printed.PrintedPacket.TheVariants as packets
use Rattle.book_audit.specs.Book.{book_of}

abbrev pub pass_end : PrintedEnd → PassEnd
pass_end (printed_ends.Foreign b) = ends.Foreign b
pass_end (printed_ends.Dead s) = ends.Dead s
pass_end (printed_ends.Changed s) = ends.Changed s
pass_end (printed_ends.Long n) = ends.Long n

-- the line gives that answer: of a found card its kind and name
abbrev pub Tells : PrintedAnswer → PacketAnswer → Type 0
Tells (printed.Found kind name) (answers.Found card) = (card.kind ≡ kind) × (card.name ≡ name)
Tells printed.None answers.None = Unit {0}
Tells (printed.Again bucket end) (answers.Again b e) = (b ≡ bucket) × (e ≡ pass_end end)
Tells _ _ = ⊥

-- the receipt of a lookup with that answer
abbrev pub receipt_of : ℕ → PrintedLook → PacketAnswer → Receipt
receipt_of seed look answer =
    record { packet = look.packet; seed = seed; answer = answer; t0 = look.t0; t1 = look.t1 }

-- an answer that the line gives is explained by the lives, and one that was given up names a bucket of the packet's
pub record IsLookExplained (shape : Shape) (seed : ℕ) (lives : List PrintedLife) (look : PrintedLook) : Type 0 where
  pub answer : PacketAnswer
  pub told : Tells look.answer answer
  pub names : NamesItsBucket shape seed look.packet answer
  pub explained : IsExplained (Among (book_of lives)) shape (receipt_of seed look answer)

-- the line of a packet: nothing is asked of one that wasn't looked up
abbrev pub IsLineExplained : Shape → ℕ → List PrintedLife → PrintedPacket → Type 0
IsLineExplained shape seed lives packets.Passed = Unit {0}
IsLineExplained shape seed lives (packets.Looked look) = IsLookExplained shape seed lives look
