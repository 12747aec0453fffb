-- What keeps a record from passing a test: our own. Causes of one test exclude each other, the first that holds is told.
--
-- To be read from the end: `cause_at` is what is written by, and each stands on those above it.
use Rattle.std.specs.Prelude.{ℕ, ◌+◌, ◌-◌, ◌*◌, ◌==◌, ◌&&◌, not, nat_lt, Bool, true, List, length, count_by, is_some, slice_get, Option, None, Some, if◌then◌else◌}
use Rattle.std.specs.List.{list_any}
use Rattle.sock_card.specs.declared.card.Packet.{Packet}
use Rattle.chain_book.specs.declared.shape.Shape.{Shape}
use Rattle.chain_book.specs.Homes.{home, listen_home, packet_home}
use Rattle.book_audit.specs.declared.printed.Span.{Span}
use Rattle.book_audit.specs.declared.printed.Printed.{Printed}
use Rattle.book_audit.specs.declared.printed.PrintedLife.{PrintedLife}
use Rattle.book_audit.specs.declared.printed.PrintedEnd.{PrintedEnd}
use Rattle.book_audit.specs.declared.printed.PrintedEnd.TheVariants as ends
use Rattle.book_audit.specs.declared.printed.Why.{Why}
use Rattle.book_audit.specs.declared.printed.Why.TheVariants as whys
use Rattle.book_audit.specs.Lines.{ascends}
use Rattle.book_audit.specs.Tried.{is_bucket_of}
use Rattle.record_reader.specs.declared.line.Answer.{Answer}
use Rattle.record_reader.specs.declared.line.Answer.TheVariants as answers
use Rattle.record_reader.specs.declared.line.ItemLine.TheVariants as items
use Rattle.record_reader.specs.declared.line.LifeLine.{LifeLine}
use Rattle.record_reader.specs.declared.line.LookLine.{LookLine}
use Rattle.record_reader.specs.declared.line.Line.{Line}
use Rattle.record_reader.specs.declared.line.Line.TheVariants as lines
use Rattle.record_reasons.specs.declared.cause.Sought.{Sought}
use Rattle.record_reasons.specs.declared.cause.Cause.{Cause}
use Rattle.record_reasons.specs.declared.cause.Cause.TheVariants as causes
use Rattle.record_reasons.specs.Parts.{has_matched, is_named, on_life, plain, was_there}

-- the unhash begins after that number, and ends after it begins, if there is one
abbrev pub rises_from : ℕ → Option Span → Bool
rises_from n None = true
rises_from n (Some s) = nat_lt n s.begin && nat_lt s.begin s.end

-- the numbers of a life ascend, in the order in which its line has them
abbrev pub rises : LifeLine → Bool
rises l = nat_lt l.hash.begin l.hash.end && rises_from l.hash.end l.unhash

abbrev pub stamp_cause : ℕ → LifeLine → Cause
stamp_cause clock l =
    if not (rises l) then causes.Descends
    else if not (ascends clock (plain l)) then causes.BeyondClock clock
    else causes.SharesNumber l

-- of the kind and name that were found no life is; none was there then; none of those matches; or each is beaten
abbrev pub found_cause : List Line → Sought → Cause
found_cause all s =
    if not (list_any (on_life (is_named s)) all) then causes.Unknown
    else if not (list_any (on_life (was_there s)) all) then causes.Absent s
    else if not (list_any (on_life (has_matched s)) all) then causes.Unlike s
    else causes.Beaten s

-- a walk of that chain, where there are so many slots, that ended so
abbrev pub end_cause : ℕ → ℕ → PrintedEnd → Cause
end_cause slots bucket (ends.Foreign other) = if other == bucket then causes.OwnChain else causes.NoneInto other
end_cause slots bucket (ends.Dead slot) = causes.NoneIn slot
end_cause slots bucket (ends.Changed slot) = causes.NoneIn slot
end_cause slots bucket (ends.Long n) = if n == slots + 1 then causes.NoneHashed else causes.OtherLength (slots + 1)

abbrev pub again_cause : Shape → ℕ → Packet → ℕ → PrintedEnd → Cause
again_cause shape seed packet bucket end =
    if is_bucket_of shape seed packet bucket then end_cause shape.slots bucket end
    else causes.OtherChain (packet_home shape seed packet)
    (listen_home shape seed packet.dst packet.dport packet.net) (listen_home shape seed 0 packet.dport packet.net)

abbrev pub receipt_cause : Printed → List Line → LookLine → Answer → Cause
receipt_cause p all l (answers.Found kind name) = found_cause all (record { look = l; kind = kind; name = name })
receipt_cause p all l answers.None = causes.Missed l
receipt_cause p all l (answers.Again bucket end) = again_cause p.shape p.seed l.packet bucket end

-- how many changes the lives have
abbrev pub change_count : List PrintedLife → ℕ
change_count lives = length lives + count_by (λ (l : PrintedLife). is_some l.unhash) lives

abbrev pub count_cause : Printed → Cause
count_cause p =
    causes.Uncounted (change_count p.lives.items) p.vain (2 * change_count p.lives.items + p.vain)

-- why that line fails that test; none is told of a line that the test isn't of
abbrev pub cause_of : Printed → List Line → Why → Line → Option Cause
cause_of p all whys.Stamp (lines.Life l) = Some (stamp_cause p.clock l)
cause_of p all whys.Home (lines.Life l) = Some (causes.Stray (home p.shape p.seed l.card))
cause_of p all whys.Overlap (lines.Life l) = Some (causes.Overlaps l)
cause_of p all whys.Slot (lines.Life l) = Some (causes.SharesSlot l)
cause_of p all whys.Twin (lines.Life l) = Some (causes.IsTwin l)
cause_of p all whys.Receipt (lines.Packet number (items.Looked l)) = Some (receipt_cause p all l l.answer)
cause_of p all whys.Count (lines.Clock clock) = Some (count_cause p)
cause_of p all why line = None

abbrev pub cause_in : Printed → List Line → Why → Option Line → Option Cause
cause_in p all why None = None
cause_in p all why (Some line) = cause_of p all why line

-- why line n, counted from 1, fails that test
abbrev pub cause_at : Printed → List Line → Why → ℕ → Option Cause
cause_at p all why n = cause_in p all why (slice_get all (n - 1))
