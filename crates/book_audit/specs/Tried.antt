-- How the judge tries whether lives explain what came of a packet, one life after the other. Our own.
--
-- To be read from the end: `line_explained` is what public contracts cite, and `is_beaten`; each stands on those above
-- it.
use Rattle.std.specs.Prelude.{ℕ, ◌+◌, ◌==◌, ◌&&◌, ◌||◌, not, nat_lt, nat_le, Bool, true, List}
use Rattle.std.specs.List.{list_any}
use Rattle.sock_card.specs.declared.card.Kind.{Kind}
use Rattle.sock_card.specs.Kinds.{same_kind}
use Rattle.sock_card.specs.declared.card.Packet.{Packet}
use Rattle.sock_card.specs.Rank.{rank}
use Rattle.chain_book.specs.declared.shape.Shape.{Shape}
use Rattle.chain_book.specs.Homes.{packet_home, listen_home}
use Rattle.book_audit.specs.declared.printed.Span.{Span}
use Rattle.book_audit.specs.declared.printed.PrintedLife.{PrintedLife}
use Rattle.book_audit.specs.declared.printed.PrintedEnd.{PrintedEnd}
use Rattle.book_audit.specs.declared.printed.PrintedEnd.TheVariants as ends
use Rattle.book_audit.specs.declared.printed.PrintedAnswer.{PrintedAnswer}
use Rattle.book_audit.specs.declared.printed.PrintedAnswer.TheVariants as answers
use Rattle.book_audit.specs.declared.printed.PrintedLook.{PrintedLook}
use Rattle.book_audit.specs.declared.printed.PrintedPacket.{PrintedPacket}
use Rattle.book_audit.specs.declared.printed.PrintedPacket.TheVariants as packets
use Rattle.book_audit.specs.Lines.{passes, some_span, is_out}

-- a change was under way during the call
abbrev pub met : PrintedLook → Span → Bool
met look s = nat_lt s.begin look.t1 && nat_le look.t0 s.end

-- the life was there throughout the call
abbrev pub was_throughout : PrintedLook → PrintedLife → Bool
was_throughout look l = nat_lt l.hash.end look.t0 && not (is_out l look.t1)

-- it stood at some time of the call
abbrev pub has_stood : PrintedLook → PrintedLife → Bool
has_stood look l = nat_lt l.hash.begin look.t1 && not (passes (λ s. nat_lt s.end look.t0) l.unhash)

-- it was there throughout, with that rank or a greater one
abbrev pub beats : PrintedLook → ℕ → PrintedLife → Bool
beats look least l = nat_le least (rank l.card look.packet) && was_throughout look l

abbrev pub is_beaten : List PrintedLife → PrintedLook → ℕ → Bool
is_beaten lives look least = list_any (beats look least) lives

-- the life may be the one that was found
abbrev pub is_found : List PrintedLife → PrintedLook → Kind → ℕ → PrintedLife → Bool
is_found lives look kind name l =
    same_kind l.card.kind kind && (l.card.name == name) && has_stood look l
    && nat_le 1 (rank l.card look.packet) && not (is_beaten lives look (rank l.card look.packet + 1))

-- its hash into that bucket was under way
abbrev pub hashes_into : PrintedLook → ℕ → PrintedLife → Bool
hashes_into look bucket l = (l.bucket == bucket) && met look l.hash

-- a change of it in that slot was
abbrev pub changes_in : PrintedLook → ℕ → PrintedLife → Bool
changes_in look slot l = (l.slot == slot) && some_span (met look) l

abbrev pub hashes : PrintedLook → PrintedLife → Bool
hashes look l = met look l.hash

-- a lookup in that bucket may end so
abbrev pub may_end : ℕ → List PrintedLife → PrintedLook → ℕ → PrintedEnd → Bool
may_end slots lives look bucket (ends.Foreign other) = not (other == bucket) && list_any (hashes_into look other) lives
may_end slots lives look bucket (ends.Dead slot) = list_any (changes_in look slot) lives
may_end slots lives look bucket (ends.Changed slot) = list_any (changes_in look slot) lives
may_end slots lives look bucket (ends.Long n) = (n == slots + 1) && list_any (hashes look) lives

-- the bucket is one of the packet's three
abbrev pub is_bucket_of : Shape → ℕ → Packet → ℕ → Bool
is_bucket_of shape seed packet bucket =
    (bucket == packet_home shape seed packet) || (bucket == listen_home shape seed packet.dst packet.dport packet.net)
    || (bucket == listen_home shape seed 0 packet.dport packet.net)

abbrev pub explains : Shape → ℕ → List PrintedLife → PrintedLook → PrintedAnswer → Bool
explains shape seed lives look (answers.Found kind name) = list_any (is_found lives look kind name) lives
explains shape seed lives look answers.None = not (is_beaten lives look 1)
explains shape seed lives look (answers.Again bucket end) =
    is_bucket_of shape seed look.packet bucket && may_end shape.slots lives look bucket end

abbrev pub line_explained : Shape → ℕ → List PrintedLife → PrintedPacket → Bool
line_explained shape seed lives packets.Passed = true
line_explained shape seed lives (packets.Looked look) = explains shape seed lives look look.answer
