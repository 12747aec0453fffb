-- The lines of lives that have a part in a refutation, by the tests of an audit: our own.
--
-- To be read from the end: `has_part` is what is written by, and each stands on those above it.
use Rattle.std.specs.Prelude.{ℕ, ◌+◌, ◌==◌, ◌&&◌, ◌||◌, nat_le, Bool, true, false, List}
use Rattle.std.specs.List.{list_any}
use Rattle.sock_card.specs.Kinds.{same_kind}
use Rattle.sock_card.specs.Rank.{rank}
use Rattle.book_audit.specs.declared.printed.PrintedLife.{PrintedLife}
use Rattle.book_audit.specs.declared.printed.PrintedLook.{PrintedLook}
use Rattle.book_audit.specs.declared.printed.PrintedAnswer.TheVariants as printed
use Rattle.book_audit.specs.Lines.{are_twins, overlap, share_slot, shares_number}
use Rattle.book_audit.specs.Tried.{beats, has_stood}
use Rattle.record_reader.specs.declared.line.LifeLine.{LifeLine}
use Rattle.record_reader.specs.declared.line.LookLine.{LookLine}
use Rattle.record_reader.specs.declared.line.Line.{Line}
use Rattle.record_reader.specs.declared.line.Line.TheVariants as lines
use Rattle.record_reader.specs.Names.{same_name}
use Rattle.record_reasons.specs.declared.cause.Sought.{Sought}
use Rattle.record_reasons.specs.declared.cause.Cause.{Cause}
use Rattle.record_reasons.specs.declared.cause.Cause.TheVariants as causes

-- the life of a line, as the tests take it; none of them here reads its name
abbrev pub plain : LifeLine → PrintedLife
plain l = record { bucket = l.bucket; slot = l.slot; card = l.card; hash = l.hash; unhash = l.unhash }

-- the lookup of a line, as the tests of its packet and its two numbers take it
abbrev pub look_of : LookLine → PrintedLook
look_of l = record { packet = l.packet; answer = printed.None; t0 = l.t0; t1 = l.t1 }

-- it is the line of a life that passes the test
abbrev pub on_life : (LifeLine → Bool) → Line → Bool
on_life test (lines.Life l) = test l
on_life test line = false

-- the life has the kind and the name that were found
abbrev pub is_named : Sought → LifeLine → Bool
is_named s l = same_kind l.card.kind s.kind && same_name l.name s.name

-- and was there at some time of the lookup
abbrev pub was_there : Sought → LifeLine → Bool
was_there s l = is_named s l && has_stood (look_of s.look) (plain l)

-- and matches the packet
abbrev pub has_matched : Sought → LifeLine → Bool
has_matched s l = was_there s l && nat_le 1 (rank l.card s.look.packet)

-- it was there throughout, and matches better than such a one
abbrev pub beats_it : Sought → LifeLine → LifeLine → Bool
beats_it s l m = has_matched s m && beats (look_of s.look) (rank m.card s.look.packet + 1) (plain l)

-- so it was there throughout, with a rank above the least; that is tried first
abbrev pub beats_some : List Line → Sought → LifeLine → Bool
beats_some all s l = beats (look_of s.look) 2 (plain l) && list_any (on_life (beats_it s l)) all

-- The life has a part in that refutation: it clashes with the one that is refuted, was found, can't have been missed, or
-- belongs to the chain or the slot by which a walk was led astray.
abbrev pub takes_part : List Line → Cause → LifeLine → Bool
takes_part all (causes.SharesNumber l) m = shares_number (plain m) (plain l)
takes_part all (causes.Overlaps l) m = overlap (plain m) (plain l)
takes_part all (causes.SharesSlot l) m = share_slot (plain m) (plain l)
takes_part all (causes.IsTwin l) m = are_twins (plain m) (plain l)
takes_part all (causes.Absent s) m = is_named s m
takes_part all (causes.Unlike s) m = was_there s m
takes_part all (causes.Beaten s) m = has_matched s m || beats_some all s m
takes_part all (causes.Missed l) m = beats (look_of l) 1 (plain m)
takes_part all (causes.NoneInto bucket) m = m.bucket == bucket
takes_part all (causes.NoneIn slot) m = m.slot == slot
takes_part all _ m = false

-- which refutations rest on the shape of the tables, and which on commands that found no slot
abbrev pub tells_shape : Cause → Bool
tells_shape (causes.Stray home) = true
tells_shape (causes.OtherChain connected listening anywhere) = true
tells_shape (causes.OtherLength links) = true
tells_shape _ = false

abbrev pub tells_vain : Cause → Bool
tells_vain (causes.Uncounted changes vain clock) = true
tells_vain _ = false

-- the line has a part in that refutation of a record with these lines
abbrev pub has_part : List Line → Cause → Line → Bool
has_part all cause (lines.Life l) = takes_part all cause l
has_part all cause (lines.Shape shape seed) = tells_shape cause
has_part all cause (lines.Reply vain) = vain && tells_vain cause
has_part all cause line = false
