-- Many lookups by one looker, one after the other, as numbers. Our own.
--
-- To be read from `LooksMany` upwards.
use Rattle.std.specs.Prelude.{◌≡◌, ℕ, ◌/◌, ◌%◌, ◌^◌, List, [], ◌∷◌, Option, None, Some}
use Rattle.sock_card.specs.declared.card.Packet.{Packet}
use Rattle.chain_book.specs.declared.book.PacketAnswer.{PacketAnswer}
use Rattle.chain_book.specs.declared.book.PacketAnswer.TheVariants as answers
use Rattle.chain_book.specs.declared.book.PacketLook.{PacketLook}
use Rattle.flat_calls.specs.Sights.{kind_of}
use Rattle.shared_calls.specs.Lookings.{Looking, LooksAfter}
use Rattle.shared_calls.specs.declared.batch.Asking.{Asking}
use Rattle.shared_calls.specs.declared.batch.Sighting.{Sighting}

-- the packet that is asked about
abbrev pub packet_of : Asking → Packet
packet_of a = record { src = a.src; sport = a.sport; dst = a.dst; dport = a.dport; dev = a.dev; net = a.net }

-- no socket; and no answer
abbrev pub nobody : Sighting
nobody = record { kind = 0; worker = 0; socket = 0; mark = 0 }

abbrev pub again : Sighting
again = record { kind = 7; worker = 0; socket = 0; mark = 0 }

-- the socket that was found, by its name: its caller's number above, and its own in the lower 56 bits; and its mark
abbrev pub told_by : PacketAnswer → Sighting
told_by (answers.Found card) =
    record { kind = kind_of card.kind; worker = card.name / 2 ^ 56; socket = card.name % 2 ^ 56; mark = card.mark }
told_by answers.None = nobody
told_by (answers.Again bucket stop) = again

abbrev pub told_of : Option PacketLook → Sighting
told_of None = again
told_of (Some look) = told_by look.end

-- one lookup, and what is told of it
pub record Sees (passes after : ℕ) (old : Looking) (asking : Asking) (sighting : Sighting) (new : Looking) : Type 0
  where
    pub found : Option PacketLook
    pub looks : LooksAfter old new (packet_of asking) passes after found
    pub told : sighting ≡ told_of found

-- a lookup for each, in their order, each told at its place
abbrev pub LooksMany : (passes after : ℕ) → Looking → List Asking → List Sighting → Looking → Type 0
LooksMany passes after old [] [] new = new ≡ old
LooksMany passes after old (a ∷ more) (s ∷ ss) new =
    (between : Looking) × Sees passes after old a s between × LooksMany passes after between more ss new
LooksMany passes after old _ _ new = ⊥
