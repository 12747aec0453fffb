-- Which answers of lookups some changes explain: our own, after the rule of Documentation/RCU/rculist_nulls.rst that
-- a lookup which ends in another chain, or meets what is no longer there, starts again.
--
-- To be read from `IsExplained`, at the end, upwards. `NamesItsBucket` is cited beside it, and `anywhere` and
-- `IsExplainedIn` are what laws cite.
use Rattle.std.specs.Prelude.{◌≡◌, ◌≢◌, ℕ, ◌+◌, ◌≤◌, List, [], ◌∷◌}
use Rattle.sock_card.specs.declared.card.Card.{Card}
use Rattle.sock_card.specs.declared.card.Packet.{Packet}
use Rattle.sock_card.specs.Rank.{rank}
use Rattle.chain_book.specs.declared.book.Change.{Change}
use Rattle.chain_book.specs.declared.book.PassEnd.{PassEnd}
use Rattle.chain_book.specs.declared.book.PassEnd.TheVariants as ends
use Rattle.chain_book.specs.declared.book.PacketAnswer.{PacketAnswer}
use Rattle.chain_book.specs.declared.book.PacketAnswer.TheVariants as answers
use Rattle.chain_book.specs.declared.book.Receipt.{Receipt}
use Rattle.chain_book.specs.declared.shape.Shape.{Shape}
use Rattle.chain_book.specs.Homes.{home, packet_home, listen_home}
use Rattle.race_book.specs.Among.{Among}
use Rattle.race_book.specs.Lives.{IsLife, IsHash, Throughout, Stood, Meets}

-- which lives a lookup is answerable for, and the least rank that it seeks
pub record Sought : Type 1 where
  pub Counts : Change → Type 0
  pub least : ℕ

abbrev pub IsHashInto : ℕ → Change → Type 0
IsHashInto bucket c = IsHash c × (c.bucket ≡ bucket)

abbrev pub IsOfSlot : ℕ → Change → Type 0
IsOfSlot slot c = c.slot ≡ slot

module _ (In : Change → Type 0) where
  -- a change of that sort was under way during the call
  pub record MeetsSome (Sort : Change → Type 0) (t0 t1 : ℕ) : Type 0 where
    pub change : Change
    pub there : In change
    pub sort : Sort change
    pub meets : Meets change t0 t1

  module _ (sought : Sought) (packet : Packet) (t0 t1 : ℕ) where
    -- none of the lives that count, of that rank or a greater one, was there throughout
    abbrev pub NoneFrom : ℕ → Type 0
    NoneFrom least =
        (h : Change) → IsLife In h → sought.Counts h → least ≤ rank h.card packet → ¬ (Throughout In h t0 t1)

    -- a card may be found: it stood, it matches, and nothing that matches better was there throughout
    pub record MayFind (card : Card) : Type 0 where
      pub life : Change
      pub is : IsLife In life
      pub same : life.card ≡ card
      pub stood : Stood In life t0 t1
      pub enough : sought.least ≤ rank card packet
      pub best : NoneFrom (rank card packet + 1)

    -- nothing may be found
    abbrev pub MayMiss : Type 0
    MayMiss = NoneFrom sought.least

  -- a pass through that bucket may end so
  abbrev pub MayEnd : ℕ → ℕ → ℕ → ℕ → PassEnd → Type 0
  MayEnd slots bucket t0 t1 (ends.Foreign other) = (other ≢ bucket) × MeetsSome (IsHashInto other) t0 t1
  MayEnd slots bucket t0 t1 (ends.Dead slot) = MeetsSome (IsOfSlot slot) t0 t1
  MayEnd slots bucket t0 t1 (ends.Changed slot) = MeetsSome (IsOfSlot slot) t0 t1
  MayEnd slots bucket t0 t1 (ends.Long n) = (n ≡ slots + 1) × MeetsSome IsHash t0 t1

  -- the answer of a lookup with so many slots
  abbrev pub MayAnswer : Sought → ℕ → Packet → ℕ → ℕ → PacketAnswer → Type 0
  MayAnswer sought slots packet t0 t1 (answers.Found card) = MayFind sought packet t0 t1 card
  MayAnswer sought slots packet t0 t1 answers.None = MayMiss sought packet t0 t1
  MayAnswer sought slots packet t0 t1 (answers.Again bucket end) = MayEnd slots bucket t0 t1 end

-- the life stands in its card's home by that seed
abbrev pub IsAtHome : Shape → ℕ → Change → Type 0
IsAtHome shape seed h = h.bucket ≡ home shape seed h.card

-- the buckets through which a packet's lookup goes: of the connected sockets, of the listeners at its address, and of
-- those at 0.0.0.0
abbrev pub buckets_of : Shape → ℕ → Packet → List ℕ
buckets_of shape seed packet =
    packet_home shape seed packet ∷ listen_home shape seed packet.dst packet.dport packet.net
    ∷ listen_home shape seed 0 packet.dport packet.net ∷ []

-- a lookup that was given up names the one of them in which it was
abbrev pub NamesItsBucket : Shape → ℕ → Packet → PacketAnswer → Type 0
NamesItsBucket shape seed packet (answers.Again bucket end) = Among (buckets_of shape seed packet) bucket
NamesItsBucket shape seed packet _ = Unit {0}

-- one bucket's lives, of that rank or a greater one
abbrev pub in_bucket : ℕ → ℕ → Sought
in_bucket bucket least = record { Counts = λ h. h.bucket ≡ bucket; least = least }

-- all lives that stand in their homes, of any rank but 0
abbrev pub at_home : Shape → ℕ → Sought
at_home shape seed = record { Counts = IsAtHome shape seed; least = 1 }

-- all lives
abbrev pub anywhere : Sought
anywhere = record { Counts = λ h. Unit {0}; least = 1 }

module _ (In : Change → Type 0) where
  -- the answer of one call in one bucket
  abbrev pub IsExplainedIn : Shape → ℕ → ℕ → Packet → ℕ → ℕ → PacketAnswer → Type 0
  IsExplainedIn shape bucket least packet t0 t1 answer =
      MayAnswer In (in_bucket bucket least) shape.slots packet t0 t1 answer

  -- the receipt of a packet's lookup in tables of that shape
  abbrev pub IsExplained : Shape → Receipt → Type 0
  IsExplained shape r = MayAnswer In (at_home shape r.seed) shape.slots r.packet r.t0 r.t1 r.answer
