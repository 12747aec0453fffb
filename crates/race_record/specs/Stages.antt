-- The three lookups of a packet, one after the other, each explained by its own chain in its own part of the span: our
-- own, by the order of __inet_lookup of include/net/inet_hashtables.h.
--
-- To be read from `IsInStages`, at the end, upwards. `IsOfItsTime` is cited beside it.
use Rattle.std.specs.Prelude.{◌≡◌, ℕ, ◌+◌, ◌<◌, ◌≤◌, ◌⊎◌}
use Rattle.sock_card.specs.declared.card.Card.{Card}
use Rattle.sock_card.specs.declared.card.Packet.{Packet}
use Rattle.sock_card.specs.Rank.{rank}
use Rattle.chain_book.specs.declared.book.Change.{Change}
use Rattle.chain_book.specs.declared.book.PassEnd.{PassEnd}
use Rattle.chain_book.specs.declared.book.PassEnd.TheVariants as ends
use Rattle.chain_book.specs.declared.book.PacketAnswer.{PacketAnswer}
use Rattle.chain_book.specs.declared.book.PacketAnswer.TheVariants as answers
use Rattle.chain_book.specs.declared.shape.Shape.{Shape}
use Rattle.chain_book.specs.Homes.{packet_home, listen_home}
use Rattle.race_book.specs.Explained.{NoneFrom, MayMiss, MayEnd, in_bucket}
use Rattle.race_book.specs.Lives.{IsLife, Ends, Meets, Stood, Throughout}

module _ (In : Change → Type 0) where
  -- A life of the chain was unhashed, and its slot used again, both during the call: this can lead a lookup of the
  -- chain astray.
  pub record LedAstray (bucket t0 t1 : ℕ) : Type 0 where
    pub life : Change
    pub is : IsLife In life
    pub bucket_is : life.bucket ≡ bucket
    pub unhash : Change
    pub ends : Ends In life unhash
    pub left : Meets unhash t0 t1
    pub again : Change
    pub again_is : IsLife In again
    pub slot_is : again.slot ≡ life.slot
    pub after : unhash.begin < again.end
    pub hashed : Meets again t0 t1

  -- a life of the chain stood in that slot
  pub record StoodThere (bucket slot t0 t1 : ℕ) : Type 0 where
    pub life : Change
    pub is : IsLife In life
    pub bucket_is : life.bucket ≡ bucket
    pub slot_is : life.slot ≡ slot
    pub stood : Stood In life t0 t1

  -- no life was in that slot throughout
  abbrev pub NoneStayed : (slot t0 t1 : ℕ) → Type 0
  NoneStayed slot t0 t1 = (h : Change) → IsLife In h → h.slot ≡ slot → ¬ (Throughout In h t0 t1)

  -- What can stop a pass through the chain. At a dead slot a card of the chain stood that didn't stay, or the lookup
  -- had been led astray; any other stop shows that it had been.
  abbrev pub CanStop : (bucket t0 t1 : ℕ) → PassEnd → Type 0
  CanStop bucket t0 t1 (ends.Dead slot) =
      (StoodThere bucket slot t0 t1 ⊎ LedAstray bucket t0 t1) × NoneStayed slot t0 t1
  CanStop bucket t0 t1 _ = LedAstray bucket t0 t1

  -- the card is that of a life that stood, and no later life of its slot had been hashed before the call
  pub record WasThere (card : Card) (t0 t1 : ℕ) : Type 0 where
    pub life : Change
    pub is : IsLife In life
    pub card_is : life.card ≡ card
    pub stood : Stood In life t0 t1
    pub newest : (g : Change) → IsLife In g → g.slot ≡ life.slot → life.end < g.end → t0 ≤ g.end

  -- what was found was there at that time
  abbrev pub IsOfItsTime : (t0 t1 : ℕ) → PacketAnswer → Type 0
  IsOfItsTime t0 t1 (answers.Found card) = WasThere card t0 t1
  IsOfItsTime t0 t1 _ = Unit {0}

module _ (In : Change → Type 0) (slots : ℕ) (packet : Packet) where
  -- no life in the chain of that rank or a greater one was there throughout
  abbrev pub Missed : (bucket least t0 t1 : ℕ) → Type 0
  Missed bucket least t0 t1 = MayMiss In (in_bucket bucket least) packet t0 t1

  -- The lookup of that chain gave the answer: it is of that rank or a greater one, and none better was in the chain
  -- throughout; or it was given up in that chain, for a cause there.
  abbrev pub Gave : (bucket least t0 t1 : ℕ) → PacketAnswer → Type 0
  Gave bucket least t0 t1 (answers.Found card) =
      (least ≤ rank card packet) × NoneFrom In (in_bucket bucket least) packet t0 t1 (rank card packet + 1)
  Gave bucket least t0 t1 answers.None = ⊥
  Gave bucket least t0 t1 (answers.Again at end) =
      (at ≡ bucket) × MayEnd In slots bucket t0 t1 end × CanStop In bucket t0 t1 end

  -- so did the last one, or it found nothing either
  abbrev pub GaveLast : (bucket least t0 t1 : ℕ) → PacketAnswer → Type 0
  GaveLast bucket least t0 t1 answers.None = Missed bucket least t0 t1
  GaveLast bucket least t0 t1 answer = Gave bucket least t0 t1 answer

  -- it gave the answer, or found nothing up to some number, and the rest was from there on
  abbrev pub GaveOr : (bucket least t0 t1 : ℕ) → PacketAnswer → (ℕ → Type 0) → Type 0
  GaveOr bucket least t0 t1 answer Rest =
      Gave bucket least t0 t1 answer
      ⊎ ((x : ℕ) × (t0 ≤ x) × (x ≤ t1) × Missed bucket least t0 x × Rest x)

-- the chain of connected sockets, that of the listeners at the packet's address, and that of those at 0.0.0.0
abbrev pub IsInStages : (Change → Type 0) → Shape → (seed : ℕ) → Packet → (t0 t1 : ℕ) → PacketAnswer → Type 0
IsInStages In shape seed packet t0 t1 answer =
    GaveOr In shape.slots packet (packet_home shape seed packet) 5 t0 t1 answer
    (λ x. GaveOr In shape.slots packet (listen_home shape seed packet.dst packet.dport packet.net) 3 x t1 answer
    (λ y. GaveLast In shape.slots packet (listen_home shape seed 0 packet.dport packet.net) 1 y t1 answer))
