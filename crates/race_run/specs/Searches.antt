-- What the lookups of a looker searched, after how many passes they were given up, under which counts they read what
-- they found, and by which searches, one chain after the other, they came to their answers: our own.
use Rattle.std.specs.Prelude.{◌≡◌, ℕ, ◌≤◌, ◌⊎◌, List, [], ◌∷◌, ◌++◌, length}
use Rattle.std.specs.List.{flat_map}
use Rattle.sock_card.specs.declared.card.Card.{Card}
use Rattle.sock_card.specs.declared.card.Packet.{Packet}
use Rattle.sock_card.specs.Words.{packed}
use Rattle.chain_book.specs.declared.book.PacketAnswer.{PacketAnswer}
use Rattle.chain_book.specs.declared.book.PacketAnswer.TheVariants as answers
use Rattle.chain_book.specs.declared.book.PassEnd.{PassEnd}
use Rattle.chain_book.specs.declared.shape.Shape.{Shape}
use Rattle.chain_book.specs.Homes.{packet_home, listen_home}
use Rattle.race_book.specs.Among.{Among}
use Rattle.race_record.specs.declared.record.Looked.{Looked}
use Rattle.race_record.specs.declared.record.Looked.TheVariants as looks
use Rattle.table_rule.specs.ReadersOk.{rank_of}
use Rattle.table_rule.specs.Wholes.{stop_of, FoundIn, SeenIn}
use Rattle.table_rule.specs.Words.{words_of}
use Rattle.table_rule.specs.declared.view.ReadView.{ReadView}
use Rattle.table_rule.specs.declared.view.Receipt.{Receipt as Search}
use Rattle.table_rule.specs.declared.view.Stop.{Stop}
use Rattle.race_run.specs.declared.looker.Look.{Look}

-- The last of these searches was for the packet in that chain, and made exactly so many passes: each of them stopped,
-- the last one so.
pub record GaveUpAfter (passes : ℕ) (searches : List Search) (packet : Packet) (bucket : ℕ) (end : PassEnd)
    : Type 0 where
  pub earlier : List Search
  pub last : Search
  pub searches_are : searches ≡ earlier ++ last ∷ []
  pub packet_is : last.key ≡ packet
  pub bucket_is : last.bucket ≡ bucket
  pub stopped : last.kind ≡ 2
  pub count : length last.stops ≡ passes
  pub front : List Stop
  pub stops_are : last.stops ≡ front ++ stop_of end ∷ []

-- a packet's lookup by these searches: where it was given up, it was after so many passes
abbrev pub AnswersAfter : (passes : ℕ) → List Search → Packet → PacketAnswer → Type 0
AnswersAfter passes searches packet (answers.Again bucket end) = GaveUpAfter passes searches packet bucket end
AnswersAfter passes searches packet _ = Unit {0}

-- Where a socket was found, its whole card was read under a count that was taken while LIVE stood, at that number or
-- later: a search found it, or it is that of a group's member.
abbrev pub WasHeld : ReadView → (from : ℕ) → PacketAnswer → Type 0
WasHeld read from (answers.Found card) =
    FoundIn read from (words_of (packed card)) ⊎ SeenIn read from (words_of (packed card))
WasHeld read from _ = Unit {0}

-- an item's searches: of one that is no packet there are none
abbrev pub LooksAfter : (passes : ℕ) → List Search → Looked → Type 0
LooksAfter passes searches (looks.Answered r) = AnswersAfter passes searches r.packet r.answer
LooksAfter passes searches _ = searches ≡ []

-- those of each of these items
abbrev pub AllLookAfter : (passes : ℕ) → List (List Search) → List Look → Type 0
AllLookAfter passes [] [] = Unit {0}
AllLookAfter passes (searches ∷ rest) (k ∷ took) =
    LooksAfter passes searches k.looked × AllLookAfter passes rest took
AllLookAfter passes _ _ = ⊥

-- all searches of a looker, by its receipts of them, are those for these items, one item after the other
pub record HasSearched (passes : ℕ) (receipts : List Search) (took : List Look) : Type 0 where
  pub searches : List (List Search)
  pub all : receipts ≡ flat_map (λ (mine : List Search). mine) searches
  pub each : AllLookAfter passes searches took

-- One of these searches was for the packet in that chain, with ranks from that one; it didn't begin before the first
-- number, nor end behind the second; and so it ended.
pub record SearchedIn (searches : List Search) (packet : Packet) (bucket least t0 t1 : ℕ) (Ended : Search → Type 0)
    : Type 0 where
  pub search : Search
  pub there : Among searches search
  pub key : search.key ≡ packet
  pub bucket_is : search.bucket ≡ bucket
  pub least_is : search.least ≡ least
  pub begins : t0 ≤ search.from
  pub ends : search.to ≤ t1
  pub ended : Ended search

-- it found nothing
abbrev pub FoundNone : Search → Type 0
FoundNone s = s.kind ≡ 0

-- it found a card of that one's rank
abbrev pub FoundLike : Packet → Card → Search → Type 0
FoundLike packet card s = (s.kind ≡ 1) × (rank_of packet s.card ≡ rank_of packet (words_of (packed card)))

-- its passes stopped, the last one so
abbrev pub StoppedAt : PassEnd → Search → Type 0
StoppedAt end s = (s.kind ≡ 2) × (front : List Stop) × (s.stops ≡ front ++ stop_of end ∷ [])

module _ (searches : List Search) (packet : Packet) where
  -- one of them gave the answer
  abbrev pub Gave : (bucket least t0 t1 : ℕ) → PacketAnswer → Type 0
  Gave bucket least t0 t1 (answers.Found card) =
      SearchedIn searches packet bucket least t0 t1 (FoundLike packet card)
  Gave bucket least t0 t1 answers.None = ⊥
  Gave bucket least t0 t1 (answers.Again at end) =
      (at ≡ bucket) × SearchedIn searches packet bucket least t0 t1 (StoppedAt end)

  -- so did the last one, or it found nothing either
  abbrev pub GaveLast : (bucket least t0 t1 : ℕ) → PacketAnswer → Type 0
  GaveLast bucket least t0 t1 answers.None = SearchedIn searches packet bucket least t0 t1 FoundNone
  GaveLast bucket least t0 t1 answer = Gave bucket least t0 t1 answer

  -- it gave the answer, or found nothing up to some number, and the rest was from there on
  abbrev pub GaveOr : (bucket least t0 t1 : ℕ) → PacketAnswer → (ℕ → Type 0) → Type 0
  GaveOr bucket least t0 t1 answer Rest =
      Gave bucket least t0 t1 answer
      ⊎ ((x : ℕ) × (t0 ≤ x) × (x ≤ t1) × SearchedIn searches packet bucket least t0 x FoundNone × Rest x)

-- a packet's lookup went by these searches, one chain after the other
abbrev pub WentInStages : List Search → Shape → (seed : ℕ) → Packet → (t0 t1 : ℕ) → PacketAnswer → Type 0
WentInStages searches shape seed packet t0 t1 answer =
    GaveOr searches packet (packet_home shape seed packet) 5 t0 t1 answer
    (λ x. GaveOr searches packet (listen_home shape seed packet.dst packet.dport packet.net) 3 x t1 answer
    (λ y. GaveLast searches packet (listen_home shape seed 0 packet.dport packet.net) 1 y t1 answer))
