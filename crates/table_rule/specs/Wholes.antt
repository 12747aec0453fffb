-- How the receipt of a whole lookup follows from a pass's own receipts and sightings. Our own.
use Rattle.std.specs.Prelude.{◌≡◌, ℕ, ◌<◌, ◌≤◌, List, [], ◌∷◌, ◌⊎◌, ◌++◌, length}
use mathlib.Core.Option.{some}
use lib.ListN.{get_elem?}
use Rattle.sock_card.specs.Words.{packed}
use Rattle.sock_card.specs.declared.card.Packet.{Packet}
use Rattle.chain_book.specs.Homes.{packet_home, listen_home}
use Rattle.chain_book.specs.declared.book.PassEnd.{PassEnd}
use Rattle.chain_book.specs.declared.book.PassEnd.TheVariants as ends
use Rattle.chain_book.specs.declared.book.PacketAnswer.{PacketAnswer}
use Rattle.chain_book.specs.declared.book.PacketAnswer.TheVariants as answers
use Rattle.table_rule.specs.Words.{words_of, with_seed}
use Rattle.table_rule.specs.declared.view.Layout.{Layout}
use Rattle.table_rule.specs.ReadersOk.{rank_of}
use Rattle.table_rule.specs.declared.view.View.{View}
use Rattle.table_rule.specs.declared.view.Receipt.{Receipt}
use Rattle.table_rule.specs.declared.view.ReadView.{ReadView}
use Rattle.table_rule.specs.declared.view.Sighted.{Sighted}
use Rattle.table_rule.specs.declared.view.Stop.{Stop}
use Rattle.table_rule.specs.declared.view.Whole.{Whole}

-- a receipt that began at this number or later says that the bucket had no card with a rank of at least this, and
-- above the best
pub record Clears (v : ReadView) (key : Packet) (from bucket least best : ℕ) : Type 0 where
  pub nth : ℕ
  pub receipt : Receipt
  pub there : get_elem? v.receipts nth ≡ some receipt
  pub key-is : receipt.key ≡ key
  pub bucket-is : receipt.bucket ≡ bucket
  pub enough : receipt.least ≤ least
  pub later : from ≤ receipt.from
  pub how : (receipt.kind ≡ 0) ⊎ ((receipt.kind ≡ 1) × (rank_of key receipt.card ≤ best))

-- none of the buckets where a card that matches the packet belongs had one above the best
pub record IsClear (v : ReadView) (layout : Layout) (key : Packet) (from best : ℕ) : Type 0 where
  pub five : (5 ≤ best) ⊎ Clears v key from (packet_home layout.shape layout.seed key) 5 best
  pub three : (4 ≤ best) ⊎ Clears v key from (listen_home layout.shape layout.seed key.dst key.dport key.net) 3 best
  pub one : (2 ≤ best) ⊎ Clears v key from (listen_home layout.shape layout.seed 0 key.dport key.net) 1 best

-- a receipt that began at this number or later found the card
pub record FoundIn (v : ReadView) (from : ℕ) (card : List ℕ) : Type 0 where
  pub nth : ℕ
  pub receipt : Receipt
  pub there : get_elem? v.receipts nth ≡ some receipt
  pub found : receipt.kind ≡ 1
  pub later : from ≤ receipt.from
  pub card-is : receipt.card ≡ card

-- the card was put, and its count taken at this number or later
pub record SeenIn (v : ReadView) (from : ℕ) (card : List ℕ) : Type 0 where
  pub nth : ℕ
  pub sighted : Sighted
  pub there : get_elem? v.sighted nth ≡ some sighted
  pub later : from ≤ sighted.since
  pub card-is : sighted.card ≡ card

-- in a receipt that began at this number or later each pass through the bucket stopped, the last ones so
pub record StoppedIn (v : ReadView) (from bucket : ℕ) (last : List Stop) : Type 0 where
  pub nth : ℕ
  pub receipt : Receipt
  pub there : get_elem? v.receipts nth ≡ some receipt
  pub stopped : receipt.kind ≡ 2
  pub bucket-is : receipt.bucket ≡ bucket
  pub later : from ≤ receipt.from
  pub front : List Stop
  pub stops-are : receipt.stops ≡ front ++ last

-- so the receipt of the whole lookup follows
pub record Follows (v : View) (c : Whole) : Type 0 where
  pub low : c.from ≤ v.seen
  pub none : c.kind ≡ 0 → IsClear v.read (with_seed v.layout c.seed) c.key c.from 0
  pub found : c.kind ≡ 1 → (FoundIn v.read c.from c.card ⊎ SeenIn v.read c.from c.card) × (1 ≤ rank_of c.key c.card)
      × IsClear v.read (with_seed v.layout c.seed) c.key c.from (rank_of c.key c.card)
  pub again : c.kind ≡ 2 → (0 < length c.stops) × StoppedIn v.read c.from c.bucket c.stops

-- how a pass ended, as a stop
abbrev pub stop_of : PassEnd → Stop
stop_of (ends.Foreign bucket) = record { kind = 0; at = bucket }
stop_of (ends.Dead slot) = record { kind = 1; at = slot }
stop_of (ends.Changed slot) = record { kind = 2; at = slot }
stop_of (ends.Long links) = record { kind = 3; at = links }

-- the receipt of an answer, but for its end
abbrev pub whole_of : Packet → (seed from : ℕ) → PacketAnswer → Whole
whole_of key seed from (answers.Found card) =
    record {
      key = key;
      seed = seed;
      from = from;
      to = 0;
      kind = 1;
      card = words_of (packed card);
      bucket = 0;
      stops = [];
    }
whole_of key seed from answers.None =
    record { key = key; seed = seed; from = from; to = 0; kind = 0; card = []; bucket = 0; stops = [] }
whole_of key seed from (answers.Again bucket end) =
    record {
      key = key;
      seed = seed;
      from = from;
      to = 0;
      kind = 2;
      card = [];
      bucket = bucket;
      stops = stop_of end ∷ [];
    }
