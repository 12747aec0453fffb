-- What lookers reported of the items of a capture, by the receipts of their passes: our own.
--
-- To be read from `HasLooked` upwards: the contract of a looker's share cites it. What stands below it is cited by
-- Laws, Looking and Finished.
use Rattle.std.specs.Prelude.{◌≡◌, ℕ, ◌+◌, ◌<◌, ◌≤◌, List, [], ◌∷◌, ◌++◌, length, map}
use Rattle.std.specs.List.{flat_map, slice_index_or}
use Rattle.list_words.specs.Lists.{Each, Pairs, SameItems}
use Rattle.turn_table.specs.Journals.{numbers_below}
use Rattle.bind_buckets.specs.Turned.{View as BindView}
use Rattle.sock_card.specs.declared.card.Packet.{Packet}
use Rattle.sock_card.specs.Words.{packed, unpacked}
use Rattle.chain_book.specs.declared.book.PacketAnswer.{PacketAnswer}
use Rattle.chain_book.specs.declared.book.PacketAnswer.TheVariants as answers
use Rattle.chain_book.specs.declared.book.Receipt.{Receipt}
use Rattle.capture_reader.specs.declared.packet.Item.{Item}
use Rattle.capture_reader.specs.declared.packet.Item.TheVariants as items
use Rattle.capture_reader.specs.Captures.{Capture}
use Rattle.flat_list.specs.declared.header.Header.{Header}
use Rattle.table_rule.specs.Plays.{Sat}
use Rattle.table_rule.specs.Wholes.{whole_of}
use Rattle.table_rule.specs.declared.view.ReadView.{ReadView}
use Rattle.table_rule.specs.declared.view.Receipt.{Receipt as Search}
use Rattle.table_rule.specs.declared.view.View.{View}
use Rattle.table_rule.specs.declared.view.Whole.{Whole}
use Rattle.race_book.specs.Among.{Among}
use Rattle.race_book.specs.Explained.{NamesItsBucket}
use Rattle.race_record.specs.declared.record.Looked.{Looked}
use Rattle.race_record.specs.declared.record.Looked.TheVariants as looks
use Rattle.race_record.specs.Lawful.{Follows, looked_at}
use Rattle.demux.specs.Concludes.{Concluded}
use Rattle.race_run.specs.declared.looker.Look.{Look}
use Rattle.race_run.specs.Joins.{Part}
use Rattle.race_run.specs.Races.{HasOnlyLooked, Looks}
use Rattle.race_run.specs.Searches.{HasSearched, LooksAfter, WasHeld, WentInStages}

-- a packet's receipt, as a pass keeps it
abbrev pub whole_for : Receipt → Whole
whole_for r = record (whole_of r.packet r.seed r.t0 r.answer) { to = r.t1 }

-- the card that was found is the one that its words say
abbrev pub IsTold : PacketAnswer → Type 0
IsTold (answers.Found card) = unpacked (packed card) ≡ card
IsTold _ = Unit {0}

-- the packet's receipt, which is among those of a pass, as are those of the searches by which it went
pub record IsLookup (header : Header) (read : ReadView) (seen : ℕ) (packet : Packet) (r : Receipt) : Type 0 where
  pub packet_is : r.packet ≡ packet
  pub seed_is : r.seed ≡ header.seed
  pub order : r.t0 ≤ r.t1
  pub most : r.t1 ≤ seen
  pub there : Among read.wholes (whole_for r)
  pub stages : WentInStages read.receipts header.shape header.seed packet r.t0 r.t1 r.answer
  pub held : WasHeld read r.t0 r.answer
  pub told : IsTold r.answer
  pub bucket : NamesItsBucket header.shape header.seed packet r.answer

-- what came of an item: the receipt of its packet, or that it is no packet
abbrev pub IsLooked : Header → ReadView → ℕ → Item → Looked → Type 0
IsLooked header read seen (items.Packet packet) (looks.Answered r) = IsLookup header read seen packet r
IsLooked header read seen items.Skip looks.Skip = Unit {0}
IsLooked header read seen items.Short looks.Short = Unit {0}
IsLooked header read seen _ _ = ⊥

abbrev pub item_at : List Item → ℕ → Item
item_at all i = slice_index_or all i items.Skip

abbrev pub item_of : Look → ℕ
item_of k = k.item

-- its items ascend, and it took one after the other
abbrev pub Before : Look → Look → Type 0
Before k later = (k.item < later.item) × Follows k.looked later.looked

-- no packet was looked up
abbrev pub IsIdle : Looked → Type 0
IsIdle (looks.Answered r) = ⊥
IsIdle _ = Unit {0}

-- a looker looked these items up, with so many passes a lookup, and did nothing else: it took counts only if one of
-- them was a packet
pub record HasLooked (header : Header) (passes : ℕ) (all : List Item) (p : Part) (took : List Look) : Type 0 where
  pub each : Each (λ (k : Look). IsLooked header p.chain.read p.chain.seen (item_at all k.item) k.looked) took
  pub turns : Pairs Before took
  pub searched : HasSearched passes p.chain.read.receipts took
  pub only : HasOnlyLooked p
  pub idle : Each (λ (k : Look). IsIdle k.looked) took → p.chain.slot.taken ≡ 0

-- it has looked nothing up yet
pub record HasLookedNothingUp (p : Part) : Type 0 where
  pub only : HasOnlyLooked p
  pub receipts : p.chain.read.receipts ≡ []
  pub taken : p.chain.slot.taken ≡ 0

-- so did all lookers, of which the first has that number
abbrev pub AllLooked : Header → (passes : ℕ) → List Item → (ℕ → Part) → ℕ → List (List Look) → Type 0
AllLooked header passes all part n [] = Unit {0}
AllLooked header passes all part n (took ∷ rest) =
    HasLooked header passes all (part n) took × AllLooked header passes all part (n + 1) rest

-- each item was taken once, and what is reported of it is what came of it
pub record AreTold (all : List Item) (tooks : List (List Look)) (looked : List Looked) : Type 0 where
  pub count : length looked ≡ length all
  pub once : SameItems (flat_map (λ took. map item_of took) tooks) (numbers_below (length all))
  pub told : Each (λ took. Each (λ (k : Look). looked_at looked k.item ≡ k.looked) took) tooks

-- what is recorded of lookups
abbrev pub looks_by : ℕ → List (List Look) → List Looked → Capture → Looks
looks_by passes tooks looked capture =
    record {
      lookers = length tooks;
      passes = passes;
      looked = looked;
      shares = map (λ took. map item_of took) tooks;
      cut = capture.cut;
    }

-- a packet was looked up, with so many passes: nothing else is left than one receipt of it more, and those of the
-- searches by which it went
pub record LookedUp (header : Header) (passes : ℕ) (packet : Packet) (m n : Sat) (r : Receipt) : Type 0 where
  pub concluded : Concluded m (whole_for r) n
  pub packet_is : r.packet ≡ packet
  pub seed_is : r.seed ≡ header.seed
  pub fresh : m.0.seen ≤ r.t0
  pub order : r.t0 ≤ r.t1
  pub told : IsTold r.answer
  pub bucket : NamesItsBucket header.shape header.seed packet r.answer
  pub searches : List Search
  pub searched : n.0.read.receipts ≡ m.0.read.receipts ++ searches
  pub after : LooksAfter passes searches (looks.Answered r)
  pub stages : WentInStages n.0.read.receipts header.shape header.seed packet r.t0 r.t1 r.answer
  pub held : WasHeld n.0.read r.t0 r.answer

-- the chains' view of a looker
abbrev pub looking : BindView → View → Part
looking v x = record { turns = v; chain = x }

-- the items that were taken come before that one
abbrev pub AllBefore : ℕ → List Look → Type 0
AllBefore i took = Each (λ (k : Look). k.item < i) took

-- an item of which nothing can be looked up
abbrev pub IsPassedOver : Item → Looked → Type 0
IsPassedOver items.Skip looks.Skip = Unit {0}
IsPassedOver items.Short looks.Short = Unit {0}
IsPassedOver _ _ = ⊥
