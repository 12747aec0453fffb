-- The receipt of a whole lookup follows from the pass's own receipts and sightings.
use Rattle.std.proofs.Common.{◌≡◌, ℕ, ◌<◌, ◌≤◌, List, [], inl, inr, ⊎_elim, length, sym, ap, ◌∙◌, subst, arith, slice_index}
use mathlib.Core.Logic.{dite}
use native.Mathlib.Decide.{dec_le}
use mathlib.Core.Option.{some}
use lib.ListN.{get_elem?}
use Rattle.list_words.proofs.EachLemmas.{each_weaken, each_back}
use Rattle.list_words.specs.Lists.{Each}
use Rattle.sock_card.specs.Rank.{rank}
use Rattle.sock_card.specs.declared.card.Packet.{Packet}
use Rattle.sock_card.proofs.Most.{word_rank_most, two_words}
use Rattle.chain_book.specs.Homes.{packet_home, listen_home}
use Rattle.chain_book.proofs.RankHomes.{five_home, high_home, low_home}
use Rattle.table_rule.specs.Words.{card_from, with_seed}
use Rattle.table_rule.specs.Book.{Life}
use Rattle.table_rule.specs.ReadersOk.{rank_of, SlotMet, HashMet, LeftMet, Strayed, LifeStood, NoneBetter, NoneAbove, CardStood, StopOk, ReceiptOk, SightedOk, WholeOk, ReadOk}
use Rattle.table_rule.specs.Wholes.{Clears, IsClear, FoundIn, SeenIn, StoppedIn, Follows}
use Rattle.table_rule.specs.declared.view.View.{View}
use Rattle.table_rule.specs.declared.view.ReadView.{ReadView}
use Rattle.table_rule.specs.declared.view.Layout.{Layout}
use Rattle.table_rule.specs.declared.view.Stop.{Stop}
use Rattle.table_rule.specs.declared.view.Whole.{Whole}
use Rattle.table_rule.specs.declared.view.Receipt.{Receipt}
use Rattle.table_rule.proofs.CardSteps.{each_at}

-- what is said of a part of a span holds of the whole
module _ (lives : ℕ → List Life) (t₀ s₀ s₁ t₁ : ℕ) (later : t₀ ≤ s₀) (sooner : s₁ ≤ t₁) where
  wide_slot : (i : ℕ) → SlotMet lives s₀ s₁ i → SlotMet lives t₀ t₁ i
  wide_slot i m = record { nth = m.nth; life = m.life; there = m.there; meets = ⊎_elim (λ z. inl (omega (arith, z.0), omega (arith, z.1))) (λ z. inr (omega (arith, z.0), omega (arith, z.1))) m.meets }

  wide_hash : (P : ℕ → Type 0) → HashMet lives s₀ s₁ P → HashMet lives t₀ t₁ P
  wide_hash P m = record { slot = m.slot; nth = m.nth; life = m.life; there = m.there; bucket = m.bucket; meets = let z = m.meets in (omega (arith, z.0), omega (arith, z.1)) }

  wide_strayed : (bucket : ℕ) → Strayed lives s₀ s₁ bucket → Strayed lives t₀ t₁ bucket
  wide_strayed bucket m = record {
    slot = m.slot;
    from = let l = m.from in record { nth = l.nth; life = l.life; there = l.there; bucket-is = l.bucket-is; left = let z = l.left in (omega (arith, z.0), omega (arith, z.1)) };
    again = m.again;
    later = m.later;
    there = m.there;
    after = m.after;
    hashed = let z = m.hashed in (omega (arith, z.0), omega (arith, z.1));
  }

  wide_stood : (bucket i : ℕ) → LifeStood lives s₀ s₁ bucket i → LifeStood lives t₀ t₁ bucket i
  wide_stood bucket i m = record { nth = m.nth; life = m.life; there = m.there; bucket-is = m.bucket-is; begun = let z = m.begun in omega arith; left = let z = m.left in omega arith }

  wide_stop : (slots bucket : ℕ) (e : Stop) → StopOk lives s₀ s₁ slots bucket e → StopOk lives t₀ t₁ slots bucket e
  wide_stop slots bucket e o = record {
    known = o.known;
    foreign = λ k. let t = o.foreign k in (t.0, wide_hash (λ b. b ≡ e.at) t.1);
    slot = λ k. wide_slot e.at (o.slot k);
    long = λ k. let t = o.long k in (t.0, wide_hash (λ b. Unit {0}) t.1);
    dead = λ k. let t = o.dead k in (⊎_elim (λ z. inl (wide_stood bucket e.at z)) (λ z. inr (wide_strayed bucket z)) t.0, λ n x there before still. t.1 n x there (omega arith) (omega arith));
    astray = λ k. wide_strayed bucket (o.astray k);
  }

  wide_card : (card : List ℕ) → CardStood lives s₀ s₁ card → CardStood lives t₀ t₁ card
  wide_card card o = record { slot = o.slot; nth = o.nth; life = o.life; there = o.there; card-is = o.card-is; begun = let z = o.begun in omega arith; left = let z = o.left in omega arith; newest = λ k y e lt. let z = o.newest k y e lt in omega arith }

-- a rank of the words is that of the card that they say
pub words_rank : (key : Packet) (ws : List ℕ) → rank_of key ws ≡ rank (card_from ws) key
words_rank key ws = two_words (record { ends = slice_index ws 0; ports = slice_index ws 1; name = slice_index ws 2; extra = slice_index ws 3 }) key

module _ (layout : Layout) (lives : ℕ → List Life) (clock : ℕ) (v : ReadView) (receipts : Each (ReceiptOk layout.shape.slots lives clock) v.receipts) (sighted : Each (SightedOk lives clock) v.sighted) where
  receipt_at : (n : ℕ) (c : Receipt) → get_elem? v.receipts n ≡ some c → ReceiptOk layout.shape.slots lives clock c
  receipt_at n c e = each_at (ReceiptOk layout.shape.slots lives clock) v.receipts n c receipts e

  -- a bucket that was cleared has no such life
  cleared : (key : Packet) (from bucket least best : ℕ) → Clears v key from bucket least best → (i n : ℕ) (x : Life) → get_elem? (lives i) n ≡ some x → x.bucket ≡ bucket → least ≤ rank_of key x.card → best < rank_of key x.card → x.linked < from → clock ≤ x.leaving → ⊥
  cleared key from bucket least best c i n x e at enough better before still =
      let ok = receipt_at c.nth c.receipt c.there in
      let same : rank_of c.receipt.key x.card ≡ rank_of key x.card = ap (λ (k : Packet). rank_of k x.card) c.key-is in
      let found : rank_of c.receipt.key c.receipt.card ≡ rank_of key c.receipt.card = ap (λ (k : Packet). rank_of k c.receipt.card) c.key-is in
      let go : (b : ℕ) → b ≤ best → NoneBetter lives c.receipt.from c.receipt.to c.receipt.bucket c.receipt.key c.receipt.least b → ⊥ = λ b low none.
      none i n x e (at ∙ sym c.bucket-is) (omega (arith, enough, same, c.enough)) (omega (arith, better, same, low)) (omega (arith, before, c.later)) (omega (arith, still, ok.span.1)) in
      ⊎_elim (λ z. go 0 (omega arith) (ok.none z)) (λ z. go (rank_of c.receipt.key c.receipt.card) (omega (arith, z.1, found)) (ok.found z.0).3) c.how

  none_above : (homes : Layout) (key : Packet) (from best : ℕ) → IsClear v homes key from best → NoneAbove lives from clock homes key best
  none_above homes key from best c i n x e home better before still =
      let card = card_from x.card in
      let is : rank_of key x.card ≡ rank card key = words_rank key x.card in
      let small : rank_of key x.card ≤ 5 = word_rank_most key (slice_index x.card 0) (slice_index x.card 1) in
      dite (dec_le 5 (rank_of key x.card))
      (λ five. ⊎_elim (λ z. omega (arith, z, small, better)) (λ z. cleared key from (packet_home homes.shape homes.seed key) 5 best z i n x e (home ∙ five_home homes.shape homes.seed card key (omega (arith, five, is))) five better before still) c.five)
      (λ not-five. dite (dec_le 3 (rank_of key x.card))
      (λ three. ⊎_elim (λ z. not-five (omega (arith, z, better))) (λ z. cleared key from (listen_home homes.shape homes.seed key.dst key.dport key.net) 3 best z i n x e (home ∙ high_home homes.shape homes.seed card key (omega (arith, three, is)) (omega (arith, not-five, is))) three better before still) c.three)
      (λ not-three. let low : rank_of key x.card ≤ 2 = omega (arith, not-three) in let some-rank : 1 ≤ rank_of key x.card = omega (arith, better) in
      ⊎_elim (λ z. omega (arith, z, low, better)) (λ z. cleared key from (listen_home homes.shape homes.seed 0 key.dport key.net) 1 best z i n x e (home ∙ low_home homes.shape homes.seed card key (omega (arith, some-rank, is)) (omega (arith, low, is))) some-rank better before still) c.one))

  found_stood : (from : ℕ) (card : List ℕ) → FoundIn v from card → CardStood lives from clock card × (0 < length card)
  found_stood from card f = let ok = receipt_at f.nth f.receipt f.there in let t = ok.found f.found in
      subst (λ (k : List ℕ). CardStood lives from clock k × (0 < length k)) f.card-is (wide_card lives from f.receipt.from f.receipt.to clock f.later ok.span.1 f.receipt.card t.0, t.2)

  seen_stood : (from : ℕ) (card : List ℕ) → SeenIn v from card → CardStood lives from clock card × (0 < length card)
  seen_stood from card f = let ok = each_at (SightedOk lives clock) v.sighted f.nth f.sighted sighted f.there in
      subst (λ (k : List ℕ). CardStood lives from clock k × (0 < length k)) f.card-is (wide_card lives from f.sighted.since clock clock f.later (omega arith) f.sighted.card ok.stood, ok.some-words)

  stopped_ok : (from bucket : ℕ) (last : List Stop) → StoppedIn v from bucket last → Each (StopOk lives from clock layout.shape.slots bucket) last
  stopped_ok from bucket last s = let ok = receipt_at s.nth s.receipt s.there in
      let all = subst (Each (StopOk lives s.receipt.from s.receipt.to layout.shape.slots s.receipt.bucket)) s.stops-are (ok.again s.stopped).1 in
      subst (λ (b : ℕ). Each (StopOk lives from clock layout.shape.slots b) last) s.bucket-is
      (each_weaken (StopOk lives s.receipt.from s.receipt.to layout.shape.slots s.receipt.bucket) (StopOk lives from clock layout.shape.slots s.receipt.bucket) last (wide_stop lives from s.receipt.from s.receipt.to clock s.later ok.span.1 layout.shape.slots s.receipt.bucket) (each_back (StopOk lives s.receipt.from s.receipt.to layout.shape.slots s.receipt.bucket) s.front last all))

-- the receipt of a whole lookup holds
pub follows_ok : (layout : Layout) (next : ℕ → ℕ) (chain : ℕ → List ℕ) (card : ℕ → ℕ → ℕ) (lives : ℕ → List Life) (clock : ℕ) (v : View) (c : Whole) → v.layout ≡ layout → v.seen ≤ clock → ReadOk layout next chain card lives clock v.read → Follows v c → WholeOk layout lives clock (record c { to = clock })
follows_ok layout next chain card lives clock v c own seen ok f =
    let clear : (best : ℕ) → IsClear v.read (with_seed v.layout c.seed) c.key c.from best → NoneAbove lives c.from clock (with_seed layout c.seed) c.key best = λ best z.
    none_above layout lives clock v.read ok.receipts ok.sighted (with_seed layout c.seed) c.key c.from best (subst (λ (g : Layout). IsClear v.read (with_seed g c.seed) c.key c.from best) own z) in
    record {
      span = let z = f.low in (omega arith, omega arith);
      none = λ k. clear 0 (f.none k);
      found = λ k. let t = f.found k in
          let s = ⊎_elim (found_stood layout lives clock v.read ok.receipts ok.sighted c.from c.card) (seen_stood layout lives clock v.read ok.receipts ok.sighted c.from c.card) t.0 in
          (s.0, t.1, s.1, clear (rank_of c.key c.card) t.2);
      again = λ k. let t = f.again k in (t.0, stopped_ok layout lives clock v.read ok.receipts ok.sighted c.from c.bucket c.stops t.1);
    }
