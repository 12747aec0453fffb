-- A card that no four-tuple keeps out is hashed into a chain that was walked, or no slot is free.
use Rattle.std.proofs.Common.{◌≡◌, ℕ, ◌<◌, ◌≤◌, ◌%◌, List, [], inl, inr, ⊎_elim, Result, Ok, Err, IfOk, IfErr, Bool, cond, ne_eqb, sym, ap, ◌∙◌, arith, subst}
use Rattle.list_words.specs.Lists.{Each}
use Rattle.sock_card.specs.Words.{packed, unpacked, number_of}
use Rattle.sock_card.specs.declared.card.Card.{Card}
use Rattle.sock_card.specs.declared.card.Kind.TheVariants as kinds
use Rattle.table_rule.specs.Lists.{stands}
use Rattle.table_rule.specs.Owners.{time_waits}
use Rattle.table_rule.specs.Plays.{beginning, dropping_beginning, card_in, PlacesListed}
use Rattle.table_rule.specs.Sole.{IsBare, FirstFree, AllUsed, IsRead}
use Rattle.table_rule.specs.declared.view.View.{View}
use Rattle.table_rule.specs.declared.view.ChainView.{ChainView}
use Rattle.table_rule.specs.declared.view.Layout.{Layout}
use Rattle.table_rule.specs.declared.view.Seen.{Seen}
use Rattle.sock_slots.specs.Claims.{IsFull}
use Rattle.sock_slots.specs.declared.fresh.Full.{Full}
use Rattle.bucket_locks.specs.Locks.{WalkKnown}
use Rattle.nulls_chain.specs.Changes.{Adds, Rest, IsAlone, IsPlaced, PlacesStay, hashed, Sees}
use Rattle.nulls_chain.specs.declared.keeping.Place.{Place}
use Rattle.nulls_chain.proofs.Changed.{places_kept, kind_alone}
use Rattle.established.specs.Rows.{card_words}
use Rattle.established.specs.Comings.{HashesTo}

pub listens_alone : (card : Card) (xs : List Seen) → card.kind ≡ kinds.Listen → IsAlone (packed card) xs
listens_alone card xs kind = kind_alone (packed card) xs (⊎_elim (λ full. omega (arith, ap number_of kind, full)) (λ request. omega (arith, ap number_of kind, request)))

pub waits_alone : (card : Card) (xs : List Seen) → card.kind ≡ kinds.TimeWait → IsAlone (packed card) xs
waits_alone card xs kind = kind_alone (packed card) xs (⊎_elim (λ full. omega (arith, ap number_of kind, full)) (λ request. omega (arith, ap number_of kind, request)))

-- what `hash` says of its answer
pub record Said (layout : Layout) (from b : ℕ) (card : Card) (v w : View) (r : Result Place Full) : Type 0 where
  pub told : unpacked (packed card) ≡ card
  pub some : IfOk r (λ p. (p.slot < layout.shape.slots) × (p.bucket ≡ b) × (p.card ≡ card))
  pub far : IfOk r (λ p. stands p.slot v.chain.walked ≡ 0)
  pub first : IfOk r (λ p. IsBare v → FirstFree v.book.closed layout.shape.slots from p.slot)
  pub chain : IfOk r (λ p. w.chain ≡ hashed v.chain p.slot (packed card))
  pub change : IfOk r (λ p. Adds v w 1 b p.slot (card_words card))
  pub saw : Sees v w
  pub rest : IfOk r (λ p. Rest v w)
  pub full : IfErr r (λ f. (x : ℕ) × (y : View) × IsFull layout (beginning v x) y f × (v.seen ≤ x) × (w ≡ dropping_beginning y))
  pub all : IfErr r (λ f. IsBare v → AllUsed v.book.closed 0 layout.shape.slots × (f.held ≡ 0))

pub hashes_to : (layout : Layout) (from b : ℕ) (card : Card) (v w : View) (r : Result Place Full) → Said layout from b card v w r → HashesTo layout from b card v.chain.walked r v w
hashes_to layout from b card v w (Ok place) s = record {
  bucket_is = s.some.1;
  card_is = s.some.2;
  slot = record { inside = s.some.0; far = s.far; first = s.first };
  comes = record { chain = s.chain; change = s.change; rest = s.rest; saw = s.saw; told = s.told };
}
hashes_to layout from b card v w (Err f) s =
    let t = s.full in record { begin = t.0; later = t.3; seen = t.1; full = t.2; is = t.4; alone = s.all }

-- where no slot was free, the walk is known as before
pub known_still : (layout : Layout) (v w : View) → w.chain ≡ v.chain → w.book.closed ≡ v.book.closed → v.book.opened ≡ [] → WalkKnown layout v → WalkKnown layout w
known_still layout v w chain closed opened k = (
  subst (λ (x : ChainView). Each IsRead x.walked) (sym chain) k.0,
  subst (λ (x : ChainView). Each (λ (s : Seen). s.slot < layout.shape.slots) x.walked) (sym chain) k.1,
  subst (λ (x : ChainView). (i : ℕ) → stands i x.walked ≤ 1) (sym chain) k.2,
  ⊎_elim (λ z. inl (ap (λ (x : ChainView). x.met) chain ∙ z)) (λ l. inr (listed l)) k.3,
)
  where
    listed : PlacesListed v → PlacesListed w
    listed l b h had met place at =
        subst (λ (x : ChainView). (0 < stands h.slot x.walked) × (Each IsRead x.walked → card_in h.slot x.walked ≡ h.card)) (sym chain)
        (l b h (ap (λ (x : ChainView). x.locked) (sym chain) ∙ had) (ap (λ (x : ChainView). x.met) (sym chain) ∙ met) (places_kept w v h (sym closed) opened place) at)

pub full_chain : (layout : Layout) (v w : View) (f : Full) (x : ℕ) (y : View) → IsFull layout (beginning v x) y f → w ≡ dropping_beginning y → w.chain ≡ v.chain
full_chain layout v w f x y full is = ap (λ (z : View). z.chain) is ∙ ap (λ (z : View). z.chain) full.1.is

pub known_after : (layout : Layout) (from b : ℕ) (card : Card) (v w : View) (r : Result Place Full) → Said layout from b card v w r → v.book.opened ≡ []
    → IfOk r (λ p. WalkKnown layout v → WalkKnown layout w) → IfErr r (λ f. w.book.closed ≡ v.book.closed) → WalkKnown layout v → WalkKnown layout w
known_after layout from b card v w (Ok place) s opened ok same k = ok k
known_after layout from b card v w (Err f) s opened ok same k = known_still layout v w (full_chain layout v w f s.full.0 s.full.1 s.full.2 s.full.4) same opened k

pub placed_still : (place : Place) (v w : View) → PlacesStay v w → IsPlaced place v.book → IsPlaced place w.book
placed_still place v w stay p = (p.0, p.1, p.2, p.3, stay p.0 p.4)

pub listens_words : (card : Card) → card.kind ≡ kinds.Listen → time_waits (card_words card) ≡ 0
listens_words card kind =
    let three : (packed card).ports % 16 ≡ 3 = omega (arith, ap number_of kind) in
    ap (λ (b : Bool). cond b 1 0) (ne_eqb ((packed card).ports % 16) 2 (omega (arith, three)))

-- the place of a listener that came stays, as the lock is given back
pub placed_of : (r : Result Place Full) (card : Card) (v w : View) → w.book ≡ v.book → card.kind ≡ kinds.Listen
    → IfOk r (λ p. time_waits (card_words card) ≡ 0 → IsPlaced p v.book) → IfOk r (λ p. IsPlaced p w.book)
placed_of (Ok p) card v w same kind h = subst (IsPlaced p) (sym same) (h (listens_words card kind))
placed_of (Err f) card v w same kind h = tt

-- the walk has met the end still
pub met_still : (layout : Layout) (from b : ℕ) (card : Card) (xs : List Seen) (v w : View) (r : Result Place Full) → HashesTo layout from b card xs r v w → v.chain.met ≡ 1 → w.chain.met ≡ 1
met_still layout from b card xs v w (Ok place) h met = ap (λ (x : ChainView). x.met) h.comes.chain ∙ met
met_still layout from b card xs v w (Err f) h met = ap (λ (x : ChainView). x.met) (full_chain layout v w f h.begin h.seen h.full h.is) ∙ met
