-- A card stays as it is under a count.
use Rattle.std.proofs.Common.{◌≡◌, ℕ, ◌<◌, List, [], ◌∷◌, map, length, slice_index, refl, sym, ap, ◌∙◌, arith, cond, eqb, Bool, eq-eqb}
use mathlib.Core.Option.{some}
use lib.ListN.{get_elem?}
use Rattle.list_words.specs.Lists.{total}
use Rattle.list_words.proofs.PlaceLemmas.{term_le}
use Rattle.atomic_table.proofs.Lists.{at_map}
use Rattle.table_rule.specs.Words.{bucket_count}
use Rattle.table_rule.specs.SlotsOk.{holds}
use Rattle.table_rule.specs.ChainsOk.{linked_below}
use Rattle.table_rule.specs.CardsOk.{SeenOk}
use Rattle.table_rule.specs.Book.{Life}
use Rattle.table_rule.specs.LinkedOk.{words_at}
use Rattle.table_rule.specs.ReadersOk.{KeptOk, keeps_at, Readers}
use Rattle.table_rule.specs.Rule.{slot_part, state_of, card_of, Parts}
use Rattle.table_rule.specs.Stays.{StaysIn, HeldStays, CardStays}
use Rattle.table_rule.specs.declared.view.View.{View}
use Rattle.table_rule.specs.declared.view.Layout.{Layout}
use Rattle.table_rule.specs.declared.view.Kept.{Kept}
use Rattle.table_rule.proofs.CardSteps.{each_at}
use Rattle.table_rule.proofs.SlotSteps.{counts_small}

-- four words that are known are the card
whole_known : (card : ℕ → ℕ → ℕ) (i : ℕ) (ws : List ℕ) → SeenOk card (record { slot = i; words = ws }) → length ws ≡ 4 → words_at card i ≡ ws
whole_known card i [] o e = absurd (omega (arith, e))
whole_known card i (a ∷ []) o e = absurd (omega (arith, e))
whole_known card i (a ∷ b ∷ []) o e = absurd (omega (arith, e))
whole_known card i (a ∷ b ∷ c ∷ []) o e = absurd (omega (arith, e))
whole_known card i (a ∷ b ∷ c ∷ d ∷ []) o e = let p = o 0 a (omega arith) refl in let q = o 1 b (omega arith) refl in let r = o 2 c (omega arith) refl in let s = o 3 d (omega arith) refl in λ k. p k ∷ q k ∷ r k ∷ s k ∷ []
whole_known card i (a ∷ b ∷ c ∷ d ∷ x ∷ xs) o e = absurd (omega (arith, e))

-- a count that is kept is one on its slot
keeps_one : (n : ℕ) (hs : List Kept) (h : Kept) → get_elem? hs n ≡ some h → 0 < total (λ (g : Kept). cond (eqb g.slot h.slot) 1 0) hs
keeps_one n hs h there = omega (arith, term_le (λ (g : Kept). cond (eqb g.slot h.slot) 1 0) hs n h there, ap {B = ℕ} (λ (b : Bool). cond b 1 0) (eq-eqb h.slot h.slot refl))

stays_in : (layout : Layout) (word : ℕ → ℕ) (chain : ℕ → List ℕ) (lives : ℕ → List Life) (vs : List View) → Parts layout word chain vs → Readers layout word chain lives vs → (k n : ℕ) (v : View) (h : Kept) → get_elem? vs k ≡ some v → get_elem? v.read.kept n ≡ some h → StaysIn layout word vs h
stays_in layout word chain lives vs p q k n v h me there =
    let kept = each_at (KeptOk (card_of layout word) lives (word 0)) v.read.kept n h (q.each k v me).kept there in
    let one : 0 < keeps_at h.slot v.read = keeps_one n v.read.kept h there in
    record {
      known = kept.known;
      card = whole_known (card_of layout word) h.slot h.words kept.known;
      counted = λ inside.
          let has : 0 < total (holds h.slot) (map slot_part vs) = omega (arith, one, q.counted k v me h.slot, term_le (holds h.slot) (map slot_part vs) k v.slot (at_map slot_part vs k v me)) in
          let small = counts_small layout.shape.slots (λ i. linked_below i chain (bucket_count layout)) (state_of layout word) (map slot_part vs) p.slots h.slot in
          omega (arith, has, small, p.slots.word h.slot inside, p.slots.once h.slot inside, p.slots.lit h.slot inside);
      unclaimed = λ j u e. q.still k j v u me e h.slot one;
    }

pub held_stays : HeldStays
held_stays layout s k n v h rule me there = stays_in layout (λ q. slice_index s.words q) rule.chain rule.lives s.views rule.parts rule.readers k n v h me there

pub card_stays : CardStays
card_stays layout s s' k k' n n' v v' h rule rule' me me' there there' whole =
    (held_stays layout s k n v h rule me there).card whole ∙ sym ((held_stays layout s' k' n' v' h rule' me' there').card whole)
