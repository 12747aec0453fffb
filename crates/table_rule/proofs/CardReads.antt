-- A lit slot of the locked chain has a card's words.
use Rattle.std.proofs.Common.{◌≡◌, ℕ, ◌+◌, ◌<◌, List, [], ◌∷◌, ◌++◌, ⊎_elim, length, refl, sym, ap, ◌∙◌, subst, arith}
use mathlib.Core.Option.{some}
use lib.ListN.{get_elem?}
use Rattle.list_words.specs.Lists.{Each}
use Rattle.atomic_table.proofs.Lists.{at_map}
use Rattle.table_rule.specs.Lists.{times, slots_of}
use Rattle.table_rule.specs.Words.{at}
use Rattle.table_rule.specs.CardsOk.{SeenOk}
use Rattle.table_rule.specs.Book.{Life}
use Rattle.table_rule.specs.LinkedOk.{words_at}
use Rattle.table_rule.specs.Beyond.{IsCardWords, Beyond}
use Rattle.table_rule.specs.Rule.{chain_part, known_part, card_of, Parts, More}
use Rattle.table_rule.specs.declared.view.View.{View}
use Rattle.table_rule.specs.declared.view.Layout.{Layout}
use Rattle.table_rule.specs.declared.view.Seen.{Seen}
use Rattle.table_rule.proofs.Lists.{times-here, times-append}
use Rattle.table_rule.proofs.Keeps.{all_lit, held_near}

-- three words that are known, and the fourth
pub four : (card : ℕ → ℕ → ℕ) (i r : ℕ) (ws : List ℕ) → length ws ≡ 3 → ((w x : ℕ) → w < 4 → get_elem? ws w ≡ some x → card i w ≡ x) → card i (length ws) ≡ r → words_at card i ≡ ws ++ r ∷ []
four card i r [] len o q = absurd (omega (arith, len))
four card i r (a ∷ []) len o q = absurd (omega (arith, len))
four card i r (a ∷ b ∷ []) len o q = absurd (omega (arith, len))
four card i r (a ∷ b ∷ c ∷ []) len o q =
    ap (λ (k : ℕ). k ∷ card i 1 ∷ card i 2 ∷ card i 3 ∷ []) (o 0 a (omega arith) refl)
    ∙ (ap (λ (k : ℕ). a ∷ k ∷ card i 2 ∷ card i 3 ∷ []) (o 1 b (omega arith) refl)
    ∙ (ap (λ (k : ℕ). a ∷ b ∷ k ∷ card i 3 ∷ []) (o 2 c (omega arith) refl)
    ∙ ap (λ (k : ℕ). a ∷ b ∷ c ∷ k ∷ []) q))
four card i r (a ∷ b ∷ c ∷ d ∷ ws) len o q = absurd (omega (arith, len))

module _ (layout : Layout) (word : ℕ → ℕ) (chain : ℕ → List ℕ) (lives : ℕ → List Life) (vs : List View) (id : ℕ) (v : View) (p : Parts layout word chain vs) (o : More layout word chain lives vs) (y : Beyond layout (word 0) chain lives vs) (me : get_elem? vs id ≡ some v) where
  pub card_read : (b : ℕ) → v.chain.locked ≡ b ∷ [] → (f : Seen) → v.chain.ahead ≡ f ∷ [] → v.slot.hung ≡ [] → v.slot.dimmed ≡ [] → length f.words ≡ 3 → (r : ℕ) → word (at layout f.slot (2 + length f.words)) ≡ r → IsCardWords (f.words ++ r ∷ [])
  card_read b had f ahead bright lit three r is =
      let t = (p.chains.walks id v.chain (at_map chain_part vs id v me)).list b had in
      let near = held_near layout word word chain vs id v p me b had in
      let in-chain : 0 < times f.slot (chain b) = omega (arith, ap (times f.slot) t.1, times-append f.slot (slots_of v.chain.walked ++ slots_of v.chain.ahead) t.0, times-append f.slot (slots_of v.chain.walked) (slots_of v.chain.ahead), ap (λ (l : List Seen). times f.slot (slots_of l)) ahead, times-here f.slot []) in
      let light = all_lit layout word word chain vs id v p me b had f.slot in-chain (omega (arith, ap (times f.slot) bright, ap (times f.slot) lit)) in
      let l = o.linked.links b f.slot near in-chain in
      let card = l.card-is light in
      let k = ((p.cards id (known_part v) (at_map known_part vs id v me)).ahead) in
      let mine : SeenOk (card_of layout word) f = (subst (Each (SeenOk (card_of layout word))) ahead k).0 in
      ⊎_elim (λ none. absurd (omega (arith, ap (length {A = ℕ}) (sym card ∙ none)))) (λ real. subst IsCardWords (card ∙ four (card_of layout word) f.slot r f.words three mine is) real.0) (y.cards f.slot l.nth l.life l.there)
