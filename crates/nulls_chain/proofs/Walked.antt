-- What is known of a walked list once a hash came.
use Rattle.std.proofs.Common.{◌≡◌, ◌≢◌, ℕ, ◌<◌, ◌≤◌, List, [], ◌∷◌, ◌++◌, ◌⊎◌, inl, inr, ⊎_elim, cond, Bool, eq-eqb, ne_eqb, sym, refl, ap, ◌∙◌, arith, subst, length}
use mathlib.Core.Logic.{dite}
use native.Mathlib.Decide.{ℕ_discrete, dec_le}
use mathlib.Core.Option.{some, some-ne-none}
use lib.ListN.{get_elem?}
use Rattle.list_words.specs.Lists.{Each}
use Rattle.table_rule.specs.Lists.{times, stands, slots_of}
use Rattle.table_rule.specs.Sole.{IsRead}
use Rattle.table_rule.specs.Plays.{PlacesListed, card_in}
use Rattle.table_rule.specs.Owners.{IsPlace}
use Rattle.table_rule.specs.Calls.{seen_of}
use Rattle.table_rule.specs.Words.{words_of}
use Rattle.table_rule.specs.declared.view.View.{View}
use Rattle.table_rule.specs.declared.view.ChainView.{ChainView}
use Rattle.table_rule.specs.declared.view.Layout.{Layout}
use Rattle.table_rule.specs.declared.view.Seen.{Seen}
use Rattle.table_rule.specs.declared.view.Change.{Change}
use Rattle.table_rule.proofs.Lists.{times-here, times-else}
use Rattle.table_rule.proofs.Bounds.{short, length-slots}
use Rattle.table_rule.proofs.CardSteps.{at_end}
use Rattle.atomic_table.proofs.Lists.{at_longer}
use Rattle.sock_card.specs.declared.words.CardWords.{CardWords}
use Rattle.bucket_locks.specs.Locks.{WalkKnown}
use Rattle.nulls_chain.specs.Changes.{hashed, Adds}

module _ (v w : View) (c : Change) (adds : w.book.closed ≡ v.book.closed ++ c ∷ []) (idle : v.book.opened ≡ []) where
  -- a place among the changes of before was one
  place_was : (h : Change) (p : IsPlace w.book h) → get_elem? v.book.closed p.nth ≡ some h → IsPlace v.book h
  place_was h p there = record {
    nth = p.nth;
    there = there;
    is-hash = p.is-hash;
    stays = p.stays;
    last = λ u has. ⊎_elim
        (λ z. p.last u (record { nth = has.nth; is = inl (ap (λ (l : List Change). get_elem? l has.nth) adds ∙ at_longer v.book.closed (c ∷ []) has.nth u z) }))
        (λ z. absurd (some-ne-none u (sym (ap (λ (l : List Change). get_elem? l has.nth) (sym idle) ∙ z))))
        has.is;
  }

  -- a place is one of before, or the new hash's
  old_or_new : (h : Change) → IsPlace w.book h → IsPlace v.book h ⊎ (c ≡ h)
  old_or_new h p = ⊎_elim
      (λ y. inl (place_was h p y.0))
      (λ y. inr y.0)
      (at_end v.book.closed c h p.nth (ap (λ (l : List Change). get_elem? l p.nth) (sym adds) ∙ p.there))

module _ (v w : View) (bucket slot : ℕ) (card : CardWords) (adds : Adds v w 1 bucket slot (words_of card)) (is : w.chain ≡ hashed v.chain slot card) (far : stands slot v.chain.walked ≡ 0) (idle : v.book.opened ≡ []) where
  abbrev new : Seen
  new = seen_of slot card

  walked : w.chain.walked ≡ new ∷ v.chain.walked
  walked = ap (λ (x : ChainView). x.walked) is

  old_listed : (h : Change) → (0 < stands h.slot v.chain.walked) × (Each IsRead v.chain.walked → card_in h.slot v.chain.walked ≡ h.card) → (0 < stands h.slot (new ∷ v.chain.walked)) × (Each IsRead (new ∷ v.chain.walked) → card_in h.slot (new ∷ v.chain.walked) ≡ h.card)
  old_listed h t =
      let ne : slot ≢ h.slot = λ e. omega (arith, far, t.0, ap (λ (i : ℕ). stands i v.chain.walked) e) in (
        omega (arith, t.0, times-else slot h.slot (slots_of v.chain.walked) ne),
        (λ r. ap (λ (b : Bool). cond b new.words (card_in h.slot v.chain.walked)) (ne_eqb slot h.slot ne) ∙ t.1 r.1),
      )

  new_listed : (0 < stands slot (new ∷ v.chain.walked)) × (Each IsRead (new ∷ v.chain.walked) → card_in slot (new ∷ v.chain.walked) ≡ words_of card)
  new_listed = (omega (arith, times-here slot (slots_of v.chain.walked)), (λ _. ap (λ (b : Bool). cond b new.words (card_in slot v.chain.walked)) (eq-eqb slot slot refl)))

  listed_on : PlacesListed v → PlacesListed w
  listed_on old b h locked met place home =
      let c : Change = record { kind = 1; bucket = bucket; slot = slot; card = words_of card; begins = adds.0; ends = adds.1 } in
      subst (λ (l : List Seen). (0 < stands h.slot l) × (Each IsRead l → card_in h.slot l ≡ h.card)) (sym walked) (⊎_elim
      (λ was. old_listed h (old b h (ap (λ (x : ChainView). x.locked) (sym is) ∙ locked) (ap (λ (x : ChainView). x.met) (sym is) ∙ met) was home))
      (λ e. subst (λ (x : Change). (0 < stands x.slot (new ∷ v.chain.walked)) × (Each IsRead (new ∷ v.chain.walked) → card_in x.slot (new ∷ v.chain.walked) ≡ x.card)) e new_listed)
      (old_or_new v w c adds.2.3 idle h place))

  once_on : ((i : ℕ) → stands i v.chain.walked ≤ 1) → (i : ℕ) → stands i (new ∷ v.chain.walked) ≤ 1
  once_on once i = dite (ℕ_discrete slot i)
      (λ e. subst (λ (k : ℕ). stands k (new ∷ v.chain.walked) ≤ 1) e (omega (arith, far, times-here slot (slots_of v.chain.walked))))
      (λ ne. omega (arith, once i, times-else slot i (slots_of v.chain.walked) ne))

  -- a hash leaves it known
  pub hash_on : (layout : Layout) → slot < layout.shape.slots → v.chain.met ≡ 1 → WalkKnown layout v → WalkKnown layout w
  hash_on layout near met k = (
    subst (Each IsRead) (sym walked) (refl, k.0),
    subst (Each (λ (s : Seen). s.slot < layout.shape.slots)) (sym walked) (near, k.1),
    subst (λ (l : List Seen). (i : ℕ) → stands i l ≤ 1) (sym walked) (once_on k.2),
    ⊎_elim (λ z. absurd (omega (arith, met, z))) (λ p. inr (listed_on p)) k.3,
  )

outside : (n i : ℕ) (xs : List Seen) → n ≤ i → Each (λ (s : Seen). s.slot < n) xs → times i (slots_of xs) ≡ 0
outside n i [] h k = refl
outside n i (x ∷ xs) h k = times-else x.slot i (slots_of xs) (λ e. omega (arith, e, h, k.0)) ∙ outside n i xs h k.1

-- the list is no longer than the slots
pub few_walked : (layout : Layout) (v : View) → WalkKnown layout v → length v.chain.walked ≤ layout.shape.slots
few_walked layout v k = omega (arith, length-slots v.chain.walked, short layout.shape.slots (slots_of v.chain.walked) k.2 (λ i h. outside layout.shape.slots i v.chain.walked h k.1))

-- a slot of the list is one of the table
pub inside_of : (n i : ℕ) (xs : List Seen) → Each (λ (s : Seen). s.slot < n) xs → 0 < stands i xs → i < n
inside_of n i xs inside there = dite (dec_le n i) (λ h. absurd (omega (arith, there, outside n i xs h inside))) (λ h. omega (arith, h))
