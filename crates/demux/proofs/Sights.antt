-- A count is taken of a live slot, its card loaded, and the count put.
use Rattle.std.proofs.Common.{◌≡◌, ℕ, ◌%◌, ◌^◌, ◌<◌, ◌≤◌, List, [], ◌∷◌, refl, sym, ap, ◌∙◌, subst, cond, suc, Bool, eq-eqb, inr, arith}
use mathlib.Core.Option.{some}
use lib.ListN.{get_elem?}
use Rattle.std.specs.Prelude.{slice_index}
use Rattle.sock_card.specs.Words.{packed}
use Rattle.sock_card.specs.declared.card.Card.{Card}
use Rattle.sock_card.specs.declared.card.Packet.{Packet}
use Rattle.sock_card.specs.declared.words.CardWords.{CardWords}
use Rattle.reuseport_group.specs.Member.{slot_of}
use Rattle.table_rule.specs.Lists.{less}
use Rattle.table_rule.specs.Alone.{IsAlone, SlotStands}
use Rattle.table_rule.specs.Beyond.{IsCardWords}
use Rattle.table_rule.specs.LookCalls.{IsTaken, IsLearnt, with_words, place_of}
use Rattle.table_rule.specs.Plays.{Sat, taking, with_kept, sighting}
use Rattle.table_rule.specs.Words.{words_of}
use Rattle.table_rule.specs.declared.view.Kept.{Kept}
use Rattle.demux.specs.Chosen.{sighted_view, StandsThere, IsBetween, Chosen}

module _ (m n : Sat) (slot : ℕ) (e : n ≡ (taking m.0 slot, m.1)) where
  abbrev took : Kept
  took = record { slot = slot; since = m.0.seen; words = [] }

  pub taken : IsTaken slot n.0
  taken = subst (λ (s : Sat). IsTaken slot s.0) (sym e) (record { kept = took; others = m.0.read.kept; there = refl; slot-is = refl; none = refl })

  module _ (n' : Sat) (card : Card) (f : (h : Kept) (hs : List Kept) → n.0.read.kept ≡ h ∷ hs → n' ≡ (with_kept n.0 (with_words h (words_of (packed card)) ∷ hs), n.1)) where
    abbrev full : Kept
    full = with_words took (words_of (packed card))

    loaded : n' ≡ (with_kept (taking m.0 slot) (full ∷ m.0.read.kept), m.1)
    loaded = f took m.0.read.kept (ap (λ (s : Sat). s.0.read.kept) e) ∙ ap (λ (s : Sat). (with_kept s.0 (full ∷ m.0.read.kept), s.1)) e

    -- it is the first on its slot
    first : place_of slot n'.0.read.kept ≡ 0
    first = ap (λ (s : Sat). place_of slot s.0.read.kept) loaded ∙ ap (λ (b : Bool). cond b 0 (suc (place_of slot m.0.read.kept))) (eq-eqb slot slot refl)

    pub learnt : IsLearnt (place_of slot n'.0.read.kept) slot n'.0
    learnt = subst (λ (k : ℕ). IsLearnt k slot n'.0) (sym first) (subst (λ (s : Sat). IsLearnt 0 slot s.0) (sym loaded)
        (record { kept = full; there = refl; slot-is = refl; a = (packed card).ends; b = (packed card).ports; c = (packed card).name; d = (packed card).extra; words = refl }))

    pub sighted : (n'' : Sat) → n'' ≡ (sighting (place_of slot n'.0.read.kept) n'.0 slot, n'.1) → n'' ≡ (sighted_view m.0 card, m.1)
    sighted n'' p = p ∙ (ap (λ (k : ℕ). (sighting k n'.0 slot, n'.1)) first ∙ (ap (λ (s : Sat). (sighting 0 s.0 slot, s.1)) loaded
        ∙ ap (λ (b : Bool). let w = sighted_view m.0 card in (record w { slot = record w.slot { holds = cond b m.0.slot.holds (slot ∷ less slot m.0.slot.holds) } }, m.1)) (eq-eqb slot slot refl)))

    pub stands_there : ((from : ℕ) (h : Kept) → IsAlone n'.0 from → get_elem? n'.0.read.kept (place_of slot n'.0.read.kept) ≡ some h → from ≤ h.since → SlotStands n'.0 slot h.words) → StandsThere m.0 slot card
    stands_there told from s early =
        let there : get_elem? n'.0.read.kept (place_of slot n'.0.read.kept) ≡ some full = ap (λ (k : ℕ). get_elem? n'.0.read.kept k) first ∙ ap (λ (k : Sat). get_elem? k.0.read.kept 0) loaded in
        let alone : IsAlone n'.0 from = subst (λ (k : Sat). IsAlone k.0 from) (sym loaded) (record { parts = s.parts; closed = s.closed; before = s.before }) in
        let x = subst (λ (k : Sat). SlotStands k.0 slot (words_of (packed card))) loaded (told from full alone there early) in
        record { hash = x.hash; there = x.there; is-hash = x.is-hash; slot-is = x.slot-is; card-is = x.card-is; stands = x.stands }

-- the member was taken, loaded and put
pub was_taken : (slots : ℕ) (packet : Packet) (m n : Sat) (best result card : Card) (member slot : ℕ) → slot ≡ slot_of member → slot < slots → n ≡ (sighted_view m.0 card, m.1) → StandsThere m.0 slot card → IsBetween packet best member card result → Chosen slots packet m best member result n
was_taken slots packet m n best result card member slot is below e there which = inr (inr (omega (arith, is, below), (card, e, subst (λ (k : ℕ). StandsThere m.0 k card) is there, which)))
