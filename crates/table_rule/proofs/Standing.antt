-- What is linked and lit stands.
use Rattle.std.proofs.Common.{◌≡◌, ℕ, zero, suc, ◌<◌, List, [], ◌∷◌, ◌⊎◌, inr, ⊎_elim, map, slice_index, sym, ap, ◌∙◌, subst, arith}
use mathlib.Core.Logic.{dite}
use native.Mathlib.Decide.{ℕ_discrete, dec_le}
use mathlib.Core.Option.{some, some-injective, some-ne-none}
use lib.ListN.{get_elem?}
use Rattle.list_words.proofs.PlaceLemmas.{terms_le}
use Rattle.atomic_table.proofs.Lists.{at_map}
use Rattle.table_rule.specs.Lists.{times}
use Rattle.table_rule.specs.Words.{at, bucket_count}
use Rattle.table_rule.specs.Book.{open-end, Part, Life, InBook, hash_of}
use Rattle.table_rule.specs.LinkedOk.{words_at, Whole, Busy}
use Rattle.table_rule.specs.Owners.{IsPlace}
use Rattle.table_rule.specs.Rule.{book_part, card_of, dark_of, Parts, More}
use Rattle.table_rule.specs.ReadersOk.{Readers}
use Rattle.table_rule.specs.Standing.{StandsIn, PlacesStand, LitStands}
use Rattle.table_rule.specs.declared.view.View.{View}
use Rattle.table_rule.specs.declared.view.Layout.{Layout}
use Rattle.table_rule.specs.declared.view.Change.{Change}
use Rattle.table_rule.proofs.Lists.{linked_le}
use Rattle.table_rule.proofs.Lookups.{whole_card}
use Rattle.table_rule.proofs.Owners.{place_life}
use Rattle.table_rule.proofs.Serial.{hash_life}
use Rattle.table_rule.proofs.Sightings.{only-whole}

module _ (layout : Layout) (word : ℕ → ℕ) (chain : ℕ → List ℕ) (lives : ℕ → List Life) (vs : List View) (p : Parts layout word chain vs) (o : More layout word chain lives vs) (q : Readers layout word chain lives vs) where
  stands_where : (b i : ℕ) (card : List ℕ) → b < bucket_count layout → 0 < times i (chain b) → dark_of vs i ≡ 0 → card ≡ words_at (card_of layout word) i → StandsIn layout word b i card
  stands_where b i card near linked lit is =
      let there = linked_le i chain b (bucket_count layout) near in
      let inside : i < layout.shape.slots = dite (dec_le layout.shape.slots i) (λ h. absurd (omega (arith, p.chains.inside i h, there, linked))) (λ h. omega (arith, h)) in
      record {
        chain = chain b;
        path = p.chains.paths b near;
        linked = linked;
        live = omega (arith, p.slots.word i inside, p.slots.once i inside, lit, there, linked);
        card-is = is;
      }

  module _ (id : ℕ) (v : View) (me : get_elem? vs id ≡ some v) where
    place_stands : (h : Change) → IsPlace v.book h → StandsIn layout word h.bucket h.slot h.card
    place_stands h place =
        let few = o.book.few in
        let t = place_life (word 0) lives (map book_part vs) o.book o.lived o.owners id (book_part v) (at_map book_part vs id v me) h place in
        let whole : Whole t.1 = (omega (arith, t.4, few), t.5) in
        let w = o.linked.whole h.slot t.0 t.1 t.2 whole in
        let bucket : t.1.bucket ≡ h.bucket = ap (λ (c : Change). c.bucket) (sym t.3) in
        stands_where h.bucket h.slot h.card (omega (arith, w.0, bucket)) (subst (λ (b : ℕ). 0 < times h.slot (chain b)) bucket w.1) w.2
        (ap (λ (c : Change). c.card) t.3 ∙ whole_card layout word chain lives vs p o q h.slot t.0 t.1 t.2 whole)

    -- a life whose hash is open is one that nobody began to unhash
    still_open : (i n : ℕ) (x : Life) → get_elem? (lives i) n ≡ some x → x.linked ≡ open-end → x.leaving ≡ open-end
    still_open i n x there open' =
        let num = o.lived.numbers i n x there in
        let few = o.book.few in
        ⊎_elim (λ a. ⊎_elim (λ b. absurd (omega (arith, a, b, open', few))) (λ b. b) num.leaving) (λ a. a) num.order

    -- the open hash c, of the life x
    module _ (c : Change) (one : v.book.opened ≡ c ∷ []) (hash : c.kind ≡ 1) where
      first : get_elem? v.book.opened 0 ≡ some c
      first = ap (λ (l : List Change). get_elem? l 0) one

      in-book : InBook (map book_part vs) c
      in-book = record { who = id; view = book_part v; has = at_map book_part vs id v me; nth = 0; is = inr first }

      -- no other change of its bucket is open
      alone : (k m : ℕ) (u : View) (d : Change) → get_elem? vs k ≡ some u → get_elem? u.book.opened m ≡ some d → d.bucket ≡ c.bucket → d.kind ≡ 1
      alone k m u d there is at = dite (ℕ_discrete k id)
          (λ e. let same : u ≡ v = some-injective u v (sym there ∙ (ap (get_elem? vs) e ∙ me)) in
          ap (λ (x : Change). x.kind) (one_of m d (ap (λ (l : List Change). get_elem? l m) (sym one) ∙ (ap (λ (x : View). get_elem? x.book.opened m) (sym same) ∙ is))) ∙ hash)
          (λ ne. let ps = map book_part vs in
          let mine = o.book.opened id 0 (book_part v) c (at_map book_part vs id v me) first in
          let theirs = o.book.opened k m (book_part u) d (at_map book_part vs k u there) is in
          absurd (omega (
            arith,
            mine.2,
            theirs.2,
            ap (λ (b : ℕ). times b u.chain.locked) at,
            o.book.alone c.bucket,
            terms_le (λ (x : Part). times c.bucket x.locked) ps id k (book_part v) (book_part u) ne (at_map book_part vs id v me) (at_map book_part vs k u there),
          )))
        where
          one_of : (n : ℕ) (e : Change) → get_elem? (c ∷ []) n ≡ some e → e ≡ c
          one_of zero e h = sym (some-injective c e h)
          one_of (suc n) e h = absurd (some-ne-none e (sym h))

      -- so the life of its bucket that stands in the slot is its own
      own_life : (n m : ℕ) (x y : Life) → get_elem? (lives c.slot) n ≡ some x → c ≡ hash_of c.slot x → get_elem? (lives c.slot) m ≡ some y → y.bucket ≡ c.bucket → Whole y ⊎ Busy vs c.slot y → y ≡ x
      own_life n m x y there is there' at state =
          let end : x.linked ≡ open-end = ap (λ (d : Change). d.ends) (sym is) ∙ (o.book.opened id 0 (book_part v) c (at_map book_part vs id v me) first).1 in
          let still : x.leaving ≡ open-end = still_open c.slot n x there end in
          let whole : y.leaving ≡ open-end = ⊎_elim (λ w. w.1) (λ z.
          let opened = o.book.opened z.who z.nth (book_part z.view) z.change (at_map book_part vs z.who z.view z.has) z.is in ⊎_elim
          (λ h. still_open c.slot m y there' (ap (λ (d : Change). d.ends) (sym h) ∙ opened.1))
          (λ u. absurd (omega (arith, alone z.who z.nth z.view z.change z.has z.is (ap (λ (d : Change). d.bucket) u.0 ∙ at), ap (λ (d : Change). d.kind) u.0)))
          z.of) state in
          only-whole layout word word chain lives vs id v p o me c.slot m n y x there' there whole still

      lit_here : v.done ≡ 1 → StandsIn layout word c.bucket c.slot c.card
      lit_here done =
          let w = o.linked.opened id 0 v c me first in
          let l = w.lit hash done in
          let t = hash_life (word 0) lives (map book_part vs) o.book o.lived c in-book hash in
          let k = o.linked.links c.bucket c.slot w.near l.0 in
          stands_where c.bucket c.slot c.card w.near l.0 l.1
          (ap (λ (d : Change). d.card) t.3 ∙ (ap (λ (x : Life). x.card) (sym (own_life t.0 k.nth t.1 k.life t.2 t.3 k.there k.bucket k.state)) ∙ k.card-is l.1))

pub places_stand : PlacesStand
places_stand layout s k v h rule me place = place_stands layout (λ q. slice_index s.words q) rule.chain rule.lives s.views rule.parts rule.more rule.readers k v me h place

pub lit_stands : LitStands
lit_stands layout s k v c rule me one hash done = lit_here layout (λ q. slice_index s.words q) rule.chain rule.lives s.views rule.parts rule.more rule.readers k v me c one hash done
