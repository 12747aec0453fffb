-- What a pass knows of its places, and of what it hashed before a lookup.
use Rattle.std.proofs.Common.{◌≡◌, ℕ, ◌<◌, ◌≤◌, inl, List, [], ◌∷◌, ◌++◌, ⊎_elim, map, length, cond, Bool, eq-eqb, ne_eqb, refl, sym, ap, ◌∙◌, subst, arith}
use mathlib.Core.Logic.{dite}
use native.Mathlib.Decide.{ℕ_discrete}
use mathlib.Core.Option.{some, some-injective, some-ne-none}
use lib.ListN.{get_elem?}
use Rattle.list_words.proofs.PlaceLemmas.{total-none}
use Rattle.list_words.specs.Lists.{total, Each}
use Rattle.atomic_table.proofs.Lists.{at_map, at_last}
use Rattle.table_rule.specs.Lists.{times, stands, slots_of}
use Rattle.table_rule.specs.ChainsOk.{list_of}
use Rattle.table_rule.specs.CardsOk.{SeenOk, claims, shows, may_claim, all_claims}
use Rattle.table_rule.specs.Book.{open-end, Part, Life, unhash_of}
use Rattle.table_rule.specs.LinkedOk.{words_at, Whole}
use Rattle.table_rule.specs.Owners.{time_waits}
use Rattle.table_rule.specs.ReadersOk.{rank_of, NoneBetter, Readers}
use Rattle.table_rule.specs.Rule.{chain_part, known_part, book_part, card_of, dark_of, twice_in, twice_of, Parts, More}
use Rattle.table_rule.specs.Sole.{IsRead}
use Rattle.table_rule.specs.Alone.{NoneKnown}
use Rattle.table_rule.specs.Plays.{card_in, PlacesListed, PlacesApart, TuplesListed, PlaceMade, ending, closing, leaving}
use Rattle.table_rule.specs.Words.{bucket_count}
use Rattle.table_rule.specs.declared.view.View.{View}
use Rattle.table_rule.specs.declared.view.Layout.{Layout}
use Rattle.table_rule.specs.declared.view.Seen.{Seen}
use Rattle.table_rule.specs.declared.view.Change.{Change}
use Rattle.sock_card.specs.declared.card.Packet.{Packet}
use Rattle.table_rule.proofs.Lists.{times-here, times-else, times-append, linked_two}
use Rattle.table_rule.proofs.ChainSteps.{sole}
use Rattle.table_rule.proofs.Keeps.{whole_list, walk_in, all_lit, held_near, twice_zero, twice_unlocked}
use Rattle.table_rule.proofs.CardSteps.{at_end, shows_lit}
use Rattle.table_rule.proofs.Owners.{place_life}
use Rattle.table_rule.proofs.Serial.{hash_life}
use Rattle.table_rule.proofs.Soles.{four}
use Rattle.table_rule.proofs.Lookups.{whole_card}

-- in a list that was read whole, a slot has its words
card_read_in : (card : ℕ → ℕ → ℕ) (i : ℕ) (xs : List Seen) → Each IsRead xs → Each (SeenOk card) xs → 0 < stands i xs → card_in i xs ≡ words_at card i
card_read_in card i [] read ok h = absurd (omega arith)
card_read_in card i (s ∷ ss) read ok h = dite (ℕ_discrete s.slot i)
    (λ e. ap (λ (g : Bool). cond g s.words (card_in i ss)) (eq-eqb s.slot i e) ∙ (four card s.slot s.words read.0 ok.0 ∙ ap (words_at card) e))
    (λ ne. ap (λ (g : Bool). cond g s.words (card_in i ss)) (ne_eqb s.slot i ne) ∙ card_read_in card i ss read.1 ok.1 (omega (arith, h, times-else s.slot i (slots_of ss) ne)))

-- in a list that was read whole and is lit, what the words say is what is lit
lit_all : (card : ℕ → ℕ → ℕ) (dark : ℕ → ℕ) (t : ℕ) (xs : List Seen) → Each IsRead xs → Each (SeenOk card) xs → ((i : ℕ) → 0 < stands i xs → dark i ≡ 0) → all_claims t xs ≡ total (shows claims card dark t) (slots_of xs)
lit_all card dark t [] read ok lit = refl
lit_all card dark t (s ∷ ss) read ok lit = omega (arith, one s.words refl, lit_all card dark t ss read.1 ok.1 (λ i h. lit i (omega (arith, h, times-append i (s.slot ∷ []) (slots_of ss)))))
  where
    bright : dark s.slot ≡ 0
    bright = lit s.slot (omega (arith, times-here s.slot (slots_of ss)))

    one : (ws : List ℕ) → s.words ≡ ws → may_claim t ws ≡ shows claims card dark t s.slot
    one [] e = absurd (omega (arith, read.0, ap (length {A = ℕ}) e))
    one (a ∷ []) e = absurd (omega (arith, read.0, ap (length {A = ℕ}) e))
    one (a ∷ b ∷ ws) e = sym (shows_lit claims card dark t s.slot bright
        ∙ (ap (λ (k : ℕ). claims t k (card s.slot 1)) (ok.0 0 a (omega arith) (ap (λ (l : List ℕ). get_elem? l 0) e)) ∙ ap (claims t a) (ok.0 1 b (omega arith) (ap (λ (l : List ℕ). get_elem? l 1) e))))

module _ (layout : Layout) (word : ℕ → ℕ) (chain : ℕ → List ℕ) (lives : ℕ → List Life) (vs : List View) (p : Parts layout word chain vs) (o : More layout word chain lives vs) (q : Readers layout word chain lives vs) (id : ℕ) (v : View) (me : get_elem? vs id ≡ some v) where
  -- where a walk met the end, it has each place of the bucket
  pub places_listed : PlacesListed v
  places_listed b h had met place at =
      let t = place_life (word 0) lives (map book_part vs) o.book o.lived o.owners id (book_part v) (at_map book_part vs id v me) h place in
      let few = o.book.few in
      let whole : Whole t.1 = (omega (arith, t.4, few), t.5) in
      let w = o.linked.whole h.slot t.0 t.1 t.2 whole in
      let card : h.card ≡ t.1.card = ap (λ (c : Change). c.card) t.3 in
      let bucket : t.1.bucket ≡ b = ap (λ (c : Change). c.bucket) (sym t.3) ∙ at in
      let all = whole_list layout word word chain vs id v p me b had met in
      let there : 0 < stands h.slot v.chain.walked = omega (arith, w.1, ap (λ (c : ℕ). times h.slot (chain c)) bucket, ap (times h.slot) all) in (
        there,
        λ read. card_read_in (card_of layout word) h.slot v.chain.walked read (p.cards id (known_part v) (at_map known_part vs id v me)).walked there ∙ (sym (whole_card layout word chain lives vs p o q h.slot t.0 t.1 t.2 whole) ∙ sym card),
      )

  -- a walk meets no place of another bucket
  -- where a walk met the end, it has no card beside another of its four-tuple, if the pass lit none so
  pub tuples_listed : TuplesListed v
  tuples_listed b had met none no-hung no-dimmed read t =
      let card = card_of layout word in
      let lit : (i : ℕ) → 0 < stands i v.chain.walked → dark_of vs i ≡ 0 = λ i h. all_lit layout word word chain vs id v p me b had i (walk_in layout word word chain vs id v p me b had i h) (omega (arith, ap (times i) no-hung, ap (times i) no-dimmed)) in
      let free : twice_of vs b ≡ 0 = total-none (twice_in b) vs (λ k u e. dite (ℕ_discrete k id)
      (λ z. subst (λ (y : View). twice_in b y ≡ 0) (some-injective v u (sym me ∙ (ap (get_elem? vs) (sym z) ∙ e))) (twice_zero v b none))
      (λ ne. twice_unlocked u b (sole (bucket_count layout) layout.shape.slots _ _ _ chain (map chain_part vs) id v.chain p.chains (at_map chain_part vs id v me) b had k u.chain ne (at_map chain_part vs k u e)))) in
      omega (arith, p.tuples.taken b t (held_near layout word word chain vs id v p me b had) free, ap (total (shows claims card (dark_of vs) t)) (whole_list layout word word chain vs id v p me b had met), lit_all card (dark_of vs) t v.chain.walked read (p.cards id (known_part v) (at_map known_part vs id v me)).walked lit)

  pub places_apart : PlacesApart v
  places_apart b h had place apart =
      let t = place_life (word 0) lives (map book_part vs) o.book o.lived o.owners id (book_part v) (at_map book_part vs id v me) h place in
      let few = o.book.few in
      let w = o.linked.whole h.slot t.0 t.1 t.2 (omega (arith, t.4, few), t.5) in
      let bucket : h.bucket ≡ t.1.bucket = ap (λ (c : Change). c.bucket) t.3 in
      let walks = p.chains.walks id v.chain (at_map chain_part vs id v me) in
      let list = walks.list b had in
      omega (
        arith,
        w.1,
        linked_two h.slot chain b t.1.bucket (bucket_count layout) (walks.near b had) w.0 (λ e. apart (bucket ∙ sym e)),
        p.chains.once h.slot,
        ap (times h.slot) list.1,
        times-append h.slot (list_of v.chain) list.0,
        times-append h.slot (slots_of v.chain.walked) (slots_of v.chain.ahead),
      )

  -- what nobody was better than throughout, this pass has begun to unhash
  pub none_known : (since bucket : ℕ) (key : Packet) (least best : ℕ) → NoneBetter lives since (word 0) bucket key least best → NoneKnown v bucket key least best since
  none_known since bucket key least best none k h there hash at enough better stays early =
      let ps : List Part = map book_part vs in
      let few = o.book.few in
      let t = hash_life (word 0) lives ps o.book o.lived h (record { who = id; view = book_part v; has = at_map book_part vs id v me; nth = k; is = inl there }) hash in
      let x = t.1 in
      let card : h.card ≡ x.card = ap (λ (c : Change). c.card) t.3 in
      let linked : h.ends ≡ x.linked = ap (λ (c : Change). c.ends) t.3 in
      let not-open : x.leaving ≡ open-end → ⊥ = λ z. none h.slot t.0 x t.2 (ap (λ (c : Change). c.bucket) (sym t.3) ∙ at) (subst (λ (c : List ℕ). least ≤ rank_of key c) card enough) (subst (λ (c : List ℕ). best < rank_of key c) card better) (omega (arith, early, linked)) (omega (arith, z, few)) in
      ⊎_elim (λ z. absurd (not-open z))
      (λ g. (unhash_of h.slot x, g, refl, refl, ⊎_elim (λ z. omega (arith, z, linked)) (λ z. absurd (not-open z)) (o.lived.numbers h.slot t.0 x t.2).order))
      (o.owners id (book_part v) (at_map book_part vs id v me) k h.slot t.0 x t.2 (there ∙ ap (λ (c : Change). some c) t.3) (ap time_waits (sym card) ∙ stays))

  -- a hash that ends is a place: what the pass closed before ended below its end
  pub place_made : PlaceMade v (closing v (word 0)) (word 0)
  place_made c one hash stays =
      let end : Change = record c { ends = word 0 } in
      let closed : (closing v (word 0)).book.closed ≡ v.book.closed ++ end ∷ [] = ap (λ (l : List Change). v.book.closed ++ ending l (word 0)) one in
      record {
        nth = length v.book.closed;
        there = ap (λ (l : List Change). get_elem? l (length v.book.closed)) closed ∙ at_last v.book.closed end (length v.book.closed) refl;
        is-hash = hash;
        stays = stays;
        last = λ u has unhash slot after. ⊎_elim
            (λ z. ⊎_elim
            (λ y. let f = o.book.closed id has.nth (book_part v) u (at_map book_part vs id v me) y.0 in omega (arith, after, f.0, f.1))
            (λ y. omega (arith, hash, unhash, ap (λ (d : Change). d.kind) y.0))
            (at_end v.book.closed end u has.nth (ap (λ (l : List Change). get_elem? l has.nth) (sym closed) ∙ z)))
            (λ z. some-ne-none u (sym z)) has.is;
      }

-- A place stays one, whatever else its pass does
