-- What stands by the changes of a pass that is alone, and what stands in the chains that they make.
use Rattle.std.proofs.Common.{◌≡◌, ℕ, zero, suc, ◌<◌, ◌≤◌, List, [], ◌∷◌, length, map, get_or, inl, inr, ⊎_elim, refl, sym, ap, ◌∙◌, subst, arith}
use mathlib.Core.Option.{some, some-injective, some-ne-none}
use lib.ListN.{get_elem?}
use Rattle.std.proofs.lemmas.Bool.{cases_lt}
use Rattle.std.proofs.lemmas.List.FromFn.{length-map-range_with_len}
use Rattle.sock_card.specs.declared.card.Card.{Card}
use Rattle.sock_card.specs.declared.card.Packet.{Packet}
use Rattle.sock_card.specs.Rank.{rank}
use Rattle.sock_card.specs.Words.{packed, unpacked}
use Rattle.chain_book.specs.declared.outcome.Hashed.{Hashed}
use Rattle.chain_book.specs.declared.shape.Shape.{Shape}
use Rattle.chain_book.specs.Chains.{Chains, row_at, home_in}
use Rattle.chain_book.specs.Homes.{chain_count, home}
use Rattle.table_rule.specs.Alone.{mine, CardStands, NoneStandsAbove}
use Rattle.table_rule.specs.Book.{Part, InBook, Ends, Serial}
use Rattle.table_rule.specs.ReadersOk.{rank_of}
use Rattle.table_rule.specs.Rule.{book_part}
use Rattle.table_rule.specs.Sole.{IsNow, WholeBook, standing, seen_in, chain_from}
use Rattle.table_rule.specs.Words.{card_from, home_of, with_seed, words_of}
use Rattle.table_rule.specs.declared.view.Change.{Change}
use Rattle.table_rule.specs.declared.view.Layout.{Layout}
use Rattle.table_rule.specs.declared.view.View.{View}
use Rattle.table_rule.proofs.Replays.{Stays, standing_from, standing_to}
use Rattle.table_rule.proofs.Replays.{In as Made}
use Rattle.table_rule.proofs.Serial.{three}
use Rattle.table_rule.proofs.Summing.{words_rank}
use Rattle.established.specs.Alone.{chains_of}
use Rattle.established.specs.Rows.{hashed_in, row_of}
use Rattle.established.proofs.Rows.{row_at_is}
use Rattle.flat_list.specs.Flat.{Flat}
use Rattle.flat_list.specs.Look.{cards_of}
use Rattle.table_model.specs.Means.{ChainsMean, IsShape}
use Rattle.table_model.proofs.parts.Chains.{home_below}
use Rattle.list_words.proofs.Items.{In}
use Rattle.race_run.proofs.CardsStand.{stands_of, of_stands}

pub told_rank : (packet : Packet) (card : Card) → unpacked (packed card) ≡ card → rank_of packet (words_of (packed card)) ≡ rank card packet
told_rank packet card told = words_rank packet (words_of (packed card)) ∙ ap (λ (c : Card). rank c packet) told

-- What a row holds, by the changes of its chain

in_mapped : (xs : List Change) (x : Hashed) → In x (row_of (map seen_in xs)) → (c : Change) × Made c xs × (hashed_in (seen_in c) ≡ x)
in_mapped [] x i = absurd i
in_mapped (c ∷ xs) x (inl e) = (c, (0, refl), e)
in_mapped (c ∷ xs) x (inr i) =
    let t = in_mapped xs x i in (t.0, (suc t.1.0, t.1.1), t.2)

mapped_in : (xs : List Change) (c : Change) → Made c xs → In (hashed_in (seen_in c)) (row_of (map seen_in xs))
mapped_in [] c h = absurd (some-ne-none c (sym h.1))
mapped_in (x ∷ xs) c (zero, e) = inl (ap (λ (d : Change). hashed_in (seen_in d)) (some-injective x c e))
mapped_in (x ∷ xs) c (suc k, e) = inr (mapped_in xs c (k, e))

row_below : (rows : List (List Hashed)) (b : ℕ) (x : Hashed) → In x (get_or rows b []) → b < length rows
row_below [] b x i = absurd i
row_below (r ∷ rows) zero x i = omega arith
row_below (r ∷ rows) (suc b) x i = omega (arith, row_below rows b x i)

module _ (v : View) (now : IsNow v) (clock : ℕ) (whole : WholeBook v clock) where
  abbrev closed : List Change
  closed = v.book.closed

  serial : Serial (mine v)
  serial = (whole now.bare.0.all now.idle).0

  own_first : (k : ℕ) (u : Part) → get_elem? (mine v) k ≡ some u → book_part v ≡ u
  own_first zero u e = some-injective (book_part v) u e
  own_first (suc k) u e = absurd (some-ne-none u (sym e))

  in_book : (c : Change) → Made c closed → InBook (mine v) c
  in_book c h = record { who = 0; view = book_part v; has = refl; nth = h.0; is = inl h.1 }

  book_in : (c : Change) → InBook (mine v) c → Made c closed
  book_in c h =
      let is = own_first h.who h.view h.has in
      ⊎_elim
      (λ y. (h.nth, ap (λ (p : Part). get_elem? p.book.closed h.nth) is ∙ y))
      (λ y. absurd (some-ne-none c (sym (ap (λ (l : List Change). get_elem? l h.nth) (sym now.idle) ∙ (ap (λ (p : Part). get_elem? p.book.opened h.nth) is ∙ y)))))
      h.is

  shut : (c : Change) → Made c closed → (c.begins < c.ends) × (c.ends < clock) × (c.kind < 2)
  shut c h = (whole now.bare.0.all now.idle).8.closed h.0 c h.1

  -- no unhash ends it
  abbrev pub IsUp : Change → Type 0
  IsUp h = (u : Change) → Ends (mine v) u h → ⊥

  -- so none of its slot comes behind it
  behind : (h d : Change) → Made h closed → Made d closed → h.kind ≡ 1 → d.kind ≡ 0 → d.slot ≡ h.slot → h.ends < d.begins → IsUp h → ⊥
  behind h d i j hashes unhashes slot after up =
      let one = serial.one d (in_book d j) unhashes in
      let g : Change = one.0 in
      let e : Ends (mine v) d g = one.1 in
      elim (serial.lives h g (in_book h i) e.hash hashes e.is-hash (sym slot ∙ e.slot)) [
        | inl same ↦ up d (subst (Ends (mine v) d) (sym same) e)
        | inr (inl t) ↦ up t.0 t.1
        | inr (inr t) ↦ omega (arith, after, t.2, e.first t.0 t.1.unhash t.1.is-unhash t.1.slot t.1.after)
      ]

  up_stays : (h : Change) → Made h closed → h.kind ≡ 1 → IsUp h → Stays h.bucket h closed
  up_stays h i hashes up = (
    i.0,
    i.1,
    refl,
    hashes,
    λ m d lt at in_b other slot.
        let kind : d.kind ≡ 0 = omega (arith, (shut d (m, at)).2, other) in
        behind h d i (m, at) hashes kind slot (now.bare.0.rises i.0 m h d i.1 at lt) up,
  )

  stays_up : (b : ℕ) (c : Change) → Stays b c closed → IsUp c
  stays_up b c s u e =
      let j = book_in u e.unhash in
      let one = serial.one u e.unhash e.is-unhash in
      let same : one.0 ≡ c = serial.only u one.0 c one.1 e in
      let in_b : u.bucket ≡ b = one.2 ∙ (ap (λ (d : Change). d.bucket) same ∙ s.2) in
      three s.0 j.0
      (λ lt. s.4 j.0 u lt j.1 in_b (λ z. omega (arith, z, e.is-unhash)) e.slot)
      (λ eq. omega (arith, s.3, e.is-unhash, ap (λ (d : Change). d.kind) (some-injective c u (sym s.1 ∙ (ap (get_elem? closed) eq ∙ j.1)))))
      (λ gt. omega (arith, now.bare.0.rises j.0 s.0 u c j.1 s.1 gt, (shut c (s.0, s.1)).0, (shut u j).0, e.after))

  -- two that stand in one slot are one
  pub one_up : (g h : Change) → InBook (mine v) g → InBook (mine v) h → g.kind ≡ 1 → h.kind ≡ 1 → g.slot ≡ h.slot → IsUp g → IsUp h → g ≡ h
  one_up g h i j is_g is_h slot up_g up_h =
      elim (serial.lives g h i j is_g is_h slot) [
        | inl same ↦ same
        | inr (inl t) ↦ absurd (up_g t.0 t.1)
        | inr (inr t) ↦ absurd (up_h t.0 t.1)
      ]

  module _ (layout : Layout) (next : ℕ) where
    abbrev pub chains : Chains
    chains = chains_of layout next closed

    -- what stands in a row was hashed into its chain, and stands
    pub record WasHashed (b : ℕ) (x : Hashed) : Type 0 where
      pub hash : Change
      pub there : InBook (mine v) hash
      pub is-hash : hash.kind ≡ 1
      pub bucket : hash.bucket ≡ b
      pub slot : hash.slot ≡ x.slot
      pub card : card_from hash.card ≡ x.card
      pub up : IsUp hash

    pub was_hashed : (b : ℕ) (x : Hashed) → In x (row_at chains b) → WasHashed b x
    was_hashed b x i =
        let near : b < chain_count layout.shape = omega (arith, row_below chains.rows b x i, length-map-range_with_len (λ k. row_of (chain_from closed k)) 0 (chain_count layout.shape)) in
        let t = in_mapped (standing b [] closed) x (subst (In x) (row_at_is layout next closed b near) i) in
        let s : Stays b t.0 closed = ⊎_elim (λ z. absurd (some-ne-none t.0 (sym z.0.1))) (λ s. s) (standing_from b closed [] t.0 t.1) in
        record {
          hash = t.0;
          there = in_book t.0 (s.0, s.1);
          is-hash = s.3;
          bucket = s.2;
          slot = ap (λ (y : Hashed). y.slot) t.2;
          card = ap (λ (y : Hashed). y.card) t.2;
          up = stays_up b t.0 s;
        }

    -- and the other way round
    row_has : (h : Change) → Made h closed → h.kind ≡ 1 → IsUp h → h.bucket < chain_count layout.shape → In (hashed_in (seen_in h)) (row_at chains h.bucket)
    row_has h i hashes up near =
        subst (In (hashed_in (seen_in h))) (sym (row_at_is layout next closed h.bucket near))
        (mapped_in (standing h.bucket [] closed) h (standing_to h.bucket closed [] h (inr (up_stays h i hashes up))))

    module _ (laid : v.layout ≡ layout) (flat : Flat) (shape : IsShape flat.header) (mean : ChainsMean chains flat) where
      abbrev all : List Card
      all = cards_of flat.groups flat.sockets

      some_hash : 1 ≤ layout.shape.hash
      some_hash = subst (λ (s : Shape). 1 ≤ s.hash) (sym mean.shape) shape.hash

      some_listen : 1 ≤ layout.shape.listen
      some_listen = subst (λ (s : Shape). 1 ≤ s.listen) (sym mean.shape) shape.listen

      -- a card that stands is of the list
      pub stands_in : (card : Card) → unpacked (packed card) ≡ card → CardStands v (words_of (packed card)) → In card all
      stands_in card told c =
          let h = c.hash in
          let i = book_in h c.there in
          let card_is : card_from h.card ≡ card = ap card_from c.card-is ∙ told in
          let home_is : home_of v.layout h.card ≡ h.bucket = elim ((whole now.bare.0.all now.idle).5 h c.there (shut h i).2) [
            | inl none ↦ absurd (let z : 0 ≡ 4 = ap (length {A = ℕ}) (sym none ∙ c.card-is) in omega (arith, z))
            | inr is ↦ is
          ] in
          let near : h.bucket < chain_count layout.shape = subst (λ (b : ℕ). b < chain_count layout.shape) (ap (λ (l : Layout). home_of l h.card) (sym laid) ∙ home_is) (home_below layout.shape layout.seed (card_from h.card) some_hash some_listen) in
          subst (λ (d : Card). In d all) card_is (stands_of chains flat mean h.bucket (hashed_in (seen_in h)) (row_has h i c.is-hash c.stands near))

      -- and where none above a rank stands in its home, no card of the list is above it
      pub all_below : (packet : Packet) (best : ℕ) → NoneStandsAbove v (with_seed v.layout layout.seed) packet best → (c : Card) → In c all → rank c packet ≤ best
      all_below packet best none c i =
          let st = of_stands chains flat mean c i in
          let w = was_hashed (home_in chains c) st.hashed st.within in
          let card_is : card_from w.hash.card ≡ c = w.card ∙ st.card in
          let home_is : w.hash.bucket ≡ home_of (with_seed v.layout layout.seed) w.hash.card =
          w.bucket ∙ (ap (home layout.shape layout.seed) (sym card_is) ∙ ap (λ (l : Layout). home_of (with_seed l layout.seed) w.hash.card) (sym laid)) in
          let rank_is : rank_of packet w.hash.card ≡ rank c packet = words_rank packet w.hash.card ∙ ap (λ (d : Card). rank d packet) card_is in
          elim (cases_lt best (rank c packet)) [
            | inl above ↦ absurd (let e = none w.hash w.there w.is-hash home_is (omega (arith, above, rank_is)) in w.up e.0 e.1)
            | inr most ↦ most
          ]
