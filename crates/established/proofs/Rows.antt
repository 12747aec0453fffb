-- Chains and slots, as changes are added.
use Rattle.std.proofs.Common.{◌≡◌, ◌≢◌, ℕ, zero, suc, ◌+◌, ◌-◌, ◌<◌, ◌≤◌, ⊎_elim, List, [], ◌∷◌, ◌++◌, map, length, get_or, set, Option, None, Some, Bool, true, false, cond, eqb, eq-eqb, ne_eqb, not, filter, find, sym, refl, ap, ◌∙◌, arith, length-set, get_or-set_same, get_or-set_other}
use mathlib.Core.Logic.{dite}
use native.Mathlib.Decide.{ℕ_discrete, dec_le}
use Rattle.std.specs.List.{range_with_len}
use Rattle.std.specs.Option.{option_or}
use Rattle.std.proofs.lemmas.List.{ext_get_or}
use Rattle.std.proofs.lemmas.List.Folds.{find-append}
use Rattle.std.proofs.lemmas.List.FromFn.{length-map-range_with_len, get_or-map-range_with_len}
use Rattle.sock_card.specs.Words.{packed, unpacked}
use Rattle.sock_card.specs.declared.card.Card.{Card}
use Rattle.chain_book.specs.declared.outcome.Hashed.{Hashed}
use Rattle.chain_book.specs.Homes.{chain_count}
use Rattle.chain_book.specs.Slots.{free_slot, is_free}
use Rattle.chain_book.specs.Chains.{row_at, has_slot, placed, unhashed}
use Rattle.table_rule.specs.Sole.{standing, gone, seen_in, chain_from, used_in, AllUsed, FirstFree}
use Rattle.table_rule.specs.declared.view.Change.{Change}
use Rattle.table_rule.specs.declared.view.Layout.{Layout}
use Rattle.table_rule.proofs.Replays.{standing_more, used_more}
use Rattle.established.specs.Rows.{hashed_in, row_of, card_words}
use Rattle.established.specs.Alone.{chains_of}

-- Maps over a range

-- where one place of it changes
range-set : {X : Type 0} (f g : ℕ → X) (n i : ℕ) (x d : X) → i < n → g i ≡ x → ((j : ℕ) → j ≢ i → g j ≡ f j) → map g (range_with_len 0 n) ≡ set (map f (range_with_len 0 n)) i x
range-set f g n i x d near is else = ext_get_or d _ _ (length-map-range_with_len g 0 n ∙ (sym (length-map-range_with_len f 0 n) ∙ sym (length-set (map f (range_with_len 0 n)) i x)))
    (λ j h. let lt : j < n = omega (arith, h, length-map-range_with_len g 0 n) in
    get_or-map-range_with_len g 0 n j j d lt (omega arith) ∙ (dite (ℕ_discrete j i)
    (λ q. ap g q ∙ (is ∙ (sym (get_or-set_same (map f (range_with_len 0 n)) i x d (omega (arith, near, length-map-range_with_len f 0 n))) ∙ ap (λ (k : ℕ). get_or (set (map f (range_with_len 0 n)) i x) k d) (sym q))))
    (λ ne. else j ne ∙ (sym (get_or-map-range_with_len f 0 n j j d lt (omega arith)) ∙ sym (get_or-set_other (map f (range_with_len 0 n)) i j x d ne)))))

-- past its end nothing changes
range-past : {X : Type 0} (f g : ℕ → X) (n i : ℕ) (x d : X) → n ≤ i → ((j : ℕ) → j ≢ i → g j ≡ f j) → map g (range_with_len 0 n) ≡ set (map f (range_with_len 0 n)) i x
range-past f g n i x d far else = ext_get_or d _ _ (length-map-range_with_len g 0 n ∙ (sym (length-map-range_with_len f 0 n) ∙ sym (length-set (map f (range_with_len 0 n)) i x)))
    (λ j h. let lt : j < n = omega (arith, h, length-map-range_with_len g 0 n) in
    let ne : j ≢ i = λ q. omega (arith, lt, far, q) in
    get_or-map-range_with_len g 0 n j j d lt (omega arith) ∙ (else j ne ∙ (sym (get_or-map-range_with_len f 0 n j j d lt (omega arith)) ∙ sym (get_or-set_other (map f (range_with_len 0 n)) i j x d ne))))

-- One chain

row-else : (closed : List Change) (c : Change) (b : ℕ) → c.bucket ≢ b → row_of (chain_from (closed ++ c ∷ []) b) ≡ row_of (chain_from closed b)
row-else closed c b ne = ap (λ (l : List Change). row_of (map seen_in l)) (standing_more b closed [] c ∙ ap (λ (k : Bool). cond k (cond (eqb c.kind 1) (c ∷ standing b [] closed) (gone c.slot (standing b [] closed))) (standing b [] closed)) (ne_eqb c.bucket b ne))

gone-row : (slot : ℕ) (xs : List Change) → row_of (map seen_in (gone slot xs)) ≡ filter (λ x. not (has_slot slot x)) (row_of (map seen_in xs))
gone-row slot [] = refl
gone-row slot (x ∷ xs) =
    let rest : List Hashed = filter (λ y. not (has_slot slot y)) (row_of (map seen_in xs)) in
    dite (ℕ_discrete x.slot slot)
    (λ q. ap (λ (k : Bool). row_of (map seen_in (cond k (gone slot xs) (x ∷ gone slot xs)))) (eq-eqb x.slot slot q)
    ∙ (gone-row slot xs ∙ sym (ap (λ (k : Bool). cond (not k) (hashed_in (seen_in x) ∷ rest) rest) (eq-eqb x.slot slot q))))
    (λ ne. ap (λ (k : Bool). row_of (map seen_in (cond k (gone slot xs) (x ∷ gone slot xs)))) (ne_eqb x.slot slot ne)
    ∙ (ap (λ (l : List Hashed). hashed_in (seen_in x) ∷ l) (gone-row slot xs) ∙ sym (ap (λ (k : Bool). cond (not k) (hashed_in (seen_in x) ∷ rest) rest) (ne_eqb x.slot slot ne))))

pub row_at_is : (layout : Layout) (next : ℕ) (closed : List Change) (b : ℕ) → b < chain_count layout.shape → row_at (chains_of layout next closed) b ≡ row_of (chain_from closed b)
row_at_is layout next closed b near = get_or-map-range_with_len (λ i. row_of (chain_from closed i)) 0 (chain_count layout.shape) b b [] near (omega arith)

-- Slots

used-set : (closed : List Change) (c : Change) (n : ℕ) → map (used_in (closed ++ c ∷ [])) (range_with_len 0 n) ≡ set (map (used_in closed) (range_with_len 0 n)) c.slot (eqb c.kind 1)
used-set closed c n = dite (dec_le n c.slot)
    (λ far. range-past (used_in closed) (used_in (closed ++ c ∷ [])) n c.slot (eqb c.kind 1) false far used-else)
    (λ near. range-set (used_in closed) (used_in (closed ++ c ∷ [])) n c.slot (eqb c.kind 1) false (omega (arith, near)) used-here used-else)
  where
    used-else : (i : ℕ) → i ≢ c.slot → used_in (closed ++ c ∷ []) i ≡ used_in closed i
    used-else i ne = used_more i closed false c ∙ ap (λ (k : Bool). cond k (eqb c.kind 1) (used_in closed i)) (ne_eqb c.slot i (λ q. ne (sym q)))

    used-here : used_in (closed ++ c ∷ []) c.slot ≡ eqb c.kind 1
    used-here = used_more c.slot closed false c ∙ ap (λ (k : Bool). cond k (eqb c.kind 1) (used_in closed c.slot)) (eq-eqb c.slot c.slot refl)

module _ (layout : Layout) (next : ℕ) (closed : List Change) (bucket slot b e : ℕ) (near : bucket < chain_count layout.shape) where
  abbrev added-rows : Change → List (List Hashed)
  added-rows c = map (λ i. row_of (chain_from (closed ++ c ∷ []) i)) (range_with_len 0 (chain_count layout.shape))

  -- one hash more puts the card first in its chain, and its slot is used
  pub hashed_as_book : (card : Card) → unpacked (packed card) ≡ card
      → chains_of layout (slot + 1) (closed ++ record { kind = 1; bucket = bucket; slot = slot; card = card_words card; begins = b; ends = e } ∷ []) ≡ placed (chains_of layout next closed) bucket slot card
  hashed_as_book card says =
      let c : Change = record { kind = 1; bucket = bucket; slot = slot; card = card_words card; begins = b; ends = e } in
      let t = chains_of layout next closed in
      let here : row_of (chain_from (closed ++ c ∷ []) bucket) ≡ record { slot = slot; card = card } ∷ row_of (chain_from closed bucket) =
      ap (λ (l : List Change). row_of (map seen_in l)) (standing_more bucket closed [] c ∙ ap (λ (k : Bool). cond k (c ∷ standing bucket [] closed) (standing bucket [] closed)) (eq-eqb bucket bucket refl))
      ∙ ap (λ (x : Card). record { slot = slot; card = x } ∷ row_of (chain_from closed bucket)) says in
      let rows : added-rows c ≡ set t.rows bucket (record { slot = slot; card = card } ∷ row_at t bucket) =
      range-set (λ i. row_of (chain_from closed i)) (λ i. row_of (chain_from (closed ++ c ∷ []) i)) (chain_count layout.shape) bucket _ [] near
      (here ∙ ap (λ (l : List Hashed). record { slot = slot; card = card } ∷ l) (sym (row_at_is layout next closed bucket near)))
      (λ j ne. row-else closed c j (λ q. ne (sym q))) in
      let used = used-set closed c layout.shape.slots in
      λ k. record { shape = layout.shape; seed = layout.seed; rows = rows k; slots = record { used = used k; next = slot + 1 } }

  -- one unhash more takes the slot out of its chain
  pub unhashed_as_book : (words : List ℕ)
      → chains_of layout next (closed ++ record { kind = 0; bucket = bucket; slot = slot; card = words; begins = b; ends = e } ∷ []) ≡ unhashed (chains_of layout next closed) (record { bucket = bucket; slot = slot })
  unhashed_as_book words =
      let c : Change = record { kind = 0; bucket = bucket; slot = slot; card = words; begins = b; ends = e } in
      let t = chains_of layout next closed in
      let here : row_of (chain_from (closed ++ c ∷ []) bucket) ≡ filter (λ x. not (has_slot slot x)) (row_of (chain_from closed bucket)) =
      ap (λ (l : List Change). row_of (map seen_in l)) (standing_more bucket closed [] c ∙ ap (λ (k : Bool). cond k (gone slot (standing bucket [] closed)) (standing bucket [] closed)) (eq-eqb bucket bucket refl))
      ∙ gone-row slot (standing bucket [] closed) in
      let rows : added-rows c ≡ set t.rows bucket (filter (λ x. not (has_slot slot x)) (row_at t bucket)) =
      range-set (λ i. row_of (chain_from closed i)) (λ i. row_of (chain_from (closed ++ c ∷ []) i)) (chain_count layout.shape) bucket _ [] near
      (here ∙ ap (filter (λ x. not (has_slot slot x))) (sym (row_at_is layout next closed bucket near)))
      (λ j ne. row-else closed c j (λ q. ne (sym q))) in
      let used = used-set closed c layout.shape.slots in
      λ k. record { shape = layout.shape; seed = layout.seed; rows = rows k; slots = record { used = used k; next = next } }

-- Free slots

find-first : (p : ℕ → Bool) (n a i : ℕ) → a ≤ i → i < a + n → p i ≡ true → ((j : ℕ) → a ≤ j → j < i → p j ≡ false) → find p (range_with_len a n) ≡ Some i
find-first p zero a i le lt good before = absurd (omega (arith, le, lt))
find-first p (suc n) a i le lt good before = dite (ℕ_discrete a i)
    (λ e. ap (λ (k : Bool). cond k (Some a) (find p (range_with_len (a + 1) n))) (ap p e ∙ good) ∙ ap (λ (k : ℕ). Some k) e)
    (λ ne. ap (λ (k : Bool). cond k (Some a) (find p (range_with_len (a + 1) n))) (before a (omega arith) (omega (arith, le, ne))) ∙ find-first p n (a + 1) i (omega (arith, le, ne)) (omega (arith, lt)) good (λ j g h. before j (omega (arith, g)) h))

find-never : (p : ℕ → Bool) (n a : ℕ) → ((j : ℕ) → a ≤ j → j < a + n → p j ≡ false) → find p (range_with_len a n) ≡ None
find-never p zero a all = refl
find-never p (suc n) a all = ap (λ (k : Bool). cond k (Some a) (find p (range_with_len (a + 1) n))) (all a (omega arith) (omega arith)) ∙ find-never p n (a + 1) (λ j g h. all j (omega (arith, g)) (omega (arith, h)))

module _ (layout : Layout) (from : ℕ) (closed : List Change) (le : from ≤ layout.shape.slots) where
  abbrev n : ℕ
  n = layout.shape.slots

  free-is : (j : ℕ) → j < n → is_free (chains_of layout from closed).slots j ≡ not (used_in closed j)
  free-is j h = ap not (get_or-map-range_with_len (used_in closed) 0 n j j true h (omega arith))

  pub length_used : length (chains_of layout from closed).slots.used ≡ n
  length_used = length-map-range_with_len (used_in closed) 0 n

  free-search : free_slot (chains_of layout from closed).slots ≡ option_or (find (is_free (chains_of layout from closed).slots) (range_with_len from (n - from))) (find (is_free (chains_of layout from closed).slots) (range_with_len 0 from))
  free-search =
      let s = (chains_of layout from closed).slots in
      ap (λ (k : ℕ). find (is_free s) (range_with_len from (k - from) ++ range_with_len 0 from)) length_used ∙ find-append (is_free s) (range_with_len from (n - from)) (range_with_len 0 from)

  pub free_first : (i : ℕ) → i < n → FirstFree closed n from i → free_slot (chains_of layout from closed).slots ≡ Some i
  free_first i near f =
      let p = is_free (chains_of layout from closed).slots in
      let free : p i ≡ true = free-is i near ∙ ap not f.0 in
      let rest = find p (range_with_len 0 from) in
      free-search ∙ ⊎_elim
      (λ t. ap (λ (o : Option ℕ). option_or o rest) (find-first p (n - from) from i t.0 (omega (arith, near, le)) free (λ j g h. free-is j (omega (arith, h, near)) ∙ ap not (t.1 j g h))))
      (λ t. ap (λ (o : Option ℕ). option_or o rest) (find-never p (n - from) from (λ j g h. free-is j (omega (arith, h, le)) ∙ ap not (t.1 j g (omega (arith, h, le)))))
      ∙ find-first p from 0 i (omega arith) (let z = t.0 in omega (arith, z)) free (λ j g h. free-is j (omega (arith, h, near)) ∙ ap not (t.2 j g h)))
      f.1

  pub free_none : AllUsed closed 0 n → free_slot (chains_of layout from closed).slots ≡ None
  free_none all =
      let p = is_free (chains_of layout from closed).slots in
      free-search ∙ (ap (λ (o : Option ℕ). option_or o (find p (range_with_len 0 from))) (find-never p (n - from) from (λ j g h. free-is j (omega (arith, h, le)) ∙ ap not (all j (omega arith) (omega (arith, h, le)))))
      ∙ find-never p from 0 (λ j g h. free-is j (omega (arith, h, le)) ∙ ap not (all j (omega arith) (omega (arith, h, le)))))
