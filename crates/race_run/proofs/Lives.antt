-- By a book in which the sightings of a dump are true, its items are lives of that book.
use Rattle.std.proofs.Common.{◌≡◌, ℕ, zero, suc, ◌+◌, ◌<◌, ◌≤◌, inl, inr, ⊎_elim, List, [], ◌∷◌, ◌++◌, map, refl, sym, ap, ◌∙◌, arith, length, subst}
use Rattle.std.proofs.lemmas.List.{map-append}
use mathlib.Core.Logic.{dite}
use mathlib.Core.Option.{some, some-injective, some-ne-none}
use native.Mathlib.Decide.{ℕ_discrete}
use lib.ListN.{get_elem?}
use Rattle.list_words.proofs.EachLemmas.{each_append}
use Rattle.list_words.specs.Lists.{Each, Pairs}
use Rattle.sock_card.specs.declared.card.Card.{Card}
use Rattle.table_rule.specs.Beyond.{IsThere, StoodOf, SightTrue}
use Rattle.table_rule.specs.Book.{Part, InBook}
use Rattle.table_rule.specs.Lists.{stands, slots_of}
use Rattle.table_rule.specs.Sole.{IsRead}
use Rattle.table_rule.specs.declared.view.Change.{Change}
use Rattle.table_rule.specs.declared.view.Seen.{Seen}
use Rattle.table_rule.specs.declared.view.Sight.{Sight}
use Rattle.table_rule.proofs.Lists.{times-here, times-else}
use Rattle.race_run.specs.Rows.{Row, chain_in, NotAfter, cards_of, all_cards, IsChain}
use Rattle.race_run.specs.Sightings.{sighting, sightings}
use Rattle.race_run.specs.Books.{life_card, HaveOnePlace, AreApart, IsAmong, IsLife, AreTold}
use Rattle.race_run.proofs.Cards.{card_told}

abbrev AllStood : List Part → Sight → List Seen → Type 0
AllStood views s xs = (n : ℕ) (e : Seen) → get_elem? xs n ≡ some e → StoodOf views s e

abbrev IsElse : Change → Change → Type 0
IsElse h g = HaveOnePlace h g → ⊥

-- One chain

module _ (views : List Part) (t0 t1 b : ℕ) (row : Row) where
  abbrev s : Sight
  s = sighting t0 t1 b row

  abbrev lives_of : (xs : List Seen) → AllStood views s xs → List Change
  lives_of [] f = []
  lives_of (x ∷ xs) f = (f 0 x refl).hash ∷ lives_of xs (λ n e. f (suc n) e)

  cards_told : (xs : List Seen) (f : AllStood views s xs) → Each IsRead xs → cards_of xs ≡ map life_card (lives_of xs f)
  cards_told [] f read = refl
  cards_told (x ∷ xs) f read =
      let y = f 0 x refl in
      ap (λ (c : Card). c ∷ cards_of xs) (sym (card_told x.words y.hash.card read.0 y.words))
      ∙ ap (λ (l : List Card). life_card y.hash ∷ l) (cards_told xs (λ n e. f (suc n) e) read.1)

  lives_stand : (instant : ℕ → ℕ) → instant b ≡ row.instant → (xs : List Seen) (f : AllStood views s xs) → Each (IsLife views instant) (lives_of xs f)
  lives_stand instant is [] f = tt
  lives_stand instant is (x ∷ xs) f =
      let y = f 0 x refl in
      let here = y.bucket b refl in (
        (y.in-book, y.is-hash, subst (λ (n : ℕ). IsThere views y.hash n) (sym (ap instant here.0 ∙ is)) here.1),
        lives_stand instant is xs (λ n e. f (suc n) e),
      )

  lives_here : (xs : List Seen) (f : AllStood views s xs) → Each (λ (h : Change). h.bucket ≡ b) (lives_of xs f)
  lives_here [] f = tt
  lives_here (x ∷ xs) f = (((f 0 x refl).bucket b refl).0, lives_here xs (λ n e. f (suc n) e))

  -- a slot that isn't in the chain has none of them
  lives_else : (xs : List Seen) (f : AllStood views s xs) (h : Change) → stands h.slot xs ≡ 0 → Each (IsElse h) (lives_of xs f)
  lives_else [] f h none = tt
  lives_else (x ∷ xs) f h none =
      let y = f 0 x refl in (
        (λ p. let e : x.slot ≡ h.slot = sym (p.1 ∙ y.slot) in omega (arith, none, ap (λ (i : ℕ). stands i (x ∷ xs)) e, times-here x.slot (slots_of xs))),
        lives_else xs (λ n e. f (suc n) e) h (dite (ℕ_discrete x.slot h.slot)
            (λ e. absurd (omega (arith, none, ap (λ (i : ℕ). stands i (x ∷ xs)) e, times-here x.slot (slots_of xs))))
            (λ ne. sym (times-else x.slot h.slot (slots_of xs) ne) ∙ none)),
      )

  lives_apart : (xs : List Seen) (f : AllStood views s xs) → ((i : ℕ) → stands i xs ≤ 1) → AreApart (lives_of xs f)
  lives_apart [] f once = tt
  lives_apart (x ∷ xs) f once =
      let y = f 0 x refl in
      let none : stands x.slot xs ≡ 0 = omega (arith, once x.slot, times-here x.slot (slots_of xs)) in (
        lives_else xs (λ n e. f (suc n) e) y.hash (ap (λ (i : ℕ). stands i xs) y.slot ∙ none),
        lives_apart xs (λ n e. f (suc n) e) (λ i. dite (ℕ_discrete x.slot i)
            (λ e. omega (arith, none, ap (λ (j : ℕ). stands j xs) e))
            (λ ne. omega (arith, once i, times-else x.slot i (slots_of xs) ne))),
      )

  life_among : (xs : List Seen) (f : AllStood views s xs) (h : Change) (n : ℕ) (e : Seen) → Each IsRead xs → get_elem? xs n ≡ some e → h.bucket ≡ b → e.slot ≡ h.slot
      → ((k a : ℕ) → k < 4 → get_elem? e.words k ≡ some a → get_elem? h.card k ≡ some a) → IsAmong h (lives_of xs f)
  life_among [] f h n e read there at slot words = absurd (some-ne-none e (sym there))
  life_among (x ∷ xs) f h zero e read there at slot words =
      let y = f 0 x refl in
      let same : x ≡ e = some-injective x e there in
      inl (
        ((y.bucket b refl).0 ∙ sym at, y.slot ∙ (ap (λ (z : Seen). z.slot) same ∙ slot)),
        card_told x.words y.hash.card read.0 y.words ∙ sym (card_told x.words h.card read.0 (subst (λ (z : Seen). (k a : ℕ) → k < 4 → get_elem? z.words k ≡ some a → get_elem? h.card k ≡ some a) (sym same) words)),
      )
  life_among (x ∷ xs) f h (suc n) e read there at slot words = inr (life_among xs (λ m d. f (suc m) d) h n e read.1 there at slot words)

-- Lists of lives, one behind the other

else_all : (P : Change → Type 0) (h : Change) (xs : List Change) → ((g : Change) → P g → IsElse h g) → Each P xs → Each (IsElse h) xs
else_all P h [] f k = tt
else_all P h (x ∷ xs) f k = (f x k.0, else_all P h xs f k.1)

apart_both : (b : ℕ) (xs ys : List Change) → Each (λ (h : Change). h.bucket ≡ b) xs → Each (λ (h : Change). b < h.bucket) ys → AreApart xs → AreApart ys → AreApart (xs ++ ys)
apart_both b [] ys here above p q = q
apart_both b (x ∷ xs) ys here above p q = (
  each_append (IsElse x) xs ys p.0 (else_all (λ (h : Change). b < h.bucket) x ys (λ g k t. omega (arith, k, here.0, t.0)) above),
  apart_both b xs ys here.1 above p.1 q,
)

among_left : (h : Change) (xs ys : List Change) → IsAmong h xs → IsAmong h (xs ++ ys)
among_left h [] ys k = absurd k
among_left h (x ∷ xs) ys k = ⊎_elim (λ z. inl z) (λ z. inr (among_left h xs ys z)) k

among_right : (h : Change) (xs ys : List Change) → IsAmong h ys → IsAmong h (xs ++ ys)
among_right h [] ys k = k
among_right h (x ∷ xs) ys k = inr (among_right h xs ys k)

higher : (b c : ℕ) (xs : List Change) → b ≤ c → Each (λ (h : Change). c ≤ h.bucket) xs → Each (λ (h : Change). b ≤ h.bucket) xs
higher b c [] le k = tt
higher b c (x ∷ xs) le k = (omega (arith, le, k.0), higher b c xs le k.1)

higher_of : (b : ℕ) (xs : List Change) → Each (λ (h : Change). h.bucket ≡ b) xs → Each (λ (h : Change). b ≤ h.bucket) xs
higher_of b [] k = tt
higher_of b (x ∷ xs) k = (omega (arith, k.0), higher_of b xs k.1)

-- All chains

-- of the first bucket and those that follow, these are the rows' instants
abbrev Instants : (ℕ → ℕ) → ℕ → List Row → Type 0
Instants instant b [] = Unit {0}
Instants instant b (row ∷ rows) = (instant b ≡ row.instant) × Instants instant (b + 1) rows

-- the instant of a bucket, and behind the last one the end
abbrev instant_in : ℕ → List Row → ℕ → ℕ
instant_in end [] b = end
instant_in end (row ∷ rows) zero = row.instant
instant_in end (row ∷ rows) (suc b) = instant_in end rows b

module _ (views : List Part) (t0 t1 : ℕ) where
  abbrev AllTrue : ℕ → List Row → Type 0
  AllTrue b rows = Each (SightTrue views) (sightings t0 t1 b rows)

  abbrev all_lives : (b : ℕ) (rows : List Row) → AllTrue b rows → List Change
  all_lives b [] k = []
  all_lives b (row ∷ rows) k = lives_of views t0 t1 b row row.chain k.0.listed ++ all_lives (b + 1) rows k.1

  all_told : (b : ℕ) (rows : List Row) (k : AllTrue b rows) → Each IsChain (map chain_in rows) → all_cards (map chain_in rows) ≡ map life_card (all_lives b rows k)
  all_told b [] k chains = refl
  all_told b (row ∷ rows) k chains =
      ap (λ (l : List Card). l ++ all_cards (map chain_in rows)) (cards_told views t0 t1 b row row.chain k.0.listed chains.0.0)
      ∙ (ap (λ (l : List Card). map life_card (lives_of views t0 t1 b row row.chain k.0.listed) ++ l) (all_told (b + 1) rows k.1 chains.1)
      ∙ sym (map-append life_card (lives_of views t0 t1 b row row.chain k.0.listed) (all_lives (b + 1) rows k.1)))

  all_above : (b : ℕ) (rows : List Row) (k : AllTrue b rows) → Each (λ (h : Change). b ≤ h.bucket) (all_lives b rows k)
  all_above b [] k = tt
  all_above b (row ∷ rows) k =
      each_append (λ (h : Change). b ≤ h.bucket) (lives_of views t0 t1 b row row.chain k.0.listed) (all_lives (b + 1) rows k.1)
      (higher_of b (lives_of views t0 t1 b row row.chain k.0.listed) (lives_here views t0 t1 b row row.chain k.0.listed))
      (higher b (b + 1) (all_lives (b + 1) rows k.1) (omega arith) (all_above (b + 1) rows k.1))

  above_all : (b c : ℕ) (xs : List Change) → c ≡ b + 1 → Each (λ (h : Change). c ≤ h.bucket) xs → Each (λ (h : Change). b < h.bucket) xs
  above_all b c [] e k = tt
  above_all b c (x ∷ xs) e k = (omega (arith, e, k.0), above_all b c xs e k.1)

  all_apart : (b : ℕ) (rows : List Row) (k : AllTrue b rows) → Each IsChain (map chain_in rows) → AreApart (all_lives b rows k)
  all_apart b [] k chains = tt
  all_apart b (row ∷ rows) k chains =
      apart_both b (lives_of views t0 t1 b row row.chain k.0.listed) (all_lives (b + 1) rows k.1)
      (lives_here views t0 t1 b row row.chain k.0.listed)
      (above_all b (b + 1) (all_lives (b + 1) rows k.1) refl (all_above (b + 1) rows k.1))
      (lives_apart views t0 t1 b row row.chain k.0.listed chains.0.1)
      (all_apart (b + 1) rows k.1 chains.1)

  module _ (instant : ℕ → ℕ) where
    all_stand : (b : ℕ) (rows : List Row) (k : AllTrue b rows) → Instants instant b rows → Each (IsLife views instant) (all_lives b rows k)
    all_stand b [] k is = tt
    all_stand b (row ∷ rows) k is = each_append (IsLife views instant) (lives_of views t0 t1 b row row.chain k.0.listed) (all_lives (b + 1) rows k.1)
        (lives_stand views t0 t1 b row instant is.0 row.chain k.0.listed) (all_stand (b + 1) rows k.1 is.1)

    all_among : (b : ℕ) (rows : List Row) (k : AllTrue b rows) → Instants instant b rows → Each IsChain (map chain_in rows) → (h : Change) → InBook views h → h.kind ≡ 1 → b ≤ h.bucket → h.bucket < b + length rows → IsThere views h (instant h.bucket) → IsAmong h (all_lives b rows k)
    all_among b [] k is chains h in-book kind low high there = absurd (omega (arith, low, high))
    all_among b (row ∷ rows) k is chains h in-book kind low high there = dite (ℕ_discrete h.bucket b)
        (λ e.
        let l = k.0.whole refl b refl h in-book kind e (subst (λ (n : ℕ). IsThere views h n) (ap instant e ∙ is.0) there) in
        among_left h (lives_of views t0 t1 b row row.chain k.0.listed) (all_lives (b + 1) rows k.1) (life_among views t0 t1 b row row.chain k.0.listed h l.nth l.seen chains.0.0 l.there e l.slot l.words))
        (λ ne. among_right h (lives_of views t0 t1 b row row.chain k.0.listed) (all_lives (b + 1) rows k.1)
        (all_among (b + 1) rows k.1 is.1 chains.1 h in-book kind (omega (arith, low, ne)) (omega (arith, high)) there))

  -- The rows' own instants

  own_instants : (instant : ℕ → ℕ) (b : ℕ) (rows : List Row) → ((n : ℕ) → instant (b + n) ≡ instant_in t1 rows n) → Instants instant b rows
  own_instants instant b [] f = tt
  own_instants instant b (row ∷ rows) f = (
    ap instant (let z : b ≡ b + 0 = omega arith in z) ∙ f 0,
    own_instants instant (b + 1) rows (λ n. ap instant (let z : b + 1 + n ≡ b + suc n = omega arith in z) ∙ f (suc n)),
  )

  none_low : (least b : ℕ) (rows : List Row) → least ≤ t1 → Each (λ (r : Row). least ≤ r.instant) rows → least ≤ instant_in t1 rows b
  none_low least b [] order k = order
  none_low least zero (row ∷ rows) order k = k.0
  none_low least (suc b) (row ∷ rows) order k = none_low least b rows order k.1

  none_high : (b : ℕ) (rows : List Row) → Each (λ (r : Row). r.instant ≤ t1) rows → instant_in t1 rows b ≤ t1
  none_high b [] k = omega arith
  none_high zero (row ∷ rows) k = k.0
  none_high (suc b) (row ∷ rows) k = none_high b rows k.1

  none_down : (a b : ℕ) (rows : List Row) → Each (λ (r : Row). r.instant ≤ t1) rows → Pairs NotAfter rows → a ≤ b → instant_in t1 rows a ≤ instant_in t1 rows b
  none_down a b [] high p le = omega arith
  none_down zero zero (row ∷ rows) high p le = omega arith
  none_down zero (suc b) (row ∷ rows) high p le = none_low row.instant b rows high.0 p.0
  none_down (suc a) zero (row ∷ rows) high p le = absurd (omega (arith, le))
  none_down (suc a) (suc b) (row ∷ rows) high p le = none_down a b rows high.1 p.1 (omega (arith, le))

  each_since : (b : ℕ) (rows : List Row) → AllTrue b rows → Each (λ (r : Row). t0 ≤ r.instant) rows
  each_since b [] k = tt
  each_since b (row ∷ rows) k = (k.0.since, each_since (b + 1) rows k.1)

  each_until : (b : ℕ) (rows : List Row) → AllTrue b rows → Each (λ (r : Row). r.instant ≤ t1) rows
  each_until b [] k = tt
  each_until b (row ∷ rows) k = (k.0.until, each_until (b + 1) rows k.1)

  pub is_true : (buckets : ℕ) (rows : List Row) (items : List Card) → length rows ≡ buckets → t0 ≤ t1 → Pairs NotAfter rows → items ≡ all_cards (map chain_in rows) → Each IsChain (map chain_in rows) → AllTrue 0 rows → AreTold views buckets t0 t1 items
  is_true buckets rows items each order ascend are chains k =
      let instant : ℕ → ℕ = instant_in t1 rows in
      let own : Instants instant 0 rows = own_instants instant 0 rows (λ n. ap instant (let z : 0 + n ≡ n = omega arith in z)) in
      record {
        instant = instant;
        low = λ b. none_low t0 b rows order (each_since 0 rows k);
        high = λ b. none_high b rows (each_until 0 rows k);
        ascend = λ a b le. none_down a b rows (each_until 0 rows k) ascend le;
        lives = all_lives 0 rows k;
        cards = are ∙ all_told 0 rows k chains;
        stand = all_stand instant 0 rows k own;
        once = all_apart 0 rows k chains;
        all = λ h in-book kind near there. all_among instant 0 rows k own chains h in-book kind (omega arith) (omega (arith, each, near)) there;
      }
