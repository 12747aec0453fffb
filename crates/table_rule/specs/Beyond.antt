-- What lives are to each other, in which order chains have them, and that what was seen stays true. Our own.
--
-- To be read from `Beyond`, which is a part of the rule, upwards. What stands below it says the like of the changes of
-- a book alone.
use Rattle.std.specs.Prelude.{◌≡◌, ℕ, ◌+◌, ◌<◌, ◌≤◌, List, [], ◌∷◌, ◌⊎◌}
use mathlib.Core.Option.{some}
use Rattle.list_words.specs.Lists.{Each}
use Rattle.sock_card.specs.Words.{packed, unpacked}
use Rattle.table_rule.specs.Words.{words_of, home_of, bucket_count}
use Rattle.sock_card.specs.declared.words.CardWords.{CardWords}
use lib.ListN.{get_elem?}
use Rattle.table_rule.specs.Lists.{times}
use Rattle.table_rule.specs.SlotsOk.{owns}
use Rattle.table_rule.specs.CardsOk.{bears}
use Rattle.table_rule.specs.Book.{open-end, Life, Part, InBook, Ends}
use Rattle.table_rule.specs.declared.view.View.{View}
use Rattle.table_rule.specs.declared.view.Layout.{Layout}
use Rattle.table_rule.specs.declared.view.Change.{Change}
use Rattle.table_rule.specs.declared.view.SlotView.{SlotView}
use Rattle.table_rule.specs.declared.view.Seen.{Seen}
use Rattle.table_rule.specs.declared.view.Sight.{Sight}

-- Twins

-- the card is a full socket's, with the four-tuple t
pub record Shows (t : ℕ) (card : List ℕ) : Type 0 where
  pub ends : ℕ
  pub ports : ℕ
  pub has-ends : get_elem? card 0 ≡ some ends
  pub has-ports : get_elem? card 1 ≡ some ports
  pub bears-it : bears t ends ports ≡ 1

-- of two full lives of one bucket and four-tuple, one has left before the other began
abbrev pub Twin : ℕ → ℕ → Life → ℕ → ℕ → Life → Type 0
Twin i m x j n z = ((i ≡ j) × (m ≡ n)) ⊎ (x.left < z.begun) ⊎ (z.left < x.begun)

abbrev pub TwinsOk : (ℕ → List Life) → Type 0
TwinsOk lives =
    (i j m n t : ℕ) (x z : Life) → get_elem? (lives i) m ≡ some x → get_elem? (lives j) n ≡ some z
    → x.bucket ≡ z.bucket → Shows t x.card → Shows t z.card → Twin i m x j n z

-- Cards

-- these are the words of a card
pub record IsCardWords (ws : List ℕ) : Type 0 where
  pub words : CardWords
  pub is : ws ≡ words_of words
  pub packs : packed (unpacked words) ≡ words

-- a life that was lit has the words of a card that belongs in its bucket
abbrev pub CardsAre : Layout → (ℕ → List Life) → Type 0
CardsAre layout lives =
    (i n : ℕ) (x : Life) → get_elem? (lives i) n ≡ some x → (x.card ≡ [])
    ⊎ (IsCardWords x.card × (home_of layout x.card ≡ x.bucket))

-- Newest first

-- the number at which the last of a slot's lives began
abbrev pub born : List Life → ℕ
born [] = 0
born (x ∷ []) = x.begun
born (x ∷ y ∷ l) = born (y ∷ l)

abbrev pub Falls : (ℕ → ℕ) → List ℕ → Type 0
Falls f [] = Unit {0}
Falls f (x ∷ xs) = Each (λ y. f y < f x) xs × Falls f xs

-- Sightings

-- the words of e are the card's
abbrev pub Words : Seen → Life → Type 0
Words e x = (w a : ℕ) → w < 4 → get_elem? e.words w ≡ some a → get_elem? x.card w ≡ some a

-- at this number of the clock it had been hashed, and nobody had begun to unhash it
abbrev pub StandsAt : ℕ → Life → Type 0
StandsAt instant x = (x.linked < instant) × (instant ≤ x.leaving)

-- a life of e's slot, with its words, stood between the sighting's numbers; of a chain, in its bucket and at its
-- instant
pub record StoodAs (lives : ℕ → List Life) (s : Sight) (e : Seen) : Type 0 where
  pub nth : ℕ
  pub life : Life
  pub there : get_elem? (lives e.slot) nth ≡ some life
  pub begun : life.begun < s.until
  pub left : s.since ≤ life.left
  pub words : Words e life
  pub bucket : (b : ℕ) → s.bucket ≡ b ∷ [] → (life.bucket ≡ b) × StandsAt s.instant life

pub record Listed (s : Sight) (i : ℕ) (x : Life) : Type 0 where
  pub nth : ℕ
  pub seen : Seen
  pub there : get_elem? s.listed nth ≡ some seen
  pub slot : seen.slot ≡ i
  pub words : Words seen x

pub record SightOk (clock : ℕ) (lives : ℕ → List Life) (s : Sight) : Type 0 where
  pub since : s.since ≤ s.instant
  pub instant : s.instant ≤ clock
  pub before : s.instant ≤ s.until
  pub until : (s.until ≤ clock) ⊎ (s.until ≡ open-end)
  pub listed : (n : ℕ) (e : Seen) → get_elem? s.listed n ≡ some e → StoodAs lives s e
  -- each life of the bucket that stood at its instant
  pub whole : s.whole ≡ 1 → (b : ℕ) → s.bucket ≡ b ∷ [] → (i n : ℕ) (x : Life) → get_elem? (lives i) n ≡ some x
      → x.bucket ≡ b → StandsAt s.instant x → Listed s i x

pub record SightsOk (clock : ℕ) (lives : ℕ → List Life) (v : View) : Type 0 where
  pub since : v.since ≤ clock
  pub each : (n : ℕ) (s : Sight) → get_elem? v.sights n ≡ some s → SightOk clock lives s

-- Owners

-- the pass has the slot, and has not lit it
abbrev pub has_it : ℕ → SlotView → ℕ
has_it i v = owns i v + times i v.hung

-- such a slot is the open change's, and an open hash has no card yet
abbrev pub OwnedOk : View → Type 0
OwnedOk v = (i : ℕ) → 0 < has_it i v.slot → (c : Change) × (v.book.opened ≡ c ∷ []) × (c.slot ≡ i) × (c.kind < 2)
    × (c.kind ≡ 1 → c.card ≡ [])

pub record Beyond (layout : Layout) (clock : ℕ) (chain : ℕ → List ℕ) (lives : ℕ → List Life)
    (views : List View) : Type 0 where
  pub twins : TwinsOk lives
  pub cards : CardsAre layout lives
  pub newest : (b : ℕ) → b < bucket_count layout → Falls (λ i. born (lives i)) (chain b)
  pub sights : (k : ℕ) (v : View) → get_elem? views k ≡ some v → SightsOk clock lives v
  pub owned : (k : ℕ) (v : View) → get_elem? views k ≡ some v → OwnedOk v

-- Of a book alone

-- each change that has a card stands in the bucket in which the card belongs
abbrev pub AreHome : Layout → List Part → Type 0
AreHome layout views = (c : Change) → InBook views c → c.kind < 2 → (c.card ≡ []) ⊎ (home_of layout c.card ≡ c.bucket)

-- once the change u of its bucket was made, the hash h stands
pub record Present (views : List Part) (u h : Change) : Type 0 where
  pub hash : InBook views h
  pub is-hash : h.kind ≡ 1
  pub bucket : h.bucket ≡ u.bucket
  pub begun : h.begins ≤ u.begins
  pub stays : (w : Change) → Ends views w h → u.begins < w.begins

-- replaying a bucket's changes, no two full cards have one four-tuple after any of them
abbrev pub Unlike : List Part → Type 0
Unlike views =
    (u g h : Change) (t : ℕ) → Present views u g → Present views u h → Shows t g.card → Shows t h.card → g ≡ h

-- the hash's life stood at this number of the clock
abbrev pub IsThere : List Part → Change → ℕ → Type 0
IsThere views h instant = (h.ends < instant) × ((u : Change) → Ends views u h → instant ≤ u.begins)

-- a life with e's words stood in that slot between the sighting's numbers, by the book alone; of a chain, in its bucket
-- and at its instant
pub record StoodOf (views : List Part) (s : Sight) (e : Seen) : Type 0 where
  pub hash : Change
  pub in-book : InBook views hash
  pub is-hash : hash.kind ≡ 1
  pub slot : hash.slot ≡ e.slot
  pub begun : hash.begins < s.until
  pub left : (u : Change) → Ends views u hash → s.since ≤ u.ends
  pub words : (w a : ℕ) → w < 4 → get_elem? e.words w ≡ some a → get_elem? hash.card w ≡ some a
  pub bucket : (b : ℕ) → s.bucket ≡ b ∷ [] → (hash.bucket ≡ b) × IsThere views hash s.instant

pub record ListedOf (s : Sight) (h : Change) : Type 0 where
  pub nth : ℕ
  pub seen : Seen
  pub there : get_elem? s.listed nth ≡ some seen
  pub slot : seen.slot ≡ h.slot
  pub words : (w a : ℕ) → w < 4 → get_elem? seen.words w ≡ some a → get_elem? h.card w ≡ some a

pub record SightTrue (views : List Part) (s : Sight) : Type 0 where
  pub since : s.since ≤ s.instant
  pub until : s.instant ≤ s.until
  pub listed : (n : ℕ) (e : Seen) → get_elem? s.listed n ≡ some e → StoodOf views s e
  -- each life of the bucket that stood at its instant is listed
  pub whole : s.whole ≡ 1 → (b : ℕ) → s.bucket ≡ b ∷ [] → (h : Change) → InBook views h → h.kind ≡ 1 → h.bucket ≡ b
      → IsThere views h s.instant → ListedOf s h
