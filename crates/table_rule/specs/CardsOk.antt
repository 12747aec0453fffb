-- What views know of card words, and that no chain has two lit cards of one four-tuple. Our own.
--
-- In three parts: what views know of card words, up to `CardsOk`; which cards of a chain have one four-tuple, up to
-- `TuplesOk`; and what steps ask and say of that, from `may_claim` on.
use Rattle.std.specs.Prelude.{◌≡◌, ◌≢◌, ℕ, ◌+◌, ◌*◌, ◌/◌, ◌%◌, ◌<◌, ◌≤◌, List, [], ◌∷◌, Bool, true, cond, ◌==◌}
use mathlib.Core.Option.{some}
use lib.ListN.{get_elem?}
use Rattle.list_words.specs.Lists.{total, Each}
use Rattle.table_rule.specs.declared.view.Seen.{Seen}

-- card i w: word w of the card of slot i
abbrev pub SeenOk : (ℕ → ℕ → ℕ) → Seen → Type 0
SeenOk card s = (w x : ℕ) → w < 4 → get_elem? s.words w ≡ some x → card s.slot w ≡ x

pub record Known : Type 0 where
  pub fresh : List Seen
  pub tied : List Seen
  pub walked : List Seen
  pub ahead : List Seen

pub record KnownOk (card : ℕ → ℕ → ℕ) (v : Known) : Type 0 where
  pub fresh : Each (SeenOk card) v.fresh
  pub tied : Each (SeenOk card) v.tied
  pub walked : Each (SeenOk card) v.walked
  pub ahead : Each (SeenOk card) v.ahead

abbrev pub CardsOk : (ℕ → ℕ → ℕ) → List Known → Type 0
CardsOk card views = (k : ℕ) (v : Known) → get_elem? views k ≡ some v → KnownOk card v

-- of a card's first two words: both addresses, both ports, and the namespace
abbrev pub tuple : ℕ → ℕ → ℕ
tuple a b = (a * 4294967296 + b / 4294967296) * 256 + b / 16 % 256

-- 1 where it is the card of a full socket with the four-tuple t
abbrev pub bears : ℕ → ℕ → ℕ → ℕ
bears t a b = cond (b % 16 == 1) (cond (tuple a b == t) 1 0) 0

-- the card is that of a full socket or of a request, whose kind is 4
abbrev pub has_tuple : ℕ → Bool
has_tuple b = cond (b % 16 == 1) true (b % 16 == 4)

-- 1 where it is the card of one of these, with the four-tuple t
abbrev pub claims : ℕ → ℕ → ℕ → ℕ
claims t a b = cond (has_tuple b) (cond (tuple a b == t) 1 0) 0

-- what a test of cards says of slot i, where it is lit
abbrev pub shows : (ℕ → ℕ → ℕ → ℕ) → (ℕ → ℕ → ℕ) → (ℕ → ℕ) → ℕ → ℕ → ℕ
shows test card dark t i = cond (dark i == 0) (test t (card i 0) (card i 1)) 0

pub record TuplesOk (buckets : ℕ) (chain : ℕ → List ℕ) (card : ℕ → ℕ → ℕ) (dark twice : ℕ → ℕ) : Type 0 where
  -- no chain has two lit full cards of one four-tuple
  pub full : (b t : ℕ) → b < buckets → total (shows bears card dark t) (chain b) ≤ 1
  -- nor two of full sockets and requests, but for a bucket in which one was lit beside another,
  -- under its present lock
  pub taken : (b t : ℕ) → b < buckets → twice b ≡ 0 → total (shows claims card dark t) (chain b) ≤ 1

-- 1 where a card that begins with these words has the four-tuple t, or may have it
abbrev pub may_claim : ℕ → List ℕ → ℕ
may_claim t [] = 1
may_claim t (a ∷ []) = 1
may_claim t (a ∷ b ∷ ws) = claims t a b

abbrev pub all_claims : ℕ → List Seen → ℕ
all_claims t xs = total (λ (s : Seen). may_claim t s.words) xs

-- of a list, how many have the four-tuple of a card with these words
abbrev pub others_of : List ℕ → List Seen → ℕ
others_of [] xs = 1
others_of (a ∷ []) xs = 1
others_of (a ∷ b ∷ ws) xs = cond (has_tuple b) (all_claims (tuple a b) xs) 0

-- how many of a list have the four-tuple of its first
abbrev pub beside : List Seen → ℕ
beside [] = 0
beside (s ∷ ss) = others_of s.words ss

-- no two of the list, of full sockets and requests, have one four-tuple
abbrev pub NoneTwice : List Seen → Type 0
NoneTwice xs = (t : ℕ) → all_claims t xs ≤ 1

-- s has another four-tuple than a full socket's card that begins with the words a and b, or is no full socket's, or
-- is slot i itself
pub record Differs (i a b : ℕ) (s : Seen) : Type 0 where
  pub ends : ℕ
  pub ports : ℕ
  pub has-ends : get_elem? s.words 0 ≡ some ends
  pub has-ports : get_elem? s.words 1 ≡ some ports
  pub apart : s.slot ≢ i → bears (tuple a b) ends ports ≡ 0

-- slot i may be lit at the head of this list: where its card is a full socket's, no other of the list has its
-- four-tuple
pub record MayLight (i : ℕ) (xs : List Seen) : Type 0 where
  pub nth : ℕ
  pub seen : Seen
  pub there : get_elem? xs nth ≡ some seen
  pub slot : seen.slot ≡ i
  pub a : ℕ
  pub b : ℕ
  pub has-a : get_elem? seen.words 0 ≡ some a
  pub has-b : get_elem? seen.words 1 ≡ some b
  pub alone : b % 16 ≡ 1 → Each (Differs i a b) xs
