-- Chains as they were walked, each under its bucket's lock, as cards: our own.
use Rattle.std.specs.Prelude.{ℕ, ◌≤◌, List, [], ◌∷◌, ◌++◌, map}
use Rattle.list_words.specs.Lists.{Each}
use Rattle.sock_card.specs.declared.card.Card.{Card}
use Rattle.table_rule.specs.Lists.{stands}
use Rattle.table_rule.specs.Sole.{IsRead}
use Rattle.table_rule.specs.Words.{card_from}
use Rattle.table_rule.specs.declared.view.Seen.{Seen}

-- the card of a slot that was read
abbrev pub card_of : Seen → Card
card_of s = card_from s.words

-- a chain's cards, in its order
abbrev pub cards_of : List Seen → List Card
cards_of xs = map card_of xs

-- those of several chains, one behind the other
abbrev pub all_cards : List (List Seen) → List Card
all_cards [] = []
all_cards (xs ∷ more) = cards_of xs ++ all_cards more

-- a bucket's chain as it was walked, and the clock of that instant
pub record Row : Type 0 where
  pub instant : ℕ
  pub chain : List Seen

abbrev pub chain_in : Row → List Seen
chain_in row = row.chain

abbrev pub NotAfter : Row → Row → Type 0
NotAfter a b = a.instant ≤ b.instant

-- each of its cards was read whole, and no slot stands in it twice
abbrev pub IsChain : List Seen → Type 0
IsChain xs = Each IsRead xs × ((i : ℕ) → stands i xs ≤ 1)
