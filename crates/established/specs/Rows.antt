-- A chain as it was walked under its bucket's lock, as cards: our own.
use Rattle.std.specs.Prelude.{◌≡◌, ℕ, ◌<◌, ◌^◌, List, map, slice_index}
use Rattle.sock_card.specs.Words.{packed}
use Rattle.sock_card.specs.declared.card.Card.{Card}
use Rattle.chain_book.specs.declared.outcome.Hashed.{Hashed}
use Rattle.table_rule.specs.Words.{card_from, words_of}
use Rattle.table_rule.specs.Beyond.{IsCardWords}
use Rattle.table_rule.specs.Lists.{stands}
use Rattle.table_rule.specs.Plays.{card_in}
use Rattle.table_rule.specs.declared.view.Seen.{Seen}

-- a slot, and the card of which these are the words
abbrev pub hashed_in : Seen → Hashed
hashed_in s = record { slot = s.slot; card = card_from s.words }

abbrev pub row_of : List Seen → List Hashed
row_of xs = map hashed_in xs

-- a card's words
abbrev pub card_words : Card → List ℕ
card_words card = words_of (packed card)

-- its words are a card's, and fit 64 bits
abbrev pub HasCard : Seen → Type 0
HasCard s = IsCardWords s.words × (slice_index s.words 1 < 2 ^ 64)

-- it stands in the list, and the list contains its card
pub record IsIn (x : Hashed) (xs : List Seen) : Type 0 where
  pub words : card_in x.slot xs ≡ card_words x.card
  pub listed : 0 < stands x.slot xs
