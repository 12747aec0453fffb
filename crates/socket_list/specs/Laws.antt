-- What follows from the order in which sockets are listed: our own.
use Rattle.std.specs.Prelude.{◌≡◌, ◌≢◌, ◌<◌, List}
use Rattle.sock_card.specs.declared.card.Card.{Card}
use Rattle.list_words.specs.Lists.{Pairs, SameItems}
use Rattle.socket_list.specs.Order.{order_of, ascending}

-- no two of the cards stand in one place
abbrev pub HavePlaces : List Card → Type 0
HavePlaces cards = Pairs (λ c d. order_of c ≢ order_of d) cards

-- the same cards, no two of which stand in one place, are listed as one list
abbrev pub ListsAsOne : Type 0
ListsAsOne = (xs ys : List Card) → SameItems xs ys → HavePlaces xs → ascending xs ≡ ascending ys

-- what is listed are the cards
abbrev pub ListsAll : Type 0
ListsAll = (xs : List Card) → SameItems xs (ascending xs)

-- and each stands before the next
abbrev pub ListsInOrder : Type 0
ListsInOrder = (xs : List Card) → HavePlaces xs → Pairs (λ c d. order_of c < order_of d) (ascending xs)

-- what is listed is listed as it is
abbrev pub StaysListed : Type 0
StaysListed = (xs : List Card) → ascending xs ≡ ascending (ascending xs)
