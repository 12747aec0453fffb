-- The order in which sockets are listed: our own.
use Rattle.std.specs.Prelude.{ℕ, ◌+◌, ◌*◌, List}
use Rattle.list_words.specs.Ascending.{ascending_by}
use Rattle.sock_card.specs.declared.card.Card.{Card}
use Rattle.sock_card.specs.Words.{number_of}

-- where a socket stands in a list: by its name, and of one name by the number of its kind
abbrev pub order_of : Card → ℕ
order_of c = c.name * 8 + number_of c.kind

-- the cards, ascending; those that are alike in this stay in their order
abbrev pub ascending : List Card → List Card
ascending cards = ascending_by order_of cards
