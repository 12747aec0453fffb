-- What names identify in a lawful race: our own. A name is a section's number and that of a label there. A section
-- with fewer than 2 ^ 24 labels gives none of another's names: so the script has to be small, as each is that is read.
use Rattle.std.specs.Prelude.{◌≡◌, ◌≢◌, ℕ, ◌<◌, Some}
use Rattle.list_words.specs.Lists.{Each, Pairs}
use Rattle.sock_card.specs.declared.card.Card.{Card}
use Rattle.socket_list.specs.Order.{order_of}
use Rattle.socket_list.specs.Listing.{Listing}
use Rattle.socket_list.specs.declared.listing.Span.{Span}
use Rattle.capture_reader.specs.Captures.{Capture}
use Rattle.chain_book.specs.declared.book.Change.{Change}
use Rattle.flat_list.specs.Script.{Script, IsSmall}
use Rattle.race_book.specs.Among.{Among}
use Rattle.race_book.specs.Lives.{IsLife, Stood, Throughout}
use Rattle.race_record.specs.Record.{Race, listings_of}
use Rattle.race_record.specs.Lawful.{Lawful}

-- two hashes of one name as one kind are one change: name and kind identify a life
abbrev pub HashesOnce : (Change → Type 0) → Type 0
HashesOnce In =
    (g h : Change) → IsLife In g → IsLife In h → g.card.name ≡ h.card.name → g.card.kind ≡ h.card.kind → g ≡ h

-- so it is in the book of a lawful race
abbrev pub HashedOnce : Type 0
HashedOnce =
    (script : Script) (capture : Capture) (race : Race) → IsSmall script → Lawful script capture race
    → HashesOnce (Among race.book)

-- the card is that of a life which stood at some time between two numbers of the clock, and no other life has its
-- name and kind
pub record IsOfOneLife (In : Change → Type 0) (t0 t1 : ℕ) (card : Card) : Type 0 where
  pub life : Change
  pub is : IsLife In life
  pub card_is : life.card ≡ card
  pub stood : Stood In life t0 t1
  pub only : (h : Change) → IsLife In h → h.card.name ≡ card.name → h.card.kind ≡ card.kind → h ≡ life

-- What a dump lists between two loads of the clock: no name twice with one kind, so that its items ascend; each item
-- is of one life alone; and each life that was there throughout is the life of an item.
pub record ListsOnce (In : Change → Type 0) (listing : Listing) : Type 0 where
  pub span : Span
  pub span_is : listing.span ≡ Some span
  pub apart : Pairs (λ (c d : Card). c.name ≡ d.name → c.kind ≢ d.kind) listing.cards
  pub ascend : Pairs (λ (c d : Card). order_of c < order_of d) listing.cards
  pub each : Each (IsOfOneLife In span.t0 span.t1) listing.cards
  pub all : (h : Change) → IsLife In h → Throughout In h span.t0 span.t1 → Among listing.cards h.card

-- so does each dump of a lawful race
abbrev pub ListsNamesOnce : Type 0
ListsNamesOnce =
    (script : Script) (capture : Capture) (race : Race) → IsSmall script → Lawful script capture race
    → Each (ListsOnce (Among race.book)) (listings_of race)
