-- What a lawful record says of its race: our own.
use Rattle.std.specs.Prelude.{◌≡◌, ◌+◌, ◌*◌, ◌%◌, ◌<◌, ℕ, List, length, filter, map, take, Some}
use Rattle.sock_card.specs.Conflict.{owner_key}
use Rattle.list_words.specs.Lists.{Each, Pairs, SameItems}
use Rattle.sock_card.specs.declared.owner.Owner.{Owner}
use Rattle.socket_list.specs.Listing.{Listing}
use Rattle.socket_list.specs.declared.listing.Span.{Span}
use Rattle.turn_table.specs.declared.note.Note.{Note}
use Rattle.bind_buckets.specs.declared.request.Entry.{Entry}
use Rattle.bind_buckets.specs.Journal.{OwnersAgree, replayed}
use Rattle.capture_reader.specs.Captures.{Capture}
use Rattle.chain_book.specs.declared.book.Change.{Change}
use Rattle.chain_book.specs.declared.shape.Shape.{Shape}
use Rattle.flat_list.specs.Script.{Script}
use Rattle.race_book.specs.Among.{Among}
use Rattle.race_book.specs.Explained.{MayAnswer, anywhere}
use Rattle.race_book.specs.Laws.{EndAfter, NoTwinsStand}
use Rattle.race_book.specs.Lives.{IsLife, Stood, Throughout}
use Rattle.race_book.specs.Listed.{stamps_of, StampsDiffer}
use Rattle.race_record.specs.declared.record.Looked.{Looked}
use Rattle.race_record.specs.declared.record.Looked.TheVariants as looks
use Rattle.race_record.specs.Record.{Race, steps_of, listings_of}
use Rattle.race_record.specs.Laws.{drew_in_vain}
use Rattle.race_record.specs.Lawful.{Lawful, EachFrom, HaveOnePlace, entry_in}

-- whatever was entered so far, the owners of the bucket of that number agree
abbrev pub AlwaysAgree : ℕ → List (Note Entry) → Type 0
AlwaysAgree number journal = (k : ℕ) → OwnersAgree (replayed number (take k (map entry_in journal))).owners

-- whatever was entered so far, each owner of the bucket of that number among so many has a key of it: so no two
-- owners of different buckets have one port of one namespace
abbrev pub AlwaysAtHome : ℕ → ℕ → List (Note Entry) → Type 0
AlwaysAtHome buckets number journal =
    (k : ℕ) → Each (λ (a : Owner). owner_key a % buckets ≡ number)
    (replayed number (take k (map entry_in journal))).owners

-- what was found, or wasn't, has its cause among all lives
abbrev pub HasCause : (Change → Type 0) → Shape → Looked → Type 0
HasCause In shape (looks.Answered r) = MayAnswer In anywhere shape.slots r.packet r.t0 r.t1 r.answer
HasCause In shape looks.Skip = Unit {0}
HasCause In shape looks.Short = Unit {0}

-- What a dump lists between two loads of the clock: the sockets of some lives, each of which stood hashed at some
-- time meanwhile, and no two in one place; and each socket that stood hashed throughout.
pub record ListsWhatStood (In : Change → Type 0) (listing : Listing) : Type 0 where
  pub span : Span
  pub span_is : listing.span ≡ Some span
  pub lives : List Change
  pub cards_are : SameItems listing.cards (map (λ (h : Change). h.card) lives)
  pub stood : Each (λ h. IsLife In h × Stood In h span.t0 span.t1) lives
  pub apart : Pairs (λ g h. ¬ (HaveOnePlace g h)) lives
  pub all : (h : Change) → IsLife In h → Throughout In h span.t0 span.t1 → Among listing.cards h.card

pub record Headline (race : Race) : Type 0 where
  -- no two full sockets ever have one four-tuple
  pub tuples : NoTwinsStand race.book
  -- no two bound sockets of one bucket that are of different origin ever conflict
  pub owners : EachFrom AlwaysAgree 0 race.journals
  -- nor do two of different buckets, since they have different ports or namespaces
  pub keys : EachFrom (AlwaysAtHome race.shape.bind) 0 race.journals
  -- each packet's socket stood hashed with matching keys while no better one stood hashed throughout; nothing was
  -- found, or a lookup given up, only with its cause
  pub packets : Each (HasCause (Among race.book) race.shape) race.looked
  -- each dump lists what stood hashed throughout, nothing that stood at no time meanwhile, and nothing twice
  pub dumps : Each (ListsWhatStood (Among race.book)) (listings_of race)

-- what the numbers of the clock show: none stands twice in the book, all are below the clock, each change begins
-- before it ends; and there are two for each change and one for each command that sought a slot in vain
pub record NumbersTell (race : Race) : Type 0 where
  pub distinct : StampsDiffer race.book
  pub below : Each (λ (n : ℕ). n < race.clock) (stamps_of race.book)
  pub order : EndAfter race.book
  pub count : race.clock ≡ 2 * length race.book + length (filter drew_in_vain (steps_of race))

-- so it is in each lawful record
abbrev pub LawfulNumbers : Type 0
LawfulNumbers = (script : Script) (capture : Capture) (race : Race) → Lawful script capture race → NumbersTell race

-- so says each lawful record
abbrev pub LawfulSays : Type 0
LawfulSays = (script : Script) (capture : Capture) (race : Race) → Lawful script capture race → Headline race
