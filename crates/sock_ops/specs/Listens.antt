-- What the parts of `listen` come to: our own.
--
-- In three parts: what a bucket's refusal comes to, up to `SaysListen`; what came of the chain, up to `AddsAs`; and
-- what the bucket was asked, from `asked_listen` on. Public contracts cite `asked_listen` and `said_listen`, by
-- Groups; the rest is of private functions.
use Rattle.std.specs.Prelude.{◌≡◌, ℕ, Bool, List, Option, None, Result, Ok, Err, [], ◌∷◌, ◌++◌}
use Rattle.list_words.specs.Lists.{Each}
use Rattle.sock_card.specs.declared.owner.Owner.{Owner}
use Rattle.sock_card.specs.Became.{as_listener}
use Rattle.sock_card.specs.declared.card.Card.{Card}
use Rattle.bind_buckets.specs.declared.request.ListenEnd.{ListenEnd}
use Rattle.bind_buckets.specs.declared.request.Answer.{Answer}
use Rattle.bind_buckets.specs.declared.request.Answer.TheVariants as answers
use Rattle.bind_buckets.specs.declared.request.Entry.{Entry}
use Rattle.bind_buckets.specs.declared.request.Request.TheVariants as requests
use Rattle.bind_buckets.specs.Turned.{View}
use Rattle.chain_book.specs.declared.book.Change.{Change}
use Rattle.chain_book.specs.declared.outcome.Place.{Place}
use Rattle.chain_book.specs.Homes.{home}
use Rattle.nulls_chain.specs.Changes.{IsPlaced}
use Rattle.table_model.specs.declared.operation.Cause.TheVariants as causes
use Rattle.table_model.specs.declared.operation.OpEnd.{OpEnd}
use Rattle.table_model.specs.declared.operation.OpEnd.TheVariants as errors
use Rattle.race_record.specs.Deeds.{hashed, no_slot, added}
use Rattle.race_record.specs.Goes.{IsHashOf}
use Rattle.sock_ops.specs.Sides.{Side}
use Rattle.sock_ops.specs.Made.{Does}
use Rattle.table_model.specs.Own.{Mine}
use Rattle.sock_ops.specs.declared.sock.Sock.{Sock}
use Rattle.sock_ops.specs.declared.sock.Sock.TheVariants as socks
use Rattle.sock_ops.specs.Goes.{AskedAll, gone_if}
use Rattle.sock_ops.specs.There.{IsKnown}

-- a bucket knew the name, and didn't let it listen
abbrev pub IsKnownEnd : ListenEnd → Type 0
IsKnownEnd end = IsKnown (Err end)

-- a refusal of `listen` that comes of that answer
abbrev pub SaysListen : Answer → OpEnd → Type 0
SaysListen answer (errors.InUse name) = answer ≡ answers.InUse name
SaysListen answer errors.GroupFull = answer ≡ answers.GroupFull
SaysListen answer errors.GroupsFull = answer ≡ answers.GroupsFull
SaysListen answer end = ⊥

-- a card was hashed into that slot of the chain in which it belongs
pub record ComesTo (card : Card) (place : Place) (c d : Side) : Type 0 where
  pub hash : Change
  pub is : IsHashOf card hash
  pub bucket : place.bucket ≡ home c.layout.shape c.layout.seed card
  pub slot : place.slot ≡ hash.slot
  pub does : Does (added card (hashed hash None) ∷ []) c d
  pub placed : IsPlaced (record { bucket = place.bucket; slot = place.slot; card = card }) d.view.book

-- no slot was free for a card: so many were seen owned, and so many only held
pub record FindsNoSlot (card : Card) (owned held : ℕ) (c d : Side) : Type 0 where
  pub number : ℕ
  pub does : Does (added card (no_slot number owned held) ∷ []) c d

-- a listener's card was hashed at that place, or found no slot, or its chain wasn't had
abbrev pub AddsAs : {X : Type 0} → (X → Place) → Card → Side → Side → Result X OpEnd → Type 0
AddsAs at card c d (Ok x) = ComesTo card (at x) c d
AddsAs at card c d (Err (errors.Full owned held)) = FindsNoSlot card owned held c d
AddsAs at card c d (Err (errors.LeftOff causes.Busy)) = c ≡ d
AddsAs at card c d (Err end) = ⊥

-- what an owner asks that would listen, and that listens
abbrev pub asked_listen : Owner → Answer → Entry
asked_listen a answer = record { request = requests.MayListen a.name; answer = answer }

abbrev pub said_listen : Owner → ℕ → Entry
said_listen a slot = record { request = requests.Listen a.name slot; answer = answers.Done }

abbrev pub IsAskedListen : Owner → Entry → Type 0
IsAskedListen a e = e.request ≡ requests.MayListen a.name

-- the owner's bucket was asked, and informed that it listens
pub record Tells (place : ℕ) (a : Owner) (v w : View) (m : Mine) : Type 0 where
  pub group : Option ℕ
  pub slot : ℕ
  pub owner : m.owner ≡ as_listener a
  pub asked : AskedAll place (asked_listen a (answers.Group group) ∷ said_listen a slot ∷ []) v w

-- the bucket was asked at most whether it may listen, and a port that this call took was given up
pub record TellsNot (place : ℕ) (a : Owner) (took : Bool) (v w : View) : Type 0 where
  pub first : List Entry
  pub listens : Each (IsAskedListen a) first
  pub asked : AskedAll place (first ++ gone_if took a) v w

-- what the bucket of an owner was asked that would listen
abbrev pub TellsAs : ℕ → Owner → Bool → View → View → Result Mine OpEnd → Type 0
TellsAs place a took v w (Ok m) = Tells place a v w m
TellsAs place a took v w (Err end) = TellsNot place a took v w

-- what `listen` hands back, by what its owner came to
abbrev pub listen_answer : Sock → Result Mine OpEnd → Result (Sock × ℕ) (Sock × OpEnd)
listen_answer s (Ok l) = Ok (socks.Listening l, l.owner.port)
listen_answer s (Err end) = Err (s, end)
