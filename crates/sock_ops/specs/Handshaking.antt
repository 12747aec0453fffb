-- What `syn` and `ack` come to, and hand back: inet_csk_complete_hashdance of net/ipv4/inet_connection_sock.c and
-- inet_ehash_insert of net/ipv4/inet_hashtables.c, which puts a child in its request's place. That a plan goes on so is
-- our own.
--
-- Of public contracts that of `ack` cites `mine_found`; the rest is of private functions.
use Rattle.std.specs.Prelude.{◌≡◌, Option, Result, Ok, Err}
use Rattle.std.specs.Borrow.{Bor}
use Rattle.std.specs.Option.{option_map}
use Rattle.sock_card.specs.declared.card.Card.{Card}
use Rattle.sock_card.specs.declared.owner.Owner.{Owner}
use Rattle.bind_buckets.specs.Turned.{View}
use Rattle.chain_book.specs.declared.outcome.Place.{Place}
use Rattle.nulls_chain.specs.Changes.{IsPlaced}
use Rattle.nulls_chain.specs.declared.keeping.Place.{Place as Stood}
use Rattle.table_model.specs.declared.operation.Cause.TheVariants as causes
use Rattle.table_model.specs.declared.operation.OpEnd.{OpEnd}
use Rattle.table_model.specs.declared.operation.OpEnd.TheVariants as errors
use Rattle.table_model.specs.Own.{Mine}
use Rattle.sock_ops.specs.Sides.{Side}
use Rattle.sock_ops.specs.declared.sock.Sock.{Sock}
use Rattle.sock_ops.specs.declared.sock.Sock.TheVariants as socks
use Rattle.sock_ops.specs.declared.tables.Tables.{Tables}
use Rattle.sock_ops.specs.Closes.{Replaces}
use Rattle.sock_ops.specs.Listens.{FindsNoSlot}
use Rattle.sock_ops.specs.Socks.{mine_of}
use Rattle.sock_ops.specs.Stands.{IsOwner}

-- the socket that was found, as the plans know it
abbrev pub mine_found : Option (Bor Sock) → Option Mine
mine_found socket = option_map (λ (s : Bor Sock). mine_of s.now) socket

-- each owner that a bucket has for its worker stays there
abbrev pub OwnersStay : Tables → View → View → Type 0
OwnersStay t v w = (a : Owner) → IsOwner t a v → IsOwner t a w

-- a child came into that place, and then its request was gone from the old one
pub record TakesOver (old : Stood) (card : Card) (place : Place) (c d : Side) : Type 0 where
  pub replaces : Replaces old card place c d
  pub placed : IsPlaced (record { bucket = place.bucket; slot = place.slot; card = card }) d.view.book

-- or no slot was free for the child, or the chain was another's for too long, and the request stands
abbrev pub HandsOver : Stood → Card → Side → Side → Result Place OpEnd → Type 0
HandsOver old card c d (Ok place) = TakesOver old card place c d
HandsOver old card c d (Err (errors.Full owned held)) = FindsNoSlot card owned held c d
HandsOver old card c d (Err (errors.LeftOff causes.Busy)) = c ≡ d
HandsOver old card c d (Err end) = ⊥

-- the child, or the request as it was
abbrev pub ack_answer : Sock → Result Mine OpEnd → Result Sock (Sock × OpEnd)
ack_answer request (Ok child) = Ok (socks.Full child)
ack_answer request (Err end) = Err (request, end)
