-- What an operation asks of the socket that it takes: our own.
--
-- To be read from the beginning.
use Rattle.std.specs.Prelude.{◌≡◌, ℕ, ◌+◌, ◌*◌, ◌%◌, ◌≤◌, ◌^◌, Bool, true, filter, find, Option, None, Some, []}
use Rattle.sock_card.specs.Conflict.{owner_key}
use Rattle.sock_card.specs.declared.owner.Owner.{Owner}
use Rattle.sock_card.specs.declared.card.Kind.{Kind}
use Rattle.sock_card.specs.declared.card.Kind.TheVariants as kinds
use Rattle.turn_table.specs.Passes as words
use Rattle.turn_table.specs.Passes.{known}
use Rattle.bind_buckets.specs.Bucket.{entries_of}
use Rattle.bind_buckets.specs.Callers.{MayName, AreOwn}
use Rattle.bind_buckets.specs.Followed.{told_from}
use Rattle.bind_buckets.specs.OwnerStep.{has_name}
use Rattle.bind_buckets.specs.OwnTold.{AllKeepOpen, StandsOwn, is_told, own_given}
use Rattle.bind_buckets.specs.Turned.{View, Out, IsIdle}
use Rattle.reuseport_group.specs.declared.pass.GroupPasses.{GroupPasses}
use Rattle.reuseport_group.specs.Passes as lists
use Rattle.chain_book.specs.Homes.{home}
use Rattle.table_rule.specs.Calls.{HasShares}
use Rattle.table_rule.specs.Passes as chain_words
use Rattle.nulls_chain.specs.Changes.{IsPlaced}
use Rattle.nulls_chain.specs.declared.keeping.Place.{Place}
use Rattle.sock_ops.specs.Sides.{Side, IsResting, side_of}
use Rattle.table_model.specs.Own.{Mine, card_of}
use Rattle.sock_ops.specs.declared.sock.Sock.{Sock}
use Rattle.sock_ops.specs.declared.sock.Sock.TheVariants as socks
use Rattle.sock_ops.specs.declared.tables.Tables.{Tables}
use Rattle.sock_ops.specs.declared.tables.Worker.{Worker}

-- how many bind buckets there are
abbrev pub buckets_of : Tables → ℕ
buckets_of t = words.places t.buckets

-- what a worker knows of the bind buckets, and of the chains
abbrev pub turned : Worker → View
turned w = known w.turns

abbrev pub chained : Tables → Worker → Side
chained t w = side_of t.chains w.chain

-- the tables have eight groups for each bind bucket, and these are passes of theirs
pub record HasGroups (t : Tables) (p : GroupPasses) : Type 0 where
  pub many : lists.groups t.groups ≡ 8 * buckets_of t
  pub passes : lists.IsPassOf t.groups p

-- between two operations a worker has no bucket out, and no change under way
pub record IsReady (t : Tables) (w : Worker) : Type 0 where
  pub idle : IsIdle t.buckets w.turns
  pub rests : IsResting t.chains w.chain
  pub groups : HasGroups t w.groups

-- what the worker has done and still may do: so many entries, and so many numbers of the clock
abbrev pub MayEnter : ℕ → Worker → Type 0
MayEnter n w = words.draws w.turns + n ≤ 2 ^ 48

abbrev pub MayDraw : ℕ → Worker → Type 0
MayDraw n w = HasShares n (chain_words.known w.chain.pass)

-- the worker runs the script of that name
abbrev pub MayTell : Worker → ℕ → Type 0
MayTell w name = MayName (words.caller w.turns) name

-- by what its caller asked of the bucket of that place, that is the first owner of its own of that name, if any
pub record Knows (name : ℕ) (owner : Option Owner) (place : ℕ) (v : View) : Type 0 where
  pub mine : ℕ → Bool
  pub it : mine name ≡ true
  pub own : AreOwn v.caller mine
  pub keeps : AllKeepOpen mine (own_given place v)
  pub told_is : find (has_name name) (told_from [] (filter (is_told mine) (entries_of (own_given place v)))) ≡ owner

-- no bucket has an owner of that name
abbrev pub IsAway : ℕ → View → Type 0
IsAway name v = (place : ℕ) → Knows name None place v

-- the bucket of its key has the owner
abbrev pub IsOwner : Tables → Owner → View → Type 0
IsOwner t a v = StandsOwn a (owner_key a % buckets_of t) v

-- the bucket that is out has it, as the first of its name
abbrev pub IsThere : Out → Owner → Type 0
IsThere turn a = find (has_name a.name) turn.value.value.held.owners ≡ Some a

-- where the socket stands hashed, with its card
abbrev pub place_in : Kind → Mine → Place
place_in kind m = record { bucket = m.place.bucket; slot = m.place.slot; card = card_of kind m }

-- it stands there, in the chain in which its card belongs
pub record IsHashed (kind : Kind) (m : Mine) (c : Side) : Type 0 where
  pub home : m.place.bucket ≡ home c.layout.shape c.layout.seed (card_of kind m)
  pub placed : IsPlaced (place_in kind m) c.view.book

-- a socket stands as its state says; of a request no bucket knows
abbrev pub StandsAs : Tables → Sock → View → Side → Type 0
StandsAs t (socks.Unbound m) v c = IsAway m.owner.name v
StandsAs t (socks.Bound m) v c = IsOwner t m.owner v
StandsAs t (socks.Listening m) v c = IsOwner t m.owner v × IsHashed kinds.Listen m c
StandsAs t (socks.Full m) v c = IsOwner t m.owner v × IsHashed kinds.Full m c
StandsAs t (socks.Request m) v c = IsHashed kinds.Request m c
