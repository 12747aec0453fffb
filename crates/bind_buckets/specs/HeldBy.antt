-- What the owners and groups of a bucket mean, as its code keeps them: our own rule.
--
-- Public contracts come to `held_by` alone, by the view of a bucket in Fields; the rest is of private functions.
use Rattle.std.specs.Prelude.{◌≡◌, ℕ, ◌+◌, ◌≤◌, true, ◌==◌, ◌||◌, length, Option, IfSome, find}
use Rattle.sock_card.specs.declared.owner.Owner.{Owner}
use Rattle.bind_buckets.specs.declared.held.Held.{Held as Inside}
use Rattle.bind_buckets.specs.Owners.{Listed}
use Rattle.bind_buckets.specs.declared.request.Answer.{Answer}
use Rattle.bind_buckets.specs.declared.request.Request.{Request}
use Rattle.bind_buckets.specs.declared.request.Request.TheVariants as requests
use Rattle.bind_buckets.specs.OwnerStep.{Held, After, owner_step, has_name}
use Rattle.bind_buckets.specs.Bucket.{IsGroup}

abbrev pub held_by : Inside → Held
held_by h = record { owners = h.owners.owners; groups = h.groups }

-- that is left, and answered
abbrev pub IsStep : After → Inside → Answer → Type 0
IsStep after new answer = after ≡ record { held = held_by new; answer = answer }

-- the owner, if there is one, is at any address or at that one
abbrev pub CanBeAt : ℕ → Option Owner → Type 0
CanBeAt local bound = IfSome bound (λ (a : Owner). ((a.addr == 0) || (a.addr == local)) ≡ true)

-- a socket that is to listen may, and one that is to connect may be at that address
abbrev pub CanCarryOut : ℕ → Held → Request → Type 0
CanCarryOut number h (requests.Listen name slot) = IsGroup (owner_step number h (requests.MayListen name)).answer
CanCarryOut number h (requests.ConnectBound name local remote rport) = CanBeAt local (find (has_name name) h.owners)
CanCarryOut number h _ = Unit {0}

-- one owner comes or goes at most, and room is taken only by one that comes
pub record IsRoomLeft (old new : Listed) : Type 0 where
  pub most : length new.owners ≤ length old.owners + 1
  pub least : length old.owners ≤ length new.owners + 1
  pub taken : old.room ≤ new.room + 1
  pub kept : length new.owners ≤ length old.owners → old.room ≤ new.room
