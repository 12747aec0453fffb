-- What a bucket's fields stand for, and what holds of them: our own rule.
use Rattle.std.specs.Prelude.{◌≡◌, ℕ, Option, None, Some}
use Rattle.std.specs.Global.{Box}
use Rattle.bind_buckets.specs.declared.bucket.Bucket.TheInside.{Inside}
use Rattle.bind_buckets.specs.declared.held.Held.{Held as Kept}
use Rattle.bind_buckets.specs.HeldBy.{held_by}
use Rattle.bind_buckets.specs.OwnerStep.{Held, empty}
use Rattle.bind_buckets.specs.Bucket.{Bucket}
use Rattle.bind_buckets.specs.Kept.{IsKept}

-- nothing, before any room was made
abbrev pub held_in : Option (Box Kept) → Held
held_in None = empty
held_in (Some held) = held_by held.value

abbrev pub room_in : Option (Box Kept) → ℕ
room_in None = 0
room_in (Some held) = held.value.owners.room

abbrev pub NoneIfNone : Option (Box Kept) → ℕ → Type 0
NoneIfNone None entries = entries ≡ 0
NoneIfNone (Some held) entries = Unit {0}

abbrev pub shown_by : Inside → Bucket
shown_by f =
    record {
      number = f.number;
      buckets = f.buckets;
      held = held_in f.held;
      journal = f.journal.notes;
      next = f.next;
      entries = f.entries;
      newcomers = f.newcomers;
    }

pub record AreKept (f : Inside) : Type 0 where
  pub kept : IsKept (shown_by f) f.journal.room (room_in f.held)
  pub before : NoneIfNone f.held f.entries
