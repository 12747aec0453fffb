-- What a bucket answers about an owner that it has, and what its entries leave of the owners of a name: our own.
use Rattle.std.specs.Prelude.{◌≡◌, ℕ, ◌==◌, false, Option, Result, Err}
use Rattle.list_words.specs.Lists.{Each}
use Rattle.bind_buckets.specs.declared.request.ListenEnd.{ListenEnd}
use Rattle.bind_buckets.specs.declared.request.ListenEnd.TheVariants as ends
use Rattle.bind_buckets.specs.Notes.{Note}
use Rattle.bind_buckets.specs.OwnTold.{is_told, own_given}
use Rattle.bind_buckets.specs.Turned.{View}

-- the bucket knows the name
abbrev pub IsKnown : Result (Option ℕ) ListenEnd → Type 0
IsKnown (Err (ends.Strange name)) = ⊥
IsKnown _ = Unit {0}

-- of a new name a caller has asked no bucket
abbrev pub IsNew : ℕ → View → Type 0
IsNew name v = (place : ℕ) → Each (λ (x : Note). is_told (λ n. n == name) x.entry ≡ false) (own_given place v)
