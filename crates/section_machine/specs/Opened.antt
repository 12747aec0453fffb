-- The open sockets of a section, one after the other: our own.
--
-- A socket's number is its label's place, counted from 1: the lower 56 bits of its name.
use Rattle.std.specs.Prelude.{◌≡◌, ℕ, ◌+◌, ◌*◌, ◌<◌, ◌≤◌, ◌^◌, length, Option, None, is_some, true}
use Rattle.std.specs.Option.{option_map}
use Rattle.sock_card.specs.declared.owner.Owner.{Owner}
use Rattle.table_model.specs.Own.{Own, Mine, open_named}

-- what bind buckets know of the open socket that the number names
abbrev pub owner_of : Own → ℕ → Option Owner
owner_of own number = option_map (λ (m : Mine). m.owner) (open_named own (own.number * 2 ^ 56 + number))

-- no number between the two names an open socket
abbrev pub NoneBetween : Own → (after before : ℕ) → Type 0
NoneBetween own after before =
    (n : ℕ) → after < n → n < before → open_named own (own.number * 2 ^ 56 + n) ≡ None

-- and none above that one does
abbrev pub NoneAbove : Own → (after : ℕ) → Type 0
NoneAbove own after = (n : ℕ) → after < n → open_named own (own.number * 2 ^ 56 + n) ≡ None

-- the number names an open socket, and is the lowest above the other that does
pub record IsNextOpen (own : Own) (after number : ℕ) : Type 0 where
  pub above : after < number
  pub given : number ≤ length own.labels
  pub opens : is_some (open_named own (own.number * 2 ^ 56 + number)) ≡ true
  pub first : NoneBetween own after number
