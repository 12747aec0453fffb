-- What each step shows, as a relation of the seat before, the number found and the seat after. Our own.
use Rattle.std.specs.Prelude.{◌≡◌, ℕ, ◌<◌, ◌≤◌, ◌++◌, length, min}
use Rattle.atomic_table.specs.Table.{Me, Step}
use Rattle.list_words.specs.Lists.{SameItems}
use Rattle.turn_table.specs.Journals.{numbers_below}
use Rattle.tickets.specs.Views.{all_parts, drawing, missing}
use Rattle.tickets.specs.declared.view.TicketView.{TicketView}

abbrev pub Sat : Type 0
Sat = Me (Unit {0}) TicketView

-- a draw
pub record Took (m : Sat) (r : ℕ) (n : Sat) : Type 0 where
  pub later : m.0.seen ≤ r
  pub inside : r < m.0.limit → n ≡ (drawing m.0 r, m.1)
  pub past : m.0.limit ≤ r → n ≡ (missing m.0 r, m.1)
  -- a pass with all parts has drawn the numbers before it
  pub alone : m.0.parts ≡ all_parts → min r m.0.limit ≡ length m.0.drawn

abbrev pub took : Step (Unit {0}) → Sat → ℕ → Sat → Type 0
took st m r n = Took m r n

-- a load of the count, which a pass with all parts knows all of
pub record Saw (m : Sat) (r : ℕ) (n : Sat) : Type 0 where
  pub is : n ≡ m
  pub later : m.0.seen ≤ r
  pub past : 0 < length m.0.vain → m.0.limit ≤ r
  pub all : m.0.parts ≡ all_parts → SameItems (m.0.drawn ++ m.0.vain) (numbers_below r)
  pub below : m.0.parts ≡ all_parts → m.0.limit ≤ r → SameItems m.0.drawn (numbers_below m.0.limit)

abbrev pub saw : Step (Unit {0}) → Sat → ℕ → Sat → Type 0
saw st m r n = Saw m r n
