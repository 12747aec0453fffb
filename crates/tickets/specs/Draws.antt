-- What a draw is: our own.
use Rattle.std.specs.Prelude.{◌≡◌, ℕ, ◌<◌, ◌≤◌, List}
use Rattle.list_words.specs.Lists.{Each, Pairs}
use Rattle.tickets.specs.Views.{drawing, missing}
use Rattle.tickets.specs.declared.view.TicketView.{TicketView}

-- each number is below each later one
abbrev pub Ascend : List ℕ → Type 0
Ascend = Pairs (λ x y. x < y)

-- the pass drew the number x
pub record Drew (before after : TicketView) (x : ℕ) : Type 0 where
  pub inside : x < before.limit
  -- it's no less than what the pass had seen, and above each number that it had
  pub later : before.seen ≤ x
  pub above : Each (λ k. k < x) before.drawn
  -- so the numbers of a pass ascend, as long as no other was joined to it
  pub rising : Ascend before.drawn → Ascend after.drawn
  pub is : after ≡ drawing before x

-- the pass drew in vain: the number that it drew isn't below the limit
pub record Missed (before after : TicketView) : Type 0 where
  pub number : ℕ
  pub past : before.limit ≤ number
  pub later : before.seen ≤ number
  pub is : after ≡ missing before number
