-- Words for what a pass is between two calls, and for what its table is: our own. A pass's knowledge is `known`, and
-- the other words are read off it.
use Rattle.std.specs.Prelude.{◌≡◌, ℕ, ◌<◌, ◌≤◌, List, length}
use Rattle.list_words.specs.Lists.{Each}
use Rattle.tickets.specs.declared.view.TicketView.{TicketView}
use Rattle.tickets.specs.declared.pass.TicketPass.{TicketPass}
use Rattle.tickets.specs.declared.pass.Tickets.{Tickets}

-- the number of a table's tickets, below which each ticket is
abbrev pub tickets : Tickets → ℕ
tickets t = t.limit

abbrev pub known : TicketPass → TicketView
known p = p.seat.me.0

-- its parts of the right to know what all passes drew: all 16,384 where each other pass was joined to it
abbrev pub parts : TicketPass → ℕ
parts p = (known p).parts

-- the number of tickets, as the pass knows it
abbrev pub limit : TicketPass → ℕ
limit p = (known p).limit

-- the tickets that it drew, in its order, and behind them those of the passes that it joined
abbrev pub drawn : TicketPass → List ℕ
drawn p = (known p).drawn

-- the numbers that it drew in vain, since they aren't below the limit, and behind them those of the passes that it
-- joined
abbrev pub vain : TicketPass → List ℕ
vain p = (known p).vain

-- how far it has seen the numbers go: one more than the last that it drew, and no less than what each pass had seen
-- that it joined, or that split it off
abbrev pub seen : TicketPass → ℕ
seen p = (known p).seen

-- each ticket that it or a pass that it joined drew is below what it has seen
abbrev pub HasSeenItsOwn : TicketPass → Type 0
HasSeenItsOwn p = Each (λ k. k < seen p) (drawn p)

-- a pass of this table, with a part
abbrev pub IsPassOf : Tickets → TicketPass → Type 0
IsPassOf t p = (p.seat.table_id ≡ t.table.shared.table_id) × (0 < parts p) × (limit p ≡ tickets t) × HasSeenItsOwn p

-- it has seen no number that was drawn in vain
abbrev pub IsOpen : TicketPass → Type 0
IsOpen p = seen p ≤ limit p

-- it drew in vain, or a pass that it joined did
abbrev pub HasMissed : TicketPass → Type 0
HasMissed p = 0 < length (vain p)
