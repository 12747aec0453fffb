-- Words for passes: what they know, and what splitting and joining make of it. Our own.
--
-- To be read from the beginning: `known` is what a pass knows.
use Rattle.std.specs.Prelude.{ℕ, ◌*◌, ◌-◌, ◌≤◌, List, [], length}
use Rattle.atomic_table.specs.Table.{Me}
use Rattle.table_rule.specs.declared.view.View.{View}
use Rattle.table_rule.specs.declared.view.Change.{Change}
use Rattle.table_rule.specs.declared.table.Chains.{Chains}
use Rattle.table_rule.specs.declared.pass.Pass.{Pass}
use Rattle.table_rule.specs.Changes.{capacity_of, len_of}
use Rattle.table_rule.specs.Rule.{drawn}
use Rattle.table_rule.specs.Plays.{cut, newcomer, both}
use Rattle.table_rule.specs.Calls.{view, IsOf}

-- what a pass knows
abbrev pub known : Pass → View
known pass = view pass.steps

-- the greatest value of the clock that it knows
abbrev pub seen_by : Pass → ℕ
seen_by pass = (known pass).seen

-- how many numbers of the clock it drew, with those of the passes that it joined
abbrev pub drawn_by : Pass → ℕ
drawn_by pass = drawn (known pass)

-- the changes that it closed, oldest first, and behind them those of the passes that it joined
abbrev pub changed_by : Pass → List Change
changed_by pass = (known pass).book.closed

-- how many changes more it can have without growth
abbrev pub room_of : Pass → ℕ
room_of pass = capacity_of pass.changes - len_of pass.changes

-- it is a pass of this table
abbrev pub IsPassOf : Chains → Pass → Type 0
IsPassOf t pass = IsOf t pass.steps

-- a split leaves it what it has drawn and what it holds
abbrev pub HasShareLeft : View → Type 0
HasShareLeft v = (length v.slot.holds ≤ (v.slot.parts - 1) * 4294967296) × (drawn v ≤ (v.slot.parts - 1) * 281474976710656)

-- what a pass is after a split, what the one is that was split off, and what a pass is that took another in
abbrev pub cut_of : Pass → Me (Unit {0}) View
cut_of pass = (cut (known pass), pass.steps.seat.me.1)

abbrev pub new_of : Pass → Me (Unit {0}) View
new_of pass = (newcomer (known pass), [])

abbrev pub joined_of : Pass → Pass → Me (Unit {0}) View
joined_of pass other = (both (known pass) (known other), pass.steps.seat.me.1)
