-- What the tests ask of a pass between two of its calls. Our own.
use Rattle.std.specs.Prelude.{◌≡◌, ℕ, ◌+◌, ◌<◌, ◌≤◌, []}
use Rattle.table_rule.specs.Changes.{len_of, capacity_of}
use Rattle.table_rule.specs.declared.table.Chains.{Chains}
use Rattle.table_rule.specs.declared.pass.Pass.{Pass}
use Rattle.table_rule.specs.Calls.{IsIdle, HasShares, layout_of}
use Rattle.table_rule.specs.Passes.{IsPassOf, known}
use Rattle.table_rule.specs.Rule.{drawn}
use Rattle.table_rule.specs.Words.{bucket_count}
use Rattle.table_rule.specs.declared.view.View.{View}
use Rattle.null_reader.specs.Looked.{HasTwo}
use Rattle.nulls_chain.specs.declared.keeping.Place.{Place}
use Rattle.nulls_chain.specs.Changes.{IsPlaced}

-- it is in the middle of nothing, and can make so many changes more
abbrev pub IsReady : Chains → Pass → ℕ → Type 0
IsReady t pass changes =
    IsPassOf t pass × IsIdle (known pass).slot × ((known pass).book.opened ≡ []) × ((known pass).chain.locked ≡ [])
    × HasShares (changes + changes) (known pass) × (len_of pass.changes + changes ≤ capacity_of pass.changes)

-- it may unhash the place
abbrev pub CanUnhash : Chains → Pass → Place → Type 0
CanUnhash t pass place = IsPlaced place (known pass).book × (place.bucket < bucket_count (layout_of t))

-- it can look
abbrev pub CanLook : View → Type 0
CanLook v = (v.read.reader ≡ []) × HasTwo v

-- it never drew a number, holds nothing, and can be split so many times
abbrev pub CanDeal : Chains → Pass → ℕ → Type 0
CanDeal t pass times =
    IsPassOf t pass × (times < (known pass).slot.parts) × ((known pass).slot.holds ≡ []) × (drawn (known pass) ≡ 0)
