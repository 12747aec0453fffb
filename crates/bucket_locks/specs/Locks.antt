-- Where the walk of a locked bucket stands, and what is known by it: our own.
use Rattle.std.specs.Prelude.{ℕ, ◌≡◌, ◌<◌, ◌≤◌, ◌/◌, ◌%◌, ◌⊎◌, [], ◌∷◌, true, false}
use Rattle.list_words.specs.Lists.{Each}
use Rattle.bucket_locks.specs.declared.locks.Locked.{Locked}
use Rattle.table_rule.specs.declared.view.View.{View}
use Rattle.table_rule.specs.declared.view.Layout.{Layout}
use Rattle.table_rule.specs.Calls.{IsSlot}
use Rattle.table_rule.specs.Words.{bucket_count}
use Rattle.table_rule.specs.Lists.{stands}
use Rattle.table_rule.specs.Sole.{IsRead}
use Rattle.table_rule.specs.Plays.{PlacesListed}
use Rattle.table_rule.specs.declared.view.Seen.{Seen}

-- the link from which a walk goes on: of the slot ahead, where its card is read
abbrev pub IsAt : Layout → Locked → View → Type 0
IsAt layout at v = (v.chain.locked ≡ at.bucket ∷ []) × (at.bucket < bucket_count layout)
    × (at.started ≡ false → (v.chain.walked ≡ []) × (v.chain.ahead ≡ []) × (v.chain.met ≡ 0))
    × (at.started ≡ true → (at.link % 2 ≡ v.chain.met)
    × (at.link % 2 ≡ 0 → (at.link / 2 < layout.shape.slots) × IsSlot (at.link / 2) 4 v.chain.ahead)
    × (at.link % 2 ≡ 1 → v.chain.ahead ≡ []))

-- what is known of the list that was walked: each card was read whole, each slot is one of the table and stands there
-- once, and where the end was met each place of the pass in this bucket is in the list
abbrev pub WalkKnown : Layout → View → Type 0
WalkKnown layout v =
    Each IsRead v.chain.walked × Each (λ (s : Seen). s.slot < layout.shape.slots) v.chain.walked
    × ((i : ℕ) → stands i v.chain.walked ≤ 1) × ((v.chain.met ≡ 0) ⊎ PlacesListed v)
