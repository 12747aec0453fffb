-- That a socket stands, by the words of the table alone: our own.
use Rattle.std.specs.Prelude.{◌≡◌, ℕ, ◌+◌, ◌*◌, ◌<◌, List, [], ◌∷◌, slice_index}
use mathlib.Core.Option.{some}
use lib.ListN.{get_elem?}
use Rattle.atomic_table.specs.Table.{State}
use Rattle.table_rule.specs.Lists.{times}
use Rattle.table_rule.specs.ChainsOk.{Path}
use Rattle.table_rule.specs.LinkedOk.{words_at}
use Rattle.table_rule.specs.Owners.{IsPlace, HasChange}
use Rattle.table_rule.specs.Plays.{IsLive}
use Rattle.table_rule.specs.Rule.{state_of, next_of, card_of, head_of, Holds}
use Rattle.table_rule.specs.declared.view.View.{View}
use Rattle.table_rule.specs.declared.view.Layout.{Layout}
use Rattle.table_rule.specs.declared.view.Change.{Change}
use Rattle.table_rule.specs.declared.view.BookView.{BookView}

-- the bucket's links lead to the slot, its state has both flags, and its words are the card's
pub record StandsIn (layout : Layout) (word : ℕ → ℕ) (bucket slot : ℕ) (card : List ℕ) : Type 0 where
  pub chain : List ℕ
  pub path : Path (next_of layout word) (head_of layout word bucket) chain (2 * bucket + 1)
  pub linked : 0 < times slot chain
  pub live : IsLive (state_of layout word slot)
  pub card-is : card ≡ words_at (card_of layout word) slot

-- what that change hashed stands, by the words of a state
abbrev pub StandsBy : Layout → State (Unit {0}) View → Change → Type 0
StandsBy layout s hash = StandsIn layout (λ q. slice_index s.words q) hash.bucket hash.slot hash.card

-- between any two steps each place of each pass stands
abbrev pub PlacesStand : Type 0
PlacesStand =
    (layout : Layout) (s : State (Unit {0}) View) (k : ℕ) (v : View) (hash : Change) → Holds layout s
    → get_elem? s.views k ≡ some v → IsPlace v.book hash → StandsBy layout s hash

-- and so does what an open hash brings, from the step on that sets LIVE
abbrev pub LitStands : Type 0
LitStands = (layout : Layout) (s : State (Unit {0}) View) (k : ℕ) (v : View) (hash : Change) → Holds layout s
    → get_elem? s.views k ≡ some v → v.book.opened ≡ hash ∷ [] → hash.kind ≡ 1 → v.done ≡ 1 → StandsBy layout s hash

-- a pass's book when the clock was at that number, by what the book was later: of the later one's changes those are
-- closed that ended below the number, and each unhash that it has, the later one has too
pub record AsOf (number : ℕ) (b later : BookView) : Type 0 where
  pub closed :
      (n : ℕ) (c : Change) → get_elem? later.closed n ≡ some c → c.ends < number → (m : ℕ)
      × (get_elem? b.closed m ≡ some c)
  pub begun : (u : Change) → HasChange b u → u.kind ≡ 0 → (d : Change) × HasChange later d × (d.kind ≡ 0)
      × (d.slot ≡ u.slot) × (d.begins ≡ u.begins)
