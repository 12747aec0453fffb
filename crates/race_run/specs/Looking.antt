-- What a looker's calls ask and leave: our own.
use Rattle.std.specs.Prelude.{◌≡◌, ℕ, ◌<◌, List, [], ◌∷◌, ◌++◌}
use Rattle.bind_buckets.specs.Turned.{View as BindView}
use Rattle.capture_reader.specs.declared.packet.Item.{Item}
use Rattle.chain_book.specs.declared.book.Receipt.{Receipt}
use Rattle.sock_ops.specs.Sides.{IsResting, HoldsNothing}
use Rattle.sock_ops.specs.declared.chains.table.ChainPass.{ChainPass}
use Rattle.sock_ops.specs.declared.chains.table.ChainTable.{ChainTable}
use Rattle.flat_list.specs.declared.header.Header.{Header}
use Rattle.race_record.specs.declared.record.Looked.{Looked}
use Rattle.sock_card.specs.declared.card.Packet.{Packet}
use Rattle.table_rule.specs.Passes.{known}
use Rattle.table_rule.specs.Plays.{Sat}
use Rattle.race_run.specs.declared.looker.Look.{Look}
use Rattle.race_run.specs.Lookers.{item_at, AllBefore, HasLooked, HasLookedNothingUp, LookedUp, looking}
use Rattle.race_run.specs.Sections.{layout_in}

-- a pass of that table between two lookups
pub record MayLook (t : ChainTable) (p : ChainPass) : Type 0 where
  pub rests : IsResting t p
  pub nothing : HoldsNothing (known p.pass)
  pub part : 0 < (known p.pass).slot.parts

-- a packet was looked up with so many passes, whatever script the table is of
abbrev pub LooksUp : ChainTable → (passes : ℕ) → Packet → Sat → Sat → Receipt → Type 0
LooksUp t passes packet m n r = (header : Header) → t.layout ≡ layout_in header → LookedUp header passes packet m n r

-- one item more was taken, of whatever capture, behind whatever was taken before
abbrev pub TakesItem : ChainTable → (passes : ℕ) → Item → Sat → Sat → Looked → Type 0
TakesItem t passes item m n looked =
    (header : Header) (all : List Item) (v : BindView) (took : List Look) (i : ℕ)
    → t.layout ≡ layout_in header → item_at all i ≡ item → AllBefore i took
    → HasLooked header passes all (looking v m.0) took
    → HasLooked header passes all (looking v n.0) (took ++ record { item = i; looked = looked } ∷ [])

-- all these were taken by a pass that had done nothing else
abbrev pub TakesAll : ChainTable → (passes : ℕ) → List Item → Sat → Sat → List Look → Type 0
TakesAll t passes all m n took =
    (header : Header) (v : BindView) → t.layout ≡ layout_in header → HasLookedNothingUp (looking v m.0)
    → HasLooked header passes all (looking v n.0) took
