-- What a looker of shared tables is between two lookups, and what a lookup leaves: __inet_lookup of
-- include/net/inet_hashtables.h.
use Rattle.std.specs.Prelude.{◌≡◌, ℕ, ◌<◌, ◌≤◌, Option, None, Some}
use Rattle.sock_card.specs.declared.card.Packet.{Packet}
use Rattle.chain_book.specs.declared.book.PacketLook.{PacketLook}
use Rattle.sock_ops.specs.Sides.{IsResting, HoldsNothing}
use Rattle.sock_ops.specs.declared.chains.table.ChainPass.{ChainPass}
use Rattle.reuseport_group.specs.declared.pass.GroupPasses.{GroupPasses}
use Rattle.reuseport_group.specs.Passes as lists
use Rattle.demux.specs.Concludes.{ByOrder, Concluded, whole_to}
use Rattle.sock_ops.specs.Stands.{HasGroups}
use Rattle.sock_ops.specs.declared.tables.Tables.{Tables}
use Rattle.table_rule.specs.Alone.{IsKnownWhole}
use Rattle.table_rule.specs.Calls.{layout_of, me, view}
use Rattle.table_rule.specs.Passes.{known}
use Rattle.table_rule.specs.declared.view.Whole.{Whole}

-- the tables, its passes of the chains and of the lists of groups, and the tables' tag
pub record Looking : Type 0 where
  pub tables : Tables
  pub chain : ChainPass
  pub groups : GroupPasses
  pub tag : ℕ

abbrev pub looking : Tables → ChainPass → GroupPasses → ℕ → Looking
looking t chain groups tag = record { tables = t; chain = chain; groups = groups; tag = tag }

-- they are passes of these tables, at rest between two lookups
pub record IsLooking (l : Looking) : Type 0 where
  pub rests : IsResting l.tables.chains l.chain
  pub nothing : HoldsNothing (known l.chain.pass)
  pub part : 0 < (known l.chain.pass).slot.parts
  pub groups : HasGroups l.tables l.groups

-- the receipt of a lookup of that packet
abbrev pub receipt_of : Looking → Packet → PacketLook → Whole
receipt_of l packet look = whole_to packet l.tables.chains.layout.seed look.t0 look.t1 look.end

-- the searches through chains came in their order, and one that gave up had made so many passes
abbrev pub LooksInOrder : Looking → Looking → Packet → (passes : ℕ) → PacketLook → Type 0
LooksInOrder old new packet passes look =
    ByOrder (layout_of old.tables.chains.chains).shape.slots (lists.groups old.tables.groups) old.tables.chains.layout
    packet passes (me old.chain.pass.steps) old.groups look.end new.groups look.t0 (receipt_of old packet look)
    (me new.chain.pass.steps)

-- The lookup began once all was done that this looker had seen, and has a receipt among those that the rule of the
-- chains keeps: each of them is explained by what stood hashed, once all passes are taken in.
pub record Looks (old new : Looking) (packet : Packet) (passes : ℕ) (look : PacketLook) : Type 0 where
  pub tables : new.tables ≡ old.tables
  pub tag : new.tag ≡ old.tag
  pub fresh : (known old.chain.pass).seen ≤ look.t0
  pub span : look.t0 ≤ look.t1
  pub order : LooksInOrder old new packet passes look
  pub concluded : Concluded (me old.chain.pass.steps) (receipt_of old packet look) (me new.chain.pass.steps)
  pub known_whole : IsKnownWhole (view old.chain.pass.steps) (receipt_of old packet look)

-- A lookup, where it began once the clock was at that number; one that began before says nothing.
abbrev pub LooksAfter : Looking → Looking → Packet → (passes after : ℕ) → Option PacketLook → Type 0
LooksAfter old new packet passes after (Some look) = Looks old new packet passes look × (after ≤ look.t0)
LooksAfter old new packet passes after None =
    (look : PacketLook) × Looks old new packet passes look × (look.t0 < after)
