-- The blocks of pcapng, and what each says of a capture's packets (draft-ietf-opsawg-pcapng, sections 4.2 and 4.3).
-- Options aren't read, and blocks of all other types are passed over,
-- those of simple packets among them (section 4.4).
--
-- To be read from the end: `AreBlocks` and `items_of` are what Grammar cites, and each stands on those above it.
use Rattle.std.specs.Prelude.{◌≡◌, ◌≢◌, ℕ, ◌+◌, ◌*◌, ◌/◌, ◌≤◌, Option, Some, None, List, [], ◌∷◌, ◌++◌, length, take, drop, slice_get, Bool, true, false}
use Rattle.capture_reader.specs.declared.number.Order.{Order}
use Rattle.capture_reader.specs.declared.number.Order.TheVariants as orders
use Rattle.capture_reader.specs.declared.header.Link.{Link}
use Rattle.capture_reader.specs.declared.packet.Item.{Item}
use Rattle.capture_reader.specs.declared.packet.Item.TheVariants as items
use Rattle.capture_reader.specs.declared.block.Block.{Block}
use Rattle.capture_reader.specs.declared.block.Block.TheVariants as blocks
use Rattle.capture_reader.specs.Numbers.{number}
use Rattle.capture_reader.specs.Header.{IsLinkNumber, IsWhole, section_type, IsSectionBlock}
use Rattle.capture_reader.specs.Items.{item_of}
use Rattle.capture_reader.specs.Sections.{BlockSection, begun}

-- the type of a block that describes an interface, and of one that stores a packet
abbrev pub interface_type : ℕ
interface_type = 1

abbrev pub packet_type : ℕ
packet_type = 6

-- The block describes an interface, whose link type stands in it in two bytes.
pub record IsInterfaceBlock (order : Order) (block : List ℕ) (link : Option Link) : Type 0 where
  pub whole : IsWhole order block
  pub least : 20 ≤ length block
  pub kind : number order 4 0 block ≡ interface_type
  pub link_type : IsLinkNumber link (number order 2 8 block)

-- how many bytes of a packet its block stores
abbrev pub stored_count : Order → List ℕ → ℕ
stored_count order block = number order 4 20 block

-- as many, or the next multiple of four
abbrev pub padded : ℕ → ℕ
padded n = (n + 3) / 4 * 4

-- The block stores a packet: the number of its interface is below the section's count,
-- and there is room for its bytes.
pub record IsPacketBlock (section : BlockSection) (block : List ℕ) (link : Option Link) (stored : List ℕ) : Type 0 where
  pub whole : IsWhole section.order block
  pub least : 32 ≤ length block
  pub kind : number section.order 4 0 block ≡ packet_type
  pub interface : slice_get section.links (number section.order 4 8 block) ≡ Some link
  pub room : 32 + padded (stored_count section.order block) ≤ length block
  pub bytes : stored ≡ take (stored_count section.order block) (drop 28 block)

-- The block is of another type.
pub record IsOtherBlock (order : Order) (block : List ℕ) : Type 0 where
  pub whole : IsWhole order block
  pub no_section : number orders.Big 4 0 block ≢ section_type
  pub no_interface : number order 4 0 block ≢ interface_type
  pub no_packet : number order 4 0 block ≢ packet_type

-- what a stored packet is: one of an interface whose link type isn't read is passed over
abbrev pub item_on : Option Link → ℕ → ℕ → List ℕ → Item
item_on (Some link) dev net stored = item_of link dev net stored
item_on None dev net stored = items.Skip

-- the bytes are a valid block in that section, and say this
abbrev pub IsBlock : ℕ → ℕ → BlockSection → List ℕ → Block → Type 0
IsBlock dev net section bytes (blocks.Section order) = IsSectionBlock order bytes
IsBlock dev net section bytes (blocks.Interface link) = IsInterfaceBlock section.order bytes link
IsBlock dev net section bytes (blocks.Packet item) =
    (link : Option Link) × (stored : List ℕ) × IsPacketBlock section bytes link stored
    × (item ≡ item_on link dev net stored)
IsBlock dev net section bytes blocks.Other = IsOtherBlock section.order bytes

-- the section that the next block is in: another one begins, or this one has one more interface
abbrev pub after : BlockSection → Block → BlockSection
after section (blocks.Section order) = begun order
after section (blocks.Interface link) = record section { links = section.links ++ link ∷ [] }
after section (blocks.Packet item) = section
after section blocks.Other = section

-- the bytes begin with a valid block that says this, and the rest follows
abbrev pub BeginsWithBlock : ℕ → ℕ → BlockSection → List ℕ → Block → List ℕ → Type 0
BeginsWithBlock dev net section bytes block rest =
    (whole : List ℕ) × (bytes ≡ whole ++ rest) × IsBlock dev net section whole block

-- a valid block stands at the front
abbrev pub HasBlock : ℕ → ℕ → BlockSection → List ℕ → Type 0
HasBlock dev net section bytes = (block : Block) × (rest : List ℕ) × BeginsWithBlock dev net section bytes block rest

-- what is left after the last valid block, by whether the capture is cut there
abbrev pub EndsBlocks : ℕ → ℕ → BlockSection → List ℕ → Bool → Type 0
EndsBlocks dev net section bytes false = bytes ≡ []
EndsBlocks dev net section bytes true = (bytes ≢ []) × ¬ (HasBlock dev net section bytes)

-- The bytes are valid blocks, one after the other, and the end.
abbrev pub AreBlocks : ℕ → ℕ → BlockSection → List ℕ → List Block → Bool → Type 0
AreBlocks dev net section bytes [] cut = EndsBlocks dev net section bytes cut
AreBlocks dev net section bytes (block ∷ blocks) cut =
    (rest : List ℕ) × BeginsWithBlock dev net section bytes block rest
    × AreBlocks dev net (after section block) rest blocks cut

-- the items of the packets that some blocks store
abbrev pub items_of : List Block → List Item
items_of [] = []
items_of (blocks.Packet item ∷ rest) = item ∷ items_of rest
items_of (_ ∷ rest) = items_of rest
