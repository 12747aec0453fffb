-- Which texts are captures, and of what: the savefile format of libpcap (pcap-savefile(5); draft-ietf-opsawg-pcap,
-- section 5), and pcapng (draft-ietf-opsawg-pcapng). A capture that ends in the middle of a record is one of the
-- records before, and one whose blocks are followed by other bytes is one of these blocks.
--
-- To be read from `IsCapture` upwards: contracts cite it, and the laws stand below it.
use Rattle.std.specs.Prelude.{◌≡◌, ◌≢◌, ℕ, ◌+◌, ◌<◌, ◌≤◌, ◌⊎◌, List, [], ◌∷◌, ◌++◌, length, drop, Bool, true, false}
use Rattle.capture_reader.specs.declared.number.Order.{Order}
use Rattle.capture_reader.specs.declared.header.Header.{Header}
use Rattle.capture_reader.specs.declared.packet.Item.{Item}
use Rattle.capture_reader.specs.declared.block.Block.{Block}
use Rattle.capture_reader.specs.Numbers.{number, AreBytes}
use Rattle.capture_reader.specs.Header.{BeginsWithHeader, BeginsWithSection, HasHeader}
use Rattle.capture_reader.specs.Items.{item_of}
use Rattle.capture_reader.specs.Sections.{begun}
use Rattle.capture_reader.specs.Blocks.{AreBlocks, items_of}
use Rattle.capture_reader.specs.Captures.{Capture}

-- how many bytes of the packet are stored, as a record's header says
abbrev pub stored_length : Order → List ℕ → ℕ
stored_length order bytes = number order 4 8 bytes

-- The bytes begin with a record: a header of 16 bytes, and the stored bytes, as many as it says. The rest follows.
pub record BeginsWithRecord (order : Order) (bytes stored rest : List ℕ) : Type 0 where
  pub whole : 16 ≤ length bytes
  pub count : length stored ≡ stored_length order bytes
  pub body : drop 16 bytes ≡ stored ++ rest

-- Bytes are left, but no whole record: too few for its header, or fewer than it says.
pub record IsCutRecord (order : Order) (bytes : List ℕ) : Type 0 where
  pub some : 0 < length bytes
  pub short : (length bytes < 16) ⊎ (length bytes < 16 + stored_length order bytes)

-- what is left after the last whole record, by whether the capture is cut there
abbrev pub Ends : Order → List ℕ → Bool → Type 0
Ends order bytes false = bytes ≡ []
Ends order bytes true = IsCutRecord order bytes

-- The bytes are a record for each item, one after the other, and the end.
abbrev pub AreRecords : Header → ℕ → ℕ → List ℕ → List Item → Bool → Type 0
AreRecords header dev net bytes [] cut = Ends header.order bytes cut
AreRecords header dev net bytes (item ∷ items) cut =
    (stored : List ℕ) × (rest : List ℕ) × BeginsWithRecord header.order bytes stored rest
    × (item ≡ item_of header.link dev net stored) × AreRecords header dev net rest items cut

-- a text without bytes has no items, and isn't cut
abbrev pub nothing : Capture
nothing = record { items = []; cut = false }

-- the text is a header and records
abbrev pub IsOfRecords : ℕ → ℕ → List ℕ → Capture → Type 0
IsOfRecords dev net bytes capture =
    (header : Header) × BeginsWithHeader bytes header
    × AreRecords header dev net (drop 24 bytes) capture.items capture.cut

-- the text is a block that begins a section, and more blocks, of that section and of others
abbrev pub IsOfBlocks : ℕ → ℕ → List ℕ → Capture → Type 0
IsOfBlocks dev net bytes capture =
    (order : Order) × (rest : List ℕ) × (blocks : List Block) × BeginsWithSection bytes order rest
    × AreBlocks dev net (begun order) rest blocks capture.cut × (capture.items ≡ items_of blocks)

-- The text is this capture, of packets that came in by that device and in that network namespace: no bytes at all, or
-- one in either format.
abbrev pub IsCapture : ℕ → ℕ → List ℕ → Capture → Type 0
IsCapture dev net bytes capture =
    ((bytes ≡ []) × (capture ≡ nothing)) ⊎ (IsOfRecords dev net bytes capture ⊎ IsOfBlocks dev net bytes capture)

-- a text is one capture at most
abbrev pub IsOneCapture : Type 0
IsOneCapture =
    (dev net : ℕ) (bytes : List ℕ) (a b : Capture) → AreBytes bytes → IsCapture dev net bytes a
    → IsCapture dev net bytes b → a ≡ b

-- a text without bytes is a capture, and so is each that begins with a header, whatever follows
abbrev pub TakesEach : Type 0
TakesEach =
    (dev net : ℕ) (bytes : List ℕ) → (bytes ≡ []) ⊎ HasHeader bytes → (capture : Capture)
    × IsCapture dev net bytes capture

-- no other text is one
abbrev pub TakesNoOther : Type 0
TakesNoOther =
    (dev net : ℕ) (bytes : List ℕ) (capture : Capture) → bytes ≢ [] → ¬ (HasHeader bytes)
    → ¬ (IsCapture dev net bytes capture)
