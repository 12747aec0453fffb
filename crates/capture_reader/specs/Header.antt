-- The header of a capture, in either of two formats: the file header of libpcap's savefiles (pcap-savefile(5);
-- draft-ietf-opsawg-pcap, section 4), or the block that begins a section of pcapng (draft-ietf-opsawg-pcapng,
-- sections 3.1 and 4.1). The link types are those of the first one's registry, by their numbers.
use Rattle.std.specs.Prelude.{◌≡◌, ◌≢◌, ℕ, ◌-◌, ◌%◌, ◌≤◌, ◌⊎◌, Option, Some, None, List, ◌++◌, length}
use Rattle.capture_reader.specs.declared.number.Order.{Order}
use Rattle.capture_reader.specs.declared.number.Order.TheVariants as orders
use Rattle.capture_reader.specs.declared.header.Link.{Link}
use Rattle.capture_reader.specs.declared.header.Link.TheVariants as links
use Rattle.capture_reader.specs.declared.header.Header.{Header}
use Rattle.capture_reader.specs.Numbers.{number}

-- a capture with times in microseconds, or one with times in nanoseconds
abbrev pub IsMagic : ℕ → Type 0
IsMagic magic = (magic ≡ 0xa1b2c3d4) ⊎ (magic ≡ 0xa1b23c4d)

-- LINKTYPE_ETHERNET, LINKTYPE_RAW and LINKTYPE_IPV4
abbrev pub link_number : Link → ℕ
link_number links.Ethernet = 1
link_number links.Raw = 101
link_number links.Ipv4 = 228

-- the number is that of the link type, or of none that is read
abbrev pub IsLinkNumber : Option Link → ℕ → Type 0
IsLinkNumber (Some link) n = n ≡ link_number link
IsLinkNumber None n = (link : Link) → n ≢ link_number link

-- The bytes begin with a header of 24: in its order of bytes stand the magic number,
-- the version 2.4 and the link type.
pub record BeginsWithHeader (bytes : List ℕ) (header : Header) : Type 0 where
  pub whole : 24 ≤ length bytes
  pub magic : IsMagic (number header.order 4 0 bytes)
  pub major : number header.order 2 4 bytes ≡ 2
  pub minor : number header.order 2 6 bytes ≡ 4
  pub link : number header.order 4 20 bytes ≡ link_number header.link

-- A block of pcapng is whole: after its type it states how many bytes it has, a multiple of four,
-- and again at its end.
pub record IsWhole (order : Order) (block : List ℕ) : Type 0 where
  pub least : 12 ≤ length block
  pub fours : length block % 4 ≡ 0
  pub front : number order 4 4 block ≡ length block
  pub back : number order 4 (length block - 4) block ≡ length block

-- the type of a block that begins a section: its bytes are the same in either order
abbrev pub section_type : ℕ
section_type = 0x0a0d0d0a

-- The block begins a section: its mark shows in which order the section's numbers stand, and its major version is 1.
pub record IsSectionBlock (order : Order) (block : List ℕ) : Type 0 where
  pub whole : IsWhole order block
  pub least : 28 ≤ length block
  pub kind : number orders.Big 4 0 block ≡ section_type
  pub mark : number order 4 8 block ≡ 0x1a2b3c4d
  pub major : number order 2 12 block ≡ 1

-- the bytes begin with the block of a section in that order, and the rest follows
abbrev pub BeginsWithSection : List ℕ → Order → List ℕ → Type 0
BeginsWithSection bytes order rest = (block : List ℕ) × (bytes ≡ block ++ rest) × IsSectionBlock order block

-- a header stands at the front, of either format
abbrev pub HasHeader : List ℕ → Type 0
HasHeader bytes =
    ((header : Header) × BeginsWithHeader bytes header)
    ⊎ ((order : Order) × (rest : List ℕ) × BeginsWithSection bytes order rest)
