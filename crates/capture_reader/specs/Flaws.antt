-- Why bytes begin with no header that is read: our own, of the formats as Header has them. The magic numbers of gzip,
-- zstd and LZ4 are those of RFC 1952, section 2.3.1, of RFC 8878, section 3.1.1, and of LZ4's frame format.
--
-- To be read from the end: `IsBadHead` is what contracts cite, and each stands on those above it; below it is a law.
use Rattle.std.specs.Prelude.{◌≡◌, ◌≢◌, ℕ, ◌==◌, ◌&&◌, ◌||◌, not, nat_lt, Bool, if◌then◌else◌, List, [], length, slice_index}
use Rattle.capture_reader.specs.declared.number.Order.{Order}
use Rattle.capture_reader.specs.declared.number.Order.TheVariants as orders
use Rattle.capture_reader.specs.declared.flaw.HeadFlaw.{HeadFlaw}
use Rattle.capture_reader.specs.declared.flaw.HeadFlaw.TheVariants as flaws
use Rattle.capture_reader.specs.Numbers.{number}
use Rattle.capture_reader.specs.Header.{HasHeader, section_type}

-- a magic number of libpcap's format stands at the front
abbrev pub has_magic : Order → List ℕ → Bool
has_magic order bytes = number order 4 0 bytes == 0xa1b2c3d4 || number order 4 0 bytes == 0xa1b23c4d

-- that of the format's variant with longer records, which isn't read
abbrev pub has_variant : Order → List ℕ → Bool
has_variant order bytes = number order 4 0 bytes == 0xa1b2cd34

-- those of files that gzip, zstd and LZ4 write
abbrev pub is_compressed : List ℕ → Bool
is_compressed bytes =
    number orders.Big 2 0 bytes == 0x1f8b || number orders.Little 4 0 bytes == 0xfd2fb528
    || number orders.Little 4 0 bytes == 0x184d2204

-- the first byte ends a line, or is the carriage return before its end
abbrev pub is_blank_line : List ℕ → Bool
is_blank_line bytes = slice_index bytes 0 == 10 || slice_index bytes 0 == 13

-- what is wrong behind a magic number: the first test that holds decides
unfoldable pub header_flaw : Order → List ℕ → HeadFlaw
header_flaw order bytes =
    if nat_lt (length bytes) 24 then flaws.CutHeader
    else if not (number order 2 4 bytes == 2 && number order 2 6 bytes == 4)
    then flaws.Version (number order 2 4 bytes) (number order 2 6 bytes)
    else flaws.LinkType (number order 4 20 bytes)

-- what is wrong in a section's first block whose mark stands in that order
unfoldable pub marked_flaw : Order → List ℕ → HeadFlaw
marked_flaw order bytes =
    if not (number order 2 12 bytes == 1) then flaws.SectionVersion (number order 2 12 bytes)
    else flaws.SectionLength (number order 4 4 bytes)

-- what is wrong behind the type of a section's first block
unfoldable pub section_flaw : List ℕ → HeadFlaw
section_flaw bytes =
    if nat_lt (length bytes) 28 then flaws.CutSection
    else if number orders.Big 4 8 bytes == 0x1a2b3c4d then marked_flaw orders.Big bytes
    else if number orders.Little 4 8 bytes == 0x1a2b3c4d then marked_flaw orders.Little bytes
    else flaws.Mark

-- what four bytes are that begin neither format
unfoldable pub foreign_flaw : List ℕ → HeadFlaw
foreign_flaw bytes =
    if is_blank_line bytes then flaws.BlankLine
    else if is_compressed bytes then flaws.Compressed
    else if has_variant orders.Big bytes || has_variant orders.Little bytes then flaws.Variant
    else flaws.Magic

-- what is wrong with the first bytes of a text without a header: the first test that holds decides
unfoldable pub head_flaw : List ℕ → HeadFlaw
head_flaw bytes =
    if nat_lt (length bytes) 4 then flaws.Short
    else if has_magic orders.Big bytes then header_flaw orders.Big bytes
    else if has_magic orders.Little bytes then header_flaw orders.Little bytes
    else if number orders.Big 4 0 bytes == section_type then section_flaw bytes
    else foreign_flaw bytes

-- The bytes are no capture, which is so where they aren't empty and have no header; and that is what is wrong.
pub record IsBadHead (bytes : List ℕ) (flaw : HeadFlaw) : Type 0 where
  pub some : bytes ≢ []
  pub headless : ¬ (HasHeader bytes)
  pub flaw_is : flaw ≡ head_flaw bytes

-- one flaw at most is what is wrong
abbrev pub IsOneFlaw : Type 0
IsOneFlaw = (bytes : List ℕ) (a b : HeadFlaw) → IsBadHead bytes a → IsBadHead bytes b → a ≡ b
