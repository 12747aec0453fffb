-- What is written of a capture that is refused: our own.
--
-- To be read from the end: `capture_text` is the whole, of two lines, and each stands on those above it.
use Rattle.std.specs.Prelude.{ℕ, List, ◌++◌, codes, decimal}
use Rattle.capture_reader.specs.declared.flaw.HeadFlaw.{HeadFlaw}
use Rattle.capture_reader.specs.declared.flaw.HeadFlaw.TheVariants as flaws

-- a text, a number, and a text
abbrev pub with_number : List ℕ → ℕ → List ℕ → List ℕ
with_number front n behind = front ++ decimal n ++ behind

-- what is wrong with a capture's first bytes
unfoldable pub flaw_text : HeadFlaw → List ℕ
flaw_text flaws.Short = codes "it has fewer than the four bytes of a magic number"
flaw_text flaws.BlankLine = codes "it begins with the end of a line: no blank line may stand behind the line capture"
flaw_text flaws.Compressed = codes "it is compressed: unpack it first, as by gzip -d, zstd -d or lz4 -d"
flaw_text flaws.Variant = codes "its magic number is that of a variant, 0xa1b2cd34: write it anew, as by editcap -F pcap"
flaw_text flaws.Magic = codes "its first four bytes are the magic number of neither format: it is no capture, or something stands before it"
flaw_text flaws.CutHeader = codes "its header is cut off: it has fewer than 24 bytes"
flaw_text (flaws.Version major minor) =
    with_number (codes "its version is ") major (codes ".") ++ with_number (codes "") minor (codes ", and 2.4 alone is read")
flaw_text (flaws.LinkType n) =
    with_number (codes "its link type is ") n (codes ", which isn't read: capture on one interface, as by tcpdump -i eth0, and not on any")
flaw_text flaws.CutSection = codes "its first block is cut off: it has fewer than 28 bytes"
flaw_text flaws.Mark = codes "its first block lacks the mark of its order of bytes, 0x1a2b3c4d"
flaw_text (flaws.SectionVersion major) =
    with_number (codes "the major version of its first section is ") major (codes ", and 1 alone is read")
flaw_text (flaws.SectionLength n) =
    with_number (codes "its first block isn't of ") n (codes " bytes, as it says: it is cut off, or says so at its front alone, or a block can't have so many")

-- what is read
unfoldable pub wanted_text : List ℕ
wanted_text =
    codes "wanted: libpcap's format, version 2.4, of link type 1 (Ethernet), 101 (raw IP) or 228 (IPv4), or pcapng, version 1\n"

-- what is wrong, and what is read
unfoldable pub capture_text : HeadFlaw → List ℕ
capture_text flaw = codes "bad capture: " ++ flaw_text flaw ++ codes "\n" ++ wanted_text
