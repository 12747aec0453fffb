-- Worked examples of stored packets and of captures, with their bytes: our own.
--
-- In three parts: stored packets, up to `judged`; captures, up to `RowsHold`; and first bytes that begin none, in
-- `flawed`. What a part's rows are made of stands above them.
use Rattle.std.specs.Prelude.{ℕ, List, [], ◌∷◌, ◌++◌, map, take, drop, replicate, true, false}
use Rattle.capture_reader.specs.declared.header.Link.TheVariants as links
use Rattle.capture_reader.specs.declared.packet.Item.{Item}
use Rattle.capture_reader.specs.declared.packet.Item.TheVariants as items
use Rattle.capture_reader.specs.declared.flaw.HeadFlaw.{HeadFlaw}
use Rattle.capture_reader.specs.Flaws.{head_flaw}
use Rattle.capture_reader.specs.Items.{item_of}
use Rattle.capture_reader.specs.Captures.{Capture}
use Rattle.capture_reader.specs.Grammar.{IsCapture}

-- a TCP packet from 10.0.0.2:1000 to 10.0.0.1:80, as the fragment that begins at this offset
abbrev pub datagram : ℕ → List ℕ
datagram offset =
    0x45 ∷ 0 ∷ 0 ∷ 0x28 ∷ 0 ∷ 0 ∷ 0 ∷ offset ∷ 0x40 ∷ 6 ∷ 0 ∷ 0 ∷ 10 ∷ 0 ∷ 0 ∷ 2 ∷ 10 ∷ 0 ∷ 0 ∷ 1 ∷ 3 ∷ 0xe8 ∷ 0 ∷ 0x50
    ∷ []

-- two addresses of Ethernet
abbrev pub addresses : List ℕ
addresses = replicate 12 0

-- a frame that carries IPv4
abbrev pub frame : List ℕ → List ℕ
frame ip = addresses ++ 8 ∷ 0 ∷ ip

-- the same in VLAN 5
abbrev pub tagged_frame : List ℕ → List ℕ
tagged_frame ip = addresses ++ 0x81 ∷ 0 ∷ 0 ∷ 5 ∷ 8 ∷ 0 ∷ ip

-- a frame of ARP
abbrev pub arp_frame : List ℕ
arp_frame = addresses ++ 8 ∷ 6 ∷ []

-- the packet that each finds
abbrev pub found : Item
found = items.Packet (record { src = 0x0A000002; sport = 1000; dst = 0x0A000001; dport = 80; dev = 3; net = 2 })

-- what these are that came in by device 3 in network namespace 2: a packet plain, in a VLAN and without a frame; a
-- frame of ARP; a later fragment; a packet without its last byte
abbrev pub judged : List Item
judged =
    map (item_of links.Ethernet 3 2) (frame (datagram 0) ∷ tagged_frame (datagram 0) ∷ [])
    ++ item_of links.Raw 3 2 (datagram 0)
    ∷ map (item_of links.Ethernet 3 2) (arp_frame ∷ frame (datagram 1) ∷ take 37 (frame (datagram 0)) ∷ [])

-- the header of an Ethernet capture from a machine with the lowest byte first
abbrev pub file_header : List ℕ
file_header =
    0xd4 ∷ 0xc3 ∷ 0xb2 ∷ 0xa1 ∷ 2 ∷ 0 ∷ 4 ∷ 0 ∷ 0 ∷ 0 ∷ 0 ∷ 0 ∷ 0 ∷ 0 ∷ 0 ∷ 0 ∷ 0xff ∷ 0xff ∷ 0 ∷ 0 ∷ 1 ∷ 0 ∷ 0 ∷ 0 ∷ []

-- a record of that many bytes, of a packet that had so many
abbrev pub stored_record : ℕ → ℕ → List ℕ → List ℕ
stored_record count all stored = replicate 8 0 ++ count ∷ 0 ∷ 0 ∷ 0 ∷ all ∷ 0 ∷ 0 ∷ 0 ∷ stored

-- a packet, a frame of ARP, a packet in a VLAN, a later fragment, and half the header of a fifth record
abbrev pub of_records : List ℕ
of_records =
    file_header
    ++ (stored_record 38 54 (frame (datagram 0))
    ++ (stored_record 14 14 arp_frame
    ++ (stored_record 42 58 (tagged_frame (datagram 0))
    ++ (stored_record 38 54 (frame (datagram 1)) ++ replicate 8 0))))

-- a number below 256 in four bytes, the lowest first, and the highest first
abbrev pub word : ℕ → List ℕ
word n = n ∷ 0 ∷ 0 ∷ 0 ∷ []

abbrev pub big_word : ℕ → List ℕ
big_word n = 0 ∷ 0 ∷ 0 ∷ n ∷ []

-- the block of a section whose numbers have the lowest byte first
abbrev pub section_block : List ℕ
section_block =
    10 ∷ 13 ∷ 13 ∷ 10 ∷ word 28 ++ 0x4d ∷ 0x3c ∷ 0x2b ∷ 0x1a ∷ 1 ∷ 0 ∷ 0 ∷ 0 ∷ replicate 8 0xff ++ word 28

-- that of an interface of a link type
abbrev pub interface_block : ℕ → List ℕ
interface_block link = word 1 ++ (word 20 ++ (word link ++ (word 0 ++ word 20)))

-- that of a packet of 38 bytes which states the given count, and at its end the given length
abbrev pub packet_block : ℕ → ℕ → ℕ → List ℕ
packet_block interface count again =
    word 6 ++ (word 72 ++ (word interface ++ (replicate 8 0 ++ (word count ++ (word 38
    ++ (frame (datagram 0) ++ 0 ∷ 0 ∷ word again))))))

-- that of a simple packet, which names no interface
abbrev pub simple_block : List ℕ
simple_block = word 3 ++ (word 16 ++ (word 0 ++ word 16))

-- the same three with the highest byte first
abbrev pub big_section_block : List ℕ
big_section_block =
    10 ∷ 13 ∷ 13 ∷ 10 ∷ big_word 28 ++ 0x1a ∷ 0x2b ∷ 0x3c ∷ 0x4d ∷ 0 ∷ 1 ∷ 0 ∷ 0 ∷ replicate 8 0xff ++ big_word 28

abbrev pub big_interface_block : List ℕ
big_interface_block = big_word 1 ++ (big_word 20 ++ (0 ∷ 1 ∷ 0 ∷ 0 ∷ big_word 0 ++ big_word 20))

abbrev pub big_packet_block : List ℕ
big_packet_block =
    big_word 6 ++ (big_word 72 ++ (big_word 0 ++ (replicate 8 0 ++ (big_word 38 ++ (big_word 38
    ++ (frame (datagram 0) ++ 0 ∷ 0 ∷ big_word 72))))))

-- a section, an Ethernet interface, and what follows
abbrev pub with_interface : List ℕ → List ℕ
with_interface rest = section_block ++ (interface_block 1 ++ rest)

-- the capture of these items, whole or cut
abbrev pub whole : List Item → Capture
whole items = record { items = items; cut = false }

abbrev pub cut_after : List Item → Capture
cut_after items = record { items = items; cut = true }

-- Which captures these texts are, whose packets came in by device 3 in network namespace 2.
pub record RowsHold : Type 0 where
  pub records : IsCapture 3 2 of_records (cut_after (found ∷ items.Skip ∷ found ∷ items.Skip ∷ []))
  pub packet : IsCapture 3 2 (with_interface (packet_block 0 38 72)) (whole (found ∷ []))
  -- without its last four bytes
  pub last_lost : IsCapture 3 2 (with_interface (take 68 (packet_block 0 38 72))) (cut_after [])
  -- a simple packet, an interface of another link type, and a packet of each interface
  pub link_types :
      IsCapture 3 2 (with_interface
      (simple_block ++ (interface_block 113 ++ (packet_block 0 38 72 ++ packet_block 1 38 72))))
      (whole (found ∷ items.Skip ∷ []))
  -- another section, in the other order of bytes
  pub orders :
      IsCapture 3 2 (with_interface
      (packet_block 0 38 72 ++ (big_section_block ++ (big_interface_block ++ big_packet_block))))
      (whole (found ∷ found ∷ []))
  -- another section, which has no interface
  pub sections :
      IsCapture 3 2 (with_interface (packet_block 0 38 72 ++ (section_block ++ packet_block 0 38 72)))
      (cut_after (found ∷ []))
  -- a packet of an interface that the section doesn't have
  pub no_interface : IsCapture 3 2 (with_interface (packet_block 1 38 72)) (cut_after [])
  -- a packet whose block states two lengths
  pub lengths : IsCapture 3 2 (with_interface (packet_block 0 38 76)) (cut_after [])
  -- a packet that has room with its padding, and one that hasn't
  pub room : IsCapture 3 2 (with_interface (packet_block 0 40 72)) (whole (found ∷ []))
  pub no_room : IsCapture 3 2 (with_interface (packet_block 0 41 72)) (cut_after [])

-- What is wrong with these: three bytes; a line feed and a capture; the first bytes of a file of gzip, of the variant
-- 0xa1b2cd34, and of neither format; a header of 23 bytes, one of version 2.3, and one of link type 113; and a section
-- of 27 bytes, without its mark, of version 2, and with another length at its front.
abbrev pub flawed : List HeadFlaw
flawed =
    map head_flaw (take 3 file_header ∷ (10 ∷ file_header) ∷ (0x1f ∷ 0x8b ∷ 8 ∷ 0 ∷ []) ∷ (0x34 ∷ 0xcd ∷ 0xb2 ∷ 0xa1 ∷ [])
    ∷ replicate 4 0 ∷ take 23 file_header ∷ (take 4 file_header ++ 2 ∷ 0 ∷ 3 ∷ 0 ∷ drop 8 file_header)
    ∷ (take 20 file_header ++ word 113) ∷ take 27 section_block ∷ (take 8 section_block ++ replicate 20 0)
    ∷ (take 12 section_block ++ 2 ∷ 0 ∷ drop 14 section_block) ∷ (take 4 section_block ++ (word 32 ++ drop 8 section_block)) ∷ [])
