-- What a stored packet is for the socket tables: the packet whose socket is looked up, or one that is passed over, or
-- too few bytes to decide. IEEE 802.3 and 802.1Q for frames and tags; RFC 791, section 3.1, for the IP header; RFC
-- 9293, section 3.1, for the ports.
--
-- To be read from the end: `item_of` is what Blocks and Grammar cite, and each stands on those above it.
use Rattle.std.specs.Prelude.{ℕ, ◌+◌, ◌-◌, ◌*◌, ◌/◌, ◌%◌, ◌==◌, ◌||◌, not, nat_lt, Bool, if◌then◌else◌, List, length, drop, slice_index}
use Rattle.sock_card.specs.declared.card.Packet.{Packet}
use Rattle.capture_reader.specs.declared.number.Order.TheVariants as orders
use Rattle.capture_reader.specs.declared.header.Link.{Link}
use Rattle.capture_reader.specs.declared.header.Link.TheVariants as links
use Rattle.capture_reader.specs.declared.packet.Item.{Item}
use Rattle.capture_reader.specs.declared.packet.Item.TheVariants as items
use Rattle.capture_reader.specs.Numbers.{number}

-- the number in the n bytes from a place on, the highest byte first
abbrev pub network_number : ℕ → ℕ → List ℕ → ℕ
network_number n place bytes = number orders.Big n place bytes

-- the version of IP
abbrev pub version : List ℕ → ℕ
version ip = slice_index ip 0 / 16

-- how many bytes the IP header has, options included: it states the count in words of four
abbrev pub header_length : List ℕ → ℕ
header_length ip = 4 * (slice_index ip 0 % 16)

-- where in the whole datagram this fragment begins, in units of eight bytes
abbrev pub fragment_offset : List ℕ → ℕ
fragment_offset ip = network_number 2 6 ip % 0x2000

-- the number of the protocol above IP: 6 is TCP
abbrev pub protocol : List ℕ → ℕ
protocol ip = slice_index ip 9

-- the ends of a TCP packet over IPv4 that came in by that device, in that network namespace
abbrev pub packet_of : ℕ → ℕ → List ℕ → Packet
packet_of dev net ip =
    record {
      src = network_number 4 12 ip;
      sport = network_number 2 (header_length ip) ip;
      dst = network_number 4 16 ip;
      dport = network_number 2 (header_length ip + 2) ip;
      dev = dev;
      net = net;
    }

-- what begins with an IP header: the first test that holds decides
unfoldable pub ip_item : ℕ → ℕ → List ℕ → Item
ip_item dev net ip =
    if nat_lt (length ip) 20 then items.Short
    else if not (version ip == 4) || nat_lt (header_length ip) 20 then items.Skip
    else if not (protocol ip == 6) then items.Skip
    else if not (fragment_offset ip == 0) then items.Skip
    else if nat_lt (length ip) (header_length ip + 4) then items.Short
    else items.Packet (packet_of dev net ip)

-- the frame has a tag of a VLAN before its EtherType
abbrev pub is_tagged : List ℕ → Bool
is_tagged frame = network_number 2 12 frame == 0x8100

-- what a frame carries from a place on: the two bytes before it are its EtherType, 0x0800 for IPv4
abbrev pub carried_item : ℕ → ℕ → ℕ → List ℕ → Item
carried_item dev net place frame =
    if network_number 2 (place - 2) frame == 0x0800 then ip_item dev net (drop place frame) else items.Skip

-- what begins with an Ethernet header: one tag is looked through, and no second one
unfoldable pub frame_item : ℕ → ℕ → List ℕ → Item
frame_item dev net frame =
    if nat_lt (length frame) 14 then items.Short
    else if not (is_tagged frame) then carried_item dev net 14 frame
    else if nat_lt (length frame) 18 then items.Short
    else carried_item dev net 18 frame

-- what is stored of a packet, by the link type
abbrev pub item_of : Link → ℕ → ℕ → List ℕ → Item
item_of links.Ethernet dev net stored = frame_item dev net stored
item_of links.Raw dev net stored = ip_item dev net stored
item_of links.Ipv4 dev net stored = ip_item dev net stored
