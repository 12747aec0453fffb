-- In which order a search tries the ports of a range. That `connect` prefers every second port and `bind` the others,
-- and that a search goes round from an offset, follows inet_csk_find_open_port of net/ipv4/inet_connection_sock.c and
-- __inet_hash_connect of net/ipv4/inet_hashtables.c, and that both pass reserved ports by,
-- inet_is_local_reserved_port; where it begins and which half comes first is our own rule.
--
-- To be read from `port_order` and `ports_of` upwards: the order in which a search tries its ports, and which these
-- are. The law `TriesEachOnce` is of both.
use Rattle.std.specs.Prelude.{◌≡◌, ℕ, ◌+◌, ◌-◌, ◌*◌, ◌/◌, ◌%◌, ◌==◌, Bool, not, List, ◌++◌, map, filter, take, replicate}
use Rattle.std.specs.List.{range_with_len, list_any}
use Rattle.list_words.specs.Lists.{SameItems}
use Rattle.flat_list.specs.declared.header.Range.{Range}
use Rattle.flat_list.specs.declared.header.Reserved.{Reserved}
use Rattle.flat_list.specs.declared.header.First.{First}
use Rattle.flat_list.specs.declared.header.First.TheVariants as firsts

-- how many ports a range has
abbrev pub size : Range → ℕ
size r = r.high - r.low + 1

-- every second port of the range, once round it from that distance
abbrev pub half_from : Range → ℕ → List ℕ
half_from r distance = map (λ k. r.low + (distance + 2 * k) % size r) (range_with_len 0 (size r / 2))

-- the offset with its lowest bit cleared
abbrev pub even : ℕ → ℕ
even offset = offset / 2 * 2

-- the offset with its lowest bit set
abbrev pub odd : ℕ → ℕ
odd offset = offset / 2 * 2 + 1

-- all ports in the order of a search that begins at the offset: one half of the range, then the other
abbrev pub whole_order : Range → ℕ → First → List ℕ
whole_order r offset firsts.Odd = half_from r (odd offset) ++ half_from r (even offset)
whole_order r offset firsts.Even = half_from r (even offset) ++ half_from r (odd offset)

-- no port is kept from searches
abbrev pub none_reserved : Reserved
none_reserved = record { ports = replicate 64 0; count = 0 }

-- the port is kept from searches
abbrev pub is_reserved : Range → ℕ → Bool
is_reserved r port = list_any (λ p. p == port) (take r.reserved.count r.reserved.ports)

-- the ports that are not
abbrev pub unreserved : Range → List ℕ → List ℕ
unreserved r ports = filter (λ port. not (is_reserved r port)) ports

-- the ports as a search tries them that begins at the offset
abbrev pub port_order : Range → ℕ → First → List ℕ
port_order r offset first = unreserved r (whole_order r offset first)

-- the ports that a search tries, from the lowest to the highest
abbrev pub ports_of : Range → List ℕ
ports_of r = unreserved r (range_with_len r.low (size r))

-- a range of an even number of ports is tried whole but for the reserved ones, and each port once
abbrev pub TriesEachOnce : Type 0
TriesEachOnce =
    (r : Range) (offset : ℕ) (first : First) → size r % 2 ≡ 0 → SameItems (port_order r offset first) (ports_of r)
