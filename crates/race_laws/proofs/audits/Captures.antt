-- The packets of a capture: their numbers are in range, since they stand in bytes.
use Rattle.std.proofs.Common.{◌≡◌, ℕ, suc, ◌+◌, ◌<◌, ◌≤◌, ◌^◌, ◌==◌, ◌||◌, not, nat_lt, Bool, true, false, List, [], ◌∷◌, ◌++◌, length, length-append, length-drop, drop, Option, None, Some, if◌then◌else◌, sym, ap, subst, arith, inl, inr}
use Rattle.list_words.specs.Lists.{Each}
use Rattle.list_words.proofs.EachLemmas.{each_back, each_front}
use Rattle.capture_reader.specs.declared.header.Link.{Link}
use Rattle.capture_reader.specs.declared.header.Link.TheVariants as links
use Rattle.capture_reader.specs.declared.header.Header.{Header}
use Rattle.capture_reader.specs.declared.packet.Item.{Item}
use Rattle.capture_reader.specs.declared.packet.Item.TheVariants as items
use Rattle.capture_reader.specs.declared.block.Block.{Block}
use Rattle.capture_reader.specs.declared.block.Block.TheVariants as blocks
use Rattle.capture_reader.specs.Numbers.{number, AreBytes}
use Rattle.capture_reader.specs.Items.{header_length, fragment_offset, protocol, version, packet_of, ip_item, carried_item, frame_item, is_tagged, item_of, network_number}
use Rattle.capture_reader.specs.Sections.{BlockSection, begun}
use Rattle.capture_reader.specs.Blocks.{AreBlocks, after, item_on, items_of, stored_count}
use Rattle.capture_reader.specs.Captures.{Capture}
use Rattle.capture_reader.specs.Grammar.{AreRecords, IsCapture}
use Rattle.record_reader.specs.Forms.{PacketFits}
use Rattle.race_laws.proofs.audits.Names.{AreBytes as Bytes, at_below, taken_below, left_below}

each_byte : (bytes : List ℕ) → AreBytes bytes → Bytes bytes
each_byte [] h = tt
each_byte (b ∷ bs) h = (h 0, each_byte bs (λ i. h (suc i)))

two_bytes : (place : ℕ) (bytes : List ℕ) → Bytes bytes → network_number 2 place bytes < 2 ^ 16
unfolding number
two_bytes place bytes h =
    let left = at_below (drop place bytes) (left_below place bytes h) in omega (arith, left 0, left 1)

four_bytes : (place : ℕ) (bytes : List ℕ) → Bytes bytes → network_number 4 place bytes < 2 ^ 32
unfolding number
four_bytes place bytes h =
    let left = at_below (drop place bytes) (left_below place bytes h) in omega (arith, left 0, left 1, left 2, left 3)

-- the numbers of a packet are in range
abbrev pub ItemIn : Item → Type 0
ItemIn (items.Packet p) = PacketFits p
ItemIn items.Skip = Unit {0}
ItemIn items.Short = Unit {0}

module _ (dev net : ℕ) (from : dev < 2 ^ 16) (within : net < 16) where
  packet_in : (ip : List ℕ) → Bytes ip → PacketFits (packet_of dev net ip)
  packet_in ip h = record {
    src = four_bytes 12 ip h;
    sport = two_bytes (header_length ip) ip h;
    dst = four_bytes 16 ip h;
    dport = two_bytes (header_length ip + 2) ip h;
    dev = from;
    net = within;
  }

  one_of : (b : Bool) (x y : Item) → ItemIn x → ItemIn y → ItemIn (if b then x else y)
  one_of true x y p q = p
  one_of false x y p q = q

  ip_in : (ip : List ℕ) → Bytes ip → ItemIn (ip_item dev net ip)
  unfolding ip_item
  ip_in ip h =
      let e : Item = items.Packet (packet_of dev net ip) in
      let d : Item = if nat_lt (length ip) (header_length ip + 4) then items.Short else e in
      let c : Item = if not (fragment_offset ip == 0) then items.Skip else d in
      let b : Item = if not (protocol ip == 6) then items.Skip else c in
      let a : Item = if not (version ip == 4) || nat_lt (header_length ip) 20 then items.Skip else b in
      one_of (nat_lt (length ip) 20) items.Short a tt
      (one_of (not (version ip == 4) || nat_lt (header_length ip) 20) items.Skip b tt
      (one_of (not (protocol ip == 6)) items.Skip c tt
      (one_of (not (fragment_offset ip == 0)) items.Skip d tt
      (one_of (nat_lt (length ip) (header_length ip + 4)) items.Short e tt (packet_in ip h)))))

  carried_in : (place : ℕ) (frame : List ℕ) → Bytes frame → ItemIn (carried_item dev net place frame)
  carried_in place frame h = one_of _ (ip_item dev net (drop place frame)) items.Skip (ip_in (drop place frame) (left_below place frame h)) tt

  frame_in : (frame : List ℕ) → Bytes frame → ItemIn (frame_item dev net frame)
  unfolding frame_item
  frame_in frame h =
      let b : Item = if nat_lt (length frame) 18 then items.Short else carried_item dev net 18 frame in
      let a : Item = if not (is_tagged frame) then carried_item dev net 14 frame else b in
      one_of (nat_lt (length frame) 14) items.Short a tt
      (one_of (not (is_tagged frame)) (carried_item dev net 14 frame) b (carried_in 14 frame h)
      (one_of (nat_lt (length frame) 18) items.Short (carried_item dev net 18 frame) tt (carried_in 18 frame h)))

  item_in : (link : Link) (stored : List ℕ) → Bytes stored → ItemIn (item_of link dev net stored)
  item_in links.Ethernet stored h = frame_in stored h
  item_in links.Raw stored h = ip_in stored h
  item_in links.Ipv4 stored h = ip_in stored h

  on_in : (link : Option Link) (stored : List ℕ) → Bytes stored → ItemIn (item_on link dev net stored)
  on_in None stored h = tt
  on_in (Some link) stored h = item_in link stored h

  records_in : (header : Header) (bytes : List ℕ) (all : List Item) (cut : Bool) → Bytes bytes → AreRecords header dev net bytes all cut → Each ItemIn all
  records_in header bytes [] cut h r = tt
  records_in header bytes (item ∷ all) cut h r =
      let body : Bytes (r.0 ++ r.1) = subst Bytes r.2.body (left_below 16 bytes h) in (
        subst ItemIn (sym r.3) (item_in header.link r.0 (each_front _ r.0 r.1 body)),
        records_in header r.1 all cut (each_back _ r.0 r.1 body) r.4,
      )

  blocks_in : (section : BlockSection) (bytes : List ℕ) (all : List Block) (cut : Bool) → Bytes bytes → AreBlocks dev net section bytes all cut → Each ItemIn (items_of all)
  blocks_in section bytes [] cut h r = tt
  blocks_in section bytes (blocks.Packet item ∷ all) cut h r =
      let whole : Bytes (r.1.0 ++ r.0) = subst Bytes r.1.1 h in
      let block : Bytes r.1.0 = each_front _ r.1.0 r.0 whole in
      let b = r.1.2 in
      let stored : Bytes b.1 = subst Bytes (sym b.2.bytes) (taken_below (stored_count section.order r.1.0) (drop 28 r.1.0) (left_below 28 r.1.0 block)) in (
        subst ItemIn (sym b.3) (on_in b.0 b.1 stored),
        blocks_in (after section (blocks.Packet item)) r.0 all cut (each_back _ r.1.0 r.0 whole) r.2,
      )
  blocks_in section bytes (block ∷ all) cut h r =
      let whole : Bytes (r.1.0 ++ r.0) = subst Bytes r.1.1 h in
      blocks_in (after section block) r.0 all cut (each_back _ r.1.0 r.0 whole) r.2

  -- the packets of a capture
  pub capture_in : (bytes : List ℕ) (capture : Capture) → AreBytes bytes → IsCapture dev net bytes capture → Each ItemIn capture.items
  capture_in bytes capture h (inl e) = subst (λ (c : Capture). Each ItemIn c.items) (sym e.1) tt
  capture_in bytes capture h (inr (inl r)) = records_in r.0 (drop 24 bytes) capture.items capture.cut (left_below 24 bytes (each_byte bytes h)) r.2
  capture_in bytes capture h (inr (inr r)) =
      let bs : Bytes bytes = each_byte bytes h in
      let rest : Bytes r.1 = each_back _ r.3.0 r.1 (subst Bytes r.3.1 bs) in
      subst (λ all. Each ItemIn all) (sym r.5) (blocks_in (begun r.0) r.1 r.2 capture.cut rest r.4)

  records_few : (header : Header) (bytes : List ℕ) (all : List Item) (cut : Bool) → AreRecords header dev net bytes all cut → length all ≤ length bytes
  records_few header bytes [] cut r = omega arith
  records_few header bytes (item ∷ all) cut r = omega (
    arith,
    records_few header r.1 all cut r.4,
    r.2.whole,
    length-drop 16 bytes,
    ap length r.2.body,
    length-append r.0 r.1,
  )

  blocks_few : (section : BlockSection) (bytes : List ℕ) (all : List Block) (cut : Bool) → AreBlocks dev net section bytes all cut → length (items_of all) ≤ length bytes
  blocks_few section bytes [] cut r = omega arith
  blocks_few section bytes (blocks.Packet item ∷ all) cut r = omega (
    arith,
    blocks_few (after section (blocks.Packet item)) r.0 all cut r.2,
    r.1.2.2.least,
    ap length r.1.1,
    length-append r.1.0 r.0,
  )
  blocks_few section bytes (block ∷ all) cut r = omega (
    arith,
    blocks_few (after section block) r.0 all cut r.2,
    ap length r.1.1,
    length-append r.1.0 r.0,
  )

  -- a capture has no more items than bytes
  pub capture_few : (bytes : List ℕ) (capture : Capture) → IsCapture dev net bytes capture → length capture.items ≤ length bytes
  capture_few bytes capture (inl e) = let none : length capture.items ≡ 0 = ap (λ (c : Capture). length c.items) e.1 in omega (arith, none)
  capture_few bytes capture (inr (inl r)) = omega (arith, records_few r.0 (drop 24 bytes) capture.items capture.cut r.2, length-drop 24 bytes)
  capture_few bytes capture (inr (inr r)) = omega (
    arith,
    blocks_few (begun r.0) r.1 r.2 capture.cut r.4,
    ap length r.3.1,
    length-append r.3.0 r.1,
    ap length r.5,
  )
