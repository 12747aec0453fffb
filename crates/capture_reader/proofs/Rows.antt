-- The definition of captures gives the worked examples.
use Rattle.std.proofs.Common.{◌≡◌, ◌≢◌, ℕ, Bool, true, false, subst, sym, Option, Some, None, List, [], ◌∷◌, ◌++◌, length, take, replicate, refl, ap, arith, inl, inr}
use Rattle.capture_reader.specs.declared.number.Order.{Order}
use Rattle.capture_reader.specs.declared.number.Order.TheVariants as orders
use Rattle.capture_reader.specs.declared.header.Link.{Link}
use Rattle.capture_reader.specs.declared.header.Link.TheVariants as links
use Rattle.capture_reader.specs.declared.block.Block.{Block}
use Rattle.capture_reader.specs.declared.block.Block.TheVariants as blocks
use Rattle.capture_reader.specs.declared.packet.Item.TheVariants as items
use Rattle.capture_reader.specs.Numbers.{number}
use Rattle.capture_reader.specs.Header.{link_number, IsWhole, IsSectionBlock, BeginsWithSection, section_type}
use Rattle.capture_reader.specs.Items.{ip_item, frame_item}
use Rattle.capture_reader.specs.Sections.{BlockSection}
use Rattle.capture_reader.specs.Blocks.{IsInterfaceBlock, IsPacketBlock, IsOtherBlock, IsBlock, HasBlock, AreBlocks, items_of}
use Rattle.capture_reader.specs.Grammar.{IsCapture}
use Rattle.capture_reader.specs.Rows.{datagram, frame, tagged_frame, arp_frame, found, stored_record, of_records, section_block, interface_block, packet_block, simple_block, big_section_block, big_interface_block, big_packet_block, with_interface, cut_after, RowsHold}
use Rattle.capture_reader.proofs.Wholes.{is_there, whole_is}
use Rattle.capture_reader.proofs.Sections.{front}
use Rattle.capture_reader.proofs.Blocks.{none_whole, none_valid}

-- sections with the lowest byte first, and the highest
abbrev little : List (Option Link) → BlockSection
little links = record { order = orders.Little; links = links }

abbrev big : List (Option Link) → BlockSection
big links = record { order = orders.Big; links = links }

abbrev ethernet : Option Link
ethernet = Some links.Ethernet

records_row : IsCapture 3 2 of_records (cut_after (found ∷ items.Skip ∷ found ∷ items.Skip ∷ []))
unfolding number ip_item frame_item
records_row =
    let last : List ℕ = replicate 8 0 in
    let four : List ℕ = stored_record 38 54 (frame (datagram 1)) ++ last in
    let three : List ℕ = stored_record 42 58 (tagged_frame (datagram 0)) ++ four in
    let two : List ℕ = stored_record 14 14 arp_frame ++ three in
    inr (inl (
      record { order = orders.Little; link = links.Ethernet },
      record { whole = omega arith; magic = inl refl; major = refl; minor = refl; link = refl },
      (
        frame (datagram 0),
        two,
        record { whole = omega arith; count = refl; body = refl },
        refl,
        (
          arp_frame,
          three,
          record { whole = omega arith; count = refl; body = refl },
          refl,
          (
            tagged_frame (datagram 0),
            four,
            record { whole = omega arith; count = refl; body = refl },
            refl,
            (frame (datagram 1), last, record { whole = omega arith; count = refl; body = refl }, refl, record { some = omega arith; short = inl (omega arith) }),
          ),
        ),
      ),
    ))

section_is : IsSectionBlock orders.Little section_block
unfolding number
section_is = record { whole = record { least = omega arith; fours = refl; front = refl; back = refl }; least = omega arith; kind = refl; mark = refl; major = refl }

big_section_is : IsSectionBlock orders.Big big_section_block
unfolding number
big_section_is = record { whole = record { least = omega arith; fours = refl; front = refl; back = refl }; least = omega arith; kind = refl; mark = refl; major = refl }

ethernet_is : IsInterfaceBlock orders.Little (interface_block 1) ethernet
unfolding number
ethernet_is = record { whole = record { least = omega arith; fours = refl; front = refl; back = refl }; least = omega arith; kind = refl; link_type = refl }

big_ethernet_is : IsInterfaceBlock orders.Big big_interface_block ethernet
unfolding number
big_ethernet_is = record { whole = record { least = omega arith; fours = refl; front = refl; back = refl }; least = omega arith; kind = refl; link_type = refl }

cooked_is : IsInterfaceBlock orders.Little (interface_block 113) None
unfolding number
cooked_is = record { whole = record { least = omega arith; fours = refl; front = refl; back = refl }; least = omega arith; kind = refl; link_type = λ link. elim link as (λ (l : Link). 113 ≢ link_number l) [ links.Ethernet ↦ λ e. omega (arith, e) | links.Raw ↦ λ e. omega (arith, e) | links.Ipv4 ↦ λ e. omega (arith, e) ] }

simple_is : IsOtherBlock orders.Little simple_block
unfolding number
simple_is = record { whole = record { least = omega arith; fours = refl; front = refl; back = refl }; no_section = λ e. omega (arith, e); no_interface = λ e. omega (arith, e); no_packet = λ e. omega (arith, e) }

packet_whole : (interface count : ℕ) → IsWhole orders.Little (packet_block interface count 72)
unfolding number
packet_whole interface count = record { least = omega arith; fours = refl; front = refl; back = refl }

packet_is : (l : Option Link) (rest : List (Option Link)) → IsPacketBlock (little (l ∷ rest)) (packet_block 0 38 72) l (frame (datagram 0))
unfolding number
packet_is l rest = record { whole = packet_whole 0 38; least = omega arith; kind = refl; interface = refl; room = omega arith; bytes = refl }

wide_packet_is : IsPacketBlock (little (ethernet ∷ [])) (packet_block 0 40 72) ethernet (take 40 (frame (datagram 0) ++ 0 ∷ 0 ∷ []))
unfolding number
wide_packet_is = record { whole = packet_whole 0 40; least = omega arith; kind = refl; interface = refl; room = omega arith; bytes = refl }

second_packet_is : IsPacketBlock (little (ethernet ∷ None ∷ [])) (packet_block 1 38 72) None (frame (datagram 0))
unfolding number
second_packet_is = record { whole = packet_whole 1 38; least = omega arith; kind = refl; interface = refl; room = omega arith; bytes = refl }

big_packet_is : IsPacketBlock (big (ethernet ∷ [])) big_packet_block ethernet (frame (datagram 0))
unfolding number
big_packet_is = record { whole = record { least = omega arith; fours = refl; front = refl; back = refl }; least = omega arith; kind = refl; interface = refl; room = omega arith; bytes = refl }

-- bytes that begin with a section's block have its type
no_section : (bytes : List ℕ) → number orders.Big 4 0 bytes ≢ section_type → (o : Order) (rest : List ℕ) → BeginsWithSection bytes o rest → ⊥
no_section bytes other o rest h = other (front bytes o rest h).kind

-- a block of the type of packets that stores none isn't valid
no_packet : (section : BlockSection) (block : List ℕ) → number orders.Big 4 0 block ≢ section_type → number section.order 4 0 block ≡ 6
    → ((l : Option Link) (s : List ℕ) → IsPacketBlock section block l s → ⊥) → (b : Block) → IsBlock 3 2 section block b → ⊥
no_packet section block other kind none (blocks.Section o) h = other h.kind
no_packet section block other kind none (blocks.Interface l) h = omega (arith, kind, h.kind)
no_packet section block other kind none (blocks.Packet i) h = none h.0 h.1 h.2
no_packet section block other kind none blocks.Other h = h.no_packet kind

-- a packet's block that isn't valid, at the end of the bytes
ends_invalid : (links : List (Option Link)) (interface count : ℕ) → ((l : Option Link) (s : List ℕ) → IsPacketBlock (little links) (packet_block interface count 72) l s → ⊥) → HasBlock 3 2 (little links) (packet_block interface count 72) → ⊥
unfolding number
ends_invalid links interface count none =
    let block : List ℕ = packet_block interface count 72 in
    let other : number orders.Big 4 0 block ≢ section_type = (λ e. omega (arith, e)) in
    none_valid 3 2 (little links) block (no_section block other) block [] refl (packet_whole interface count) (no_packet (little links) block other refl none)

-- the text begins with a section and an Ethernet interface, and has those items
as_capture : (rest : List ℕ) (found : List Block) (cut : Bool) → AreBlocks 3 2 (little (ethernet ∷ [])) rest found cut → IsCapture 3 2 (with_interface rest) (record { items = items_of found; cut = cut })
as_capture rest found cut h =
    inr (inr (orders.Little, interface_block 1 ++ rest, blocks.Interface ethernet ∷ found, (section_block, refl, section_is), (rest, (interface_block 1, refl, ethernet_is), h), refl))

-- a packet of the first interface, and more blocks
first_packet : (links : List (Option Link)) (rest : List ℕ) (more : List Block) (cut : Bool) → AreBlocks 3 2 (little (ethernet ∷ links)) rest more cut → AreBlocks 3 2 (little (ethernet ∷ links)) (packet_block 0 38 72 ++ rest) (blocks.Packet found ∷ more) cut
unfolding number ip_item frame_item
first_packet links rest more cut h = (rest, (packet_block 0 38 72, refl, (ethernet, frame (datagram 0), packet_is ethernet links, refl)), h)

last_lost : HasBlock 3 2 (little (ethernet ∷ [])) (take 68 (packet_block 0 38 72)) → ⊥
unfolding number
last_lost =
    let bytes : List ℕ = take 68 (packet_block 0 38 72) in
    none_whole 3 2 (little (ethernet ∷ [])) bytes (no_section bytes (λ e. omega (arith, e))) (λ whole rest parts is. omega (arith, (is_there orders.Little bytes whole rest parts is).1))

two_lengths : HasBlock 3 2 (little (ethernet ∷ [])) (packet_block 0 38 76) → ⊥
unfolding number
two_lengths =
    let bytes : List ℕ = packet_block 0 38 76 in
    none_whole 3 2 (little (ethernet ∷ [])) bytes (no_section bytes (λ e. omega (arith, e))) (λ whole rest parts is.
    let same : IsWhole orders.Little bytes = subst (λ (b : List ℕ). IsWhole orders.Little b) (sym (whole_is orders.Little bytes whole rest parts is)) is in
    omega (arith, same.back))

pub rows : RowsHold
unfolding number ip_item frame_item
rows = record {
  records = records_row;
  packet = as_capture (packet_block 0 38 72) (blocks.Packet found ∷ []) false (first_packet [] [] [] false refl);
  last_lost = as_capture (take 68 (packet_block 0 38 72)) [] true ((λ e. omega (arith, ap length e)), last_lost);
  link_types = as_capture (simple_block ++ (interface_block 113 ++ (packet_block 0 38 72 ++ packet_block 1 38 72))) (blocks.Other ∷ blocks.Interface None ∷ blocks.Packet found ∷ blocks.Packet items.Skip ∷ []) false (
    interface_block 113 ++ (packet_block 0 38 72 ++ packet_block 1 38 72),
    (simple_block, refl, simple_is),
    (
      packet_block 0 38 72 ++ packet_block 1 38 72,
      (interface_block 113, refl, cooked_is),
      first_packet (None ∷ []) (packet_block 1 38 72) (blocks.Packet items.Skip ∷ []) false
          ([], (packet_block 1 38 72, refl, (None, frame (datagram 0), second_packet_is, refl)), refl),
    ),
  );
  orders = as_capture (packet_block 0 38 72 ++ (big_section_block ++ (big_interface_block ++ big_packet_block))) (blocks.Packet found ∷ blocks.Section orders.Big ∷ blocks.Interface ethernet ∷ blocks.Packet found ∷ []) false
      (first_packet [] (big_section_block ++ (big_interface_block ++ big_packet_block)) (blocks.Section orders.Big ∷ blocks.Interface ethernet ∷ blocks.Packet found ∷ []) false (
        big_interface_block ++ big_packet_block,
        (big_section_block, refl, big_section_is),
        (
          big_packet_block,
          (big_interface_block, refl, big_ethernet_is),
          ([], (big_packet_block, refl, (ethernet, frame (datagram 0), big_packet_is, refl)), refl),
        ),
      ));
  sections = as_capture (packet_block 0 38 72 ++ (section_block ++ packet_block 0 38 72)) (blocks.Packet found ∷ blocks.Section orders.Little ∷ []) true
      (first_packet [] (section_block ++ packet_block 0 38 72) (blocks.Section orders.Little ∷ []) true
      (packet_block 0 38 72, (section_block, refl, section_is), ((λ e. omega (arith, ap length e)), ends_invalid [] 0 38 (λ l s h. let e = h.interface in cc))));
  no_interface = as_capture (packet_block 1 38 72) [] true ((λ e. omega (arith, ap length e)), ends_invalid (ethernet ∷ []) 1 38 (λ l s h. let e = h.interface in cc));
  lengths = as_capture (packet_block 0 38 76) [] true ((λ e. omega (arith, ap length e)), two_lengths);
  room = as_capture (packet_block 0 40 72) (blocks.Packet found ∷ []) false ([], (packet_block 0 40 72, refl, (ethernet, take 40 (frame (datagram 0) ++ 0 ∷ 0 ∷ []), wide_packet_is, refl)), refl);
  no_room = as_capture (packet_block 0 41 72) [] true ((λ e. omega (arith, ap length e)), ends_invalid (ethernet ∷ []) 0 41 (λ l s h. omega (arith, h.room)));
}
