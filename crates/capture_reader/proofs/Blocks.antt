-- Bytes are blocks of one list, and end in one way.
use Rattle.std.proofs.Common.{◌≡◌, ◌≢◌, ℕ, zero, suc, ◌+◌, ◌<◌, ◌≤◌, ◌⊎◌, Option, Some, None, List, [], ◌∷◌, ◌++◌, length, take, drop, slice_get, Bool, true, false, not, ◌==◌, refl, ap, sym, ◌∙◌, subst, arith, inl, inr, length-append}
use Rattle.std.proofs.lemmas.Bool.{cases_lt, cases_eq, eqb-true}
use Rattle.capture_reader.specs.declared.number.Order.{Order}
use Rattle.capture_reader.specs.declared.number.Order.TheVariants as orders
use Rattle.capture_reader.specs.declared.header.Link.{Link}
use Rattle.capture_reader.specs.declared.header.Link.TheVariants as links
use Rattle.capture_reader.specs.declared.packet.Item.{Item}
use Rattle.capture_reader.specs.declared.block.Block.{Block}
use Rattle.capture_reader.specs.declared.block.Block.TheVariants as blocks
use Rattle.capture_reader.specs.Numbers.{number, AreBytes}
use Rattle.capture_reader.specs.Header.{link_number, IsLinkNumber, IsWhole, section_type, BeginsWithSection}
use Rattle.capture_reader.specs.Sections.{BlockSection}
use Rattle.capture_reader.specs.Blocks.{IsInterfaceBlock, IsPacketBlock, IsOtherBlock, interface_type, packet_type, stored_count, padded, item_on, IsBlock, after, BeginsWithBlock, HasBlock, EndsBlocks, AreBlocks}
use Rattle.capture_reader.proofs.Heads.{one_link}
use Rattle.capture_reader.proofs.Wholes.{number_in, fits_rest, one_whole, some_whole}
use Rattle.capture_reader.proofs.Sections.{front, type_reads, one_section, some_section}

-- a number is that of one link type at most, or of none
one_link_type : (n : ℕ) (a b : Option Link) → IsLinkNumber a n → IsLinkNumber b n → a ≡ b
one_link_type n None None h k = refl
one_link_type n None (Some b) h k = absurd (h b k)
one_link_type n (Some a) None h k = absurd (k a h)
one_link_type n (Some a) (Some b) h k = ap (λ (l : Link). Some l) (one_link a b (sym h ∙ k))

-- what the type of a block is, by what the block says
KindIs : Order → List ℕ → Block → Type 0
KindIs order bytes (blocks.Section o) = number orders.Big 4 0 bytes ≡ section_type
KindIs order bytes (blocks.Interface link) = number order 4 0 bytes ≡ interface_type
KindIs order bytes (blocks.Packet item) = number order 4 0 bytes ≡ packet_type
KindIs order bytes blocks.Other =
    (number orders.Big 4 0 bytes ≢ section_type) × (number order 4 0 bytes ≢ interface_type) × (number order 4 0 bytes ≢ packet_type)

module _ (dev net : ℕ) (section : BlockSection) where
  -- an interface is of one link type
  one_interface : (block : List ℕ) (a b : Option Link) → IsInterfaceBlock section.order block a → IsInterfaceBlock section.order block b → a ≡ b
  one_interface block a b h k = one_link_type (number section.order 2 8 block) a b h.link_type k.link_type

  -- a block stores one packet
  one_packet : (block : List ℕ) (a b : Item) → IsBlock dev net section block (blocks.Packet a) → IsBlock dev net section block (blocks.Packet b) → a ≡ b
  one_packet block a b h k =
      let link : h.0 ≡ k.0 = (let e = sym h.2.interface ∙ k.2.interface in cc) in
      let stored : h.1 ≡ k.1 = h.2.bytes ∙ sym k.2.bytes in
      h.3 ∙ ap (λ (l : Option Link). item_on l dev net h.1) link ∙ ap (item_on k.0 dev net) stored ∙ sym k.3

  -- the type of the block that bytes begin with is as what it says
  kind_is : (bytes : List ℕ) (b : Block) (rest : List ℕ) → BeginsWithBlock dev net section bytes b rest → KindIs section.order bytes b
  unfolding KindIs
  kind_is bytes (blocks.Section o) rest h = (front bytes o rest h).kind
  kind_is bytes (blocks.Interface link) rest h =
      number_in section.order 4 0 bytes h.0 rest h.1 (omega (arith, h.2.least)) ∙ h.2.kind
  kind_is bytes (blocks.Packet item) rest h =
      number_in section.order 4 0 bytes h.0 rest h.1 (omega (arith, h.2.2.least)) ∙ h.2.2.kind
  kind_is bytes blocks.Other rest h =
      let big = number_in orders.Big 4 0 bytes h.0 rest h.1 (omega (arith, h.2.whole.least)) in
      let own = number_in section.order 4 0 bytes h.0 rest h.1 (omega (arith, h.2.whole.least)) in
      (λ e. h.2.no_section (sym big ∙ e), λ e. h.2.no_interface (sym own ∙ e), λ e. h.2.no_packet (sym own ∙ e))

  -- bytes begin with one block at most
  pub one_block : (bytes : List ℕ) (a b : Block) (r q : List ℕ) → AreBytes bytes → BeginsWithBlock dev net section bytes a r → BeginsWithBlock dev net section bytes b q → (a ≡ b) × (r ≡ q)
  unfolding KindIs
  one_block bytes (blocks.Section o) (blocks.Section p) r q fits h k =
      let same = one_section bytes o p r q fits h k in
      (ap (λ (x : Order). blocks.Section x) same.0, same.1)
  one_block bytes (blocks.Section o) (blocks.Interface l) r q fits h k =
      absurd (omega (arith, type_reads bytes section.order fits (kind_is bytes (blocks.Section o) r h), kind_is bytes (blocks.Interface l) q k))
  one_block bytes (blocks.Section o) (blocks.Packet i) r q fits h k =
      absurd (omega (arith, type_reads bytes section.order fits (kind_is bytes (blocks.Section o) r h), kind_is bytes (blocks.Packet i) q k))
  one_block bytes (blocks.Section o) blocks.Other r q fits h k =
      absurd ((kind_is bytes blocks.Other q k).0 (kind_is bytes (blocks.Section o) r h))
  one_block bytes (blocks.Interface l) (blocks.Section o) r q fits h k =
      absurd (omega (arith, type_reads bytes section.order fits (kind_is bytes (blocks.Section o) q k), kind_is bytes (blocks.Interface l) r h))
  one_block bytes (blocks.Interface l) (blocks.Interface m) r q fits h k =
      let same = one_whole section.order bytes h.0 r k.0 q h.1 h.2.whole k.1 k.2.whole in
      let again = subst (λ (b : List ℕ). IsInterfaceBlock section.order b l) same.0 h.2 in
      (ap (λ (x : Option Link). blocks.Interface x) (one_interface k.0 l m again k.2), same.1)
  one_block bytes (blocks.Interface l) (blocks.Packet i) r q fits h k =
      absurd (omega (arith, kind_is bytes (blocks.Interface l) r h, kind_is bytes (blocks.Packet i) q k))
  one_block bytes (blocks.Interface l) blocks.Other r q fits h k =
      absurd ((kind_is bytes blocks.Other q k).1 (kind_is bytes (blocks.Interface l) r h))
  one_block bytes (blocks.Packet i) (blocks.Section o) r q fits h k =
      absurd (omega (arith, type_reads bytes section.order fits (kind_is bytes (blocks.Section o) q k), kind_is bytes (blocks.Packet i) r h))
  one_block bytes (blocks.Packet i) (blocks.Interface l) r q fits h k =
      absurd (omega (arith, kind_is bytes (blocks.Interface l) q k, kind_is bytes (blocks.Packet i) r h))
  one_block bytes (blocks.Packet i) (blocks.Packet j) r q fits h k =
      let same = one_whole section.order bytes h.0 r k.0 q h.1 h.2.2.whole k.1 k.2.2.whole in
      let again = subst (λ (b : List ℕ). IsBlock dev net section b (blocks.Packet i)) same.0 h.2 in
      (ap (λ (x : Item). blocks.Packet x) (one_packet k.0 i j again k.2), same.1)
  one_block bytes (blocks.Packet i) blocks.Other r q fits h k =
      absurd ((kind_is bytes blocks.Other q k).2 (kind_is bytes (blocks.Packet i) r h))
  one_block bytes blocks.Other (blocks.Section o) r q fits h k =
      absurd ((kind_is bytes blocks.Other r h).0 (kind_is bytes (blocks.Section o) q k))
  one_block bytes blocks.Other (blocks.Interface l) r q fits h k =
      absurd ((kind_is bytes blocks.Other r h).1 (kind_is bytes (blocks.Interface l) q k))
  one_block bytes blocks.Other (blocks.Packet i) r q fits h k =
      absurd ((kind_is bytes blocks.Other r h).2 (kind_is bytes (blocks.Packet i) q k))
  one_block bytes blocks.Other blocks.Other r q fits h k =
      (refl, (one_whole section.order bytes h.0 r k.0 q h.1 h.2.whole k.1 k.2.whole).1)

  -- no block stands in no bytes
  pub none_in_nothing : (bytes : List ℕ) → bytes ≡ [] → HasBlock dev net section bytes → ⊥
  none_in_nothing bytes e (blocks.Section o, rest, h) = omega (arith, ap length e, (front bytes o rest h).least)
  none_in_nothing bytes e (blocks.Interface l, rest, h) = omega (arith, ap length e, ap length h.1 ∙ length-append h.0 rest, h.2.least)
  none_in_nothing bytes e (blocks.Packet i, rest, h) = omega (arith, ap length e, ap length h.1 ∙ length-append h.0 rest, h.2.2.least)
  none_in_nothing bytes e (blocks.Other, rest, h) = omega (arith, ap length e, ap length h.1 ∙ length-append h.0 rest, h.2.whole.least)

  -- a block has bytes
  pub is_shorter : (bytes : List ℕ) (b : Block) (rest : List ℕ) → BeginsWithBlock dev net section bytes b rest → length rest < length bytes
  is_shorter bytes (blocks.Section o) rest h = omega (arith, ap length h.1 ∙ length-append h.0 rest, h.2.least)
  is_shorter bytes (blocks.Interface l) rest h = omega (arith, ap length h.1 ∙ length-append h.0 rest, h.2.least)
  is_shorter bytes (blocks.Packet i) rest h = omega (arith, ap length h.1 ∙ length-append h.0 rest, h.2.2.least)
  is_shorter bytes blocks.Other rest h = omega (arith, ap length h.1 ∙ length-append h.0 rest, h.2.whole.least)

  -- where the bytes end there is no block
  no_block : (bytes : List ℕ) (cut : Bool) → EndsBlocks dev net section bytes cut → HasBlock dev net section bytes → ⊥
  no_block bytes false e h = none_in_nothing bytes e h
  no_block bytes true e h = e.1 h

  -- bytes end in one way
  one_end : (bytes : List ℕ) (a b : Bool) → EndsBlocks dev net section bytes a → EndsBlocks dev net section bytes b → a ≡ b
  one_end bytes false false h k = refl
  one_end bytes false true h k = absurd (k.0 h)
  one_end bytes true false h k = absurd (h.0 k)
  one_end bytes true true h k = refl

  -- how bytes without a valid block end, by whether any are left
  pub ends_as : (bytes : List ℕ) (empty : Bool) → empty ≡ (length bytes == 0) → (HasBlock dev net section bytes → ⊥) → EndsBlocks dev net section bytes (not empty)
  ends_as [] true e none = refl
  ends_as [] false e none = cc
  ends_as (b ∷ bytes) true e none = absurd (omega (arith, eqb-true (length (b ∷ bytes)) 0 (sym e)))
  ends_as (b ∷ bytes) false e none = ((λ f. omega (arith, ap length f)), none)

-- bytes are blocks of one list, and are cut or not
pub one_reading : (dev net : ℕ) (section : BlockSection) (bytes : List ℕ) (xs ys : List Block) (a b : Bool) → AreBytes bytes → AreBlocks dev net section bytes xs a → AreBlocks dev net section bytes ys b → (xs ≡ ys) × (a ≡ b)
one_reading dev net section bytes [] [] a b fits h k = (refl, one_end dev net section bytes a b h k)
one_reading dev net section bytes [] (y ∷ ys) a b fits h k = absurd (no_block dev net section bytes a h (y, k.0, k.1))
one_reading dev net section bytes (x ∷ xs) [] a b fits h k = absurd (no_block dev net section bytes b k (x, h.0, h.1))
one_reading dev net section bytes (x ∷ xs) (y ∷ ys) a b fits h k =
    let same = one_block dev net section bytes x y h.0 k.0 fits h.1 k.1 in
    let moved = subst (λ (z : Block). AreBlocks dev net (after section z) k.0 ys b) (sym same.0) k.2 in
    let again = subst (λ (r : List ℕ). AreBlocks dev net (after section x) r ys b) (sym same.1) moved in
    let more = one_reading dev net (after section x) h.0 xs ys a b (fits_rest bytes h.1.0 h.0 h.1.1 fits) h.2 again in
    let first = same.0 in
    let rest = more.0 in
    (cc, more.1)

-- each number is that of a link type, or of none that is read
some_link : (n : ℕ) → (link : Option Link) × IsLinkNumber link n
some_link n =
    elim (cases_eq n 1) [
      | inl e ↦ (Some links.Ethernet, e)
      | inr a ↦ elim (cases_eq n 101) [
        | inl e ↦ (Some links.Raw, e)
        | inr b ↦ elim (cases_eq n 228) [
          | inl e ↦ (Some links.Ipv4, e)
          | inr c ↦ (None, λ link. elim link as (λ (l : Link). n ≢ link_number l) [ links.Ethernet ↦ a | links.Raw ↦ b | links.Ipv4 ↦ c ])
        ]
      ]
    ]

-- an optional value is there, or it isn't
there_or_not : {A : Type 0} (o : Option A) → ((x : A) × (o ≡ Some x)) ⊎ (o ≡ None)
there_or_not None = inr refl
there_or_not (Some x) = inl (x, refl)

module _ (section : BlockSection) (block : List ℕ) (whole : IsWhole section.order block) where
  -- whether a whole block describes an interface
  is_interface : ((b : Option Link) × IsInterfaceBlock section.order block b) ⊎ ((b : Option Link) → IsInterfaceBlock section.order block b → ⊥)
  is_interface =
      elim (cases_lt (length block) 20) [
        | inl few ↦ inr (λ l h. omega (arith, h.least))
        | inr least ↦ elim (cases_eq (number section.order 4 0 block) interface_type) [
          | inr other ↦ inr (λ l h. other h.kind)
          | inl kind ↦
              let link = some_link (number section.order 2 8 block) in
              inl (link.0, record { whole = whole; least = least; kind = kind; link_type = link.1 })
        ]
      ]

  -- whether a whole block stores a packet
  is_packet : ((l : Option Link) × (s : List ℕ) × IsPacketBlock section block l s) ⊎ ((l : Option Link) (s : List ℕ) → IsPacketBlock section block l s → ⊥)
  is_packet =
      let count : ℕ = stored_count section.order block in
      elim (cases_lt (length block) (32 + padded count)) [
        | inl few ↦ inr (λ l s h. omega (arith, h.room))
        | inr room ↦ elim (cases_eq (number section.order 4 0 block) packet_type) [
          | inr other ↦ inr (λ l s h. other h.kind)
          | inl kind ↦ elim (there_or_not (slice_get section.links (number section.order 4 8 block))) [
            | inr none ↦ inr (λ l s h. let e = sym none ∙ h.interface in cc)
            | inl link ↦ inl (link.0, take count (drop 28 block), record { whole = whole; least = omega arith; kind = kind; interface = link.1; room = room; bytes = refl })
          ]
        ]
      ]

  -- whether a whole block is of another type
  is_other : IsOtherBlock section.order block ⊎ (IsOtherBlock section.order block → ⊥)
  is_other =
      elim (cases_eq (number orders.Big 4 0 block) section_type) [
        | inl e ↦ inr (λ h. h.no_section e)
        | inr a ↦ elim (cases_eq (number section.order 4 0 block) interface_type) [
          | inl e ↦ inr (λ h. h.no_interface e)
          | inr b ↦ elim (cases_eq (number section.order 4 0 block) packet_type) [
            | inl e ↦ inr (λ h. h.no_packet e)
            | inr c ↦ inl (record { whole = whole; no_section = a; no_interface = b; no_packet = c })
          ]
        ]
      ]

module _ (dev net : ℕ) (section : BlockSection) (bytes : List ℕ) (no_section : (o : Order) (rest : List ℕ) → BeginsWithSection bytes o rest → ⊥) where
  -- bytes that begin with no section, and with no whole block, begin with no valid one
  pub none_whole : ((whole rest : List ℕ) → bytes ≡ whole ++ rest → IsWhole section.order whole → ⊥) → HasBlock dev net section bytes → ⊥
  none_whole none (blocks.Section o, rest, h) = no_section o rest h
  none_whole none (blocks.Interface l, rest, h) = none h.0 rest h.1 h.2.whole
  none_whole none (blocks.Packet i, rest, h) = none h.0 rest h.1 h.2.2.whole
  none_whole none (blocks.Other, rest, h) = none h.0 rest h.1 h.2.whole

  -- nor where the whole block isn't valid
  pub none_valid : (whole rest : List ℕ) → bytes ≡ whole ++ rest → IsWhole section.order whole → ((b : Block) → IsBlock dev net section whole b → ⊥) → HasBlock dev net section bytes → ⊥
  none_valid whole rest parts is none (blocks.Section o, r, h) = no_section o r h
  none_valid whole rest parts is none (blocks.Interface l, r, h) =
      let same = (one_whole section.order bytes h.0 r whole rest h.1 h.2.whole parts is).0 in
      none (blocks.Interface l) (subst (λ (b : List ℕ). IsBlock dev net section b (blocks.Interface l)) same h.2)
  none_valid whole rest parts is none (blocks.Packet i, r, h) =
      let same = (one_whole section.order bytes h.0 r whole rest h.1 h.2.2.whole parts is).0 in
      none (blocks.Packet i) (subst (λ (b : List ℕ). IsBlock dev net section b (blocks.Packet i)) same h.2)
  none_valid whole rest parts is none (blocks.Other, r, h) =
      let same = (one_whole section.order bytes h.0 r whole rest h.1 h.2.whole parts is).0 in
      none blocks.Other (subst (λ (b : List ℕ). IsBlock dev net section b blocks.Other) same h.2)

  -- nor where they have the type of a section's block
  pub none_of_type : AreBytes bytes → number orders.Big 4 0 bytes ≡ section_type → HasBlock dev net section bytes → ⊥
  unfolding KindIs
  none_of_type fits kind (blocks.Section o, r, h) = no_section o r h
  none_of_type fits kind (blocks.Interface l, r, h) =
      omega (arith, type_reads bytes section.order fits kind, kind_is dev net section bytes (blocks.Interface l) r h)
  none_of_type fits kind (blocks.Packet i, r, h) =
      omega (arith, type_reads bytes section.order fits kind, kind_is dev net section bytes (blocks.Packet i) r h)
  none_of_type fits kind (blocks.Other, r, h) = (kind_is dev net section bytes blocks.Other r h).0 kind

  -- what a whole block says that is valid, or that it isn't
  some_said : (whole rest : List ℕ) → bytes ≡ whole ++ rest → IsWhole section.order whole → ((b : Block) × IsBlock dev net section whole b) ⊎ ((b : Block) → IsBlock dev net section whole b → ⊥)
  some_said whole rest parts is =
      elim (is_interface section whole is) [
        | inl i ↦ inl (blocks.Interface i.0, i.1)
        | inr no_interface ↦ elim (is_packet section whole is) [
          | inl p ↦ inl (blocks.Packet (item_on p.0 dev net p.1), (p.0, p.1, p.2, refl))
          | inr no_packet ↦ elim (is_other section whole is) [
            | inl o ↦ inl (blocks.Other, o)
            | inr no_other ↦ inr (λ b. elim b as (λ (x : Block). IsBlock dev net section whole x → ⊥) [
              | blocks.Section o ↦ λ h. no_section o rest (whole, parts, h)
              | blocks.Interface l ↦ no_interface l
              | blocks.Packet i ↦ λ h. no_packet h.0 h.1 h.2
              | blocks.Other ↦ no_other
            ])
          ]
        ]
      ]

  -- bytes that begin with no section begin with another valid block, or with none
  some_inner : HasBlock dev net section bytes ⊎ (HasBlock dev net section bytes → ⊥)
  some_inner =
      elim (some_whole section.order bytes) [
        | inr none ↦ inr (none_whole none)
        | inl w ↦ elim (some_said w.0 w.1 w.2 w.3) [
          | inl said ↦ inl (said.0, w.1, (w.0, w.2, said.1))
          | inr none ↦ inr (none_valid w.0 w.1 w.2 w.3 none)
        ]
      ]

-- bytes begin with a valid block, or with none
some_block : (dev net : ℕ) (section : BlockSection) (bytes : List ℕ) → HasBlock dev net section bytes ⊎ (HasBlock dev net section bytes → ⊥)
some_block dev net section bytes =
    elim (some_section bytes) [
      | inl s ↦ inl (blocks.Section s.0, s.1, s.2)
      | inr none ↦ some_inner dev net section bytes none
    ]

-- bytes of which so many are left are some blocks, and an end
some_reading : (fuel : ℕ) (dev net : ℕ) (section : BlockSection) (bytes : List ℕ) → length bytes ≤ fuel → (blocks : List Block) × ((cut : Bool) × AreBlocks dev net section bytes blocks cut)
some_reading fuel dev net section [] h = ([], (false, refl))
some_reading zero dev net section (b ∷ bytes) h = absurd (omega arith)
some_reading (suc fuel) dev net section (b ∷ bytes) h =
    let all : List ℕ = b ∷ bytes in
    elim (some_block dev net section all) [
      | inr none ↦ ([], (true, ((λ e. omega (arith, ap length e)), none)))
      | inl found ↦
          let less = is_shorter dev net section all found.0 found.1 found.2 in
          let more = some_reading fuel dev net (after section found.0) found.1 (omega arith) in
          (found.0 ∷ more.0, (more.1.0, (found.1, found.2, more.1.1)))
    ]

-- bytes are some blocks, and an end
pub some_blocks : (dev net : ℕ) (section : BlockSection) (bytes : List ℕ) → (blocks : List Block) × ((cut : Bool) × AreBlocks dev net section bytes blocks cut)
some_blocks dev net section bytes = some_reading (length bytes) dev net section bytes (omega arith)
