-- Which card of a sound list is best, and what the list's lookup makes of it.
use Rattle.std.proofs.Common.{◌≡◌, ℕ, zero, suc, ◌≤◌, Bool, true, false, ◌&&◌, ◌==◌, List, [], map, find, Option, Some, None, refl, sym, ap, ◌∙◌, inl, inr, arith, nat_lt}
use Rattle.std.specs.Prelude.{option_and_then}
use Rattle.std.specs.Option.{option_map_or}
use Rattle.std.proofs.lemmas.Bool.{and_parts, and_from, lt-ltb, eq-eqb}
use Rattle.list_words.proofs.EachLemmas.{each_map}
use Rattle.sock_card.specs.declared.card.Card.{Card}
use Rattle.sock_card.specs.declared.card.Packet.{Packet}
use Rattle.sock_card.specs.Rank.{rank}
use Rattle.chain_book.specs.Homes.{packet_hash}
use Rattle.flat_list.specs.Flat.{Flat}
use Rattle.flat_list.specs.Groups.{Group, has_member}
use Rattle.flat_list.specs.Look.{look, best_rank, is_best, member_of, chosen, group_of}
use Rattle.flat_list.specs.Sound.{IsSound, are_together}
use Rattle.flat_list.proofs.OneBest.{one_or_one_group}
use Rattle.list_words.proofs.Items.{In, in_each, pairs_in, finds, finds_none, any_item, fold_least, fold_most}
use Rattle.list_words.proofs.MapLemmas.{in_map}
use Rattle.flat_list.proofs.CardsOf.{of_socket}
use Rattle.race_run.proofs.CardsOf.{cards, only_group}

same_number : (a b : ℕ) → a ≤ b → b ≤ a → a ≡ b
same_number a b h g = omega arith

not_below : (a : ℕ) → a ≤ 0 → nat_lt 0 a ≡ false
not_below zero h = refl
not_below (suc a) h = absurd (omega arith)

-- the group of both names
record BothIn (groups : List Group) (a b : ℕ) : Type 0 where
  group : Group
  first : group_of a groups ≡ Some group
  second : group_of b groups ≡ Some group

module _ (flat : Flat) (sound : IsSound flat) where
  abbrev all : List Card
  all = cards flat sound

  pub named_group : (c : Card) (g : Group) → In c all → In g flat.groups → has_member c.name g ≡ true → group_of c.name flat.groups ≡ Some g
  named_group c g i j h =
      let o = of_socket flat.groups flat.sockets c i in
      ap (λ (n : ℕ). group_of n flat.groups) (sym o.says.name)
      ∙ only_group flat sound o.socket g o.within j (ap (λ (n : ℕ). has_member n g) o.says.name ∙ h)

  both_in : (a b : Card) → In a all → In b all → are_together flat.groups a.name b.name ≡ true → BothIn flat.groups a.name b.name
  both_in a b i j h =
      let some = any_item (λ g. has_member a.name g && has_member b.name g) flat.groups h in
      let parts = and_parts (has_member a.name some.item) (has_member b.name some.item) some.passes in
      record { group = some.item; first = named_group a some.item i some.within parts.0; second = named_group b some.item j some.within parts.1 }

  member_by : (hash : ℕ) (a b : Card) → BothIn flat.groups a.name b.name → member_of hash all flat.groups a ≡ member_of hash all flat.groups b
  member_by hash a b both =
      let found : Group → Option Card = λ g. find (λ (c : Card). c.name == chosen hash g) all in
      ap (λ o. option_map_or found o (Some a)) both.first ∙ sym (ap (λ o. option_map_or found o (Some b)) both.second)

  module _ (packet : Packet) where
    -- a card that none matches better is best
    pub top : (c : Card) → In c all → 1 ≤ rank c packet → ((d : Card) → In d all → rank d packet ≤ rank c packet) → is_best packet all c ≡ true
    top c i some above =
        let ranks : Card → ℕ = λ d. rank d packet in
        let least : rank c packet ≤ best_rank packet all = fold_least (map ranks all) (rank c packet) (in_map ranks c all i) in
        let most : best_rank packet all ≤ rank c packet = fold_most (map ranks all) (rank c packet) (each_map (λ n. n ≤ rank c packet) ranks all (in_each (λ d. rank d packet ≤ rank c packet) all above)) in
        and_from (nat_lt 0 (rank c packet)) (rank c packet == best_rank packet all) (lt-ltb 0 (rank c packet) some)
        (eq-eqb (rank c packet) (best_rank packet all) (same_number (rank c packet) (best_rank packet all) least most))

    -- the lookup goes by any best card
    pub look_best : (seed : ℕ) (c : Card) → In c all → is_best packet all c ≡ true → look packet seed flat.sockets flat.groups ≡ member_of (packet_hash packet seed) all flat.groups c
    look_best seed c i h =
        let hash = packet_hash packet seed in
        let f = finds (is_best packet all) c all i h in
        ap (option_and_then (member_of hash all flat.groups)) f.is
        ∙ elim (pairs_in (λ a b. is_best packet all a ≡ true → is_best packet all b ≡ true → are_together flat.groups a.name b.name ≡ true) f.item c all (one_or_one_group flat packet sound) f.within i) [
          | inl e ↦ ap (member_of hash all flat.groups) e
          | inr (inl r) ↦ member_by hash f.item c (both_in f.item c f.within i (r f.passes h))
          | inr (inr r) ↦ sym (member_by hash c f.item (both_in c f.item i f.within (r h f.passes)))
        ]

    -- a best card that is in no group is what the packet finds
    pub look_alone : (seed : ℕ) (c : Card) → In c all → is_best packet all c ≡ true → group_of c.name flat.groups ≡ None → look packet seed flat.sockets flat.groups ≡ Some c
    look_alone seed c i h alone =
        look_best seed c i h
        ∙ ap (λ o. option_map_or (λ (g : Group). find (λ (d : Card). d.name == chosen (packet_hash packet seed) g) all) o (Some c)) alone

    -- where none matches, none is found
    pub look_none : (seed : ℕ) → ((d : Card) → In d all → rank d packet ≤ 0) → look packet seed flat.sockets flat.groups ≡ None
    look_none seed h =
        ap (option_and_then (member_of (packet_hash packet seed) all flat.groups))
        (finds_none (is_best packet all) all
        (in_each (λ d. is_best packet all d ≡ false) all (λ d i. ap (λ (b : Bool). b && (rank d packet == best_rank packet all)) (not_below (rank d packet) (h d i)))))
