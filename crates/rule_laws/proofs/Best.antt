-- A packet finds a best card of a sound list, and none only where no card matches.
use Rattle.std.proofs.Common.{◌≡◌, ℕ, ◌≤◌, Bool, true, false, ◌==◌, nat_lt, if◌then◌else◌, List, [], ◌∷◌, map, find, Option, Some, None, refl, sym, ap, ◌∙◌, subst, ◌⊎◌, inl, inr, arith}
use Rattle.std.specs.Prelude.{option_and_then, MatchOption}
use Rattle.std.specs.Option.{option_map_or}
use Rattle.std.proofs.lemmas.Bool.{and_parts, and_from, lt-ltb, ltb-true, eq-eqb, eqb-true, both_ways, cases_lt}
use Rattle.list_words.proofs.EachLemmas.{found_passes}
use Rattle.sock_card.specs.declared.card.Card.{Card}
use Rattle.sock_card.specs.declared.card.Packet.{Packet}
use Rattle.sock_card.specs.Rank.{rank}
use Rattle.chain_book.specs.Homes.{packet_hash}
use Rattle.flat_list.specs.Flat.{Flat}
use Rattle.flat_list.specs.Groups.{Group, has_member}
use Rattle.flat_list.specs.Look.{best_rank, is_best, member_of, chosen, group_of, cards_of}
use Rattle.flat_list.specs.Sound.{IsSound}
use Rattle.rule_laws.specs.Finds.{IsBestOf, NoneMatches, FindsTheBest}
use Rattle.list_words.proofs.Items.{In, in_each, found_in, contains_in, fold_least, fold_one}
use Rattle.list_words.proofs.MapLemmas.{in_map}
use Rattle.chain_book.proofs.HashFits.{hash_fits}
use Rattle.rule_laws.proofs.Cards.{chosen_card}

from_later : {A B : Type 0} (f : A → B) (y : B) (z : A) (xs : List A) → ((x : A) × In x xs × (f x ≡ y)) → (x : A) × In x (z ∷ xs) × (f x ≡ y)
from_later f y z xs (x, i, e) = (x, inr i, e)

-- an item of a list that was mapped comes of an item
from_map : {A B : Type 0} (f : A → B) (y : B) (xs : List A) → In y (map f xs) → (x : A) × In x xs × (f x ≡ y)
from_map f y [] i = absurd i
from_map f y (x ∷ xs) (inl e) = (x, inl refl, e)
from_map f y (x ∷ xs) (inr i) = from_later f y x xs (from_map f y xs i)

module _ (packet : Packet) (cards : List Card) where
  abbrev ranks : Card → ℕ
  ranks card = rank card packet

  below_best : (card : Card) → In card cards → rank card packet ≤ best_rank packet cards
  below_best card i = fold_least (map ranks cards) (rank card packet) (in_map ranks card cards i)

  none_at : (p : Card → Bool) (x : Card) (xs : List Card) (b : Bool) → p x ≡ b → (if b then Some x else find p xs) ≡ None → (b ≡ false) × (find p xs ≡ None)
  none_at p x xs true e h = absurd (cc)
  none_at p x xs false e h = (refl, h)

  none_passes : (p : Card → Bool) (xs : List Card) → find p xs ≡ None → (card : Card) → In card xs → p card ≡ false
  none_passes p [] h card i = absurd i
  none_passes p (x ∷ xs) h card (inl e) = ap p (sym e) ∙ (none_at p x xs (p x) refl h).0
  none_passes p (x ∷ xs) h card (inr i) = none_passes p xs (none_at p x xs (p x) refl h).1 card i

  -- a card of the greatest rank passes, if that is above 0
  not_above : (card : Card) → rank card packet ≡ best_rank packet cards → is_best packet cards card ≡ false → best_rank packet cards ≡ 0
  not_above card e h = elim (cases_lt 0 (best_rank packet cards)) [
    | inl l ↦ absurd (both_ways (is_best packet cards card) h (and_from (nat_lt 0 (rank card packet)) (rank card packet == best_rank packet cards)
        (lt-ltb 0 (rank card packet) (omega (arith, e, l))) (eq-eqb (rank card packet) (best_rank packet cards) e)))
    | inr l ↦ omega (arith, l)
  ]

  -- the greatest rank is 0, or a card's
  no_best : find (is_best packet cards) cards ≡ None → (best_rank packet cards ≡ 0) ⊎ In (best_rank packet cards) (map ranks cards) → best_rank packet cards ≡ 0
  no_best h (inl e) = e
  no_best h (inr i) =
      let m = from_map ranks (best_rank packet cards) cards i in
      not_above m.0 m.2 (none_passes (is_best packet cards) cards h m.0 m.1)

  none_matches : find (is_best packet cards) cards ≡ None → NoneMatches packet cards
  none_matches h =
      let least = no_best h (fold_one (map ranks cards) 0) in
      in_each (λ (card : Card). rank card packet ≡ 0) cards (λ card i. omega (arith, below_best card i, least))

  -- a card of the greatest rank is best
  best_of : (card : Card) → In card cards → 1 ≤ rank card packet → best_rank packet cards ≤ rank card packet → IsBestOf packet cards card
  best_of card i some most = record {
    one = contains_in card cards i;
    matches = some;
    best = in_each (λ (other : Card). rank other packet ≤ rank card packet) cards (λ other j. omega (arith, below_best other j, most));
  }

module _ (flat : Flat) (packet : Packet) (sound : IsSound flat) where
  abbrev all : List Card
  all = cards_of flat.groups flat.sockets

  abbrev hash : ℕ
  hash = packet_hash packet flat.header.seed

  abbrev Right : Option Card → Type 0
  Right o = MatchOption o (NoneMatches packet all) (IsBestOf packet all)

  abbrev by_group : Card → Option Group → Option Card
  by_group card o = option_map_or (λ g. find (λ (c : Card). c.name == chosen hash g) all) o (Some card)

  -- the member that the hash chooses is as good as the card that was found
  member_right : (card : Card) (o : Option Group) → group_of card.name flat.groups ≡ o → In card all → 1 ≤ rank card packet → best_rank packet all ≤ rank card packet → Right (by_group card o)
  member_right card None e i some most = best_of packet all card i some most
  member_right card (Some g) e i some most =
      let k = chosen_card flat sound card g hash packet (hash_fits packet flat.header.seed) i (found_in (has_member card.name) flat.groups g e) (found_passes (has_member card.name) flat.groups g e) in
      subst Right (sym k.found) (best_of packet all k.card k.within (omega (arith, k.alike, some)) (omega (arith, k.alike, most)))

  first_right : (o : Option Card) → find (is_best packet all) all ≡ o → Right (option_and_then (member_of hash all flat.groups) o)
  first_right None h = none_matches packet all h
  first_right (Some card) h =
      let parts = and_parts (nat_lt 0 (rank card packet)) (rank card packet == best_rank packet all) (found_passes (is_best packet all) all card h) in
      let some : 1 ≤ rank card packet = ltb-true 0 (rank card packet) parts.0 in
      let is : rank card packet ≡ best_rank packet all = eqb-true (rank card packet) (best_rank packet all) parts.1 in
      member_right card (group_of card.name flat.groups) refl (found_in (is_best packet all) all card h) some (omega (arith, is))

pub finds_the_best : FindsTheBest
finds_the_best flat packet sound = first_right flat packet sound (find (is_best packet (cards_of flat.groups flat.sockets)) (cards_of flat.groups flat.sockets)) refl
