-- Cards by their words, and lists of them.
use Rattle.std.proofs.Common.{◌≡◌, ℕ, zero, suc, ◌<◌, List, [], ◌∷◌, ◌++◌, refl, sym, ap, ◌∙◌, arith, length, slice_index, append_assoc}
use Rattle.std.proofs.lemmas.List.{map-append}
use mathlib.Core.Option.{some, some-injective, some-ne-none}
use lib.ListN.{get_elem?}
use Rattle.sock_card.specs.declared.card.Card.{Card}
use Rattle.sock_card.specs.Words.{unpacked}
use Rattle.table_rule.specs.Words.{card_from}
use Rattle.table_rule.specs.declared.view.Seen.{Seen}
use Rattle.race_run.specs.Rows.{card_of, cards_of, all_cards}

pub index_of : (l : List ℕ) (n a : ℕ) → get_elem? l n ≡ some a → slice_index l n ≡ a
index_of [] n a e = absurd (some-ne-none a (sym e))
index_of (x ∷ xs) zero a e = some-injective x a e
index_of (x ∷ xs) (suc n) a e = index_of xs n a e

-- words that were read whole are those of each card that has them
pub card_told : (ws l : List ℕ) → length ws ≡ 4 → ((k a : ℕ) → k < 4 → get_elem? ws k ≡ some a → get_elem? l k ≡ some a) → card_from l ≡ card_from ws
card_told [] l e h = absurd (omega (arith, e))
card_told (a ∷ []) l e h = absurd (omega (arith, e))
card_told (a ∷ b ∷ []) l e h = absurd (omega (arith, e))
card_told (a ∷ b ∷ c ∷ []) l e h = absurd (omega (arith, e))
card_told (a ∷ b ∷ c ∷ d ∷ []) l e h = λ i. unpacked (record {
  ends = index_of l 0 a (h 0 a (omega arith) refl) i;
  ports = index_of l 1 b (h 1 b (omega arith) refl) i;
  name = index_of l 2 c (h 2 c (omega arith) refl) i;
  extra = index_of l 3 d (h 3 d (omega arith) refl) i;
})
card_told (a ∷ b ∷ c ∷ d ∷ x ∷ xs) l e h = absurd (omega (arith, e))

pub cards-more : (xs : List Seen) (s : Seen) → cards_of (xs ++ s ∷ []) ≡ cards_of xs ++ card_of s ∷ []
cards-more xs s = map-append card_of xs (s ∷ [])

pub all-more : (rows : List (List Seen)) (xs : List Seen) → all_cards (rows ++ xs ∷ []) ≡ all_cards rows ++ cards_of xs
all-more [] xs = append-none (cards_of xs)
  where
    append-none : (l : List Card) → l ++ [] ≡ l
    append-none [] = refl
    append-none (x ∷ l) = ap (λ (m : List Card). x ∷ m) (append-none l)
all-more (row ∷ rows) xs = ap (λ (l : List Card). cards_of row ++ l) (all-more rows xs) ∙ sym (append_assoc (cards_of row) (all_cards rows) (cards_of xs))
