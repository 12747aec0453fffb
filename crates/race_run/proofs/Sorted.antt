-- What is said of a dump's items holds of them in their order, too.
use Rattle.std.proofs.Common.{◌≡◌, ℕ, List, [], ◌∷◌, inl, inr, sym, ap, ◌∙◌}
use Rattle.list_words.specs.Lists.{Each, Pairs}
use Rattle.list_words.specs.Ascending.{ascending_by}
use Rattle.list_words.proofs.AscendingLemmas.{each_ascending, each_ascending_back, map_ascending, pairs_ascending}
use Rattle.sock_card.specs.declared.card.Card.{Card}
use Rattle.socket_list.specs.Order.{order_of, ascending}
use Rattle.table_rule.specs.Book.{Part}
use Rattle.table_rule.specs.declared.view.Change.{Change}
use Rattle.race_run.specs.Books.{AreApart, AreTold, HaveOnePlace, IsAmong, IsLife, life_card}

-- lives in the order of their cards
abbrev turn_of : Change → ℕ
turn_of h = order_of (life_card h)

abbrev in_turn : List Change → List Change
in_turn xs = ascending_by turn_of xs

-- Each of them

each_turn : (P : Change → Type 0) (xs : List Change) → Each P xs → Each P (in_turn xs)
each_turn P xs e = each_ascending turn_of P xs e

-- Places

abbrev IsElse : Change → Change → Type 0
IsElse h g = HaveOnePlace h g → ⊥

to_pairs : (xs : List Change) → AreApart xs → Pairs IsElse xs
to_pairs [] p = tt
to_pairs (h ∷ rest) p = (p.0, to_pairs rest p.1)

of_pairs : (xs : List Change) → Pairs IsElse xs → AreApart xs
of_pairs [] p = tt
of_pairs (h ∷ rest) p = (p.0, of_pairs rest p.1)

apart_turn : (xs : List Change) → AreApart xs → AreApart (in_turn xs)
apart_turn xs p = of_pairs (in_turn xs)
    (pairs_ascending turn_of IsElse (λ h g e t. e (sym t.0, sym t.1)) xs (to_pairs xs p))

-- One of them

abbrev IsLike : Change → Change → Type 0
IsLike x g = HaveOnePlace g x × (life_card g ≡ life_card x)

each_like : (x : Change) (xs : List Change) (R : Type 0) → (IsAmong x xs → R) → Each (λ g. IsLike x g → R) xs
each_like x [] R f = tt
each_like x (g ∷ rest) R f = (λ here. f (inl here), each_like x rest R (λ later. f (inr later)))

of_like : (x : Change) (xs : List Change) (R : Type 0) → Each (λ g. IsLike x g → R) xs → IsAmong x xs → R
of_like x [] R e there = absurd there
of_like x (g ∷ rest) R e (inl here) = e.0 here
of_like x (g ∷ rest) R e (inr later) = of_like x rest R e.1 later

among_turn : (x : Change) (xs : List Change) → IsAmong x xs → IsAmong x (in_turn xs)
among_turn x xs there =
    let R : Type 0 = IsAmong x (in_turn xs) in
    of_like x xs R (each_ascending_back turn_of (λ g. IsLike x g → R) xs (each_like x (in_turn xs) R (λ t. t))) there

pub told_in_order : (views : List Part) (buckets t0 t1 : ℕ) (items : List Card) → AreTold views buckets t0 t1 items → AreTold views buckets t0 t1 (ascending items)
told_in_order views buckets t0 t1 items t = record {
  instant = t.instant;
  low = t.low;
  high = t.high;
  ascend = t.ascend;
  lives = in_turn t.lives;
  cards = ap ascending t.cards ∙ sym (map_ascending order_of life_card t.lives);
  stand = each_turn (IsLife views t.instant) t.lives t.stand;
  once = apart_turn t.lives t.once;
  all = λ h there hash low still. among_turn h t.lives (t.all h there hash low still);
}
