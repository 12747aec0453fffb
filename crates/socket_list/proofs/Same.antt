-- The same cards in whatever order.
use Rattle.std.proofs.Common.{◌≡◌, ◌≢◌, ℕ, ◌+◌, ◌≤◌, Bool, true, false, cond, List, [], ◌∷◌, length, refl, sym, ap, ◌∙◌, subst, arith}
use Rattle.sock_card.specs.Words.{number_of}
use Rattle.sock_card.specs.declared.card.Card.{Card}
use Rattle.sock_card.proofs.SameKinds.{kind_by}
use Rattle.list_words.specs.Lists.{Each, SameItems, total}
use Rattle.list_words.proofs.AscendingLemmas.{tie_apart, tie_true, alike, those_like, one_order, ascending_keeps, ascending_up, ascending_stays, ascending_strictly, same_ascending}
use Rattle.socket_list.specs.Laws.{HavePlaces, ListsAsOne, ListsAll, ListsInOrder, StaysListed}
use Rattle.socket_list.specs.Order.{order_of, ascending}

-- Weights

abbrev part : (Card → ℕ) → Card → Card → ℕ
part f c d = cond (alike order_of c d) (f d) 0

weigh_by : (f : Card → ℕ) (c x : Card) (xs : List Card) → total f (those_like order_of c xs) ≡ total (part f c) xs → (b : Bool)
    → total f (cond b (x ∷ those_like order_of c xs) (those_like order_of c xs)) ≡ cond b (f x) 0 + total (part f c) xs
weigh_by f c x xs h true = omega (arith, h)
weigh_by f c x xs h false = omega (arith, h)

weigh : (f : Card → ℕ) (c : Card) (xs : List Card) → total f (those_like order_of c xs) ≡ total (part f c) xs
weigh f c [] = refl
weigh f c (x ∷ xs) = weigh_by f c x xs (weigh f c xs) (alike order_of c x)

same_like : (c : Card) (xs ys : List Card) → SameItems xs ys → SameItems (those_like order_of c xs) (those_like order_of c ys)
same_like c xs ys h f = weigh f c xs ∙ h (part f c) ∙ sym (weigh f c ys)

-- One card

alone : (x y : Card) → SameItems (x ∷ []) (y ∷ []) → (f : Card → ℕ) → f x ≡ f y
alone x y h f = let e : f x + 0 ≡ f y + 0 = h f in omega (arith, e)

card_by : (x y : Card) → SameItems (x ∷ []) (y ∷ []) → x ≡ y
card_by x y h = λ i. record {
  local = alone x y h (λ c. c.local) i;
  lport = alone x y h (λ c. c.lport) i;
  remote = alone x y h (λ c. c.remote) i;
  rport = alone x y h (λ c. c.rport) i;
  dev = alone x y h (λ c. c.dev) i;
  net = alone x y h (λ c. c.net) i;
  kind = kind_by x.kind y.kind (alone x y h (λ c. number_of c.kind)) i;
  name = alone x y h (λ c. c.name) i;
  extra = alone x y h (λ c. c.extra) i;
  mark = alone x y h (λ c. c.mark) i;
}

one_by : (xs ys : List Card) → SameItems xs ys → length xs ≤ 1 → xs ≡ ys
one_by [] [] h few = refl
one_by [] (y ∷ ys) h few = let e : 0 ≡ 1 + total (λ c. 1) ys = h (λ c. 1) in absurd (omega (arith, e))
one_by (x ∷ []) [] h few = let e : 1 + 0 ≡ 0 = h (λ c. 1) in absurd (omega (arith, e))
one_by (x ∷ []) (y ∷ []) h few = ap (λ c. c ∷ []) (card_by x y h)
one_by (x ∷ []) (y ∷ z ∷ zs) h few = let e : 1 + 0 ≡ 1 + (1 + total (λ c. 1) zs) = h (λ c. 1) in absurd (omega (arith, e))
one_by (x ∷ w ∷ xs) ys h few = absurd (omega (arith, few))

-- those that stand in one place are one at most

none_more : (c : Card) (xs : List Card) → Each (λ d. order_of c ≢ order_of d) xs → those_like order_of c xs ≡ []
none_more c [] e = refl
none_more c (x ∷ xs) e =
    ap (λ b. cond b (x ∷ those_like order_of c xs) (those_like order_of c xs)) (tie_apart (order_of c) (order_of x) e.0) ∙ none_more c xs e.1

few_by : (c x : Card) (xs : List Card) → Each (λ d. order_of x ≢ order_of d) xs → length (those_like order_of c xs) ≤ 1 → (b : Bool) → alike order_of c x ≡ b
    → (alike order_of c x ≡ true → order_of c ≡ order_of x) → length (cond b (x ∷ those_like order_of c xs) (those_like order_of c xs)) ≤ 1
few_by c x xs e h true t same =
    let none : those_like order_of c xs ≡ [] = none_more c xs (subst (λ (n : ℕ). Each (λ d. n ≢ order_of d) xs) (sym (same t)) e) in
    let size : length (those_like order_of c xs) ≡ 0 = ap length none in
    omega (arith, size)
few_by c x xs e h false t same = h

few : (c : Card) (xs : List Card) → HavePlaces xs → length (those_like order_of c xs) ≤ 1
few c [] p = omega arith
few c (x ∷ xs) p = few_by c x xs p.0 (few c xs p.1) (alike order_of c x) refl (tie_true (order_of c) (order_of x))

pub lists_as_one : ListsAsOne
lists_as_one xs ys same places =
    one_order order_of (ascending xs) (ascending ys) (ascending_up order_of xs) (ascending_up order_of ys)
    (λ c. ascending_keeps order_of c xs ∙ one_by (those_like order_of c xs) (those_like order_of c ys) (same_like c xs ys same) (few c xs places)
    ∙ sym (ascending_keeps order_of c ys))

-- What is listed

pub lists_all : ListsAll
lists_all xs = same_ascending order_of xs

pub lists_in_order : ListsInOrder
lists_in_order xs p = ascending_strictly order_of xs p

pub stays_listed : StaysListed
stays_listed xs = ascending_stays order_of xs
