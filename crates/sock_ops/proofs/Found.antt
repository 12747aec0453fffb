-- Who is found in a chain that was walked has a card that its words give, and gives way where nobody keeps the tuple.
use Rattle.std.proofs.Common.{◌≡◌, ℕ, ◌&&◌, ◌||◌, not, Bool, true, false, cond, List, [], ◌∷◌, Option, None, Some, find, refl, sym, ap, ◌∙◌, subst}
use Rattle.list_words.specs.Lists.{Each}
use Rattle.list_words.proofs.EachLemmas.{some_same}
use Rattle.sock_card.specs.Words.{packed, unpacked}
use Rattle.sock_card.specs.TimeWait.{is_time_wait_kind}
use Rattle.sock_card.specs.declared.card.Card.{Card}
use Rattle.chain_book.specs.declared.outcome.Hashed.{Hashed}
use Rattle.chain_book.specs.declared.outcome.Replace.{Replace}
use Rattle.chain_book.specs.Tuples.{same_cards, claims_tuple, may_replace, waits_at}
use Rattle.chain_book.specs.Chains.{keeps, waits}
use Rattle.table_rule.specs.Beyond.{IsCardWords}
use Rattle.table_rule.specs.Words.{card_from}
use Rattle.table_rule.specs.declared.view.Seen.{Seen}
use Rattle.established.specs.Rows.{hashed_in, row_of, HasCard}

-- Cards by their words

abbrev pub IsTold : Card → Type 0
IsTold card = unpacked (packed card) ≡ card

card_told : (ws : List ℕ) → IsCardWords ws → IsTold (card_from ws)
card_told ws h =
    let is : card_from ws ≡ unpacked h.words = ap card_from h.is in
    ap (λ (c : Card). unpacked (packed c)) is ∙ (ap unpacked h.packs ∙ sym is)

-- who is found has a card that its words give
pub found_told : (test : Hashed → Bool) (xs : List Seen) (x : Hashed) → Each HasCard xs → find test (row_of xs) ≡ Some x → IsTold x.card
found_told test [] x cards e = absurd (cc)
found_told test (s ∷ ss) x cards e = go (test (hashed_in s)) refl (λ e'. found_told test ss x cards.1 e')
  where
    go : (b : Bool) → test (hashed_in s) ≡ b → (find test (row_of ss) ≡ Some x → IsTold x.card) → IsTold x.card
    go true q rest =
        let is = some_same (hashed_in s) x (sym (ap (λ (k : Bool). cond k (Some (hashed_in s)) (find test (row_of ss))) q) ∙ e) in
        subst (λ (y : Hashed). IsTold y.card) is (card_told s.words cards.0.0)
    go false q rest = rest (sym (ap (λ (k : Bool). cond k (Some (hashed_in s)) (find test (row_of ss))) q) ∙ e)

-- Who gives way

cond_both : {A : Type 0} (p q : A → Bool) (y x : A) (f g : Option A) (b c : Bool) → p y ≡ b → q y ≡ c → (f ≡ None → g ≡ Some x → (p x ≡ false) × (q x ≡ true))
    → cond b (Some y) f ≡ None → cond c (Some y) g ≡ Some x → (p x ≡ false) × (q x ≡ true)
cond_both p q y x f g true c is_p is_q more n s = absurd (cc)
cond_both p q y x f g false true is_p is_q more n s =
    let same : y ≡ x = cc in (subst (λ z. p z ≡ false) same is_p, subst (λ z. q z ≡ true) same is_q)
cond_both p q y x f g false false is_p is_q more n s = more n s

-- no one passes the first test, and x is the first that passes the other
find_both : {A : Type 0} (p q : A → Bool) (xs : List A) (x : A) → find p xs ≡ None → find q xs ≡ Some x → (p x ≡ false) × (q x ≡ true)
find_both p q [] x none some = absurd (cc)
find_both p q (y ∷ ys) x none some = cond_both p q y x (find p ys) (find q ys) (p y) (q y) refl refl (find_both p q ys x) none some

may_by : (same full wait may : Bool) → (same && wait) ≡ true → (same && (full || wait && not may)) ≡ false → may ≡ true
may_by true true true may w e = absurd (cc)
may_by true false true true w e = refl
may_by true false true false w e = absurd (cc)
may_by true full false may w e = absurd (cc)
may_by false full wait may w e = absurd (cc)

-- the first TIME_WAIT of the four-tuple, where nobody keeps that
pub gives_way : (card : Card) (moment : ℕ) (rule : Replace) (row : List Hashed) (x : Hashed) → find (keeps card moment rule) row ≡ None → find (waits card) row ≡ Some x
    → (waits_at card x.card ≡ true) × (may_replace rule moment x.card ≡ true)
gives_way card moment rule row x none some =
    let two = find_both (keeps card moment rule) (waits card) row x none some in
    (two.1, may_by (same_cards card x.card) (claims_tuple x.card.kind) (is_time_wait_kind x.card.kind) (may_replace rule moment x.card) two.1 two.0)
