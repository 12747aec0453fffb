-- The printed lives of a book have as many changes as the book.
use Rattle.std.proofs.Common.{◌≡◌, ◌≢◌, ℕ, ◌+◌, ◌≤◌, List, [], ◌∷◌, length, map, refl, sym, ap, ◌∙◌, subst, arith, ◌⊎◌, inl, inr}
use Rattle.std.proofs.lemmas.List.{length-map}
use Rattle.list_words.specs.Lists.{Pairs}
use Rattle.list_words.proofs.PairsLemmas.{pairs_map}
use Rattle.chain_book.specs.declared.book.Change.{Change}
use Rattle.race_book.specs.Among.{Among}
use Rattle.race_book.specs.Laws.{BeginApart}
use Rattle.race_book.specs.Serial.{EachEndsOne}
use Rattle.race_book.proofs.AmongLemmas.{Made, among_map, made_of}
use Rattle.race_book.proofs.Endings.{each_of}
use Rattle.book_audit.specs.Book.{book_of}
use Rattle.race_laws.proofs.audits.Printed.{told_lives}
use Rattle.race_laws.proofs.audits.Renamed.{TellsOf, is_told, tells_of}

-- a list without one of its items
record Without (ys : List ℕ) (x : ℕ) : Type 0 where
  rest : List ℕ
  shorter : length ys ≡ length rest + 1
  others : (n : ℕ) → n ≢ x → Among ys n → Among rest n

without : (ys : List ℕ) (x : ℕ) → Among ys x → Without ys x
without [] x a = absurd a
without (y ∷ ys) x (inl e) = record {
  rest = ys;
  shorter = omega arith;
  others = λ n d a. elim a as (λ _. Among ys n) [ inl f ↦ absurd (d (f ∙ sym e)) | inr b ↦ b ];
}
without (y ∷ ys) x (inr a) = let r : Without ys x = without ys x a in record {
  rest = y ∷ r.rest;
  shorter = omega (arith, r.shorter);
  others = λ n d b. elim b as (λ _. (n ≡ y) ⊎ Among r.rest n) [ inl f ↦ inl f | inr k ↦ inr (r.others n d k) ];
}

-- different numbers that are all among others are no more
fewer : (xs ys : List ℕ) → Pairs (λ (a b : ℕ). a ≢ b) xs → ((n : ℕ) → Among xs n → Among ys n) → length xs ≤ length ys
fewer [] ys p h = omega arith
fewer (x ∷ xs) ys p h =
    let r : Without ys x = without ys x (h x (inl refl)) in
    omega (arith, r.shorter, fewer xs r.rest p.1 (λ n a. r.others n (λ e. each_of (λ (b : ℕ). x ≢ b) xs p.0 n a (sym e)) (h n (inr a))))

abbrev pub begin_of : Change → ℕ
begin_of c = c.begin

pub no_more : (xs ys : List Change) → BeginApart xs → ((n : ℕ) → Among (map begin_of xs) n → Among (map begin_of ys) n) → length xs ≤ length ys
no_more xs ys p h = omega (arith, fewer (map begin_of xs) (map begin_of ys) (pairs_map (λ (a b : ℕ). a ≢ b) begin_of xs p) h, length-map xs begin_of, length-map ys begin_of)

pub as_many : (number : ℕ → ℕ) (book : List Change) → BeginApart book → EachEndsOne (Among book) → BeginApart (book_of (told_lives number book)) → length (book_of (told_lives number book)) ≡ length book
as_many number book apart single told =
    let there = book_of (told_lives number book) in
    let more : length there ≤ length book = no_more there book told (λ n a.
    let m : Made begin_of there n = made_of begin_of there n a in
    let t : TellsOf number book apart single m.of = tells_of number book apart single m.of m.there in
    subst (Among (map begin_of book)) (sym (m.is ∙ ap begin_of t.is)) (among_map begin_of book t.change t.there)) in
    let less : length book ≤ length there = no_more book there apart (λ n a.
    let m : Made begin_of book n = made_of begin_of book n a in
    subst (Among (map begin_of there)) (sym m.is) (among_map begin_of there _ (is_told number book apart single m.of m.there))) in
    omega (arith, more, less)
