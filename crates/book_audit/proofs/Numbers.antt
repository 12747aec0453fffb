-- No number of the clock stands twice among the changes of lives that are stamped.
use Rattle.std.proofs.Common.{◌≡◌, ◌≢◌, ℕ, ◌==◌, ◌||◌, true, false, List, [], ◌∷◌, ◌++◌, Option, None, Some, refl, sym, ◌∙◌, subst, arith, ◌⊎◌, inl, inr}
use Rattle.std.proofs.lemmas.Bool.{or_parts, eqb-false}
use Rattle.std.proofs.lemmas.Grind.{flat_map-append}
use Rattle.list_words.specs.Lists.{Each, Pairs}
use Rattle.list_words.proofs.EachLemmas.{each_append}
use Rattle.chain_book.specs.declared.book.Change.{Change}
use Rattle.race_book.specs.Among.{Among}
use Rattle.race_book.specs.Listed.{StampsDiffer, stamps_of}
use Rattle.race_book.proofs.Endings.{each_of, to_each}
use Rattle.book_audit.specs.declared.printed.Span.{Span}
use Rattle.book_audit.specs.declared.printed.PrintedLife.{PrintedLife}
use Rattle.book_audit.specs.declared.printed.Why.TheVariants as whys
use Rattle.book_audit.specs.Book.{with_unhash, changes_of, book_of}
use Rattle.book_audit.specs.Lines.{NoTwo, AreStamped, some_span, ascends, share, shares_number}
use Rattle.book_audit.specs.Laws.{SoundStampsDiffer}
use Rattle.book_audit.proofs.Lives.{of, Whose, whose, Ascending, hash_ascends, unhash_ascends, span_of}
use Rattle.book_audit.proofs.Serial.{span_not}

abbrev Differ : ℕ → ℕ → Type 0
Differ n k = n ≢ k

abbrev stamps : Change → List ℕ
stamps c = c.begin ∷ c.end ∷ []

pairs_join : {A : Type 0} (R : A → A → Type 0) (xs ys : List A) → Pairs R xs → Pairs R ys → Each (λ x. Each (R x) ys) xs → Pairs R (xs ++ ys)
pairs_join R [] ys p q a = q
pairs_join R (x ∷ xs) ys p q a = (each_append (R x) xs ys p.0 a.0, pairs_join R xs ys p.1 q a.1)

own_by : (clock : ℕ) (l : PrintedLife) → ascends clock l ≡ true → (o : Option Span) → l.unhash ≡ o → Pairs Differ (l.hash.begin ∷ l.hash.end ∷ stamps_of (with_unhash l o))
own_by clock l e None q = let a = hash_ascends clock l e in (((λ p. omega (arith, a, p)), tt), (tt, tt))
own_by clock l e (Some s) q =
    let a = hash_ascends clock l e in
    let b : Ascending l s = unhash_ascends clock l e s q in (
      ((λ p. omega (arith, a, p)), ((λ p. omega (arith, a, b.after, p)), ((λ p. omega (arith, a, b.after, b.itself, p)), tt))),
      (
        ((λ p. omega (arith, b.after, p)), ((λ p. omega (arith, b.after, b.itself, p)), tt)),
        (((λ p. omega (arith, b.itself, p)), tt), (tt, tt)),
      ),
    )

-- the change that has a number
record HasNumber (book : List Change) (n : ℕ) : Type 0 where
  change : Change
  there : Among book change
  is : (n ≡ change.begin) ⊎ (n ≡ change.end)

number_of : (book : List Change) (n : ℕ) → Among (stamps_of book) n → HasNumber book n
number_of [] n a = absurd a
number_of (c ∷ rest) n (inl p) = record { change = c; there = inl refl; is = inl p }
number_of (c ∷ rest) n (inr (inl p)) = record { change = c; there = inl refl; is = inr p }
number_of (c ∷ rest) n (inr (inr a)) =
    let r : HasNumber rest n = number_of rest n a in record { change = r.change; there = inr r.there; is = r.is }

-- what two changes that share no number have
record Apart (s t : Span) : Type 0 where
  a : s.begin ≢ t.begin
  b : s.begin ≢ t.end
  c : s.end ≢ t.begin
  d : s.end ≢ t.end

no_share : (s t : Span) → share s t ≡ false → Apart s t
no_share s t e =
    let f = or_parts ((s.begin == t.begin) || (s.begin == t.end) || (s.end == t.begin)) (s.end == t.end) e in
    let g = or_parts ((s.begin == t.begin) || (s.begin == t.end)) (s.end == t.begin) f.0 in
    let h = or_parts (s.begin == t.begin) (s.begin == t.end) g.0 in record {
      a = eqb-false s.begin t.begin h.0;
      b = eqb-false s.begin t.end h.1;
      c = eqb-false s.end t.begin g.1;
      d = eqb-false s.end t.end f.1;
    }

numbers_apart : (s t : Span) (n k : ℕ) → Apart s t → (n ≡ s.begin) ⊎ (n ≡ s.end) → (k ≡ t.begin) ⊎ (k ≡ t.end) → n ≢ k
numbers_apart s t n k x (inl p) (inl q) e = x.a (sym p ∙ e ∙ q)
numbers_apart s t n k x (inl p) (inr q) e = x.b (sym p ∙ e ∙ q)
numbers_apart s t n k x (inr p) (inl q) e = x.c (sym p ∙ e ∙ q)
numbers_apart s t n k x (inr p) (inr q) e = x.d (sym p ∙ e ∙ q)

differ_at : (l : PrintedLife) (rest : List PrintedLife) → Each (λ m. shares_number l m ≡ false) rest → (n k : ℕ) → HasNumber (changes_of l) n → HasNumber (book_of rest) k → n ≢ k
differ_at l rest e n k u v =
    let w : Whose rest v.change = whose rest v.change v.there in
    let m = w.life in
    let f = span_not (share (span_of u.change)) m v.change w.is
    (span_not (λ x. some_span (share x) m) l u.change (of l u.change u.there) (each_of (λ x. shares_number l x ≡ false) rest e m w.there)) in
    numbers_apart (span_of u.change) (span_of v.change) n k (no_share (span_of u.change) (span_of v.change) f) u.is v.is

across : (l : PrintedLife) (rest : List PrintedLife) → Each (λ m. shares_number l m ≡ false) rest → Each (λ n. Each (Differ n) (stamps_of (book_of rest))) (stamps_of (changes_of l))
across l rest e = to_each (λ n. Each (Differ n) (stamps_of (book_of rest))) (stamps_of (changes_of l))
    (λ n a. to_each (Differ n) (stamps_of (book_of rest)) (λ k b. differ_at l rest e n k (number_of (changes_of l) n a) (number_of (book_of rest) k b)))

differ : (clock : ℕ) (lives : List PrintedLife) → Each (λ l. ascends clock l ≡ true) lives → NoTwo shares_number lives → StampsDiffer (book_of lives)
differ clock [] e p = tt
differ clock (l ∷ rest) e p =
    subst (λ xs. Pairs Differ xs) (sym (flat_map-append stamps (changes_of l) (book_of rest)))
    (pairs_join Differ (stamps_of (changes_of l)) (stamps_of (book_of rest)) (own_by clock l e.0 l.unhash refl) (differ clock rest e.1 p.1) (across l rest p.0))

pub sound_differ : SoundStampsDiffer
sound_differ p f = let s : AreStamped p.clock p.lives.items = f whys.Stamp in differ p.clock p.lives.items s.ascend s.differ
