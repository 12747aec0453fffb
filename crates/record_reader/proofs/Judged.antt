-- On which lines the judge reports its finding.
use Rattle.std.proofs.Common.{◌≡◌, ℕ, zero, suc, ◌+◌, ◌-◌, ◌<◌, ◌≤◌, List, [], ◌∷◌, length, take, Option, Some, None, slice_get, Bool, true, false, cond, IsTrue, count_by, refl, sym, ap, subst, ◌∙◌, arith}
use Rattle.std.specs.Prelude.{IsSomeAnd, is_some}
use Rattle.std.specs.List.{cons_option, filter_map}
use Rattle.std.proofs.lemmas.List.Sums.{sum_by-cons}
use Rattle.book_audit.specs.declared.printed.Printed.{Printed}
use Rattle.book_audit.specs.declared.printed.Why.{Why}
use Rattle.book_audit.specs.declared.printed.Why.TheVariants as whys
use Rattle.book_audit.specs.Findings.{Fails}
use Rattle.record_reader.specs.declared.line.Name.{Name}
use Rattle.record_reader.specs.declared.line.Line.{Line}
use Rattle.record_reader.specs.declared.line.Line.TheVariants as lines
use Rattle.record_reader.specs.Names.{number_in}
use Rattle.record_reader.specs.Told.{Tells, life_in, packet_in, names_of}
use Rattle.record_reader.specs.Verdicts.{is_tried}

-- one item more of those that pass
module _ {A : Type 0} (p : A → Bool) where
  count_cons : (x : A) (xs : List A) → count_by p (x ∷ xs) ≡ cond (p x) 1 0 + count_by p xs
  count_cons x xs = sum_by-cons (λ y. cond (p y) 1 0) x xs

  counted : {B : Type 0} (f : A → Option B) (x : A) (xs : List A) (o : Option B) → f x ≡ o → length (cons_option o (filter_map f xs)) ≡ cond (is_some o) 1 0 + length (filter_map f xs)
  counted f x xs None e = omega arith
  counted f x xs (Some y) e = omega arith

  -- where a function gives something for the items that pass, and for no other, it gives as many as pass
  pub all_counted : {B : Type 0} (f : A → Option B) → ((x : A) → is_some (f x) ≡ p x) → (xs : List A) → length (filter_map f xs) ≡ count_by p xs
  all_counted f same [] = refl
  all_counted f same (x ∷ xs) =
      counted f x xs (f x) refl ∙ ap (λ b. cond b 1 0 + length (filter_map f xs)) (same x) ∙ ap (λ n. cond (p x) 1 0 + n) (all_counted f same xs)
      ∙ sym (count_cons x xs)

  passing : (x : A) (xs : List A) → p x ≡ true → count_by p (x ∷ xs) ≡ 1 + count_by p xs
  passing x xs e = count_cons x xs ∙ ap (λ b. cond b 1 0 + count_by p xs) e

  fewer_from : (x : A) (m n : ℕ) (xs ys : List A) → count_by p xs < count_by p ys → count_by p (x ∷ xs) < count_by p (x ∷ ys)
  fewer_from x m n xs ys h = omega (arith, count_cons x xs, count_cons x ys)

  -- before an item that passes stand fewer than up to a later place
  pub counts_before : (xs : List A) (i j : ℕ) → i < j → IsSomeAnd (slice_get xs i) (λ x. IsTrue (p x)) → count_by p (take i xs) < count_by p (take j xs)
  counts_before [] i j h is = absurd is
  counts_before (x ∷ xs) i zero h is = absurd (omega arith)
  counts_before (x ∷ xs) zero (suc j) h is = omega (arith, passing x (take j xs) is)
  counts_before (x ∷ xs) (suc i) (suc j) h is = fewer_from x i j (take i xs) (take j xs) (counts_before xs i j (omega arith) is)

  -- an item that passes is counted
  pub counts_one : (xs : List A) (i : ℕ) → IsSomeAnd (slice_get xs i) (λ x. IsTrue (p x)) → 0 < count_by p xs
  counts_one [] i is = absurd is
  counts_one (x ∷ xs) zero is = omega (arith, passing x xs is)
  counts_one (x ∷ xs) (suc i) is = omega (arith, count_cons x xs, counts_one xs i is)

  -- the item that is number k of those that pass
  pub record Numbered (xs : List A) (k : ℕ) : Type 0 where
    pub at : ℕ
    pub within : at < length xs
    pub is : IsSomeAnd (slice_get xs at) (λ x. IsTrue (p x))
    pub before : count_by p (take at xs) ≡ k

  failing : (x : A) (xs : List A) → p x ≡ false → count_by p (x ∷ xs) ≡ count_by p xs
  failing x xs e = count_cons x xs ∙ ap (λ b. cond b 1 0 + count_by p xs) e ∙ omega arith

  one_later : (k : ℕ) → 1 + k ≡ suc k
  one_later k = omega arith

  numbered_from : (x : A) (xs : List A) → ((k : ℕ) → k < count_by p xs → Numbered xs k) → (k : ℕ) → k < count_by p (x ∷ xs) → (b : Bool) → p x ≡ b → Numbered (x ∷ xs) k
  numbered_from x xs rest zero l true e = record { at = zero; within = omega arith; is = e; before = refl }
  numbered_from x xs rest (suc k) l true e =
      let s = rest k (omega (arith, l, passing x xs e)) in
      record { at = suc s.at; within = omega (arith, s.within); is = s.is; before = passing x (take s.at xs) e ∙ ap (λ n. 1 + n) s.before ∙ one_later k }
  numbered_from x xs rest k l false e =
      let s = rest k (omega (arith, l, failing x xs e)) in
      record { at = suc s.at; within = omega (arith, s.within); is = s.is; before = failing x (take s.at xs) e ∙ s.before }

  -- there is one for each number below their count
  pub numbered : (xs : List A) (k : ℕ) → k < count_by p xs → Numbered xs k
  numbered [] k l = let none : count_by p [] ≡ 0 = refl in absurd (omega (arith, l, none))
  numbered (x ∷ xs) k l = numbered_from x xs (numbered xs) k l (p x) refl

-- a function gives something for no more items than there are
module _ {A B : Type 0} (f : A → Option B) where
  mapped_from : (xs : List A) (o : Option B) → length (cons_option o (filter_map f xs)) ≤ 1 + length (filter_map f xs)
  mapped_from xs None = omega arith
  mapped_from xs (Some y) = omega arith

  pub fewer_mapped : (xs : List A) → length (filter_map f xs) ≤ length xs
  fewer_mapped [] = omega arith
  fewer_mapped (x ∷ xs) = omega (arith, mapped_from xs (f x), fewer_mapped xs)

life_tried : (why : Why) (number : Name → ℕ) → is_tried why ≡ is_tried whys.Stamp → (line : Line) → is_some (life_in number line) ≡ is_tried why line
life_tried why number same (lines.Life l) = λ i. sym same i (lines.Life l)
life_tried why number same line = λ i. sym same i line

packet_tried : (number : Name → ℕ) (line : Line) → is_some (packet_in number line) ≡ is_tried whys.Receipt line
packet_tried number (lines.Packet n item) = refl
packet_tried number line = refl

lives_counted : (all : List Line) (p : Printed) → Tells all p → length p.lives.items ≡ count_by (is_tried whys.Stamp) all
lives_counted all p t = ap length t.lives ∙ all_counted (is_tried whys.Stamp) (life_in (number_in (names_of all))) (life_tried whys.Stamp _ refl) all

packets_counted : (all : List Line) (p : Printed) → Tells all p → length p.packets.items ≡ count_by (is_tried whys.Receipt) all
packets_counted all p t = ap length t.packets ∙ all_counted (is_tried whys.Receipt) (packet_in (number_in (names_of all))) (packet_tried _) all

-- the place that the judge names is that of one of the lines
pub told_within : (all : List Line) (p : Printed) (why : Why) (at : ℕ) → Tells all p → Fails p why at → at < count_by (is_tried why) all
told_within all p whys.Stamp at t f = omega (arith, lives_counted all p t, f.within)
told_within all p whys.Home at t f = omega (arith, lives_counted all p t, f.within)
told_within all p whys.Overlap at t f = omega (arith, lives_counted all p t, f.within)
told_within all p whys.Slot at t f = omega (arith, lives_counted all p t, f.within)
told_within all p whys.Twin at t f = omega (arith, lives_counted all p t, f.within)
told_within all p whys.Receipt at t f = omega (arith, packets_counted all p t, f.within)
told_within all p whys.Count at t f =
    let there : IsSomeAnd (slice_get all (length all - 1)) (λ line. IsTrue (is_tried whys.Count line)) =
    subst (λ (o : Option Line). IsSomeAnd o (λ line. IsTrue (is_tried whys.Count line))) (sym t.clock) refl in
    omega (arith, counts_one (is_tried whys.Count) all (length all - 1) there, f.0)
