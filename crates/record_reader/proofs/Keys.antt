-- Names compare equal exactly where they are one.
use Rattle.std.proofs.Common.{◌≡◌, ℕ, ◌==◌, ◌&&◌, Bool, true, false, sym, ap, ◌∙◌, arith, refl}
use Rattle.std.proofs.lemmas.Cmp.{ranked}
use Rattle.std.proofs.lemmas.Bool.Decides.{nat_tests}
use Rattle.std.specs.Ordering.{nat_cmp, ordering_then, is_eq}
use Rattle.std.specs.declared.cmp.Ordering.{Ordering}
use Rattle.std.specs.declared.cmp.Ordering.TheVariants.{Less, Equal, Greater}
use Rattle.record_reader.specs.declared.line.Name.{Name}
use Rattle.record_reader.specs.Names.{same_name}
use Rattle.record_reader.specs.Numbers.{name_cmp}

both_equal : (o p : Ordering) → ordering_then o p ≡ Equal → (o ≡ Equal) × (p ≡ Equal)
both_equal Less p h = absurd (cc)
both_equal Equal p h = (refl, h)
both_equal Greater p h = absurd (cc)

-- names of the same parts are one
from_parts : (a b : Name) → a.section ≡ b.section → a.high ≡ b.high → a.low ≡ b.low → a.length ≡ b.length → a ≡ b
from_parts a b s h l n = λ i. record { section = s i; high = h i; low = l i; length = n i }

-- names that compare equal are one
pub same_key : (a b : Name) → name_cmp a b ≡ Equal → a ≡ b
same_key a b h =
    let section = both_equal (nat_cmp a.section b.section) _ h in
    let high = both_equal (nat_cmp a.high b.high) _ section.1 in
    let low = both_equal (nat_cmp a.low b.low) (nat_cmp a.length b.length) high.1 in
    from_parts a b (ranked a.section b.section Equal (sym section.0)) (ranked a.high b.high Equal (sym high.0))
    (ranked a.low b.low Equal (sym low.0)) (ranked a.length b.length Equal (sym low.1))

equal_itself : (n : ℕ) (o : Ordering) → o ≡ nat_cmp n n → o ≡ Equal
equal_itself n Less e = absurd (omega (arith, ranked n n Less e))
equal_itself n Equal e = refl
equal_itself n Greater e = absurd (omega (arith, ranked n n Greater e))

then_equal : (o p : Ordering) → o ≡ Equal → p ≡ Equal → ordering_then o p ≡ Equal
then_equal o p e f = ap (λ q. ordering_then q p) e ∙ f

-- a name compares equal to itself
pub key_itself : (a : Name) → name_cmp a a ≡ Equal
key_itself a =
    then_equal _ _ (equal_itself a.section _ refl)
    (then_equal _ _ (equal_itself a.high _ refl) (then_equal _ _ (equal_itself a.low _ refl) (equal_itself a.length _ refl)))

parts_told : (s t h i l m n o : ℕ) → ((s == t) && (h == i) && (l == m) && (n == o)) ≡ true → (s ≡ t) × (h ≡ i) × (l ≡ m) × (n ≡ o)
parts_told s t h i l m n o e = (grind (arith, nat_tests), grind (arith, nat_tests), grind (arith, nat_tests), grind (arith, nat_tests))

parts_itself : (s h l n : ℕ) → ((s == s) && (h == h) && (l == l) && (n == n)) ≡ true
parts_itself s h l n = grind (arith, nat_tests)

-- the test says whether two names are one
pub same_told : (a b : Name) → same_name a b ≡ true → a ≡ b
same_told a b e =
    let parts = parts_told a.section b.section a.high b.high a.low b.low a.length b.length e in
    from_parts a b parts.0 parts.1 parts.2 parts.3

pub same_itself : (a : Name) → same_name a a ≡ true
same_itself a = parts_itself a.section a.high a.low a.length

compared_by : (a b : Name) (t : Bool) (o : Ordering) → same_name a b ≡ t → name_cmp a b ≡ o → is_eq o ≡ t
compared_by a b true o e c = ap is_eq (sym c ∙ ap (λ x. name_cmp a x) (sym (same_told a b e)) ∙ key_itself a)
compared_by a b false Less e c = refl
compared_by a b false Greater e c = refl
compared_by a b false Equal e c =
    let same : same_name a a ≡ same_name a b = ap (same_name a) (same_key a b c) in
    let is : same_name a a ≡ true = same_itself a in
    absurd (cc)

-- names compare equal exactly where the test says so
pub compared : (a b : Name) → is_eq (name_cmp a b) ≡ same_name a b
compared a b = compared_by a b (same_name a b) (name_cmp a b) refl refl
