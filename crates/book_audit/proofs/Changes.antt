-- How many changes lives have.
use Rattle.std.proofs.Common.{◌≡◌, ℕ, ◌+◌, ◌*◌, Bool, IsTrue, ◌↔◌, List, [], ◌∷◌, length, length-append, count_by, is_some, cond, Option, None, Some, refl, sym, subst, arith}
use Rattle.std.proofs.lemmas.List.Sums.{sum_by-cons}
use Rattle.book_audit.specs.declared.printed.Span.{Span}
use Rattle.book_audit.specs.declared.printed.PrintedLife.{PrintedLife}
use Rattle.book_audit.specs.declared.printed.Printed.{Printed}
use Rattle.book_audit.specs.Book.{with_unhash, changes_of, book_of}
use Rattle.book_audit.specs.Findings.{CountsAll}

abbrev pub is_unhashed : PrintedLife → Bool
is_unhashed l = is_some l.unhash

one_unhash : (l : PrintedLife) (o : Option Span) → length (with_unhash l o) ≡ cond (is_some o) 1 0
one_unhash l None = refl
one_unhash l (Some s) = refl

pub changes_count : (lives : List PrintedLife) → length (book_of lives) ≡ length lives + count_by is_unhashed lives
changes_count [] = refl
changes_count (l ∷ rest) =
    omega (arith, length-append (changes_of l) (book_of rest), one_unhash l l.unhash, changes_count rest, sum_by-cons (λ (m : PrintedLife). cond (is_unhashed m) 1 0) l rest)

-- the count is what the clock must come to
pub counted : (p : Printed) (hashed unhashed : ℕ) (b : Bool) → hashed ≡ length p.lives.items → unhashed ≡ count_by is_unhashed p.lives.items → (IsTrue b ↔ (p.clock ≡ 2 * (hashed + unhashed) + p.vain)) → IsTrue b ↔ CountsAll p
counted p hashed unhashed b h u i =
    let e : length (book_of p.lives.items) ≡ hashed + unhashed = omega (arith, changes_count p.lives.items) in
    subst (λ n. IsTrue b ↔ (p.clock ≡ 2 * n + p.vain)) (sym e) i
