-- Whether the steps of a section come one after the other, and whether a four-tuple was free, computed: for worked
-- records.
use Rattle.std.proofs.Common.{◌≡◌, ℕ, ◌≤◌, ◌<◌, Bool, true, ◌==◌, ◌&&◌, not, nat_lt, List, Option, None, Some, IsTrue, sym, ◌∙◌, subst, arith}
use mathlib.Core.Logic.{dite}
use native.Mathlib.Decide.{dec_le}
use Rattle.std.proofs.lemmas.Bool.{ltb-true, ltb-false, not-true, lt-ltb, eq-eqb, and_from, true≢false}
use Rattle.std.specs.List.{list_all}
use Rattle.chain_book.specs.declared.book.Change.{Change}
use Rattle.chain_book.specs.Tuples.{keeps_from, waits_at}
use Rattle.race_book.specs.Among.{Among}
use Rattle.race_book.specs.Lives.{IsLife, Throughout, comes_after}
use Rattle.race_book.proofs.Endings.{each_of}
use Rattle.race_book.proofs.Checks.{pairwise, each_if, pairs_if, and_left, and_right, leaves_if, leaves_if_passes}
use Rattle.race_record.specs.Deeds.{Given, drawn_in}
use Rattle.race_record.specs.Record.{Step}
use Rattle.race_record.specs.Lawful.{IsSpanned, Precedes, AreInOrder, StandsAt, WasFree}

abbrev pub at_most : ℕ → ℕ → Bool
at_most a b = not (nat_lt b a)

at_most_is : (a b : ℕ) → at_most a b ≡ true → a ≤ b
at_most_is a b e = ltb-false b a (not-true (nat_lt b a) e)

-- a number lies between the two of a step
abbrev pub within : Step → ℕ → Bool
within s n = at_most s.from n && nat_lt n s.to

within_is : (s : Step) (n : ℕ) → within s n ≡ true → (s.from ≤ n) × (n < s.to)
within_is s n e =
    (at_most_is s.from n (and_left (at_most s.from n) _ e), ltb-true n s.to (and_right (at_most s.from n) _ e))

abbrev pub spanned : ℕ → Step → Bool
spanned clock s =
    at_most s.from s.to
    && (at_most s.to clock && (list_all (within s) (drawn_in s.deeds) && pairwise nat_lt (drawn_in s.deeds)))

spanned_is : (clock : ℕ) (s : Step) → spanned clock s ≡ true → IsSpanned clock s
spanned_is clock s e =
    let r = and_right (at_most s.from s.to) _ e in
    let q = and_right (at_most s.to clock) _ r in
    record {
      order = at_most_is s.from s.to (and_left (at_most s.from s.to) _ e);
      most = at_most_is s.to clock (and_left (at_most s.to clock) _ r);
      within = each_if (λ (n : ℕ). (s.from ≤ n) × (n < s.to)) (within s) (drawn_in s.deeds) (within_is s) (and_left (list_all (within s) (drawn_in s.deeds)) _ q);
      ascend = pairs_if (λ (n m : ℕ). n < m) nat_lt (drawn_in s.deeds) ltb-true (and_right (list_all (within s) (drawn_in s.deeds)) _ q);
    }

abbrev pub precedes : Step → Step → Bool
precedes s later = at_most s.to later.from

precedes_is : (s later : Step) → precedes s later ≡ true → Precedes s later
precedes_is s later e = at_most_is s.to later.from e

pub in_order_if : (clock : ℕ) (steps : List Step) → list_all (spanned clock) steps ≡ true → pairwise precedes steps ≡ true → AreInOrder clock steps
in_order_if clock steps e p = record {
  each = each_if (IsSpanned clock) (spanned clock) steps (spanned_is clock) e;
  pairs = pairs_if Precedes precedes steps precedes_is p;
}

-- Who was there throughout

-- no life that passes the test was there throughout
none_throughout : (book : List Change) (test : Change → Bool) (from to : ℕ) → list_all (leaves_if_passes book (λ (h : Change). test h && nat_lt h.end from) to) book ≡ true
    → (h : Change) → IsLife (Among book) h → test h ≡ true → Throughout (Among book) h from to → ⊥
none_throughout book test from to e h l p t =
    let g = leaves_if book (λ (x : Change). test x && nat_lt x.end from) to e h l (and_from (test h) (nat_lt h.end from) p (lt-ltb h.end from t.before)) in
    let late : to ≤ g.unhash.begin = t.still g.unhash g.ends.there g.ends.after in
    omega (arith, late, g.before)

abbrev pub keeps_there : Given → Change → Bool
keeps_there g h = (h.bucket == g.hash.bucket) && keeps_from g.wish.card g.wish.moment g.wish.rule h.card

abbrev pub waits_there : Given → Change → Bool
waits_there g h = (h.bucket == g.hash.bucket) && waits_at g.wish.card h.card

pub unkept_if : (book : List Change) (g : Given) → list_all (leaves_if_passes book (λ (h : Change). keeps_there g h && nat_lt h.end g.hash.begin) g.hash.begin) book ≡ true
    → (h : Change) → IsLife (Among book) h → h.bucket ≡ g.hash.bucket → keeps_from g.wish.card g.wish.moment g.wish.rule h.card ≡ true → ¬ (StandsAt (Among book) h g.hash.begin)
unkept_if book g k h l b e = none_throughout book (keeps_there g) g.hash.begin g.hash.begin k h l (and_from (h.bucket == g.hash.bucket) (keeps_from g.wish.card g.wish.moment g.wish.rule h.card) (eq-eqb h.bucket g.hash.bucket b) e)

abbrev IsNone : Option Change → Type 0
IsNone None = Unit {0}
IsNone (Some u) = ⊥

-- where none gave way
pub free_if : (book : List Change) (g : Given) → g.replaced ≡ None → list_all (leaves_if_passes book (λ (h : Change). keeps_there g h && nat_lt h.end g.hash.begin) g.hash.begin) book ≡ true
    → list_all (leaves_if_passes book (λ (h : Change). waits_there g h && nat_lt h.end g.hash.begin) g.hash.begin) book ≡ true → WasFree (Among book) g
free_if book g none k w = record {
  unkept = unkept_if book g k;
  unwaited = λ _ h l b e. none_throughout book (waits_there g) g.hash.begin g.hash.begin w h l (and_from (h.bucket == g.hash.bucket) (waits_at g.wish.card h.card) (eq-eqb h.bucket g.hash.bucket b) e);
  gave = λ u e. absurd (subst IsNone (sym none ∙ e) tt);
}

-- Who stands

abbrev pub stays_to : Change → ℕ → Change → Bool
stays_to h number u = not (comes_after h u && nat_lt u.begin number)

stays_is : (h : Change) (number : ℕ) (u : Change) → stays_to h number u ≡ true → IsTrue (comes_after h u) → number ≤ u.begin
stays_is h number u e after = dite (dec_le number u.begin)
    (λ le. le)
    (λ ne. absurd (true≢false (sym (and_from (comes_after h u) (nat_lt u.begin number) after (lt-ltb u.begin number (omega (arith, ne)))) ∙ not-true (comes_after h u && nat_lt u.begin number) e)))

pub stands_if : (book : List Change) (h : Change) (number : ℕ) → nat_lt h.end number ≡ true → list_all (stays_to h number) book ≡ true → StandsAt (Among book) h number
stands_if book h number e k = record {
  before = ltb-true h.end number e;
  still = λ u there after. each_of (λ (x : Change). IsTrue (comes_after h x) → number ≤ x.begin) book (each_if (λ (x : Change). IsTrue (comes_after h x) → number ≤ x.begin) (stays_to h number) book (stays_is h number) k) u there after;
}
