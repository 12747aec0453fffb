-- The lives of a serial book pass each test of lives.
use Rattle.std.proofs.Common.{◌≡◌, ◌≢◌, ℕ, ◌<◌, ◌≤◌, ◌==◌, ◌&&◌, ◌||◌, not, nat_lt, Bool, true, false, List, [], ◌∷◌, Option, None, Some, refl, sym, ap, ◌∙◌, subst, arith, ◌⊎◌, inl, inr}
use Rattle.std.specs.Option.{option_map}
use Rattle.std.proofs.lemmas.Bool.{true≢false, lt-ltb, le-ltb, eqb-true, eq-eqb, false_from_ne_true, and_from, or_from}
use Rattle.list_words.specs.Lists.{Each}
use Rattle.list_words.proofs.EachLemmas.{each_map}
use Rattle.list_words.proofs.PairsLemmas.{pairs_map, pairs_weaken, pairs_both, pairs_of_each}
use Rattle.chain_book.specs.declared.book.Act.TheVariants as acts
use Rattle.chain_book.specs.declared.book.Change.{Change}
use Rattle.chain_book.specs.declared.shape.Shape.{Shape}
use Rattle.chain_book.specs.Homes.{home}
use Rattle.chain_book.specs.Tuples.{same_cards, is_full_kind}
use Rattle.race_book.specs.declared.lives.Life.{Life}
use Rattle.race_book.specs.Among.{Among}
use Rattle.race_book.specs.Lives.{IsLife, Ends, Leaves, is_hash}
use Rattle.race_book.specs.Laws.{BeginApart, EndAfter}
use Rattle.race_book.specs.Listed.{StampsDiffer, stamps_of, lives_of}
use Rattle.race_book.specs.Serial.{IsSerial}
use Rattle.race_book.proofs.Checks.{and_left, and_right}
use Rattle.race_book.proofs.Endings.{each_of, to_each, ending_ends}
use Rattle.race_book.proofs.Listing.{begin_apart, stamp_of}
use Rattle.book_audit.specs.declared.printed.Span.{Span}
use Rattle.book_audit.specs.declared.printed.PrintedLife.{PrintedLife}
use Rattle.book_audit.specs.Lines.{NoTwo, AreStamped, AreHoused, passes, some_span, is_span, ends_after, ascends, share, shares_number, is_home, meet, overlap, is_out, share_slot, begins_after, comes_in_time, are_full, are_twins}
use Rattle.book_audit.proofs.Lives.{span_of}
use Rattle.race_laws.proofs.audits.Printed.{told_card, told_life, told_lives}
use Rattle.race_laws.proofs.audits.Ascending.{IsOfBook, life_back, up_lives}
use Rattle.race_laws.proofs.audits.Renamed.{IsEndOf, end_of, ending_is}
use Rattle.race_laws.proofs.audits.Explained.{home_told}

-- the lives of a serial book pass each test of lives, whatever numbers stand for its names
pub record LivesPass (shape : Shape) (seed clock : ℕ) (number : ℕ → ℕ) (book : List Change) : Type 0 where
  pub stamped : AreStamped clock (told_lives number book)
  pub housed : AreHoused shape seed (told_lives number book)
  pub overlap : NoTwo overlap (told_lives number book)
  pub slots : NoTwo share_slot (told_lives number book)
  pub twins : NoTwo are_twins (told_lives number book)

-- two changes have no number in common
record Apart (c d : Change) : Type 0 where
  begins : c.begin ≢ d.begin
  first : c.begin ≢ d.end
  last : c.end ≢ d.begin
  ends : c.end ≢ d.end

turned : (c d : Change) → Apart c d → Apart d c
turned c d a = record { begins = λ e. a.begins (sym e); first = λ e. a.last (sym e); last = λ e. a.first (sym e); ends = λ e. a.ends (sym e) }

front_apart : (c : Change) (rest : List Change) → StampsDiffer (c ∷ rest) → (d : Change) → Among rest d → Apart c d
front_apart c rest p d a = let r = stamp_of rest d a in record {
  begins = each_of (λ (k : ℕ). c.begin ≢ k) (stamps_of rest) p.0.1 d.begin r.0;
  first = each_of (λ (k : ℕ). c.begin ≢ k) (stamps_of rest) p.0.1 d.end r.1;
  last = each_of (λ (k : ℕ). c.end ≢ k) (stamps_of rest) p.1.0 d.begin r.0;
  ends = each_of (λ (k : ℕ). c.end ≢ k) (stamps_of rest) p.1.0 d.end r.1;
}

-- two changes are one, or apart
one_or_apart : (book : List Change) → StampsDiffer book → (c d : Change) → Among book c → Among book d → (c ≡ d) ⊎ Apart c d
one_or_apart [] p c d a b = absurd a
one_or_apart (x ∷ rest) p c d (inl e) (inl f) = inl (e ∙ sym f)
one_or_apart (x ∷ rest) p c d (inl e) (inr b) = inr (subst (λ y. Apart y d) (sym e) (front_apart x rest p d b))
one_or_apart (x ∷ rest) p c d (inr a) (inl f) = inr (turned d c (subst (λ y. Apart y c) (sym f) (front_apart x rest p c a)))
one_or_apart (x ∷ rest) p c d (inr a) (inr b) = one_or_apart rest p.1.1 c d a b

-- a change of a life
data IsPart (l : Life) (c : Change) : Type 0 where
  by_hash : c ≡ l.hash → IsPart l c
  by_unhash : l.unhash ≡ Some c → IsPart l c

-- a test that no change of a life passes
none_by : (test : Span → Bool) (o : Option Change) → ((c : Change) → o ≡ Some c → test (span_of c) ≡ false) → passes test (option_map span_of o) ≡ false
none_by test None f = refl
none_by test (Some c) f = f c refl

not_equal : (a b : ℕ) → a ≢ b → (a == b) ≡ false
not_equal a b n = false_from_ne_true (a == b) (λ e. n (eqb-true a b e))

no_share : (c d : Change) → Apart c d → share (span_of c) (span_of d) ≡ false
no_share c d a =
    or_from ((c.begin == d.begin) || (c.begin == d.end) || (c.end == d.begin)) (c.end == d.end)
    (or_from ((c.begin == d.begin) || (c.begin == d.end)) (c.end == d.begin)
    (or_from (c.begin == d.begin) (c.begin == d.end) (not_equal c.begin d.begin a.begins) (not_equal c.begin d.end a.first))
    (not_equal c.end d.begin a.last))
    (not_equal c.end d.end a.ends)

not_both : (a b : Bool) → (a ≡ true) ⊎ (b ≡ true) → (not a && not b) ≡ false
not_both true b e = refl
not_both false true e = refl
not_both false false (inl e) = sym e
not_both false false (inr e) = sym e

no_meeting : (c d : Change) → (c.end < d.begin) ⊎ (d.end < c.begin) → meet (span_of c) (span_of d) ≡ false
no_meeting c d (inl l) = not_both (nat_lt c.end d.begin) (nat_lt d.end c.begin) (inl (lt-ltb c.end d.begin l))
no_meeting c d (inr l) = not_both (nat_lt c.end d.begin) (nat_lt d.end c.begin) (inr (lt-ltb d.end c.begin l))

unless : (a b : Bool) → (a ≡ true → b ≡ false) → (a && b) ≡ false
unless true b f = f refl
unless false b f = refl

unless_out : (a b c : Bool) → (a ≡ true → (b ≡ true) ⊎ (c ≡ true)) → (a && not b && not c) ≡ false
unless_out false b c f = refl
unless_out true b c f = not_both b c (f refl)

late_one : (a b c d : Bool) → (a ≡ true → b ≡ true → d ≡ false) → (a && b && c && d) ≡ false
late_one false b c d f = refl
late_one true false c d f = refl
late_one true true false d f = refl
late_one true true true d f = f refl refl

module _ (shape : Shape) (seed clock : ℕ) (number : ℕ → ℕ) (book : List Change) (stamps : StampsDiffer book) (below : Each (λ (n : ℕ). n < clock) (stamps_of book)) (after : EndAfter book) (serial : IsSerial (Among book) shape seed) where
  begins : BeginApart book
  begins = begin_apart book stamps

  abbrev In : Change → Type 0
  In = Among book

  abbrev OfBook : Life → Type 0
  OfBook = IsOfBook book

  life : (l : Life) → OfBook l → IsLife In l.hash
  life l b = record { there = b.there; hash = b.hash }

  ended : (l : Life) → OfBook l → (u : Change) → l.unhash ≡ Some u → Ends In l.hash u
  ended l b u e = ending_ends book l.hash u (sym b.unhash ∙ e)

  ends_it : (l : Life) → OfBook l → (u : Change) → l.unhash ≡ Some u → IsEndOf number book begins serial.ends l.hash u
  ends_it l b u e = end_of number book begins serial.ends l.hash u (life l b) (ended l b u e)

  part_there : (l : Life) → OfBook l → (c : Change) → IsPart l c → In c
  part_there l b c (by_hash p) = subst In (sym p) b.there
  part_there l b c (by_unhash e) = (ends_it l b c e).there

  part_bucket : (l : Life) → OfBook l → (c : Change) → IsPart l c → c.bucket ≡ l.hash.bucket
  part_bucket l b c (by_hash p) = ap (λ (x : Change). x.bucket) p
  part_bucket l b c (by_unhash e) = (ends_it l b c e).bucket

  acts_differ : (c d : Change) → c.act ≡ acts.Hash → d.act ≡ acts.Unhash → c ≡ d → ⊥
  acts_differ c d e f p = true≢false (sym (ap is_hash e) ∙ ap (λ (x : Change). is_hash x.act) p ∙ ap is_hash f)

  -- changes of different lives differ
  parts_differ : (l m : Life) → OfBook l → OfBook m → l.hash.begin < m.hash.begin → (c d : Change) → IsPart l c → IsPart m d → c ≡ d → ⊥
  parts_differ l m b k lt c d (by_hash p) (by_hash q) e = absurd (omega (arith, lt, ap (λ (x : Change). x.begin) (sym p ∙ e ∙ q)))
  parts_differ l m b k lt c d (by_hash p) (by_unhash f) e =
      acts_differ l.hash d b.hash (ends_it m k d f).follows.act (sym p ∙ e)
  parts_differ l m b k lt c d (by_unhash f) (by_hash q) e =
      acts_differ m.hash c k.hash (ends_it l b c f).follows.act (sym q ∙ sym e)
  parts_differ l m b k lt c d (by_unhash f) (by_unhash g) e =
      let u : Ends In l.hash d = subst (λ x. Ends In l.hash x) e (ended l b c f) in
      let one = serial.ends d (ends_it m k d g).there (ends_it m k d g).follows.act in
      absurd (omega (arith, lt, one.only l.hash (life l b) u, one.only m.hash (life m k) (ended m k d g)))

  apart_parts : (l m : Life) → OfBook l → OfBook m → l.hash.begin < m.hash.begin → (c d : Change) → IsPart l c → IsPart m d → Apart c d
  apart_parts l m b k lt c d i j = elim (one_or_apart book stamps c d (part_there l b c i) (part_there m k d j)) as (λ _. Apart c d) [
    | inl e ↦ absurd (parts_differ l m b k lt c d i j e)
    | inr a ↦ a
  ]

  -- a test that no change of the one and change of the other pass
  none_of : (test : Span → Span → Bool) (l m : Life) → ((c d : Change) → IsPart l c → IsPart m d → test (span_of c) (span_of d) ≡ false)
      → some_span (λ s. some_span (test s) (told_life number m)) (told_life number l) ≡ false
  none_of test l m f =
      let inner = λ (c : Change) (i : IsPart l c). or_from (test (span_of c) (span_of m.hash)) (passes (test (span_of c)) (option_map span_of m.unhash))
      (f c m.hash i (by_hash refl)) (none_by (test (span_of c)) m.unhash (λ d e. f c d i (by_unhash e))) in
      or_from (some_span (test (span_of l.hash)) (told_life number m)) (passes (λ s. some_span (test s) (told_life number m)) (option_map span_of l.unhash))
      (inner l.hash (by_hash refl)) (none_by (λ s. some_span (test s) (told_life number m)) l.unhash (λ c e. inner c (by_unhash e)))

  numbers_clear : (l m : Life) → OfBook l → OfBook m → l.hash.begin < m.hash.begin → shares_number (told_life number l) (told_life number m) ≡ false
  numbers_clear l m b k lt = none_of share l m (λ c d i j. no_share c d (apart_parts l m b k lt c d i j))

  buckets_clear : (l m : Life) → OfBook l → OfBook m → l.hash.begin < m.hash.begin → overlap (told_life number l) (told_life number m) ≡ false
  buckets_clear l m b k lt = unless (l.hash.bucket == m.hash.bucket) (some_span (λ s. some_span (meet s) (told_life number m)) (told_life number l)) (λ e. none_of meet l m (λ c d i j.
      no_meeting c d (serial.apart c d (part_there l b c i) (part_there m k d j)
      (part_bucket l b c i ∙ eqb-true l.hash.bucket m.hash.bucket e ∙ sym (part_bucket m k d j))
      (apart_parts l m b k lt c d i j).begins)))

  out : (l : Life) → OfBook l → (n : ℕ) → Leaves In l.hash n → is_out (told_life number l) n ≡ true
  out l b n v =
      let e : l.unhash ≡ Some v.unhash = b.unhash ∙ ending_is number book begins serial.ends l.hash v.unhash v.ends in
      subst (λ o. passes (λ s. nat_lt s.begin n) (option_map span_of o) ≡ true) (sym e) (lt-ltb v.unhash.begin n v.before)

  slots_clear : (l m : Life) → OfBook l → OfBook m → l.hash.begin < m.hash.begin → share_slot (told_life number l) (told_life number m) ≡ false
  slots_clear l m b k lt = unless_out (l.hash.slot == m.hash.slot) (is_out (told_life number l) m.hash.end) (is_out (told_life number m) l.hash.end)
      (λ e. elim (serial.slots l.hash m.hash (life l b) (life m k) (eqb-true l.hash.slot m.hash.slot e) (λ q. absurd (omega (arith, lt, q))))
      as (λ _. (is_out (told_life number l) m.hash.end ≡ true) ⊎ (is_out (told_life number m) l.hash.end ≡ true)) [
        | inl v ↦ inl (out l b m.hash.end v)
        | inr v ↦ inr (out m k l.hash.end v)
      ])

  too_late : (l : Life) → OfBook l → (n : ℕ) → Leaves In l.hash n → begins_after n (told_life number l).unhash ≡ false
  too_late l b n v =
      let e : l.unhash ≡ Some v.unhash = b.unhash ∙ ending_is number book begins serial.ends l.hash v.unhash v.ends in
      let le : v.unhash.begin ≤ n = omega (arith, v.before) in
      subst (λ o. begins_after n (option_map span_of o) ≡ false) (sym e) (le-ltb n v.unhash.begin le)

  twins_clear : (l m : Life) → OfBook l → OfBook m → l.hash.begin < m.hash.begin → are_twins (told_life number l) (told_life number m) ≡ false
  twins_clear l m b k lt =
      late_one (are_full (told_life number l) (told_life number m)) (same_cards l.hash.card m.hash.card)
      (comes_in_time (told_life number l) (told_life number m)) (comes_in_time (told_life number m) (told_life number l))
      (λ f t. too_late l b m.hash.begin (serial.twins l.hash m.hash (life l b) (life m k) (record {
        one = and_left (is_full_kind l.hash.card.kind) (is_full_kind m.hash.card.kind) f;
        other = and_right (is_full_kind l.hash.card.kind) (is_full_kind m.hash.card.kind) f;
        tuple = t;
      }) lt))

  span_is : (c : Change) → In c → is_span clock (span_of c) ≡ true
  span_is c a = and_from (nat_lt c.begin c.end) (nat_lt c.end clock) (lt-ltb c.begin c.end (after c a))
      (lt-ltb c.end clock (each_of (λ (n : ℕ). n < clock) (stamps_of book) below c.end (stamp_of book c a).1))

  ends_later : (l : Life) → OfBook l → (o : Option Change) → l.unhash ≡ o → ends_after (span_of l.hash) clock (option_map span_of o) ≡ true
  ends_later l b None e = refl
  ends_later l b (Some u) e = let f = ends_it l b u e in
      and_from (nat_lt l.hash.end u.begin) (is_span clock (span_of u)) (lt-ltb l.hash.end u.begin f.follows.later) (span_is u f.there)

  life_ascends : (l : Life) → OfBook l → ascends clock (told_life number l) ≡ true
  life_ascends l b = and_from (is_span clock (span_of l.hash)) (ends_after (span_of l.hash) clock (option_map span_of l.unhash))
      (span_is l.hash b.there) (ends_later l b l.unhash refl)

  life_home : (l : Life) → OfBook l → is_home shape seed (told_life number l) ≡ true
  life_home l b = eq-eqb l.hash.bucket (home shape seed (told_card number l.hash.card)) (serial.homes l.hash b.there ∙ sym (home_told number shape seed l.hash.card))

  all_of_book : Each OfBook (lives_of book)
  all_of_book = to_each OfBook (lives_of book) (life_back book)

  each_passes : (test : PrintedLife → Bool) → ((l : Life) → OfBook l → test (told_life number l) ≡ true) → Each (λ l. test l ≡ true) (told_lives number book)
  each_passes test f = each_map (λ l. test l ≡ true) (told_life number) (lives_of book)
      (to_each (λ l. test (told_life number l) ≡ true) (lives_of book) (λ l a. f l (life_back book l a)))

  no_two : (clash : PrintedLife → PrintedLife → Bool) → ((l m : Life) → OfBook l → OfBook m → l.hash.begin < m.hash.begin → clash (told_life number l) (told_life number m) ≡ false) → NoTwo clash (told_lives number book)
  no_two clash f = pairs_map (λ l m. clash l m ≡ false) (told_life number) (lives_of book)
      (pairs_weaken (λ (l m : Life). (OfBook l × OfBook m) × (l.hash.begin < m.hash.begin)) (λ l m. clash (told_life number l) (told_life number m) ≡ false) (lives_of book)
      (λ l m p. f l m p.0.0 p.0.1 p.1)
      (pairs_both (λ l m. OfBook l × OfBook m) (λ (l m : Life). l.hash.begin < m.hash.begin) (lives_of book) (pairs_of_each OfBook (lives_of book) all_of_book) (up_lives book begins)))

  pub lives_pass : LivesPass shape seed clock number book
  lives_pass = record {
    stamped = record { ascend = each_passes (ascends clock) life_ascends; differ = no_two shares_number numbers_clear };
    housed = each_passes (is_home shape seed) life_home;
    overlap = no_two overlap buckets_clear;
    slots = no_two share_slot slots_clear;
    twins = no_two are_twins twins_clear;
  }
