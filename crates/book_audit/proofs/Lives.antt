-- The book of some lives: whose its changes are, and what ends the lives.
use Rattle.std.proofs.Common.{◌≡◌, ℕ, ◌<◌, ◌≤◌, ◌==◌, ◌&&◌, not, nat_lt, Bool, true, false, List, [], ◌∷◌, Option, None, Some, refl, sym, ap, ◌∙◌, subst, arith, ◌⊎◌, inl, inr}
use Rattle.std.proofs.lemmas.Bool.{true≢false, ltb-true, lt-ltb, eqb-true, eq-eqb, and_from}
use Rattle.list_words.specs.Lists.{Pairs}
use Rattle.list_words.proofs.EachLemmas.{some_same}
use Rattle.list_words.proofs.PairsLemmas.{pairs_weaken}
use Rattle.chain_book.specs.declared.book.Act.TheVariants as acts
use Rattle.chain_book.specs.declared.book.Change.{Change}
use Rattle.race_book.specs.Among.{Among}
use Rattle.race_book.specs.Lives.{IsLife, Ends, comes_after, is_hash}
use Rattle.race_book.proofs.AmongLemmas.{among_either, among_left, among_right}
use Rattle.race_book.proofs.Endings.{each_of}
use Rattle.race_book.proofs.Checks.{and_left, and_right}
use Rattle.book_audit.specs.declared.printed.Span.{Span}
use Rattle.book_audit.specs.declared.printed.PrintedLife.{PrintedLife}
use Rattle.book_audit.specs.Book.{hash_of, unhash_of, with_unhash, changes_of, book_of}
use Rattle.book_audit.specs.Lines.{NoTwo, AreStamped, passes, is_span, ends_after, ascends, is_out, share_slot}

-- a change is one of a life's
pub data IsOf (l : PrintedLife) (c : Change) : Type 0 where
  by_hash : c ≡ hash_of l → IsOf l c
  by_unhash : (s : Span) → l.unhash ≡ Some s → c ≡ unhash_of l s → IsOf l c

pub slot_of : (l : PrintedLife) (c : Change) → IsOf l c → c.slot ≡ l.slot
slot_of l c (by_hash p) = ap (λ (x : Change). x.slot) p
slot_of l c (by_unhash s f p) = ap (λ (x : Change). x.slot) p

abbrev pub span_of : Change → Span
span_of c = record { begin = c.begin; end = c.end }

pub passes_not : (test : Span → Bool) (o : Option Span) (s : Span) → o ≡ Some s → passes test o ≡ false → test s ≡ false
passes_not test o s e f = subst (λ x. passes test x ≡ false) e f

pub record Whose (lives : List PrintedLife) (c : Change) : Type 0 where
  pub life : PrintedLife
  pub there : Among lives life
  pub is : IsOf life c

of_unhash : (l : PrintedLife) (c : Change) (o : Option Span) → l.unhash ≡ o → Among (with_unhash l o) c → IsOf l c
of_unhash l c None e a = absurd a
of_unhash l c (Some s) e (inl p) = by_unhash s e p
of_unhash l c (Some s) e (inr a) = absurd a

pub of : (l : PrintedLife) (c : Change) → Among (changes_of l) c → IsOf l c
of l c (inl p) = by_hash p
of l c (inr a) = of_unhash l c l.unhash refl a

module _ {A : Type 0} where
  -- two items are one, or stand to each other as pairs do, where that goes both ways
  pub either : (R : A → A → Type 0) → ((x y : A) → R x y → R y x) → (xs : List A) → Pairs R xs → (x y : A) → Among xs x → Among xs y → (x ≡ y) ⊎ R x y
  either R swap [] p x y a b = absurd a
  either R swap (z ∷ zs) p x y (inl e) (inl f) = inl (e ∙ sym f)
  either R swap (z ∷ zs) p x y (inl e) (inr b) = inr (subst (λ w. R w y) (sym e) (each_of (R z) zs p.0 y b))
  either R swap (z ∷ zs) p x y (inr a) (inl f) = inr (subst (λ w. R x w) (sym f) (swap z x (each_of (R z) zs p.0 x a)))
  either R swap (z ∷ zs) p x y (inr a) (inr b) = either R swap zs p.1 x y a b

pub whose : (lives : List PrintedLife) (c : Change) → Among (book_of lives) c → Whose lives c
whose [] c a = absurd a
whose (l ∷ rest) c a = elim (among_either c (changes_of l) (book_of rest) a) as (λ _. Whose (l ∷ rest) c) [
  | inl p ↦ record { life = l; there = inl refl; is = of l c p }
  | inr q ↦ let w : Whose rest c = whose rest c q in record { life = w.life; there = inr w.there; is = w.is }
]

in_book : (lives : List PrintedLife) (l : PrintedLife) → Among lives l → (c : Change) → Among (changes_of l) c → Among (book_of lives) c
in_book [] l a c b = absurd a
in_book (x ∷ rest) l (inl p) c b = among_left c (changes_of x) (book_of rest) (subst (λ y. Among (changes_of y) c) p b)
in_book (x ∷ rest) l (inr q) c b = among_right c (changes_of x) (book_of rest) (in_book rest l q c b)

pub hash_there : (lives : List PrintedLife) (l : PrintedLife) → Among lives l → Among (book_of lives) (hash_of l)
hash_there lives l a = in_book lives l a (hash_of l) (inl refl)

pub unhash_there : (lives : List PrintedLife) (l : PrintedLife) → Among lives l → (s : Span) → l.unhash ≡ Some s → Among (book_of lives) (unhash_of l s)
unhash_there lives l a s e = in_book lives l a (unhash_of l s) (inr (subst (λ o. Among (with_unhash l o) (unhash_of l s)) (sym e) (inl refl)))

pub is_life : (lives : List PrintedLife) (l : PrintedLife) → Among lives l → IsLife (Among (book_of lives)) (hash_of l)
is_life lives l a = record { there = hash_there lives l a; hash = refl }

-- the life whose hash it is
pub record LifeOf (lives : List PrintedLife) (h : Change) : Type 0 where
  pub life : PrintedLife
  pub there : Among lives life
  pub is : h ≡ hash_of life

life_by : (lives : List PrintedLife) (h : Change) (l : PrintedLife) → Among lives l → h.act ≡ acts.Hash → IsOf l h → LifeOf lives h
life_by lives h l a e (by_hash p) = record { life = l; there = a; is = p }
life_by lives h l a e (by_unhash s f p) =
    absurd (true≢false (sym (ap is_hash e) ∙ ap (λ (c : Change). is_hash c.act) p))

pub life_of : (lives : List PrintedLife) (h : Change) → IsLife (Among (book_of lives)) h → LifeOf lives h
life_of lives h l = let w : Whose lives h = whose lives h l.there in life_by lives h w.life w.there l.hash w.is

-- the numbers of a life ascend
pub hash_ascends : (clock : ℕ) (l : PrintedLife) → ascends clock l ≡ true → l.hash.begin < l.hash.end
hash_ascends clock l e =
    ltb-true l.hash.begin l.hash.end (and_left (nat_lt l.hash.begin l.hash.end) (nat_lt l.hash.end clock) (and_left (is_span clock l.hash) (ends_after l.hash clock l.unhash) e))

pub record Ascending (l : PrintedLife) (s : Span) : Type 0 where
  pub after : l.hash.end < s.begin
  pub itself : s.begin < s.end

pub unhash_ascends : (clock : ℕ) (l : PrintedLife) → ascends clock l ≡ true → (s : Span) → l.unhash ≡ Some s → Ascending l s
unhash_ascends clock l e s f =
    let p : ends_after l.hash clock (Some s) ≡ true =
    subst (λ o. ends_after l.hash clock o ≡ true) f (and_right (is_span clock l.hash) (ends_after l.hash clock l.unhash) e) in record {
      after = ltb-true l.hash.end s.begin (and_left (nat_lt l.hash.end s.begin) (is_span clock s) p);
      itself = ltb-true s.begin s.end (and_left (nat_lt s.begin s.end) (nat_lt s.end clock) (and_right (nat_lt l.hash.end s.begin) (is_span clock s) p));
    }

-- the unhash by which a life is out before a number
pub record OutBy (l : PrintedLife) (n : ℕ) : Type 0 where
  pub unhash : Span
  pub is : l.unhash ≡ Some unhash
  pub before : unhash.begin < n

out_by : (l : PrintedLife) (n : ℕ) (o : Option Span) → l.unhash ≡ o → passes (λ s. nat_lt s.begin n) o ≡ true → OutBy l n
out_by l n None e p = absurd (true≢false (sym p))
out_by l n (Some s) e p = record { unhash = s; is = e; before = ltb-true s.begin n p }

pub out_is : (l : PrintedLife) (n : ℕ) → is_out l n ≡ true → OutBy l n
out_is l n e = out_by l n l.unhash refl e

-- of two lives in one slot one is out before the other is in
abbrev pub SlotsClear : PrintedLife → PrintedLife → Type 0
SlotsClear l m = l.slot ≡ m.slot → OutBy l m.hash.end ⊎ OutBy m l.hash.end

outs : (a b c : Bool) → (a && not b && not c) ≡ false → a ≡ true → (b ≡ true) ⊎ (c ≡ true)
outs false b c e p = absurd (true≢false (sym p))
outs true true c e p = inl refl
outs true false true e p = inr refl
outs true false false e p = absurd (true≢false e)

slots_clear : (l m : PrintedLife) → share_slot l m ≡ false → SlotsClear l m
slots_clear l m e s = elim (outs (l.slot == m.slot) (is_out l m.hash.end) (is_out m l.hash.end) e (eq-eqb l.slot m.slot s)) as (λ _. OutBy l m.hash.end ⊎ OutBy m l.hash.end) [
  | inl p ↦ inl (out_is l m.hash.end p)
  | inr p ↦ inr (out_is m l.hash.end p)
]

slots_turned : (l m : PrintedLife) → SlotsClear l m → SlotsClear m l
slots_turned l m c s = elim (c (sym s)) as (λ _. OutBy m l.hash.end ⊎ OutBy l m.hash.end) [ inl p ↦ inr p | inr p ↦ inl p ]

-- what ends a life, as far as a later change in its slot shows
pub record EndedBy (l : PrintedLife) (c : Change) : Type 0 where
  pub unhash : Span
  pub is : l.unhash ≡ Some unhash
  pub first : unhash.begin ≤ c.begin
  pub same : c.begin ≤ unhash.begin → c ≡ unhash_of l unhash

-- a change is a life's own unhash
pub record OwnEnd (l : PrintedLife) (u : Change) : Type 0 where
  pub unhash : Span
  pub is : l.unhash ≡ Some unhash
  pub same : u ≡ unhash_of l unhash

module _ (clock : ℕ) (lives : List PrintedLife) (stamped : AreStamped clock lives) (slots : NoTwo share_slot lives) where
  abbrev pub Book : Change → Type 0
  Book = Among (book_of lives)

  pub ascending : (l : PrintedLife) → Among lives l → ascends clock l ≡ true
  ascending l a = each_of (λ m. ascends clock m ≡ true) lives stamped.ascend l a

  pub in_slots : (l m : PrintedLife) → Among lives l → Among lives m → (l ≡ m) ⊎ SlotsClear l m
  in_slots l m a b = either SlotsClear slots_turned lives (pairs_weaken (λ x y. share_slot x y ≡ false) SlotsClear lives slots_clear slots) l m a b

  ended_out : (l m : PrintedLife) → Among lives m → (s : Span) → m.unhash ≡ Some s → l.hash.end < s.begin → OutBy l m.hash.end ⊎ OutBy m l.hash.end → EndedBy l (unhash_of m s)
  ended_out l m b s e t (inl o) = let f : Ascending m s = unhash_ascends clock m (ascending m b) s e in record {
    unhash = o.unhash;
    is = o.is;
    first = omega (arith, o.before, f.after);
    same = λ le. absurd (omega (arith, o.before, f.after, le));
  }
  ended_out l m b s e t (inr o) =
      let f : o.unhash ≡ s = some_same o.unhash s (sym o.is ∙ e) in
      absurd (omega (arith, t, o.before, ap (λ (x : Span). x.begin) f))

  ended_by : (l m : PrintedLife) → Among lives m → (s : Span) → m.unhash ≡ Some s → l.slot ≡ m.slot → l.hash.end < s.begin → (l ≡ m) ⊎ SlotsClear l m → EndedBy l (unhash_of m s)
  ended_by l m b s e q t (inl p) = record {
    unhash = s;
    is = ap (λ (x : PrintedLife). x.unhash) p ∙ e;
    first = omega arith;
    same = λ _. ap (λ (x : PrintedLife). unhash_of x s) (sym p);
  }
  ended_by l m b s e q t (inr c) = ended_out l m b s e t (c q)

  ended_of : (l m : PrintedLife) → Among lives l → Among lives m → (c : Change) → IsOf m c → comes_after (hash_of l) c ≡ true → EndedBy l c
  ended_of l m a b c (by_hash p) t = absurd (true≢false (sym (subst (λ x. comes_after (hash_of l) x ≡ true) p t)))
  ended_of l m a b c (by_unhash s e p) t =
      let u : comes_after (hash_of l) (unhash_of m s) ≡ true = subst (λ x. comes_after (hash_of l) x ≡ true) p t in
      subst (λ x. EndedBy l x) (sym p) (ended_by l m b s e
      (sym (eqb-true m.slot l.slot (and_left (m.slot == l.slot) (nat_lt l.hash.end s.begin) u)))
      (ltb-true l.hash.end s.begin (and_right (m.slot == l.slot) (nat_lt l.hash.end s.begin) u)) (in_slots l m a b))

  pub ended : (l : PrintedLife) → Among lives l → (c : Change) → Book c → comes_after (hash_of l) c ≡ true → EndedBy l c
  ended l a c b t = let w : Whose lives c = whose lives c b in ended_of l w.life a w.there c w.is t

  -- the unhash of a life ends it
  pub ends_there : (l : PrintedLife) → Among lives l → (s : Span) → l.unhash ≡ Some s → Ends Book (hash_of l) (unhash_of l s)
  ends_there l a s e = record {
    there = unhash_there lives l a s e;
    after = and_from (l.slot == l.slot) (nat_lt l.hash.end s.begin) (eq-eqb l.slot l.slot refl) (lt-ltb l.hash.end s.begin (unhash_ascends clock l (ascending l a) s e).after);
    first = λ c b t. let f : EndedBy l c = ended l a c b t in
        omega (arith, f.first, ap (λ (x : Span). x.begin) (some_same f.unhash s (sym f.is ∙ e)));
  }

  -- and nothing else does
  pub ends_only : (l : PrintedLife) → Among lives l → (u : Change) → Ends Book (hash_of l) u → OwnEnd l u
  ends_only l a u e =
      let f : EndedBy l u = ended l a u e.there e.after in
      let own : Ends Book (hash_of l) (unhash_of l f.unhash) = ends_there l a f.unhash f.is in
      record { unhash = f.unhash; is = f.is; same = f.same (e.first (unhash_of l f.unhash) own.there own.after) }
