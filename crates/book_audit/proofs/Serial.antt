-- The changes of sound lives are serial.
use Rattle.std.proofs.Common.{◌≡◌, ◌≢◌, ℕ, ◌<◌, ◌==◌, ◌&&◌, ◌||◌, not, nat_lt, Bool, true, false, List, Option, None, Some, refl, sym, ap, ◌∙◌, subst, arith, ◌⊎◌, inl, inr}
use Rattle.std.proofs.lemmas.Bool.{true≢false, ltb-true, ltb-false, lt-ltb, eqb-true, eq-eqb, cases_Bool, and_from, or_parts}
use Rattle.list_words.proofs.EachLemmas.{some_same}
use Rattle.list_words.proofs.PairsLemmas.{pairs_weaken}
use Rattle.sock_card.specs.declared.card.Card.{Card}
use Rattle.chain_book.specs.declared.book.Act.TheVariants as acts
use Rattle.chain_book.specs.declared.book.Change.{Change}
use Rattle.chain_book.specs.declared.shape.Shape.{Shape}
use Rattle.chain_book.specs.Homes.{home}
use Rattle.chain_book.specs.Tuples.{same_cards, is_full_kind}
use Rattle.race_book.specs.Among.{Among}
use Rattle.race_book.specs.Lives.{IsLife, Ends, Leaves, is_unhash}
use Rattle.race_book.specs.Serial.{IsSerial, EndsOne, AreTwins}
use Rattle.race_book.proofs.Endings.{each_of}
use Rattle.race_book.proofs.Checks.{and_left, and_right}
use Rattle.race_book.proofs.Twins.{cards_turned}
use Rattle.book_audit.specs.declared.printed.Span.{Span}
use Rattle.book_audit.specs.declared.printed.PrintedLife.{PrintedLife}
use Rattle.book_audit.specs.declared.printed.Why.TheVariants as whys
use Rattle.book_audit.specs.Book.{hash_of, unhash_of, book_of}
use Rattle.book_audit.specs.Lines.{NoTwo, AreStamped, AreHoused, ascends, passes, some_span, share, shares_number, is_home, meet, overlap, share_slot, begins_after, comes_in_time, are_full, are_twins}
use Rattle.book_audit.specs.Laws.{SoundIsSerial}
use Rattle.book_audit.proofs.Lives.{IsOf, by_hash, by_unhash, Whose, whose, LifeOf, life_of, is_life, either, Ascending, hash_ascends, unhash_ascends, OutBy, SlotsClear, OwnEnd, ascending, in_slots, ends_there, ends_only, span_of, passes_not}

-- what no change of a life passes
pub span_not : (test : Span → Bool) (l : PrintedLife) (c : Change) → IsOf l c → some_span test l ≡ false → test (span_of c) ≡ false
span_not test l c (by_hash p) e =
    subst (λ x. test (span_of x) ≡ false) (sym p) (or_parts (test l.hash) (passes test l.unhash) e).0
span_not test l c (by_unhash s f p) e =
    subst (λ x. test (span_of x) ≡ false) (sym p) (passes_not test l.unhash s f (or_parts (test l.hash) (passes test l.unhash) e).1)

bucket_of : (l : PrintedLife) (c : Change) → IsOf l c → c.bucket ≡ l.bucket
bucket_of l c (by_hash p) = ap (λ (x : Change). x.bucket) p
bucket_of l c (by_unhash s f p) = ap (λ (x : Change). x.bucket) p

card_of : (l : PrintedLife) (c : Change) → IsOf l c → c.card ≡ l.card
card_of l c (by_hash p) = ap (λ (x : Change). x.card) p
card_of l c (by_unhash s f p) = ap (λ (x : Change). x.card) p

abbrev Follow : Change → Change → Type 0
Follow c d = (c.end < d.begin) ⊎ (d.end < c.begin)

abbrev BucketsClear : PrintedLife → PrintedLife → Type 0
BucketsClear l m = l.bucket ≡ m.bucket → (c d : Change) → IsOf l c → IsOf m d → Follow c d

follow : (a b : Bool) → (not a && not b) ≡ false → (a ≡ true) ⊎ (b ≡ true)
follow true b e = inl refl
follow false true e = inr refl
follow false false e = absurd (true≢false e)

buckets_clear : (l m : PrintedLife) → overlap l m ≡ false → BucketsClear l m
buckets_clear l m e b c d i j = elim (cases_Bool (some_span (λ s. some_span (meet s) m) l)) as (λ _. Follow c d) [
  | inl t ↦ absurd (true≢false (sym (and_from (l.bucket == m.bucket) _ (eq-eqb l.bucket m.bucket b) t) ∙ e))
  | inr n ↦
      let f = span_not (meet (span_of c)) m d j (span_not (λ s. some_span (meet s) m) l c i n) in
      elim (follow (nat_lt c.end d.begin) (nat_lt d.end c.begin) f) as (λ _. Follow c d) [
        | inl p ↦ inl (ltb-true c.end d.begin p)
        | inr p ↦ inr (ltb-true d.end c.begin p)
      ]
]

flipped : (c d : Change) → Follow c d → Follow d c
flipped c d (inl p) = inr p
flipped c d (inr p) = inl p

buckets_turned : (l m : PrintedLife) → BucketsClear l m → BucketsClear m l
buckets_turned l m f b c d i j = flipped d c (f (sym b) d c j i)

abbrev BeginClear : PrintedLife → PrintedLife → Type 0
BeginClear l m = (c d : Change) → IsOf l c → IsOf m d → c.begin ≢ d.begin

begin_clear : (l m : PrintedLife) → shares_number l m ≡ false → BeginClear l m
begin_clear l m e c d i j p =
    let s = span_of c in
    let t = span_of d in
    let f = span_not (share s) m d j (span_not (λ x. some_span (share x) m) l c i e) in
    let g = (or_parts ((s.begin == t.begin) || (s.begin == t.end) || (s.end == t.begin)) (s.end == t.end) f).0 in
    let h = (or_parts ((s.begin == t.begin) || (s.begin == t.end)) (s.end == t.begin) g).0 in
    true≢false (sym (eq-eqb s.begin t.begin p) ∙ (or_parts (s.begin == t.begin) (s.begin == t.end) h).0)

begin_turned : (l m : PrintedLife) → BeginClear l m → BeginClear m l
begin_turned l m f c d i j e = f d c j i (sym e)

-- of two full cards of one four-tuple one comes too late to meet the other
abbrev TwinsClear : PrintedLife → PrintedLife → Type 0
TwinsClear l m =
    are_full l m ≡ true → same_cards l.card m.card ≡ true
    → (comes_in_time l m ≡ false) ⊎ (comes_in_time m l ≡ false)

late : (a b c d : Bool) → (a && b && c && d) ≡ false → a ≡ true → b ≡ true → (c ≡ false) ⊎ (d ≡ false)
late true true true d e p q = inr e
late true true false d e p q = inl refl
late false b c d e p q = absurd (true≢false (sym p))
late true false c d e p q = absurd (true≢false (sym q))

twins_clear : (l m : PrintedLife) → are_twins l m ≡ false → TwinsClear l m
twins_clear l m e f s = late (are_full l m) (same_cards l.card m.card) (comes_in_time l m) (comes_in_time m l) e f s

twins_turned : (l m : PrintedLife) → TwinsClear l m → TwinsClear m l
twins_turned l m c f s =
    elim (c (and_from (is_full_kind l.card.kind) (is_full_kind m.card.kind) (and_right (is_full_kind m.card.kind) (is_full_kind l.card.kind) f) (and_left (is_full_kind m.card.kind) (is_full_kind l.card.kind) f)) (cards_turned m.card l.card s))
    as (λ _. (comes_in_time m l ≡ false) ⊎ (comes_in_time l m ≡ false)) [ inl p ↦ inr p | inr p ↦ inl p ]

-- what comes too late finds the other on its way out
found_out : (n : ℕ) (l : PrintedLife) (o : Option Span) → l.unhash ≡ o → begins_after n o ≡ false → ((s : Span) → l.unhash ≡ Some s → s.begin ≢ n) → OutBy l n
found_out n l None e p d = absurd (true≢false p)
found_out n l (Some s) e p d = record { unhash = s; is = e; before = omega (arith, ltb-false n s.begin p, d s e) }

before_out : (n : ℕ) (m : PrintedLife) (o : Option Span) → m.unhash ≡ o → ((s : Span) → m.unhash ≡ Some s → n < s.begin) → begins_after n o ≡ true
before_out n m None e f = refl
before_out n m (Some s) e f = lt-ltb n s.begin (f s e)

unhash_act : (l : PrintedLife) (c : Change) → c.act ≡ acts.Unhash → c ≡ hash_of l → ⊥
unhash_act l c e p = true≢false (sym (ap is_unhash e) ∙ ap (λ (x : Change). is_unhash x.act) p)

module _ (clock : ℕ) (lives : List PrintedLife) (stamped : AreStamped clock lives) (slots : NoTwo share_slot lives) where
  abbrev Book : Change → Type 0
  Book = Among (book_of lives)

  up : (l : PrintedLife) → Among lives l → ascends clock l ≡ true
  up = ascending clock lives stamped slots

  follow_in : (l : PrintedLife) → Among lives l → (c d : Change) → IsOf l c → IsOf l d → c.begin ≢ d.begin → Follow c d
  follow_in l a c d (by_hash p) (by_hash q) n = absurd (n (ap (λ (x : Change). x.begin) (p ∙ sym q)))
  follow_in l a c d (by_hash p) (by_unhash s e q) n =
      inl (omega (arith, ap (λ (x : Change). x.end) p, ap (λ (x : Change). x.begin) q, (unhash_ascends clock l (up l a) s e).after))
  follow_in l a c d (by_unhash s e p) (by_hash q) n =
      inr (omega (arith, ap (λ (x : Change). x.begin) p, ap (λ (x : Change). x.end) q, (unhash_ascends clock l (up l a) s e).after))
  follow_in l a c d (by_unhash s e p) (by_unhash t f q) n =
      absurd (n (ap (λ (x : Change). x.begin) p ∙ ap (λ (x : Span). x.begin) (some_same s t (sym e ∙ f)) ∙ sym (ap (λ (x : Change). x.begin) q)))

  follow_of : (l m : PrintedLife) → Among lives l → (c d : Change) → IsOf l c → IsOf m d → c.bucket ≡ d.bucket → c.begin ≢ d.begin → (l ≡ m) ⊎ BucketsClear l m → Follow c d
  follow_of l m a c d i j b n (inl p) = follow_in l a c d i (subst (λ x. IsOf x d) (sym p) j) n
  follow_of l m a c d i j b n (inr f) = f (sym (bucket_of l c i) ∙ b ∙ bucket_of m d j) c d i j

  apart : NoTwo overlap lives → (c d : Change) → Book c → Book d → c.bucket ≡ d.bucket → c.begin ≢ d.begin → Follow c d
  apart o c d a b e n =
      let v : Whose lives c = whose lives c a in
      let w : Whose lives d = whose lives d b in
      follow_of v.life w.life v.there c d v.is w.is e n
      (either BucketsClear buckets_turned lives (pairs_weaken (λ x y. overlap x y ≡ false) BucketsClear lives buckets_clear o) v.life w.life v.there w.there)

  at_home : (shape : Shape) (seed : ℕ) → AreHoused shape seed lives → (c : Change) → Book c → c.bucket ≡ home shape seed c.card
  at_home shape seed h c a = let w : Whose lives c = whose lives c a in
      bucket_of w.life c w.is
      ∙ eqb-true w.life.bucket (home shape seed w.life.card) (each_of (λ l. is_home shape seed l ≡ true) lives h w.life w.there)
      ∙ sym (ap (λ (x : Card). home shape seed x) (card_of w.life c w.is))

  -- two lives that one change ends begin together
  one_life : (l m : PrintedLife) (s t : Span) → Among lives l → Among lives m → l.unhash ≡ Some s → m.unhash ≡ Some t → s.begin ≡ t.begin → l.slot ≡ m.slot → (l ≡ m) ⊎ SlotsClear l m → l.hash.begin ≡ m.hash.begin
  one_life l m s t a b e f q z (inl p) = ap (λ (x : PrintedLife). x.hash.begin) p
  one_life l m s t a b e f q z (inr c) = elim (c z) as (λ _. l.hash.begin ≡ m.hash.begin) [
    | inl o ↦ absurd (omega (arith, o.before, q, ap (λ (x : Span). x.begin) (some_same o.unhash s (sym o.is ∙ e)), (unhash_ascends clock m (up m b) t f).after))
    | inr o ↦ absurd (omega (arith, o.before, q, ap (λ (x : Span). x.begin) (some_same o.unhash t (sym o.is ∙ f)), (unhash_ascends clock l (up l a) s e).after))
  ]

  only_life : (l : PrintedLife) (s : Span) → Among lives l → l.unhash ≡ Some s → (h : Change) → IsLife Book h → Ends Book h (unhash_of l s) → h.begin ≡ l.hash.begin
  only_life l s a e h i f =
      let w : LifeOf lives h = life_of lives h i in
      let m = w.life in
      let g : OwnEnd m (unhash_of l s) = ends_only clock lives stamped slots m w.there (unhash_of l s) (subst (λ x. Ends Book x (unhash_of l s)) w.is f) in
      ap (λ (x : Change). x.begin) w.is
      ∙ one_life m l g.unhash s w.there a g.is e (sym (ap (λ (x : Change). x.begin) g.same)) (sym (ap (λ (x : Change). x.slot) g.same)) (in_slots clock lives stamped slots m l w.there a)

  ends_one : (u : Change) → u.act ≡ acts.Unhash → (l : PrintedLife) → Among lives l → IsOf l u → EndsOne Book u
  ends_one u e l a (by_hash p) = absurd (unhash_act l u e p)
  ends_one u e l a (by_unhash s f p) = subst (λ x. EndsOne Book x) (sym p) (record {
    life = hash_of l;
    is = is_life lives l a;
    ends = ends_there clock lives stamped slots l a s f;
    bucket = refl;
    card = refl;
    only = only_life l s a f;
  })

  leaves : (l : PrintedLife) → Among lives l → (n : ℕ) → OutBy l n → Leaves Book (hash_of l) n
  leaves l a n o = record { unhash = unhash_of l o.unhash; ends = ends_there clock lives stamped slots l a o.unhash o.is; before = o.before }

  slots_of : (l m : PrintedLife) → Among lives l → Among lives m → l.slot ≡ m.slot → l.hash.begin ≢ m.hash.begin → (l ≡ m) ⊎ SlotsClear l m → Leaves Book (hash_of l) m.hash.end ⊎ Leaves Book (hash_of m) l.hash.end
  slots_of l m a b s n (inl p) = absurd (n (ap (λ (x : PrintedLife). x.hash.begin) p))
  slots_of l m a b s n (inr c) = elim (c s) as (λ _. Leaves Book (hash_of l) m.hash.end ⊎ Leaves Book (hash_of m) l.hash.end) [
    | inl o ↦ inl (leaves l a m.hash.end o)
    | inr o ↦ inr (leaves m b l.hash.end o)
  ]

  follow_slots : (h g : Change) → IsLife Book h → IsLife Book g → h.slot ≡ g.slot → h.begin ≢ g.begin → Leaves Book h g.end ⊎ Leaves Book g h.end
  follow_slots h g i j =
      let v : LifeOf lives h = life_of lives h i in
      let w : LifeOf lives g = life_of lives g j in
      subst (λ (x : Change). h.slot ≡ x.slot → h.begin ≢ x.begin → Leaves Book h x.end ⊎ Leaves Book x h.end) (sym w.is)
      (subst (λ (y : Change). y.slot ≡ w.life.slot → y.begin ≢ w.life.hash.begin → Leaves Book y w.life.hash.end ⊎ Leaves Book (hash_of w.life) y.end) (sym v.is)
      (λ s n. slots_of v.life w.life v.there w.there s n (in_slots clock lives stamped slots v.life w.life v.there w.there)))

  begin_apart : (l m : PrintedLife) → Among lives l → Among lives m → (s : Span) → l.unhash ≡ Some s → (l ≡ m) ⊎ BeginClear l m → s.begin ≢ m.hash.begin
  begin_apart l m a b s e (inl p) q =
      let f : Ascending l s = unhash_ascends clock l (up l a) s e in
      omega (arith, hash_ascends clock l (up l a), f.after, q, ap (λ (x : PrintedLife). x.hash.begin) p)
  begin_apart l m a b s e (inr c) q = c (unhash_of l s) (hash_of m) (by_unhash s e refl) (by_hash refl) q

  twins_of : (l m : PrintedLife) → Among lives l → Among lives m → are_full l m ≡ true → same_cards l.card m.card ≡ true → l.hash.begin < m.hash.begin → (l ≡ m) ⊎ TwinsClear l m → Leaves Book (hash_of l) m.hash.begin
  twins_of l m a b f s n (inl p) = absurd (omega (arith, n, ap (λ (x : PrintedLife). x.hash.begin) p))
  twins_of l m a b f s n (inr c) = elim (c f s) as (λ _. Leaves Book (hash_of l) m.hash.begin) [
    | inl p ↦ absurd (true≢false (sym (before_out l.hash.begin m m.unhash refl (λ t e. let g : Ascending m t = unhash_ascends clock m (up m b) t e in omega (arith, n, g.after, hash_ascends clock m (up m b)))) ∙ p))
    | inr p ↦ leaves l a m.hash.begin (found_out m.hash.begin l l.unhash refl p (λ t e. begin_apart l m a b t e
        (either BeginClear begin_turned lives (pairs_weaken (λ x y. shares_number x y ≡ false) BeginClear lives begin_clear stamped.differ) l m a b)))
  ]

  no_twins : NoTwo are_twins lives → (h g : Change) → IsLife Book h → IsLife Book g → AreTwins h g → h.begin < g.begin → Leaves Book h g.begin
  no_twins o h g i j =
      let v : LifeOf lives h = life_of lives h i in
      let w : LifeOf lives g = life_of lives g j in
      subst (λ (x : Change). AreTwins h x → h.begin < x.begin → Leaves Book h x.begin) (sym w.is)
      (subst (λ (y : Change). AreTwins y (hash_of w.life) → y.begin < w.life.hash.begin → Leaves Book y w.life.hash.begin) (sym v.is)
      (λ t n. twins_of v.life w.life v.there w.there (and_from (is_full_kind v.life.card.kind) (is_full_kind w.life.card.kind) t.one t.other) t.tuple n
      (either TwinsClear twins_turned lives (pairs_weaken (λ x y. are_twins x y ≡ false) TwinsClear lives twins_clear o) v.life w.life v.there w.there)))

  pub serial : (shape : Shape) (seed : ℕ) → AreHoused shape seed lives → NoTwo overlap lives → NoTwo are_twins lives → IsSerial Book shape seed
  serial shape seed h o t = record {
    apart = apart o;
    homes = at_home shape seed h;
    ends = λ u a e. let w : Whose lives u = whose lives u a in ends_one u e w.life w.there w.is;
    slots = follow_slots;
    twins = no_twins t;
  }

pub sound_serial : SoundIsSerial
sound_serial p f =
    serial p.clock p.lives.items (f whys.Stamp) (f whys.Slot) p.shape p.seed (f whys.Home) (f whys.Overlap) (f whys.Twin)
