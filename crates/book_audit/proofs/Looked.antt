-- What the judge tries of a lookup is what race_book asks of it.
use Rattle.std.proofs.Common.{◌≡◌, ℕ, ◌+◌, ◌≤◌, ◌==◌, ◌&&◌, ◌||◌, not, nat_lt, nat_le, Bool, true, false, List, [], ◌∷◌, Option, None, Some, refl, sym, ap, ◌∙◌, subst, arith, inl, inr}
use Rattle.std.specs.List.{list_any}
use Rattle.std.proofs.lemmas.Bool.{true≢false, ltb-true, ltb-false, lt-ltb, le-ltb, leb-true, le-leb, eqb-true, eq-eqb, or_left, or_right, false_from_ne_true, or_cases, and_from, not-true, not_from_false}
use Rattle.sock_card.specs.declared.card.Card.{Card}
use Rattle.sock_card.specs.declared.card.Kind.{Kind}
use Rattle.sock_card.specs.Kinds.{same_kind}
use Rattle.sock_card.proofs.SameKinds.{kind_is, kinds_same}
use Rattle.sock_card.specs.Rank.{rank}
use Rattle.chain_book.specs.declared.book.Change.{Change}
use Rattle.chain_book.specs.declared.book.PacketAnswer.{PacketAnswer}
use Rattle.chain_book.specs.declared.book.PacketAnswer.TheVariants as packet_answers
use Rattle.chain_book.specs.declared.shape.Shape.{Shape}
use Rattle.chain_book.specs.Homes.{home, packet_home, listen_home}
use Rattle.race_book.specs.Among.{Among}
use Rattle.race_book.specs.Lives.{IsHash, Ends, Throughout, Stood, Meets}
use Rattle.race_book.specs.Explained.{NoneFrom, MayFind, MayEnd, MeetsSome, IsHashInto, IsOfSlot, IsAtHome, at_home, buckets_of, NamesItsBucket, IsExplained}
use Rattle.race_book.proofs.Endings.{each_of}
use Rattle.race_book.proofs.Checks.{and_left, and_right, Passing, any_is}
use Rattle.book_audit.specs.declared.printed.Span.{Span}
use Rattle.book_audit.specs.declared.printed.PrintedLife.{PrintedLife}
use Rattle.book_audit.specs.declared.printed.PrintedEnd.{PrintedEnd}
use Rattle.book_audit.specs.declared.printed.PrintedEnd.TheVariants as ends
use Rattle.book_audit.specs.declared.printed.PrintedAnswer.{PrintedAnswer}
use Rattle.book_audit.specs.declared.printed.PrintedAnswer.TheVariants as answers
use Rattle.book_audit.specs.declared.printed.PrintedLook.{PrintedLook}
use Rattle.book_audit.specs.declared.printed.PrintedPacket.{PrintedPacket}
use Rattle.book_audit.specs.declared.printed.PrintedPacket.TheVariants as packets
use Rattle.book_audit.specs.Book.{hash_of, unhash_of, book_of}
use Rattle.book_audit.specs.Lines.{NoTwo, AreStamped, AreHoused, passes, some_span, is_out, is_home, share_slot}
use Rattle.book_audit.specs.Looks.{Tells, pass_end, receipt_of, IsLookExplained, IsLineExplained}
use Rattle.book_audit.specs.Tried.{met, was_throughout, has_stood, beats, is_beaten, is_found, hashes_into, changes_in, hashes, may_end, is_bucket_of, explains, line_explained}
use Rattle.book_audit.proofs.Lives.{IsOf, by_hash, by_unhash, Whose, whose, LifeOf, life_of, is_life, hash_there, unhash_there, OwnEnd, EndedBy, ended, ends_there, ends_only, slot_of, span_of, passes_not}

pub any_if : {A : Type 0} (test : A → Bool) (xs : List A) (x : A) → Among xs x → test x ≡ true → list_any test xs ≡ true
any_if test [] x a e = absurd a
any_if test (y ∷ ys) x (inl p) e = or_left (test y) (list_any test ys) (ap test (sym p) ∙ e)
any_if test (y ∷ ys) x (inr a) e = or_right (test y) (list_any test ys) (any_if test ys x a e)

passes_is : (test : Span → Bool) (o : Option Span) (s : Span) → o ≡ Some s → test s ≡ true → passes test o ≡ true
passes_is test o s e p = subst (λ x. passes test x ≡ true) (sym e) p

none_passes : (test : Span → Bool) (l : PrintedLife) (o : Option Span) → l.unhash ≡ o → ((s : Span) → l.unhash ≡ Some s → test s ≡ false) → passes test o ≡ false
none_passes test l None e f = refl
none_passes test l (Some s) e f = f s e

-- a change of a life that passes a test
record ChangeOf (lives : List PrintedLife) (test : Span → Bool) (l : PrintedLife) : Type 0 where
  change : Change
  there : Among (book_of lives) change
  slot : change.slot ≡ l.slot
  passes : test (span_of change) ≡ true

some_unhash : (lives : List PrintedLife) (test : Span → Bool) (l : PrintedLife) → Among lives l → (o : Option Span) → l.unhash ≡ o → passes test o ≡ true → ChangeOf lives test l
some_unhash lives test l a None e p = absurd (true≢false (sym p))
some_unhash lives test l a (Some s) e p = record { change = unhash_of l s; there = unhash_there lives l a s e; slot = refl; passes = p }

some_change : (lives : List PrintedLife) (test : Span → Bool) (l : PrintedLife) → Among lives l → some_span test l ≡ true → ChangeOf lives test l
some_change lives test l a e = elim (or_cases (test l.hash) (passes test l.unhash) e) as (λ _. ChangeOf lives test l) [
  | inl p ↦ record { change = hash_of l; there = hash_there lives l a; slot = refl; passes = p }
  | inr p ↦ some_unhash lives test l a l.unhash refl p
]

change_passes : (test : Span → Bool) (l : PrintedLife) (c : Change) → IsOf l c → test (span_of c) ≡ true → some_span test l ≡ true
change_passes test l c (by_hash p) e =
    or_left (test l.hash) (passes test l.unhash) (subst (λ x. test (span_of x) ≡ true) p e)
change_passes test l c (by_unhash s f p) e =
    or_right (test l.hash) (passes test l.unhash) (passes_is test l.unhash s f (subst (λ x. test (span_of x) ≡ true) p e))

met_is : (look : PrintedLook) (c : Change) → met look (span_of c) ≡ true → Meets c look.t0 look.t1
met_is look c e = record {
  begun = ltb-true c.begin look.t1 (and_left (nat_lt c.begin look.t1) (nat_le look.t0 c.end) e);
  lasting = leb-true look.t0 c.end (and_right (nat_lt c.begin look.t1) (nat_le look.t0 c.end) e);
}

met_back : (look : PrintedLook) (c : Change) → Meets c look.t0 look.t1 → met look (span_of c) ≡ true
met_back look c m = and_from (nat_lt c.begin look.t1) (nat_le look.t0 c.end) (lt-ltb c.begin look.t1 m.begun) (le-leb look.t0 c.end m.lasting)

module _ (clock : ℕ) (shape : Shape) (seed : ℕ) (lives : List PrintedLife) (stamped : AreStamped clock lives) (slots : NoTwo share_slot lives) (housed : AreHoused shape seed lives) (look : PrintedLook) where
  abbrev Book : Change → Type 0
  Book = Among (book_of lives)

  abbrev There : Change → Type 0
  There h = Throughout Book h look.t0 look.t1

  in_home : (l : PrintedLife) → Among lives l → IsAtHome shape seed (hash_of l)
  in_home l a = eqb-true l.bucket (home shape seed l.card) (each_of (λ m. is_home shape seed m ≡ true) lives housed l a)

  throughout_is : (l : PrintedLife) → Among lives l → was_throughout look l ≡ true → There (hash_of l)
  throughout_is l a e = record {
    before = ltb-true l.hash.end look.t0 (and_left (nat_lt l.hash.end look.t0) (not (is_out l look.t1)) e);
    still = λ u b t. let f : EndedBy l u = ended clock lives stamped slots l a u b t in
        omega (
          arith,
          f.first,
          ltb-false f.unhash.begin look.t1 (passes_not (λ s. nat_lt s.begin look.t1) l.unhash f.unhash f.is
              (not-true (is_out l look.t1) (and_right (nat_lt l.hash.end look.t0) (not (is_out l look.t1)) e))),
        );
  }

  throughout_back : (l : PrintedLife) → Among lives l → There (hash_of l) → was_throughout look l ≡ true
  throughout_back l a t = and_from (nat_lt l.hash.end look.t0) (not (is_out l look.t1)) (lt-ltb l.hash.end look.t0 t.before)
      (not_from_false (is_out l look.t1) (none_passes (λ s. nat_lt s.begin look.t1) l l.unhash refl (λ s e.
      let f : Ends Book (hash_of l) (unhash_of l s) = ends_there clock lives stamped slots l a s e in
      le-ltb s.begin look.t1 (t.still (unhash_of l s) f.there f.after))))

  stood_is : (l : PrintedLife) → Among lives l → has_stood look l ≡ true → Stood Book (hash_of l) look.t0 look.t1
  stood_is l a e = let gone : Bool = passes (λ s. nat_lt s.end look.t0) l.unhash in record {
    begun = ltb-true l.hash.begin look.t1 (and_left (nat_lt l.hash.begin look.t1) (not gone) e);
    still = λ u f. let g : OwnEnd l u = ends_only clock lives stamped slots l a u f in
        omega (
          arith,
          ap (λ (c : Change). c.end) g.same,
          ltb-false g.unhash.end look.t0 (passes_not (λ s. nat_lt s.end look.t0) l.unhash g.unhash g.is
              (not-true gone (and_right (nat_lt l.hash.begin look.t1) (not gone) e))),
        );
  }

  stood_back : (l : PrintedLife) → Among lives l → Stood Book (hash_of l) look.t0 look.t1 → has_stood look l ≡ true
  stood_back l a t = let gone : Bool = passes (λ s. nat_lt s.end look.t0) l.unhash in
      and_from (nat_lt l.hash.begin look.t1) (not gone) (lt-ltb l.hash.begin look.t1 t.begun)
      (not_from_false gone (none_passes (λ s. nat_lt s.end look.t0) l l.unhash refl (λ s e.
      le-ltb s.end look.t0 (t.still (unhash_of l s) (ends_there clock lives stamped slots l a s e)))))

  abbrev None_from : ℕ → Type 0
  None_from least = NoneFrom Book (at_home shape seed) look.packet look.t0 look.t1 least

  none_by : (least : ℕ) → is_beaten lives look least ≡ false → (h : Change) → (w : LifeOf lives h) → least ≤ rank h.card look.packet → There h → ⊥
  none_by least e h w r t =
      let s = subst (λ (x : Change). There x) w.is t in
      true≢false (sym (any_if (beats look least) lives w.life w.there (and_from (nat_le least (rank w.life.card look.packet)) (was_throughout look w.life)
      (le-leb least (rank w.life.card look.packet) (subst (λ (x : Change). least ≤ rank x.card look.packet) w.is r)) (throughout_back w.life w.there s))) ∙ e)

  none_is : (least : ℕ) → is_beaten lives look least ≡ false → None_from least
  none_is least e h l c r t = none_by least e h (life_of lives h l) r t

  none_back : (least : ℕ) → None_from least → is_beaten lives look least ≡ false
  none_back least n = false_from_ne_true (is_beaten lives look least) (λ e.
      let s : Passing (beats look least) lives = any_is (beats look least) lives e in
      let l = s.which in
      let a : Bool = nat_le least (rank l.card look.packet) in
      n (hash_of l) (is_life lives l s.there) (in_home l s.there) (leb-true least (rank l.card look.packet) (and_left a (was_throughout look l) s.passes))
      (throughout_is l s.there (and_right a (was_throughout look l) s.passes)))

  -- what is found
  pub found_is : (kind : Kind) (name : ℕ) → list_any (is_found lives look kind name) lives ≡ true → look.answer ≡ answers.Found kind name → IsLookExplained shape seed lives look
  found_is kind name e q =
      let s : Passing (is_found lives look kind name) lives = any_is (is_found lives look kind name) lives e in
      let l = s.which in
      let r : ℕ = rank l.card look.packet in
      let k : Bool = same_kind l.card.kind kind in
      let n : Bool = l.card.name == name in
      let b : Bool = has_stood look l in
      let m : Bool = nat_le 1 r in
      let o : Bool = not (is_beaten lives look (r + 1)) in
      let p1 = and_left (k && n && b && m) o s.passes in
      let p2 = and_left (k && n && b) m p1 in
      let p3 = and_left (k && n) b p2 in record {
        answer = packet_answers.Found l.card;
        told = subst (λ a. Tells a (packet_answers.Found l.card)) (sym q) (kind_is l.card.kind kind (and_left k n p3), eqb-true l.card.name name (and_right k n p3));
        names = tt;
        explained = record {
          life = hash_of l;
          is = is_life lives l s.there;
          same = refl;
          stood = stood_is l s.there (and_right (k && n) b p2);
          enough = leb-true 1 r (and_right (k && n && b) m p1);
          best = none_is (r + 1) (not-true (is_beaten lives look (r + 1)) (and_right (k && n && b && m) o s.passes));
        };
      }

  abbrev Find : Card → Type 0
  Find card = MayFind Book (at_home shape seed) look.packet look.t0 look.t1 card

  found_by : (kind : Kind) (name : ℕ) (card : Card) → card.kind ≡ kind → card.name ≡ name → (l : PrintedLife) → Among lives l → card ≡ l.card → Stood Book (hash_of l) look.t0 look.t1 → Find card → list_any (is_found lives look kind name) lives ≡ true
  found_by kind name card k n l a same stood f =
      let r : ℕ = rank l.card look.packet in
      any_if (is_found lives look kind name) lives l a
      (and_from (same_kind l.card.kind kind && (l.card.name == name) && has_stood look l && nat_le 1 r) (not (is_beaten lives look (r + 1)))
      (and_from (same_kind l.card.kind kind && (l.card.name == name) && has_stood look l) (nat_le 1 r)
      (and_from (same_kind l.card.kind kind && (l.card.name == name)) (has_stood look l)
      (and_from (same_kind l.card.kind kind) (l.card.name == name)
      (kinds_same l.card.kind kind (ap (λ (c : Card). c.kind) (sym same) ∙ k))
      (eq-eqb l.card.name name (ap (λ (c : Card). c.name) (sym same) ∙ n)))
      (stood_back l a stood))
      (le-leb 1 r (subst (λ (c : Card). 1 ≤ rank c look.packet) same f.enough)))
      (not_from_false (is_beaten lives look (r + 1)) (none_back (r + 1) (subst (λ (c : Card). None_from (rank c look.packet + 1)) same f.best))))

  found_back : (kind : Kind) (name : ℕ) (card : Card) → card.kind ≡ kind → card.name ≡ name → Find card → list_any (is_found lives look kind name) lives ≡ true
  found_back kind name card k n f =
      let w : LifeOf lives f.life = life_of lives f.life f.is in
      found_by kind name card k n w.life w.there (sym f.same ∙ ap (λ (c : Change). c.card) w.is)
      (subst (λ (c : Change). Stood Book c look.t0 look.t1) w.is f.stood) f

  into_is : (bucket : ℕ) → list_any (hashes_into look bucket) lives ≡ true → MeetsSome Book (IsHashInto bucket) look.t0 look.t1
  into_is bucket e =
      let s : Passing (hashes_into look bucket) lives = any_is (hashes_into look bucket) lives e in
      let l = s.which in record {
        change = hash_of l;
        there = hash_there lives l s.there;
        sort = (refl, eqb-true l.bucket bucket (and_left (l.bucket == bucket) (met look l.hash) s.passes));
        meets = met_is look (hash_of l) (and_right (l.bucket == bucket) (met look l.hash) s.passes);
      }

  into_by : (bucket : ℕ) (c : Change) → LifeOf lives c → c.bucket ≡ bucket → Meets c look.t0 look.t1 → list_any (hashes_into look bucket) lives ≡ true
  into_by bucket c w b m = any_if (hashes_into look bucket) lives w.life w.there
      (and_from (w.life.bucket == bucket) (met look w.life.hash) (eq-eqb w.life.bucket bucket (ap (λ (x : Change). x.bucket) (sym w.is) ∙ b))
      (met_back look (hash_of w.life) (subst (λ (x : Change). Meets x look.t0 look.t1) w.is m)))

  into_back : (bucket : ℕ) → MeetsSome Book (IsHashInto bucket) look.t0 look.t1 → list_any (hashes_into look bucket) lives ≡ true
  into_back bucket m = into_by bucket m.change (life_of lives m.change (record { there = m.there; hash = m.sort.0 })) m.sort.1 m.meets

  hashed_is : list_any (hashes look) lives ≡ true → MeetsSome Book IsHash look.t0 look.t1
  hashed_is e = let s : Passing (hashes look) lives = any_is (hashes look) lives e in record {
    change = hash_of s.which;
    there = hash_there lives s.which s.there;
    sort = refl;
    meets = met_is look (hash_of s.which) s.passes;
  }

  hashed_by : (c : Change) → LifeOf lives c → Meets c look.t0 look.t1 → list_any (hashes look) lives ≡ true
  hashed_by c w m = any_if (hashes look) lives w.life w.there
      (met_back look (hash_of w.life) (subst (λ (x : Change). Meets x look.t0 look.t1) w.is m))

  hashed_back : MeetsSome Book IsHash look.t0 look.t1 → list_any (hashes look) lives ≡ true
  hashed_back m = hashed_by m.change (life_of lives m.change (record { there = m.there; hash = m.sort })) m.meets

  changed_is : (slot : ℕ) → list_any (changes_in look slot) lives ≡ true → MeetsSome Book (IsOfSlot slot) look.t0 look.t1
  changed_is slot e =
      let s : Passing (changes_in look slot) lives = any_is (changes_in look slot) lives e in
      let l = s.which in
      let c : ChangeOf lives (met look) l = some_change lives (met look) l s.there (and_right (l.slot == slot) (some_span (met look) l) s.passes) in record {
        change = c.change;
        there = c.there;
        sort = c.slot ∙ eqb-true l.slot slot (and_left (l.slot == slot) (some_span (met look) l) s.passes);
        meets = met_is look c.change c.passes;
      }

  changed_back : (slot : ℕ) → MeetsSome Book (IsOfSlot slot) look.t0 look.t1 → list_any (changes_in look slot) lives ≡ true
  changed_back slot m = let w : Whose lives m.change = whose lives m.change m.there in
      any_if (changes_in look slot) lives w.life w.there
      (and_from (w.life.slot == slot) (some_span (met look) w.life) (eq-eqb w.life.slot slot (sym (slot_of w.life m.change w.is) ∙ m.sort))
      (change_passes (met look) w.life m.change w.is (met_back look m.change m.meets)))

  end_is : (bucket : ℕ) (end : PrintedEnd) → may_end shape.slots lives look bucket end ≡ true → MayEnd Book shape.slots bucket look.t0 look.t1 (pass_end end)
  end_is bucket (ends.Foreign other) e = let any : Bool = list_any (hashes_into look other) lives in (
    λ q. true≢false (sym (eq-eqb other bucket q) ∙ not-true (other == bucket) (and_left (not (other == bucket)) any e)),
    into_is other (and_right (not (other == bucket)) any e),
  )
  end_is bucket (ends.Dead slot) e = changed_is slot e
  end_is bucket (ends.Changed slot) e = changed_is slot e
  end_is bucket (ends.Long n) e = let any : Bool = list_any (hashes look) lives in
      (eqb-true n (shape.slots + 1) (and_left (n == shape.slots + 1) any e), hashed_is (and_right (n == shape.slots + 1) any e))

  end_back : (bucket : ℕ) (end : PrintedEnd) → MayEnd Book shape.slots bucket look.t0 look.t1 (pass_end end) → may_end shape.slots lives look bucket end ≡ true
  end_back bucket (ends.Foreign other) m = and_from (not (other == bucket)) (list_any (hashes_into look other) lives)
      (not_from_false (other == bucket) (false_from_ne_true (other == bucket) (λ q. m.0 (eqb-true other bucket q)))) (into_back other m.1)
  end_back bucket (ends.Dead slot) m = changed_back slot m
  end_back bucket (ends.Changed slot) m = changed_back slot m
  end_back bucket (ends.Long n) m =
      and_from (n == shape.slots + 1) (list_any (hashes look) lives) (eq-eqb n (shape.slots + 1) m.0) (hashed_back m.1)

  bucket_is : (bucket : ℕ) → is_bucket_of shape seed look.packet bucket ≡ true → Among (buckets_of shape seed look.packet) bucket
  bucket_is bucket e =
      let a : ℕ = packet_home shape seed look.packet in
      let b : ℕ = listen_home shape seed look.packet.dst look.packet.dport look.packet.net in
      let c : ℕ = listen_home shape seed 0 look.packet.dport look.packet.net in
      elim (or_cases ((bucket == a) || (bucket == b)) (bucket == c) e) as (λ _. Among (a ∷ b ∷ c ∷ []) bucket) [
        | inr p ↦ inr (inr (inl (eqb-true bucket c p)))
        | inl p ↦ elim (or_cases (bucket == a) (bucket == b) p) as (λ _. Among (a ∷ b ∷ c ∷ []) bucket) [
          | inl q ↦ inl (eqb-true bucket a q)
          | inr q ↦ inr (inl (eqb-true bucket b q))
        ]
      ]

  bucket_by : (a b c bucket : ℕ) → Among (a ∷ b ∷ c ∷ []) bucket → ((bucket == a) || (bucket == b) || (bucket == c)) ≡ true
  bucket_by a b c bucket (inl p) = or_left ((bucket == a) || (bucket == b)) (bucket == c) (or_left (bucket == a) (bucket == b) (eq-eqb bucket a p))
  bucket_by a b c bucket (inr (inl p)) = or_left ((bucket == a) || (bucket == b)) (bucket == c) (or_right (bucket == a) (bucket == b) (eq-eqb bucket b p))
  bucket_by a b c bucket (inr (inr (inl p))) = or_right ((bucket == a) || (bucket == b)) (bucket == c) (eq-eqb bucket c p)
  bucket_by a b c bucket (inr (inr (inr p))) = absurd p

  bucket_back : (bucket : ℕ) → Among (buckets_of shape seed look.packet) bucket → is_bucket_of shape seed look.packet bucket ≡ true
  bucket_back bucket m = bucket_by (packet_home shape seed look.packet) (listen_home shape seed look.packet.dst look.packet.dport look.packet.net) (listen_home shape seed 0 look.packet.dport look.packet.net) bucket m

  pub look_is : (answer : PrintedAnswer) → look.answer ≡ answer → explains shape seed lives look answer ≡ true → IsLookExplained shape seed lives look
  look_is (answers.Found kind name) q e = found_is kind name e q
  look_is answers.None q e = record {
    answer = packet_answers.None;
    told = subst (λ a. Tells a packet_answers.None) (sym q) tt;
    names = tt;
    explained = none_is 1 (not-true (is_beaten lives look 1) e);
  }
  look_is (answers.Again bucket end) q e =
      let b : Bool = is_bucket_of shape seed look.packet bucket in
      let m : Bool = may_end shape.slots lives look bucket end in record {
        answer = packet_answers.Again bucket (pass_end end);
        told = subst (λ a. Tells a (packet_answers.Again bucket (pass_end end))) (sym q) (refl, refl);
        names = bucket_is bucket (and_left b m e);
        explained = end_is bucket end (and_right b m e);
      }

  told_back : (answer : PrintedAnswer) (true_one : PacketAnswer) → Tells answer true_one → NamesItsBucket shape seed look.packet true_one → IsExplained Book shape (receipt_of seed look true_one) → explains shape seed lives look answer ≡ true
  told_back (answers.Found kind name) (packet_answers.Found card) t n x = found_back kind name card t.0 t.1 x
  told_back (answers.Found kind name) packet_answers.None t n x = absurd t
  told_back (answers.Found kind name) (packet_answers.Again b e) t n x = absurd t
  told_back answers.None (packet_answers.Found card) t n x = absurd t
  told_back answers.None packet_answers.None t n x = not_from_false (is_beaten lives look 1) (none_back 1 x)
  told_back answers.None (packet_answers.Again b e) t n x = absurd t
  told_back (answers.Again bucket end) (packet_answers.Found card) t n x = absurd t
  told_back (answers.Again bucket end) packet_answers.None t n x = absurd t
  told_back (answers.Again bucket end) (packet_answers.Again b e) t n x =
      and_from (is_bucket_of shape seed look.packet bucket) (may_end shape.slots lives look bucket end)
      (bucket_back bucket (subst (λ k. Among (buckets_of shape seed look.packet) k) t.0 n))
      (end_back bucket end (subst (λ k. MayEnd Book shape.slots k look.t0 look.t1 (pass_end end)) t.0
      (subst (λ z. MayEnd Book shape.slots b look.t0 look.t1 z) t.1 x)))

  pub look_back : IsLookExplained shape seed lives look → explains shape seed lives look look.answer ≡ true
  look_back x = told_back look.answer x.answer x.told x.names x.explained

module _ (clock : ℕ) (shape : Shape) (seed : ℕ) (lives : List PrintedLife) (stamped : AreStamped clock lives) (slots : NoTwo share_slot lives) (housed : AreHoused shape seed lives) where
  pub line_is : (packet : PrintedPacket) → line_explained shape seed lives packet ≡ true → IsLineExplained shape seed lives packet
  line_is packets.Passed e = tt
  line_is (packets.Looked look) e = look_is clock shape seed lives stamped slots housed look look.answer refl e

  pub line_back : (packet : PrintedPacket) → line_explained shape seed lives packet ≡ false → IsLineExplained shape seed lives packet → ⊥
  line_back packets.Passed e x = true≢false e
  line_back (packets.Looked look) e x =
      true≢false (sym (look_back clock shape seed lives stamped slots housed look x) ∙ e)
