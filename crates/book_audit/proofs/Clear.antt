-- Where no two stays of some lives run into each other, no two of the lives clash.
use Rattle.std.proofs.Common.{◌≡◌, ℕ, ◌≤◌, IsTrue, IfOk, Result, Ok, Err, take, length, ◌==◌, ◌&&◌, ◌||◌, not, nat_lt, Bool, true, false, List, [], ◌∷◌, ◌++◌, Option, None, Some, if◌then◌else◌, refl, sym, ap, ◌∙◌, subst, arith, inl, inr}
use Rattle.std.proofs.lemmas.List.{take_all}
use Rattle.std.specs.declared.alloc.AllocError.{AllocError}
use Rattle.std.specs.List.{flat_map}
use Rattle.std.proofs.lemmas.Bool.{true≢false, ltb-true, le-ltb, eqb-true, false_from_ne_true, or_cases}
use Rattle.list_words.specs.Lists.{Each, Pairs}
use Rattle.list_words.proofs.EachLemmas.{each_both, each_back, each_front}
use Rattle.list_words.proofs.PairsLemmas.{pairs_weaken}
use Rattle.sock_card.specs.declared.card.Card.{Card}
use Rattle.sock_card.specs.declared.words.CardWords.{CardWords}
use Rattle.sock_card.specs.Tuples.{tuple_of}
use Rattle.sock_card.proofs.Tuples.{PartsAgree, parts_agree}
use Rattle.chain_book.specs.Tuples.{same_cards, is_full_kind}
use Rattle.race_book.proofs.Checks.{and_left, and_right}
use Rattle.race_book.proofs.Joined.{pairs_across, pairs_back}
use Rattle.book_audit.specs.declared.printed.Span.{Span}
use Rattle.book_audit.specs.declared.printed.PrintedLife.{PrintedLife}
use Rattle.book_audit.specs.declared.stays.Stay.{Stay}
use Rattle.book_audit.specs.declared.clashes.Clash.{Clash}
use Rattle.book_audit.specs.declared.clashes.Clash.TheVariants as clashes
use Rattle.book_audit.specs.Lines.{NoTwo, passes, some_span, share, shares_number, meet, overlap, is_out, share_slot, begins_after, comes_in_time, are_full, are_twins}
use Rattle.book_audit.specs.Stays.{is_below, runs_into, NoneRunsInto, clash_of, stay_at, stay_in, span_stays, unhash_stays, begin_of, tuple_words, slot_stay, tuple_stay, stays_of}
use Rattle.book_audit.proofs.Order.{Runs, into}

module _ {A B : Type 0} where
  each_flat : (P : B → Type 0) (f : A → List B) (xs : List A) → Each P (flat_map f xs) → Each (λ x. Each P (f x)) xs
  each_flat P f [] e = tt
  each_flat P f (x ∷ xs) e = (each_front P (f x) (flat_map f xs) e, each_flat P f xs (each_back P (f x) (flat_map f xs) e))

  each_swap_more : (Q : B → A → Type 0) (y : B) (ys : List B) (xs : List A) → Each (Q y) xs → Each (λ x. Each (λ s. Q s x) ys) xs → Each (λ x. Each (λ s. Q s x) (y ∷ ys)) xs
  each_swap_more Q y ys [] e f = tt
  each_swap_more Q y ys (x ∷ xs) e f = ((e.0, f.0), each_swap_more Q y ys xs e.1 f.1)

  each_none : (Q : B → A → Type 0) (xs : List A) → Each (λ x. Each (λ s. Q s x) []) xs
  each_none Q [] = tt
  each_none Q (x ∷ xs) = (tt, each_none Q xs)

  each_swap : (Q : B → A → Type 0) (ys : List B) (xs : List A) → Each (λ s. Each (Q s) xs) ys → Each (λ x. Each (λ s. Q s x) ys) xs
  each_swap Q [] xs e = each_none Q xs
  each_swap Q (y ∷ ys) xs e = each_swap_more Q y ys xs e.0 (each_swap Q ys xs e.1)

each_inside : {A B : Type 0} (R : B → B → Type 0) (f : A → List B) (xs : List A) (ys : List B) → Each (λ s. Each (R s) (flat_map f xs)) ys → Each (λ s. Each (λ x. Each (R s) (f x)) xs) ys
each_inside R f xs [] e = tt
each_inside R f xs (y ∷ ys) e = (each_flat (R y) f xs e.0, each_inside R f xs ys e.1)

-- each two of what two items make
pairs_flat : {A B : Type 0} (R : B → B → Type 0) (f : A → List B) (xs : List A) → Pairs R (flat_map f xs) → Pairs (λ x y. Each (λ s. Each (R s) (f y)) (f x)) xs
pairs_flat R f [] e = tt
pairs_flat R f (x ∷ xs) e = (
  each_swap (λ s y. Each (R s) (f y)) (f x) xs (each_inside R f xs (f x) (pairs_across R (f x) (flat_map f xs) e)),
  pairs_flat R f xs (pairs_back R (f x) (flat_map f xs) e),
)

abbrev Apart : Stay → Stay → Type 0
Apart s t = runs_into s t ≡ false

-- the stays of two lives are apart
abbrev AllApart : Clash → PrintedLife → PrintedLife → Type 0
AllApart k l m = Each (λ s. Each (Apart s) (stays_of k m)) (stays_of k l)

run_into : (s t : Stay) → Apart s t → Runs s t → ⊥
run_into s t a r = true≢false (sym (into s t r) ∙ a)

module _ (Q : Stay → Type 0) (k : Clash) (l : PrintedLife) (test : Span → Bool) (h : (s : Span) → Each Q (span_stays k l s) → test s ≡ true → ⊥) where
  no_unhash : (o : Option Span) → Each Q (unhash_stays k l o) → passes test o ≡ true → ⊥
  no_unhash None e p = true≢false (sym p)
  no_unhash (Some s) e p = h s e p

  -- no change of the life passes the test
  no_span : Each Q (span_stays k l l.hash ++ unhash_stays k l l.unhash) → some_span test l ≡ true → ⊥
  no_span e p = elim (or_cases (test l.hash) (passes test l.unhash) p) as (λ _. ⊥) [
    | inl q ↦ h l.hash (each_front Q (span_stays k l l.hash) (unhash_stays k l l.unhash) e) q
    | inr q ↦ no_unhash l.unhash (each_back Q (span_stays k l l.hash) (unhash_stays k l l.unhash) e) q
  ]

same_number : (n k : ℕ) → Apart (stay_at n) (stay_at k) → (n == k) ≡ true → ⊥
same_number n k a e = let q : n ≡ k = eqb-true n k e in
    run_into (stay_at n) (stay_at k) a (record {
      place = refl;
      part = refl;
      one = ap not (le-ltb n k (omega arith));
      other = ap not (le-ltb k n (omega arith));
    })

no_share : (s t : Span) → Apart (stay_at s.begin) (stay_at t.begin) → Apart (stay_at s.begin) (stay_at t.end) → Apart (stay_at s.end) (stay_at t.begin) → Apart (stay_at s.end) (stay_at t.end) → share s t ≡ true → ⊥
no_share s t a b c d e = elim (or_cases ((s.begin == t.begin) || (s.begin == t.end) || (s.end == t.begin)) (s.end == t.end) e) as (λ _. ⊥) [
  | inr p ↦ same_number s.end t.end d p
  | inl p ↦ elim (or_cases ((s.begin == t.begin) || (s.begin == t.end)) (s.end == t.begin) p) as (λ _. ⊥) [
    | inr q ↦ same_number s.end t.begin c q
    | inl q ↦ elim (or_cases (s.begin == t.begin) (s.begin == t.end) q) as (λ _. ⊥) [
      | inl r ↦ same_number s.begin t.begin a r
      | inr r ↦ same_number s.begin t.end b r
    ]
  ]
]

no_shared : (l m : PrintedLife) → AllApart clashes.Number l m → shares_number l m ≡ true → ⊥
no_shared l m e = no_span (λ s. Each (Apart s) (stays_of clashes.Number m)) clashes.Number l (λ s. some_span (share s) m)
    (λ s f p. no_span (λ t. Apart (stay_at s.begin) t × Apart (stay_at s.end) t) clashes.Number m (share s)
    (λ t g q. no_share s t g.0.0 g.1.0.0 g.0.1 g.1.0.1 q)
    (each_both (Apart (stay_at s.begin)) (Apart (stay_at s.end)) (stays_of clashes.Number m) f.0 f.1.0) p) e

no_meeting : (l m : PrintedLife) (s t : Span) → l.bucket ≡ m.bucket → Apart (stay_in l.bucket s) (stay_in m.bucket t) → meet s t ≡ true → ⊥
no_meeting l m s t b a e = run_into (stay_in l.bucket s) (stay_in m.bucket t) a (record {
  place = b;
  part = refl;
  one = and_left (not (nat_lt s.end t.begin)) (not (nat_lt t.end s.begin)) e;
  other = and_right (not (nat_lt s.end t.begin)) (not (nat_lt t.end s.begin)) e;
})

no_overlap : (l m : PrintedLife) → AllApart clashes.Overlap l m → overlap l m ≡ true → ⊥
no_overlap l m e o =
    let meets : Bool = some_span (λ s. some_span (meet s) m) l in
    let b : l.bucket ≡ m.bucket = eqb-true l.bucket m.bucket (and_left (l.bucket == m.bucket) meets o) in
    no_span (λ s. Each (Apart s) (stays_of clashes.Overlap m)) clashes.Overlap l (λ s. some_span (meet s) m)
    (λ s f p. no_span (Apart (stay_in l.bucket s)) clashes.Overlap m (meet s) (λ t g q. no_meeting l m s t b g.0 q) f.0 p) e (and_right (l.bucket == m.bucket) meets o)

out_below : (o : Option Span) (n : ℕ) → is_below (begin_of o) n ≡ passes (λ s. nat_lt s.begin n) o
out_below None n = refl
out_below (Some s) n = refl

no_slot : (l m : PrintedLife) → AllApart clashes.Slot l m → share_slot l m ≡ true → ⊥
no_slot l m e o =
    let a : Bool = l.slot == m.slot in
    let b : Bool = not (is_out l m.hash.end) in
    let c : Bool = not (is_out m l.hash.end) in
    run_into (slot_stay l) (slot_stay m) e.0.0 (record {
      place = eqb-true l.slot m.slot (and_left a b (and_left (a && b) c o));
      part = refl;
      one = ap not (out_below l.unhash m.hash.end) ∙ and_right a b (and_left (a && b) c o);
      other = ap not (out_below m.unhash l.hash.end) ∙ and_right (a && b) c o;
    })

same_words : (a b : Card) → same_cards a b ≡ true → tuple_words a ≡ tuple_words b
same_words a b t = let p : PartsAgree (tuple_of a) (tuple_of b) = parts_agree (tuple_of a) (tuple_of b) t in
    λ i. tuple_words (record a { net = p.net i; local = p.local i; lport = p.lport i; remote = p.remote i; rport = p.rport i })

in_time : (o : Option Span) (n : ℕ) → begins_after n o ≡ true → not (is_below (begin_of o) n) ≡ true
in_time None n e = refl
in_time (Some s) n e = ap not (le-ltb s.begin n (omega (arith, ltb-true n s.begin e)))

one_stay : (l : PrintedLife) → is_full_kind l.card.kind ≡ true → stays_of clashes.Twin l ≡ tuple_stay l ∷ []
one_stay l e = ap (λ b. if b then tuple_stay l ∷ [] else []) e

no_twin : (l m : PrintedLife) → AllApart clashes.Twin l m → are_twins l m ≡ true → ⊥
no_twin l m e o =
    let full : Bool = are_full l m in
    let same : Bool = same_cards l.card m.card in
    let one : Bool = comes_in_time l m in
    let other : Bool = comes_in_time m l in
    let p = and_left (full && same && one) other o in
    let q = and_left (full && same) one p in
    let f = and_left full same q in
    let w : tuple_words l.card ≡ tuple_words m.card = same_words l.card m.card (and_right full same q) in
    let a : Each (λ s. Each (Apart s) (tuple_stay m ∷ [])) (tuple_stay l ∷ []) =
    subst (λ ys. Each (λ s. Each (Apart s) ys) (tuple_stay l ∷ [])) (one_stay m (and_right (is_full_kind l.card.kind) (is_full_kind m.card.kind) f))
    (subst (λ xs. Each (λ s. Each (Apart s) (stays_of clashes.Twin m)) xs) (one_stay l (and_left (is_full_kind l.card.kind) (is_full_kind m.card.kind) f)) e) in
    run_into (tuple_stay l) (tuple_stay m) a.0.0 (record {
      place = ap (λ (c : CardWords). c.ends) w;
      part = ap (λ (c : CardWords). c.ports) w;
      one = in_time l.unhash m.hash.begin (and_right (full && same && one) other o);
      other = in_time m.unhash l.hash.begin (and_right (full && same) one p);
    })

no_clash : (k : Clash) (l m : PrintedLife) → AllApart k l m → clash_of k l m ≡ true → ⊥
no_clash clashes.Number l m = no_shared l m
no_clash clashes.Overlap l m = no_overlap l m
no_clash clashes.Slot l m = no_slot l m
no_clash clashes.Twin l m = no_twin l m

-- where no two of the stays that lives make run into each other, no two lives clash
pub clear : (k : Clash) (lives : List PrintedLife) → NoneRunsInto (flat_map (stays_of k) lives) → NoTwo (clash_of k) lives
clear k lives n = pairs_weaken (AllApart k) (λ l m. clash_of k l m ≡ false) lives
    (λ l m a. false_from_ne_true (clash_of k l m) (no_clash k l m a)) (pairs_flat Apart (stays_of k) lives n)

pub told_clear : (k : Clash) (lives : List PrintedLife) (stays : List Stay) (i : ℕ) → length lives ≤ i → stays ≡ flat_map (stays_of k) (take i lives) → (r : Result Bool AllocError) → IfOk r (λ told. IsTrue told → NoneRunsInto stays) → IfOk r (λ told. IsTrue told → NoTwo (clash_of k) lives)
told_clear k lives stays i l e (Ok told) h = λ t. clear k lives
    (subst (λ xs. NoneRunsInto (flat_map (stays_of k) xs)) (take_all i lives l) (subst (λ xs. NoneRunsInto xs) e (h t)))
told_clear k lives stays i l e (Err x) h = h
