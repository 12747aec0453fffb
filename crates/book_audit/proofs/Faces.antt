-- What marks show of the lives that match a packet.
use Rattle.std.proofs.Common.{◌≡◌, ℕ, ◌+◌, ◌<◌, ◌≤◌, ◌==◌, ◌&&◌, ◌||◌, not, nat_lt, nat_le, Bool, true, false, IsTrue, List, [], ◌∷◌, ◌++◌, map, take, length, get_or, if◌then◌else◌, Option, None, Some, refl, sym, ◌∙◌, subst, arith, ◌⊎◌, inl, inr}
use Rattle.std.specs.List.Sorted.{IsPermutation}
use Rattle.std.proofs.lemmas.List.{take_more}
use Rattle.std.proofs.lemmas.Bool.{true≢false, ltb-true, lt-ltb, leb-true, eqb-true, eq-eqb, false_from_ne_true, or_cases, not-true}
use Rattle.list_words.specs.Lists.{Each}
use Rattle.list_words.proofs.EachLemmas.{each_weaken, each_push, each_unmap}
use Rattle.sock_card.specs.declared.card.Card.{Card}
use Rattle.sock_card.specs.declared.card.Kind.{Kind}
use Rattle.sock_card.specs.declared.card.Kind.TheVariants as kinds
use Rattle.sock_card.specs.declared.card.Packet.{Packet}
use Rattle.sock_card.specs.Rank.{rank, rank_as, takes_device, takes_port, has_tuple}
use Rattle.sock_card.specs.Tuples.{tuple_of, packet_tuple}
use Rattle.sock_card.proofs.Tuples.{PartsAgree, parts_agree}
use Rattle.race_book.proofs.AmongLemmas.{among_left, among_right}
use Rattle.race_book.proofs.Endings.{each_of, to_each}
use Rattle.race_book.proofs.Listing.{among_permuted}
use Rattle.race_book.proofs.Checks.{and_left, and_right, Passing, any_is}
use Rattle.book_audit.specs.declared.printed.Span.{Span}
use Rattle.book_audit.specs.declared.printed.PrintedLife.{PrintedLife}
use Rattle.book_audit.specs.declared.printed.PrintedLook.{PrintedLook}
use Rattle.book_audit.specs.declared.stays.Stay.{Stay}
use Rattle.book_audit.specs.declared.index.Index.{Index}
use Rattle.book_audit.specs.Lines.{passes, is_out}
use Rattle.book_audit.specs.Stays.{is_below, begin_of}
use Rattle.book_audit.specs.Tried.{was_throughout, beats, is_beaten}
use Rattle.book_audit.specs.Index.{face_as, connected_face, listening_face, mark, outlasts, StandsFor, IsMarked, AreOrdered, AreMarked, IsIndex, GoneAt, RulesOut}

module _ (stays : List Stay) (look : PrintedLook) (least : ℕ) (low : 0 < least) where
  abbrev P : Packet
  P = look.packet

  abbrev pub GoneFrom : ℕ → Card → Type 0
  GoneFrom r c = least ≤ r → GoneAt stays look c

  -- the device of a card that takes the packet's
  device : (c : Card) → takes_device c P ≡ true → (c.dev ≡ 0) ⊎ (c.dev ≡ P.dev)
  device c e = elim (or_cases (c.dev == 0) (c.dev == P.dev) e) as (λ _. (c.dev ≡ 0) ⊎ (c.dev ≡ P.dev)) [
    | inl p ↦ inl (eqb-true c.dev 0 p)
    | inr p ↦ inr (eqb-true c.dev P.dev p)
  ]

  connected_is : (c : Card) (d : ℕ) → has_tuple c P ≡ true → c.dev ≡ d → face_as kinds.Full c ≡ connected_face P d
  connected_is c d e q =
      let t : PartsAgree (tuple_of c) (packet_tuple P) = parts_agree (tuple_of c) (packet_tuple P) e in
      λ i. record { local = t.local i; lport = t.lport i; remote = t.remote i; rport = t.rport i; dev = q i; net = t.net i; kind = kinds.Full; name = 0; extra = 0; mark = 0 }

  listening_is : (c : Card) (a d : ℕ) → c.kind ≡ kinds.Listen → takes_port c P ≡ true → c.local ≡ a → c.dev ≡ d → face_as kinds.Listen c ≡ listening_face P a d
  listening_is c a d k e p q =
      let n : c.net ≡ P.net = eqb-true c.net P.net (and_left (c.net == P.net) (c.lport == P.dport) e) in
      let t : c.lport ≡ P.dport = eqb-true c.lport P.dport (and_right (c.net == P.net) (c.lport == P.dport) e) in
      λ i. record { local = p i; lport = t i; remote = 0; rport = 0; dev = q i; net = n i; kind = k i; name = 0; extra = 0; mark = 0 }

  module _ (plain : GoneFrom 5 (connected_face P 0)) (here : GoneFrom 5 (connected_face P P.dev)) (exact_here : (P.dev == 0) ≡ false → GoneFrom 4 (listening_face P P.dst P.dev)) (exact : GoneFrom 3 (listening_face P P.dst 0)) (any_here : (P.dev == 0) ≡ false → GoneFrom 2 (listening_face P 0 P.dev)) (any : GoneFrom 1 (listening_face P 0 0)) where
    by_tuple : (c : Card) (b : Bool) → (has_tuple c P && takes_device c P) ≡ b → least ≤ (if b then 5 else 0) → GoneAt stays look (face_as kinds.Full c)
    by_tuple c false e l = absurd (omega (arith, low, l))
    by_tuple c true e l =
        let t : has_tuple c P ≡ true = and_left (has_tuple c P) (takes_device c P) e in
        elim (device c (and_right (has_tuple c P) (takes_device c P) e)) as (λ _. GoneAt stays look (face_as kinds.Full c)) [
          | inl d ↦ subst (λ x. GoneAt stays look x) (sym (connected_is c 0 t d)) (plain l)
          | inr d ↦ subst (λ x. GoneAt stays look x) (sym (connected_is c P.dev t d)) (here l)
        ]

    not_either : (a b : Bool) → (not a || not b) ≡ false → (a ≡ true) × (b ≡ true)
    not_either true true e = (refl, refl)
    not_either true false e = absurd (true≢false e)
    not_either false b e = absurd (true≢false e)

    -- with a device of its own a card takes the packet's
    own_device : (c : Card) → takes_device c P ≡ true → (c.dev == 0) ≡ false → c.dev ≡ P.dev
    own_device c e n = elim (device c e) as (λ _. c.dev ≡ P.dev) [ inl p ↦ absurd (true≢false (sym (eq-eqb c.dev 0 p) ∙ n)) | inr p ↦ p ]

    -- so the packet has come in at one
    own_named : (c : Card) → takes_device c P ≡ true → (c.dev == 0) ≡ false → (P.dev == 0) ≡ false
    own_named c e n = subst (λ d. (d == 0) ≡ false) (own_device c e n) n

    by_listener : (c : Card) → c.kind ≡ kinds.Listen → (x y z w : Bool) → (not (takes_port c P) || not (takes_device c P)) ≡ x → (c.local == P.dst) ≡ y → (c.local == 0) ≡ z → (c.dev == 0) ≡ w
        → least ≤ (if x then 0 else if y then (if w then 3 else 4) else if z then (if w then 1 else 2) else 0) → GoneAt stays look (face_as kinds.Listen c)
    by_listener c k true y z w ex ey ez ew l = absurd (omega (arith, low, l))
    by_listener c k false true z true ex ey ez ew l =
        let f = not_either (takes_port c P) (takes_device c P) ex in
        subst (λ x. GoneAt stays look x) (sym (listening_is c P.dst 0 k f.0 (eqb-true c.local P.dst ey) (eqb-true c.dev 0 ew))) (exact l)
    by_listener c k false true z false ex ey ez ew l =
        let f = not_either (takes_port c P) (takes_device c P) ex in
        subst (λ x. GoneAt stays look x) (sym (listening_is c P.dst P.dev k f.0 (eqb-true c.local P.dst ey) (own_device c f.1 ew))) (exact_here (own_named c f.1 ew) l)
    by_listener c k false false true true ex ey ez ew l =
        let f = not_either (takes_port c P) (takes_device c P) ex in
        subst (λ x. GoneAt stays look x) (sym (listening_is c 0 0 k f.0 (eqb-true c.local 0 ez) (eqb-true c.dev 0 ew))) (any l)
    by_listener c k false false true false ex ey ez ew l =
        let f = not_either (takes_port c P) (takes_device c P) ex in
        subst (λ x. GoneAt stays look x) (sym (listening_is c 0 P.dev k f.0 (eqb-true c.local 0 ez) (own_device c f.1 ew))) (any_here (own_named c f.1 ew) l)
    by_listener c k false false false w ex ey ez ew l = absurd (omega (arith, low, l))

    by_kind : (c : Card) (k : Kind) → c.kind ≡ k → least ≤ rank_as k c P → GoneAt stays look (face_as k c)
    by_kind c kinds.Full e l = by_tuple c (has_tuple c P && takes_device c P) refl l
    by_kind c kinds.TimeWait e l = by_tuple c (has_tuple c P && takes_device c P) refl l
    by_kind c kinds.Request e l = by_tuple c (has_tuple c P && takes_device c P) refl l
    by_kind c kinds.Listen e l =
        by_listener c e (not (takes_port c P) || not (takes_device c P)) (c.local == P.dst) (c.local == 0) (c.dev == 0) refl refl refl refl l

    pub ruled_out : RulesOut stays look least
    unfolding rank
    ruled_out c l = by_kind c c.kind refl l

  below_by : (t1 : ℕ) (u v : Option ℕ) → outlasts u v ≡ true → is_below u t1 ≡ true → is_below v t1 ≡ true
  below_by t1 None v o b = absurd (true≢false (sym b))
  below_by t1 (Some k) None o b = absurd (true≢false (sym o))
  below_by t1 (Some k) (Some j) o b = lt-ltb j t1 (omega (arith, leb-true j k o, ltb-true k t1 b))

  out_of : (o : Option Span) (n : ℕ) → is_below (begin_of o) n ≡ true → passes (λ s. nat_lt s.begin n) o ≡ true
  out_of None n e = absurd (true≢false (sym e))
  out_of (Some s) n e = e

  -- a life that such marks stand for wasn't there throughout
  not_there : RulesOut stays look least → (l : PrintedLife) → IsMarked stays (mark l) → beats look least l ≡ true → ⊥
  not_there r l m b =
      let a : Bool = nat_le least (rank l.card look.packet) in
      let was : Bool = was_throughout look l in
      let w = and_right a was b in
      let before : Bool = nat_lt l.hash.end look.t0 in
      let s : Stay = m.stay in
      let f : s.from < look.t0 = omega (arith, m.stands.from, ltb-true l.hash.end look.t0 (and_left before (not (is_out l look.t1)) w)) in
      let gone : is_below s.until look.t1 ≡ true =
      r l.card (leb-true least (rank l.card look.packet) (and_left a was b)) s m.there m.stands.place m.stands.part f in
      let out : is_out l look.t1 ≡ true = out_of l.unhash look.t1 (below_by look.t1 s.until (begin_of l.unhash) m.stands.until gone) in
      true≢false (sym out ∙ not-true (is_out l look.t1) (and_right before (not (is_out l look.t1)) w))

  pub unbeaten : RulesOut stays look least → (lives : List PrintedLife) → AreMarked stays lives → is_beaten lives look least ≡ false
  unbeaten r lives m = false_from_ne_true (is_beaten lives look least) (λ e.
      let p : Passing (beats look least) lives = any_is (beats look least) lives e in
      not_there r p.which (each_of (λ l. IsMarked stays (mark l)) lives m p.which p.there) p.passes)

-- marks stay marks when more are put behind them
still_marked : (xs : List Stay) (t : Stay) (s : Stay) → IsMarked xs s → IsMarked (xs ++ t ∷ []) s
still_marked xs t s m = record { stay = m.stay; there = among_left m.stay xs (t ∷ []) m.there; stands = m.stands }

pub one_raised : (xs stays : List Stay) (t s : Stay) → Each (IsMarked xs) stays → StandsFor s t → Each (IsMarked (xs ++ t ∷ [])) (stays ++ s ∷ [])
one_raised xs stays t s e f =
    each_push (IsMarked (xs ++ t ∷ [])) stays s (each_weaken (IsMarked xs) (IsMarked (xs ++ t ∷ [])) stays (still_marked xs t) e)
    (record { stay = t; there = among_right t xs (t ∷ []) (inl refl); stands = f })

-- in whatever order the marks were raised
pub marks_of : (lives : List PrintedLife) (ms sorted raised : List Stay) → ms ≡ map mark lives → IsPermutation ms sorted → Each (IsMarked raised) sorted → AreMarked raised lives
marks_of lives ms sorted raised is p e = each_unmap (IsMarked raised) mark lives
    (subst (λ xs. Each (IsMarked raised) xs) is
    (to_each (IsMarked raised) ms (λ s a. each_of (IsMarked raised) sorted e s (among_permuted ms sorted p s a))))

-- six tests that are passed together
pub record Six (a b c d e f : Bool) : Type 0 where
  pub one : a ≡ true
  pub two : b ≡ true
  pub three : c ≡ true
  pub four : d ≡ true
  pub five : e ≡ true
  pub six : f ≡ true

pub all_of_six : (a b c d e f : Bool) → (a && b && c && d && e && f) ≡ true → Six a b c d e f
all_of_six a b c d e f t =
    let p5 = and_left (a && b && c && d && e) f t in
    let p4 = and_left (a && b && c && d) e p5 in
    let p3 = and_left (a && b && c) d p4 in
    let p2 = and_left (a && b) c p3 in record {
      one = and_left a b p2;
      two = and_right a b p2;
      three = and_right (a && b) c p3;
      four = and_right (a && b && c) d p4;
      five = and_right (a && b && c && d) e p5;
      six = and_right (a && b && c && d && e) f t;
    }

pub raised_line : (stays : List Stay) (i : ℕ) (d : Stay) → i < length stays → (old new : List Stay) (t : Stay) → new ≡ old ++ t ∷ [] → Each (IsMarked old) (take i stays) → StandsFor (get_or stays i d) t → Each (IsMarked new) (take (i + 1) stays)
raised_line stays i d l old new t is e f =
    subst (λ ys. Each (IsMarked ys) (take (i + 1) stays)) (sym is)
    (subst (λ xs. Each (IsMarked (old ++ t ∷ [])) xs) (sym (take_more stays i d l)) (one_raised old (take i stays) t (get_or stays i d) e f))

pub unbeaten_by : (index : Index) (lives : List PrintedLife) (read : List Stay) (look : PrintedLook) (least : ℕ) → 0 < least → read ≡ index.stays.items → IsTrue index.ordered → (AreOrdered read → RulesOut read look least) → IsIndex index lives → is_beaten lives look least ≡ false
unbeaten_by index lives read look least low same t f x =
    unbeaten index.stays.items look least low
    (subst (λ (xs : List Stay). RulesOut xs look least) same (f (subst (λ (xs : List Stay). AreOrdered xs) (sym same) (x.ordered t)))) lives x.marked
