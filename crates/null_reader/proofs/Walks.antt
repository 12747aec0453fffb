-- How a pass of a lookup goes on.
use Rattle.std.proofs.Common.{◌≡◌, ◌≢◌, ℕ, ◌+◌, ◌*◌, ◌%◌, ◌/◌, ◌<◌, ◌≤◌, inl, inr, ⊎_elim, List, [], ◌∷◌, ◌++◌, length, sym, refl, ap, ◌∙◌, subst, arith, cond, Bool, eq-eqb, Option, Some, None, Ok, Err, IfSome, IfNone}
use lib.ListN.{get_elem?}
use mathlib.Core.Logic.{dite}
use native.Mathlib.Decide.{ℕ_discrete, dec_le}
use Rattle.table_rule.specs.Lists.{less}
use Rattle.sock_card.specs.Words.{word_rank as rank}
use Rattle.table_rule.specs.ReadersOk.{rank_of}
use Rattle.table_rule.specs.Plays.{Sat, with_reader, with_kept, entering, following, standing, stopping, Arrives, letting_go, drop_at}
use Rattle.table_rule.specs.LookCalls.{Looks, IsPassed, IsNth, IsAtEnd, HasRoom}
use Rattle.null_reader.specs.Looked.{keyed, Visited, looking, held, stopped, so_far, IsLookup, IsBest, Walking, Passed, HasTwo}
use Rattle.table_rule.specs.declared.view.View.{View}
use Rattle.table_rule.specs.declared.view.Layout.{Layout}
use Rattle.table_rule.specs.declared.view.Kept.{Kept}
use Rattle.table_rule.specs.declared.view.Reader.{Reader}
use Rattle.null_reader.specs.declared.answers.Best.{Best}
use Rattle.null_reader.specs.declared.answers.PassEnd.{PassEnd}
use Rattle.null_reader.specs.declared.answers.PassEnd.TheVariants.{Foreign, Long}
use Rattle.null_reader.proofs.LookViews.{less_first, less_second}
use Rattle.sock_card.specs.declared.card.Packet.{Packet}
use Rattle.table_rule.specs.Words.{words_of, bucket_count}

pub best_same : (layout : Layout) (v : View) (q q' : Reader) (best : Option Best) (ks : List Kept) (hs : List ℕ) → q'.best ≡ q.best → q'.key ≡ q.key → q'.least ≡ q.least → q'.since ≡ q.since → IsBest layout v q best ks hs → IsBest layout v q' best ks hs
best_same layout v q q' None ks hs a b c d o = (a ∙ o.0, o.1, o.2)
best_same layout v q q' (Some t) ks hs a b c d o = (o.0, a ∙ o.1, ap (λ (k : Packet). rank_of k (words_of t.card)) b ∙ o.2, omega (arith, c, o.3), omega (arith, d, o.4), o.5, o.6, o.7)

pub best_is : (layout : Layout) (v : View) (q : Reader) (best : Option Best) (ks : List Kept) (hs : List ℕ) → IsBest layout v q best ks hs → q.best ≡ so_far best
best_is layout v q None ks hs o = o.0
best_is layout v q (Some t) ks hs o = o.1

-- a link was loaded
pub walks_on : (layout : Layout) (m : Sat) (q₀ : Reader) (best : Option Best) (r F : ℕ) (n n' : Sat) (q p : Reader) (ks : List Kept) (hs : List ℕ) (taken : ℕ) → n.0.layout ≡ layout → n ≡ (looking m.0 q ks hs taken, m.1) → m.0.slot.taken ≤ taken → IsLookup q₀ p → IsBest layout m.0 p best ks hs → p.stops ≡ q₀.stops → p.followed ≡ F → (b : ℕ) → b ≡ q₀.bucket
    → Arrives n p b r n' → Walking layout m q₀ best r F n'
walks_on layout m q₀ best r F n n' q p ks hs taken own is more same bests stops count b bucket a =
    let at : (p' : Reader) → n' ≡ (with_reader n.0 (p' ∷ []), n.1) → n' ≡ (looking m.0 p' ks hs taken, m.1) = λ p' e. e ∙ ap (λ (s : Sat). (with_reader s.0 (p' ∷ []), s.1)) is in
    let slots : n.0.layout.shape.slots ≡ layout.shape.slots = ap (λ (s : Layout). s.shape.slots) own in
    let near : r % 2 ≡ 1 → r / 2 < bucket_count layout = λ odd. subst (λ (l : Layout). r / 2 < bucket_count l) own (a.4 odd) in
    let bucket' : r ≡ 2 * q₀.bucket + 1 → r ≡ 2 * b + 1 = λ e. e ∙ ap (λ (k : ℕ). 2 * k + 1) (sym bucket) in
    let stand : n' ≡ (with_reader n.0 (standing p r ∷ []), n.1) → (r % 2 ≡ 0 → F ≤ layout.shape.slots → r / 2 < layout.shape.slots) → (r % 2 ≡ 0 → layout.shape.slots < F → ⊥) → (r % 2 ≡ 1 → r ≢ 2 * q₀.bucket + 1 → ⊥) → Walking layout m q₀ best r F n' = λ e inside long foreign. record {
      q = standing p r;
      ks = ks;
      hs = hs;
      taken = taken;
      more = more;
      is = at (standing p r) e;
      same = record { bucket = same.bucket; key = same.key; least = same.least; since = same.since };
      best-is = best_same layout m.0 p (standing p r) best ks hs refl refl refl refl bests;
      slot = λ even few. (refl, refl, count, ap (λ (c : Bool). cond c (record { slot = r / 2; words = [] } ∷ []) []) (eq-eqb (r % 2) 0 even), inside even few, stops);
      long = λ even many. absurd (long even many);
      own = λ end. ((refl, end ∙ ap (λ (k : ℕ). 2 * k + 1) (sym same.bucket)), stops);
      near = near;
      foreign = λ odd ne. absurd (foreign odd ne);
    } in
    let stop : (kind a : ℕ) → n' ≡ (with_reader n.0 (stopping p kind a ∷ []), n.1) → (r % 2 ≡ 0 → F ≤ layout.shape.slots → ⊥) → (r % 2 ≡ 0 → (kind ≡ 3) × (a ≡ F)) → (r ≡ 2 * q₀.bucket + 1 → ⊥) → (r % 2 ≡ 1 → (kind ≡ 0) × (a ≡ r / 2)) → Walking layout m q₀ best r F n' = λ kind a e no-slot long no-own foreign. record {
      q = stopping p kind a;
      ks = ks;
      hs = hs;
      taken = taken;
      more = more;
      is = at (stopping p kind a) e;
      same = record { bucket = same.bucket; key = same.key; least = same.least; since = same.since };
      best-is = best_same layout m.0 p (stopping p kind a) best ks hs refl refl refl refl bests;
      slot = λ even few. absurd (no-slot even few);
      long = λ even many. let t = long even in (λ k. stops k ++ record { kind = t.0 k; at = t.1 k } ∷ [], refl);
      own = λ end. absurd (no-own end);
      near = near;
      foreign = λ odd ne. let t = foreign odd in (λ k. stops k ++ record { kind = t.0 k; at = t.1 k } ∷ [], refl);
    } in
    dite (ℕ_discrete (r % 2) 0)
    (λ even. dite (dec_le p.followed n.0.layout.shape.slots)
    (λ few. let t = a.0 even few in stand t.0 (λ _ _. omega (arith, t.1, slots)) (λ _ many. omega (arith, many, few, slots, count)) (λ odd. absurd (omega (arith, odd, even))))
    (λ many. stop 3 p.followed (a.1 even (omega (arith, many))) (λ _ few. many (omega (arith, few, slots, count))) (λ _. (refl, count)) (λ end. omega (arith, end, even)) (λ odd. absurd (omega (arith, odd, even)))))
    (λ odd. dite (ℕ_discrete r (2 * q₀.bucket + 1))
    (λ end. stand (a.2 (bucket' end)) (λ even. absurd (odd even)) (λ even. absurd (odd even)) (λ _ ne. ne end))
    (λ ne. stop 0 (r / 2) (a.3 (omega (arith, odd)) (λ z. ne (z ∙ ap (λ (k : ℕ). 2 * k + 1) bucket))) (λ even. absurd (odd even)) (λ even. absurd (odd even)) ne (λ _. (refl, refl))))

module _ (layout : Layout) (m : Sat) (q₀ : Reader) (best : Option Best) (link followed : ℕ) (n : Sat) (w : Walking layout m q₀ best link followed n) (even : link % 2 ≡ 0) (few : followed ≤ layout.shape.slots) where
  abbrev slot : ℕ
  slot = link / 2

  pub looks : Looks n.0 w.q
  looks = ap (λ (s : Sat). s.0.read.reader) w.is

  twice : link ≡ 2 * (link / 2)
  twice = omega (arith, even)

  -- the slot is passed over
  module _ (key : Packet) (least : ℕ) (key-is : q₀.key ≡ key) (least-is : q₀.least ≡ least) (n₁ : Sat) (v : Visited (link / 2) key least (so_far best) w.q n (Ok None) n₁) where
    passed-at : n₁ ≡ (looking m.0 (keyed w.q (link / 2) v.0 v.1) w.ks w.hs w.taken, m.1)
    passed-at = v.3 ∙ ap (λ (s : Sat). (with_reader s.0 (keyed w.q (link / 2) v.0 v.1 ∷ []), s.1)) w.is

    pub is_passed : IsPassed layout (link / 2) n₁.0
    is_passed = let t = w.slot even few in let same = w.same in record {
      q = keyed w.q (link / 2) v.0 v.1;
      looks = ap (λ (s : Sat). s.0.read.reader) passed-at;
      walking = t.0;
      link = t.1 ∙ twice;
      few = omega (arith, t.2, few);
      peeked = record { slot = link / 2; words = v.0 ∷ v.1 ∷ [] };
      peek = refl;
      slot-is = refl;
      a = v.0;
      b = v.1;
      words = refl;
      low = let k : w.q.key ≡ key = same.key ∙ key-is in let l : w.q.least ≡ least = same.least ∙ least-is in let r : rank w.q.key v.0 v.1 ≡ rank key v.0 v.1 = ap (λ (x : Packet). rank x v.0 v.1) k in
          ⊎_elim (λ z. inl (omega (arith, z, r, l))) (λ z. inr (omega (arith, z, r, best_is layout m.0 w.q best w.ks w.hs w.best-is))) v.2;
    }

    pub on_passed : (r : ℕ) (n₂ : Sat) → n₁.0.layout ≡ layout → ((q : Reader) → Looks n₁.0 q → Arrives n₁ (following q) q.bucket r n₂) → Walking layout m q₀ best r (followed + 1) n₂
    on_passed r n₂ own met = let t = w.slot even few in let q : Reader = keyed w.q (link / 2) v.0 v.1 in
        walks_on layout m q₀ best r (followed + 1) n₁ n₂ q (following q) w.ks w.hs w.taken own passed-at w.more (record { bucket = w.same.bucket; key = w.same.key; least = w.same.least; since = w.same.since })
        (best_same layout m.0 w.q (following q) best w.ks w.hs refl refl refl refl w.best-is) t.5 (ap (λ (k : ℕ). k + 1) t.2) q.bucket w.same.bucket (met q (ap (λ (s : Sat). s.0.read.reader) passed-at))

  -- the slot is better
  module _ (key : Packet) (least : ℕ) (key-is : q₀.key ≡ key) (least-is : q₀.least ≡ least) (early : q₀.since ≤ m.0.seen) (t : Best) (n₁ : Sat) (v : Visited (link / 2) key least (so_far best) w.q n (Ok (Some t)) n₁) where
    abbrev now : Reader
    now = record (keyed w.q (link / 2) v.0 v.1) { best = t.rank }

    better-at : n₁ ≡ (looking m.0 now (held t m.0.seen ∷ w.ks) ((link / 2) ∷ w.hs) (w.taken + 1), m.1)
    better-at = v.6 ∙ ap (λ (s : Sat). (looking s.0 now (held t s.0.seen ∷ s.0.read.kept) ((link / 2) ∷ s.0.slot.holds) (s.0.slot.taken + 1), s.1)) w.is

    pub better_nth : IfSome best (λ (u : Best). (u.slot < layout.shape.slots) × IsNth 1 u.slot n₁.0)
    better_nth = on best w.best-is
      where
        on : (b : Option Best) → IsBest layout m.0 w.q b w.ks w.hs → IfSome b (λ (u : Best). (u.slot < layout.shape.slots) × IsNth 1 u.slot n₁.0)
        on None o = tt
        on (Some u) o = (o.7, record { kept = held u o.0; there = ap (λ (s : Sat). get_elem? s.0.read.kept 1) better-at ∙ ap (λ (l : List Kept). get_elem? l 0) o.5; slot-is = refl })

    module _ (n₂ : Sat) (kept : IfNone best (n₂ ≡ n₁)) (changed : IfSome best (λ (u : Best). n₂ ≡ (with_kept (letting_go n₁.0 u.slot) (drop_at 1 n₁.0.read.kept), n₁.1))) where
      best-at : n₂ ≡ (looking m.0 now (held t m.0.seen ∷ m.0.read.kept) (t.slot ∷ m.0.slot.holds) (w.taken + 1), m.1)
      best-at = on best w.best-is kept changed
        where
          on : (b : Option Best) → IsBest layout m.0 w.q b w.ks w.hs → IfNone b (n₂ ≡ n₁) → IfSome b (λ (u : Best). n₂ ≡ (with_kept (letting_go n₁.0 u.slot) (drop_at 1 n₁.0.read.kept), n₁.1)) → n₂ ≡ (looking m.0 now (held t m.0.seen ∷ m.0.read.kept) (t.slot ∷ m.0.slot.holds) (w.taken + 1), m.1)
          on None o same _ = same ∙ (better-at ∙ (ap (λ (l : List Kept). (looking m.0 now (held t m.0.seen ∷ l) ((link / 2) ∷ w.hs) (w.taken + 1), m.1)) o.1 ∙ (ap (λ (l : List ℕ). (looking m.0 now (held t m.0.seen ∷ m.0.read.kept) ((link / 2) ∷ l) (w.taken + 1), m.1)) o.2 ∙ ap (λ (k : ℕ). (looking m.0 now (held t m.0.seen ∷ m.0.read.kept) (k ∷ m.0.slot.holds) (w.taken + 1), m.1)) (sym v.2))))
          on (Some u) o _ else = else ∙ (ap (λ (s : Sat). (with_kept (letting_go s.0 u.slot) (drop_at 1 s.0.read.kept), s.1)) better-at
              ∙ (ap (λ (l : List Kept). (looking m.0 now (held t m.0.seen ∷ drop_at 0 l) (less u.slot ((link / 2) ∷ w.hs)) (w.taken + 1), m.1)) o.5
              ∙ (ap (λ (l : List ℕ). (looking m.0 now (held t m.0.seen ∷ m.0.read.kept) (less u.slot ((link / 2) ∷ l)) (w.taken + 1), m.1)) o.6
              ∙ (ap (λ (l : List ℕ). (looking m.0 now (held t m.0.seen ∷ m.0.read.kept) l (w.taken + 1), m.1)) (less_second (link / 2) u.slot m.0.slot.holds)
              ∙ ap (λ (k : ℕ). (looking m.0 now (held t m.0.seen ∷ m.0.read.kept) (k ∷ m.0.slot.holds) (w.taken + 1), m.1)) (sym v.2)))))

      same-lookup : IsLookup q₀ now
      same-lookup = record { bucket = w.same.bucket; key = w.same.key; least = w.same.least; since = w.same.since }

      better-is : IsBest layout m.0 now (Some t) (held t m.0.seen ∷ m.0.read.kept) (t.slot ∷ m.0.slot.holds)
      better-is = (m.0.seen, refl, ap (λ (k : Packet). rank_of k (words_of t.card)) (w.same.key ∙ key-is) ∙ v.4, omega (arith, w.same.least, least-is, v.5), omega (arith, w.same.since, early), refl, refl, omega (arith, v.2, (w.slot even few).4))

      pub turned_found : t.rank ≡ 5 → Passed layout m q₀ (Ok (Some t)) n₂
      turned_found top = (now, held t m.0.seen ∷ m.0.read.kept, t.slot ∷ m.0.slot.holds, same-lookup, inr top, better-is, (w.slot even few).5, w.taken + 1, omega (arith, w.more), best-at)

      pub is_passed_better : IsPassed layout (link / 2) n₂.0
      is_passed_better = let s = w.slot even few in record {
        q = now;
        looks = ap (λ (x : Sat). x.0.read.reader) best-at;
        walking = s.0;
        link = s.1 ∙ twice;
        few = omega (arith, s.2, few);
        peeked = record { slot = link / 2; words = v.0 ∷ v.1 ∷ [] };
        peek = refl;
        slot-is = refl;
        a = v.0;
        b = v.1;
        words = refl;
        low = inr (omega (arith, ap (λ (x : Packet). rank x v.0 v.1) (w.same.key ∙ key-is), v.3));
      }

      pub on_better : (r : ℕ) (n₃ : Sat) → n₂.0.layout ≡ layout → ((q : Reader) → Looks n₂.0 q → Arrives n₂ (following q) q.bucket r n₃) → Walking layout m q₀ (Some t) r (followed + 1) n₃
      on_better r n₃ own met = let s = w.slot even few in
          walks_on layout m q₀ (Some t) r (followed + 1) n₂ n₃ now (following now) (held t m.0.seen ∷ m.0.read.kept) (t.slot ∷ m.0.slot.holds) (w.taken + 1) own best-at (omega (arith, w.more)) (record { bucket = w.same.bucket; key = w.same.key; least = w.same.least; since = w.same.since })
          (best_same layout m.0 now (following now) (Some t) (held t m.0.seen ∷ m.0.read.kept) (t.slot ∷ m.0.slot.holds) refl refl refl refl better-is) s.5 (ap (λ (k : ℕ). k + 1) s.2) now.bucket w.same.bucket (met now (ap (λ (x : Sat). x.0.read.reader) best-at))

  -- the pass stops there
  module _ (key : Packet) (least : ℕ) (e : PassEnd) (n₁ : Sat) (v : Visited (link / 2) key least (so_far best) w.q n (Err e) n₁) where
    pub stopped_at : n₁ ≡ (looking m.0 (stopped w.q e) w.ks w.hs (w.taken + 1), m.1)
    stopped_at = v ∙ ap (λ (s : Sat). (looking s.0 (stopped w.q e) s.0.read.kept s.0.slot.holds (s.0.slot.taken + 1), s.1)) w.is

-- what a pass holds is put
module _ (layout : Layout) (m : Sat) (q : Reader) (q₁ : Reader) (best : Option Best) (ks : List Kept) (hs : List ℕ) (taken : ℕ) (n : Sat) (o : IsBest layout m.0 q best ks hs) (is : n ≡ (looking m.0 q₁ ks hs taken, m.1)) where
  pub drop_nth : IfSome best (λ (u : Best). (u.slot < layout.shape.slots) × IsNth 0 u.slot n.0)
  drop_nth = on best o
    where
      on : (b : Option Best) → IsBest layout m.0 q b ks hs → IfSome b (λ (u : Best). (u.slot < layout.shape.slots) × IsNth 0 u.slot n.0)
      on None o = tt
      on (Some u) o = (o.7, record { kept = held u o.0; there = ap (λ (s : Sat). get_elem? s.0.read.kept 0) is ∙ ap (λ (l : List Kept). get_elem? l 0) o.5; slot-is = refl })

  pub dropped : (n' : Sat) → IfNone best (n' ≡ n) → IfSome best (λ (u : Best). n' ≡ (with_kept (letting_go n.0 u.slot) (drop_at 0 n.0.read.kept), n.1)) → n' ≡ (looking m.0 q₁ m.0.read.kept m.0.slot.holds taken, m.1)
  dropped n' kept changed = on best o kept changed
    where
      on : (b : Option Best) → IsBest layout m.0 q b ks hs → IfNone b (n' ≡ n) → IfSome b (λ (u : Best). n' ≡ (with_kept (letting_go n.0 u.slot) (drop_at 0 n.0.read.kept), n.1)) → n' ≡ (looking m.0 q₁ m.0.read.kept m.0.slot.holds taken, m.1)
      on None o same _ = same ∙ (is ∙ (ap (λ (l : List Kept). (looking m.0 q₁ l hs taken, m.1)) o.1 ∙ ap (λ (l : List ℕ). (looking m.0 q₁ m.0.read.kept l taken, m.1)) o.2))
      on (Some u) o _ else = else ∙ (ap (λ (s : Sat). (with_kept (letting_go s.0 u.slot) (drop_at 0 s.0.read.kept), s.1)) is
          ∙ (ap (λ (l : List Kept). (looking m.0 q₁ (drop_at 0 l) (less u.slot hs) taken, m.1)) o.5
          ∙ (ap (λ (l : List ℕ). (looking m.0 q₁ m.0.read.kept (less u.slot l) taken, m.1)) o.6
          ∙ ap (λ (l : List ℕ). (looking m.0 q₁ m.0.read.kept l taken, m.1)) (less_first u.slot m.0.slot.holds))))

-- a pass begins
pub walks_first : (layout : Layout) (m n' : Sat) (q : Reader) (r : ℕ) → m.0.layout ≡ layout → Looks m.0 q → ((q : Reader) → Looks m.0 q → Arrives m (entering q) q.bucket r n') → Walking layout m q None r 0 n'
walks_first layout m n' q r own looks met = walks_on layout m q None r 0 m n' q (entering q) m.0.read.kept m.0.slot.holds m.0.slot.taken own (ap (λ (l : List Reader). (record m.0 { read = record m.0.read { reader = l } }, m.1)) looks) (omega arith)
    (record { bucket = refl; key = refl; least = refl; since = refl }) (refl, refl, refl) refl refl q.bucket refl (met q looks)

module _ (layout : Layout) (m : Sat) (q₀ : Reader) (best : Option Best) (link followed : ℕ) (n : Sat) (w : Walking layout m q₀ best link followed n) where
  pub room_for : HasTwo m.0 → HasRoom n.0
  room_for two = let parts : n.0.slot.parts ≡ m.0.slot.parts = ap (λ (s : Sat). s.0.slot.parts) w.is in let len : length n.0.slot.holds ≡ length w.hs = ap (λ (s : Sat). length s.0.slot.holds) w.is in omega (arith, parts, len, two, on best w.best-is)
    where
      on : (b : Option Best) → IsBest layout m.0 w.q b w.ks w.hs → length w.hs ≤ length m.0.slot.holds + 1
      on None o = omega (arith, ap length o.2)
      on (Some t) o = omega (arith, ap length o.6)

  -- it met its bucket's own end
  pub passed_own : link ≡ 2 * q₀.bucket + 1 → Passed layout m q₀ (Ok best) n
  passed_own end = let e = w.own end in on best w.best-is e
    where
      on : (b : Option Best) → IsBest layout m.0 w.q b w.ks w.hs → IsAtEnd w.q × (w.q.stops ≡ q₀.stops) → Passed layout m q₀ (Ok b) n
      on None o e = (w.q, w.same, e.0, o.0, e.1, w.taken, w.more, w.is ∙ (ap (λ (l : List Kept). (looking m.0 w.q l w.hs w.taken, m.1)) o.1 ∙ ap (λ (l : List ℕ). (looking m.0 w.q m.0.read.kept l w.taken, m.1)) o.2))
      on (Some t) o e = (w.q, w.ks, w.hs, w.same, inl e.0, o, e.1, w.taken, w.more, w.is)

  pub walk_nth : IfSome best (λ (u : Best). (u.slot < layout.shape.slots) × IsNth 0 u.slot n.0)
  walk_nth = drop_nth layout m w.q w.q best w.ks w.hs w.taken n w.best-is w.is

  module _ (n' : Sat) (kept : IfNone best (n' ≡ n)) (changed : IfSome best (λ (u : Best). n' ≡ (with_kept (letting_go n.0 u.slot) (drop_at 0 n.0.read.kept), n.1))) where
    put-at : n' ≡ (looking m.0 w.q m.0.read.kept m.0.slot.holds w.taken, m.1)
    put-at = dropped layout m w.q w.q best w.ks w.hs w.taken n w.best-is w.is n' kept changed

    pub passed_foreign : link % 2 ≡ 1 → link ≢ 2 * q₀.bucket + 1 → Passed layout m q₀ (Err (Foreign (link / 2))) n'
    passed_foreign odd ne = (w.q, w.same, (w.foreign odd ne).0, w.taken, w.more, put-at, (w.foreign odd ne).1)

    pub passed_long : link % 2 ≡ 0 → layout.shape.slots < followed → Passed layout m q₀ (Err (Long followed)) n'
    passed_long even many = (w.q, w.same, (w.long even many).0, w.taken, w.more, put-at, (w.long even many).1)
