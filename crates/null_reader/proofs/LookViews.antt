use Rattle.std.proofs.Common.{◌≡◌, ◌≢◌, ℕ, ◌+◌, ◌<◌, ◌≤◌, List, [], ◌∷◌, sym, refl, ap, ◌∙◌, arith, cond, Bool, eq-eqb, ne_eqb, Some, None, Ok, Err}
use lib.ListN.{get_elem?}
use mathlib.Core.Logic.{dite}
use native.Mathlib.Decide.{ℕ_discrete}
use Rattle.table_rule.specs.Lists.{times, less}
use Rattle.sock_card.specs.Words.{word_rank as rank}
use Rattle.table_rule.specs.ReadersOk.{keeps_at}
use Rattle.table_rule.specs.Plays.{Sat, with_reader, with_kept, glancing, knowing, taking, counting, letting_go, drop_at, learning, stopping, Judges}
use Rattle.table_rule.specs.Calls.{view}
use Rattle.table_rule.specs.LookCalls.{Looks, IsAtSlot, IsJudged, IsNth}
use Rattle.null_reader.specs.Looked.{IsVisiting, IsChecking, Keyed, keyed, Checked, Visited, looking}
use Rattle.table_rule.specs.LookCalls.{with_words}
use Rattle.table_rule.specs.declared.view.View.{View}
use Rattle.table_rule.specs.declared.view.Seen.{Seen}
use Rattle.table_rule.specs.declared.view.Kept.{Kept}
use Rattle.sock_card.specs.declared.words.CardWords.{CardWords}
use Rattle.table_rule.specs.declared.view.Reader.{Reader}
use Rattle.null_reader.specs.declared.answers.PassEnd.TheVariants.{Dead, Changed}
use Rattle.table_rule.proofs.Lists.{times-here}
use Rattle.table_rule.proofs.AllowedLookups.{first_one}
use Rattle.table_rule.proofs.Kepts.{Knows}
use Rattle.sock_card.specs.declared.card.Packet.{Packet}
use Rattle.table_rule.specs.Words.{words_of}

pub same_reader : (v : View) (q q' : Reader) → Looks v q → Looks v q' → q ≡ q'
same_reader v q q' a b = first_one q q' [] [] v.read.reader a b

pub less_first : (i : ℕ) (xs : List ℕ) → less i (i ∷ xs) ≡ xs
less_first i xs = ap (λ (b : Bool). cond b xs (i ∷ less i xs)) (eq-eqb i i refl)

pub less_second : (i j : ℕ) (xs : List ℕ) → less j (i ∷ j ∷ xs) ≡ i ∷ xs
less_second i j xs = dite (ℕ_discrete i j)
    (λ e. ap (λ (b : Bool). cond b (j ∷ xs) (i ∷ less j (j ∷ xs))) (eq-eqb i j e) ∙ ap (λ (k : ℕ). k ∷ xs) (sym e))
    (λ ne. ap (λ (b : Bool). cond b (j ∷ xs) (i ∷ less j (j ∷ xs))) (ne_eqb i j ne) ∙ ap (λ (l : List ℕ). i ∷ l) (less_first j xs))

-- key_rank

abbrev pub Glances : Sat → ℕ → Sat → Type 0
Glances m r n = (q : Reader) → Looks m.0 q → n ≡ (with_reader m.0 (glancing q r ∷ []), m.1)

pub at_second : (slot : ℕ) (key : Packet) (r : ℕ) (m n : Sat) → IsVisiting slot key m.0 → Glances m r n → IsAtSlot slot 1 n.0
at_second slot key r m n a view = record {
  q = glancing a.q r;
  looks = ap (λ (s : Sat). s.0.read.reader) (view a.q a.looks);
  walking = a.walking;
  link = a.link;
  peeked = record { slot = slot; words = r ∷ [] };
  peek = ap (λ (l : List Seen). knowing l r) a.peek;
  slot-is = refl;
  known = refl;
}

pub both_known : (slot : ℕ) (key : Packet) (r₁ r₂ r : ℕ) (m n₁ n₂ : Sat) → IsVisiting slot key m.0 → Glances m r₁ n₁ → Glances n₁ r₂ n₂ → r ≡ rank key r₁ r₂ → (q : Reader) → Looks m.0 q → Keyed slot key q m r n₂
both_known slot key r₁ r₂ r m n₁ n₂ a first second is q looks =
    let e₁ = first q looks in
    let e₂ = second (glancing q r₁) (ap (λ (s : Sat). s.0.read.reader) e₁) in
    let peek : q.peeked ≡ record { slot = slot; words = [] } ∷ [] = ap (λ (p : Reader). p.peeked) (same_reader m.0 q a.q looks a.looks) ∙ a.peek in
    (r₁, r₂, is, e₂ ∙ (ap (λ (s : Sat). (with_reader s.0 (glancing (glancing q r₁) r₂ ∷ []), s.1)) e₁ ∙ ap (λ (l : List Seen). (with_reader m.0 (record q { peeked = knowing (knowing l r₁) r₂ } ∷ []), m.1)) peek))

-- check

pub is_judged : (slot : ℕ) (key : Packet) (before a' b' c' : ℕ) (m n : Sat) (a : IsChecking slot key before m.0) → Knows m a.kept (a' ∷ b' ∷ c' ∷ []) a.others n → IsJudged slot n.0
is_judged slot key before a' b' c' m n a e = record {
  q = a.q;
  looks = ap (λ (s : Sat). s.0.read.reader) e ∙ a.looks;
  peeked = record { slot = slot; words = a.a ∷ a.b ∷ [] };
  peek = a.peek;
  kept = with_words a.kept (a' ∷ b' ∷ c' ∷ []);
  others = a.others;
  there = ap (λ (s : Sat). s.0.read.kept) e;
  slot-is = a.slot-is;
  same-slot = a.slot-is;
  a = a.a;
  b = a.b;
  words = refl;
  a' = a';
  b' = b';
  c' = c';
  known = refl;
  better = omega (arith, a.better, a.rank-is, ap (λ (k : Packet). rank k a.a a.b) a.key-is);
}

module _ (slot : ℕ) (key : Packet) (before : ℕ) (m n n' : Sat) (a : IsChecking slot key before m.0) (card : CardWords) (e : Knows m a.kept (card.ends ∷ card.ports ∷ card.name ∷ []) a.others n)
    (judged : (q : Reader) (s : Seen) (h : Kept) (hs : List Kept) → Looks n.0 q → q.peeked ≡ s ∷ [] → n.0.read.kept ≡ h ∷ hs → Judges n q s h card.extra n') (q : Reader) (h : Kept) (hs : List Kept) (looks : Looks m.0 q) (there : m.0.read.kept ≡ h ∷ hs) where
  is-q : a.q ≡ q
  is-q = same_reader m.0 a.q q a.looks looks

  is-h : a.kept ≡ h
  is-h = first_one a.kept h a.others hs m.0.read.kept a.there there

  abbrev rest : List Kept → List Kept
  rest [] = []
  rest (x ∷ xs) = xs

  is-hs : a.others ≡ hs
  is-hs = ap rest (sym a.there ∙ there)

  e' : n ≡ (with_kept m.0 (with_words h (card.ends ∷ card.ports ∷ card.name ∷ []) ∷ hs), m.1)
  e' = e ∙ (ap (λ (k : Kept). (with_kept m.0 (with_words k (card.ends ∷ card.ports ∷ card.name ∷ []) ∷ a.others), m.1)) is-h ∙ ap (λ (l : List Kept). (with_kept m.0 (with_words h (card.ends ∷ card.ports ∷ card.name ∷ []) ∷ l), m.1)) is-hs)

  key-is : q.key ≡ key
  key-is = ap (λ (p : Reader). p.key) (sym is-q) ∙ a.key-is

  j : Judges n q (record { slot = slot; words = a.a ∷ a.b ∷ [] }) (with_words h (card.ends ∷ card.ports ∷ card.name ∷ [])) card.extra n'
  j = judged q (record { slot = slot; words = a.a ∷ a.b ∷ [] }) (with_words h (card.ends ∷ card.ports ∷ card.name ∷ [])) hs (ap (λ (s : Sat). s.0.read.reader) e' ∙ looks) (ap (λ (p : Reader). p.peeked) (sym is-q) ∙ a.peek) (ap (λ (s : Sat). s.0.read.kept) e')

  pub checked_same : rank key card.ends card.ports ≡ before → Checked slot key before q h hs m (Some card) n'
  checked_same same =
      let old : rank q.key a.a a.b ≡ before = ap (λ (k : Packet). rank k a.a a.b) key-is ∙ sym a.rank-is in
      let new : rank q.key card.ends card.ports ≡ rank q.key a.a a.b = ap (λ (k : Packet). rank k card.ends card.ports) key-is ∙ (same ∙ sym old) in (
        same,
        j.0 new ∙ (ap (λ (s : Sat). (with_reader (with_kept s.0 (learning s.0.read.kept card.extra)) (record q { best = rank q.key a.a a.b } ∷ []), s.1)) e'
            ∙ ap (λ (k : ℕ). (with_reader (with_kept m.0 (with_words h (words_of card) ∷ hs)) (record q { best = k } ∷ []), m.1)) old),
      )

  pub checked_other : rank key card.ends card.ports ≢ before → Checked slot key before q h hs m None n'
  checked_other other =
      let old : rank q.key a.a a.b ≡ before = ap (λ (k : Packet). rank k a.a a.b) key-is ∙ sym a.rank-is in (
        words_of card,
        j.1 (λ z. other (ap (λ (k : Packet). rank k card.ends card.ports) (sym key-is) ∙ (z ∙ old))) ∙ ap (λ (s : Sat). (with_reader (with_kept s.0 (learning s.0.read.kept card.extra)) (stopping q 2 slot ∷ []), s.1)) e',
      )

-- visit

module _ (slot : ℕ) (key : Packet) (least best before : ℕ) (m n : Sat) (a : IsVisiting slot key m.0) (keyed-is : (q : Reader) → Looks m.0 q → Keyed slot key q m before n) where
  pub looks_keyed : (q : Reader) (looks : Looks m.0 q) → Looks n.0 (keyed q slot (keyed-is q looks).0 (keyed-is q looks).1)
  looks_keyed q looks = ap (λ (s : Sat). s.0.read.reader) (keyed-is q looks).3

  pub at_take : IsAtSlot slot 2 n.0
  at_take = let k = keyed-is a.q a.looks in record { q = keyed a.q slot k.0 k.1; looks = looks_keyed a.q a.looks; walking = a.walking; link = a.link; peeked = record { slot = slot; words = k.0 ∷ k.1 ∷ [] }; peek = refl; slot-is = refl; known = refl }

  module _ (n₂ : Sat) (dead : (q : Reader) → Looks n.0 q → n₂ ≡ (with_reader (counting n.0 slot) (stopping q 1 slot ∷ []), n.1)) where
    pub dead_more : ((j : ℕ) → keeps_at j n.0.read ≤ times j n.0.slot.holds) → keeps_at slot n₂.0.read < times slot n₂.0.slot.holds
    dead_more counted = let k = keyed-is a.q a.looks in let e = dead (keyed a.q slot k.0 k.1) (looks_keyed a.q a.looks) in
        omega (arith, counted slot, ap (λ (s : Sat). keeps_at slot s.0.read) e, ap (λ (s : Sat). times slot s.0.slot.holds) e, times-here slot n.0.slot.holds)

    pub visited_dead : (n₃ : Sat) → n₃ ≡ (letting_go n₂.0 slot, n₂.1) → (q : Reader) → Looks m.0 q → Visited slot key least best q m (Err (Dead slot)) n₃
    visited_dead n₃ e₃ q looks = let k = keyed-is q looks in
        e₃ ∙ (ap (λ (s : Sat). (letting_go s.0 slot, s.1)) (dead (keyed q slot k.0 k.1) (looks_keyed q looks))
        ∙ (ap (λ (s : Sat). (record (with_reader (counting s.0 slot) (stopping (keyed q slot k.0 k.1) 1 slot ∷ [])) { slot = record (counting s.0 slot).slot { holds = less slot (slot ∷ s.0.slot.holds) } }, s.1)) k.3
        ∙ ap (λ (l : List ℕ). (looking m.0 (stopping q 1 slot) m.0.read.kept l (m.0.slot.taken + 1), m.1)) (less_first slot m.0.slot.holds)))

  module _ (n₂ : Sat) (live : n₂ ≡ (taking n.0 slot, n.1)) where
    abbrev new : Kept
    new = record { slot = slot; since = m.0.seen; words = [] }

    taken : (q : Reader) (looks : Looks m.0 q) → n₂ ≡ (looking m.0 (keyed q slot (keyed-is q looks).0 (keyed-is q looks).1) (new ∷ m.0.read.kept) (slot ∷ m.0.slot.holds) (m.0.slot.taken + 1), m.1)
    taken q looks = live ∙ ap (λ (s : Sat). (taking s.0 slot, s.1)) (keyed-is q looks).3

    module _ (n₃ : Sat) where
      pub visited_better : (card : CardWords) → least ≤ before → ((q : Reader) (h : Kept) (hs : List Kept) → Looks n₂.0 q → n₂.0.read.kept ≡ h ∷ hs → Checked slot key before q h hs n₂ (Some card) n₃)
          → (q : Reader) → Looks m.0 q → Visited slot key least best q m (Ok (Some (record { slot = slot; card = card; rank = before }))) n₃
      visited_better card enough checked q looks =
          let k = keyed-is q looks in
          let t = taken q looks in
          let c = checked (keyed q slot k.0 k.1) new m.0.read.kept (ap (λ (s : Sat). s.0.read.reader) t) (ap (λ (s : Sat). s.0.read.kept) t) in
          (k.0, k.1, refl, k.2, c.0, enough, c.1 ∙ ap (λ (s : Sat). (with_reader (with_kept s.0 (with_words new (words_of card) ∷ m.0.read.kept)) (record (keyed q slot k.0 k.1) { best = before } ∷ []), s.1)) t)

      module _ (other : (q : Reader) (h : Kept) (hs : List Kept) → Looks n₂.0 q → n₂.0.read.kept ≡ h ∷ hs → Checked slot key before q h hs n₂ None n₃) where
        pub changed_nth : IsNth 0 slot n₃.0
        changed_nth = let k = keyed-is a.q a.looks in let t = taken a.q a.looks in
            let c = other (keyed a.q slot k.0 k.1) new m.0.read.kept (ap (λ (s : Sat). s.0.read.reader) t) (ap (λ (s : Sat). s.0.read.kept) t) in
            record { kept = with_words new c.0; there = ap (λ (s : Sat). get_elem? s.0.read.kept 0) c.1; slot-is = refl }

        pub visited_changed : (n₄ : Sat) → n₄ ≡ (with_kept (letting_go n₃.0 slot) (drop_at 0 n₃.0.read.kept), n₃.1) → (q : Reader) → Looks m.0 q → Visited slot key least best q m (Err (Changed slot)) n₄
        visited_changed n₄ e₄ q looks =
            let k = keyed-is q looks in
            let t = taken q looks in
            let c = other (keyed q slot k.0 k.1) new m.0.read.kept (ap (λ (s : Sat). s.0.read.reader) t) (ap (λ (s : Sat). s.0.read.kept) t) in
            e₄ ∙ (ap (λ (s : Sat). (with_kept (letting_go s.0 slot) (drop_at 0 s.0.read.kept), s.1)) c.1
            ∙ (ap (λ (s : Sat). (with_reader (with_kept (letting_go s.0 slot) m.0.read.kept) (stopping (keyed q slot k.0 k.1) 2 slot ∷ []), s.1)) t
            ∙ ap (λ (l : List ℕ). (looking m.0 (stopping q 2 slot) m.0.read.kept l (m.0.slot.taken + 1), m.1)) (less_first slot m.0.slot.holds)))
