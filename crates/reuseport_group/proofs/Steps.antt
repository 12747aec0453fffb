-- Each kind of step keeps the rule.
use Rattle.std.proofs.Common.{◌≡◌, ◌≢◌, ℕ, zero, suc, ◌+◌, ◌*◌, ◌<◌, ◌≤◌, true, false, List, [], ◌∷◌, ◌++◌, length, get_or, set, replicate, sym, refl, ap, ◌∙◌, subst, arith, length-set, get_or-set_same, get_or-set_other}
use mathlib.Core.Logic.{dite}
use native.Mathlib.Decide.{ℕ_discrete}
use mathlib.Core.Option.{none, some}
use lib.ListN.{get_elem?}
use lib.Seq.{set-get_or}
use Rattle.std.proofs.lemmas.List.{length-replicate, get_or-replicate}
use Rattle.atomic_table.specs.Table.{State, step, keeps, opening, Allows, Splits, Joins}
use Rattle.atomic_table.proofs.Lists.{set_else}
use Rattle.list_words.specs.Lists.{total}
use Rattle.list_words.proofs.EachLemmas.{each_append}
use Rattle.list_words.proofs.TotalLemmas.{total-append}
use Rattle.reuseport_group.specs.Words.{most, at, word_of, latest, HasMembers, NotBefore, Occurs}
use Rattle.reuseport_group.specs.Views.{first, newcomer, nobody, cut, joined, looking, writing}
use Rattle.reuseport_group.specs.Grouped.{Knows, Grouped}
use Rattle.reuseport_group.specs.Plays.{Sat, Known, Saw, wrote, kept}
use Rattle.reuseport_group.specs.declared.view.Stored.{Stored}
use Rattle.reuseport_group.specs.declared.view.GroupView.{GroupView}
use Rattle.list_words.proofs.PlaceLemmas.{at_below, only_one, each_set, each_set_snoc, each_set_two, total-set, terms_le, total-alone}
use Rattle.reuseport_group.proofs.Moments.{later_same, laters_more, occurs_more, latest_here, latest_else, each_occurs}

abbrev St : Type 0
St = State (Unit {0}) GroupView

abbrev part_of : GroupView → ℕ
part_of v = v.parts

abbrev weigh : (Stored → ℕ) → GroupView → ℕ
weigh f v = total f v.mine

not_true : false ≡ true → ⊥
not_true e = absurd (cc)

-- what a pass may know at a step
known : (n : ℕ) (s : St) (o : Grouped n s) (id : ℕ) (v : GroupView) → get_elem? s.views id ≡ some v → Known v o.history
known n s o id v me = record {
  later = (o.knows id v me).later;
  own = (o.knows id v me).own;
  short = o.short;
  ordered = o.ordered;
  sole = λ t. (o.sole id v me t).1;
  whole = λ all f. o.balance f ∙ total-alone (weigh f) s.views id v me
      (λ k u other e. let p = terms_le part_of s.views id k v u other me e in let q = o.parts in ap (total f) ((o.knows k u e).idle (omega arith)));
}

-- it knows a moment, and nothing else is new
looked : (n : ℕ) (s : St) (o : Grouped n s) (id : ℕ) (v : GroupView) → get_elem? s.views id ≡ some v → Grouped n record { words = s.words; homes = s.homes; views = set s.views id (looking v o.history) }
looked n s o id v me =
    let w : GroupView = looking v o.history in
    let long : length (set s.views id w) ≡ length s.views = length-set s.views id w in
    let mine = o.knows id v me in
    record {
      history = o.history;
      wide = o.wide;
      words = o.words;
      short = o.short;
      ordered = o.ordered;
      parts = omega (arith, total-set part_of s.views id v w me, o.parts);
      balance = λ f. omega (arith, total-set (weigh f) s.views id v w me, o.balance f);
      knows = each_set s.views id w (Knows o.history) record { later = (later_same o.history, tt); own = mine.own; idle = mine.idle } (λ k u _ e. o.knows k u e);
      sole = each_set s.views id w (λ (u : GroupView). u.sole ≡ true → (length (set s.views id w) ≡ 1) × (o.history ≡ u.mine))
          (λ t. let q = o.sole id v me t in (long ∙ q.0, q.1))
          (λ k u _ e t. let q = o.sole k u e t in (long ∙ q.0, q.1));
    }

pub loads : (n slots id : ℕ) (m : Sat) (i : ℕ) → i < (1 + most) * n → Allows (Grouped n) slots id m i (λ x. x) (Saw (step slots i 0 0 none) m)
loads n slots id m i near s o len me fits =
    let ok = looked n s o id m.0 me in (
      looking m.0 o.history,
      keeps,
      tt,
      subst (λ (ws : List ℕ). Grouped n record { words = ws; homes = s.homes; views = set s.views id (looking m.0 o.history) }) (sym (set-get_or s.words i 0)) ok,
      record {
        now = o.history;
        is = refl;
        value = λ g j le e. ap (λ (k : ℕ). get_or s.words k 0) e ∙ o.words g j (omega arith) le;
        known = known n s o id m.0 me;
      },
    )

-- where a pass was never split there is no other
alone : (n : ℕ) (s : St) (o : Grouped n s) (id k : ℕ) (v u : GroupView) → get_elem? s.views id ≡ some v → get_elem? s.views k ≡ some u → k ≢ id → u.sole ≡ true → ⊥
alone n s o id k v u me e other t = let q = (o.sole k u e t).0 in let a = at_below s.views id v me in let b = at_below s.views k u e in other (omega arith)

-- a word of a list is stored
module _ (n : ℕ) (s : St) (o : Grouped n s) (id : ℕ) (v : GroupView) (me : get_elem? s.views id ≡ some v) (g j : ℕ) (l : List ℕ) (near : g < n) (le : j ≤ most) (few : length l ≤ most) (part : 0 < v.parts) (last : j ≡ 0 → HasMembers g l v.mine) where
  abbrev e : Stored
  e = record { group = g; at = j; members = l }

  abbrev w : GroupView
  w = writing v o.history e

  abbrev ws : List ℕ
  ws = set s.words (at g j) (word_of l j)

  words_after : (h k : ℕ) → h < n → k ≤ most → get_or ws (at h k) 0 ≡ latest h k (e ∷ o.history)
  words_after h k inside few = dite (ℕ_discrete (at g j) (at h k))
      (λ z. let a : g ≡ h = omega arith in let b : j ≡ k = omega arith in
      ap (λ (p : ℕ). get_or ws p 0) (sym z) ∙ (get_or-set_same s.words (at g j) (word_of l j) 0 (let wide = o.wide in omega arith) ∙ (ap (word_of l) b ∙ sym (latest_here h k e o.history a b))))
      (λ z. get_or-set_other s.words (at g j) (at h k) (word_of l j) 0 (λ y. z (omega arith)) ∙ (o.words h k inside few ∙ sym (latest_else h k e o.history (λ a b. z (omega arith)))))

  written : Grouped n record { words = ws; homes = s.homes; views = set s.views id w }
  written =
      let mine = o.knows id v me in
      record {
        history = e ∷ o.history;
        wide = length-set s.words (at g j) (word_of l j) ∙ o.wide;
        words = words_after;
        short = (few, o.short);
        ordered = ((λ z p lt. let t = last z p lt in each_occurs (λ (x : Stored). Occurs x o.history) v.mine t.0 record { group = g; at = suc p; members = l } mine.own t.1), o.ordered);
        parts = omega (arith, total-set part_of s.views id v w me, o.parts);
        balance = λ f. omega (arith, total-set (weigh f) s.views id v w me, o.balance f);
        knows = each_set s.views id w (Knows (e ∷ o.history))
            record { later = (later_same (e ∷ o.history), tt); own = ((zero, refl), occurs_more e o.history v.mine mine.own); idle = λ z. absurd (omega arith) }
            (λ k u _ d. let old = o.knows k u d in record { later = laters_more e o.history u.moments old.later; own = occurs_more e o.history u.mine old.own; idle = old.idle });
        sole = each_set s.views id w (λ (u : GroupView). u.sole ≡ true → (length (set s.views id w) ≡ 1) × (e ∷ o.history ≡ u.mine))
            (λ t. let q = o.sole id v me t in (length-set s.views id w ∙ q.0, ap (λ (h : List Stored). e ∷ h) q.1))
            (λ k u other d t. absurd (alone n s o id k v u me d other t));
      }

pub writes : (n slots id : ℕ) (m : Sat) (g j : ℕ) (l : List ℕ) → g < n → j ≤ most → length l ≤ most → 0 < m.0.parts → (j ≡ 0 → HasMembers g l m.0.mine) → Allows (Grouped n) slots id m (at g j) (λ _. word_of l j) (λ _. wrote g l (step slots (at g j) (word_of l j) 0 none) m (word_of l j))
writes n slots id m g j l near le few part last s o len me fits = (
  w n s o id m.0 me g j l near le few part last,
  keeps,
  tt,
  written n s o id m.0 me g j l near le few part last,
  λ k small same. let b : j ≡ k = omega arith in record {
    before = o.history;
    is = ap (λ (p : ℕ). (writing m.0 o.history record { group = g; at = p; members = l }, m.1)) b;
    known = known n s o id m.0 me;
  },
)

-- a load is a store of what stands there, or shows nothing
pub keeps_or_looks : (n slots id : ℕ) (m : Sat) (g j : ℕ) (l : List ℕ) → g < n → j ≤ most → length l ≤ most → 0 < m.0.parts → (j ≡ 0 → HasMembers g l m.0.mine) → Allows (Grouped n) slots id m (at g j) (λ x. x) (kept g l (step slots (at g j) 0 0 none) m)
keeps_or_looks n slots id m g j l near le few part last s o len me fits = dite (ℕ_discrete (get_or s.words (at g j) 0) (word_of l j))
    (λ z. (
      w n s o id m.0 me g j l near le few part last,
      keeps,
      tt,
      subst (λ (x : ℕ). Grouped n record { words = set s.words (at g j) x; homes = s.homes; views = set s.views id (w n s o id m.0 me g j l near le few part last) }) (sym z) (written n s o id m.0 me g j l near le few part last),
      λ k small same. let b : j ≡ k = omega arith in record {
        same = λ _. record {
          before = o.history;
          is = ap (λ (p : ℕ). (writing m.0 o.history record { group = g; at = p; members = l }, m.1)) b;
          known = known n s o id m.0 me;
        };
        other = λ y. absurd (y (z ∙ ap (word_of l) b));
      },
    ))
    (λ z. (
      looking m.0 o.history,
      keeps,
      tt,
      subst (λ (ws : List ℕ). Grouped n record { words = ws; homes = s.homes; views = set s.views id (looking m.0 o.history) }) (sym (set-get_or s.words (at g j) 0)) (looked n s o id m.0 me),
      λ k small same. let b : j ≡ k = omega arith in record {
        same = λ y. absurd (z (y ∙ ap (word_of l) (sym b)));
        other = λ _. record { now = o.history; is = refl; known = known n s o id m.0 me };
      },
    ))

pub splits : (n id : ℕ) (v : GroupView) → 1 < v.parts → Splits (Grouped n) id v (cut v) (newcomer v.moments)
splits n id v more s o me =
    let w : GroupView = cut v in
    let u : GroupView = newcomer v.moments in
    let vs : List GroupView = set s.views id w ++ u ∷ [] in
    let mine = o.knows id v me in
    record {
      history = o.history;
      wide = o.wide;
      words = o.words;
      short = o.short;
      ordered = o.ordered;
      parts = omega (arith, total-append part_of (set s.views id w) (u ∷ []), total-set part_of s.views id v w me, o.parts);
      balance = λ f. omega (arith, total-append (weigh f) (set s.views id w) (u ∷ []), total-set (weigh f) s.views id v w me, o.balance f);
      knows = each_set_snoc s.views id w u (Knows o.history) record { later = mine.later; own = mine.own; idle = λ z. absurd (omega arith) } record { later = mine.later; own = tt; idle = λ z. refl } (λ k x _ e. o.knows k x e);
      sole = each_set_snoc s.views id w u (λ (x : GroupView). x.sole ≡ true → (length vs ≡ 1) × (o.history ≡ x.mine)) (λ t. absurd (not_true t)) (λ t. absurd (not_true t)) (λ k x other e t. absurd (alone n s o id k v x me e other t));
    }

pub joins : (n id : ℕ) (v : GroupView) (other : ℕ) (w : GroupView) → 0 < v.parts → Joins (Grouped n) id v other w (joined v w) nobody
joins n id v other w part s o me apart there =
    let b : GroupView = joined v w in
    let vs : List GroupView = set (set s.views id b) other nobody in
    let before : get_elem? s.views other ≡ some w = sym (set_else s.views id other b apart) ∙ there in
    let mine = o.knows id v me in
    let its = o.knows other w before in
    let two : (f : GroupView → ℕ) → total f vs + f w + f v ≡ total f s.views + f b + f nobody = λ f. omega (arith, total-set f (set s.views id b) other w nobody there, total-set f s.views id v b me) in
    record {
      history = o.history;
      wide = o.wide;
      words = o.words;
      short = o.short;
      ordered = o.ordered;
      parts = omega (arith, two part_of, o.parts);
      balance = λ f. omega (arith, two (weigh f), total-append f v.mine w.mine, o.balance f);
      knows = each_set_two s.views id other b nobody (Knows o.history)
          record { later = each_append (NotBefore o.history) v.moments w.moments mine.later its.later; own = each_append (λ (x : Stored). Occurs x o.history) v.mine w.mine mine.own its.own; idle = λ z. absurd (omega arith) }
          record { later = tt; own = tt; idle = λ z. refl } (λ k u e. o.knows k u e);
      sole = each_set_two s.views id other b nobody (λ (u : GroupView). u.sole ≡ true → (length vs ≡ 1) × (o.history ≡ u.mine)) (λ t. absurd (not_true t)) (λ t. absurd (not_true t))
          (λ k u e t. let q = (o.sole k u e t).0 in let x = at_below s.views id v me in let y = at_below s.views other w before in absurd (apart (omega arith)));
    }

pub starts : (n : ℕ) (ws : List ℕ) → ws ≡ replicate ((1 + most) * n + 1) 0 → Grouped n (opening ws [] first)
starts n ws is =
    let only : (P : GroupView → Type 0) → P first → (k : ℕ) (u : GroupView) → get_elem? (first ∷ []) k ≡ some u → P u = λ P p k u e. subst P (only_one first u k e) p in
    record {
      history = [];
      wide = ap length is ∙ length-replicate {A = ℕ} ((1 + most) * n + 1) 0;
      words = λ g j inside le. ap (λ (l : List ℕ). get_or l (at g j) 0) is ∙ get_or-replicate ((1 + most) * n + 1) (at g j) 0 0 (omega arith);
      short = tt;
      ordered = tt;
      parts = refl;
      balance = λ f. refl;
      knows = only (Knows []) record { later = (later_same [], tt); own = tt; idle = λ z. refl };
      sole = only (λ (u : GroupView). u.sole ≡ true → (1 ≡ 1) × ([] ≡ u.mine)) (λ t. (refl, refl));
    }
