-- Slots that aren't free, read one after the other.
use Rattle.std.proofs.Common.{◌≡◌, ℕ, zero, suc, ◌+◌, ◌≤◌, List, [], ◌∷◌, ◌++◌, map, sym, refl, ap, ◌∙◌, arith, subst, append_assoc, cond, Bool, true, false}
use Rattle.std.proofs.lemmas.List.{map-append}
use mathlib.Core.Logic.{dite}
use native.Mathlib.Decide.{ℕ_discrete}
use mathlib.Core.Option.{some, some-injective, some-ne-none}
use lib.ListN.{get_elem?}
use Rattle.list_words.proofs.EachLemmas.{each_append, each_weaken}
use Rattle.list_words.specs.Lists.{Each}
use Rattle.list_words.proofs.TotalLemmas.{total-append}
use Rattle.table_rule.specs.Lists.{times}
use Rattle.table_rule.specs.Book.{open-end}
use Rattle.table_rule.specs.Sole.{IsBare, AllUsed, used_in}
use Rattle.table_rule.specs.Plays.{beginning, first_of}
use Rattle.table_rule.specs.declared.view.Change.{Change}
use Rattle.table_rule.specs.declared.view.View.{View}
use Rattle.table_rule.specs.declared.view.Sight.{Sight}
use Rattle.table_rule.proofs.Lists.{times-append, times-here, times-else, each-in}
use Rattle.sock_slots.specs.Claims.{Tried, Read, slot_in, sight_by}

none-in : (P : ℕ → Type 0) (n : ℕ) (l : List ℕ) → (P n → ⊥) → Each P l → times n l ≡ 0
none-in P n [] out h = refl
none-in P n (x ∷ xs) out h = omega (arith, none-in P n xs out h.1, times-else x n xs (λ e. out (subst P e h.0)))

apart-once : (P Q : ℕ → Type 0) (l m : List ℕ) → ((i : ℕ) → P i → Q i → ⊥) → Each P l → Each Q m → ((i : ℕ) → times i l ≤ 1) → ((i : ℕ) → times i m ≤ 1) → (i : ℕ) → times i (l ++ m) ≤ 1
apart-once P Q l m out a b once once' i = dite (ℕ_discrete (times i l) 0)
    (λ z. omega (arith, times-append i l m, z, once' i))
    (λ ne. omega (arith, times-append i l m, once i, none-in Q i m (λ q. out i (each-in P i l a (omega (arith, ne))) q) b))

-- one span after another
pub tried_both : (v w u : View) (owned held owned' held' : ℕ) (P Q R : ℕ → Type 0) → ((i : ℕ) → P i → Q i → ⊥) → ((i : ℕ) → P i → R i) → ((i : ℕ) → Q i → R i) → Tried v w owned held P → Tried w u owned' held' Q → Tried v u (owned + owned') (held + held') R
tried_both v w u owned held owned' held' P Q R out left right g h =
    let step : u ≡ record (record v { sights = v.sights ++ map (sight_by v) g.reads }) { sights = (v.sights ++ map (sight_by v) g.reads) ++ map (sight_by v) h.reads } = h.is ∙ ap (λ (x : View). record x { sights = x.sights ++ map (sight_by x) h.reads }) g.is in
    let slots : map slot_in (g.reads ++ h.reads) ≡ map slot_in g.reads ++ map slot_in h.reads = map-append slot_in g.reads h.reads in
    record {
      reads = g.reads ++ h.reads;
      is = step ∙ ap (λ (l : List Sight). record v { sights = l }) (append_assoc v.sights (map (sight_by v) g.reads) (map (sight_by v) h.reads) ∙ ap (λ (l : List Sight). v.sights ++ l) (sym (map-append (sight_by v) g.reads h.reads)));
      owned-is = omega (arith, total-append (λ (r : Read). cond r.owned 1 0) g.reads h.reads, g.owned-is, h.owned-is);
      held-is = omega (arith, total-append (λ (r : Read). cond r.owned 0 1) g.reads h.reads, g.held-is, h.held-is);
      in-them = subst (Each R) (sym slots) (each_append R (map slot_in g.reads) (map slot_in h.reads) (each_weaken P R (map slot_in g.reads) left g.in-them) (each_weaken Q R (map slot_in h.reads) right h.in-them));
      once = λ i. subst (λ (l : List ℕ). times i l ≤ 1) (sym slots) (apart-once P Q (map slot_in g.reads) (map slot_in h.reads) out g.in-them h.in-them g.once h.once i);
    }

-- one slot
one : (w u : View) (n : ℕ) (b : Bool) → u ≡ record w { sights = w.sights ++ sight_by w (record { slot = n; owned = b }) ∷ [] } → Tried w u (cond b 1 0) (cond b 0 1) (λ i. i ≡ n)
one w u n true e = record { reads = record { slot = n; owned = true } ∷ []; is = e; owned-is = refl; held-is = refl; in-them = (refl, tt); once = λ i. omega (arith, once-in n i) }
  where
    once-in : (n i : ℕ) → times i (n ∷ []) ≤ 1
    once-in n i = dite (ℕ_discrete n i) (λ q. subst (λ (j : ℕ). times j (n ∷ []) ≤ 1) q (omega (arith, times-here n []))) (λ ne. omega (arith, times-else n i [] ne))
one w u n false e = record { reads = record { slot = n; owned = false } ∷ []; is = e; owned-is = refl; held-is = refl; in-them = (refl, tt); once = λ i. omega (arith, once-in n i) }
  where
    once-in : (n i : ℕ) → times i (n ∷ []) ≤ 1
    once-in n i = dite (ℕ_discrete n i) (λ q. subst (λ (j : ℕ). times j (n ∷ []) ≤ 1) q (omega (arith, times-here n []))) (λ ne. omega (arith, times-else n i [] ne))

pub tried_more : (v w u : View) (owned held n : ℕ) (b : Bool) (P Q : ℕ → Type 0) → ((i : ℕ) → P i → Q i) → Q n → (P n → ⊥) → Tried v w owned held P → u ≡ record w { sights = w.sights ++ sight_by w (record { slot = n; owned = b }) ∷ [] } → Tried v u (owned + cond b 1 0) (held + cond b 0 1) Q
tried_more v w u owned held n b P Q wide now out g e =
    tried_both v w u owned held (cond b 1 0) (cond b 0 1) P (λ i. i ≡ n) Q (λ i p q. out (subst P q p)) wide (λ i q. subst Q (sym q) now) g (one w u n b e)

-- what a sole pass knows of slots

pub bare_tried : (v w : View) (owned held : ℕ) (P : ℕ → Type 0) → Tried v w owned held P → IsBare v → IsBare w
bare_tried v w owned held P g b = subst IsBare (sym g.is) (record { all = b.0.all; rises = b.0.rises; waits = b.0.waits }, b.1)

pub closed_tried : (v w : View) (owned held : ℕ) (P : ℕ → Type 0) → Tried v w owned held P → w.book.closed ≡ v.book.closed
closed_tried v w owned held P g = ap (λ (x : View). x.book.closed) g.is

pub used_more_is : (closed : List Change) (a n : ℕ) → AllUsed closed a n → used_in closed n ≡ true → AllUsed closed a (n + 1)
used_more_is closed a n all now i g h = dite (ℕ_discrete i n) (λ e. ap (used_in closed) e ∙ now) (λ ne. all i g (omega (arith, h, ne)))

pub bare_began : (v : View) (r : ℕ) → IsBare v → IsBare (beginning v r)
bare_began v r b = (record { all = b.0.all; rises = b.0.rises; waits = λ m c e. alone m c e }, b.1)
  where
    alone : (m : ℕ) (c : Change) → get_elem? (record { kind = 2; bucket = first_of v.chain.locked; slot = 0; card = []; begins = r; ends = open-end } ∷ []) m ≡ some c → c.kind ≡ 2
    alone zero c e = ap (λ (d : Change). d.kind) (sym (some-injective _ c e))
    alone (suc m) c e = absurd (some-ne-none c (sym e))

pub tried_as : (v w : View) (owned held owned' held' : ℕ) (P : ℕ → Type 0) → owned' ≡ owned → held' ≡ held → Tried v w owned held P → Tried v w owned' held' P
tried_as v w owned held owned' held' P e f g = record { reads = g.reads; is = g.is; owned-is = g.owned-is ∙ sym e; held-is = g.held-is ∙ sym f; in-them = g.in-them; once = g.once }

pub tried_wide : (v w : View) (owned held : ℕ) (P Q : ℕ → Type 0) → ((i : ℕ) → P i → Q i) → Tried v w owned held P → Tried v w owned held Q
tried_wide v w owned held P Q wide g = record { reads = g.reads; is = g.is; owned-is = g.owned-is; held-is = g.held-is; in-them = each_weaken P Q (map slot_in g.reads) wide g.in-them; once = g.once }
