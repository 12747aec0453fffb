-- Each kind of step keeps what counts are taken.
use Rattle.std.proofs.Common.{◌≡◌, ◌≢◌, ℕ, zero, suc, ◌+◌, ◌<◌, ◌≤◌, List, [], ◌∷◌, ◌++◌, ⊎_elim, map, length, cond, eqb, Bool, true, false, set, refl, sym, ap, ◌∙◌, subst, arith}
use mathlib.Core.Option.{some, some-injective, some-ne-none}
use lib.ListN.{get_elem?}
use Rattle.list_words.proofs.TotalLemmas.{total-append}
use Rattle.list_words.proofs.PlaceLemmas.{total-set, terms_le}
use Rattle.list_words.specs.Lists.{total}
use Rattle.atomic_table.proofs.Lists.{at_set, at_map}
use Rattle.table_rule.specs.SlotsOk.{SlotsOk, holds}
use Rattle.table_rule.specs.Book.{open-end}
use Rattle.table_rule.specs.Rule.{slot_part}
use Rattle.table_rule.specs.TakenOk.{TakenOk, HeldByItself, held_alone, all_taken}
use Rattle.table_rule.specs.Plays.{settled}
use Rattle.table_rule.specs.declared.view.View.{View}
use Rattle.table_rule.specs.declared.view.SlotView.{SlotView}
use Rattle.table_rule.specs.declared.view.Sight.{Sight}
use Rattle.table_rule.proofs.Lists.{times-le}

-- a second number for a sighting changes nothing of what it saw
pub held_settled : (xs : List Sight) (r : ℕ) → held_alone (settled xs r) ≡ held_alone xs
held_settled [] r = refl
held_settled (x ∷ xs) r = omega (arith, one x r (eqb x.until open-end), held_settled xs r)
  where
    one : (x : Sight) (r : ℕ) (b : Bool) → length (cond b (record x { until = r }) x).held ≡ length x.held
    one x r true = refl
    one x r false = refl

pub held_more : (xs : List Sight) (s : Sight) → held_alone (xs ++ s ∷ []) ≡ held_alone xs + length s.held
held_more xs s = omega (arith, total-append (λ (g : Sight). length g.held) xs (s ∷ []))

-- a state with neither OWN nor 0 has a count, so some view has taken one
pub some_taken : (n : ℕ) (linked state : ℕ → ℕ) (vs : List View) → SlotsOk n linked state (map slot_part vs) → TakenOk vs → (i : ℕ) → i < n → state i ≢ 0 → state i < 9223372036854775808 → 0 < all_taken vs
some_taken n linked state vs o t i near held low = omega (arith, o.word i near, o.once i near, o.lit i near, held, low, within vs t.few)
  where
    within : (l : List View) → ((k : ℕ) (v : View) → get_elem? l k ≡ some v → length v.slot.holds ≤ v.slot.taken) → total (holds i) (map slot_part l) ≤ all_taken l
    within [] f = omega arith
    within (x ∷ xs) f = omega (arith, f 0 x refl, times-le i x.slot.holds, within xs (λ k u e. f (suc k) u e))

module _ (vs : List View) (id : ℕ) (v w : View) (me : get_elem? vs id ≡ some v) where
  pub taken_moved : length w.slot.holds ≤ w.slot.taken → (w.slot.parts ≡ 0 → w.slot.taken ≡ 0) → v.slot.taken ≤ w.slot.taken → (0 < held_alone w.sights → 0 < all_taken vs) → TakenOk vs → TakenOk (set vs id w)
  taken_moved few gone more alone o =
      let sum = total-set (λ (u : View). u.slot.taken) vs id v w me in
      record {
        few = λ k u e. ⊎_elim (λ t. subst (λ (q : View). length q.slot.holds ≤ q.slot.taken) t.1 few) (λ t. o.few k u t.1) (at_set vs id k w u e);
        gone = λ k u e. ⊎_elim (λ t. subst (λ (q : View). q.slot.parts ≡ 0 → q.slot.taken ≡ 0) t.1 gone) (λ t. o.gone k u t.1) (at_set vs id k w u e);
        alone = λ k u e h. ⊎_elim (λ t. omega (arith, alone (subst (λ (q : View). 0 < held_alone q.sights) (sym t.1) h), sum, more)) (λ t. omega (arith, o.alone k u t.1 h, sum, more)) (at_set vs id k w u e);
      }

  -- neither counts nor what was read as held alone change
  pub taken_same : w.slot.holds ≡ v.slot.holds → w.slot.taken ≡ v.slot.taken → w.slot.parts ≡ v.slot.parts → held_alone w.sights ≡ held_alone v.sights → TakenOk vs → TakenOk (set vs id w)
  taken_same a b c d o = taken_moved (omega (arith, o.few id v me, ap (length {A = ℕ}) a, b)) (λ z. b ∙ o.gone id v me (sym c ∙ z)) (omega (arith, b)) (λ h. o.alone id v me (omega (arith, h, d))) o

-- where a pass has all parts, the counts that were taken are its own
pub own_taken : (vs : List View) (id : ℕ) (v : View) → get_elem? vs id ≡ some v → v.slot.parts ≡ 16384 → total (λ (u : SlotView). u.parts) (map slot_part vs) ≡ 16384 → TakenOk vs → HeldByItself v
own_taken vs id v me all sum o h = omega (arith, o.alone id v me h, only vs id v me (λ k u ne e. o.gone k u e (omega (arith, all, sum, terms_le (λ (y : SlotView). y.parts) (map slot_part vs) id k v.slot u.slot ne (at_map slot_part vs id v me) (at_map slot_part vs k u e)))))
  where
    none : (l : List View) → ((k : ℕ) (u : View) → get_elem? l k ≡ some u → u.slot.taken ≡ 0) → all_taken l ≡ 0
    none [] f = refl
    none (x ∷ xs) f = omega (arith, f 0 x refl, none xs (λ k u e. f (suc k) u e))

    only : (l : List View) (j : ℕ) (w : View) → get_elem? l j ≡ some w → ((k : ℕ) (u : View) → k ≢ j → get_elem? l k ≡ some u → u.slot.taken ≡ 0) → all_taken l ≡ w.slot.taken
    only [] j w e f = absurd (some-ne-none w (sym e))
    only (x ∷ xs) zero w e f = omega (arith, ap (λ (u : View). u.slot.taken) (some-injective x w e), none xs (λ k u q. f (suc k) u (λ z. omega arith) q))
    only (x ∷ xs) (suc j) w e f = omega (arith, f 0 x (λ z. omega arith) refl, only xs j w e (λ k u ne q. f (suc k) u (λ z. ne (omega arith)) q))
