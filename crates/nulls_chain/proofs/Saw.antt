-- What a change leaves of all that its pass saw before.
use Rattle.std.proofs.lemmas.List.{append-nil}
use Rattle.std.proofs.Common.{◌≡◌, ℕ, ◌≤◌, List, [], ◌∷◌, ◌++◌, inl, inr, ⊎_elim, cond, Bool, eq-eqb, ne_eqb, sym, refl, ap, ◌∙◌, arith, map, ◌<◌, append_assoc}
use mathlib.Core.Logic.{dite}
use native.Mathlib.Decide.{ℕ_discrete}
use Rattle.sock_slots.specs.Claims.{IsFull, sight_by}
use Rattle.sock_slots.specs.declared.fresh.Full.{Full}
use Rattle.table_rule.specs.Book.{open-end}
use Rattle.table_rule.specs.Plays.{settled, settled_one, sight_at, beginning, dropping_beginning}
use Rattle.table_rule.specs.declared.view.Layout.{Layout}
use Rattle.table_rule.specs.declared.view.Sight.{Sight}
use Rattle.table_rule.specs.declared.view.View.{View}
use Rattle.nulls_chain.specs.Changes.{IsSettled, AreSettled, Sees, SawAt}

one-is : (least r : ℕ) (s : Sight) → least ≤ r → IsSettled least s (settled_one r s)
one-is least r s le = dite (ℕ_discrete s.until open-end)
    (λ e. inr (e, r, le, ap (λ (b : Bool). cond b (record s { until = r }) s) (eq-eqb s.until open-end e)))
    (λ ne. inl (ap (λ (b : Bool). cond b (record s { until = r }) s) (ne_eqb s.until open-end ne)))

-- sightings that get one number are settled
pub are_settled : (least r : ℕ) (xs : List Sight) → least ≤ r → AreSettled least xs (settled xs r)
are_settled least r [] le = tt
are_settled least r (x ∷ xs) le = (one-is least r x le, are_settled least r xs le)

-- one that is settled, and then again from a later number on
pub one-then : (a b : ℕ) (s t u : Sight) → a ≤ b → IsSettled a s t → IsSettled b t u → IsSettled a s u
one-then a b s t u le f g = ⊎_elim
    (λ same. ⊎_elim
    (λ z. inl (z ∙ same))
    (λ z. inr (ap (λ (x : Sight). x.until) (sym same) ∙ z.0, z.1, (let l = z.2 in omega (arith, le, l)), z.3 ∙ ap (λ (x : Sight). record x { until = z.1 }) same))
    g)
    (λ was. ⊎_elim
    (λ z. inr (was.0, was.1, was.2, z ∙ was.3))
    (λ z. inr (was.0, z.1, (let l = z.2 in omega (arith, le, l)), z.3 ∙ ap (λ (x : Sight). record x { until = z.1 }) was.3))
    g)
    f

then : (least : ℕ) (xs ys zs : List Sight) → AreSettled least xs ys → AreSettled least ys zs → AreSettled least xs zs
then least [] [] [] a b = tt
then least (x ∷ xs) (y ∷ ys) (z ∷ zs) a b = (one-then least least x y z (omega arith) a.0 b.0, then least xs ys zs a.1 b.1)
then least [] [] (z ∷ zs) a b = absurd b
then least [] (y ∷ ys) zs a b = absurd a
then least (x ∷ xs) [] zs a b = absurd a
then least (x ∷ xs) (y ∷ ys) [] a b = absurd b

-- sightings that are settled, one list after the other
pub settled-append : (xs ys : List Sight) (r : ℕ) → settled (xs ++ ys) r ≡ settled xs r ++ settled ys r
settled-append [] ys r = refl
settled-append (x ∷ xs) ys r = ap (λ (l : List Sight). settled_one r x ∷ l) (settled-append xs ys r)

-- a sighting that has ended stays as it is
ended_one : (s : Sight) (r : ℕ) → s.until < open-end → settled_one r s ≡ s
ended_one s r few = ap (λ (b : Bool). cond b (record s { until = r }) s) (ne_eqb s.until open-end (λ e. omega (arith, few, e)))

-- what was seen as a change began is there once it has ended
pub saw_at : (v w : View) (b e : ℕ) (more : List Sight) → b < open-end → w.sights ≡ settled (settled v.sights b ++ sight_at v b ∷ more) e → SawAt v w b
saw_at v w b e more few is = (
  few,
  settled (settled v.sights b) e,
  settled more e,
  is ∙ (settled-append (settled v.sights b) (sight_at v b ∷ more) e ∙ ap (λ (s : Sight). settled (settled v.sights b) e ++ s ∷ settled more e) (ended_one (sight_at v b) e few)),
)

-- a change, with what was seen between its two numbers
pub saw : (v w : View) (b e : ℕ) (more : List Sight) → v.seen ≤ b → b ≤ e → w.sights ≡ settled (settled v.sights b ++ more) e → Sees v w
saw v w b e more low order is = (
  settled (settled v.sights b) e,
  settled more e,
  then v.seen v.sights (settled v.sights b) (settled (settled v.sights b) e) (are_settled v.seen b v.sights low) (are_settled v.seen e (settled v.sights b) (omega (arith, low, order))),
  is ∙ settled-append (settled v.sights b) more e,
)

-- one of which only its beginning was drawn
pub saw_none : (layout : Layout) (v u w : View) (b : ℕ) (f : Full) → IsFull layout (beginning v b) u f → v.seen ≤ b → w ≡ dropping_beginning u → Sees v w
saw_none layout v u w b f full low is = (
  settled v.sights b,
  sight_at v b ∷ map (sight_by (beginning v b)) full.1.reads,
  are_settled v.seen b v.sights low,
  ap (λ (x : View). x.sights) is ∙ (ap (λ (x : View). x.sights) full.1.is ∙ append_assoc (settled v.sights b) (sight_at v b ∷ []) (map (sight_by (beginning v b)) full.1.reads)),
)

all_stand : (least : ℕ) (xs : List Sight) → AreSettled least xs xs
all_stand least [] = tt
all_stand least (x ∷ xs) = (inl refl, all_stand least xs)

-- where nothing was seen since, all stands as it was
pub saw_same : (v w : View) → w.sights ≡ v.sights → Sees v w
saw_same v w is = (v.sights, [], all_stand v.seen v.sights, is ∙ sym (append-nil v.sights))
