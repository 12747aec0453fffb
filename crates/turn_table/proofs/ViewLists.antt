-- Facts of each view of a list that changes as one step changes it, and of the finds in it.
use Rattle.std.proofs.Common.{◌≡◌, ℕ, ◌+◌, ◌≢◌, ◌⊎◌, List, [], ◌∷◌, ◌++◌, set, cond, sym, ap, ◌∙◌, subst, inl, inr, ⊎_elim, eq-eqb, ne_eqb, arith}
use mathlib.Core.Option.{some, some-ne-none}
use lib.ListN.{get_elem?}
use Rattle.atomic_table.proofs.Lists.{at_set, at_snoc}
use Rattle.turn_table.specs.Turning.{has_turn, Found}
use Rattle.turn_table.specs.declared.note.Find.{Find}
use Rattle.turn_table.specs.declared.view.TurnView.{TurnView}
use Rattle.turn_table.proofs.Sums.{at_append}

-- no turn is 0
pub zero_not : (i : ℕ) → 0 ≢ i + 1
zero_not i e = omega arith

-- a fact of each item after one changed
pub at_each : {A : Type 0} (vs : List A) (id : ℕ) (w : A) (P : ℕ → A → Type 0) → P id w → ((k : ℕ) (u : A) → k ≢ id → get_elem? vs k ≡ some u → P k u) → (k : ℕ) (u : A) → get_elem? (set vs id w) k ≡ some u → P k u
at_each vs id w P here there k u e = ⊎_elim (λ t. subst (λ q. P q u) (sym t.0) (subst (P id) t.1 here)) (λ t. there k u t.0 t.1) (at_set vs id k w u e)

-- and where another came
pub at_each_snoc : {A : Type 0} (vs : List A) (id : ℕ) (w n : A) (P : A → Type 0) → P w → P n → ((k : ℕ) (u : A) → get_elem? vs k ≡ some u → P u) → (k : ℕ) (u : A) → get_elem? (set vs id w ++ n ∷ []) k ≡ some u → P u
at_each_snoc vs id w n P a b c k u e = ⊎_elim (λ z. at_each vs id w (λ _. P) a (λ q y _ d. c q y d) k u z) (λ z. subst P z b) (at_snoc (set vs id w) n u k e)

-- and where two changed
pub at_each_two : {A : Type 0} (vs : List A) (id other : ℕ) (w n : A) (P : A → Type 0) → P w → P n → ((k : ℕ) (u : A) → get_elem? vs k ≡ some u → P u) → (k : ℕ) (u : A) → get_elem? (set (set vs id w) other n) k ≡ some u → P u
at_each_two vs id other w n P a b c = at_each (set vs id w) other n (λ _. P) b (λ k u _ e. at_each vs id w (λ _. P) a (λ q y _ d. c q y d) k u e)

module _ {E H : Type 0} where
  -- who has the turn counts
  pub turn_yes : (i : ℕ) (v : TurnView E H) → v.at ≡ i + 1 → has_turn i v ≡ 1
  turn_yes i v e = ap (λ b. cond b 1 0) (eq-eqb v.at (i + 1) e)

  -- and who hasn't does not
  pub turn_no : (i : ℕ) (v : TurnView E H) → v.at ≢ i + 1 → has_turn i v ≡ 0
  turn_no i v n = ap (λ b. cond b 1 0) (ne_eqb v.at (i + 1) n)

  -- who found it before, or it is new
  pub found_back : (vs : List (TurnView E H)) (id : ℕ) (v w : TurnView E H) (x : Find E) (P : Type 0) → get_elem? vs id ≡ some v → ((m : ℕ) → get_elem? w.finds m ≡ some x → (get_elem? v.finds m ≡ some x) ⊎ P)
      → Found (set vs id w) x → Found vs x ⊎ P
  found_back vs id v w x P me old f = ⊎_elim
      (λ t. ⊎_elim (λ e. inl record { who = id; view = v; has = me; nth = f.nth; is = e }) inr (old f.nth (ap (λ (u : TurnView E H). get_elem? u.finds f.nth) t.1 ∙ f.is)))
      (λ t. inl record { who = f.who; view = f.view; has = t.1; nth = f.nth; is = f.is }) (at_set vs id f.who w f.view f.has)

  -- where the finds are as before
  pub found_same : (vs : List (TurnView E H)) (id : ℕ) (v w : TurnView E H) (x : Find E) → get_elem? vs id ≡ some v → v.finds ≡ w.finds → Found (set vs id w) x → Found vs x
  found_same vs id v w x me same f = ⊎_elim (λ y. y) (λ y. absurd y) (found_back vs id v w x ⊥ me (λ m e. inl (ap (λ (l : List (Find E)). get_elem? l m) same ∙ e)) f)

  -- and another view came, which found nothing
  pub found_snoc : (vs : List (TurnView E H)) (id : ℕ) (v w n : TurnView E H) (x : Find E) → get_elem? vs id ≡ some v → v.finds ≡ w.finds → n.finds ≡ [] → Found (set vs id w ++ n ∷ []) x → Found vs x
  found_snoc vs id v w n x me same empty g = ⊎_elim (λ z. found_same vs id v w x me same record { who = g.who; view = g.view; has = z; nth = g.nth; is = g.is })
      (λ z. absurd (some-ne-none x (sym (ap (λ (l : List (Find E)). get_elem? l g.nth) (sym empty) ∙ (ap (λ (u : TurnView E H). get_elem? u.finds g.nth) z ∙ g.is))))) (at_snoc (set vs id w) n g.view g.who g.has)

  -- and one view took the finds of another, which is spent
  pub found_two : (vs : List (TurnView E H)) (id other : ℕ) (v w b n : TurnView E H) (x : Find E) → get_elem? vs id ≡ some v → get_elem? vs other ≡ some w → get_elem? (set vs id b) other ≡ some w
      → b.finds ≡ v.finds ++ w.finds → n.finds ≡ [] → Found (set (set vs id b) other n) x → Found vs x
  found_two vs id other v w b n x me before there both empty g =
      let mid : Found (set vs id b) x = ⊎_elim (λ y. y) (λ y. absurd y) (found_back (set vs id b) other w n x ⊥ there (λ m e. absurd (some-ne-none x (sym (ap (λ (l : List (Find E)). get_elem? l m) (sym empty) ∙ e)))) g) in
      ⊎_elim (λ y. y) (λ y. y) (found_back vs id v b x (Found vs x) me (λ m e. ⊎_elim inl (λ t. inr record { who = other; view = w; has = before; nth = t.0; is = t.1 }) (at_append v.finds w.finds m x (ap (λ (l : List (Find E)). get_elem? l m) (sym both) ∙ e))) mid)
