-- What the items of a list weigh that pass a test, and what rows weigh of which one changes.
use Rattle.std.proofs.Common.{◌≡◌, ℕ, ◌+◌, ◌<◌, ◌≤◌, Bool, true, false, ◌||◌, not, cond, List, [], ◌∷◌, filter, find, Option, Some, refl, ap, ◌∙◌, inl, inr, ◌⊎◌, arith}
use Rattle.std.specs.Prelude.{is_some, count_by}
use Rattle.std.specs.List.{list_any}
use Rattle.std.proofs.lemmas.Bool.{cases_Bool}
use Rattle.std.proofs.lemmas.List.Sums.{sum_by-cons}
use Rattle.list_words.specs.Lists.{Each, Pairs, total}

-- some item passes exactly where the passing ones weigh something
abbrev pub Weighs : Bool → ℕ → Type 0
Weighs b n = (b ≡ true → 1 ≤ n) × (b ≡ false → n ≡ 0)

weighs_more : (x y : Bool) (n : ℕ) → Weighs y n → Weighs (x || y) (cond x 1 0 + n)
weighs_more true y n h = (λ e. omega arith, λ e. absurd (cc))
weighs_more false y n h = (λ e. omega (arith, h.0 e), λ e. omega (arith, h.1 e))

-- two tests that are decided by one weight have one answer
pub same_answer : (x y : Bool) (n m : ℕ) → Weighs x n → Weighs y m → n ≡ m → x ≡ y
same_answer true true n m h k e = refl
same_answer false false n m h k e = refl
same_answer true false n m h k e = absurd (omega (arith, h.0 refl, k.1 refl))
same_answer false true n m h k e = absurd (omega (arith, h.1 refl, k.0 refl))

-- what weighs something passes
pub passes_by : (x : Bool) (n : ℕ) → Weighs x n → 0 < n → x ≡ true
passes_by true n h e = refl
passes_by false n h e = absurd (omega (arith, e, h.1 refl))

-- nothing either way
pub nothing_at : (b : Bool) → cond {A = ℕ} b 0 0 ≡ 0
nothing_at true = refl
nothing_at false = refl

-- an item's weight where it passes, else nothing
abbrev pub only : {A : Type 0} → (A → Bool) → (A → ℕ) → A → ℕ
only p g x = cond (p x) (g x) 0

-- 1 for an item that passes
abbrev pub ind : {A : Type 0} → (A → Bool) → A → ℕ
ind p x = cond (p x) 1 0

-- of the items that pass there is one, and it is x
abbrev pub Only : {A : Type 0} → (A → Bool) → A → List A → Type 0
Only {A} p x xs = (g : A → ℕ) → total (only p g) xs ≡ g x

one_zero : (b : Bool) (u : ℕ) → cond {A = ℕ} b 1 0 ≡ 0 → cond {A = ℕ} b u 0 ≡ 0
one_zero true u h = absurd (omega (arith, h))
one_zero false u h = refl

-- two conditions, in either order
pub either_order : (b c : Bool) (n : ℕ) → cond {A = ℕ} b (cond {A = ℕ} c n 0) 0 ≡ cond {A = ℕ} c (cond {A = ℕ} b n 0) 0
either_order true true n = refl
either_order true false n = refl
either_order false true n = refl
either_order false false n = refl

no_weight : (b : Bool) → (b ≡ true → ⊥) → cond {A = ℕ} b 1 0 ≡ 0
no_weight true h = absurd (h refl)
no_weight false h = refl

module _ {A : Type 0} where
  -- some passes exactly where those that pass weigh something
  pub any_weighs : (p : A → Bool) (xs : List A) → Weighs (list_any p xs) (total (ind p) xs)
  any_weighs p [] = (λ e. absurd (cc), λ e. refl)
  any_weighs p (x ∷ xs) = weighs_more (p x) (list_any p xs) (total (ind p) xs) (any_weighs p xs)

  found_more : (x : Bool) (a : A) (o : Option A) (n : ℕ) → Weighs (is_some o) n → Weighs (is_some (cond x (Some a) o)) (cond x 1 0 + n)
  found_more true a o n h = (λ e. omega arith, λ e. absurd (cc))
  found_more false a o n h = (λ e. omega (arith, h.0 e), λ e. omega (arith, h.1 e))

  -- and so one is found
  pub found_weighs : (p : A → Bool) (xs : List A) → Weighs (is_some (find p xs)) (total (ind p) xs)
  found_weighs p [] = (λ e. absurd (cc), λ e. refl)
  found_weighs p (x ∷ xs) = found_more (p x) x (find p xs) (total (ind p) xs) (found_weighs p xs)

  -- how many pass is the weight of 1 for each
  pub count_is : (p : A → Bool) (xs : List A) → count_by p xs ≡ total (ind p) xs
  count_is p [] = refl
  count_is p (x ∷ xs) = omega (arith, sum_by-cons (ind p) x xs, count_is p xs)

  -- weights that are the same for each of the items
  pub total_each : (f g : A → ℕ) (xs : List A) → Each (λ x. f x ≡ g x) xs → total f xs ≡ total g xs
  total_each f g [] h = refl
  total_each f g (x ∷ xs) h = omega (arith, h.0, total_each f g xs h.1)

  -- and for whatever item
  pub total_same : (f g : A → ℕ) (xs : List A) → ((x : A) → f x ≡ g x) → total f xs ≡ total g xs
  total_same f g [] h = refl
  total_same f g (x ∷ xs) h = omega (arith, h x, total_same f g xs h)

  -- items that weigh nothing
  pub total_zero : (f : A → ℕ) (xs : List A) → Each (λ x. f x ≡ 0) xs → total f xs ≡ 0
  total_zero f [] h = refl
  total_zero f (x ∷ xs) h = omega (arith, h.0, total_zero f xs h.1)

  -- where all weigh nothing, each does
  pub each_zero : (f : A → ℕ) (xs : List A) → total f xs ≡ 0 → Each (λ x. f x ≡ 0) xs
  each_zero f [] h = tt
  each_zero f (x ∷ xs) h = (omega (arith, h), each_zero f xs (omega (arith, h)))

  -- two weights together
  pub total_sum : (f g : A → ℕ) (xs : List A) → total (λ x. f x + g x) xs ≡ total f xs + total g xs
  total_sum f g [] = refl
  total_sum f g (x ∷ xs) = omega (arith, total_sum f g xs)

  dropped_at : (g : A → ℕ) (b : Bool) (x : A) (ys : List A) (n m : ℕ) → total g ys + n ≡ m → total g (cond (not b) (x ∷ ys) ys) + (cond b (g x) 0 + n) ≡ g x + m
  dropped_at g true x ys n m h = omega (arith, h)
  dropped_at g false x ys n m h = omega (arith, h)

  -- without those that pass, the rest weigh so much less
  pub dropped_weigh : (p : A → Bool) (g : A → ℕ) (xs : List A) → total g (filter (λ x. not (p x)) xs) + total (only p g) xs ≡ total g xs
  dropped_weigh p g [] = refl
  dropped_weigh p g (x ∷ xs) = dropped_at g (p x) x (filter (λ y. not (p y)) xs) (total (only p g) xs) (total g xs) (dropped_weigh p g xs)

  kept_at : (g : A → ℕ) (b : Bool) (x : A) (ys : List A) (n : ℕ) → total g ys ≡ n → total g (cond b (x ∷ ys) ys) ≡ cond b (g x) 0 + n
  kept_at g true x ys n h = omega (arith, h)
  kept_at g false x ys n h = omega (arith, h)

  -- those that pass weigh as where the others weigh nothing
  pub kept_weigh : (p : A → Bool) (g : A → ℕ) (xs : List A) → total g (filter p xs) ≡ total (only p g) xs
  kept_weigh p g [] = refl
  kept_weigh p g (x ∷ xs) = kept_at g (p x) x (filter p xs) (total (only p g) xs) (kept_weigh p g xs)

  -- where none passes, those that pass weigh nothing
  pub none_weigh : (p : A → Bool) (g : A → ℕ) (xs : List A) → total (ind p) xs ≡ 0 → total (only p g) xs ≡ 0
  none_weigh p g [] h = refl
  none_weigh p g (x ∷ xs) h = omega (arith, one_zero (p x) (g x) (omega (arith, h)), none_weigh p g xs (omega (arith, h)))

  counted_at : (p q : A → Bool) (y x : A) (ys : List A) → (q y ≡ true) ⊎ (q y ≡ false) → p x ≡ true → (find q ys ≡ Some x → 1 ≤ total (ind p) ys) → find q (y ∷ ys) ≡ Some x → 1 ≤ total (ind p) (y ∷ ys)
  counted_at p q y x ys (inl e) px h f =
      let is : y ≡ x = cc (rw e at f) in
      let one : ind p y ≡ 1 = ap (λ (z : A). cond {A = ℕ} (p z) 1 0) is ∙ ap (λ (b : Bool). cond {A = ℕ} b 1 0) px in
      omega (arith, one)
  counted_at p q y x ys (inr e) px h f = omega (arith, h (rw e at f))

  -- an item that is found counts among those that pass
  pub found_counts : (p q : A → Bool) (xs : List A) (x : A) → find q xs ≡ Some x → p x ≡ true → 1 ≤ total (ind p) xs
  found_counts p q [] x f px = absurd (cc)
  found_counts p q (y ∷ ys) x f px = counted_at p q y x ys (cases_Bool (q y)) px (λ g. found_counts p q ys x g px) f

  only_at : (p q : A → Bool) (g : A → ℕ) (y x : A) (ys : List A) → (q y ≡ true) ⊎ (q y ≡ false) → (p y ≡ true) ⊎ (p y ≡ false) → p x ≡ true → total (ind p) (y ∷ ys) ≤ 1
      → (find q ys ≡ Some x → total (ind p) ys ≤ 1 → total (only p g) ys ≡ g x) → find q (y ∷ ys) ≡ Some x → total (only p g) (y ∷ ys) ≡ g x
  only_at p q g y x ys (inl e) pc px one h f =
      let is : y ≡ x = cc (rw e at f) in
      let py : p y ≡ true = ap p is ∙ px in
      let gx : only p g y ≡ g x = ap (λ (b : Bool). cond {A = ℕ} b (g y) 0) py ∙ ap g is in
      omega (arith, gx, none_weigh p g ys (omega (arith, one, ap (λ (b : Bool). cond {A = ℕ} b 1 0) py)))
  only_at p q g y x ys (inr e) (inl py) px one h f =
      absurd (omega (arith, one, ap (λ (b : Bool). cond {A = ℕ} b 1 0) py, found_counts p q ys x (rw e at f) px))
  only_at p q g y x ys (inr e) (inr py) px one h f =
      omega (arith, ap (λ (b : Bool). cond {A = ℕ} b (g y) 0) py, h (rw e at f) (omega (arith, one)))

  -- an item that is found and passes is the only one, where no two pass
  pub only_found : (p q : A → Bool) (xs : List A) (x : A) → find q xs ≡ Some x → p x ≡ true → total (ind p) xs ≤ 1 → Only p x xs
  only_found p q [] x f px one = absurd (cc)
  only_found p q (y ∷ ys) x f px one = λ g.
      only_at p q g y x ys (cases_Bool (q y)) (cases_Bool (p y)) px one (λ f2 one2. only_found p q ys x f2 px one2 g) f

  -- it is still the only one where others go
  pub only_kept : (p keep : A → Bool) (x : A) (xs : List A) → Only p x xs → keep x ≡ true → Only p x (filter keep xs)
  only_kept p keep x xs o k = λ g.
      kept_weigh keep (only p g) xs ∙ (total_same (only keep (only p g)) (only p (only keep g)) xs (λ y. either_order (keep y) (p y) (g y))
      ∙ (o (only keep g) ∙ ap (λ (b : Bool). cond {A = ℕ} b (g x) 0) k))

  -- without the only one that passes, the rest weigh less by it
  pub without_only : (p : A → Bool) (g : A → ℕ) (x : A) (xs : List A) → Only p x xs → total g (filter (λ y. not (p y)) xs) + g x ≡ total g xs
  without_only p g x xs o = omega (arith, dropped_weigh p g xs, o g)

  other_at : (R : A → A → Type 0) (p : A → Bool) (x : A) (xs : List A) → ((a b : A) → R a b → p a ≡ true → p b ≡ true → ⊥) → p x ≡ true → Each (R x) xs → total (ind p) xs ≡ 0
  other_at R p x [] apart px h = refl
  other_at R p x (y ∷ ys) apart px h = omega (arith, no_weight (p y) (λ py. apart x y h.0 px py), other_at R p x ys apart px h.1)

  once_at : (R : A → A → Type 0) (p : A → Bool) (x : A) (xs : List A) → (p x ≡ true) ⊎ (p x ≡ false) → ((a b : A) → R a b → p a ≡ true → p b ≡ true → ⊥) → Each (R x) xs → total (ind p) xs ≤ 1 → total (ind p) (x ∷ xs) ≤ 1
  once_at R p x xs (inl e) apart h one = omega (arith, ap (λ (b : Bool). cond {A = ℕ} b 1 0) e, other_at R p x xs apart e h)
  once_at R p x xs (inr e) apart h one = omega (arith, ap (λ (b : Bool). cond {A = ℕ} b 1 0) e, one)

  -- no two pass where no pair does
  pub pairs_once : (R : A → A → Type 0) (p : A → Bool) (xs : List A) → ((a b : A) → R a b → p a ≡ true → p b ≡ true → ⊥) → Pairs R xs → total (ind p) xs ≤ 1
  pairs_once R p [] apart h = omega arith
  pairs_once R p (x ∷ xs) apart h = once_at R p x xs (cases_Bool (p x)) apart h.0 (pairs_once R p xs apart h.1)
