-- What rows weigh, and what one changed row makes of that.
use Rattle.std.proofs.Common.{◌≡◌, ◌≢◌, ℕ, zero, suc, ◌+◌, ◌<◌, ◌≤◌, ◌==◌, Bool, true, false, cond, List, [], ◌∷◌, find, length, get_or, set, Some, refl, sym, ◌∙◌, subst, inl, inr, ◌⊎◌, arith}
use Rattle.std.proofs.lemmas.Bool.{cases_eq, cases_lt, eq-eqb, ne_eqb}
use Rattle.std.proofs.lemmas.List.{get_or-set_same, get_or-set_other, get_or_past}
use Rattle.list_words.specs.Lists.{Each, total}
use Rattle.table_model.proofs.lists.Passing.{only, total_same, total_sum}

-- the weight of all items of the rows
abbrev pub weigh : {A : Type 0} → (A → ℕ) → List (List A) → ℕ
weigh g rows = total (λ row. total g row) rows

only_yes : (b : Bool) (n : ℕ) → b ≡ true → n ≡ cond {A = ℕ} b n 0
only_yes b n e = rw e refl

only_no : (b : Bool) (n : ℕ) → b ≡ false → cond {A = ℕ} b n 0 ≡ 0
only_no b n e = rw e refl

module _ {A : Type 0} where
  -- one row has changed
  pub weigh_set : (g : A → ℕ) (rows : List (List A)) (b : ℕ) (new : List A) → b < length rows → weigh g (set rows b new) + total g (get_or rows b []) ≡ weigh g rows + total g new
  weigh_set g [] b new h = absurd (omega arith)
  weigh_set g (r ∷ rs) zero new h = omega arith
  weigh_set g (r ∷ rs) (suc b) new h = omega (arith, weigh_set g rs b new (omega arith))

  -- one row weighs no more than all
  pub row_least : (g : A → ℕ) (rows : List (List A)) (b : ℕ) → total g (get_or rows b []) ≤ weigh g rows
  row_least g [] b = omega arith
  row_least g (r ∷ rs) zero = omega arith
  row_least g (r ∷ rs) (suc b) = omega (arith, row_least g rs b)

  no_row : (g : A → ℕ) (rows : List (List A)) → ((k : ℕ) → total g (get_or rows k []) ≡ 0) → weigh g rows ≡ 0
  no_row g [] h = refl
  no_row g (r ∷ rs) h = let first : total g r ≡ 0 = h 0 in omega (arith, first, no_row g rs (λ k. h (suc k)))

  -- where the other rows weigh nothing, one weighs as all
  pub one_row : (g : A → ℕ) (rows : List (List A)) (b : ℕ) → ((k : ℕ) → k ≢ b → total g (get_or rows k []) ≡ 0) → weigh g rows ≡ total g (get_or rows b [])
  one_row g [] b h = refl
  one_row g (r ∷ rs) zero h = omega (arith, no_row g rs (λ k. h (suc k) (λ e. absurd (omega arith))))
  one_row g (r ∷ rs) (suc b) h =
      let first : total g r ≡ 0 = h 0 (λ e. absurd (omega arith)) in
      omega (arith, first, one_row g rs b (λ k q. h (suc k) (λ e. q (omega arith))))

  here_at : (g home : A → ℕ) (b : ℕ) (xs : List A) → Each (λ x. home x ≡ b) xs → total g xs ≡ total (only (λ x. home x == b) g) xs
  here_at g home b [] h = refl
  here_at g home b (x ∷ xs) h = omega (arith, only_yes (home x == b) (g x) (eq-eqb (home x) b h.0), here_at g home b xs h.1)

  there_at : (g home : A → ℕ) (b k : ℕ) (xs : List A) → k ≢ b → Each (λ x. home x ≡ k) xs → total (only (λ x. home x == b) g) xs ≡ 0
  there_at g home b k [] q h = refl
  there_at g home b k (x ∷ xs) q h = omega (arith, only_no (home x == b) (g x) (ne_eqb (home x) b (λ e. q (sym h.0 ∙ e))), there_at g home b k xs q h.1)

  -- where each item stands in the row of its home, a row weighs as those whose home it is
  pub home_row : (g home : A → ℕ) (rows : List (List A)) (b : ℕ) → ((k : ℕ) → Each (λ x. home x ≡ k) (get_or rows k [])) → total g (get_or rows b []) ≡ weigh (only (λ x. home x == b) g) rows
  home_row g home rows b homes =
      here_at g home b (get_or rows b []) (homes b) ∙ sym (one_row (only (λ x. home x == b) g) rows b (λ k q. there_at g home b k (get_or rows k []) q (homes k)))

  set_by : (P : ℕ → A → Type 0) (rows : List (List A)) (b : ℕ) (new : List A) (k : ℕ) → (k ≡ b) ⊎ (k ≢ b) → (b < length rows → Each (P b) new) → Each (P k) (get_or rows k []) → b < length rows → Each (P k) (get_or (set rows b new) k [])
  set_by P rows b new k (inl e) here there l =
      subst (λ (j : ℕ). Each (P j) (get_or (set rows b new) j [])) (sym e) (subst (Each (P b)) (sym (get_or-set_same rows b new [] l)) (here l))
  set_by P rows b new k (inr q) here there l = subst (Each (P k)) (sym (get_or-set_other rows b k new [] q)) there

  -- a fact of the items of each row, where one row has changed
  pub each_set : (P : ℕ → A → Type 0) (rows : List (List A)) (b : ℕ) (new : List A) → b < length rows → Each (P b) new → ((k : ℕ) → Each (P k) (get_or rows k [])) → (k : ℕ) → Each (P k) (get_or (set rows b new) k [])
  each_set P rows b new l here there k = set_by P rows b new k (cases_eq k b) (λ _. here) (there k) l

  within_by : (p : A → Bool) (rows : List (List A)) (b : ℕ) (x : A) → (b < length rows) ⊎ (length rows ≤ b) → find p (get_or rows b []) ≡ Some x → b < length rows
  within_by p rows b x (inl l) h = l
  within_by p rows b x (inr l) h = absurd (let none : find p [] ≡ Some x = subst (λ (r : List A). find p r ≡ Some x) (get_or_past rows b [] l) h in cc)

  -- a row in which something is found is one of the rows
  pub within : (p : A → Bool) (rows : List (List A)) (b : ℕ) (x : A) → find p (get_or rows b []) ≡ Some x → b < length rows
  within p rows b x h = within_by p rows b x (cases_lt b (length rows)) h

  -- weights that are the same for each item
  pub weigh_same : (f g : A → ℕ) (rows : List (List A)) → ((x : A) → f x ≡ g x) → weigh f rows ≡ weigh g rows
  weigh_same f g rows h = total_same (λ row. total f row) (λ row. total g row) rows (λ row. total_same f g row h)

  -- two weights together
  pub weigh_sum : (f g : A → ℕ) (rows : List (List A)) → weigh (λ x. f x + g x) rows ≡ weigh f rows + weigh g rows
  weigh_sum f g [] = refl
  weigh_sum f g (r ∷ rs) = omega (arith, total_sum f g r, weigh_sum f g rs)
