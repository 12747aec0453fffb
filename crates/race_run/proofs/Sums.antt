-- Over all workers of a race: the sections, and behind them the lookers.
use Rattle.std.proofs.Common.{◌≡◌, ℕ, zero, suc, ◌+◌, ◌<◌, ◌≤◌, Bool, true, false, cond, List, [], ◌∷◌, ◌++◌, length, map, filter, refl, ap, ◌∙◌, subst, arith}
use Rattle.std.specs.List.{flat_map, range_with_len}
use Rattle.std.proofs.lemmas.Grind.{flat_map-append}
use Rattle.list_words.specs.Lists.{Each, total}
use Rattle.list_words.proofs.EachLemmas.{each_of_all}
use Rattle.list_words.proofs.TotalLemmas.{total-append}
use Rattle.flat_list.specs.declared.header.Header.{Header}
use Rattle.flat_list.specs.declared.command.Command.{Command}
use Rattle.race_record.specs.Deeds.{Deed}
use Rattle.race_record.specs.Gathered.{numbered}
use Rattle.race_record.specs.Record.{Step, deeds_of, reply_of}
use Rattle.race_run.specs.Joins.{Part}
use Rattle.race_run.specs.Races.{SectionDone, AllDone, steps_by}
use Rattle.race_run.specs.Said.{Said, replied_in, listed_in}
use Rattle.race_run.specs.Sections.{listings_in}

-- numbers that weigh nothing
sum_none : (g : ℕ → ℕ) (n m : ℕ) → ((k : ℕ) → n ≤ k → g k ≡ 0) → total g (range_with_len n m) ≡ 0
sum_none g n zero h = refl
sum_none g n (suc m) h = omega (arith, h n (omega arith), sum_none g (n + 1) m (λ k l. h k (omega (arith, l))))

each_none : (R : ℕ → Type 0) (n m : ℕ) → ((k : ℕ) → n ≤ k → R k) → Each R (range_with_len n m)
each_none R n zero h = tt
each_none R n (suc m) h = (h n (omega arith), each_none R (n + 1) m (λ k l. h k (omega (arith, l))))

module _ (header : Header) (part : ℕ → Part) where
  -- what each worker weighs, and each section's steps
  pub sum_sections : (n : ℕ) (scripts : List (List Command)) (says : List Said) (d : AllDone header part n scripts says) (lookers : ℕ) (g : ℕ → ℕ) (weight : List Step → ℕ)
      → ((m : ℕ) (cs : List Command) (said : Said) (s : SectionDone header m cs (part m) said) → g m ≡ weight s.done.steps) → ((m : ℕ) → n + length scripts ≤ m → g m ≡ 0)
      → total g (range_with_len n (length scripts + lookers)) ≡ total weight (steps_by header part n scripts says d)
  sum_sections n [] [] d lookers g weight one none = ap (λ k. total g (range_with_len n k)) (let e : 0 + lookers ≡ lookers = omega arith in e) ∙ sum_none g n lookers (λ k l. none k (omega (arith, l)))
  sum_sections n (cs ∷ scripts) (said ∷ says) d lookers g weight one none =
      ap (λ k. total g (range_with_len n k)) (let e : length (cs ∷ scripts) + lookers ≡ suc (length scripts + lookers) = omega arith in e)
      ∙ omega (arith, one n cs said d.0, sum_sections (n + 1) scripts says d.1 lookers g weight one (λ m l. none m (omega (arith, l))))
  sum_sections n [] (said ∷ says) d lookers g weight one none = absurd d
  sum_sections n (cs ∷ scripts) [] d lookers g weight one none = absurd d

  -- a fact of each worker, where each section's commands have one
  pub each_number_if : (P : List Command → Type 0) (R : ℕ → Type 0) (n : ℕ) (scripts : List (List Command)) (says : List Said) → AllDone header part n scripts says → Each P scripts → (lookers : ℕ)
      → ((m : ℕ) (cs : List Command) (said : Said) → SectionDone header m cs (part m) said → P cs → R m) → ((m : ℕ) → n + length scripts ≤ m → R m)
      → Each R (range_with_len n (length scripts + lookers))
  each_number_if P R n [] [] d p lookers one none = subst (λ k. Each R (range_with_len n k)) (let e : lookers ≡ 0 + lookers = omega arith in e) (each_none R n lookers (λ k l. none k (omega (arith, l))))
  each_number_if P R n (cs ∷ scripts) (said ∷ says) d p lookers one none =
      subst (λ k. Each R (range_with_len n k)) (let e : suc (length scripts + lookers) ≡ length (cs ∷ scripts) + lookers = omega arith in e)
      (one n cs said d.0 p.0, each_number_if P R (n + 1) scripts says d.1 p.1 lookers one (λ m l. none m (omega (arith, l))))
  each_number_if P R n [] (said ∷ says) d p lookers one none = absurd d
  each_number_if P R n (cs ∷ scripts) [] d p lookers one none = absurd d

  -- a fact of each worker
  pub each_number : (R : ℕ → Type 0) (n : ℕ) (scripts : List (List Command)) (says : List Said) → AllDone header part n scripts says → (lookers : ℕ)
      → ((m : ℕ) (cs : List Command) (said : Said) → SectionDone header m cs (part m) said → R m) → ((m : ℕ) → n + length scripts ≤ m → R m)
      → Each R (range_with_len n (length scripts + lookers))
  each_number R n scripts says d lookers one none =
      each_number_if (λ cs. Unit {0}) R n scripts says d (each_of_all (λ cs. Unit {0}) scripts (λ cs. tt)) lookers (λ m cs said s p. one m cs said s) none

  -- a fact of each section
  pub each_section : (Q : List Step → Type 0) (P : ℕ → Type 0) (n : ℕ) (scripts : List (List Command)) (says : List Said) (d : AllDone header part n scripts says) (lookers : ℕ)
      → Each P (range_with_len n (length scripts + lookers))
      → ((m : ℕ) (cs : List Command) (said : Said) (s : SectionDone header m cs (part m) said) → P m → Q s.done.steps) → Each Q (steps_by header part n scripts says d)
  each_section Q P n [] [] d lookers h one = tt
  each_section Q P n (cs ∷ scripts) (said ∷ says) d lookers h one =
      let k = subst (λ k. Each P (range_with_len n k)) (let e : length (cs ∷ scripts) + lookers ≡ suc (length scripts + lookers) = omega arith in e) h in
      (one n cs said d.0 k.0, each_section Q P (n + 1) scripts says d.1 lookers k.1 one)
  each_section Q P n [] (said ∷ says) d lookers h one = absurd d
  each_section Q P n (cs ∷ scripts) [] d lookers h one = absurd d

  pub many_sections : (n : ℕ) (scripts : List (List Command)) (says : List Said) (d : AllDone header part n scripts says) → length (steps_by header part n scripts says d) ≡ length scripts
  many_sections n [] [] d = refl
  many_sections n (cs ∷ scripts) (said ∷ says) d = omega (arith, many_sections (n + 1) scripts says d.1)
  many_sections n [] (said ∷ says) d = absurd d
  many_sections n (cs ∷ scripts) [] d = absurd d

  pub replies_are : (n : ℕ) (scripts : List (List Command)) (says : List Said) (d : AllDone header part n scripts says) → map (λ steps. map reply_of steps) (steps_by header part n scripts says d) ≡ map replied_in says
  replies_are n [] [] d = refl
  replies_are n (cs ∷ scripts) (said ∷ says) d =
      ap (λ l. l ∷ map (λ steps. map reply_of steps) (steps_by header part (n + 1) scripts says d.1)) d.0.done.replied ∙ ap (λ l. said.replies ∷ l) (replies_are (n + 1) scripts says d.1)
  replies_are n [] (said ∷ says) d = absurd d
  replies_are n (cs ∷ scripts) [] d = absurd d

  pub listings_are : (n : ℕ) (scripts : List (List Command)) (says : List Said) (d : AllDone header part n scripts says) → flat_map listings_in (flat_map (λ steps. steps) (steps_by header part n scripts says d)) ≡ flat_map listed_in says
  listings_are n [] [] d = refl
  listings_are n (cs ∷ scripts) (said ∷ says) d =
      let later : List Step = flat_map (λ steps. steps) (steps_by header part (n + 1) scripts says d.1) in
      flat_map-append listings_in d.0.done.steps later
      ∙ ap (λ l. l ++ flat_map listings_in later) d.0.done.listed ∙ ap (λ l. said.listings ++ l) (listings_are (n + 1) scripts says d.1)
  listings_are n [] (said ∷ says) d = absurd d
  listings_are n (cs ∷ scripts) [] d = absurd d

-- what all sections' deeds weigh
pub weigh_all : {A : Type 0} (of : Deed → List A) (f : A → ℕ) (sections : List (List Step)) → total f (flat_map of (deeds_of (flat_map (λ steps. steps) sections))) ≡ total (λ steps. total f (flat_map of (deeds_of steps))) sections
weigh_all of f [] = refl
weigh_all of f (ss ∷ sections) = omega (
  arith,
  ap (λ ds. total f (flat_map of ds)) (flat_map-append (λ (s : Step). s.deeds) ss (flat_map (λ steps. steps) sections)),
  ap (total f) (flat_map-append of (deeds_of ss) (deeds_of (flat_map (λ steps. steps) sections))),
  total-append f (flat_map of (deeds_of ss)) (flat_map of (deeds_of (flat_map (λ steps. steps) sections))),
  weigh_all of f sections,
)

-- the sections' numbers among all
pub sum_numbers : (n : ℕ) (sections : List (List Step)) (lookers : ℕ) (f g : ℕ → ℕ) → ((m : ℕ) → n ≤ m → m < n + length sections → g m ≡ f m) → ((m : ℕ) → n + length sections ≤ m → g m ≡ 0)
    → total g (range_with_len n (length sections + lookers)) ≡ total f (numbered n sections)
sum_numbers n [] lookers f g one none = ap (λ k. total g (range_with_len n k)) (let e : 0 + lookers ≡ lookers = omega arith in e) ∙ sum_none g n lookers (λ k l. none k (omega (arith, l)))
sum_numbers n (ss ∷ sections) lookers f g one none =
    ap (λ k. total g (range_with_len n k)) (let e : length (ss ∷ sections) + lookers ≡ suc (length sections + lookers) = omega arith in e)
    ∙ omega (arith, one n (omega arith) (omega arith), sum_numbers (n + 1) sections lookers f g (λ m l u. one m (omega (arith, l)) (omega (arith, u))) (λ m l. none m (omega (arith, l))))

weigh_by : (f : ℕ → ℕ) (x : ℕ) (xs : List ℕ) (b : Bool) → total f (cond b (x ∷ xs) xs) ≡ cond b (f x) 0 + total f xs
weigh_by f x xs true = refl
weigh_by f x xs false = omega arith

pub weigh_filter : (f : ℕ → ℕ) (keep : ℕ → Bool) (xs : List ℕ) → total f (filter keep xs) ≡ total (λ m. cond (keep m) (f m) 0) xs
weigh_filter f keep [] = refl
weigh_filter f keep (x ∷ xs) = omega (arith, weigh_by f x (filter keep xs) (keep x), weigh_filter f keep xs)

-- what is left out gave nothing
kept_by : {A : Type 0} (given : ℕ → List A) (x : ℕ) (xs ys : List ℕ) (b : Bool) → (b ≡ false → given x ≡ []) → flat_map given ys ≡ flat_map given xs → flat_map given (x ∷ ys) ≡ flat_map given (cond b (x ∷ xs) xs)
kept_by given x xs ys true h e = ap (λ l. given x ++ l) e
kept_by given x xs ys false h e = ap (λ l. l ++ flat_map given ys) (h refl) ∙ e

pub flat_filter : {A : Type 0} (given : ℕ → List A) (keep : ℕ → Bool) (xs : List ℕ) → ((m : ℕ) → keep m ≡ false → given m ≡ []) → flat_map given xs ≡ flat_map given (filter keep xs)
flat_filter given keep [] h = refl
flat_filter given keep (x ∷ xs) h = kept_by given x (filter keep xs) xs (keep x) (h x) (flat_filter given keep xs h)

pub flat_same : {A : Type 0} (f g : ℕ → List A) (xs : List ℕ) → Each (λ m. f m ≡ g m) xs → flat_map f xs ≡ flat_map g xs
flat_same f g [] h = refl
flat_same f g (x ∷ xs) h = ap (λ l. l ++ flat_map f xs) h.0 ∙ ap (λ l. g x ++ l) (flat_same f g xs h.1)
