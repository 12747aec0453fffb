-- The entries of one caller, and of one place.
use Rattle.std.proofs.Common.{◌≡◌, sym, arith, ℕ, suc, ◌≢◌, ◌==◌, ◌⊎◌, inl, inr, List, [], ◌∷◌, ◌++◌, map, filter, cond, refl, ap, ◌∙◌, eq-eqb, ne_eqb, Bool, true, false, subst, eqb, ◌<◌}
use Rattle.std.specs.List.{Contains}
use mathlib.Core.Logic.{dite}
use native.Mathlib.Decide.{ℕ_discrete}
use Rattle.std.proofs.lemmas.List.Elements.{filter-append}
use Rattle.list_words.specs.Lists.{Each}
use Rattle.list_words.proofs.EachLemmas.{each_filter, each_map}
use Rattle.turn_table.specs.Journals.{placed, by_caller, notes_at}
use Rattle.turn_table.specs.declared.note.Note.{Note}
use Rattle.turn_table.specs.declared.note.Placed.{Placed}
use Rattle.std.proofs.lemmas.List.{map-append}

module _ {E : Type 0} where
  -- a list with an item isn't empty
  cons_not : (x : Note E) (l : List (Note E)) → (x ∷ l) ≢ []
  cons_not x l e = cc

  -- the entries of a caller in two lists put together
  pub by-append : (c : ℕ) (l m : List (Note E)) → by_caller c (l ++ m) ≡ by_caller c l ++ by_caller c m
  by-append c l m = filter-append (λ (x : Note E). x.caller == c) l m

  -- the entries of a place in two lists put together
  pub at-append : (i : ℕ) (l m : List (Placed E)) → notes_at i (l ++ m) ≡ notes_at i l ++ notes_at i m
  at-append i l m = ap (map (λ (p : Placed E). p.note)) (filter-append (λ (p : Placed E). p.place == i) l m) ∙ map-append (λ (p : Placed E). p.note) (filter (λ (p : Placed E). p.place == i) l) (filter (λ (p : Placed E). p.place == i) m)

  -- of entries that are none of a caller's, it has none
  pub by_none : (c : ℕ) (l : List (Note E)) → Each (λ (x : Note E). x.caller ≢ c) l → by_caller c l ≡ []
  by_none c [] h = refl
  by_none c (x ∷ xs) h = ap (λ b. cond b (x ∷ by_caller c xs) (by_caller c xs)) (ne_eqb x.caller c h.0) ∙ by_none c xs h.1

  -- nor at any place
  pub by_at_none : (c i : ℕ) (l : List (Placed E)) → Each (λ (p : Placed E). p.note.caller ≢ c) l → by_caller c (notes_at i l) ≡ []
  by_at_none c i l h = by_none c (notes_at i l) (each_map (λ (x : Note E). x.caller ≢ c) (λ (p : Placed E). p.note) (filter (λ (p : Placed E). p.place == i) l) (each_filter (λ (p : Placed E). p.note.caller ≢ c) (λ (p : Placed E). p.place == i) l h))

  -- entries that were given at a place stand there
  pub at_here : (i : ℕ) (l : List (Note E)) → notes_at i (map (placed i) l) ≡ l
  at_here i [] = refl
  at_here i (x ∷ xs) = ap (λ b. map (λ (p : Placed E). p.note) (cond b (placed i x ∷ filter (λ (p : Placed E). p.place == i) (map (placed i) xs)) (filter (λ (p : Placed E). p.place == i) (map (placed i) xs)))) (eq-eqb i i refl) ∙ ap (λ (l : List (Note E)). x ∷ l) (at_here i xs)

  -- and at no other place
  pub at_else : (i j : ℕ) (l : List (Note E)) → i ≢ j → notes_at j (map (placed i) l) ≡ []
  at_else i j [] n = refl
  at_else i j (x ∷ xs) n = ap (λ b. map (λ (p : Placed E). p.note) (cond b (placed i x ∷ filter (λ (p : Placed E). p.place == j) (map (placed i) xs)) (filter (λ (p : Placed E). p.place == j) (map (placed i) xs)))) (ne_eqb i j n) ∙ at_else i j xs n

  -- a list keeps a first item that passes
  headed : (c : ℕ) (b : Bool) (x : Note E) (l : List (Note E)) → b ≡ true → cond b (x ∷ l) l ≢ []
  headed c b x l e = subst (λ q. cond q (x ∷ l) l ≢ []) (sym e) (cons_not x l)

  -- where no caller but the first has entries, all are the first's
  pub by_first : (l : List (Note E)) → ((c : ℕ) → 0 < c → by_caller c l ≡ []) → by_caller 0 l ≡ l
  by_first [] h = refl
  by_first (x ∷ xs) h = dite (ℕ_discrete x.caller 0)
      (λ z. ap (λ b. cond b (x ∷ by_caller 0 xs) (by_caller 0 xs)) (eq-eqb x.caller 0 z)
      ∙ ap (λ (l : List (Note E)). x ∷ l) (by_first xs (λ c low. ap (λ b. cond b (x ∷ by_caller c xs) (by_caller c xs)) (sym (ne_eqb x.caller c (λ e. absurd (omega arith)))) ∙ h c low)))
      (λ ne. absurd (headed x.caller (eqb x.caller x.caller) x (by_caller x.caller xs) (eq-eqb x.caller x.caller refl) (h x.caller (omega arith))))

  -- an item is among these
  abbrev In : Note E → List (Note E) → Type 0
  In x [] = ⊥
  In x (y ∷ ys) = (y ≡ x) ⊎ In x ys

  in_contains : (x : Note E) (xs : List (Note E)) → In x xs → Contains xs x
  in_contains x [] h = absurd h
  in_contains x (y ∷ ys) (inl e) = (0, omega arith, e)
  in_contains x (y ∷ ys) (inr h) = let t = in_contains x ys h in (suc t.0, omega (arith, t.1), t.2)

  in_kept : (b : Bool) (x y : Note E) (ys : List (Note E)) → In x (cond b (y ∷ ys) ys) → (y ≡ x) ⊎ In x ys
  in_kept true x y ys h = h
  in_kept false x y ys h = inr h

  -- an entry of a caller's own is an entry
  in_of_by : (c : ℕ) (x : Note E) (xs : List (Note E)) → In x (by_caller c xs) → In x xs
  in_of_by c x [] h = h
  in_of_by c x (y ∷ ys) h = elim (in_kept (y.caller == c) x y (by_caller c ys) h) [ inl e ↦ inl e | inr t ↦ inr (in_of_by c x ys t) ]

  kept_on : (b : Bool) (x y : Note E) (ys : List (Note E)) → In x ys → In x (cond b (y ∷ ys) ys)
  kept_on true x y ys h = inr h
  kept_on false x y ys h = h

  -- and an entry is one of its caller's own
  in_by : (x : Note E) (xs : List (Note E)) → In x xs → In x (by_caller x.caller xs)
  in_by x [] h = h
  in_by x (y ∷ ys) (inl e) =
      let same : y.caller == x.caller ≡ true = eq-eqb y.caller x.caller (ap (λ (z : Note E). z.caller) e) in
      subst (λ b. In x (cond b (y ∷ by_caller x.caller ys) (by_caller x.caller ys))) (sym same) (inl e)
  in_by x (y ∷ ys) (inr h) = kept_on (y.caller == x.caller) x y (by_caller x.caller ys) (in_by x ys h)

  each_in : (P : Note E → Type 0) (xs : List (Note E)) → ((x : Note E) → In x xs → P x) → Each P xs
  each_in P [] h = tt
  each_in P (x ∷ xs) h = (h x (inl refl), each_in P xs (λ y t. h y (inr t)))

  has_it : (given journal : List (Note E)) (x : Note E) → (by_caller x.caller given ≡ []) ⊎ (by_caller x.caller journal ≡ by_caller x.caller given) → In x given → In x journal
  has_it given journal x (inl none) here = absurd (subst (In x) none (in_by x given here))
  has_it given journal x (inr same) here = in_of_by x.caller x journal (subst (In x) (sym same) (in_by x given here))

  -- where a journal has of each of these callers just what they gave, it has each entry that was given
  pub has_each : (given journal : List (Note E)) → ((c : ℕ) → (by_caller c given ≡ []) ⊎ (by_caller c journal ≡ by_caller c given)) → Each (Contains journal) given
  has_each given journal kept = each_in (Contains journal) given (λ x here. in_contains x journal (has_it given journal x (kept x.caller) here))
