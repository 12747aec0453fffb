-- Steps through the parts of a form.
use Rattle.std.proofs.Common.{◌≡◌, ℕ, ◌+◌, List, [], ◌∷◌, ◌++◌, length, refl, true, false, ap, sym, ◌∙◌, subst, append_assoc, append-nil, length-append, arith, Result, Ok, Err, IfErr, OnOk}
use Rattle.std.proofs.lemmas.Bool.{cond-true, cond-false}
use Rattle.line_forms.specs.declared.kind.Keyword.{Keyword}
use Rattle.line_forms.specs.declared.kind.Kind.{Kind}
use Rattle.line_forms.specs.declared.kind.Kind.TheVariants.{Word}
use Rattle.line_forms.specs.declared.verb.Part.{Part}
use Rattle.line_forms.specs.declared.verb.Part.TheVariants.{Must, May, Flag}
use Rattle.line_forms.specs.declared.misfit.Misfit.{Misfit}
use Rattle.line_forms.specs.declared.misfit.Misfit.TheVariants as misfits
use Rattle.line_forms.specs.Kinds.{IsOf}
use Rattle.line_forms.specs.Wants.{Fit, IsMisfit, begins, wants}
use Rattle.line_forms.specs.Stands.{Stands}

-- one word more, of the kind that is wanted
pub fit-more : (before : List Kind) (front : List (List ℕ)) (kind : Kind) (word : List ℕ) → Fit before front → IsOf kind word
    → Fit (before ++ kind ∷ []) (front ++ word ∷ [])
fit-more [] [] kind word fit is = (is, tt)
fit-more [] (w ∷ ws) kind word fit is = absurd fit
fit-more (k ∷ ks) [] kind word fit is = absurd fit
fit-more (k ∷ ks) (w ∷ ws) kind word fit is = (fit.0, fit-more ks ws kind word fit.1 is)

-- what is said of an error
pub map_err : {A : Type 0} {E : Type 0} (r : Result A E) (P Q : E → Type 0) → ((e : E) → P e → Q e) → IfErr r P → IfErr r Q
map_err (Ok v) P Q f h = tt
map_err (Err e) P Q f h = f e h

-- what is said where there is none
pub map_ok : {A : Type 0} {E : Type 0} (r : Result A E) (P Q : Type 0) → (P → Q) → OnOk r P → OnOk r Q
map_ok (Ok v) P Q f h = f h
map_ok (Err e) P Q f h = tt

module _ (wanted : List Kind) (words : List (List ℕ)) where
  -- past a word that fits
  pub passes : (kind : Kind) (parts : List Part) (word : List ℕ) (rest : List (List ℕ)) → IsOf kind word
      → Stands wanted words (Must kind ∷ parts) (word ∷ rest) → Stands wanted words parts rest
  passes kind parts word rest is s =
      record {
        front = s.front ++ word ∷ [];
        before = s.before ++ kind ∷ [];
        words_are = s.words_are ∙ sym (append_assoc s.front (word ∷ []) rest);
        wanted_are = s.wanted_are ∙ sym (append_assoc s.before (kind ∷ []) (wants parts rest));
        fit = fit-more s.before s.front kind word s.fit is;
      }

  place_is : (place : ℕ) (front left : List (List ℕ)) → words ≡ front ++ left → place + length left ≡ length words + 2
      → place ≡ length front + 2
  place_is place front left are at =
      let long : length words ≡ length front + length left = ap length are ∙ length-append front left in omega (arith, long, at)

  -- a word that doesn't fit
  pub fails : (kind : Kind) (parts : List Part) (word : List ℕ) (rest : List (List ℕ)) (place : ℕ) → ¬ (IsOf kind word)
      → Stands wanted words (Must kind ∷ parts) (word ∷ rest) → place + length (word ∷ rest) ≡ length words + 2
      → IsMisfit wanted words (misfits.Unfit place kind)
  fails kind parts word rest place unfit s at =
      record {
        front = s.front;
        word = word;
        behind = rest;
        before = s.before;
        after = wants parts rest;
        words_are = s.words_are;
        wanted_are = s.wanted_are;
        fit = s.fit;
        place_is = place_is place s.front (word ∷ rest) s.words_are at;
        unfit = unfit;
      }

  -- no word where one is wanted
  pub lacks : (kind : Kind) (parts : List Part) (place : ℕ) → Stands wanted words (Must kind ∷ parts) []
      → place + 0 ≡ length words + 2 → IsMisfit wanted words (misfits.Missing place kind)
  lacks kind parts place s at =
      let all : words ≡ s.front = s.words_are ∙ append-nil s.front in
      record {
        before = s.before;
        after = wants parts [];
        wanted_are = s.wanted_are;
        fit = subst (Fit s.before) (sym all) s.fit;
        place_is = omega (arith, at);
      }

  -- an option that is left out
  pub skips_option : (keyword : Keyword) (kind : Kind) (parts : List Part) (left : List (List ℕ)) → false ≡ begins keyword left
      → Stands wanted words (May keyword kind ∷ parts) left → Stands wanted words parts left
  skips_option keyword kind parts left none s =
      record {
        front = s.front;
        before = s.before;
        words_are = s.words_are;
        wanted_are = s.wanted_are ∙ ap (λ more. s.before ++ more) (cond-false (begins keyword left) _ _ (sym none));
        fit = s.fit;
      }

  pub skips_flag : (keyword : Keyword) (parts : List Part) (left : List (List ℕ)) → false ≡ begins keyword left
      → Stands wanted words (Flag keyword ∷ parts) left → Stands wanted words parts left
  skips_flag keyword parts left none s =
      record {
        front = s.front;
        before = s.before;
        words_are = s.words_are;
        wanted_are = s.wanted_are ∙ ap (λ more. s.before ++ more) (cond-false (begins keyword left) _ _ (sym none));
        fit = s.fit;
      }

  -- an option that is there wants its keyword and its value
  pub has_option : (keyword : Keyword) (kind : Kind) (parts : List Part) (left : List (List ℕ)) → true ≡ begins keyword left
      → Stands wanted words (May keyword kind ∷ parts) left → Stands wanted words (Must (Word keyword) ∷ Must kind ∷ parts) left
  has_option keyword kind parts left is s =
      record {
        front = s.front;
        before = s.before;
        words_are = s.words_are;
        wanted_are = s.wanted_are ∙ ap (λ more. s.before ++ more) (cond-true (begins keyword left) _ _ (sym is));
        fit = s.fit;
      }

  pub has_flag : (keyword : Keyword) (parts : List Part) (left : List (List ℕ)) → true ≡ begins keyword left
      → Stands wanted words (Flag keyword ∷ parts) left → Stands wanted words (Must (Word keyword) ∷ parts) left
  has_flag keyword parts left is s =
      record {
        front = s.front;
        before = s.before;
        words_are = s.words_are;
        wanted_are = s.wanted_are ∙ ap (λ more. s.before ++ more) (cond-true (begins keyword left) _ _ (sym is));
        fit = s.fit;
      }

  -- all is wanted that is there
  pub ends : Stands wanted words [] [] → Fit wanted words
  ends s =
      let all : words ≡ s.front = s.words_are ∙ append-nil s.front in
      let each : wanted ≡ s.before = s.wanted_are ∙ append-nil s.before in
      subst (λ ks. Fit ks words) (sym each) (subst (Fit s.before) (sym all) s.fit)

  -- and where words are left, they are too many
  pub goes_on : (word : List ℕ) (rest : List (List ℕ)) (place : ℕ) → Stands wanted words [] (word ∷ rest)
      → place + length (word ∷ rest) ≡ length words + 2 → IsMisfit wanted words (misfits.Surplus place)
  goes_on word rest place s at =
      let each : wanted ≡ s.before = s.wanted_are ∙ append-nil s.before in
      record {
        front = s.front;
        behind = word ∷ rest;
        some = λ e. cc;
        words_are = s.words_are;
        fit = subst (λ ks. Fit ks s.front) (sym each) s.fit;
        place_is = place_is place s.front (word ∷ rest) s.words_are at;
      }

-- ---- what fits has no misfit

after_front : (before after : List Kind) (front behind : List (List ℕ)) → Fit before front → Fit (before ++ after) (front ++ behind)
    → Fit after behind
after_front [] after [] behind f h = h
after_front [] after (w ∷ ws) behind f h = absurd f
after_front (k ∷ ks) after [] behind f h = absurd f
after_front (k ∷ ks) after (w ∷ ws) behind f h = after_front ks after ws behind f.1 h.1

nothing_more : (behind : List (List ℕ)) → Fit [] behind → behind ≡ []
nothing_more [] h = refl
nothing_more (w ∷ ws) h = absurd h

-- words that fit have nothing wrong
pub fit-excludes : (wanted : List Kind) (words : List (List ℕ)) (m : Misfit) → IsMisfit wanted words m → Fit wanted words → ⊥
fit-excludes wanted words (misfits.Unfit place kind) m h =
    m.unfit (after_front m.before (kind ∷ m.after) m.front (m.word ∷ m.behind) m.fit
    (subst (λ ws. Fit (m.before ++ kind ∷ m.after) ws) m.words_are (subst (λ ks. Fit ks words) m.wanted_are h))).0
fit-excludes wanted words (misfits.Missing place kind) m h =
    after_front m.before (kind ∷ m.after) words [] m.fit
    (subst (λ ws. Fit (m.before ++ kind ∷ m.after) ws) (sym (append-nil words)) (subst (λ ks. Fit ks words) m.wanted_are h))
fit-excludes wanted words (misfits.Surplus place) m h =
    m.some (nothing_more m.behind (after_front wanted [] m.front m.behind m.fit
    (subst (λ ks. Fit ks (m.front ++ m.behind)) (sym (append-nil wanted)) (subst (Fit wanted) m.words_are h))))
