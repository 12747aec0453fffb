-- Words that fit parts that may be left out: those there are, and what stands behind them.
use Rattle.std.proofs.Common.{◌≡◌, ℕ, ◌⊎◌, inl, inr, ⊎_elim, List, [], ◌∷◌, ◌++◌, Bool, true, false, cond, Option, Some, None, drop, codes, refl, ap, ◌∙◌, arith}
use Rattle.line_forms.specs.declared.kind.Keyword.{Keyword}
use Rattle.line_forms.specs.declared.kind.Keyword.TheVariants as keywords
use Rattle.line_forms.specs.declared.kind.Kind.{Kind}
use Rattle.line_forms.specs.declared.kind.Kind.TheVariants as kinds
use Rattle.line_forms.specs.declared.verb.Part.{Part}
use Rattle.line_forms.specs.declared.verb.Part.TheVariants.{May, Flag}
use Rattle.line_forms.specs.Kinds.{IsOf, keyword_text, a_port, a_namespace, any_number}
use Rattle.line_forms.specs.Wants.{Fit, begins, wants}
use Rattle.sock_script.specs.Forms.{namespace_words, user_words, device_words, source_words, flag_words, NamespaceFits, UserFits, DeviceFits, SourceFits}

-- the keyword, a value of that kind, and words that fit the rest
abbrev IsOption : Keyword → Kind → List Part → List (List ℕ) → Type 0
IsOption keyword kind parts words =
    (value : List ℕ) × (rest : List (List ℕ)) × (words ≡ keyword_text keyword ∷ value ∷ rest) × IsOf kind value
    × Fit (wants parts rest) rest

module _ (parts : List Part) where
  either : (b : Bool) (some none : List Kind) (words : List (List ℕ)) → Fit (cond b some none) words → Fit none words ⊎ Fit some words
  either true some none words fit = inr fit
  either false some none words fit = inl fit

  taken : (keyword : Keyword) (kind : Kind) (words : List (List ℕ))
      → Fit (kinds.Word keyword ∷ kind ∷ wants parts (drop 1 (drop 1 words))) words → IsOption keyword kind parts words
  taken keyword kind [] fit = absurd fit
  taken keyword kind (w ∷ []) fit = absurd fit.1
  taken keyword kind (w ∷ v ∷ rest) fit = (v, rest, ap (λ (x : List ℕ). x ∷ v ∷ rest) fit.0, fit.1.0, fit.1.1)

  option_cases : (keyword : Keyword) (kind : Kind) (words : List (List ℕ)) → Fit (wants (May keyword kind ∷ parts) words) words
      → Fit (wants parts words) words ⊎ IsOption keyword kind parts words
  option_cases keyword kind words fit =
      ⊎_elim (λ f. inl f) (λ f. inr (taken keyword kind words f)) (either (begins keyword words) (kinds.Word keyword ∷ kind ∷ wants parts (drop 1 (drop 1 words))) (wants parts words) words fit)

  -- the words of an option that may be there, as `spelled` has them, and those that fit the rest
  abbrev pub HasOption : (Option ℕ → List (List ℕ)) → (Option ℕ → Type 0) → List (List ℕ) → Type 0
  HasOption spelled fits words =
      (value : Option ℕ) × (rest : List (List ℕ)) × (words ≡ spelled value ++ rest) × fits value × Fit (wants parts rest) rest

  pub net_of : (words : List (List ℕ)) → Fit (wants (May keywords.Net a_namespace ∷ parts) words) words
      → HasOption namespace_words NamespaceFits words
  net_of words fit =
      ⊎_elim (λ f. (None, words, refl, tt, f))
      (λ o. (Some o.3.0, o.1, o.2 ∙ ap (λ (v : List ℕ). codes "net" ∷ v ∷ o.1) o.3.1, omega (arith, o.3.3), o.4))
      (option_cases keywords.Net a_namespace words fit)

  pub uid_of : (words : List (List ℕ)) → Fit (wants (May keywords.Uid any_number ∷ parts) words) words
      → HasOption user_words UserFits words
  uid_of words fit =
      ⊎_elim (λ f. (None, words, refl, tt, f))
      (λ o. (Some o.3.0, o.1, o.2 ∙ ap (λ (v : List ℕ). codes "uid" ∷ v ∷ o.1) o.3.1, omega (arith, o.3.3), o.4))
      (option_cases keywords.Uid any_number words fit)

  pub dev_of : (words : List (List ℕ)) → Fit (wants (May keywords.Dev a_port ∷ parts) words) words
      → HasOption device_words DeviceFits words
  dev_of words fit =
      ⊎_elim (λ f. (None, words, refl, tt, f))
      (λ o. (Some o.3.0, o.1, o.2 ∙ ap (λ (v : List ℕ). codes "dev" ∷ v ∷ o.1) o.3.1, (o.3.2, omega (arith, o.3.3)), o.4))
      (option_cases keywords.Dev a_port words fit)

  pub from_of : (words : List (List ℕ)) → Fit (wants (May keywords.From kinds.Address ∷ parts) words) words
      → HasOption source_words SourceFits words
  from_of words fit =
      ⊎_elim (λ f. (None, words, refl, tt, f))
      (λ o. (Some o.3.0, o.1, o.2 ∙ ap (λ (v : List ℕ). codes "from" ∷ v ∷ o.1) o.3.1, o.3.2, o.4))
      (option_cases keywords.From kinds.Address words fit)

  flag_taken : (keyword : Keyword) (words : List (List ℕ)) → Fit (kinds.Word keyword ∷ wants parts (drop 1 words)) words
      → (rest : List (List ℕ)) × (words ≡ keyword_text keyword ∷ rest) × Fit (wants parts rest) rest
  flag_taken keyword [] fit = absurd fit
  flag_taken keyword (w ∷ rest) fit = (rest, ap (λ (x : List ℕ). x ∷ rest) fit.0, fit.1)

  -- a flag that may be there, and words that fit the rest
  pub flag_of : (keyword : Keyword) (words : List (List ℕ)) → Fit (wants (Flag keyword ∷ parts) words) words
      → (set : Bool) × (rest : List (List ℕ)) × (words ≡ flag_words (keyword_text keyword) set ++ rest) × Fit (wants parts rest) rest
  flag_of keyword words fit =
      ⊎_elim (λ f. (false, words, refl, f)) (λ f. let t = flag_taken keyword words f in (true, t.0, t.1, t.2))
      (either (begins keyword words) (kinds.Word keyword ∷ wants parts (drop 1 words)) (wants parts words) words fit)
