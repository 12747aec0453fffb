-- How far words were gone through. No public contract cites this file.
use Rattle.std.specs.Prelude.{◌≡◌, ℕ, ◌+◌, List, ◌∷◌, ◌++◌, length}
use Rattle.line_forms.specs.declared.kind.Kind.{Kind}
use Rattle.line_forms.specs.declared.verb.Part.{Part}
use Rattle.line_forms.specs.declared.misfit.Misfit.{Misfit}
use Rattle.line_forms.specs.Wants.{Fit, IsMisfit, wants}

-- Of all the words some are gone through, and fit; these are left, and these parts of the form.
pub record Stands (wanted : List Kind) (words : List (List ℕ)) (parts : List Part) (left : List (List ℕ))
    : Type 0 where
  pub front : List (List ℕ)
  pub before : List Kind
  pub words_are : words ≡ front ++ left
  pub wanted_are : wanted ≡ before ++ wants parts left
  pub fit : Fit before front

-- the words fit that part of a form, and these are left behind it
abbrev pub PassesPart : Part → List (List ℕ) → List (List ℕ) → Type 0
PassesPart part left rest =
    (wanted : List Kind) (words : List (List ℕ)) (parts : List Part)
    → Stands wanted words (part ∷ parts) left → Stands wanted words parts rest

-- the words don't fit that part, at a place that counts from the next word's
abbrev pub FailsPart : Part → ℕ → List (List ℕ) → Misfit → Type 0
FailsPart part place left misfit =
    (wanted : List Kind) (words : List (List ℕ)) (parts : List Part)
    → Stands wanted words (part ∷ parts) left → place + length left ≡ length words + 2
    → IsMisfit wanted words misfit

-- the words that are left fit the parts that are left
abbrev pub FitsParts : List Part → List (List ℕ) → Type 0
FitsParts parts left =
    (wanted : List Kind) (words : List (List ℕ)) → Stands wanted words parts left → Fit wanted words

-- or they don't
abbrev pub FailsParts : List Part → ℕ → List (List ℕ) → Misfit → Type 0
FailsParts parts place left misfit =
    (wanted : List Kind) (words : List (List ℕ))
    → Stands wanted words parts left → place + length left ≡ length words + 2 → IsMisfit wanted words misfit
