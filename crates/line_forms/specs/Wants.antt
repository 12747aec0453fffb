-- Where the words behind a line's first leave the form.
--
-- To be read from the end: `IsMisfit` says what is wrong with words of which a list of kinds is wanted, and `wants` has
-- that list for a form with parts that may be left out.
use Rattle.std.specs.Prelude.{◌≡◌, ◌≢◌, ℕ, ◌+◌, List, [], ◌∷◌, ◌++◌, length, drop, Bool, false, bytes_eq, if◌then◌else◌}
use Rattle.line_forms.specs.declared.kind.Keyword.{Keyword}
use Rattle.line_forms.specs.declared.kind.Kind.{Kind}
use Rattle.line_forms.specs.declared.kind.Kind.TheVariants.{Word}
use Rattle.line_forms.specs.declared.verb.Part.{Part}
use Rattle.line_forms.specs.declared.verb.Part.TheVariants.{Must, May, Flag}
use Rattle.line_forms.specs.declared.misfit.Misfit.{Misfit}
use Rattle.line_forms.specs.declared.misfit.Misfit.TheVariants as misfits
use Rattle.line_forms.specs.Kinds.{IsOf, keyword_text}

-- that word comes next
abbrev pub begins : Keyword → List (List ℕ) → Bool
begins keyword [] = false
begins keyword (word ∷ words) = bytes_eq word (keyword_text keyword)

-- The kinds of word that a form wants of these words: of a part that may be left out those it has, where its keyword
-- comes next.
abbrev pub wants : List Part → List (List ℕ) → List Kind
wants [] words = []
wants (Must kind ∷ parts) words = kind ∷ wants parts (drop 1 words)
wants (May keyword kind ∷ parts) words =
    if begins keyword words then Word keyword ∷ kind ∷ wants parts (drop 1 (drop 1 words)) else wants parts words
wants (Flag keyword ∷ parts) words =
    if begins keyword words then Word keyword ∷ wants parts (drop 1 words) else wants parts words

-- each word is of the kind that is wanted there, and there are as many
abbrev pub Fit : List Kind → List (List ℕ) → Type 0
Fit [] [] = Unit {0}
Fit (kind ∷ kinds) (word ∷ words) = IsOf kind word × Fit kinds words
Fit _ _ = ⊥

-- The word at that place is the first that isn't of the kind that is wanted there. The words are those behind the
-- line's first, so their places count from 2.
pub record IsUnfit (wanted : List Kind) (words : List (List ℕ)) (place : ℕ) (kind : Kind) : Type 0 where
  pub front : List (List ℕ)
  pub word : List ℕ
  pub behind : List (List ℕ)
  pub before : List Kind
  pub after : List Kind
  pub words_are : words ≡ front ++ word ∷ behind
  pub wanted_are : wanted ≡ before ++ kind ∷ after
  pub fit : Fit before front
  pub place_is : place ≡ length front + 2
  pub unfit : ¬ (IsOf kind word)

-- The words fit as far as they go, and at that place, behind the last, one more is wanted, of that kind.
pub record IsMissing (wanted : List Kind) (words : List (List ℕ)) (place : ℕ) (kind : Kind) : Type 0 where
  pub before : List Kind
  pub after : List Kind
  pub wanted_are : wanted ≡ before ++ kind ∷ after
  pub fit : Fit before words
  pub place_is : place ≡ length words + 2

-- All that is wanted is there, and the word at that place stands behind it.
pub record IsSurplus (wanted : List Kind) (words : List (List ℕ)) (place : ℕ) : Type 0 where
  pub front : List (List ℕ)
  pub behind : List (List ℕ)
  pub some : behind ≢ []
  pub words_are : words ≡ front ++ behind
  pub fit : Fit wanted front
  pub place_is : place ≡ length front + 2

-- what is wrong with these words, of which those kinds are wanted
abbrev pub IsMisfit : List Kind → List (List ℕ) → Misfit → Type 0
IsMisfit wanted words (misfits.Unfit place kind) = IsUnfit wanted words place kind
IsMisfit wanted words (misfits.Missing place kind) = IsMissing wanted words place kind
IsMisfit wanted words (misfits.Surplus place) = IsSurplus wanted words place
