-- Texts that are joined in some order, joined from the right.
use Rattle.std.proofs.Common.{◌≡◌, ℕ, List, [], ◌∷◌, ◌++◌, append_assoc, append-nil, refl, sym, ap, ◌∙◌}
use Rattle.race_laws.proofs.audits.Rows.{spaced}

pub data Tree : Type 0 where
  leaf : List ℕ → Tree
  node : Tree → Tree → Tree

infixl 10 ◌⊕◌
abbrev pub ◌⊕◌ : Tree → List ℕ → Tree
t ⊕ text = node t (leaf text)

-- as it is joined
abbrev pub joined : Tree → List ℕ
joined (leaf text) = text
joined (node s t) = joined s ++ joined t

-- from the right, with more behind it
abbrev pub flat : Tree → List ℕ → List ℕ
flat (leaf text) more = text ++ more
flat (node s t) more = flat s (flat t more)

regroup : (t : Tree) (more : List ℕ) → joined t ++ more ≡ flat t more
regroup (leaf text) more = refl
regroup (node s t) more =
    append_assoc (joined s) (joined t) more ∙ ap (λ rest. joined s ++ rest) (regroup t more) ∙ regroup s (flat t more)

-- words with spaces between them, from the right, with more behind them
abbrev pub spaced_then : List (List ℕ) → List ℕ → List ℕ
spaced_then [] more = more
spaced_then (w ∷ []) more = w ++ more
spaced_then (w ∷ v ∷ ws) more = w ++ 32 ∷ spaced_then (v ∷ ws) more

pub spaced_more : (words : List (List ℕ)) (more : List ℕ) → spaced words ++ more ≡ spaced_then words more
spaced_more [] more = refl
spaced_more (w ∷ []) more = refl
spaced_more (w ∷ v ∷ ws) more = append_assoc w (32 ∷ spaced (v ∷ ws)) more ∙ ap (λ rest. w ++ 32 ∷ rest) (spaced_more (v ∷ ws) more)

-- a text is words with spaces between them, and something behind them
pub text_is : (t : Tree) (words : List (List ℕ)) (more : List ℕ) → flat t [] ≡ spaced_then words more → joined t ≡ spaced words ++ more
text_is t words more e = sym (append-nil (joined t)) ∙ regroup t [] ∙ e ∙ sym (spaced_more words more)
