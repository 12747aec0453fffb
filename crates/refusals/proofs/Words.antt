-- Words that are taken one after the other, those that have a byte.
use Rattle.std.proofs.Common.{◌≡◌, ◌∙◌, ℕ, suc, ◌+◌, ◌<◌, List, [], ◌∷◌, ◌++◌, length, drop, get_or, filter, append_assoc, ap, sym, arith}
use Rattle.std.proofs.Math.Seq.{drop-cons}
use Rattle.std.proofs.lemmas.List.Elements.{filter-append}
use Rattle.sock_script.specs.Words.{is_word}

pub words_more : (pieces : List (List ℕ)) (i : ℕ) → i < length pieces → (piece : List ℕ) → get_or pieces i [] ≡ piece
    → (old new all : List (List ℕ)) → new ≡ old ++ filter is_word (piece ∷ []) → old ++ filter is_word (drop i pieces) ≡ all
    → new ++ filter is_word (drop (i + 1) pieces) ≡ all
words_more pieces i lt piece is old new all more before =
    let next : suc i ≡ i + 1 = omega arith in
    let rest : List (List ℕ) = drop (i + 1) pieces in
    let here : drop i pieces ≡ piece ∷ rest =
    drop-cons pieces i [] lt ∙ ap (λ (w : List ℕ). w ∷ drop (suc i) pieces) is ∙ ap (λ (n : ℕ). piece ∷ drop n pieces) next in
    ap (λ (ws : List (List ℕ)). ws ++ filter is_word rest) more ∙ append_assoc old (filter is_word (piece ∷ [])) (filter is_word rest)
    ∙ ap (λ (ws : List (List ℕ)). old ++ ws) (sym (filter-append is_word (piece ∷ []) rest))
    ∙ ap (λ (ws : List (List ℕ)). old ++ filter is_word ws) (sym here) ∙ before
