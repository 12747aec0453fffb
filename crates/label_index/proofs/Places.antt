-- Where a label stands among others, and one more.
use Rattle.std.proofs.Common.{◌≡◌, ℕ, ◌+◌, ◌<◌, List, [], ◌∷◌, ◌++◌, length, Some, None, Bool, true, false, cond, bytes_eq, sym, ap, ◌∙◌, arith, ltb}
use Rattle.std.specs.Prelude.{IfSome}
use Rattle.std.proofs.lemmas.Bool.Decides.{nat_tests}
use Rattle.std.proofs.lemmas.Slice.Eq.{bytes_eq-Decides}
use Rattle.list_words.proofs.Positions.{pushed_new, pushed_other, pushed_again}
use Rattle.label_index.specs.Places.{place_in}

same_label : (label text : List ℕ) → bytes_eq label text ≡ true → text ≡ label
same_label label text e = sym ((bytes_eq-Decides label text).0 e)

-- a label that is new, given last
pub given_new : (labels : List (List ℕ)) (label text : List ℕ) (b : Bool) → bytes_eq label text ≡ b → place_in labels label ≡ None
    → place_in (labels ++ label ∷ []) text ≡ cond b (Some (length labels)) (place_in labels text)
given_new labels label text true e none = pushed_new (λ l. bytes_eq l text) labels label (ap (place_in labels) (same_label label text e) ∙ none) e
given_new labels label text false e none = pushed_other (λ l. bytes_eq l text) labels label e

-- one that was given before
pub given_again : (labels : List (List ℕ)) (label text : List ℕ) (i : ℕ) (b : Bool) → bytes_eq label text ≡ b → place_in labels label ≡ Some i
    → place_in (labels ++ label ∷ []) text ≡ cond b (Some i) (place_in labels text)
given_again labels label text i true e at =
    let there : place_in labels text ≡ Some i = ap (place_in labels) (same_label label text e) ∙ at in
    pushed_again (λ l. bytes_eq l text) labels label i there ∙ there
given_again labels label text i false e at = pushed_other (λ l. bytes_eq l text) labels label e

within_by : (a n : ℕ) (b : Bool) → ltb a n ≡ b → IfSome (cond b (Some a) None) (λ k. k < n)
within_by a n true e = grind (arith, nat_tests)
within_by a n false e = tt
