-- A batch of lookups, by one lookup more.
use Rattle.std.proofs.Common.{◌≡◌, ℕ, List, [], ◌∷◌, ◌++◌, refl, sym, subst}
use Rattle.shared_calls.specs.Batches.{LooksMany, Sees}
use Rattle.shared_calls.specs.Lookings.{Looking}
use Rattle.shared_calls.specs.declared.batch.Asking.{Asking}
use Rattle.shared_calls.specs.declared.batch.Sighting.{Sighting}

pub one_more : (passes after : ℕ) (old : Looking) (asked : List Asking) (ss : List Sighting) (mid : Looking) (a : Asking) (s : Sighting) (new : Looking) → LooksMany passes after old asked ss mid → Sees passes after mid a s new
    → LooksMany passes after old (asked ++ a ∷ []) (ss ++ s ∷ []) new
one_more passes after old [] [] mid a s new same sees =
    (new, subst (λ (l : Looking). Sees passes after l a s new) same sees, refl)
one_more passes after old (b ∷ bs) (t ∷ ts) mid a s new many sees =
    (many.0, many.1, one_more passes after many.0 bs ts mid a s new many.2 sees)
one_more passes after old [] (t ∷ ts) mid a s new many sees = absurd many
one_more passes after old (b ∷ bs) [] mid a s new many sees = absurd many
