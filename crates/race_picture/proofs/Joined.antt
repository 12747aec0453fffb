-- What three calls write, one after the other.
use Rattle.std.proofs.Common.{◌≡◌, ℕ, List, ◌++◌, Result, Ok, Err, OnOk, ap, ◌∙◌, append_assoc}

pub three : {E : Type 0} (r : Result (Unit {0}) E) (o o1 o2 o3 a b c whole : List ℕ) → o1 ≡ o ++ a → o2 ≡ o1 ++ b
    → OnOk r (o3 ≡ o2 ++ c) → (a ++ b) ++ c ≡ whole → OnOk r (o3 ≡ o ++ whole)
three (Ok x) o o1 o2 o3 a b c whole e1 e2 e3 w =
    let all : ((o ++ a) ++ b) ++ c ≡ o ++ ((a ++ b) ++ c) = simp append_assoc in
    e3 ∙ ap (λ (t : List ℕ). t ++ c) (e2 ∙ ap (λ (t : List ℕ). t ++ b) e1) ∙ all ∙ ap (λ (t : List ℕ). o ++ t) w
three (Err e) o o1 o2 o3 a b c whole e1 e2 e3 w = tt
