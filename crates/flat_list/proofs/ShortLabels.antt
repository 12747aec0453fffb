-- A label of at most seven bytes, and what seven bytes of its field are.
use Rattle.std.proofs.Common.{◌≡◌, ℕ, ◌+◌, ◌-◌, ◌≤◌, List, [], ◌∷◌, ◌++◌, length, take, drop, sym, ap, ap₂, ◌∙◌, arith}
use Rattle.std.proofs.Math.ListN.{replicate}
use Rattle.std.proofs.Math.Seq.{take-append_seam, take-append-add, drop-append-add}
use Rattle.std.proofs.lemmas.List.{take-append-le, take-append-drop, drop-replicate, length-take}
use Rattle.flat_list.specs.Padded.{padded}

-- nine zeros
abbrev pub nine : List ℕ
nine = 0 ∷ 0 ∷ 0 ∷ 0 ∷ 0 ∷ 0 ∷ 0 ∷ 0 ∷ 0 ∷ []

-- the label, and zeros up to seven bytes
front_is : (text : List ℕ) (m : ℕ) → length text + m ≡ 7 → take 7 (padded text) ≡ text ++ take m (replicate (16 - length text) 0)
front_is text m seven =
    ap (λ n. take n (padded text)) (sym seven) ∙ take-append-add text (replicate (16 - length text) 0) m

-- what is behind seven bytes of a short label's field is zeros
rest_is : (text : List ℕ) (m : ℕ) → length text + m ≡ 7 → drop 7 (padded text) ≡ nine
rest_is text m seven =
    let left : 16 - length text - m ≡ 9 = omega arith in
    ap (λ n. drop n (padded text)) (sym seven)
    ∙ drop-append-add text (replicate (16 - length text) 0) m
    ∙ drop-replicate m (16 - length text) 0
    ∙ ap (λ n. replicate n 0) left

-- the label is read back of seven bytes
pub short_back : (text bytes : List ℕ) (n : ℕ) → n ≡ length text → n ≤ 7 → bytes ≡ take 7 (padded text) → take n bytes ≡ text
short_back text bytes n is few all =
    let m : ℕ = 7 - length text in
    let seven : length text + m ≡ 7 = omega arith in
    ap₂ take is (all ∙ front_is text m seven) ∙ take-append_seam text (take m (replicate (16 - length text) 0))

-- seven bytes with nine zeros behind them are the label's field
pub field_back : (bytes : List ℕ) (n : ℕ) → n ≤ 7 → length bytes ≡ 7 → bytes ≡ take 7 (padded (take n bytes))
    → bytes ++ nine ≡ padded (take n (bytes ++ nine))
field_back bytes n few seven all =
    let text : List ℕ = take n bytes in
    let short : length text ≤ 7 = omega (arith, length-take n bytes) in
    let m : ℕ = 7 - length text in
    let rest : drop 7 (padded text) ≡ nine = rest_is text m (omega arith) in
    let within : n ≤ length bytes = omega arith in
    ap₂ ◌++◌ all (sym rest) ∙ take-append-drop 7 (padded text) ∙ ap padded (sym (take-append-le n bytes nine within))
