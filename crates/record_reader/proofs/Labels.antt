-- A label is what its field says of it.
use Rattle.std.proofs.Common.{◌≡◌, ℕ, ◌+◌, ◌-◌, ◌≤◌, List, ◌++◌, length, length-append, take, drop, replicate, ap, ap₂, ◌∙◌, arith, take_all}
use Rattle.std.proofs.lemmas.List.{take-append-le, length-replicate}
use Rattle.list_words.proofs.MapLemmas.{halves}
use Rattle.record_reader.specs.Names.{padded}

pub sixteen : (label : List ℕ) → length label ≤ 16 → length (padded label) ≡ 16
sixteen label few =
    length-append label (replicate (16 - length label) 0) ∙ ap (λ m. length label + m) (length-replicate (16 - length label) 0) ∙ omega arith

front : (label more : List ℕ) → take (length label) (label ++ more) ≡ label
front label more =
    let le : length label ≤ length label = omega arith in
    rw take-append-le (take_all (length label) label (omega arith))

-- so many of the bytes that two numbers have
pub from_halves : (label field first second : List ℕ) → length label ≤ 16 → field ≡ padded label → first ≡ take 8 (drop 0 field) → second ≡ take 8 (drop 8 field) → take (length label) (first ++ second) ≡ label
from_halves label field first second few is e f =
    ap (take (length label)) (ap₂ ◌++◌ e f ∙ halves field (ap length is ∙ sixteen label few) ∙ is)
    ∙ front label (replicate (16 - length label) 0)
