-- The line of a number, copied from among the lines of a text.
use Rattle.std.proofs.Common.{◌≡◌, ◌∙◌, ℕ, ◌-◌, ◌≤◌, List, length, get_or, slice_get, Some, ap, sym, arith}
use Rattle.std.specs.Borrow.{Bor}
use Rattle.std.specs.Option.{option_map}
use Rattle.std.proofs.lemmas.List.{length-map}
use Rattle.std.proofs.lemmas.Option.{slice_get_read, slice_get-map}
use Rattle.record_reader.specs.Words.{texts}

pub line_there : (lines : List (Bor (List ℕ))) (all : List (List ℕ)) (n : ℕ) (line : Bor (List ℕ)) (copy : List ℕ) → texts lines ≡ all
    → (1 ≤ n) × (n ≤ length all) → line ≡ get_or lines (n - 1) line → copy ≡ line.now → slice_get all (n - 1) ≡ Some copy
line_there lines all n line copy are within at is =
    let long : length all ≡ length lines = ap length (sym are) ∙ length-map lines (λ w. w.now) in
    let got : slice_get lines (n - 1) ≡ Some line = slice_get_read lines (length all) (n - 1) line long (omega arith) at in
    ap (λ (ls : List (List ℕ)). slice_get ls (n - 1)) (sym are) ∙ slice_get-map (λ (w : Bor (List ℕ)). w.now) lines (n - 1)
    ∙ ap (option_map (λ (w : Bor (List ℕ)). w.now)) got ∙ ap Some (sym is)
