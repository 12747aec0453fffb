-- Sockets by numbers: our own form.
use Rattle.std.specs.Prelude.{ℕ, ◌==◌, List, length, if◌then◌else◌}
use Rattle.std.specs.Int.{w64, to_be_bytes, from_be_bytes}

-- the label of the socket of that number: its eight bytes, the highest first
abbrev pub label_of : ℕ → List ℕ
label_of number = to_be_bytes w64 number

-- the number that a label of eight bytes is of; 0 for any other
abbrev pub number_of : List ℕ → ℕ
number_of label = if length label == 8 then from_be_bytes w64 label else 0
