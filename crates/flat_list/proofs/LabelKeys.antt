-- A label's key determines the label.
use Rattle.std.proofs.Common.{◌≡◌, ℕ, List, ◌++◌, length, take, drop, sym, ap, ap₂, ◌∙◌}
use Rattle.list_words.proofs.MapLemmas.{halves}
use Rattle.flat_list.specs.declared.command.LabelKey.{LabelKey}
use Rattle.flat_list.specs.Labels.{key_of, text_of, IsLabel}

-- so many of the bytes that two numbers have
pub from_halves : (bytes first second : List ℕ) (n : ℕ) → length bytes ≡ 16 → first ≡ take 8 (drop 0 bytes) → second ≡ take 8 (drop 8 bytes) → take n (first ++ second) ≡ take n bytes
from_halves bytes first second n sixteen e f = ap (take n) (ap₂ ◌++◌ e f ∙ halves bytes sixteen)

-- a text that its key gives back is a label
pub label_told : (label : List ℕ) (key : LabelKey) → key ≡ key_of label → text_of key ≡ label → IsLabel label
label_told label key is text = ap text_of (sym is) ∙ text
