-- A label as numbers, to find it among others: a format of our own.
use Rattle.std.specs.Prelude.{◌≡◌, ℕ, List, ◌++◌, length, take, drop}
use Rattle.std.specs.Int.{w64, to_be_bytes, from_be_bytes}
use Rattle.flat_list.specs.declared.command.LabelKey.{LabelKey}
use Rattle.flat_list.specs.Padded.{padded}

-- a label's length, and the two halves of its 16 bytes as numbers
unfoldable pub key_of : List ℕ → LabelKey
key_of text =
    record {
      high = from_be_bytes w64 (take 8 (padded text));
      low = from_be_bytes w64 (take 8 (drop 8 (padded text)));
      length = length text;
    }

-- the label of these numbers
unfoldable pub text_of : LabelKey → List ℕ
text_of key = take key.length (to_be_bytes w64 key.high ++ to_be_bytes w64 key.low)

-- the text's numbers give the text back: so of each label
abbrev pub IsLabel : List ℕ → Type 0
IsLabel text = text_of (key_of text) ≡ text
