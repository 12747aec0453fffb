-- How a socket is named in a record: by its section and its label, a format of our own; and by which number names are
-- distinguished.
use Rattle.std.specs.Prelude.{◌≡◌, ℕ, ◌-◌, ◌≤◌, Bool, ◌==◌, ◌&&◌, IsTrue, List, ◌++◌, length, take, drop, codes, decimal, replicate, position, Option, unwrap_or}
use Rattle.std.specs.Int.{w64, to_be_bytes, from_be_bytes}
use Rattle.inet_io.specs.Labels.{is_label}
use Rattle.record_reader.specs.declared.line.Name.{Name}

-- a label in a field of 16 bytes, with zeros behind it
abbrev pub padded : List ℕ → List ℕ
padded label = label ++ replicate (16 - length label) 0

-- the name of that section and label: the two halves of the field as numbers, and how long the label is
unfoldable pub name_of : ℕ → List ℕ → Name
name_of section label =
    record {
      section = section;
      high = from_be_bytes w64 (take 8 (padded label));
      low = from_be_bytes w64 (take 8 (drop 8 (padded label)));
      length = length label;
    }

-- the label of a name
unfoldable pub label_of : Name → List ℕ
label_of name = take name.length (to_be_bytes w64 name.high ++ to_be_bytes w64 name.low)

-- the section is one of 64, the label is one, and the numbers are those of its bytes
pub record NameFits (name : Name) : Type 0 where
  pub section : (1 ≤ name.section) × (name.section ≤ 64)
  pub label : IsTrue (is_label (label_of name))
  pub numbers : name ≡ name_of name.section (label_of name)

-- how a name is spelled
unfoldable pub name_text : Name → List ℕ
name_text name = decimal name.section ++ codes "." ++ label_of name

abbrev pub same_name : Name → Name → Bool
same_name a b = (a.section == b.section) && (a.high == b.high) && (a.low == b.low) && (a.length == b.length)

-- where a name stands first among others, if it does
abbrev pub place_in : List Name → Name → Option ℕ
place_in names name = position (same_name name) names

-- the number of a name among those of a record: where it stands first
abbrev pub number_in : List Name → Name → ℕ
number_in names name = unwrap_or (place_in names name) 0
