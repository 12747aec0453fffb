-- The index by which names are numbered, as the code holds it: our own. No public contract cites this file.
use Rattle.std.specs.Prelude.{◌≡◌, ℕ, List, [], ◌∷◌, ◌++◌, length, unwrap_or}
use Rattle.std.specs.Ordering.{nat_cmp, ordering_then}
use Rattle.std.specs.declared.cmp.Ordering.{Ordering}
use Rattle.std.specs.BTreeMap.{BTreeMap, get_by}
use Rattle.std.specs.Option.{option_to_list}
use Rattle.record_reader.specs.declared.line.Name.{Name}
use Rattle.record_reader.specs.declared.line.Line.{Line}
use Rattle.record_reader.specs.Names.{place_in}
use Rattle.record_reader.specs.Told.{name_in}

-- by the section, then by the numbers of the label, then by its length
abbrev pub name_cmp : Name → Name → Ordering
name_cmp a b =
    ordering_then (nat_cmp a.section b.section)
    (ordering_then (nat_cmp a.high b.high) (ordering_then (nat_cmp a.low b.low) (nat_cmp a.length b.length)))

-- the index says where each name stands first
abbrev pub IsIndexOf : BTreeMap Name ℕ → List Name → Type 0
IsIndexOf index names = (name : Name) → get_by (name_cmp name) index ≡ place_in names name

-- the number that the index gives
abbrev pub number_by : BTreeMap Name ℕ → Name → ℕ
number_by index name = unwrap_or (get_by (name_cmp name) index) 0

-- the index has one name more
abbrev pub NotesPlace : BTreeMap Name ℕ → Name → ℕ → BTreeMap Name ℕ → Type 0
NotesPlace old name place new =
    (names : List Name) → length names ≡ place → IsIndexOf old names → IsIndexOf new (names ++ name ∷ [])

-- and the index with the name of a line, if it contains one, where the next name has that place
abbrev pub NotesLine : BTreeMap Name ℕ → Line → ℕ → BTreeMap Name ℕ → ℕ → Type 0
NotesLine old line place new next =
    (names : List Name) → length names ≡ place → IsIndexOf old names
    → (length (names ++ option_to_list (name_in line)) ≡ next) × IsIndexOf new (names ++ option_to_list (name_in line))
