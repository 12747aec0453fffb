-- The XML that a picture is made of: elements with attributes in double quotes, and text between them, as XML 1.0 has
-- them in its sections 2.4, 3.1 and 4.1.
--
-- To be read from the beginning.
use Rattle.std.specs.Prelude.{ℕ, ◌==◌, ◌&&◌, ◌||◌, not, nat_le, Bool, List, [], ◌∷◌, ◌++◌, codes, decimal, if◌then◌else◌}
use Rattle.std.specs.List.{flat_map}

-- a byte that may stand for itself between tags and within quotes: printable ASCII, but none of `"`, `&`, `<`, `>`
abbrev pub is_plain : ℕ → Bool
is_plain b = nat_le 32 b && nat_le b 126 && not ((b == 34) || (b == 38) || (b == 60) || (b == 62))

-- the reference to the character of that number
abbrev pub reference : ℕ → List ℕ
reference n = codes "&#" ++ decimal n ++ codes ";"

-- a byte in a text: as it is, or as the reference to the character of that number; no reference may be to a control
-- character, for which a question mark stands
abbrev pub escape : ℕ → List ℕ
escape b = if is_plain b then b ∷ [] else if nat_le 32 b && nat_le b 255 then reference b else codes "?"

abbrev pub escaped : List ℕ → List ℕ
escaped text = flat_map escape text

pub record Attribute : Type 0 where
  pub name : List ℕ
  pub value : List ℕ

-- an attribute whose value is a number
abbrev pub number : List ℕ → ℕ → Attribute
number name n = record { name = name; value = decimal n }

unfoldable pub attribute_text : Attribute → List ℕ
attribute_text a = codes " " ++ a.name ++ codes "=\"" ++ a.value ++ codes "\""

abbrev pub begin_tag : List ℕ → List Attribute → List ℕ
begin_tag name attributes = codes "<" ++ name ++ flat_map attribute_text attributes ++ codes ">"

abbrev pub end_tag : List ℕ → List ℕ
end_tag name = codes "</" ++ name ++ codes ">"

-- an element with what stands between its tags
abbrev pub element : List ℕ → List Attribute → List ℕ → List ℕ
element name attributes content = begin_tag name attributes ++ content ++ end_tag name

-- an element in which nothing stands
abbrev pub empty_element : List ℕ → List Attribute → List ℕ
empty_element name attributes = codes "<" ++ name ++ flat_map attribute_text attributes ++ codes "/>"
