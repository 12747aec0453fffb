-- When a text is well-formed XML, as far as pictures need it: a part of the grammar of XML 1.0. An element's tags have
-- one name (3.1, 3.2), its attributes have different names and values in double quotes (2.3, 3.1), and what stands
-- between is elements, text without markup (2.4) and references to characters (4.1). All bytes are ASCII, so the text
-- is UTF-8 (4.3.3).
--
-- To be read from the beginning: `IsDocument` is what the law cites.
use Rattle.std.specs.Prelude.{◌≡◌, ℕ, ◌==◌, ◌&&◌, ◌||◌, nat_le, Bool, true, false, bytes_eq, List, [], ◌∷◌, ◌++◌, codes}
use Rattle.std.specs.Char.{is_ascii_alphabetic, is_ascii_alphanumeric}
use Rattle.std.specs.List.{list_all}
use Rattle.list_words.specs.Lists.{Each, Pairs}
use Rattle.race_picture.specs.Xml.{Attribute, element, empty_element, is_plain, reference}

-- letters and digits, of which the first is a letter
abbrev pub is_name : List ℕ → Bool
is_name [] = false
is_name (b ∷ rest) = is_ascii_alphabetic b && list_all is_ascii_alphanumeric rest

pub record IsAttribute (a : Attribute) : Type 0 where
  pub name : is_name a.name ≡ true
  pub value : list_all is_plain a.value ≡ true

pub record AreAttributes (attributes : List Attribute) : Type 0 where
  pub are : Each IsAttribute attributes
  pub differ : Pairs (λ (a b : Attribute). bytes_eq a.name b.name ≡ false) attributes

-- a byte between tags: a plain one or a line feed
abbrev pub is_text : ℕ → Bool
is_text b = is_plain b || (b == 10)

-- what may stand between tags
pub data IsContent : List ℕ → Type 0 where
  text : (t : List ℕ) → list_all is_text t ≡ true → IsContent t
  character : (n : ℕ) → (nat_le 32 n && nat_le n 255) ≡ true → IsContent (reference n)
  filled : (name : List ℕ) (attributes : List Attribute) {content : List ℕ} → is_name name ≡ true
      → AreAttributes attributes → IsContent content → IsContent (element name attributes content)
  empty : (name : List ℕ) (attributes : List Attribute) → is_name name ≡ true → AreAttributes attributes
      → IsContent (empty_element name attributes)
  both : {a b : List ℕ} → IsContent a → IsContent b → IsContent (a ++ b)

-- one element, and a line feed behind it
pub record IsDocument (document : List ℕ) : Type 0 where
  pub name : List ℕ
  pub attributes : List Attribute
  pub content : List ℕ
  pub named : is_name name ≡ true
  pub well : AreAttributes attributes
  pub within : IsContent content
  pub spelled : document ≡ element name attributes content ++ codes "\n"
