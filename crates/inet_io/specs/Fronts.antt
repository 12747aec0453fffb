-- What the digits at a text's front spell. Our own; no public contract cites this file.
use Rattle.std.specs.Prelude.{◌≡◌, ℕ, ◌^◌, ◌<◌, ◌≤◌, ◌++◌, List, [], ◌∷◌, length, take, drop, get_or, decimal, false}
use Rattle.std.specs.Char.{is_ascii_digit}
use Rattle.std.specs.Str.Parse.{AllDigits, digits_value}
use Rattle.inet_io.specs.Texts.{addr_text}

-- the text doesn't begin with a digit
abbrev pub NoDigit : List ℕ → Type 0
NoDigit [] = Unit {0}
NoDigit (b ∷ rest) = is_ascii_digit b ≡ false

-- the first `count` bytes are digits, which spell n; they are ten at most, and no digit follows
pub record HasDigits (text : List ℕ) (n count : ℕ) : Type 0 where
  pub within : count ≤ length text
  pub few : count ≤ 10
  pub digits : AllDigits 10 (take count text)
  pub value : n ≡ digits_value 10 (take count text)
  pub ends : NoDigit (drop count text)

-- it begins with more than ten digits
pub record HasMany (text : List ℕ) : Type 0 where
  pub long : 11 ≤ length text
  pub digits : AllDigits 10 (take 11 text)

-- there are digits, and if the first is a zero, it stands alone
abbrev pub IsPlain : List ℕ → Type 0
IsPlain digits = (0 < length digits) × (get_or digits 0 0 ≡ 48 → length digits ≡ 1)

-- the text begins with that number, of ten digits at most, and no digit follows
pub record BeginsWith (most : ℕ) (text : List ℕ) (n : ℕ) (rest : List ℕ) : Type 0 where
  pub high : n ≤ most
  pub short : n < 10 ^ 10
  pub spelled : text ≡ decimal n ++ rest
  pub ends : NoDigit rest

-- it begins with that address, and no digit follows
pub record BeginsWithAddress (text : List ℕ) (addr : ℕ) (rest : List ℕ) : Type 0 where
  pub fits : addr < 2 ^ 32
  pub spelled : text ≡ addr_text addr ++ rest
  pub ends : NoDigit rest
