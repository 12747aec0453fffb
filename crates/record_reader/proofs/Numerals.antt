-- What isn't the text of a number.
use Rattle.std.proofs.Common.{ℕ, ◌≡◌, ◌<◌, ◌^◌, List, Result, Ok, subst, sym, decimal}
use Rattle.std.proofs.lemmas.Fmt.{parse-decimal, IsAscii-decimal}
use Rattle.std.proofs.lemmas.Str.{IsUtf8-from_ascii}
use Rattle.std.specs.Str.{IsUtf8}
use Rattle.std.specs.Str.Parse.{ParsesUnsigned}

-- a number's text is UTF-8
pub is_text : (text : List ℕ) (n : ℕ) → n < 2 ^ 64 → text ≡ decimal n → IsUtf8 text
is_text text n fits e = subst IsUtf8 (sym e) (IsUtf8-from_ascii (decimal n) (IsAscii-decimal n fits))

-- and reads as that number
pub is_read : {E : Type 0} (text : List ℕ) (n : ℕ) (r : Result ℕ E) → n < 2 ^ 64 → text ≡ decimal n → ParsesUnsigned 64 10 text r → r ≡ Ok n
is_read text n r fits e p = parse-decimal 64 n text r fits fits e p
