-- What a text has grown by, after several calls that append to it.
use Rattle.std.proofs.Common.{◌≡◌, ◌∙◌, ℕ, List, ◌++◌, Result, OnOk, append_assoc, ap}
use Rattle.std.proofs.lemmas.Result.{on_ok_weaker}

-- what follows from what a call ensures that succeeded
pub then_ok : {E P Q : Type 0} (r : Result (Unit {0}) E) → OnOk r P → (P → Q) → OnOk r Q
then_ok r held follows = on_ok_weaker r follows held

-- a piece, and what was appended behind it
pub behind : (old mid new piece rest : List ℕ) → mid ≡ old ++ piece → new ≡ mid ++ rest → new ≡ old ++ (piece ++ rest)
behind old mid new piece rest first more = more ∙ ap (λ (x : List ℕ). x ++ rest) first ∙ append_assoc old piece rest

-- a piece by its other name
pub named : (old new piece other : List ℕ) → new ≡ old ++ piece → piece ≡ other → new ≡ old ++ other
named old new piece other grown is = grown ∙ ap (λ (x : List ℕ). old ++ x) is

-- four pieces, one after the other
pub four : (old one two three new a b c d : List ℕ) → one ≡ old ++ a → two ≡ one ++ b → three ≡ two ++ c → new ≡ three ++ d
    → new ≡ old ++ (a ++ b ++ c ++ d)
four old one two three new a b c d p q r s =
    behind old three new (a ++ b ++ c) d (behind old two three (a ++ b) c (behind old one two a b p q) r) s

-- five pieces, one after the other
pub five : (old one two three four new a b c d e : List ℕ) → one ≡ old ++ a → two ≡ one ++ b → three ≡ two ++ c → four ≡ three ++ d
    → new ≡ four ++ e → new ≡ old ++ (a ++ b ++ c ++ d ++ e)
five old one two three four new a b c d e p q r s t =
    behind old four new (a ++ b ++ c ++ d) e
    (behind old three four (a ++ b ++ c) d (behind old two three (a ++ b) c (behind old one two a b p q) r) s) t
