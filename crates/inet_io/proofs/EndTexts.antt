-- An end's text is cut at its colon in one way, an address's at its dots; so the texts distinguish them.
use Rattle.std.proofs.Common.{◌≡◌, ℕ, ◌<◌, ◌^◌, List, ◌∷◌, ◌++◌, length, take, drop, decimal, codes, arith, sym, ◌∙◌, lit≤, append_assoc, ◌-◌, ◌/◌, ◌%◌, length-drop}
use Rattle.std.proofs.lemmas.Fmt.{decimal_injective}
use Rattle.std.proofs.lemmas.List.{take_all}
use Rattle.inet_io.specs.Texts.{addr_text, end_text}
use Rattle.inet_io.proofs.Cuts.{Lacks, Lacks-append, decimal_lacks, one_cut}

-- a dot is no colon
dot_lacks : Lacks 58 (codes ".")
dot_lacks = (λ e. absurd (omega arith), tt)

-- a further part of an address brings no colon
and_dot : (bs : List ℕ) (n : ℕ) → Lacks 58 bs → n < 2 ^ 64 → Lacks 58 (bs ++ codes "." ++ decimal n)
and_dot bs n h fits = Lacks-append 58 _ _ (Lacks-append 58 _ _ h dot_lacks) (decimal_lacks 58 n (lit≤ tt) fits)

-- an address has no colon
pub addr_text-lacks : (addr : ℕ) → addr < 2 ^ 32 → Lacks 58 (addr_text addr)
addr_text-lacks addr fits =
    and_dot _ _ (and_dot _ _ (and_dot _ _ (decimal_lacks 58 _ (lit≤ tt) (omega arith)) (omega arith)) (omega arith)) (omega arith)

-- the text cut at its colon
pub end_text-cut : (addr port : ℕ) → end_text addr port ≡ addr_text addr ++ 58 ∷ decimal port
end_text-cut addr port = append_assoc (addr_text addr) (codes ":") (decimal port)

-- the rest `&xs[k..]`
pub tail_is : (k : ℕ) (xs : List ℕ) → take (length xs - k) (drop k xs) ≡ drop k xs
tail_is k xs = take_all (length xs - k) (drop k xs) (omega (arith, length-drop k xs))

-- four numbers with dots, the first in front of all the rest
nested : ℕ → ℕ → ℕ → ℕ → List ℕ
nested a b c d = decimal a ++ 46 ∷ (decimal b ++ 46 ∷ (decimal c ++ 46 ∷ decimal d))

-- an address in that form
addr_text-nested : (n : ℕ) → addr_text n ≡ nested (n / 2 ^ 24) (n / 2 ^ 16 % 256) (n / 2 ^ 8 % 256) (n % 256)
unfolding nested
addr_text-nested n = simp append_assoc

-- the text of four numbers with dots determines the numbers
nested-same : (a b c d u v w x : ℕ) → a < 2 ^ 64 → b < 2 ^ 64 → c < 2 ^ 64 → d < 2 ^ 64 → u < 2 ^ 64 → v < 2 ^ 64 → w < 2 ^ 64 → x < 2 ^ 64 → nested a b c d ≡ nested u v w x → (a ≡ u) × (b ≡ v) × (c ≡ w) × (d ≡ x)
unfolding nested
nested-same a b c d u v w x fa fb fc fd fu fv fw fx same =
    let first = one_cut 46 (decimal a) _ (decimal u) _ (decimal_lacks 46 a (lit≤ tt) fa) (decimal_lacks 46 u (lit≤ tt) fu) same in
    let second = one_cut 46 (decimal b) _ (decimal v) _ (decimal_lacks 46 b (lit≤ tt) fb) (decimal_lacks 46 v (lit≤ tt) fv) first.1 in
    let third = one_cut 46 (decimal c) _ (decimal w) _ (decimal_lacks 46 c (lit≤ tt) fc) (decimal_lacks 46 w (lit≤ tt) fw) second.1 in (
      decimal_injective a u fa fu first.0,
      decimal_injective b v fb fv second.0,
      decimal_injective c w fc fw third.0,
      decimal_injective d x fd fx third.1,
    )

-- an address is its four numbers
from_parts : (m n : ℕ) → (m / 2 ^ 24 ≡ n / 2 ^ 24) × (m / 2 ^ 16 % 256 ≡ n / 2 ^ 16 % 256) × (m / 2 ^ 8 % 256 ≡ n / 2 ^ 8 % 256) × (m % 256 ≡ n % 256) → m ≡ n
from_parts m n h = omega arith

-- an address's text is no other address's
pub addr_text_injective : (m n : ℕ) → m < 2 ^ 32 → n < 2 ^ 32 → addr_text m ≡ addr_text n → m ≡ n
addr_text_injective m n fm fn e =
    from_parts m n
    (nested-same _ _ _ _ _ _ _ _ (omega arith) (omega arith) (omega arith) (omega arith) (omega arith) (omega arith) (omega arith) (omega arith)
    (sym (addr_text-nested m) ∙ e ∙ addr_text-nested n))

-- an end's text is no other end's
pub end_text_injective : (a p b q : ℕ) → a < 2 ^ 32 → b < 2 ^ 32 → p < 2 ^ 16 → q < 2 ^ 16 → end_text a p ≡ end_text b q → (a ≡ b) × (p ≡ q)
end_text_injective a p b q fa fb fp fq e =
    let cut = one_cut 58 _ _ _ _ (addr_text-lacks a fa) (addr_text-lacks b fb) (sym (end_text-cut a p) ∙ e ∙ end_text-cut b q) in
    (addr_text_injective a b fa fb cut.0, decimal_injective p q (omega arith) (omega arith) cut.1)
