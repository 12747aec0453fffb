-- Texts of plain bytes, and what stands between tags.
use Rattle.std.proofs.Common.{◌≡◌, ℕ, ◌+◌, ◌/◌, ◌%◌, ◌<◌, ◌≤◌, Bool, true, false, ◌==◌, ◌&&◌, ◌||◌, List, [], ◌∷◌, ◌++◌, refl, arith, zero, suc, decimal, codes, if◌then◌else◌}
use Rattle.std.proofs.lemmas.Bool.{true≢false}
use Rattle.std.proofs.lemmas.Bool.Decides.{nat_tests}
use Rattle.std.specs.List.{flat_map, list_all}
use Rattle.std.specs.Fmt.{digit_glyph, digits, digits_onto}
use Rattle.race_picture.specs.Xml.{escape, escaped, is_plain}
use Rattle.race_picture.specs.WellFormed.{IsContent, is_text, text, character, both}

pub and_both : (a b : Bool) → a ≡ true → b ≡ true → (a && b) ≡ true
and_both true b h k = k
and_both false b h k = h

pub and_first : (a b : Bool) → (a && b) ≡ true → a ≡ true
and_first true b h = refl
and_first false b h = h

pub and_second : (a b : Bool) → (a && b) ≡ true → b ≡ true
and_second true b h = h
and_second false b h = cc

or_first : (a b : Bool) → a ≡ true → (a || b) ≡ true
or_first true b h = refl
or_first false b h = cc

digit_plain : (b : ℕ) → 48 ≤ b → b ≤ 57 → is_plain b ≡ true
digit_plain b low high = grind (arith, nat_tests)

glyph_plain : (d : ℕ) → d < 10 → is_plain (digit_glyph false d) ≡ true
glyph_plain d h = grind (arith, nat_tests)

digits_plain : (k n : ℕ) (behind : List ℕ) → list_all is_plain behind ≡ true → list_all is_plain (digits_onto k 10 false n behind) ≡ true
digits_plain zero n behind h = h
digits_plain (suc k) n behind h =
    let glyph : is_plain (digit_glyph false (n % 10)) ≡ true = glyph_plain (n % 10) (omega arith) in
    let more : list_all is_plain (digit_glyph false (n % 10) ∷ behind) ≡ true = and_both _ _ glyph h in
    elim (n / 10 == 0) as (λ c. list_all is_plain (if c then digit_glyph false (n % 10) ∷ behind else digits_onto k 10 false (n / 10) (digit_glyph false (n % 10) ∷ behind)) ≡ true) [
      | true ↦ more
      | false ↦ digits_plain k (n / 10) (digit_glyph false (n % 10) ∷ behind) more
    ]

-- the digits of a number are plain
pub decimal_plain : (n : ℕ) → list_all is_plain (decimal n) ≡ true
unfolding digits
decimal_plain n = digits_plain 64 n [] refl

pub append_plain : (a b : List ℕ) → list_all is_plain a ≡ true → list_all is_plain b ≡ true → list_all is_plain (a ++ b) ≡ true
append_plain [] b h k = k
append_plain (x ∷ a) b h k =
    and_both (is_plain x) (list_all is_plain (a ++ b)) (and_first (is_plain x) (list_all is_plain a) h)
    (append_plain a b (and_second (is_plain x) (list_all is_plain a) h) k)

plain_text : (t : List ℕ) → list_all is_plain t ≡ true → list_all is_text t ≡ true
plain_text [] h = refl
plain_text (x ∷ t) h =
    and_both (is_text x) (list_all is_text t) (or_first (is_plain x) (x == 10) (and_first (is_plain x) (list_all is_plain t) h))
    (plain_text t (and_second (is_plain x) (list_all is_plain t) h))

pub plain_content : (t : List ℕ) → list_all is_plain t ≡ true → IsContent t
plain_content t h = text t (plain_text t h)

pub decimal_content : (n : ℕ) → IsContent (decimal n)
decimal_content n = plain_content (decimal n) (decimal_plain n)

-- what stands where one of two things does
pub either : (c : Bool) (x y : List ℕ) → (c ≡ true → IsContent x) → (c ≡ false → IsContent y) → IsContent (if c then x else y)
either true x y f g = f refl
either false x y f g = g refl

escape_content : (b : ℕ) → IsContent (escape b)
escape_content b =
    either (is_plain b) _ _ (λ h. plain_content (b ∷ []) (and_both _ _ h refl))
    (λ _. either _ _ _ (λ h. character b h) (λ _. text (codes "?") refl))

pub each_content : {A : Type 0} (f : A → List ℕ) (xs : List A) → ((x : A) → IsContent (f x)) → IsContent (flat_map f xs)
each_content f [] h = text [] refl
each_content f (x ∷ xs) h = both (h x) (each_content f xs h)

pub escaped_content : (t : List ℕ) → IsContent (escaped t)
escaped_content t = each_content escape t escape_content
