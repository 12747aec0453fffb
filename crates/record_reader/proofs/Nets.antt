-- Words that are there for a network namespace other than 0.
use Rattle.std.proofs.Common.{◌≡◌, ◌≢◌, ℕ, ◌<◌, List, [], ◌∷◌, ◌++◌, true, false, ◌==◌, cond, Some, slice_get, codes, decimal, sym, ap, ◌∙◌, arith, ◌⊎◌, inl, inr}
use Rattle.std.proofs.lemmas.Bool.{eqb-true, cases_Bool}
use Rattle.std.proofs.lemmas.Fmt.{decimal_injective}
use Rattle.record_reader.specs.Forms.{net_words}

-- the first word isn't `net`
abbrev pub LacksNet : List (List ℕ) → Type 0
LacksNet words = slice_get words 0 ≢ Some (codes "net")

pub none_named : (net : ℕ) → (net == 0) ≡ true → net_words net ≡ []
none_named net e = ap (λ b. cond b [] (codes "net" ∷ decimal net ∷ [])) e

pub one_named : (net : ℕ) → (net == 0) ≡ false → net_words net ≡ codes "net" ∷ decimal net ∷ []
one_named net e = ap (λ b. cond b [] (codes "net" ∷ decimal net ∷ [])) e

named_first : (net : ℕ) (rest words : List (List ℕ)) → codes "net" ∷ decimal net ∷ rest ≡ words → LacksNet words → ⊥
named_first net rest words e lacks = lacks (sym (ap (λ ws. slice_get ws 0) e))

next_two : (m n : ℕ) (xs ys : List (List ℕ)) → codes "net" ∷ decimal m ∷ xs ≡ codes "net" ∷ decimal n ∷ ys → (decimal m ≡ decimal n) × (xs ≡ ys)
next_two m n xs ys e = (cc, cc)

net_cases : (a b : ℕ) (xs ys : List (List ℕ)) → a < 16 → b < 16 → LacksNet xs → LacksNet ys → net_words a ++ xs ≡ net_words b ++ ys
    → ((a == 0) ≡ true) ⊎ ((a == 0) ≡ false) → ((b == 0) ≡ true) ⊎ ((b == 0) ≡ false) → (a ≡ b) × (xs ≡ ys)
net_cases a b xs ys fa fb la lb e (inl s) (inl t) =
    (eqb-true a 0 s ∙ sym (eqb-true b 0 t), sym (ap (λ ws. ws ++ xs) (none_named a s)) ∙ e ∙ ap (λ ws. ws ++ ys) (none_named b t))
net_cases a b xs ys fa fb la lb e (inl s) (inr t) =
    absurd (named_first b ys xs (sym (ap (λ ws. ws ++ ys) (one_named b t)) ∙ sym e ∙ ap (λ ws. ws ++ xs) (none_named a s)) la)
net_cases a b xs ys fa fb la lb e (inr s) (inl t) =
    absurd (named_first a xs ys (sym (ap (λ ws. ws ++ xs) (one_named a s)) ∙ e ∙ ap (λ ws. ws ++ ys) (none_named b t)) lb)
net_cases a b xs ys fa fb la lb e (inr s) (inr t) =
    let same = next_two a b xs ys (sym (ap (λ ws. ws ++ xs) (one_named a s)) ∙ e ∙ ap (λ ws. ws ++ ys) (one_named b t)) in
    (decimal_injective a b (omega arith) (omega arith) same.0, same.1)

-- words show whether a namespace is named, and which
pub net_told : (a b : ℕ) (xs ys : List (List ℕ)) → a < 16 → b < 16 → LacksNet xs → LacksNet ys → net_words a ++ xs ≡ net_words b ++ ys → (a ≡ b) × (xs ≡ ys)
net_told a b xs ys fa fb la lb e = net_cases a b xs ys fa fb la lb e (cases_Bool (a == 0)) (cases_Bool (b == 0))
