-- A word is one name at most.
use Rattle.std.proofs.Common.{◌≡◌, ℕ, ◌<◌, ◌^◌, List, ◌∷◌, ◌++◌, codes, decimal, sym, ◌∙◌, arith, lit≤, append_assoc}
use Rattle.std.proofs.lemmas.Fmt.{decimal_injective}
use Rattle.inet_io.proofs.Cuts.{decimal_lacks, one_cut}
use Rattle.record_reader.specs.declared.line.Name.{Name}
use Rattle.record_reader.specs.Names.{NameFits, label_of, name_of, name_text}

-- the text cut at its dot
pub name_text-cut : (name : Name) → name_text name ≡ decimal name.section ++ 46 ∷ label_of name
unfolding name_text
name_text-cut name = append_assoc (decimal name.section) (codes ".") (label_of name)

-- what stands before and behind the dot
pub name_parts : (section : ℕ) (label : List ℕ) (name : Name) → section < 2 ^ 64 → NameFits name → decimal section ++ 46 ∷ label ≡ name_text name → (section ≡ name.section) × (label ≡ label_of name)
name_parts section label name fits f e =
    let cut = one_cut 46 _ _ _ _ (decimal_lacks 46 section (lit≤ tt) fits) (decimal_lacks 46 name.section (lit≤ tt) (omega (arith, f.section.1))) (e ∙ name_text-cut name) in
    (decimal_injective section name.section fits (omega (arith, f.section.1)) cut.0, cut.1)

-- names that are spelled alike are one
pub one_name : (a b : Name) → NameFits a → NameFits b → name_text a ≡ name_text b → a ≡ b
one_name a b fa fb e =
    let parts = name_parts a.section (label_of a) b (omega (arith, fa.section.1)) fb (sym (name_text-cut a) ∙ e) in
    fa.numbers ∙ (λ i. name_of (parts.0 i) (parts.1 i)) ∙ sym fb.numbers
