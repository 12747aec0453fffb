-- A name's text cut at its dot.
use Rattle.std.proofs.Common.{◌≡◌, ℕ, ◌+◌, ◌≤◌, List, ◌∷◌, ◌++◌, take, drop, decimal, arith, subst, sym, ap, ◌∙◌, Some, None, position, lit≤, IsTrue}
use Rattle.inet_io.proofs.Cuts.{decimal_lacks, one_cut, cut_at, is_found, is_byte}
use Rattle.record_reader.specs.declared.line.Name.{Name}
use Rattle.inet_io.specs.Labels.{is_label}
use Rattle.record_reader.specs.Names.{NameFits, label_of, name_of, name_text}
use Rattle.record_reader.proofs.OneName.{name_text-cut}

-- what stands before and behind the dot of a name
pub name-is_cut : (word : List ℕ) (name : Name) (i : ℕ) → NameFits name → word ≡ name_text name → position (is_byte 46) word ≡ Some i → (take i word ≡ decimal name.section) × (drop (i + 1) word ≡ label_of name)
name-is_cut word name i fits e place =
    let cut = cut_at 46 i word place in
    one_cut 46 _ _ _ _ cut.1 (decimal_lacks 46 name.section (lit≤ tt) (omega (arith, fits.section.1))) (sym cut.0 ∙ e ∙ name_text-cut name)

-- a name has a dot
pub name-has_dot : (word : List ℕ) (name : Name) → word ≡ name_text name → position (is_byte 46) word ≡ None → ⊥
name-has_dot word name e none =
    is_found 46 (decimal name.section) (label_of name) (subst (λ t. position (is_byte 46) t ≡ None) (e ∙ name_text-cut name) none)

-- a section before the dot and a label behind it make a name
pub name-from_cut : (word label : List ℕ) (section i : ℕ) (name : Name) → position (is_byte 46) word ≡ Some i → take i word ≡ decimal section → label ≡ drop (i + 1) word
    → name ≡ name_of section label → label_of name ≡ label → name.section ≡ section → word ≡ name_text name
name-from_cut word label section i name place front is named told same =
    let cut = cut_at 46 i word place in
    cut.0 ∙ ap (λ f. f ++ 46 ∷ drop (i + 1) word) (front ∙ ap decimal (sym same)) ∙ ap (λ b. decimal name.section ++ 46 ∷ b) (sym is ∙ sym told) ∙ sym (name_text-cut name)

pub name-fits : (label : List ℕ) (section : ℕ) (name : Name) → 1 ≤ section → section ≤ 64 → IsTrue (is_label label) → name ≡ name_of section label → label_of name ≡ label → name.section ≡ section → NameFits name
name-fits label section name low high is named told same = record {
  section = (omega arith, omega arith);
  label = subst (λ t. IsTrue (is_label t)) (sym told) is;
  numbers = named ∙ λ i. name_of (sym same i) (sym told i);
}

pub section_named : (section : ℕ) (label : List ℕ) (name : Name) → name ≡ name_of section label → name.section ≡ section
unfolding name_of
section_named section label name e = ap (λ (n : Name). n.section) e
