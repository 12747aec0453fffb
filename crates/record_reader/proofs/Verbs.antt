-- A line's first word determines its kind.
use Rattle.std.proofs.Common.{◌≡◌, ℕ, List, ◌∷◌, Option, Some, None, codes, refl, sym, subst, ap, arith, IfNone}
use Rattle.chain_book.specs.declared.shape.Shape.{Shape}
use Rattle.record_reader.specs.declared.line.ItemLine.{ItemLine}
use Rattle.record_reader.specs.declared.line.LifeLine.{LifeLine}
use Rattle.record_reader.specs.declared.line.Line.{Line}
use Rattle.record_reader.specs.declared.line.Line.TheVariants as lines
use Rattle.record_reader.specs.Forms.{HasForm, line_words}
use Rattle.record_reader.proofs.Heads.{head_word, all_digits, heads_apart}

-- what follows from what is asked where there is no value
pub none_to : {T P Q : Type 0} (r : Option T) → IfNone r P → (P → Q) → IfNone r Q
none_to None h f = f h
none_to (Some x) h f = tt

life_by : (ws : List (List ℕ)) → ((l : LifeLine) → HasForm (codes "life" ∷ ws) (lines.Life l) → ⊥) → (k : Line) → HasForm (codes "life" ∷ ws) k → ⊥
life_by ws none (lines.Life l) h = none l h
life_by ws none (lines.Reply vain) h =
    let digits = all_digits h.section (codes "life") (omega (arith, h.in_range.1)) (sym (ap head_word h.spelled)) in absurd (omega (arith, digits.0))
life_by ws none k h = heads_apart (codes "life" ∷ ws) (line_words k) h.0 refl

packet_by : (ws : List (List ℕ)) → ((n : ℕ) (i : ItemLine) → HasForm (codes "packet" ∷ ws) (lines.Packet n i) → ⊥) → (k : Line) → HasForm (codes "packet" ∷ ws) k → ⊥
packet_by ws none (lines.Packet n i) h = none n i h
packet_by ws none (lines.Reply vain) h =
    let digits = all_digits h.section (codes "packet") (omega (arith, h.in_range.1)) (sym (ap head_word h.spelled)) in absurd (omega (arith, digits.0))
packet_by ws none k h = heads_apart (codes "packet" ∷ ws) (line_words k) h.0 refl

race_by : (ws : List (List ℕ)) → ((m n : ℕ) → HasForm (codes "race" ∷ ws) (lines.Race m n) → ⊥) → (k : Line) → HasForm (codes "race" ∷ ws) k → ⊥
race_by ws none (lines.Race m n) h = none m n h
race_by ws none (lines.Reply vain) h =
    let digits = all_digits h.section (codes "race") (omega (arith, h.in_range.1)) (sym (ap head_word h.spelled)) in absurd (omega (arith, digits.0))
race_by ws none k h = heads_apart (codes "race" ∷ ws) (line_words k) h.0 refl

shape_by : (ws : List (List ℕ)) → ((s : Shape) (n : ℕ) → HasForm (codes "shape" ∷ ws) (lines.Shape s n) → ⊥) → (k : Line) → HasForm (codes "shape" ∷ ws) k → ⊥
shape_by ws none (lines.Shape s n) h = none s n h
shape_by ws none (lines.Reply vain) h =
    let digits = all_digits h.section (codes "shape") (omega (arith, h.in_range.1)) (sym (ap head_word h.spelled)) in absurd (omega (arith, digits.0))
shape_by ws none k h = heads_apart (codes "shape" ∷ ws) (line_words k) h.0 refl

journal_by : (ws : List (List ℕ)) → ((m n : ℕ) → HasForm (codes "journal" ∷ ws) (lines.Journal m n) → ⊥) → (k : Line) → HasForm (codes "journal" ∷ ws) k → ⊥
journal_by ws none (lines.Journal m n) h = none m n h
journal_by ws none (lines.Reply vain) h =
    let digits = all_digits h.section (codes "journal") (omega (arith, h.in_range.1)) (sym (ap head_word h.spelled)) in absurd (omega (arith, digits.0))
journal_by ws none k h = heads_apart (codes "journal" ∷ ws) (line_words k) h.0 refl

clock_by : (ws : List (List ℕ)) → ((n : ℕ) → HasForm (codes "clock" ∷ ws) (lines.Clock n) → ⊥) → (k : Line) → HasForm (codes "clock" ∷ ws) k → ⊥
clock_by ws none (lines.Clock n) h = none n h
clock_by ws none (lines.Reply vain) h =
    let digits = all_digits h.section (codes "clock") (omega (arith, h.in_range.1)) (sym (ap head_word h.spelled)) in absurd (omega (arith, digits.0))
clock_by ws none k h = heads_apart (codes "clock" ∷ ws) (line_words k) h.0 refl

-- the words are those behind that verb
module _ (words ws : List (List ℕ)) where
  pub life_alone : words ≡ codes "life" ∷ ws → ((l : LifeLine) → HasForm (codes "life" ∷ ws) (lines.Life l) → ⊥) → (k : Line) → HasForm words k → ⊥
  life_alone e none k h = life_by ws none k (subst (λ t. HasForm t k) e h)

  pub packet_alone : words ≡ codes "packet" ∷ ws → ((n : ℕ) (i : ItemLine) → HasForm (codes "packet" ∷ ws) (lines.Packet n i) → ⊥) → (k : Line) → HasForm words k → ⊥
  packet_alone e none k h = packet_by ws none k (subst (λ t. HasForm t k) e h)

  pub race_alone : words ≡ codes "race" ∷ ws → ((m n : ℕ) → HasForm (codes "race" ∷ ws) (lines.Race m n) → ⊥) → (k : Line) → HasForm words k → ⊥
  race_alone e none k h = race_by ws none k (subst (λ t. HasForm t k) e h)

  pub shape_alone : words ≡ codes "shape" ∷ ws → ((s : Shape) (n : ℕ) → HasForm (codes "shape" ∷ ws) (lines.Shape s n) → ⊥) → (k : Line) → HasForm words k → ⊥
  shape_alone e none k h = shape_by ws none k (subst (λ t. HasForm t k) e h)

  pub journal_alone : words ≡ codes "journal" ∷ ws → ((m n : ℕ) → HasForm (codes "journal" ∷ ws) (lines.Journal m n) → ⊥) → (k : Line) → HasForm words k → ⊥
  journal_alone e none k h = journal_by ws none k (subst (λ t. HasForm t k) e h)

  pub clock_alone : words ≡ codes "clock" ∷ ws → ((n : ℕ) → HasForm (codes "clock" ∷ ws) (lines.Clock n) → ⊥) → (k : Line) → HasForm words k → ⊥
  clock_alone e none k h = clock_by ws none k (subst (λ t. HasForm t k) e h)
