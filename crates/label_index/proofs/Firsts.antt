-- The map of the first places, with one label more.
use Rattle.std.proofs.Common.{◌≡◌, ℕ, List, Option, Some, None, Bool, true, false, cond, ◌&&◌, nat_eq, bytes_eq, not, is_some, refl, sym, ap, ◌∙◌}
use Rattle.std.specs.HashMap.{HashMap, get, Updates}
use Rattle.std.proofs.lemmas.Bool.{eqb-true, eq-eqb}
use Rattle.std.proofs.lemmas.Slice.Eq.{bytes_eq-Decides}
use Rattle.flat_list.specs.declared.command.LabelKey.{LabelKey}
use Rattle.flat_list.specs.Labels.{IsLabel, key_of, text_of}
use Rattle.label_index.specs.declared.seed.LabelSeed.{LabelSeed}
use Rattle.label_index.specs.Places.{place_in}
use Rattle.label_index.specs.Firsts.{NotesPlace, TellsNew, key_eq}
use Rattle.label_index.proofs.Places.{given_new, given_again}

-- two keys are one exactly where their labels are

all_equal : (a b c : Bool) → (a && (b && c)) ≡ true → (a ≡ true) × (b ≡ true) × (c ≡ true)
all_equal true true true h = (refl, refl, refl)
all_equal true true false h = absurd (cc)
all_equal true false c h = absurd (cc)
all_equal false b c h = absurd (cc)

same_key : (a b : LabelKey) → key_eq a b ≡ true → a ≡ b
same_key a b h =
    let each = all_equal (nat_eq a.high b.high) (nat_eq a.low b.low) (nat_eq a.length b.length) h in
    let high = eqb-true a.high b.high each.0 in
    let low = eqb-true a.low b.low each.1 in
    let long = eqb-true a.length b.length each.2 in
    λ i. record { high = high i; low = low i; length = long i }

key_itself : (a : LabelKey) → key_eq a a ≡ true
key_itself a = rw (eq-eqb a.high a.high refl, eq-eqb a.low a.low refl, eq-eqb a.length a.length refl) refl

compared_by : (label text : List ℕ) (b k : Bool) → bytes_eq label text ≡ b → key_eq (key_of label) (key_of text) ≡ k → IsLabel label → IsLabel text → k ≡ b
compared_by label text true k e f l m =
    sym f ∙ (ap (λ t. key_eq (key_of label) (key_of t)) (sym ((bytes_eq-Decides label text).0 e)) ∙ key_itself (key_of label))
compared_by label text false false e f l m = refl
compared_by label text false true e f l m =
    let is : bytes_eq label text ≡ true = (bytes_eq-Decides label text).1 (sym l ∙ ap text_of (same_key (key_of label) (key_of text) f) ∙ m) in
    absurd (cc)

compared : (label text : List ℕ) → IsLabel label → IsLabel text → key_eq (key_of label) (key_of text) ≡ bytes_eq label text
compared label text l m = compared_by label text (bytes_eq label text) (key_eq (key_of label) (key_of text)) refl refl l m

abbrev Firsts : Type 0
Firsts = HashMap LabelKey ℕ LabelSeed

-- what the map has at a label's key, once it has something at another's
put_at : (old new : Firsts) (v : LabelKey) (o : Option ℕ) (label text : List ℕ) → v ≡ key_of label → IsLabel label → IsLabel text → Updates key_eq old new v o
    → get key_eq new (key_of text) ≡ cond (bytes_eq label text) o (get key_eq old (key_of text))
put_at old new v o label text is l m puts =
    puts.0 (key_of text)
    ∙ ap (λ (b : Bool). cond b o (get key_eq old (key_of text))) (ap (λ k. key_eq k (key_of text)) is ∙ compared label text l m)

-- a label that is new, with its place
pub noted : (old new : Firsts) (label : List ℕ) (place : ℕ) (v : LabelKey) → v ≡ key_of label → IsLabel label → get key_eq old v ≡ None
    → Updates key_eq old new v (Some place) → NotesPlace old label place new
noted old new label place v is l absent puts labels count tells text m =
    let nowhere : place_in labels label ≡ None = sym (tells label l) ∙ ap (get key_eq old) (sym is) ∙ absent in
    put_at old new v (Some place) label text is l m puts
    ∙ ap (λ (o : Option ℕ). cond (bytes_eq label text) (Some place) o) (tells text m)
    ∙ ap (λ (n : ℕ). cond (bytes_eq label text) (Some n) (place_in labels text)) (sym count)
    ∙ sym (given_new labels label text (bytes_eq label text) refl nowhere)

twice : (b : Bool) (o p q : Option ℕ) → cond b o (cond b p q) ≡ cond b o q
twice true o p q = refl
twice false o p q = refl

-- one that was given before, with the place that it had put back
pub noted_again : (old between new : Firsts) (label : List ℕ) (place i : ℕ) (v : LabelKey) → v ≡ key_of label → IsLabel label → get key_eq old v ≡ Some i
    → Updates key_eq old between v (Some place) → Updates key_eq between new v (Some i) → NotesPlace old label place new
noted_again old between new label place i v is l at puts back labels count tells text m =
    let there : place_in labels label ≡ Some i = sym (tells label l) ∙ ap (get key_eq old) (sym is) ∙ at in
    put_at between new v (Some i) label text is l m back
    ∙ ap (λ (o : Option ℕ). cond (bytes_eq label text) (Some i) o) (put_at old between v (Some place) label text is l m puts)
    ∙ twice (bytes_eq label text) (Some i) (Some place) (get key_eq old (key_of text))
    ∙ ap (λ (o : Option ℕ). cond (bytes_eq label text) (Some i) o) (tells text m)
    ∙ sym (given_again labels label text i (bytes_eq label text) refl there)

-- what the map has at a label's key shows whether the label is new
pub told_new : (map : Firsts) (label : List ℕ) (v : LabelKey) (o : Option ℕ) → v ≡ key_of label → IsLabel label → o ≡ get key_eq map v
    → TellsNew map label (not (is_some o))
told_new map label v o is l at labels tells =
    ap (λ (p : Option ℕ). not (is_some p)) (at ∙ ap (get key_eq map) is ∙ tells label l)
