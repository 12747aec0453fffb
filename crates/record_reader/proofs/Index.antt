-- The index of names, with one name more.
use Rattle.std.proofs.Common.{◌≡◌, ℕ, ◌+◌, List, [], ◌∷◌, ◌++◌, length, Option, Some, None, Bool, true, false, cond, refl, sym, ap, ◌∙◌}
use Rattle.std.specs.Ordering.{is_eq, match_ordering}
use Rattle.std.specs.Cmp.{Equal-is}
use Rattle.std.specs.declared.cmp.Ordering.{Ordering}
use Rattle.std.specs.declared.cmp.Ordering.TheVariants as orderings
use Rattle.std.specs.BTreeMap.{BTreeMap, insert_entry, get_by}
use Rattle.std.specs.Map.{lookup}
use Rattle.list_words.proofs.Positions.{pushed_new, pushed_other, pushed_again}
use Rattle.record_reader.specs.declared.line.Name.{Name}
use Rattle.record_reader.specs.Names.{place_in, same_name}
use Rattle.record_reader.specs.Numbers.{NotesPlace, name_cmp}
use Rattle.record_reader.proofs.Keys.{compared, same_key, same_told}

-- a key is that name
abbrev has_name : Name → Name → Bool
has_name name x = is_eq (name_cmp name x)

abbrev Entry : Type 0
Entry = Name × ℕ

-- an entry more, by where its key stands against the first
module _ (name : Name) (v : Name) (k : ℕ) where
  abbrev later_as : Option ℕ → Option ℕ
  later_as o = cond (has_name name v) (Some k) o

  twice : (b : Bool) (i : ℕ) (o : Option ℕ) → cond b (Some k) o ≡ cond b (Some k) (cond b (Some i) o)
  twice true i o = refl
  twice false i o = refl

  apart : (b c : Bool) (i : ℕ) (o : Option ℕ) → (b ≡ true → c ≡ false) → cond c (Some i) (cond b (Some k) o) ≡ cond b (Some k) (cond c (Some i) o)
  apart true true i o h = let q : true ≡ false = h refl in absurd (cc)
  apart true false i o h = refl
  apart false c i o h = refl

  placed : (x : Name) (i : ℕ) (es more : List Entry) (o : Ordering) → name_cmp v x ≡ o
      → lookup (has_name name) more ≡ later_as (lookup (has_name name) es)
      → lookup (has_name name) (match_ordering o ((v, k) ∷ (x, i) ∷ es) ((x, k) ∷ es) ((x, i) ∷ more)) ≡ later_as (lookup (has_name name) ((x, i) ∷ es))
  placed x i es more orderings.Less e h = refl
  placed x i es more orderings.Equal e h =
      let keys : has_name name x ≡ has_name name v = ap (has_name name) (sym (same_key v x e)) in
      ap (λ (b : Bool). cond b (Some k) (lookup (has_name name) es)) keys
      ∙ twice (has_name name v) i (lookup (has_name name) es)
      ∙ ap (λ (b : Bool). cond (has_name name v) (Some k) (cond b (Some i) (lookup (has_name name) es))) (sym keys)
  placed x i es more orderings.Greater e h =
      ap (λ (o : Option ℕ). cond (has_name name x) (Some i) o) h
      ∙ apart (has_name name v) (has_name name x) i (lookup (has_name name) es)
      (λ q.
      let same : name ≡ v = same_key name v ((Equal-is (name_cmp name v)).0 q) in
      ap (λ y. is_eq (name_cmp y x)) same ∙ ap is_eq e)

  one_more : (es : List Entry) → lookup (has_name name) (insert_entry name_cmp es v k) ≡ later_as (lookup (has_name name) es)
  one_more [] = refl
  one_more ((x, i) ∷ es) = placed x i es (insert_entry name_cmp es v k) (name_cmp v x) refl (one_more es)

noted_at : (names : List Name) (v name : Name) (b : Bool) → same_name name v ≡ b → place_in names v ≡ None
    → cond b (Some (length names)) (place_in names name) ≡ place_in (names ++ v ∷ []) name
noted_at names v name true e none =
    let same : name ≡ v = same_told name v e in
    sym (pushed_new (same_name name) names v (ap (place_in names) same ∙ none) e)
noted_at names v name false e none = sym (pushed_other (same_name name) names v e)

-- the index has one name more
pub noted : (old new : BTreeMap Name ℕ) (v : Name) (place : ℕ) → get_by (name_cmp v) old ≡ None
    → new.entries ≡ insert_entry name_cmp old.entries v place → NotesPlace old v place new
noted old new v place absent more names count h name =
    let nowhere : place_in names v ≡ None = sym (h v) ∙ absent in
    ap (lookup (has_name name)) more ∙ one_more name v place old.entries
    ∙ ap (λ (b : Bool). cond b (Some place) (lookup (has_name name) old.entries)) (compared name v)
    ∙ ap (λ (o : Option ℕ). cond (same_name name v) (Some place) o) (h name)
    ∙ ap (λ (n : ℕ). cond (same_name name v) (Some n) (place_in names name)) (sym count)
    ∙ noted_at names v name (same_name name v) refl nowhere

again_at : (names : List Name) (v name : Name) (i : ℕ) (b : Bool) → same_name name v ≡ b → place_in names v ≡ Some i
    → place_in (names ++ v ∷ []) name ≡ place_in names name
again_at names v name i true e at = pushed_again (same_name name) names v i (ap (place_in names) (same_told name v e) ∙ at)
again_at names v name i false e at = pushed_other (same_name name) names v e

-- a name that stood before keeps its first place
pub noted_again : (old : BTreeMap Name ℕ) (v : Name) (place i : ℕ) → get_by (name_cmp v) old ≡ Some i → NotesPlace old v place old
noted_again old v place i at names count h name =
    h name ∙ sym (again_at names v name i (same_name name v) refl (sym (h v) ∙ at))
