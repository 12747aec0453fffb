-- The names of one line more.
use Rattle.std.proofs.Common.{◌≡◌, ℕ, ◌+◌, ◌<◌, List, [], ◌∷◌, ◌++◌, length, take, Option, Some, None, sym, ap, subst, ◌∙◌, refl}
use Rattle.std.specs.Option.{option_to_list}
use Rattle.std.specs.List.{cons_option}
use Rattle.std.specs.BTreeMap.{BTreeMap}
use Rattle.std.proofs.lemmas.List.{take_more}
use Rattle.std.proofs.lemmas.List.Elements.{filter_map-append}
use Rattle.record_reader.specs.declared.line.Name.{Name}
use Rattle.record_reader.specs.declared.line.Line.{Line}
use Rattle.record_reader.specs.Told.{name_in, names_of}
use Rattle.record_reader.specs.Numbers.{IsIndexOf, NotesLine}
use Rattle.std.proofs.Common.{get_or}

one_name_list : (o : Option Name) (line : Line) → name_in line ≡ o → names_of (line ∷ []) ≡ option_to_list o
one_name_list None line e = ap (λ (o : Option Name). cons_option o []) e
one_name_list (Some n) line e = ap (λ (o : Option Name). cons_option o []) e

names_more : (all : List Line) (i : ℕ) (d : Line) → i < length all → names_of (take (i + 1) all) ≡ names_of (take i all) ++ option_to_list (name_in (get_or all i d))
names_more all i d h =
    ap names_of (take_more all i d h) ∙ filter_map-append name_in (take i all) (get_or all i d ∷ [])
    ∙ ap (λ ns. names_of (take i all) ++ ns) (one_name_list (name_in (get_or all i d)) (get_or all i d) refl)

-- the index with the names of the lines up to the next
pub indexed : (all : List Line) (i place next : ℕ) (d : Line) (old new : BTreeMap Name ℕ) → i < length all
    → (length (names_of (take i all)) ≡ place) × IsIndexOf old (names_of (take i all)) → NotesLine old (get_or all i d) place new next
    → (length (names_of (take (i + 1) all)) ≡ next) × IsIndexOf new (names_of (take (i + 1) all))
indexed all i place next d old new h so notes =
    let more = names_more all i d h in
    let after = notes (names_of (take i all)) so.0 so.1 in
    (ap length more ∙ after.0, subst (IsIndexOf new) (sym more) after.1)
