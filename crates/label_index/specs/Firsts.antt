-- What an index keeps of its labels: our own. No public contract cites this file; the view and the invariant of
-- `LabelIndex` do.
use Rattle.std.specs.Prelude.{◌≡◌, ℕ, Bool, ◌&&◌, nat_eq, List, [], ◌∷◌, ◌++◌, length, not, is_some}
use Rattle.std.specs.HashMap.{HashMap, get}
use Rattle.flat_list.specs.declared.command.LabelKey.{LabelKey}
use Rattle.flat_list.specs.Labels.{IsLabel, key_of}
use Rattle.label_index.specs.declared.index.Firsts.{Firsts}
use Rattle.label_index.specs.declared.index.Firsts.TheVariants as firsts
use Rattle.label_index.specs.declared.index.Log.{Log, Empty, After'}
use Rattle.label_index.specs.declared.seed.LabelSeed.{LabelSeed}
use Rattle.label_index.specs.Numbers.{labels_to}
use Rattle.label_index.specs.Places.{place_in}

-- the labels of a log, oldest first
abbrev pub labels_in : Log → List (List ℕ)
labels_in Empty = []
labels_in (After' label shape before) = labels_in before ++ label ∷ []

-- two keys are one
abbrev pub key_eq : LabelKey → LabelKey → Bool
key_eq a b = nat_eq a.high b.high && (nat_eq a.low b.low && nat_eq a.length b.length)

-- the map gives for each label, by its key, the place where it was given first
abbrev pub TellsPlaces : HashMap LabelKey ℕ LabelSeed → List (List ℕ) → Type 0
TellsPlaces firsts labels =
    (label : List ℕ) → IsLabel label → get key_eq firsts (key_of label) ≡ place_in labels label

-- and so does what an index keeps: a map, or nothing where the labels are numbers
abbrev pub Tell : Firsts → List (List ℕ) → Type 0
Tell (firsts.Hashed places) labels = TellsPlaces places labels
Tell firsts.Numbered labels = labels ≡ labels_to (length labels)

-- the map has one label more
abbrev pub NotesPlace : HashMap LabelKey ℕ LabelSeed → List ℕ → ℕ → HashMap LabelKey ℕ LabelSeed → Type 0
NotesPlace old label place new =
    (labels : List (List ℕ)) → length labels ≡ place → TellsPlaces old labels → TellsPlaces new (labels ++ label ∷ [])

-- whether a label is new is what the map says
abbrev pub TellsNew : HashMap LabelKey ℕ LabelSeed → List ℕ → Bool → Type 0
TellsNew firsts label new =
    (labels : List (List ℕ)) → TellsPlaces firsts labels → new ≡ not (is_some (place_in labels label))

-- the label is given behind those that were there, and it is told whether it is new
pub record Note (old : Firsts) (label : List ℕ) (place : ℕ) (new : Firsts) (told : Bool) : Type 0 where
  pub noted : (labels : List (List ℕ)) → length labels ≡ place → Tell old labels → Tell new (labels ++ label ∷ [])
  pub tells : (labels : List (List ℕ)) → length labels ≡ place → Tell old labels → told ≡ not (is_some (place_in labels label))

-- the places are told as they were
abbrev pub Stay : Firsts → Firsts → Type 0
Stay old new = (labels : List (List ℕ)) → Tell old labels → Tell new labels

-- what is kept and the count are those of the labels
pub record AreFirsts (firsts : Firsts) (count : ℕ) (labels : List (List ℕ)) : Type 0 where
  pub tells : Tell firsts labels
  pub count_is : count ≡ length labels
