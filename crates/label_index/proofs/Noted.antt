-- What an index keeps of its labels, with one label more.
use Rattle.std.proofs.Common.{◌≡◌, ℕ, suc, ◌+◌, ◌<◌, ◌^◌, List, [], ◌∷◌, ◌++◌, length, Bool, true, not, is_some, sym, ap, ◌∙◌, arith}
use Rattle.std.specs.HashMap.{HashMap, get}
use Rattle.flat_calls.specs.Numbers.{label_of, number_of}
use Rattle.flat_list.specs.declared.command.LabelKey.{LabelKey}
use Rattle.label_index.specs.declared.index.Firsts.TheVariants as firsts
use Rattle.label_index.specs.declared.seed.LabelSeed.{LabelSeed}
use Rattle.label_index.specs.Numbers.{labels_to}
use Rattle.label_index.specs.Places.{place_in}
use Rattle.label_index.specs.Firsts.{Note, NotesPlace, Stay, TellsNew, key_eq}
use Rattle.label_index.proofs.Numbers.{length_push, no_place}

pub hashed : (old new : HashMap LabelKey ℕ LabelSeed) (label : List ℕ) (place : ℕ) (told : Bool) → NotesPlace old label place new → TellsNew old label told
    → Note (firsts.Hashed old) label place (firsts.Hashed new) told
hashed old new label place told noted tells = record { noted = noted; tells = λ labels count all. tells labels all }

pub hashed_stay : (old new : HashMap LabelKey ℕ LabelSeed) → ((key : LabelKey) → get key_eq new key ≡ get key_eq old key) → Stay (firsts.Hashed old) (firsts.Hashed new)
hashed_stay old new same labels all label is = same _ ∙ all label is

pub numbered : (label : List ℕ) (place : ℕ) → place < 2 ^ 64 → label ≡ label_of (place + 1) → number_of label ≡ place + 1 → Note firsts.Numbered label place firsts.Numbered true
numbered label place few is number = record {
  noted = λ labels count all.
      let last : label ≡ label_of (suc (length labels)) = is ∙ ap label_of (let z : place + 1 ≡ suc (length labels) = omega (arith, count) in z) in
      (λ i. all i ++ last i ∷ []) ∙ sym (ap labels_to (length_push labels label));
  tells = λ labels count all.
      sym (ap (λ o. not (is_some o)) (ap (λ ls. place_in ls label) all ∙ no_place (length labels) label (omega (arith, few, count)) (λ a b. omega (arith, b, number, count))));
}
