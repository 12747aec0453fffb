-- What the last pass learns of the buckets.
use Rattle.std.proofs.Common.{◌≡◌, ℕ, ◌+◌, List, [], ◌∷◌, length, map, Result, Ok, Err, IfOk, refl, sym, subst, ◌∙◌, arith, ap}
use Rattle.std.proofs.lemmas.List.{length-map}
use Rattle.std.specs.Global.{Box}
use Rattle.list_words.specs.Lists.{total, SameItems}
use Rattle.list_words.proofs.TotalLemmas.{total-append, total-ones}
use Rattle.turn_table.specs.Values.{AllFit, all_placed}
use Rattle.turn_table.specs.Journals.{placed}
use Rattle.turn_table.specs.declared.note.Placed.{Placed}
use Rattle.bind_buckets.specs.declared.request.Entry.{Entry}
use Rattle.bind_buckets.specs.declared.request.Sharing.{Sharing}
use Rattle.bind_buckets.specs.Journal.{IsLegal, replayed}
use Rattle.bind_buckets.specs.Bucket.{Bucket, entries_of}
use Rattle.bind_buckets.specs.Closed.{FitsAt, notes_in, count_in, IsLeft, AreLeft}

one_left : (home : Sharing) (i n : ℕ) (b : Box Bucket) → FitsAt home i n b → IsLeft i n b.value
one_left home i n b fits = record {
  number_is = fits.made.number_is;
  buckets_is = fits.made.buckets_is;
  legal = subst (λ k. IsLegal k (entries_of b.value.journal)) fits.made.number_is fits.replay.legal;
  replay = fits.replay.replay ∙ ap (λ k. replayed k (entries_of b.value.journal)) fits.made.number_is;
  may = fits.may;
}

pub all_left : (home : Sharing) (i n : ℕ) (bs : List (Box Bucket)) → AllFit (FitsAt home) i n bs → AreLeft i n bs
all_left home i n [] fit = tt
all_left home i n (b ∷ bs) fit = (one_left home i n b fit.0, all_left home (i + 1) n bs fit.1)

counted : (i : ℕ) (bs : List (Box Bucket)) → total (λ (x : Placed Entry). 1) (all_placed notes_in i bs) ≡ total count_in bs
counted i [] = refl
counted i (b ∷ bs) =
    total-append (λ (x : Placed Entry). 1) (map (placed i) b.value.journal) (all_placed notes_in (i + 1) bs)
    ∙ (let front = total-ones (map (placed i) b.value.journal) in
    let long = length-map b.value.journal (placed i) in
    let rest = counted (i + 1) bs in
    omega (arith, front, long, rest))

pub all_counted : (given : List (Placed Entry)) (bs : List (Box Bucket)) → SameItems (all_placed notes_in 0 bs) given → total count_in bs ≡ length given
all_counted given bs same = sym (counted 0 bs) ∙ (same (λ x. 1) ∙ total-ones given)

module _ {X E : Type 0} (items : X → List (Box Bucket)) where
  pub left_if : (home : Sharing) (n : ℕ) (r : Result X E) → IfOk r (λ v. (length (items v) ≡ n) × AllFit (FitsAt home) 0 n (items v)) → IfOk r (λ v. AreLeft 0 n (items v))
  left_if home n (Ok v) h = all_left home 0 n (items v) h.1
  left_if home n (Err e) h = tt

  pub counted_if : (given : List (Placed Entry)) (r : Result X E) → IfOk r (λ v. SameItems (all_placed notes_in 0 (items v)) given) → IfOk r (λ v. total count_in (items v) ≡ length given)
  counted_if given (Ok v) h = all_counted given (items v) h
  counted_if given (Err e) h = tt
