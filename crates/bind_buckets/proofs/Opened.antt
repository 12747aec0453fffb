-- A new table of buckets, and its first passes.
use Rattle.std.proofs.Common.{◌≡◌, ℕ, ◌+◌, ◌<◌, ◌≤◌, List, [], ◌∷◌, ◌++◌, length, refl, sym, ap, ◌∙◌, subst, arith}
use Rattle.std.specs.Global.{Box}
use Rattle.turn_table.specs.Views.{first, newcomer}
use Rattle.turn_table.specs.Passes as words
use Rattle.turn_table.specs.Passes.{IsPassOf, IsFree, known}
use Rattle.bind_buckets.specs.declared.request.Sharing.{Sharing}
use Rattle.bind_buckets.specs.declared.request.Sharing.TheVariants as sharings
use Rattle.bind_buckets.specs.Bucket.{Bucket, IsSound, new_bucket}
use Rattle.list_words.specs.Lists.{Each}
use Rattle.bind_buckets.specs.Notes.{Note}
use Rattle.bind_buckets.specs.Callers.{MayMake, MayCall}
use Rattle.bind_buckets.specs.Closed.{AreNew}
use Rattle.bind_buckets.specs.Turned.{Hash, Pass, IsIdle, AreLawful}

sound_new : (number buckets : ℕ) → number < buckets → buckets ≤ 256 → IsSound (new_bucket number buckets)
sound_new number buckets lt few = record {
  number = lt;
  buckets = few;
  legal = tt;
  replay = refl;
  agree = tt;
  keys = tt;
  places = refl;
  members = (omega arith, (omega arith, (omega arith, (omega arith, (omega arith, (omega arith, (omega arith, (omega arith, tt))))))));
}

push_new : (sharing : Sharing) (i n : ℕ) (bs : List (Box Bucket)) (b : Box Bucket) → AreNew sharing i n bs → b.value ≡ new_bucket (i + length bs) n → i + length bs < n → n ≤ 256 → AreNew sharing i n (bs ++ b ∷ [])
push_new sharing i n [] b all is lt few =
    let here : i + 0 ≡ i = omega arith in
    let new : b.value ≡ new_bucket i n = is ∙ ap (λ k. new_bucket k n) here in (
      record {
        made = record { number_is = ap (λ (x : Bucket). x.number) new; buckets_is = ap (λ (x : Bucket). x.buckets) new; callers = subst (λ (x : Bucket). Each (λ (y : Note). MayCall sharing y.caller) x.journal) (sym new) tt };
        replay = subst IsSound (sym new) (sound_new i n (omega (arith, lt)) few);
        may = subst (λ (x : Bucket). Each (λ (y : Note). MayMake y.caller y.entry) x.journal) (sym new) tt;
      },
      ap (λ (x : Bucket). x.journal) new,
      tt,
    )
push_new sharing i n (x ∷ xs) b all is lt few =
    (all.0, all.1, push_new sharing (i + 1) n xs b all.2 (is ∙ ap (λ k. new_bucket k n) (let e : i + length (x ∷ xs) ≡ i + 1 + length xs = omega arith in e)) (omega (arith, lt)) few)

pub news_push : (sharing : Sharing) (n k : ℕ) (bs all : List (Box Bucket)) (b : Box Bucket) → AreNew sharing 0 n bs → length bs ≡ k → k < n → n ≤ 256 → b.value ≡ new_bucket k n → all ≡ bs ++ b ∷ [] → AreNew sharing 0 n all
news_push sharing n k bs all b new len lt few is e =
    let at : k ≡ 0 + length bs = omega (arith, len) in
    subst (AreNew sharing 0 n) (sym e) (push_new sharing 0 n bs b new (is ∙ ap (λ j. new_bucket j n) at) (omega (arith, lt, len)) few)

-- the first pass of buckets that are its own alone
pub idle_first : (t : Hash) (p : Pass) (sharing : Sharing) → IsPassOf t p → IsFree p → known p ≡ first sharing → 1 ≤ words.places t → words.home t ≡ sharing → sharing ≡ sharings.Alone → IsIdle t p
idle_first t p sharing of free is some home alone = record {
  table = of;
  free = free;
  part = let e : words.parts p ≡ 16384 = ap (λ v. v.parts) is in omega arith;
  some = some;
  who = subst (λ h. MayCall h (words.caller p)) (sym (home ∙ alone)) (ap (λ v. v.caller) is);
  knows = λ never. subst (AreLawful (words.places t)) (sym (ap (λ v. v.mine) is)) (λ place near. tt);
}

-- a pass that was split off buckets that are shared
pub idle_split : (t : Hash) (q : Pass) (about : List Sharing) (k seen : ℕ) → IsPassOf t q → IsFree q → known q ≡ newcomer about (k + 1) seen → 1 ≤ words.places t → words.home t ≡ sharings.Shared → IsIdle t q
idle_split t q about k seen of free is some home =
    let caller : words.caller q ≡ k + 1 = ap (λ v. v.caller) is in
    record {
      table = of;
      free = free;
      part = let e : words.parts q ≡ 1 = ap (λ v. v.parts) is in omega arith;
      some = some;
      who = subst (λ h. MayCall h (words.caller q)) (sym home) (λ zero-th. absurd (omega (arith, caller, zero-th)));
      knows = λ alone. absurd (omega (arith, caller, alone.0));
    }
