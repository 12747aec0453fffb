-- What a pass with all parts knows of the others: they have nothing.
use Rattle.std.proofs.Common.{◌≡◌, ℕ, ◌+◌, ◌≢◌, List, length, ap, arith}
use mathlib.Core.Option.{some}
use lib.ListN.{get_elem?}
use Rattle.list_words.specs.Lists.{total}
use Rattle.turn_table.specs.Turning.{SharesOk, EntriesOk, KnowledgeOk}
use Rattle.turn_table.specs.declared.note.Note.{Note}
use Rattle.turn_table.specs.declared.note.Placed.{Placed}
use Rattle.turn_table.specs.declared.view.TurnView.{TurnView}
use Rattle.list_words.proofs.PlaceLemmas.{terms_le, total-alone}
use Rattle.list_words.proofs.TotalLemmas.{total-ones}
use Rattle.turn_table.proofs.Sums.{below-one}

module _ {E H : Type 0} (key : H) (js : ℕ → List (Note E)) (n places : ℕ) (vs : List (TurnView E H)) (id : ℕ) (v : TurnView E H) where
  -- they have no part
  pub others_idle : v.parts ≡ 16384 → get_elem? vs id ≡ some v → SharesOk n vs → (k : ℕ) (u : TurnView E H) → k ≢ id → get_elem? vs k ≡ some u → u.parts ≡ 0
  others_idle all me o k u ne e = omega (arith, terms_le (λ (y : TurnView E H). y.parts) vs id k v u ne me e, o.parts)

  -- what all gave is what it gave
  pub gave_all : v.parts ≡ 16384 → get_elem? vs id ≡ some v → SharesOk n vs → KnowledgeOk key n places js vs → (f : Placed E → ℕ) → total (λ (u : TurnView E H). total f u.mine) vs ≡ total f v.mine
  gave_all all me o k f = total-alone (λ (u : TurnView E H). total f u.mine) vs id v me (λ q u ne e. ap (total f) ((k.knows q u e).idle (others_idle all me o q u ne e)).0)

  -- and so with what was drawn for entries to come
  pub drew_all : v.parts ≡ 16384 → get_elem? vs id ≡ some v → SharesOk n vs → KnowledgeOk key n places js vs → (f : ℕ → ℕ) → total (λ (u : TurnView E H). total f u.drawn) vs ≡ total f v.drawn
  drew_all all me o k f = total-alone (λ (u : TurnView E H). total f u.drawn) vs id v me (λ q u ne e. ap (total f) ((k.knows q u e).loose ((k.knows q u e).idle (others_idle all me o q u ne e)).1).1)

  -- the count is the number of all entries, and of those to come
  pub count_is : v.parts ≡ 16384 → get_elem? vs id ≡ some v → SharesOk n vs → EntriesOk n places js vs → KnowledgeOk key n places js vs → n ≡ length v.mine + length v.drawn
  count_is all me o e k = omega (
    arith,
    e.numbers (λ (x : ℕ). 1),
    e.balance (λ (p : Placed E). 1),
    gave_all all me o k (λ (p : Placed E). 1),
    drew_all all me o k (λ (x : ℕ). 1),
    below-one n,
    total-ones v.mine,
    total-ones v.drawn,
  )
