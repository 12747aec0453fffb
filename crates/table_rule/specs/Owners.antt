-- Who unhashes what: a card that is no TIME_WAIT's is unhashed by the pass that hashed it, and by no other. Our own.
use Rattle.std.specs.Prelude.{◌≡◌, ℕ, ◌<◌, ◌%◌, ◌⊎◌, List, cond, ◌==◌, slice_index}
use mathlib.Core.Option.{some}
use lib.ListN.{get_elem?}
use Rattle.table_rule.specs.Book.{open-end, Part, Life, hash_of, unhash_of}
use Rattle.table_rule.specs.declared.view.Change.{Change}
use Rattle.table_rule.specs.declared.view.BookView.{BookView}

-- 1 for the card of a TIME_WAIT
abbrev pub time_waits : List ℕ → ℕ
time_waits ws = cond (slice_index ws 1 % 16 == 2) 1 0

-- the change is the pass's own, closed or open
pub record HasChange (b : BookView) (c : Change) : Type 0 where
  pub nth : ℕ
  pub is : (get_elem? b.closed nth ≡ some c) ⊎ (get_elem? b.opened nth ≡ some c)

-- each own closed hash of a card that is no TIME_WAIT's is of a life that nobody began to unhash, or whose unhash is
-- the pass's own
abbrev pub OwnUnhash : (ℕ → List Life) → BookView → Type 0
OwnUnhash lives b =
    (m i n : ℕ) (x : Life) → get_elem? (lives i) n ≡ some x → get_elem? b.closed m ≡ some (hash_of i x)
    → time_waits x.card ≡ 0 → (x.leaving ≡ open-end) ⊎ HasChange b (unhash_of i x)

abbrev pub OwnersOk : (ℕ → List Life) → List Part → Type 0
OwnersOk lives views = (k : ℕ) (v : Part) → get_elem? views k ≡ some v → OwnUnhash lives v.book

-- a place of the pass: what it hashed, a card that is no TIME_WAIT's, and has not begun to unhash
pub record IsPlace (b : BookView) (hash : Change) : Type 0 where
  pub nth : ℕ
  pub there : get_elem? b.closed nth ≡ some hash
  pub is-hash : hash.kind ≡ 1
  pub stays : time_waits hash.card ≡ 0
  pub last : (u : Change) → HasChange b u → u.kind ≡ 0 → u.slot ≡ hash.slot → hash.ends < u.begins → ⊥

abbrev pub HasPlace : ℕ → BookView → Type 0
HasPlace slot b = (hash : Change) × (hash.slot ≡ slot) × IsPlace b hash
