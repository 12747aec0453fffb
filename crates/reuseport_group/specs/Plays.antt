-- What each step shows, as a relation of the step, the seat before, the number found and the seat after. Our own.
use Rattle.std.specs.Prelude.{◌≡◌, ◌≢◌, ℕ, ◌≤◌, true, List, length}
use Rattle.atomic_table.specs.Table.{Me, Step}
use Rattle.list_words.specs.Lists.{Each, SameItems}
use Rattle.reuseport_group.specs.Words.{most, at, word_of, latest, NotBefore, AllOccur, Ordered}
use Rattle.reuseport_group.specs.Views.{all_parts, looking, writing}
use Rattle.reuseport_group.specs.declared.view.Stored.{Stored}
use Rattle.reuseport_group.specs.declared.view.GroupView.{GroupView}

abbrev pub Sat : Type 0
Sat = Me (Unit {0}) GroupView

-- what passes may know of the moment of their step
pub record Known (v : GroupView) (now : List Stored) : Type 0 where
  -- it isn't before any moment that they knew
  pub later : Each (NotBefore now) v.moments
  -- all that they stored was stored
  pub own : AllOccur v.mine now
  pub short : Each (λ (e : Stored). length e.members ≤ most) now
  pub ordered : Ordered now
  -- passes that were never split stored all that was stored
  pub sole : v.sole ≡ true → now ≡ v.mine
  -- and so did, with those that they joined, passes to which each other were joined
  pub whole : v.parts ≡ all_parts → SameItems now v.mine

-- a load
pub record Saw (st : Step (Unit {0})) (m : Sat) (r : ℕ) (n : Sat) : Type 0 where
  pub now : List Stored
  pub is : n ≡ (looking m.0 now, m.1)
  pub value : (group j : ℕ) → j ≤ most → st.word ≡ at group j → r ≡ latest group j now
  pub known : Known m.0 now

-- a store of word j of a list
pub record Wrote (group : ℕ) (list : List ℕ) (j : ℕ) (m n : Sat) : Type 0 where
  pub before : List Stored
  pub is : n ≡ (writing m.0 before record { group = group; at = j; members = list }, m.1)
  pub known : Known m.0 before

abbrev pub wrote : ℕ → List ℕ → Step (Unit {0}) → Sat → ℕ → Sat → Type 0
wrote group list st m r n = (j : ℕ) → j ≤ most → st.word ≡ at group j → Wrote group list j m n

-- a load that shows nothing of the word
pub record Looked (m n : Sat) : Type 0 where
  pub now : List Stored
  pub is : n ≡ (looking m.0 now, m.1)
  pub known : Known m.0 now

-- a load that is the store of word j of a list, where that stands there
pub record Kept (group : ℕ) (list : List ℕ) (j : ℕ) (m : Sat) (r : ℕ) (n : Sat) : Type 0 where
  pub same : r ≡ word_of list j → Wrote group list j m n
  pub other : r ≢ word_of list j → Looked m n

abbrev pub kept : ℕ → List ℕ → Step (Unit {0}) → Sat → ℕ → Sat → Type 0
kept group list st m r n = (j : ℕ) → j ≤ most → st.word ≡ at group j → Kept group list j m r n
