-- What a dump comes to by a book of changes: which lives its items are. Our own.
use Rattle.std.specs.Prelude.{◌≡◌, ℕ, ◌<◌, ◌≤◌, ◌⊎◌, List, [], ◌∷◌, map}
use Rattle.list_words.specs.Lists.{Each}
use Rattle.sock_card.specs.declared.card.Card.{Card}
use Rattle.table_rule.specs.Book.{Part, InBook}
use Rattle.table_rule.specs.Beyond.{IsThere}
use Rattle.table_rule.specs.Words.{card_from}
use Rattle.table_rule.specs.declared.view.Change.{Change}

-- the card of the life that begins with this hash
abbrev pub life_card : Change → Card
life_card h = card_from h.card

-- in one slot, and in one bucket's chain
abbrev pub HaveOnePlace : Change → Change → Type 0
HaveOnePlace g h = (g.bucket ≡ h.bucket) × (g.slot ≡ h.slot)

-- no two of them have one place, so none of them stands there twice
abbrev pub AreApart : List Change → Type 0
AreApart [] = Unit {0}
AreApart (h ∷ more) = Each (λ g. HaveOnePlace h g → ⊥) more × AreApart more

-- one of them has its place and its card
abbrev pub IsAmong : Change → List Change → Type 0
IsAmong h [] = ⊥
IsAmong h (g ∷ more) = (HaveOnePlace g h × (life_card g ≡ life_card h)) ⊎ IsAmong h more

-- a life of the book that stood at its bucket's instant
abbrev pub IsLife : List Part → (ℕ → ℕ) → Change → Type 0
IsLife views instant h = InBook views h × (h.kind ≡ 1) × IsThere views h (instant h.bucket)

-- Each bucket has an instant between these numbers, none before that of an earlier bucket. Each item is the card of a
-- life that stood at its bucket's, no two of one life, and each life that did has its card listed.
pub record AreTold (views : List Part) (buckets t0 t1 : ℕ) (items : List Card) : Type 0 where
  pub instant : ℕ → ℕ
  pub low : (b : ℕ) → t0 ≤ instant b
  pub high : (b : ℕ) → instant b ≤ t1
  pub ascend : (a b : ℕ) → a ≤ b → instant a ≤ instant b
  pub lives : List Change
  pub cards : items ≡ map life_card lives
  pub stand : Each (IsLife views instant) lives
  pub once : AreApart lives
  pub all : (h : Change) → InBook views h → h.kind ≡ 1 → h.bucket < buckets → IsThere views h (instant h.bucket)
      → IsAmong h lives
