-- Where the words lie: the clock at 0, a head and a lock for each bucket, and for each slot its state, link and four
-- card words. Our own.
use Rattle.std.specs.Prelude.{ℕ, ◌+◌, ◌*◌, List, [], ◌∷◌, slice_index}
use Rattle.chain_book.specs.Homes.{chain_count, home}
use Rattle.sock_card.specs.Words.{unpacked}
use Rattle.sock_card.specs.declared.card.Card.{Card}
use Rattle.sock_card.specs.declared.words.CardWords.{CardWords}
use Rattle.table_rule.specs.declared.view.Layout.{Layout}

-- how many chains there are
abbrev pub bucket_count : Layout → ℕ
bucket_count layout = chain_count layout.shape

-- word w of slot i
abbrev pub at : Layout → ℕ → ℕ → ℕ
at layout i w = 1 + 2 * bucket_count layout + 6 * i + w

abbrev pub head_at : ℕ → ℕ
head_at b = 1 + 2 * b

abbrev pub lock_at : ℕ → ℕ
lock_at b = 2 + 2 * b

-- a card's four words
abbrev pub words_of : CardWords → List ℕ
words_of c = c.ends ∷ c.ports ∷ c.name ∷ c.extra ∷ []

-- the card of which these are the words
abbrev pub card_from : List ℕ → Card
card_from ws = unpacked (record {
  ends = slice_index ws 0;
  ports = slice_index ws 1;
  name = slice_index ws 2;
  extra = slice_index ws 3;
})

-- the bucket in which it belongs
abbrev pub home_of : Layout → List ℕ → ℕ
home_of layout ws = home layout.shape layout.seed (card_from ws)

-- the same table by another seed
abbrev pub with_seed : Layout → (seed : ℕ) → Layout
with_seed layout seed = record layout { seed = seed }
