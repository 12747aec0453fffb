-- What a dump lists, said of the sockets: our own law.
use Rattle.std.specs.Prelude.{◌≡◌, ℕ, ◌==◌, ◌<◌, List, count_by, if◌then◌else◌}
use Rattle.list_words.specs.Lists.{Each, Pairs, SameItems}
use Rattle.sock_card.specs.declared.card.Card.{Card}
use Rattle.flat_list.specs.declared.socket.Socket.{Socket}
use Rattle.flat_list.specs.Flat.{Flat}
use Rattle.flat_list.specs.Listed.{listed}
use Rattle.flat_list.specs.Look.{cards_of}
use Rattle.flat_list.specs.Sockets.{is_hashed}
use Rattle.flat_list.specs.Sound.{IsSound}

-- how many of the cards have that name
abbrev pub times_named : ℕ → List Card → ℕ
times_named name cards = count_by (λ (c : Card). c.name == name) cards

-- a socket that lookups find is listed once, and any other isn't
abbrev pub IsListedOnce : List Card → Socket → Type 0
IsListedOnce cards s = times_named s.owner.name cards ≡ (if is_hashed s.owner.state then 1 else 0)

-- what is listed are the cards under which packets look, each as often; of each socket that has one that; and their
-- names ascend, so that no two have one
pub record ListsEach (flat : Flat) : Type 0 where
  pub cards : SameItems (cards_of flat.groups flat.sockets) (listed flat)
  pub once : Each (IsListedOnce (listed flat)) flat.sockets
  pub names : Pairs (λ (a b : Card). a.name < b.name) (listed flat)

abbrev pub DumpsListEach : Type 0
DumpsListEach = (flat : Flat) → IsSound flat → ListsEach flat
