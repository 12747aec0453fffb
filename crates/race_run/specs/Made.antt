-- What deeds one after the other left at the chains: our own.
--
-- To be read from the beginning.
use Rattle.std.specs.Prelude.{◌≡◌, ℕ, ◌+◌, ◌<◌, ◌≤◌, List, [], ◌∷◌, ◌++◌, map, cond, Some, find, None, ◌⊎◌}
use Rattle.std.specs.List.{flat_map}
use Rattle.std.specs.Option.{option_map}
use Rattle.list_words.specs.Lists.{Each, Pairs, SameItems}
use Rattle.sock_card.specs.declared.card.Card.{Card}
use Rattle.chain_book.specs.Chains.{keeps, waits_as}
use Rattle.chain_book.specs.Homes.{home}
use Rattle.table_rule.specs.Lists.{times}
use Rattle.table_rule.specs.Plays.{seeing}
use Rattle.table_rule.specs.Book.{open-end}
use Rattle.table_rule.specs.Sole.{AllSettled}
use Rattle.table_rule.specs.declared.view.Layout.{Layout}
use Rattle.table_rule.specs.declared.view.Sight.{Sight}
use Rattle.table_rule.specs.declared.view.Seen.{Seen}
use Rattle.sock_slots.specs.Claims.{Read, slot_in, owned_in, held_in, Between}
use Rattle.nulls_chain.specs.Changes.{Sees}
use Rattle.established.specs.Comings.{name_of}
use Rattle.established.specs.Rows.{row_of, HasCard}
use Rattle.race_book.specs.Among.{Among}
use Rattle.race_record.specs.Deeds.{Deed, reaped, Given, Taken, Vain, changes_in, given_in, taken_in, vain_in, drawn_in}
use Rattle.sock_ops.specs.Sides.{Side, changes_by}
use Rattle.sock_ops.specs.Made.{GaveWayIn, IsHomeIfHash, AllHaveWords, number_of}

-- the slot alone, if it was read as owned, and else none
abbrev pub listed_by : Read → List Seen
listed_by r = cond r.owned (record { slot = r.slot; words = [] } ∷ []) []

-- the slot, if it was read as held alone
abbrev pub held_by : Read → List ℕ
held_by r = cond r.owned [] (r.slot ∷ [])

-- the card of a TIME_WAIT that a deed sought, and that was gone
abbrev pub missed_of : Deed → List Card
missed_of (reaped card None) = card ∷ []
missed_of _ = []

abbrev pub missed_in : List Deed → List Card
missed_in deeds = flat_map missed_of deeds

-- by sightings of this list, each begun at that number or later, and each with that fact
module _ (sights : List Sight) (from : ℕ) (Is : Sight → Type 0) where
  -- whoever keeps the four-tuple was seen in a chain
  pub record SawKeeper (t : Taken) : Type 0 where
    pub sight : Sight
    pub there : Among sights sight
    pub since : from ≤ sight.since
    pub is : Is sight
    pub bucket : ℕ
    pub bucket_is : sight.bucket ≡ bucket ∷ []
    pub cards : Each HasCard sight.listed
    pub first :
        option_map name_of (find (keeps t.wish.card t.wish.moment t.wish.rule) (row_of sight.listed)) ≡ Some t.name

  -- the slot was read as owned, or as held alone
  pub record SawRead (r : Read) : Type 0 where
    pub sight : Sight
    pub there : Among sights sight
    pub since : from ≤ sight.since
    pub is : Is sight
    pub listed : sight.listed ≡ listed_by r
    pub held : sight.held ≡ held_by r

  -- the whole chain of the card was walked, and had no TIME_WAIT of its name
  pub record SawNoWait (layout : Layout) (card : Card) : Type 0 where
    pub sight : Sight
    pub there : Among sights sight
    pub since : from ≤ sight.since
    pub is : Is sight
    pub bucket : sight.bucket ≡ home layout.shape layout.seed card ∷ []
    pub whole : sight.whole ≡ 1
    pub cards : Each HasCard sight.listed
    pub none : find (waits_as card.name) (row_of sight.listed) ≡ None

-- by a sighting of this list the whole chain of the newcomer was known as its hash began, and nobody there kept the
-- four-tuple
pub record SawFree (sights : List Sight) (g : Given) : Type 0 where
  pub sight : Sight
  pub there : Among sights sight
  pub bucket : sight.bucket ≡ g.hash.bucket ∷ []
  pub whole : sight.whole ≡ 1
  pub instant : sight.instant ≡ g.hash.begin
  pub cards : Each HasCard sight.listed
  pub unkept : find (keeps g.wish.card g.wish.moment g.wish.rule) (row_of sight.listed) ≡ None
  pub gave : GaveWayIn g.wish g.replaced sight.listed

-- each of so many slots was read as owned, or as held alone, after the number that was drawn in vain
pub record SawNone (sights : List Sight) (Is : Sight → Type 0) (count : ℕ) (v : Vain) : Type 0 where
  pub reads : List Read
  pub each : Each (SawRead sights v.number Is) reads
  pub owned : owned_in reads ≡ v.owned
  pub held : held_in reads ≡ v.held
  pub all : v.owned + v.held ≡ count
  pub below : Each (Between 0 count) (map slot_in reads)
  pub once : (i : ℕ) → times i (map slot_in reads) ≤ 1

abbrev pub IsAny : Sight → Type 0
IsAny s = Unit {0}

-- of all deeds: their changes, by numbers that the pass drew for them one after the other, and nothing else
pub record MadeAll (deeds : List Deed) (c d : Side) : Type 0 where
  pub layout : d.layout ≡ c.layout
  pub changes : changes_by d ≡ changes_by c ++ changes_in deeds
  pub homes : Each (IsHomeIfHash c.layout) (changes_in deeds)
  pub words : AllHaveWords c → AllHaveWords d
  pub lost : SameItems d.view.book.lost (map number_of (vain_in deeds) ++ c.view.book.lost)
  pub numbers : Each (λ (n : ℕ). (c.view.seen ≤ n) × (n < d.view.seen)) (drawn_in deeds)
  pub ascend : Pairs (λ (n m : ℕ). n < m) (drawn_in deeds)
  pub later : c.view.seen ≤ d.view.seen
  pub parts : d.view.slot.parts ≡ c.view.slot.parts
  pub holds : d.view.slot.holds ≡ c.view.slot.holds
  pub taken : d.view.slot.taken ≡ c.view.slot.taken
  pub read : d.view.read ≡ c.view.read
  pub sees : Sees c.view d.view
  pub keepers : Each (SawKeeper d.view.sights c.view.seen IsAny) (taken_in deeds)
  pub frees : Each (SawFree d.view.sights) (given_in deeds)
  pub nones : Each (SawNone d.view.sights IsAny c.layout.shape.slots) (vain_in deeds)
  pub waits : Each (SawNoWait d.view.sights c.view.seen IsAny c.layout) (missed_in deeds)

-- it ended at that number or before
abbrev pub IsBy : ℕ → Sight → Type 0
IsBy to s = s.until ≤ to

-- the clock was loaded
abbrev pub loaded : Side → ℕ → Side
loaded c number = record c { view = seeing c.view number }

-- it is no less than what was seen, and each sighting has ended by then
pub record Loads (c : Side) (number : ℕ) : Type 0 where
  pub later : c.view.seen ≤ number
  pub few : number < open-end
  pub settled : AllSettled (loaded c number).view number
