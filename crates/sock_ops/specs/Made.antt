-- What a deed leaves at the chains: our own.
--
-- To be read from the end: `Does` says that some deeds were done and no others, and `Made` what one of them leaves.
use Rattle.std.specs.Prelude.{◌≡◌, ◌≢◌, ℕ, ◌+◌, ◌<◌, ◌≤◌, List, [], ◌∷◌, ◌++◌, map, Option, None, Some, find, ◌⊎◌}
use Rattle.std.specs.Option.{option_map}
use Rattle.list_words.specs.Lists.{Each, Pairs}
use Rattle.sock_card.specs.declared.card.Card.{Card}
use Rattle.chain_book.specs.declared.book.Act.TheVariants as acts
use Rattle.chain_book.specs.declared.book.Change.{Change}
use Rattle.chain_book.specs.declared.outcome.Hashed.{Hashed}
use Rattle.chain_book.specs.Chains.{keeps, waits, waits_as}
use Rattle.chain_book.specs.Homes.{home}
use Rattle.table_rule.specs.Beyond.{IsCardWords}
use Rattle.table_rule.specs.Book.{open-end}
use Rattle.table_rule.specs.Lists.{times}
use Rattle.table_rule.specs.Sole.{IsNow}
use Rattle.table_rule.specs.declared.view.Change.{Change as Closed}
use Rattle.table_rule.specs.declared.view.Layout.{Layout}
use Rattle.table_rule.specs.declared.view.Seen.{Seen}
use Rattle.table_rule.specs.declared.view.Sight.{Sight}
use Rattle.table_rule.specs.declared.view.View.{View}
use Rattle.sock_slots.specs.Claims.{Read, slot_in, sight_by, owned_in, held_in, Between}
use Rattle.nulls_chain.specs.Changes.{Sees, AreSettled, IsPlaced}
use Rattle.nulls_chain.specs.declared.keeping.Place.{Place}
use Rattle.established.specs.Comings.{name_of}
use Rattle.established.specs.Rows.{row_of, HasCard}
use Rattle.table_model.specs.Goes.{AreChains}
use Rattle.race_book.specs.Among.{Among}
use Rattle.race_record.specs.Deeds.{Wish, Tried, hashed, kept_out, no_slot, Vain, Deed, entered, inserted, added, left, reaped, changes_of, vain_of, drawn_of}
use Rattle.race_record.specs.Goes.{Grants, Admits, IsReapOf}
use Rattle.race_record.specs.Laws.{told_of}
use Rattle.sock_ops.specs.Sides.{Side, changes_by, chains_by}

-- its changes are those of which it speaks
abbrev pub Fits : Deed → Type 0
Fits (entered port note) = Unit {0}
Fits (inserted wish tried) = Grants wish tried
Fits (added card tried) = Admits card tried
Fits (left unhash) = unhash.act ≡ acts.Unhash
Fits (reaped card unhash) = IsReapOf card unhash

-- a card that was hashed stands in the chain in which it belongs, in one of the slots
pub record IsHome (layout : Layout) (c : Change) : Type 0 where
  pub bucket : c.bucket ≡ home layout.shape layout.seed c.card
  pub slot : c.slot < layout.shape.slots

abbrev pub IsHomeIfHash : Layout → Change → Type 0
IsHomeIfHash layout c = c.act ≡ acts.Hash → IsHome layout c

-- a hash has the words of a card
abbrev pub HasWords : Closed → Type 0
HasWords c = c.kind ≡ 1 → IsCardWords c.card

abbrev pub AllHaveWords : Side → Type 0
AllHaveWords c = Each HasWords c.view.book.closed

abbrev pub number_of : Vain → ℕ
number_of v = v.number

-- whoever keeps the four-tuple was seen in its chain under the lock, since that
pub record SawKeeper (wish : Wish) (name : ℕ) (c d : Side) : Type 0 where
  pub sight : Sight
  pub sights : d.view.sights ≡ c.view.sights ++ sight ∷ []
  pub bucket : sight.bucket ≡ home c.layout.shape c.layout.seed wish.card ∷ []
  pub since : sight.since ≡ c.view.seen
  pub until : sight.until ≡ open-end
  pub cards : Each HasCard sight.listed
  pub first : option_map name_of (find (keeps wish.card wish.moment wish.rule) (row_of sight.listed)) ≡ Some name

-- each slot was read as owned or as held alone, after the number that was drawn in vain
pub record SawNone (v : Vain) (c d : Side) : Type 0 where
  pub earlier : List Sight
  pub settled : AreSettled c.view.seen c.view.sights earlier
  pub walked : Sight
  pub by : View
  pub since : by.seen ≡ v.number + 1
  pub reads : List Read
  pub more : List Sight
  pub sights : d.view.sights ≡ (earlier ++ walked ∷ []) ++ map (sight_by by) reads ++ more
  pub owned : owned_in reads ≡ v.owned
  pub held : held_in reads ≡ v.held
  pub all : v.owned + v.held ≡ c.layout.shape.slots
  pub below : Each (Between 0 c.layout.shape.slots) (map slot_in reads)
  pub once : (i : ℕ) → times i (map slot_in reads) ≤ 1

-- the whole chain of the card was walked under the lock, since that, and had no TIME_WAIT of its name
pub record SawNoWait (card : Card) (c d : Side) : Type 0 where
  pub sight : Sight
  pub sights : d.view.sights ≡ c.view.sights ++ sight ∷ []
  pub bucket : sight.bucket ≡ home c.layout.shape c.layout.seed card ∷ []
  pub since : sight.since ≡ c.view.seen
  pub until : sight.until ≡ open-end
  pub whole : sight.whole ≡ 1
  pub cards : Each HasCard sight.listed
  pub none : find (waits_as card.name) (row_of sight.listed) ≡ None

-- who gave way to a newcomer is the first of the chain that waits at its four-tuple, and else none does
abbrev pub GaveWayIn : Wish → Option Change → List Seen → Type 0
GaveWayIn wish None xs = find (waits wish.card) (row_of xs) ≡ None
GaveWayIn wish (Some unhash) xs =
    (x : Hashed) × (find (waits wish.card) (row_of xs) ≡ Some x) × (x.slot ≡ unhash.slot) × (x.card ≡ unhash.card)

-- as the hash began, the whole chain was known under the lock, and nobody there kept the four-tuple
pub record SawFree (wish : Wish) (hash : Change) (replaced : Option Change) (c d : Side) : Type 0 where
  pub sight : Sight
  pub there : Among d.view.sights sight
  pub bucket : sight.bucket ≡ hash.bucket ∷ []
  pub whole : sight.whole ≡ 1
  pub instant : sight.instant ≡ hash.begin
  pub cards : Each HasCard sight.listed
  pub unkept : find (keeps wish.card wish.moment wish.rule) (row_of sight.listed) ≡ None
  pub gave : GaveWayIn wish replaced sight.listed

abbrev pub ShowsNone : Tried → Side → Side → Type 0
ShowsNone (no_slot number owned held) c d = SawNone (record { number = number; owned = owned; held = held }) c d
ShowsNone _ c d = Unit {0}

-- what a refusal was seen by, or that somebody was before it
abbrev pub Shows : Deed → Side → Side → Type 0
Shows (inserted wish (kept_out name)) c d = SawKeeper wish name c d
Shows (inserted wish (hashed hash replaced)) c d = SawFree wish hash replaced c d
Shows (inserted wish tried) c d = ShowsNone tried c d
Shows (added card tried) c d = ShowsNone tried c d
Shows (reaped card None) c d = SawNoWait card c d
Shows _ c d = Unit {0}

-- its changes, by numbers that its pass drew for them one after the other, and nothing else
pub record Made (deed : Deed) (c d : Side) : Type 0 where
  pub fits : Fits deed
  pub layout : d.layout ≡ c.layout
  pub changes : changes_by d ≡ changes_by c ++ changes_of deed
  pub homes : Each (IsHomeIfHash c.layout) (changes_of deed)
  pub words : AllHaveWords c → AllHaveWords d
  pub lost : d.view.book.lost ≡ map number_of (vain_of deed) ++ c.view.book.lost
  pub numbers : Each (λ (n : ℕ). (c.view.seen ≤ n) × (n < d.view.seen)) (drawn_of deed)
  pub ascend : Pairs (λ (n m : ℕ). n < m) (drawn_of deed)
  pub later : c.view.seen ≤ d.view.seen
  pub parts : d.view.slot.parts ≡ c.view.slot.parts
  pub holds : d.view.slot.holds ≡ c.view.slot.holds
  pub taken : d.view.slot.taken ≡ c.view.slot.taken
  pub read : d.view.read ≡ c.view.read
  pub sees : Sees c.view d.view
  pub shows : Shows deed c d

-- an entry of a bind bucket leaves nothing at the chains
abbrev pub Leaves : Deed → Side → Side → Type 0
Leaves (entered port note) c d = c ≡ d
Leaves deed c d = Made deed c d

-- the deeds one after the other, and nothing between
abbrev pub AllLeave : List Deed → Side → Side → Type 0
AllLeave [] c d = c ≡ d
AllLeave (deed ∷ deeds) c d = (e : Side) × Leaves deed c e × AllLeave deeds e d

-- where nobody else is at the chains, they answered so, and are left so
abbrev pub AnswersAlone : List Deed → Side → Side → Type 0
AnswersAlone deeds c d =
    IsNow c.view
    → ((buckets : ℕ) → AreChains (chains_by c) (map (told_of buckets) deeds) (chains_by d)) × IsNow d.view

-- the deed takes no socket of that name out of its chain
abbrev pub Spares : ℕ → Deed → Type 0
Spares name (left unhash) = unhash.card.name ≢ name
Spares name _ = Unit {0}

-- each place of the pass stays one, if these deeds took no socket of its card's name out
abbrev pub SparedStay : List Deed → View → View → Type 0
SparedStay deeds v w =
    (place : Place) → Each (Spares place.card.name) deeds → IsPlaced place v.book → IsPlaced place w.book

-- these deeds and no others
pub record Does (deeds : List Deed) (c d : Side) : Type 0 where
  pub leaves : AllLeave deeds c d
  pub stay : SparedStay deeds c.view d.view
  pub alone : AnswersAlone deeds c d
