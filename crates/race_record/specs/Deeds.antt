-- What an operation did at the tables, one deed after the other, with what the tables answered: our own. Entries of
-- journals have their numbers, and changes their stamps, from whatever tables they were made at.
--
-- In two parts: what a deed is, up to `Given`; and what deeds made and drew, of which the last six, from `entries_in`
-- on, speak of many deeds.
use Rattle.std.specs.Prelude.{ℕ, ◌%◌, List, [], ◌∷◌, ◌++◌, Option, None, Some}
use Rattle.std.specs.List.{flat_map}
use Rattle.sock_card.specs.declared.card.Card.{Card}
use Rattle.turn_table.specs.declared.note.Note.{Note}
use Rattle.turn_table.specs.declared.note.Placed.{Placed}
use Rattle.turn_table.specs.Journals.{placed}
use Rattle.bind_buckets.specs.declared.request.Entry.{Entry}
use Rattle.chain_book.specs.declared.book.Change.{Change}
use Rattle.chain_book.specs.declared.outcome.Replace.{Replace}

-- a full card or a request is to be hashed at that moment; a TIME_WAIT of its four-tuple may be replaced by that rule
pub record Wish : Type 0 where
  pub card : Card
  pub moment : ℕ
  pub rule : Replace

-- what trying to hash a card came to
pub data Tried : Type 0 where
  hashed : Change → Option Change → Tried  -- its hash, and the unhash of the TIME_WAIT that it replaced
  kept_out : ℕ → Tried  -- the socket of that name keeps its four-tuple from it
  no_slot : ℕ → ℕ → ℕ
      → Tried  -- a number of the clock was drawn in vain: so many slots were owned, and so many only held

pub data Deed : Type 0 where
  entered : ℕ → Note Entry → Deed  -- a call on the bind bucket of that key, as its journal has it
  inserted : Wish → Tried → Deed  -- a full card or a request, or the try
  added : Card → Tried → Deed  -- a card that no four-tuple keeps out, or the try
  left : Change → Deed  -- an unhash
  reaped : Card → Option Change → Deed  -- the unhash of a TIME_WAIT, unless somebody was before it

-- a four-tuple that was refused, since the socket of that name keeps it
pub record Taken : Type 0 where
  pub wish : Wish
  pub name : ℕ

-- a slot that was sought in vain: the number of the clock that was drawn for it, how many slots were owned, and how
-- many only held
pub record Vain : Type 0 where
  pub number : ℕ
  pub owned : ℕ
  pub held : ℕ

-- a four-tuple that was given: the hash of the card, and the unhash of the TIME_WAIT that gave way, if one did
pub record Given : Type 0 where
  pub wish : Wish
  pub hash : Change
  pub replaced : Option Change

abbrev pub one_or_none : {A : Type 0} → Option A → List A
one_or_none None = []
one_or_none (Some x) = x ∷ []

-- the entry that a deed made, with its bucket among so many
abbrev pub entry_of : ℕ → Deed → List (Placed Entry)
entry_of buckets (entered key note) = placed (key % buckets) note ∷ []
entry_of buckets _ = []

abbrev pub changes_tried : Tried → List Change
changes_tried (hashed hash replaced) = hash ∷ one_or_none replaced
changes_tried _ = []

-- the changes that a deed made
abbrev pub changes_of : Deed → List Change
changes_of (inserted wish tried) = changes_tried tried
changes_of (added card tried) = changes_tried tried
changes_of (left unhash) = unhash ∷ []
changes_of (reaped card unhash) = one_or_none unhash
changes_of (entered port note) = []

abbrev pub taken_tried : Wish → Tried → List Taken
taken_tried wish (kept_out name) = record { wish = wish; name = name } ∷ []
taken_tried wish _ = []

-- the refusal of a four-tuple that a deed was
abbrev pub taken_of : Deed → List Taken
taken_of (inserted wish tried) = taken_tried wish tried
taken_of _ = []

abbrev pub given_tried : Wish → Tried → List Given
given_tried wish (hashed hash replaced) = record { wish = wish; hash = hash; replaced = replaced } ∷ []
given_tried wish _ = []

-- the grant of a four-tuple that a deed was
abbrev pub given_of : Deed → List Given
given_of (inserted wish tried) = given_tried wish tried
given_of _ = []

abbrev pub vain_tried : Tried → List Vain
vain_tried (no_slot number owned held) = record { number = number; owned = owned; held = held } ∷ []
vain_tried _ = []

-- the search for a slot that a deed was in vain
abbrev pub vain_of : Deed → List Vain
vain_of (inserted wish tried) = vain_tried tried
vain_of (added card tried) = vain_tried tried
vain_of _ = []

-- the numbers of the clock that a change drew, as it began and as it ended
abbrev pub drawn_by : Change → List ℕ
drawn_by c = c.begin ∷ c.end ∷ []

abbrev pub drawn_in_try : Tried → List ℕ
drawn_in_try (hashed hash replaced) = drawn_by hash ++ flat_map drawn_by (one_or_none replaced)
drawn_in_try (kept_out name) = []
drawn_in_try (no_slot number owned held) = number ∷ []

-- the numbers of the clock that a deed drew, in their order
abbrev pub drawn_of : Deed → List ℕ
drawn_of (inserted wish tried) = drawn_in_try tried
drawn_of (added card tried) = drawn_in_try tried
drawn_of (left unhash) = drawn_by unhash
drawn_of (reaped card unhash) = flat_map drawn_by (one_or_none unhash)
drawn_of (entered port note) = []

abbrev pub entries_in : ℕ → List Deed → List (Placed Entry)
entries_in buckets deeds = flat_map (entry_of buckets) deeds

abbrev pub changes_in : List Deed → List Change
changes_in deeds = flat_map changes_of deeds

abbrev pub taken_in : List Deed → List Taken
taken_in deeds = flat_map taken_of deeds

abbrev pub given_in : List Deed → List Given
given_in deeds = flat_map given_of deeds

abbrev pub vain_in : List Deed → List Vain
vain_in deeds = flat_map vain_of deeds

abbrev pub drawn_in : List Deed → List ℕ
drawn_in deeds = flat_map drawn_of deeds
