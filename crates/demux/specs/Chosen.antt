-- When a group's member is the answer: inet_lookup_reuseport of net/ipv4/inet_hashtables.c. That a listener's card
-- names its group, and a member's number the slot of its card, is our own rule.
--
-- To be read from the end: `ByGroup` is what Concludes cites, and stands on those above it. The contract of
-- `look_packet` cites `LeavesLists`.
use Rattle.std.specs.Prelude.{◌≡◌, ℕ, ◌+◌, ◌-◌, ◌%◌, ◌^◌, ◌<◌, ◌≤◌, ◌⊎◌, ◌==◌, ◌||◌, nat_lt, [], ◌∷◌, ◌++◌, Option, Some, None, if◌then◌else◌}
use Rattle.sock_card.specs.Words.{packed}
use Rattle.sock_card.specs.declared.card.Card.{Card}
use Rattle.sock_card.specs.declared.card.Packet.{Packet}
use Rattle.sock_card.specs.declared.card.Kind.{Kind}
use Rattle.sock_card.specs.declared.card.Kind.TheVariants as kinds
use Rattle.reuseport_group.specs.declared.choice.Choice.{Choice}
use Rattle.reuseport_group.specs.declared.pass.GroupPasses.{GroupPasses}
use Rattle.reuseport_group.specs.Choosing.{Chose}
use Rattle.reuseport_group.specs.Member.{slot_of, name_of, AreMembers}
use Rattle.reuseport_group.specs.Passes.{IsSole, known, published, stored}
use Rattle.reuseport_group.specs.Pick.{pick}
use Rattle.established.specs.Finds.{card_rank}
use Rattle.table_rule.specs.Alone.{IsAlone, IsGone, SlotStands}
use Rattle.table_rule.specs.Plays.{Sat, trying}
use Rattle.table_rule.specs.Words.{words_of}
use Rattle.table_rule.specs.declared.view.View.{View}

-- the group that a listener's card names, if it is one of so many. What another card says besides names none: a
-- TIME_WAIT's is its stamp
abbrev pub group_as : Kind → (extra count : ℕ) → Option ℕ
group_as kinds.Listen extra count = if (extra == 0) || nat_lt count extra then None else Some (extra - 1)
group_as _ extra count = None

abbrev pub group_in : Card → (count : ℕ) → Option ℕ
group_in card count = group_as card.kind card.extra count

-- a count was taken while LIVE stood, the card loaded, and the count put: the card stood
abbrev pub sighted_view : View → Card → View
sighted_view v card =
    record v {
      slot = record v.slot { taken = v.slot.taken + 1 };
      read = record v.read {
        sighted = v.read.sighted ++ record { since = v.seen; card = words_of (packed card) }
            ∷ [];
      };
    }

-- on a pass whose changes are all there are it is the card that stands in the slot
abbrev pub StandsThere : View → (slot : ℕ) → Card → Type 0
StandsThere v slot card = (from : ℕ) → IsAlone v from → from ≤ v.seen → SlotStands v slot (words_of (packed card))

-- a member's card has a name that ends as the member's number says, and the best's rank
abbrev pub IsLike : Packet → Card → (member : ℕ) → Card → Type 0
IsLike packet best member card = (card.name % 2 ^ 32 ≡ name_of member) × (card_rank packet card ≡ card_rank packet best)

-- the member's card is the answer where it is like the best, else the best is
abbrev pub IsBetween : Packet → (best : Card) → (member : ℕ) → (card result : Card) → Type 0
IsBetween packet best member card result =
    (IsLike packet best member card × (result ≡ card)) ⊎ ((IsLike packet best member card → ⊥) × (result ≡ best))

-- the best is the answer where the member's slot is none of the table's, or wasn't live
abbrev pub Chosen : (slots : ℕ) → Packet → Sat → (best : Card) → (member : ℕ) → (result : Card) → Sat → Type 0
Chosen slots packet m best member result n =
    ((slots ≤ slot_of member) × (result ≡ best) × (n ≡ m))
    ⊎ ((slot_of member < slots) × (result ≡ best) × (n ≡ (trying m.0, m.1)) × IsGone m.0 (slot_of member))
    ⊎ ((slot_of member < slots) ×
    ((card : Card) × (n ≡ (sighted_view m.0 card, m.1)) × StandsThere m.0 (slot_of member) card
    × IsBetween packet best member card result))

-- or where no member was chosen
abbrev pub ChosenBy : (slots : ℕ) → Packet → Sat → (best : Card) → Option Choice → (result : Card) → Sat → Type 0
ChosenBy slots packet m best None result n = (result ≡ best) × (n ≡ m)
ChosenBy slots packet m best (Some choice) result n = Chosen slots packet m best choice.member result n

-- of passes that were never split, the choice is that of the list that they published last
abbrev pub Picked : GroupPasses → (group hash : ℕ) → Option Choice → Type 0
Picked p group hash choice = IsSole p → AreMembers (published p group) → choice ≡ pick (published p group) hash

-- a choice only loads: what the passes stored, and whether they were ever split, is as before
abbrev pub LeavesLists : GroupPasses → GroupPasses → Type 0
LeavesLists p q = (stored q ≡ stored p) × ((known q).sole ≡ (known p).sole)

-- or where the best names no group
abbrev pub ByGroup :
    (slots groups : ℕ) → Packet → (hash : ℕ) → Sat → (best : Card) → GroupPasses → (result : Card) → Sat → GroupPasses
    → Type 0
ByGroup slots groups packet hash m best p result n p' =
    ((group_in best groups ≡ None) × (result ≡ best) × (n ≡ m) × (p' ≡ p))
    ⊎ ((group : ℕ) × (group_in best groups ≡ Some group)
    × ((choice : Option Choice) × Chose p p' group hash choice × Picked p group hash choice
    × ChosenBy slots packet m best choice result n))
