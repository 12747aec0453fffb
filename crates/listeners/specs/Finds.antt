-- What the lookup of a packet's listener answers: __inet_lookup_listener of net/ipv4/inet_hashtables.c.
use Rattle.std.specs.Prelude.{ℕ, ◌≤◌, ◌⊎◌, [], ◌∷◌}
use Rattle.sock_card.specs.Words.{packed}
use Rattle.sock_card.specs.declared.card.Packet.{Packet}
use Rattle.table_rule.specs.Plays.{Sat}
use Rattle.table_rule.specs.Words.{words_of}
use Rattle.table_rule.specs.Alone.{NoneStands, CardStands, NoneKnown}
use Rattle.table_rule.specs.Wholes.{Clears, FoundIn, StoppedIn}
use Rattle.table_rule.specs.declared.view.View.{View}
use Rattle.table_rule.specs.declared.view.Layout.{Layout}
use Rattle.null_reader.specs.Looked.{LookedAs, MadeFew, OwnAs, stop_of, words_end}
use Rattle.null_reader.specs.declared.answers.LookEnd.{LookEnd}
use Rattle.null_reader.specs.declared.answers.LookEnd.TheVariants as answers
use Rattle.established.specs.Homes.{exact_home, any_home}
use Rattle.established.specs.Finds.{card_rank}
use Rattle.established.specs.Stays.{Stays, Holds}

-- The listener: no better one stands in either chain where it would belong
abbrev pub FindsListener : Layout → Packet → Sat → LookEnd → (from : ℕ) → Sat → Type 0
FindsListener layout packet m (answers.Found held card) from n =
    Holds m held.slot card n × FoundIn n.0.read from (words_of (packed card)) × (1 ≤ card_rank packet card)
    × ((4 ≤ card_rank packet card) ⊎ Clears n.0.read packet from (exact_home layout packet) 3 (card_rank packet card))
    × ((2 ≤ card_rank packet card) ⊎ Clears n.0.read packet from (any_home layout packet) 1 (card_rank packet card))
FindsListener layout packet m answers.None from n =
    Stays m n × Clears n.0.read packet from (exact_home layout packet) 3 0
    × Clears n.0.read packet from (any_home layout packet) 1 0
FindsListener layout packet m (answers.Again bucket stop) from n =
    Stays m n × StoppedIn n.0.read from bucket (stop_of stop ∷ [])

-- The order of the two lookups

abbrev pub Decides : LookEnd → Type 0
Decides (answers.Found held card) = Unit {0}
Decides answers.None = ⊥
Decides (answers.Again bucket stop) = Unit {0}

-- the packet's own address with ranks from 3, then any address with ranks from 1: the first that isn't None decides
abbrev pub InOrder : Layout → Packet → (passes : ℕ) → Sat → LookEnd → (from to : ℕ) → Sat → Type 0
InOrder layout packet passes m end from to n =
    (Decides end × LookedAs (exact_home layout packet) packet 3 passes m (words_end end) from to n)
    ⊎ ((ended : ℕ) × (began : ℕ) × (k : Sat) × (ended ≤ began)
    × LookedAs (exact_home layout packet) packet 3 passes m (words_end answers.None) from ended k
    × LookedAs (any_home layout packet) packet 1 passes k (words_end end) began to n × (from ≤ ended) × (began ≤ to))

-- each of the two made at most so many passes
abbrev pub FewInOrder : (passes : ℕ) → Sat → LookEnd → Sat → Type 0
FewInOrder passes m end n =
    (Decides end × MadeFew passes m (words_end end) n)
    ⊎ ((k : Sat) × MadeFew passes m (words_end answers.None) k × MadeFew passes k (words_end end) n)

-- and of each the pass's own changes explain the receipt, where it drew all numbers of the clock up to that one's end
abbrev pub OwnInOrder : Sat → LookEnd → (to : ℕ) → Sat → Type 0
OwnInOrder m end to n =
    (Decides end × OwnAs m.0 to n.0)
    ⊎ ((ended : ℕ) × (k : Sat) × (ended ≤ to) × OwnAs m.0 ended k.0 × OwnAs k.0 to n.0)

-- On a pass whose changes are all there are: the listener stands, and none better; never again
abbrev pub SoleListener : Layout → Packet → View → LookEnd → Type 0
SoleListener layout packet v (answers.Found held card) =
    CardStands v (words_of (packed card)) × NoneStands v (exact_home layout packet) packet 3 (card_rank packet card)
    × ((3 ≤ card_rank packet card) ⊎ NoneStands v (any_home layout packet) packet 1 (card_rank packet card))
SoleListener layout packet v answers.None =
    NoneStands v (exact_home layout packet) packet 3 0 × NoneStands v (any_home layout packet) packet 1 0
SoleListener layout packet v (answers.Again bucket stop) = ⊥

-- Whatever others do, of what the pass itself hashed before the lookup
abbrev pub KnownListener : Layout → Packet → View → LookEnd → (from : ℕ) → Type 0
KnownListener layout packet v (answers.Found held card) from =
    NoneKnown v (exact_home layout packet) packet 3 (card_rank packet card) from
    × ((3 ≤ card_rank packet card) ⊎ NoneKnown v (any_home layout packet) packet 1 (card_rank packet card) from)
KnownListener layout packet v answers.None from =
    NoneKnown v (exact_home layout packet) packet 3 0 from × NoneKnown v (any_home layout packet) packet 1 0 from
KnownListener layout packet v (answers.Again bucket stop) from = Unit {0}
