-- What a lookup and its parts ask and say. The lookup is that of __inet_lookup_established and inet_lhash2_lookup of
-- the kernel's net/ipv4/inet_hashtables.c; how it is stated is our own.
--
-- To be read from `LookedAs` on: the contract of `look` cites it and most of what stands below it, and of what stands
-- above it `HasTwo`. The rest is of a lookup's parts.
use Rattle.std.specs.Prelude.{◌≡◌, ◌≢◌, ℕ, ◌+◌, ◌*◌, ◌/◌, ◌%◌, ◌<◌, ◌≤◌, ◌⊎◌, List, [], ◌∷◌, ◌++◌, length, Option, Some, None, Result, Ok, Err}
use Rattle.sock_card.specs.Words.{word_rank as rank}
use Rattle.table_rule.specs.ReadersOk.{rank_of}
use Rattle.table_rule.specs.Plays.{settled, Sat, with_reader, with_kept, stopping}
use Rattle.table_rule.specs.Alone.{mine, NoneStands, CardStands, NoneKnown}
use Rattle.table_rule.specs.Explained.{IsExplained}
use Rattle.table_rule.specs.Rule.{drawn}
use Rattle.table_rule.specs.LookCalls.{Looks, IsAtEnd}
use mathlib.Core.Option.{some}
use lib.ListN.{get_elem?}
use Rattle.table_rule.specs.declared.view.View.{View}
use Rattle.table_rule.specs.declared.view.Change.{Change}
use Rattle.table_rule.specs.declared.view.Layout.{Layout}
use Rattle.sock_card.specs.declared.words.CardWords.{CardWords}
use Rattle.table_rule.specs.declared.view.Kept.{Kept}
use Rattle.table_rule.specs.declared.view.Stop.{Stop}
use Rattle.table_rule.specs.declared.view.Reader.{Reader}
use Rattle.null_reader.specs.declared.answers.Best.{Best}
use Rattle.sock_card.specs.Words.{packed}
use Rattle.null_reader.specs.declared.answers.LookEnd.{LookEnd}
use Rattle.null_reader.specs.declared.answers.LookEnd.TheVariants as answers
use Rattle.null_reader.specs.declared.answers.WordsEnd.{WordsEnd}
use Rattle.null_reader.specs.declared.answers.WordsEnd.TheVariants as ends
use Rattle.table_rule.specs.declared.view.Receipt.{Receipt}
use Rattle.null_reader.specs.declared.answers.Turn.{Turn}
use Rattle.null_reader.specs.declared.answers.Turn.TheVariants as turns
use Rattle.null_reader.specs.declared.answers.PassEnd.{PassEnd}
use Rattle.null_reader.specs.declared.answers.PassEnd.TheVariants.{Foreign, Dead, Changed, Long}
use Rattle.table_rule.specs.LookCalls.{with_words}
use Rattle.sock_card.specs.declared.card.Packet.{Packet}
use Rattle.table_rule.specs.Beyond.{IsCardWords}
use Rattle.table_rule.specs.Words.{words_of, bucket_count}

-- a view during a lookup: its reader, what it keeps and holds, and how often it has taken a count
abbrev pub looking : View → Reader → List Kept → List ℕ → (taken : ℕ) → View
looking v q ks hs taken =
    record v { slot = record v.slot { holds = hs; taken = taken }; read = record v.read { reader = q ∷ []; kept = ks } }

abbrev pub stop_of : PassEnd → Stop
stop_of (Foreign b) = record { kind = 0; at = b }
stop_of (Dead i) = record { kind = 1; at = i }
stop_of (Changed i) = record { kind = 2; at = i }
stop_of (Long n) = record { kind = 3; at = n }

abbrev pub stopped : Reader → PassEnd → Reader
stopped q e = stopping q (stop_of e).kind (stop_of e).at

-- the lookup stands at a slot of which nothing was loaded yet
pub record IsVisiting (slot : ℕ) (key : Packet) (v : View) : Type 0 where
  pub q : Reader
  pub looks : Looks v q
  pub walking : q.walking ≡ 1
  pub link : q.link ≡ 2 * slot
  pub key-is : q.key ≡ key
  pub peek : q.peeked ≡ record { slot = slot; words = [] } ∷ []

abbrev pub keyed : Reader → (slot a b : ℕ) → Reader
keyed q slot a b = record q { peeked = record { slot = slot; words = a ∷ b ∷ [] } ∷ [] }

-- two card words were loaded, and this is their rank
abbrev pub Keyed : (slot : ℕ) (key : Packet) → Reader → Sat → ℕ → Sat → Type 0
Keyed slot key q m r n = (a : ℕ) × (b : ℕ) × (r ≡ rank key a b) × (n ≡ (with_reader m.0 (keyed q slot a b ∷ []), m.1))

-- a count was taken with LIVE, and no word was loaded under it yet
pub record IsChecking (slot : ℕ) (key : Packet) (before : ℕ) (v : View) : Type 0 where
  pub q : Reader
  pub looks : Looks v q
  pub key-is : q.key ≡ key
  pub a : ℕ
  pub b : ℕ
  pub peek : q.peeked ≡ record { slot = slot; words = a ∷ b ∷ [] } ∷ []
  pub rank-is : before ≡ rank key a b
  pub better : q.best ≤ before
  pub kept : Kept
  pub others : List Kept
  pub there : v.read.kept ≡ kept ∷ others
  pub slot-is : kept.slot ≡ slot
  pub none : kept.words ≡ []

abbrev pub Checked :
    (slot : ℕ) (key : Packet) (before : ℕ) → Reader → Kept → List Kept → Sat → Option CardWords → Sat → Type 0
Checked slot key before q h hs m (Some card) n =
    (rank_of key (words_of card) ≡ before)
    × (n ≡ (with_reader (with_kept m.0 (with_words h (words_of card) ∷ hs)) (record q { best = before } ∷ []), m.1))
Checked slot key before q h hs m None n =
    (ws : List ℕ) × (n ≡ (with_reader (with_kept m.0 (with_words h ws ∷ hs)) (stopping q 2 slot ∷ []), m.1))

abbrev pub held : Best → ℕ → Kept
held t since = record { slot = t.slot; since = since; words = words_of t.card }

abbrev pub Visited :
    (slot : ℕ) (key : Packet) (least best : ℕ) → Reader → Sat → Result (Option Best) PassEnd → Sat → Type 0
Visited slot key least best q m (Ok None) n =
    (a : ℕ) × (b : ℕ) × ((rank key a b < least) ⊎ (rank key a b ≤ best))
    × (n ≡ (with_reader m.0 (keyed q slot a b ∷ []), m.1))
Visited slot key least best q m (Ok (Some t)) n =
    (a : ℕ) × (b : ℕ) × (t.slot ≡ slot) × (t.rank ≡ rank key a b) × (rank_of key (words_of t.card) ≡ t.rank)
    × (least ≤ t.rank)
    × (n ≡ (
      looking m.0 (record (keyed q slot a b) { best = t.rank }) (held t m.0.seen ∷ m.0.read.kept)
          (slot ∷ m.0.slot.holds) (m.0.slot.taken + 1),
      m.1,
    ))
Visited slot key least best q m (Err e) n =
    n ≡ (looking m.0 (stopped q e) m.0.read.kept m.0.slot.holds (m.0.slot.taken + 1), m.1)

abbrev pub so_far : Option Best → ℕ
so_far None = 0
so_far (Some t) = t.rank

-- the same lookup
pub record IsLookup (q₀ q : Reader) : Type 0 where
  pub bucket : q.bucket ≡ q₀.bucket
  pub key : q.key ≡ q₀.key
  pub least : q.least ≡ q₀.least
  pub since : q.since ≡ q₀.since

-- a pass has no best yet, or holds it
abbrev pub IsBest : Layout → View → Reader → Option Best → List Kept → List ℕ → Type 0
IsBest layout v q None ks hs = (q.best ≡ 0) × (ks ≡ v.read.kept) × (hs ≡ v.slot.holds)
IsBest layout v q (Some t) ks hs =
    (since : ℕ) × (q.best ≡ t.rank) × (rank_of q.key (words_of t.card) ≡ t.rank) × (q.least ≤ t.rank)
    × (q.since ≤ since) × (ks ≡ held t since ∷ v.read.kept) × (hs ≡ t.slot ∷ v.slot.holds)
    × (t.slot < layout.shape.slots)

-- a pass of the lookup q₀, begun at the view of m₀, has this best and has loaded this link
pub record Walking (layout : Layout) (m₀ : Sat) (q₀ : Reader) (best : Option Best) (link followed : ℕ)
    (n : Sat) : Type 0 where
  pub q : Reader
  pub ks : List Kept
  pub hs : List ℕ
  pub taken : ℕ
  pub more : m₀.0.slot.taken ≤ taken
  pub is : n ≡ (looking m₀.0 q ks hs taken, m₀.1)
  pub same : IsLookup q₀ q
  pub best-is : IsBest layout m₀.0 q best ks hs
  pub slot : link % 2 ≡ 0 → followed ≤ layout.shape.slots → (q.walking ≡ 1) × (q.link ≡ link) × (q.followed ≡ followed)
      × (q.peeked ≡ record { slot = link / 2; words = [] } ∷ []) × (link / 2 < layout.shape.slots)
      × (q.stops ≡ q₀.stops)
  pub long : link % 2 ≡ 0 → layout.shape.slots < followed → (q.stops ≡ q₀.stops ++ stop_of (Long followed) ∷ [])
      × (q.walking ≡ 0)
  pub own : link ≡ 2 * q₀.bucket + 1 → IsAtEnd q × (q.stops ≡ q₀.stops)
  pub near : link % 2 ≡ 1 → link / 2 < bucket_count layout
  pub foreign : link % 2 ≡ 1 → link ≢ 2 * q₀.bucket + 1 → (q.stops ≡ q₀.stops ++ stop_of (Foreign (link / 2)) ∷ [])
      × (q.walking ≡ 0)

-- what a pass of the lookup q₀ leaves
abbrev pub Passed : Layout → Sat → Reader → Result (Option Best) PassEnd → Sat → Type 0
Passed layout m q₀ (Ok None) n =
    (q : Reader) × IsLookup q₀ q × IsAtEnd q × (q.best ≡ 0) × (q.stops ≡ q₀.stops) × (taken : ℕ)
    × (m.0.slot.taken ≤ taken) × (n ≡ (looking m.0 q m.0.read.kept m.0.slot.holds taken, m.1))
Passed layout m q₀ (Ok (Some t)) n =
    (q : Reader) × (ks : List Kept) × (hs : List ℕ) × IsLookup q₀ q × (IsAtEnd q ⊎ (q.best ≡ 5))
    × IsBest layout m.0 q (Some t) ks hs × (q.stops ≡ q₀.stops) × (taken : ℕ) × (m.0.slot.taken ≤ taken)
    × (n ≡ (looking m.0 q ks hs taken, m.1))
Passed layout m q₀ (Err e) n =
    (q : Reader) × IsLookup q₀ q × (q.stops ≡ q₀.stops ++ stop_of e ∷ []) × (taken : ℕ) × (m.0.slot.taken ≤ taken)
    × (n ≡ (looking m.0 q m.0.read.kept m.0.slot.holds taken, m.1)) × (q.walking ≡ 0)

-- what a turn of a pass leaves: it found the best there is, or goes on
abbrev pub Turned : Layout → Sat → Reader → ℕ → Result Turn PassEnd → Sat → Type 0
Turned layout m q₀ followed (Ok (turns.Found t)) n = Passed layout m q₀ (Ok (Some t)) n
Turned layout m q₀ followed (Ok (turns.On best link)) n = Walking layout m q₀ best link (followed + 1) n
Turned layout m q₀ followed (Err e) n = Passed layout m q₀ (Err e) n

-- the pass may take two counts more
abbrev pub HasTwo : View → Type 0
HasTwo v = length v.slot.holds + 2 ≤ v.slot.parts * 4294967296

-- a view after a lookup: nothing else changed than what is held, how often a count was taken, the receipts, and what
-- is seen
abbrev pub looked_view : View → ℕ → List Kept → List ℕ → (taken : ℕ) → Receipt → View
looked_view v t₀ ks hs taken c =
    record v {
      slot = record v.slot { holds = hs; taken = taken };
      read = record v.read { kept = ks; reader = []; receipts = v.read.receipts ++ c ∷ [] };
      seen = c.to;
      sights = settled v.sights t₀;
    }

abbrev pub LookedAs : (bucket : ℕ) (key : Packet) (least passes : ℕ) → Sat → WordsEnd → (t₀ t₁ : ℕ) → Sat → Type 0
-- the count on the slot is held, with the card's words, and its card is of rank least or more
LookedAs bucket key least passes m (ends.Found h card) t₀ t₁ n =
    (since : ℕ) × (stops : List Stop) × (t₀ ≤ since) × (least ≤ rank_of key (words_of card)) × (taken : ℕ)
    × (m.0.slot.taken ≤ taken)
    × (n ≡ (
      looked_view m.0 t₀ (record { slot = h.slot; since = since; words = words_of card } ∷ m.0.read.kept)
          (h.slot ∷ m.0.slot.holds) taken
          (record {
            bucket = bucket;
            key = key;
            least = least;
            from = t₀;
            to = t₁;
            kind = 1;
            card = words_of card;
            stops = stops;
          }),
      m.1,
    ))
LookedAs bucket key least passes m ends.None t₀ t₁ n = (stops : List Stop) × (taken : ℕ) × (m.0.slot.taken ≤ taken)
    × (n ≡ (
      looked_view m.0 t₀ m.0.read.kept m.0.slot.holds taken
          (record {
            bucket = bucket;
            key = key;
            least = least;
            from = t₀;
            to = t₁;
            kind = 0;
            card = [];
            stops = stops;
          }),
      m.1,
    ))
-- each of the passes stopped, the last of them so
LookedAs bucket key least passes m (ends.Again b stop) t₀ t₁ n =
    (b ≡ bucket) × ((front : List Stop) × (length front + 1 ≡ passes) × (taken : ℕ) × (m.0.slot.taken ≤ taken)
    × (n ≡ (
      looked_view m.0 t₀ m.0.read.kept m.0.slot.holds taken
          (record {
            bucket = bucket;
            key = key;
            least = least;
            from = t₀;
            to = t₁;
            kind = 2;
            card = [];
            stops = front ++ stop_of stop ∷ [];
          }),
      m.1,
    )))

-- How many passes a lookup made, by its receipt. Each pass begins with a load of the bucket's head, which
-- `step_peek_head` allows at the lookup's start and after a pass that stopped, and each stop is in the receipt: where
-- the lookup has an answer it made at most one pass more, and else so many.
abbrev pub passes_of : WordsEnd → Receipt → ℕ
passes_of (ends.Found h card) c = length c.stops + 1
passes_of ends.None c = length c.stops + 1
passes_of (ends.Again b stop) c = length c.stops

-- by the receipt that it added, it made at most so many
abbrev pub MadeFew : (passes : ℕ) → Sat → WordsEnd → Sat → Type 0
MadeFew passes m end n = (c : Receipt) × (n.0.read.receipts ≡ m.0.read.receipts ++ c ∷ []) × (passes_of end c ≤ passes)

-- a pass that drew all numbers of the clock up to the lookup's end has all changes there were, and they explain the
-- receipt that the lookup added
abbrev pub OwnAs : View → (t₁ : ℕ) → View → Type 0
OwnAs v t₁ w =
    drawn v ≡ t₁ → (c : Receipt) × (w.read.receipts ≡ v.read.receipts ++ c ∷ [])
    × IsExplained (mine v) v.layout.shape.slots c

-- the pass's changes are all there are, and none is open
abbrev pub IsWhole : View → Type 0
IsWhole v = (v.slot.parts ≡ 16384) × (v.book.opened ≡ [])

-- all that the pass closed had ended before this number
abbrev pub HadEnded : View → (number : ℕ) → Type 0
HadEnded v number = (n : ℕ) (c : Change) → get_elem? v.book.closed n ≡ some c → c.ends < number

-- then the answer is the one of its own changes, and never that the passes stopped
abbrev pub SoleAs : (bucket : ℕ) (key : Packet) (least : ℕ) → View → WordsEnd → Type 0
SoleAs bucket key least v (ends.Found h card) =
    CardStands v (words_of card) × NoneStands v bucket key least (rank_of key (words_of card))
SoleAs bucket key least v ends.None = NoneStands v bucket key least 0
SoleAs bucket key least v (ends.Again b stop) = ⊥

-- whatever others do: of what the pass hashed into the bucket before the lookup, each card that is better than the
-- answer, and no TIME_WAIT's, it has begun to unhash
abbrev pub KnownAs : (bucket : ℕ) (key : Packet) (least : ℕ) → View → WordsEnd → (t₀ : ℕ) → Type 0
KnownAs bucket key least v (ends.Found h card) t₀ = NoneKnown v bucket key least (rank_of key (words_of card)) t₀
KnownAs bucket key least v ends.None t₀ = NoneKnown v bucket key least 0 t₀
KnownAs bucket key least v (ends.Again b stop) t₀ = Unit {0}

-- what was found is a card
abbrev pub IsCardEnd : WordsEnd → Type 0
IsCardEnd (ends.Found h card) = IsCardWords (words_of card)
IsCardEnd ends.None = Unit {0}
IsCardEnd (ends.Again b stop) = Unit {0}

-- how a pass stopped: at the end of a bucket of the table, or after one link more than there are slots
abbrev pub IsStopInside : Layout → PassEnd → Type 0
IsStopInside layout (Foreign b) = b < bucket_count layout
IsStopInside layout (Dead i) = Unit {0}
IsStopInside layout (Changed i) = Unit {0}
IsStopInside layout (Long n) = n ≡ layout.shape.slots + 1

-- the slot of what was found is one of the table, so that its count can be put; and so is the bucket at whose end the
-- last pass stopped
abbrev pub IsInside : Layout → WordsEnd → Type 0
IsInside layout (ends.Found h card) = h.slot < layout.shape.slots
IsInside layout ends.None = Unit {0}
IsInside layout (ends.Again b stop) = IsStopInside layout stop

-- an answer with its card by its words
abbrev pub words_end : LookEnd → WordsEnd
words_end (answers.Found h card) = ends.Found h (packed card)
words_end answers.None = ends.None
words_end (answers.Again b stop) = ends.Again b stop
