-- How the tests of pairs of lives are expressed as stays in places, of which no two may run into each other. Our own.
--
-- To be read from the beginning. Public contracts cite `is_below`, `NoneRunsInto`, `clash_of` and `begin_of`, and by
-- these `runs_into`; the rest is of private functions.
use Rattle.std.specs.Prelude.{◌≡◌, ℕ, ◌==◌, ◌&&◌, ◌||◌, not, nat_lt, nat_le, Bool, true, false, List, [], ◌∷◌, ◌++◌, Option, None, Some, if◌then◌else◌}
use Rattle.list_words.specs.Lists.{Pairs}
use Rattle.sock_card.specs.declared.card.Card.{Card}
use Rattle.sock_card.specs.declared.card.Kind.TheVariants as kinds
use Rattle.sock_card.specs.declared.words.CardWords.{CardWords}
use Rattle.sock_card.specs.Words.{packed}
use Rattle.chain_book.specs.Tuples.{is_full_kind}
use Rattle.book_audit.specs.declared.printed.Span.{Span}
use Rattle.book_audit.specs.declared.printed.PrintedLife.{PrintedLife}
use Rattle.book_audit.specs.declared.stays.Stay.{Stay}
use Rattle.book_audit.specs.declared.clashes.Clash.{Clash}
use Rattle.book_audit.specs.declared.clashes.Clash.TheVariants as clashes
use Rattle.book_audit.specs.Lines.{shares_number, overlap, share_slot, are_twins}

abbrev pub is_below : Option ℕ → ℕ → Bool
is_below None n = false
is_below (Some k) n = nat_lt k n

-- both are in one place, and neither is over before the other begins
abbrev pub runs_into : Stay → Stay → Bool
runs_into s t =
    (s.place == t.place) && (s.part == t.part) && not (is_below s.until t.from) && not (is_below t.until s.from)

abbrev pub NoneRunsInto : List Stay → Type 0
NoneRunsInto stays = Pairs (λ (s t : Stay). runs_into s t ≡ false) stays

-- in an earlier place, or in the same one and over before the other begins
abbrev pub comes_first : Stay → Stay → Bool
comes_first s t =
    nat_lt s.place t.place
    || ((s.place == t.place) && (nat_lt s.part t.part || ((s.part == t.part) && is_below s.until t.from)))

abbrev pub is_from : ℕ → Option ℕ → Bool
is_from n None = true
is_from n (Some k) = nat_le n k

-- it doesn't end before it begins
abbrev pub lasts : Stay → Bool
lasts s = is_from s.from s.until

abbrev pub clash_of : Clash → PrintedLife → PrintedLife → Bool
clash_of clashes.Number = shares_number
clash_of clashes.Overlap = overlap
clash_of clashes.Slot = share_slot
clash_of clashes.Twin = are_twins

abbrev pub stay_at : ℕ → Stay
stay_at n = record { place = 0; part = 0; from = n; until = Some n }

abbrev pub stay_in : ℕ → Span → Stay
stay_in bucket s = record { place = bucket; part = 0; from = s.begin; until = Some s.end }

-- each number of a span; the span in the life's bucket
abbrev pub span_stays : Clash → PrintedLife → Span → List Stay
span_stays clashes.Number l s = stay_at s.begin ∷ stay_at s.end ∷ []
span_stays _ l s = stay_in l.bucket s ∷ []

abbrev pub unhash_stays : Clash → PrintedLife → Option Span → List Stay
unhash_stays clash l None = []
unhash_stays clash l (Some s) = span_stays clash l s

abbrev pub begin_of : Option Span → Option ℕ
begin_of None = None
begin_of (Some s) = Some s.begin

-- a full card of the same four-tuple that says no more
abbrev pub bare : Card → Card
bare c = record c { dev = 0; kind = kinds.Full; name = 0; extra = 0; mark = 0 }

-- the words that a four-tuple makes
abbrev pub tuple_words : Card → CardWords
tuple_words c = packed (bare c)

-- the life in its slot, once it is in and until it is on its way out
abbrev pub slot_stay : PrintedLife → Stay
slot_stay l = record { place = l.slot; part = 0; from = l.hash.end; until = begin_of l.unhash }

-- the life at its four-tuple, from its hash on and until it is on its way out
abbrev pub tuple_stay : PrintedLife → Stay
tuple_stay l = record {
  place = (tuple_words l.card).ends;
  part = (tuple_words l.card).ports;
  from = l.hash.begin;
  until = begin_of l.unhash;
}

-- the stays that a life makes of it
abbrev pub stays_of : Clash → PrintedLife → List Stay
stays_of clashes.Number l = span_stays clashes.Number l l.hash ++ unhash_stays clashes.Number l l.unhash
stays_of clashes.Overlap l = span_stays clashes.Overlap l l.hash ++ unhash_stays clashes.Overlap l l.unhash
stays_of clashes.Slot l = slot_stay l ∷ []
stays_of clashes.Twin l = if is_full_kind l.card.kind then tuple_stay l ∷ [] else []
