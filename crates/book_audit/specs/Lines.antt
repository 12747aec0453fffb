-- The tests of the lines of lives: our own, after the rules by which a book of changes is serial.
--
-- To be read from the beginning: one test after the other, each below its parts.
use Rattle.std.specs.Prelude.{◌≡◌, ℕ, ◌==◌, ◌&&◌, ◌||◌, not, nat_lt, Bool, true, false, List, Option, None, Some}
use Rattle.list_words.specs.Lists.{Each, Pairs}
use Rattle.chain_book.specs.declared.shape.Shape.{Shape}
use Rattle.chain_book.specs.Homes.{home}
use Rattle.chain_book.specs.Tuples.{same_cards, is_full_kind}
use Rattle.book_audit.specs.declared.printed.Span.{Span}
use Rattle.book_audit.specs.declared.printed.PrintedLife.{PrintedLife}

-- no two lines clash
abbrev pub NoTwo : (PrintedLife → PrintedLife → Bool) → List PrintedLife → Type 0
NoTwo clash lives = Pairs (λ (l m : PrintedLife). clash l m ≡ false) lives

-- the unhash of a life passes the test, if it has one
abbrev pub passes : (Span → Bool) → Option Span → Bool
passes test None = false
passes test (Some s) = test s

-- some change of the life does
abbrev pub some_span : (Span → Bool) → PrintedLife → Bool
some_span test l = test l.hash || passes test l.unhash

-- a change begins before it ends, and below the clock
abbrev pub is_span : ℕ → Span → Bool
is_span clock s = nat_lt s.begin s.end && nat_lt s.end clock

abbrev pub ends_after : Span → ℕ → Option Span → Bool
ends_after hash clock None = true
ends_after hash clock (Some s) = nat_lt hash.end s.begin && is_span clock s

-- the numbers of a life ascend, and are below the clock
abbrev pub ascends : ℕ → PrintedLife → Bool
ascends clock l = is_span clock l.hash && ends_after l.hash clock l.unhash

-- two changes have a number in common
abbrev pub share : Span → Span → Bool
share s t = (s.begin == t.begin) || (s.begin == t.end) || (s.end == t.begin) || (s.end == t.end)

abbrev pub shares_number : PrintedLife → PrintedLife → Bool
shares_number l m = some_span (λ s. some_span (share s) m) l

-- the numbers of the clock: those of each life ascend and are below the clock, and no two lives share one
pub record AreStamped (clock : ℕ) (lives : List PrintedLife) : Type 0 where
  pub ascend : Each (λ (l : PrintedLife). ascends clock l ≡ true) lives
  pub differ : NoTwo shares_number lives

-- the life stands in its card's home
abbrev pub is_home : Shape → ℕ → PrintedLife → Bool
is_home shape seed l = l.bucket == home shape seed l.card

abbrev pub AreHoused : Shape → ℕ → List PrintedLife → Type 0
AreHoused shape seed lives = Each (λ (l : PrintedLife). is_home shape seed l ≡ true) lives

-- neither change ends before the other begins
abbrev pub meet : Span → Span → Bool
meet s t = not (nat_lt s.end t.begin) && not (nat_lt t.end s.begin)

-- in one bucket a change of the one meets a change of the other
abbrev pub overlap : PrintedLife → PrintedLife → Bool
overlap l m = (l.bucket == m.bucket) && some_span (λ s. some_span (meet s) m) l

-- the life is on its way out before that number: it has an unhash that begins before it
abbrev pub is_out : PrintedLife → ℕ → Bool
is_out l t = passes (λ s. nat_lt s.begin t) l.unhash

-- in one slot neither is on its way out before the other is in
abbrev pub share_slot : PrintedLife → PrintedLife → Bool
share_slot l m = (l.slot == m.slot) && not (is_out l m.hash.end) && not (is_out m l.hash.end)

abbrev pub begins_after : ℕ → Option Span → Bool
begins_after t None = true
begins_after t (Some s) = nat_lt t s.begin

-- the one is hashed before the other is on its way out, if it ever is
abbrev pub comes_in_time : PrintedLife → PrintedLife → Bool
comes_in_time l m = begins_after l.hash.begin m.unhash

abbrev pub are_full : PrintedLife → PrintedLife → Bool
are_full l m = is_full_kind l.card.kind && is_full_kind m.card.kind

-- full cards of one four-tuple, each hashed before the other is on its way out
abbrev pub are_twins : PrintedLife → PrintedLife → Bool
are_twins l m = are_full l m && same_cards l.card m.card && comes_in_time l m && comes_in_time m l
