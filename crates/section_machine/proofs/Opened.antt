-- The open sockets of a section, by their places and by their numbers.
use Rattle.std.proofs.Common.{◌≡◌, ℕ, zero, suc, ◌+◌, ◌-◌, ◌*◌, ◌<◌, ◌≤◌, ◌^◌, List, [], ◌∷◌, length, Option, Some, None, is_some, true, false, refl, sym, ap, ◌∙◌, arith}
use mathlib.Core.Logic.{dite}
use Rattle.std.proofs.Math.Decide.{dec_le}
use Rattle.std.proofs.lemmas.Bool.{false≢true}
use Rattle.std.proofs.lemmas.List.{get_or_past}
use Rattle.std.specs.List.{slice_index_or}
use Rattle.std.specs.Option.{SomeIff, option_map}
use Rattle.std.specs.Prelude.{MatchOption, option_and_then}
use Rattle.open_places.specs.Cells.{AreEmptyFrom, IsNextFull}
use Rattle.flat_list.specs.Sections.{name_at}
use Rattle.table_model.specs.Own.{Mine, Offsets, open_named}
use Rattle.sock_ops.specs.declared.sock.Sock.{Sock}
use Rattle.sock_ops.specs.Socks.{mine_of}
use Rattle.section_machine.specs.Opened.{NoneAbove, IsNextOpen}
use Rattle.section_machine.specs.Places.{Labelled, HaveNames, KeepsLabels, at_place, mines, own_of, those}
use Rattle.section_machine.proofs.Places.{named_there, none_before}

-- what stands at a place, of sockets and of what they are seen as

pub at_mines : (cells : List (Option Sock)) (i : ℕ) → at_place (mines cells) i ≡ option_map mine_of (slice_index_or cells i None)
at_mines [] i = refl
at_mines (x ∷ cells) zero = refl
at_mines (x ∷ cells) (suc i) = at_mines cells i

some_mine : (o : Option Sock) → is_some (option_map mine_of o) ≡ is_some o
some_mine None = refl
some_mine (Some s) = refl

pub empty_mines : (cells : List (Option Sock)) (first : ℕ) → AreEmptyFrom cells first → AreEmptyFrom (mines cells) first
empty_mines cells first empty i l = at_mines cells i ∙ ap (option_map mine_of) (empty i l)

pub next_mine : (cells : List (Option Sock)) (first place : ℕ) → IsNextFull cells first place → IsNextFull (mines cells) first place
next_mine cells first place next = record {
  from = next.from;
  full = ap is_some (at_mines cells place) ∙ some_mine (slice_index_or cells place None) ∙ next.full;
  between = λ i l b. at_mines cells i ∙ ap (option_map mine_of) (next.between i l b);
}

pub next_among : (cells : List (Option Sock)) (first : ℕ) (r : Option ℕ) → MatchOption r (AreEmptyFrom cells first) (IsNextFull cells first)
    → MatchOption r (AreEmptyFrom (mines cells) first) (IsNextFull (mines cells) first)
next_among cells first None empty = empty_mines cells first empty
next_among cells first (Some place) next = next_mine cells first place next

pub within : (cells : List (Option Sock)) (first place : ℕ) → IsNextFull cells first place → place < length cells
within cells first place next = dite (dec_le (length cells) place)
    (λ l. absurd (false≢true (sym (ap is_some (get_or_past cells place None l)) ∙ next.full)))
    (λ l. omega (arith, l))

-- what a number names stands at the place before it
module _ (l : Labelled) (names : HaveNames (name_at l.number) l.places) (moment : ℕ) (offsets : Offsets) (waits : List Mine) where
  at_number : (n : ℕ) → 1 ≤ n → open_named (own_of l moment offsets waits) (l.number * 2 ^ 56 + n) ≡ at_place l.places (n - 1)
  at_number n some = named_there l (l.number * 2 ^ 56 + n) (n - 1) (omega (arith, some)) names

  pub socket_at : (number : ℕ) (place : Option ℕ) → SomeIff place (1 ≤ number) (number - 1) → open_named (own_of l moment offsets waits) (l.number * 2 ^ 56 + number) ≡ option_and_then (at_place l.places) place
  socket_at number None none = none_before l (l.number * 2 ^ 56 + number) (λ h. none (omega (arith, h))) names
  socket_at number (Some place) is = at_number number is.0 ∙ ap (at_place l.places) (sym is.1)

  pub none_above : (after : ℕ) → AreEmptyFrom l.places after → NoneAbove (own_of l moment offsets waits) after
  none_above after empty n above = at_number n (omega (arith, above)) ∙ empty (n - 1) (omega (arith, above))

  pub next_open : (after place : ℕ) → IsNextFull l.places after place → place < length l.labels → IsNextOpen (own_of l moment offsets waits) after (place + 1)
  next_open after place next given = record {
    above = let from = next.from in omega (arith, from);
    given = omega (arith, given);
    opens =
        ap is_some (at_number (place + 1) (omega arith) ∙ ap (at_place l.places) (let z : place + 1 - 1 ≡ place = omega arith in z)) ∙ next.full;
    first = λ n above before. at_number n (omega (arith, above)) ∙ next.between (n - 1) (omega (arith, above)) (omega (arith, above, before));
  }

-- a section's own doesn't tell which places are kept
pub own_kept : (old new : Labelled) → KeepsLabels old new → (moment : ℕ) (offsets : Offsets) (waits : List Mine) → own_of new moment offsets waits ≡ own_of old moment offsets waits
own_kept old new same moment offsets waits = λ i. record {
  number = same.number i;
  labels = same.labels i;
  mark = same.mark i;
  moment = moment;
  offsets = offsets;
  sockets = those (same.places i);
  waits = waits;
}

pub kept_twice : (a b c : Labelled) → KeepsLabels a b → KeepsLabels b c → KeepsLabels a c
kept_twice a b c first second = record {
  number = second.number ∙ first.number;
  mark = second.mark ∙ first.mark;
  labels = second.labels ∙ first.labels;
  places = second.places ∙ first.places;
}
