-- A run's events are its commands and its items, each once, and each has a reply; a dump has a listing.
use Rattle.std.proofs.Common.{◌≡◌, ℕ, ◌+◌, suc, ◌∙◌, Bool, false, not, cond, List, [], ◌∷◌, ◌++◌, length, map, take, drop, filter, refl, sym, ap, arith}
use Rattle.std.proofs.lemmas.Grind.{common_steps}
use Rattle.std.specs.Prelude.{count_by}
use Rattle.std.specs.List.{filter_map}
use Rattle.std.proofs.lemmas.List.Sums.{sum_by-cons}
use Rattle.capture_reader.specs.declared.packet.Item.{Item}
use Rattle.flat_list.specs.declared.command.Command.{Command}
use Rattle.flat_list.specs.declared.command.Command.TheVariants as commands
use Rattle.flat_list.specs.Flat.{Flat, new_flat}
use Rattle.flat_list.specs.Run.{Issued}
use Rattle.flat_list.specs.Step.{step}
use Rattle.socket_list.specs.Listing.{Listing}
use Rattle.sock_script.specs.Output.{Event, asked, stored, events_at, events_from, items_after, replies_from, listings_at, listings_from, is_dump, issued}
use Rattle.sock_script.proofs.Events.{items_listed}
use Rattle.rule_laws.specs.Events.{asked_in, stored_in, is_packets, is_answered, asks_list, AreAll, EventsAreAll, RepliesAreAll, ListingsAreAll}

as_many : (flat : Flat) (events : List Event) → length (replies_from flat events) ≡ length events
as_many flat [] = refl
as_many flat (asked c ∷ events) = ap (λ k. suc k) (as_many (step flat c.section c.command).flat events)
as_many flat (stored item ∷ events) = ap (λ k. suc k) (as_many flat events)

pub replies_are_all : RepliesAreAll
replies_are_all script items = as_many (new_flat script.header) (events_from items (issued script))

-- items alone
only_items : (items : List Item) → filter_map stored_in (map stored items) ≡ items
only_items [] = refl
only_items (x ∷ xs) = ap (λ ys. x ∷ ys) (only_items xs)

no_commands : (items : List Item) → filter_map asked_in (map stored items) ≡ []
no_commands [] = refl
no_commands (x ∷ xs) = no_commands xs

items_before : (items : List Item) (events : List Event) → filter_map stored_in (map stored items ++ events) ≡ items ++ filter_map stored_in events
items_before [] events = refl
items_before (x ∷ xs) events = ap (λ ys. x ∷ ys) (items_before xs events)

commands_behind : (items : List Item) (events : List Event) → filter_map asked_in (map stored items ++ events) ≡ filter_map asked_in events
commands_behind [] events = refl
commands_behind (x ∷ xs) events = commands_behind xs events

parts : {A : Type 0} (count : ℕ) (xs : List A) → take count xs ++ drop count xs ≡ xs
parts count xs = grind (arith, common_steps)

-- what comes first is counted, and so is the rest
module _ (c : Issued) (rest : List Issued) (left : List Item) (next : (items : List Item) → AreAll (events_from items rest) items rest) where
  abbrev All : Command → Type 0
  All command = AreAll (events_at c command left ++ events_from (items_after command left) rest) left (c ∷ rest)

  answered_if : (command : Command) → c.command ≡ command → filter is_answered (c ∷ rest) ≡ cond (not (is_packets command)) (c ∷ filter is_answered rest) (filter is_answered rest)
  answered_if command e = ap (λ (d : Command). cond (not (is_packets d)) (c ∷ filter is_answered rest) (filter is_answered rest)) e

  asked_first : (command : Command) → c.command ≡ command → is_packets command ≡ false → events_at c command left ≡ asked c ∷ [] → items_after command left ≡ left → All command
  asked_first command e is alone stays = record {
    looked = rw (alone, stays) (next left).looked;
    carried = rw (alone, stays) (ap (λ cs. c ∷ cs) (next left).carried ∙ sym (answered_if command e ∙ ap (λ (b : Bool). cond (not b) (c ∷ filter is_answered rest) (filter is_answered rest)) is));
  }

  stored_first : (count : ℕ) → c.command ≡ commands.Packets count → All (commands.Packets count)
  stored_first count e = record {
    looked =
        items_before (take count left) (events_from (drop count left) rest)
        ∙ ap (λ xs. take count left ++ xs) (next (drop count left)).looked ∙ parts count left;
    carried =
        commands_behind (take count left) (events_from (drop count left) rest) ∙ (next (drop count left)).carried
        ∙ sym (answered_if (commands.Packets count) e);
  }

  first : (command : Command) → c.command ≡ command → All command
  first (commands.Packets count) e = stored_first count e
  first _ e = asked_first _ e refl refl refl

pub events_are_all : EventsAreAll
events_are_all items [] = record { looked = only_items items; carried = no_commands items }
events_are_all items (c ∷ rest) = first c rest items (λ left. events_are_all left rest) c.command refl

-- Listings

none_listed : (flat : Flat) (items : List Item) → length (listings_from flat (map stored items)) ≡ 0
none_listed flat [] = refl
none_listed flat (x ∷ xs) = none_listed flat xs

-- how many listings a command has
abbrev lists : Command → ℕ
lists command = cond (is_dump command) 1 0

one_more : (flat : Flat) (command : Command) (more : List Listing) → length (listings_at flat command ++ more) ≡ lists command + length more
one_more flat commands.Dump more = omega arith
one_more flat _ more = omega arith

module _ (flat : Flat) (c : Issued) (rest : List Issued) (left : List Item) (next : (flat : Flat) (items : List Item) → length (listings_from flat (events_from items rest)) ≡ count_by asks_list rest) where
  abbrev Listed : Command → Type 0
  Listed command = length (listings_from flat (events_at c command left ++ events_from (items_after command left) rest)) ≡ lists command + count_by asks_list rest

  asked_lists : (command : Command) → c.command ≡ command → events_at c command left ≡ asked c ∷ [] → items_after command left ≡ left → Listed command
  asked_lists command e alone stays =
      let later : Flat = (step flat c.section c.command).flat in
      let here : length (listings_at flat c.command ++ listings_from later (events_from left rest)) ≡ lists c.command + length (listings_from later (events_from left rest)) = one_more flat c.command (listings_from later (events_from left rest)) in
      rw (alone, stays) (omega (arith, here, next later left, ap lists e))

  lists_first : (command : Command) → c.command ≡ command → Listed command
  lists_first (commands.Packets count) e =
      ap (λ (xs : List Listing). length xs) (items_listed flat (take count left) (events_from (drop count left) rest))
      ∙ next flat (drop count left) ∙ omega arith
  lists_first _ e = asked_lists _ e refl refl

lists_from : (commands : List Issued) (flat : Flat) (items : List Item) → length (listings_from flat (events_from items commands)) ≡ count_by asks_list commands
lists_from [] flat items = none_listed flat items
lists_from (c ∷ rest) flat items =
    lists_first flat c rest items (lists_from rest) c.command refl ∙ sym (sum_by-cons (λ (d : Issued). cond {A = ℕ} (asks_list d) 1 0) c rest)

pub listings_are_all : ListingsAreAll
listings_are_all script items = lists_from (issued script) (new_flat script.header) items
