-- What the steps of reading, of running and of writing a script give: our own. Of public contracts, that of
-- `other_of` cites `IsCommand`, those of `Labels` cite `label_table` and `label_at`, that of `put_listing` cites
-- `label_at`, and no other cites this file.
--
-- In three parts: of reading, up to `EndAnswer`; of running, from `takes_items` to `RunsSection`; of writing, from
-- `label_table` on.
use Rattle.std.specs.Prelude.{◌≡◌, ◌⊎◌, ℕ, ◌+◌, ◌/◌, ◌%◌, ◌^◌, Bool, true, false, not, bytes_eq, Option, Some, None, if◌then◌else◌, unwrap_or, slice_get, List, [], ◌∷◌, ◌++◌, ◌≤◌, map, take, drop, min, length}
use Rattle.std.specs.List.{flat_map, list_any, slice_index_or}
use Rattle.capture_reader.specs.declared.packet.Item.{Item}
use Rattle.flat_list.specs.declared.command.Command.{Command}
use Rattle.flat_list.specs.declared.command.Command.TheVariants as commands
use Rattle.flat_list.specs.declared.command.Reply.{Reply}
use Rattle.flat_list.specs.declared.command.Reply.TheVariants as replies
use Rattle.flat_list.specs.Flat.{Flat}
use Rattle.flat_list.specs.Run.{Issued, after}
use Rattle.flat_list.specs.Sections.{KeepsOthers}
use Rattle.flat_list.specs.Step.{step}
use Rattle.socket_list.specs.Listing.{Listing}
use Rattle.sock_script.specs.declared.parse.Mode.{Mode}
use Rattle.sock_script.specs.declared.parse.ScriptEnd.{ScriptEnd}
use Rattle.sock_script.specs.declared.parse.ScriptEnd.TheVariants as ends
use Rattle.sock_script.specs.declared.line.Line.{Line}
use Rattle.sock_script.specs.declared.line.Line.TheVariants as lines
use Rattle.sock_script.specs.Forms.{HasForm}
use Rattle.sock_script.specs.Grammar.{IsFirstOutside, given_labels}
use Rattle.sock_script.specs.Reading.{Draft, Follows, ReadsLine}
use Rattle.sock_script.specs.Shown.{shown}
use Rattle.sock_script.specs.Output.{Replies, Event, asked, stored, events_from, item_reply, replies_from, listings_from, line_with, item_line, is_dump, listing_text, listings_after}

-- the line is one of a command
abbrev pub IsCommand : Line → Type 0
IsCommand (lines.Command command) = Unit {0}
IsCommand _ = ⊥

-- what adding a line gives: whether it may follow, and what the lines have made then
abbrev pub Adds : Mode → Draft → Line → Draft → Bool → Type 0
Adds mode old line new true = Follows mode old line new
Adds mode old line new false = (next : Draft) → Follows mode old line next → ⊥

-- no label, or one that isn't among those
abbrev pub is_new_among : Option (List ℕ) → List (List ℕ) → Bool
is_new_among None labels = true
is_new_among (Some label) labels = not (list_any (bytes_eq label) labels)

-- what reading a line gives: whether it is in the grammar after the others, and what they have made then
abbrev pub LineAnswer : Mode → Draft → List ℕ → Draft → Bool → Type 0
LineAnswer mode old text new true = ReadsLine mode old text new
LineAnswer mode old text new false = (next : Draft) → ReadsLine mode old text next → ⊥

-- what reading the words of a line that is no command gives: they have a form, whose line may follow or not, or
-- they have none, unless they are a command
abbrev pub OtherAnswer : Mode → Draft → List (List ℕ) → Draft → Bool → Type 0
OtherAnswer mode old words new follows =
    ((line : Line) × HasForm words line × Adds mode old line new follows)
    ⊎ ((follows ≡ false) × ((line : Line) → HasForm words line → IsCommand line))

-- a bad line is the first outside; want of memory says nothing
abbrev pub EndAnswer : Mode → List (List ℕ) → ScriptEnd → Type 0
EndAnswer mode texts (ends.BadLine n) = IsFirstOutside mode texts n
EndAnswer mode texts ends.Memory = Unit {0}

-- a command that comes to items of the capture
abbrev pub takes_items : Command → Bool
takes_items (commands.Packets count) = true
takes_items _ = false

-- the commands of section n
abbrev pub issue : ℕ → List Command → List Issued
issue n commands = map (λ command. record { section = n; command = command }) commands

-- what is shown of what is replied to an item, as the list stands
abbrev pub item_shown : Flat → Item → Reply
item_shown flat item = shown (item_reply flat item)

-- what is shown of what the flat list replies to events, one after the other
abbrev pub shown_from : Flat → List Event → List Reply
shown_from flat events = map shown (replies_from flat events)

-- Events were come to from the list `old` with these items on, and replied to: what was shown, with what will be of
-- the replies to whatever commands come later, is what is shown of the list's replies to these commands and those
-- later ones.
abbrev pub RepliesSo : Flat → Flat → List Issued → List Item → List Item → List Reply → List Reply → Type 0
RepliesSo old new commands items left before out =
    (later : List Issued)
    → out ++ shown_from new (events_from left later) ≡ before ++ shown_from old (events_from items (commands ++ later))

-- the same of what they list
abbrev pub ListsSo : Flat → Flat → List Issued → List Item → List Item → List Listing → List Listing → Type 0
ListsSo old new commands items left before out =
    (later : List Issued)
    → out ++ listings_from new (events_from left later) ≡ before
    ++ listings_from old (events_from items (commands ++ later))

-- one command more was run, and the list is as the step leaves it
pub record RunsCommand (old new : Flat) (n : ℕ) (command : Command) (items left : List Item)
    (before out : Replies) : Type 0 where
  pub replied : RepliesSo old new (issue n (command ∷ [])) items left before.each out.each
  pub listed : ListsSo old new (issue n (command ∷ [])) items left before.listings out.listings
  pub flat : new ≡ (step old n command).flat

-- a section was run, which gave no labels in others
pub record RunsSection (old new : Flat) (n : ℕ) (commands : List Command) (items left : List Item)
    (before out : Replies) : Type 0 where
  pub replied : RepliesSo old new (issue n commands) items left before.each out.each
  pub listed : ListsSo old new (issue n commands) items left before.listings out.listings
  pub flat : new ≡ after old (issue n commands)
  pub others : KeepsOthers n old.sections new.sections

-- the labels of some sections, by the numbers of the section and of the label in it, both from 1
abbrev pub label_table : List (List Command) → List (List (List ℕ))
label_table sections = map (λ section. [] ∷ given_labels section) ([] ∷ sections)

-- the label of a name in such a table, or none
abbrev pub label_at : List (List (List ℕ)) → ℕ → List ℕ
label_at table name = unwrap_or (slice_get (slice_index_or table (name / 2 ^ 56) []) (name % 2 ^ 56)) []

-- the label of the socket that a reply names, or none
abbrev pub found_at : List (List (List ℕ)) → Reply → List ℕ
found_at table (replies.Found (Some card)) = label_at table card.name
found_at table _ = []

-- the lines of a command, where the table has the labels
abbrev pub command_at : List (List (List ℕ)) → Issued → Reply → List Listing → List ℕ
command_at table c reply listings =
    if is_dump c.command then flat_map (listing_text (label_at table) c.section) (take 1 listings)
    else line_with c.section c.command (found_at table reply) reply

-- the lines of events, with their replies and listings, where the table has the labels, and the next item has that
-- number
abbrev pub lines_at : List (List (List ℕ)) → ℕ → List Event → List Reply → List Listing → List ℕ
lines_at table number (asked c ∷ events) (reply ∷ rest) listings =
    command_at table c reply listings ++ lines_at table number events rest (listings_after c.command listings)
lines_at table number (stored item ∷ events) (reply ∷ rest) listings =
    item_line number (found_at table reply) reply ++ lines_at table (number + 1) events rest listings
lines_at table number _ _ listings = []

-- the lines of replies to items alone
abbrev pub item_lines : List (List (List ℕ)) → ℕ → List Reply → List ℕ
item_lines table number [] = []
item_lines table number (reply ∷ rest) =
    item_line number (found_at table reply) reply ++ item_lines table (number + 1) rest

-- what isn't written yet: the number of the next item, the items that are left, the replies, and the listings
pub record Unwritten : Type 0 where
  pub number : ℕ
  pub items : List Item
  pub replies : List Reply
  pub listings : List Listing

-- the next reply was taken
pub record NextOf (old : Unwritten) (reply : Reply) (new : Unwritten) : Type 0 where
  pub replies : old.replies ≡ reply ∷ new.replies
  pub number : new.number ≡ old.number
  pub items : new.items ≡ old.items
  pub listings : new.listings ≡ old.listings

-- the next listing was taken
pub record NextListingOf (old : Unwritten) (listing : Listing) (new : Unwritten) : Type 0 where
  pub listings : old.listings ≡ listing ∷ new.listings
  pub number : new.number ≡ old.number
  pub items : new.items ≡ old.items
  pub replies : new.replies ≡ old.replies

-- so many items were taken, or those that were left, and the replies to them, as far as there are any
pub record TakenOf (old : Unwritten) (count : ℕ) (here : List Reply) (new : Unwritten) : Type 0 where
  pub replies : old.replies ≡ here ++ new.replies
  pub most : length here ≡ min (min count (length old.items)) (length old.replies)
  pub number : new.number ≡ old.number + min count (length old.items)
  pub items : new.items ≡ drop count old.items
  pub listings : new.listings ≡ old.listings

-- the number of an item never passes that of the last by more than one
abbrev pub HasRoom : Unwritten → Unwritten → Type 0
HasRoom old new = new.number + length new.items ≤ old.number + length old.items

-- the lines of events, with what isn't written yet
abbrev pub lines_left : List (List (List ℕ)) → List Event → Unwritten → List ℕ
lines_left table events left = lines_at table left.number events left.replies left.listings

-- the lines of what the next `dump` of section n lists were written, if a listing is left
pub record WritesDump (table : List (List (List ℕ))) (n : ℕ) (old : Unwritten) (before out : List ℕ)
    (new : Unwritten) : Type 0 where
  pub lines : out ≡ before ++ flat_map (listing_text (label_at table) n) (take 1 old.listings)
  pub left : new ≡ record old { listings = drop 1 old.listings }

-- the lines of the next items were written, as many as that or as were left
pub record WritesItems (table : List (List (List ℕ))) (count : ℕ) (old : Unwritten) (before out : List ℕ)
    (new : Unwritten) : Type 0 where
  pub lines : (events : List Event)
      → out ++ lines_left table events new ≡ before
      ++ lines_left table (map stored (take count old.items) ++ events) old
  pub items : new.items ≡ drop count old.items
  pub room : HasRoom old new

-- what was written, with the lines of whatever commands come later, is the lines of these commands and those later ones
abbrev pub WritesSo : List (List (List ℕ)) → List Issued → Unwritten → Unwritten → List ℕ → List ℕ → Type 0
WritesSo table commands old new before out =
    (later : List Issued)
    → out ++ lines_left table (events_from new.items later) new
    ≡ before ++ lines_left table (events_from old.items (commands ++ later)) old

-- and the items keep room for their numbers
pub record Writes (table : List (List (List ℕ))) (commands : List Issued) (old : Unwritten) (before out : List ℕ)
    (new : Unwritten) : Type 0 where
  pub lines : WritesSo table commands old new before out
  pub room : HasRoom old new
