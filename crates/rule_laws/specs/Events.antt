-- Of what a run consists, and how many replies and listings it has: our own laws.
use Rattle.std.specs.Prelude.{◌≡◌, Bool, true, false, not, List, Option, Some, None, filter, length, count_by}
use Rattle.std.specs.List.{filter_map}
use Rattle.capture_reader.specs.declared.packet.Item.{Item}
use Rattle.flat_list.specs.declared.command.Command.{Command}
use Rattle.flat_list.specs.declared.command.Command.TheVariants as commands
use Rattle.flat_list.specs.Run.{Issued}
use Rattle.flat_list.specs.Script.{Script}
use Rattle.sock_script.specs.Output.{Event, asked, stored, events_from, flat_replies, flat_listings, is_dump, issued}

-- the command of an event, if it is one
abbrev pub asked_in : Event → Option Issued
asked_in (asked c) = Some c
asked_in (stored item) = None

-- the item of an event, if it is one
abbrev pub stored_in : Event → Option Item
stored_in (asked c) = None
stored_in (stored item) = Some item

abbrev pub is_packets : Command → Bool
is_packets (commands.Packets count) = true
is_packets _ = false

-- a command that has a reply of its own
abbrev pub is_answered : Issued → Bool
is_answered c = not (is_packets c.command)

-- each item of a capture is looked up once, and each command but `packets` is carried out once, both in their order
pub record AreAll (events : List Event) (items : List Item) (commands : List Issued) : Type 0 where
  pub looked : filter_map stored_in events ≡ items
  pub carried : filter_map asked_in events ≡ filter is_answered commands

abbrev pub EventsAreAll : Type 0
EventsAreAll = (items : List Item) (commands : List Issued) → AreAll (events_from items commands) items commands

-- there are as many replies as events
abbrev pub RepliesAreAll : Type 0
RepliesAreAll =
    (script : Script) (items : List Item)
    → length (flat_replies script items) ≡ length (events_from items (issued script))

abbrev pub asks_list : Issued → Bool
asks_list c = is_dump c.command

-- there are as many listings as dumps
abbrev pub ListingsAreAll : Type 0
ListingsAreAll =
    (script : Script) (items : List Item) → length (flat_listings script items) ≡ count_by asks_list (issued script)
