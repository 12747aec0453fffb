-- What `inet run` writes for a script: a format of our own. A refusal is written as the name of its errno.
--
-- To be read from `FlatOut`, near the end, upwards: the text is a script with a capture, `script_text` is what is
-- written for it, and the flat list's replies and listings are `flat_replies` and `flat_listings`.
use Rattle.std.specs.Prelude.{◌≡◌, ℕ, ◌+◌, ◌/◌, ◌%◌, ◌^◌, Bool, true, false, List, [], ◌∷◌, ◌++◌, ◌≤◌, ◌==◌, if◌then◌else◌, length, map, take, drop, codes, decimal, Option, Some, None, unwrap_or, slice_get}
use Rattle.std.specs.List.{flat_map, slice_index_or}
use Rattle.capture_reader.specs.declared.packet.Item.{Item}
use Rattle.capture_reader.specs.declared.packet.Item.TheVariants as items
use Rattle.capture_reader.specs.Captures.{Capture}
use Rattle.capture_reader.specs.Grammar.{IsCapture}
use Rattle.sock_card.specs.declared.card.Card.{Card}
use Rattle.sock_card.specs.declared.card.Kind.{Kind}
use Rattle.sock_card.specs.declared.card.Kind.TheVariants as kinds
use Rattle.inet_io.specs.Texts.{end_text}
use Rattle.flat_list.specs.declared.command.Command.{Command}
use Rattle.flat_list.specs.declared.command.Command.TheVariants as commands
use Rattle.flat_list.specs.declared.command.Reply.{Reply}
use Rattle.flat_list.specs.declared.command.Reply.TheVariants as replies
pub use Rattle.flat_list.specs.Flat.{new_flat}
use Rattle.flat_list.specs.Flat.{Flat}
use Rattle.flat_list.specs.Listed.{listed}
use Rattle.flat_list.specs.Look.{look}
use Rattle.flat_list.specs.Run.{Issued}
use Rattle.flat_list.specs.Step.{step}
use Rattle.flat_list.specs.Script.{Script, IsSmall}
use Rattle.flat_list.specs.Sound.{IsSound}
use Rattle.list_words.specs.Lists.{Each}
use Rattle.socket_list.specs.Listing.{Listing}
use Rattle.socket_list.specs.declared.listing.Span.{Span}
use Rattle.sock_script.specs.declared.parse.Mode.{Mode}
use Rattle.sock_script.specs.declared.parse.Mode.TheVariants as modes
use Rattle.sock_script.specs.Grammar.{IsScript, given_labels, capture_bytes, capture_device, capture_namespace}

-- the word for a kind of socket
abbrev pub kind_word : Kind → List ℕ
kind_word kinds.Full = codes "full"
kind_word kinds.TimeWait = codes "time-wait"
kind_word kinds.Listen = codes "listen"
kind_word kinds.Request = codes "request"

-- the reply of a lookup, where the socket that was found has that label
abbrev pub answer_with : List ℕ → Option Card → List ℕ
answer_with label None = codes "none"
answer_with label (Some card) =
    kind_word card.kind ++ codes " " ++ decimal (card.name / 2 ^ 56) ++ codes "." ++ label

-- two numbers, with a space before each
abbrev pub two_numbers : ℕ → ℕ → List ℕ
two_numbers owned held = codes " " ++ decimal owned ++ codes " " ++ decimal held

-- a reply, where the socket that was found has that label
abbrev pub reply_with : List ℕ → Reply → List ℕ
reply_with label replies.Ok = codes "ok"
reply_with label (replies.Port port) = codes "ok " ++ decimal port
reply_with label (replies.End end) = codes "ok " ++ end_text end.addr end.port
reply_with label replies.TimeWait = codes "ok time-wait"
reply_with label (replies.NoSlot owned held) = codes "ok no-slot" ++ two_numbers owned held
reply_with label (replies.Count count) = codes "ok " ++ decimal count
reply_with label (replies.Found answer) = answer_with label answer
reply_with label replies.Skip = codes "skip"
reply_with label replies.Short = codes "short"
reply_with label replies.Ebadf = codes "EBADF"
reply_with label replies.Einval = codes "EINVAL"
reply_with label replies.Eisconn = codes "EISCONN"
reply_with label replies.Eaddrinuse = codes "EADDRINUSE"
reply_with label replies.Eaddrnotavail = codes "EADDRNOTAVAIL"
reply_with label replies.Emfile = codes "EMFILE"
reply_with label (replies.Enfile owned held) = codes "ENFILE" ++ two_numbers owned held

-- the label of a name: the section in it gave that label as its k-th, k being the number in it, from 1; none where
-- there is no such label
abbrev pub label_in : List (List Command) → ℕ → List ℕ
label_in sections name =
    unwrap_or (slice_get ([] ∷ given_labels (slice_index_or ([] ∷ sections) (name / 2 ^ 56) [])) (name % 2 ^ 56)) []

-- the label of the socket that a reply names, or none
abbrev pub found_label : List (List Command) → Reply → List ℕ
found_label sections (replies.Found (Some card)) = label_in sections card.name
found_label sections _ = []

-- a command's verb, and the word that its line shows, if it shows one
abbrev pub subject_text : Command → List ℕ
subject_text (commands.Socket label options) = codes "socket " ++ label
subject_text (commands.Bind label end) = codes "bind " ++ label
subject_text (commands.Listen label) = codes "listen " ++ label
subject_text (commands.Connect label from to) = codes "connect " ++ label
subject_text (commands.Accept listener label from at) = codes "accept " ++ label
subject_text (commands.Syn listener label from at) = codes "syn " ++ label
subject_text (commands.Ack request label) = codes "ack " ++ label
subject_text (commands.Close label) = codes "close " ++ label
subject_text (commands.Drop label) = codes "drop " ++ label
subject_text (commands.At moment) = codes "at " ++ decimal moment
subject_text commands.Reap = codes "reap"
subject_text (commands.Look query) = codes "look"
subject_text (commands.Packets count) = codes "packets"
subject_text commands.Dump = codes "dump"

-- the namespace of what isn't in the first one, 0
abbrev pub net_text : ℕ → List ℕ
net_text net = if net == 0 then [] else codes " net " ++ decimal net

-- a device, and the namespace
abbrev pub dev_text : ℕ → ℕ → List ℕ
dev_text dev net = codes " dev " ++ decimal dev ++ net_text net

-- a card with its ends, its device and its namespace, where its name has that label
abbrev pub whole_card_with : List ℕ → Card → List ℕ
whole_card_with label card =
    answer_with label (Some card) ++ codes " " ++ end_text card.local card.lport ++ codes " "
    ++ end_text card.remote card.rport
    ++ dev_text card.dev card.net

-- the loads of the clock between which sockets were listed, where others might be at the tables
abbrev pub span_text : Option Span → List ℕ
span_text None = []
span_text (Some span) = codes " t0 " ++ decimal span.t0 ++ codes " t1 " ++ decimal span.t1

-- the line of one socket that section n lists
abbrev pub socket_line : (ℕ → List ℕ) → ℕ → Card → List ℕ
socket_line label_of n card = decimal n ++ codes " item " ++ whole_card_with (label_of card.name) card ++ codes "\n"

-- the lines of what section n lists: how many sockets, and each of them
abbrev pub listing_text : (ℕ → List ℕ) → ℕ → Listing → List ℕ
listing_text label_of n listing =
    decimal n ++ codes " dump " ++ decimal (length listing.cards) ++ span_text listing.span ++ codes "\n"
    ++ flat_map (socket_line label_of n) listing.cards

-- the line of a command of section n, where the socket that was found has that label
abbrev pub line_with : ℕ → Command → List ℕ → Reply → List ℕ
line_with n command label reply =
    decimal n ++ codes " " ++ subject_text command ++ codes " " ++ reply_with label reply ++ codes "\n"

-- the commands of the sections from number n on, in the order in which they are run
abbrev pub issued_from : ℕ → List (List Command) → List Issued
issued_from n [] = []
issued_from n (commands ∷ rest) =
    map (λ command. record { section = n; command = command }) commands ++ issued_from (n + 1) rest

-- all commands of a script
abbrev pub issued : Script → List Issued
issued script = issued_from 1 script.sections

-- what a run does, one after the other: a command of a section, or the capture's next item
pub data Event : Type 0 where
  asked : Issued → Event
  stored : Item → Event

-- the items of a capture that are left after a command: `packets` takes the next ones
abbrev pub items_after : Command → List Item → List Item
items_after (commands.Packets count) left = drop count left
items_after _ left = left

-- what a command makes a run do: `packets` comes to the next items, as many as it names or as are left
abbrev pub events_at : Issued → Command → List Item → List Event
events_at c (commands.Packets count) left = map stored (take count left)
events_at c _ left = asked c ∷ []

-- what a run of these commands does, on these items: those that no command took come last
abbrev pub events_from : List Item → List Issued → List Event
events_from left [] = map stored left
events_from left (c ∷ rest) = events_at c c.command left ++ events_from (items_after c.command left) rest

-- what is replied to an item, as the list stands: what its packet finds, if it is one
abbrev pub item_reply : Flat → Item → Reply
item_reply flat (items.Packet packet) =
    replies.Found (look packet flat.header.seed flat.sockets flat.groups)
item_reply flat items.Skip = replies.Skip
item_reply flat items.Short = replies.Short

-- what the flat list replies to events, one after the other
abbrev pub replies_from : Flat → List Event → List Reply
replies_from flat [] = []
replies_from flat (asked c ∷ rest) =
    let next = step flat c.section c.command in next.reply ∷ replies_from next.flat rest
replies_from flat (stored item ∷ rest) = item_reply flat item ∷ replies_from flat rest

-- what a command lists: a `dump` all hashed sockets, any other command nothing
abbrev pub listings_at : Flat → Command → List Listing
listings_at flat commands.Dump = record { cards = listed flat; span = None } ∷ []
listings_at flat _ = []

-- what is listed for events, one after the other
abbrev pub listings_from : Flat → List Event → List Listing
listings_from flat [] = []
listings_from flat (asked c ∷ rest) =
    listings_at flat c.command ++ listings_from (step flat c.section c.command).flat rest
listings_from flat (stored item ∷ rest) = listings_from flat rest

-- what is listed for a script whose capture has these items
abbrev pub flat_listings : Script → List Item → List Listing
flat_listings script left = listings_from (new_flat script.header) (events_from left (issued script))

-- what is shown of what a run replies to each command and to each item of the capture, and what each `dump` lists
pub record Replies : Type 0 where
  pub each : List Reply
  pub listings : List Listing

-- what the flat list replies to a script whose capture has these items
abbrev pub flat_replies : Script → List Item → List Reply
flat_replies script left = replies_from (new_flat script.header) (events_from left (issued script))

-- the line of a command and its reply, in a script of these sections
abbrev pub line_text : List (List Command) → Issued → Reply → List ℕ
line_text sections c reply = line_with c.section c.command (found_label sections reply) reply

-- the line of the capture's item of that number, where the socket that was found has that label
abbrev pub item_line : ℕ → List ℕ → Reply → List ℕ
item_line number label reply =
    codes "packet " ++ decimal number ++ codes " " ++ reply_with label reply ++ codes "\n"

-- a command that lists sockets
abbrev pub is_dump : Command → Bool
is_dump commands.Dump = true
is_dump _ = false

-- the lines of a command: of a `dump` those of the next listing, of any other command its reply's
abbrev pub command_text : List (List Command) → Issued → Reply → List Listing → List ℕ
command_text sections c reply listings =
    if is_dump c.command then flat_map (listing_text (label_in sections) c.section) (take 1 listings)
    else line_text sections c reply

-- the listings that are left after a command: a `dump` takes the next one
abbrev pub listings_after : Command → List Listing → List Listing
listings_after command listings = if is_dump command then drop 1 listings else listings

-- the lines of events, with their replies and listings, where the next item has that number
abbrev pub lines_text : List (List Command) → ℕ → List Event → List Reply → List Listing → List ℕ
lines_text sections number (asked c ∷ events) (reply ∷ rest) listings =
    command_text sections c reply listings
    ++ lines_text sections number events rest (listings_after c.command listings)
lines_text sections number (stored item ∷ events) (reply ∷ rest) listings =
    item_line number (found_label sections reply) reply ++ lines_text sections (number + 1) events rest listings
lines_text sections number _ _ listings = []

-- the last line, where the capture ends in the middle of a record
abbrev pub cut_text : Bool → List ℕ
cut_text false = []
cut_text true = codes "cut\n"

-- what is written for a script with that capture and those replies, and for which that is listed; items have
-- numbers from 1
abbrev pub script_text : Script → Capture → List Reply → List Listing → List ℕ
script_text script capture replies listings =
    lines_text script.sections 1 (events_from capture.items (issued script)) replies listings ++ cut_text capture.cut

-- the lists that commands leave, one after each
abbrev pub lists_from : Flat → List Issued → List Flat
lists_from flat [] = []
lists_from flat (c ∷ rest) = let next = (step flat c.section c.command).flat in next ∷ lists_from next rest

-- the lists between the commands of a script: the one before the first, and the one after each
abbrev pub lists_of : Script → List Flat
lists_of script = new_flat script.header ∷ lists_from (new_flat script.header) (issued script)

-- the text is a script with that capture
pub record HasCapture (input : List ℕ) (script : Script) (capture : Capture) : Type 0 where
  pub script_is : IsScript modes.Run input script
  pub capture_is :
      IsCapture (capture_device script.capture) (capture_namespace script.capture)
      (capture_bytes script.capture input) capture

-- what is written for a text that is a script with a capture: the lines of the flat list's replies and listings
abbrev pub FlatOut : List ℕ → List ℕ → Type 0
FlatOut input out =
    (script : Script) × (capture : Capture) × HasCapture input script capture
    × (out ≡ script_text script capture (flat_replies script capture.items) (flat_listings script capture.items))

-- each list between a script's commands is sound
abbrev pub ListsSound : Type 0
ListsSound = (script : Script) → IsSmall script → Each IsSound (lists_of script)

-- the same of whatever script a text of at most 16 MiB is
abbrev pub TextsSound : Type 0
TextsSound =
    (mode : Mode) (text : List ℕ) (script : Script) → length text ≤ 2 ^ 24 → IsScript mode text script
    → Each IsSound (lists_of script)
