-- What the steps of a run leave: our own. No public contract cites this file.
--
-- To be read from the beginning. `RunsAs`, at the end, is of a whole section.
use Rattle.std.specs.Prelude.{◌≡◌, ℕ, ◌+◌, ◌-◌, ◌*◌, ◌^◌, ◌≤◌, List, ◌++◌, map, None, find}
use Rattle.capture_reader.specs.declared.packet.Item.{Item}
use Rattle.flat_list.specs.declared.header.Header.{Header}
use Rattle.flat_list.specs.declared.command.Command.{Command}
use Rattle.flat_list.specs.declared.command.Reply.{Reply}
use Rattle.flat_list.specs.Flat.{Flat}
use Rattle.flat_list.specs.Run.{after}
use Rattle.flat_list.specs.Sections.{has_number}
use Rattle.flat_list.specs.Sound.{IsSound}
use Rattle.flat_list.specs.Step.{step}
use Rattle.section_machine.specs.Sections.{Kept}
use Rattle.section_machine.specs.Standing.{IsSection, IsUnspoken}
use Rattle.socket_list.specs.Listing.{Listing}
use Rattle.sock_ops.specs.declared.tables.Tables.{Tables as Shared}
use Rattle.sock_ops.specs.declared.tables.Worker.{Worker}
use Rattle.sock_ops.specs.Stands.{turned}
use Rattle.sock_script.specs.Output.{Replies, listings_at}
use Rattle.sock_script.specs.Steps.{issue, item_shown, RunsCommand, RunsSection}
use Rattle.table_model.specs.Commands.{answers}
use Rattle.table_model.specs.Means.{IsShape, Means, Refines, TablesMean}
use Rattle.table_model.specs.Own.{Own}
use Rattle.table_model.specs.Tables.{Tables}
use Rattle.race_run.specs.Sole.{IsSole}

-- all commands of the sections that come after so many
abbrev pub commands_after : ℕ → ℕ
commands_after sections = 2 ^ 24 * (64 - sections)

-- no bucket was asked about a name of a section from that number on
abbrev pub AreUnspoken : ℕ → Worker → Type 0
AreUnspoken number w = (name : ℕ) → number * 2 ^ 56 ≤ name → IsUnspoken (turned w) name

-- a section's machine at a worker that is alone, between two commands
pub record IsRunning (t : Shared) (k : Kept) (w : Worker) : Type 0 where
  pub section : IsSection t k w
  pub sole : IsSole t w

-- What replies are

-- whatever list was meant, the reply is the list's, and what the list leaves is meant now
abbrev pub RefinesEach : Kept → Tables → Command → Tables → Own → Reply → Type 0
RefinesEach kept old command new own reply =
    (flat : Flat) → flat.header ≡ kept.header → Means kept.own.number kept.own old flat
    → Refines kept.own.number (record { tables = new; result = answers own reply }) flat command

-- whatever sound list the tables mean, what is shown of the replies to some items was appended
abbrev pub AnswersAll : Tables → List Item → List Reply → List Reply → Type 0
AnswersAll t items before out =
    (flat : Flat) → IsShape flat.header → IsSound flat → TablesMean t flat
    → out ≡ before ++ map (item_shown flat) items

-- and so was what the command lists
abbrev pub ListsFor : Tables → Command → List Listing → List Listing → Type 0
ListsFor t command before out =
    (flat : Flat) → IsShape flat.header → IsSound flat → TablesMean t flat
    → out ≡ before ++ listings_at flat command

-- From whatever list the tables and the section's own meant, the command was run: what is shown of the replies to it
-- and to the items that it comes to, and what it lists, is the list's, and what the list leaves is meant now.
pub record RunsOne (number : ℕ) (flat : Flat) (command : Command) (items left : List Item) (before out : Replies)
    (own : Own) (new : Tables) : Type 0 where
  pub runs : RunsCommand flat (step flat number command).flat number command items left before out
  pub means : Means number own new (step flat number command).flat

abbrev pub RunsEach : Kept → Tables → Command → List Item → List Item → Replies → Replies → Own → Tables → Type 0
RunsEach kept old command items left before out own new =
    (flat : Flat) → flat.header ≡ kept.header → Means kept.own.number kept.own old flat
    → RunsOne kept.own.number flat command items left before out own new

-- the tables mean the list, in which no section from number n on has begun
pub record StartsAt (header : Header) (n : ℕ) (t : Tables) (flat : Flat) : Type 0 where
  pub header_is : flat.header ≡ header
  pub shape : IsShape header
  pub sound : IsSound flat
  pub tables : TablesMean t flat
  pub fresh : (m : ℕ) → n ≤ m → find (has_number m) flat.sections ≡ None

-- section n was run from that list on: what was shown and listed is the list's, and the tables mean what the list has
-- become
pub record RanSection (header : Header) (n : ℕ) (t : Tables) (first : Flat) (commands : List Command)
    (items left : List Item) (before out : Replies) : Type 0 where
  pub runs : RunsSection first (after first (issue n commands)) n commands items left before out
  pub starts : StartsAt header (n + 1) t (after first (issue n commands))

-- so from whatever list the tables meant
abbrev pub RunsAs : Header → ℕ → Tables → Tables → List Command → List Item → List Item → Replies → Replies → Type 0
RunsAs header n old new commands items left before out =
    (first : Flat) → StartsAt header n old first → RanSection header n new first commands items left before out
