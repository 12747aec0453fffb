-- What is recorded of a race: our own.
--
-- To be read from the beginning: a step, a sighting and a race, and then what is read off these.
use Rattle.std.specs.Prelude.{ℕ, Bool, List, map}
use Rattle.std.specs.List.{flat_map}
use Rattle.turn_table.specs.declared.note.Note.{Note}
use Rattle.bind_buckets.specs.declared.request.Entry.{Entry}
use Rattle.chain_book.specs.declared.book.Change.{Change}
use Rattle.chain_book.specs.declared.shape.Shape.{Shape}
use Rattle.flat_list.specs.declared.command.Command.{Command}
use Rattle.flat_list.specs.declared.command.Reply.{Reply}
use Rattle.socket_list.specs.Listing.{Listing}
use Rattle.race_record.specs.declared.record.Looked.{Looked}
use Rattle.race_record.specs.Deeds.{Deed}

-- one command: its reply, what it did, what it listed, what its worker had seen of the clock as it began (a number
-- below which it knows all to be drawn), and the number that its worker drew next, or else the last one
pub record Step : Type 0 where
  pub command : Command
  pub reply : Reply
  pub deeds : List Deed
  pub listings : List Listing
  pub from : ℕ
  pub to : ℕ

-- a slot that was read as only held, not owned, between two numbers of the clock
pub record Sighting : Type 0 where
  pub slot : ℕ
  pub since : ℕ
  pub until : ℕ

-- a race, once all passes are joined: how many lookers it had, and how many passes each lookup; the shape and the
-- seed of its tables; the steps of each section, the journal of each bind bucket, all changes, what came of each item
-- of the capture, the items that each looker took; whether the capture is cut; and of the pass into which all others
-- were joined how often it took a count, the slots that it read as only held, and the clock
pub record Race : Type 0 where
  pub lookers : ℕ
  pub passes : ℕ
  pub shape : Shape
  pub seed : ℕ
  pub sections : List (List Step)
  pub journals : List (List (Note Entry))
  pub book : List Change
  pub looked : List Looked
  pub shares : List (List ℕ)
  pub cut : Bool
  pub counts : ℕ
  pub sightings : List Sighting
  pub clock : ℕ

abbrev pub steps_of : Race → List Step
steps_of race = flat_map (λ steps. steps) race.sections

-- what these steps did, in their order
abbrev pub deeds_of : List Step → List Deed
deeds_of steps = flat_map (λ (s : Step). s.deeds) steps

-- what all sections did, one section after the other
abbrev pub all_deeds : Race → List Deed
all_deeds race = deeds_of (steps_of race)

abbrev pub command_of : Step → Command
command_of s = s.command

abbrev pub reply_of : Step → Reply
reply_of s = s.reply

-- the commands of each section
abbrev pub commands_of : Race → List (List Command)
commands_of race = map (λ steps. map command_of steps) race.sections

-- the replies of each section
abbrev pub replies_of : Race → List (List Reply)
replies_of race = map (λ steps. map reply_of steps) race.sections

-- what all sections listed, one section after the other
abbrev pub listings_of : Race → List Listing
listings_of race = flat_map (λ (s : Step). s.listings) (steps_of race)
