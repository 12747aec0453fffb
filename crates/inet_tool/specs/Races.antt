-- What a race of an input writes, and what that says. Our own rules.
use Rattle.std.specs.Prelude.{◌≡◌, ℕ, List, Option}
use Rattle.list_words.specs.Lists.{Each}
use Rattle.capture_reader.specs.Captures.{Capture}
use Rattle.flat_list.specs.Script.{Script}
use Rattle.race_book.specs.Among.{Among}
use Rattle.race_record.specs.Record.{Race, listings_of}
use Rattle.race_record.specs.Lawful.{Lawful}
use Rattle.race_record.specs.Headline.{Headline}
use Rattle.race_laws.specs.Names.{HashesOnce, ListsOnce}
use Rattle.race_laws.specs.Handovers.{HandsAllOver}
use Rattle.race_text.specs.Render.{HasRace, RaceOut}
use Rattle.inet_tool.specs.declared.audit.Outcome.{Outcome}
use Rattle.inet_tool.specs.declared.status.Status.TheVariants.{Done}
use Rattle.inet_tool.specs.Audit.{IsOutcome, outcome_status}
use Rattle.inet_tool.specs.Table.{WritesOut}

-- what a record of a race says
pub record Says (script : Script) (race : Race) : Type 0 where
  -- No two full sockets ever have one four-tuple, no two bound sockets of different origin ever conflict, each
  -- packet's answer has its cause, and each dump lists what stood hashed throughout, nothing that stood at no time
  -- meanwhile, and no place in a chain twice.
  pub headline : Headline race
  -- a name is hashed once for each kind
  pub names : HashesOnce (Among race.book)
  -- so each dump lists a name once for each kind, and each of its items is of one life alone
  pub dumps : Each (ListsOnce (Among race.book)) (listings_of race)
  -- each `ack` that was done had hashed the connection that its second label names before it began to unhash the
  -- request that its first names, in one chain
  pub acks : HandsAllOver script race

-- so says whatever lawful record of a race of these bytes
abbrev pub RacesSay : List ℕ → Type 0
RacesSay bytes =
    (script : Script) (capture : Capture) (race : Race) → HasRace bytes script capture → Lawful script capture race
    → Says script race

-- whatever `audit` is to say of the text, it is yes
abbrev pub Passes : List ℕ → Type 0
Passes text = (outcome : Outcome) → IsOutcome text outcome → outcome_status outcome ≡ Done

-- what a race writes for a script: the text of a lawful record, with so many lookers and passes, which passes an
-- audit
abbrev pub IsRaceOf : ℕ → ℕ → List ℕ → List ℕ → Type 0
IsRaceOf lookers passes bytes out = RaceOut lookers passes bytes out × RacesSay bytes × Passes out

-- The input was read to its end and is a script for a race, and written grew by what a race writes for it.
abbrev pub WritesRace : ℕ → ℕ → Option (List ℕ) → Option (List ℕ) → Option (List ℕ) → Option (List ℕ) → Type 0
WritesRace lookers passes = WritesOut (IsRaceOf lookers passes)
