-- How the record of a race is written: a format of our own.
--
-- To be read from `render` upwards: `told` is what is written of a race, and `told_text` has its lines in their order.
use Rattle.std.specs.Prelude.{◌≡◌, ℕ, ◌+◌, ◌==◌, Bool, List, [], ◌∷◌, ◌++◌, length, map, codes, decimal, Option, None, Some, if◌then◌else◌}
use Rattle.std.specs.List.{flat_map}
use Rattle.inet_io.specs.Texts.{end_text}
use Rattle.sock_card.specs.declared.card.Card.{Card}
use Rattle.sock_card.specs.declared.card.Packet.{Packet}
use Rattle.capture_reader.specs.Captures.{Capture}
use Rattle.capture_reader.specs.Grammar.{IsCapture}
use Rattle.chain_book.specs.declared.book.Change.{Change}
use Rattle.chain_book.specs.declared.book.PassEnd.{PassEnd}
use Rattle.chain_book.specs.declared.book.PassEnd.TheVariants as ends
use Rattle.chain_book.specs.declared.book.PacketAnswer.{PacketAnswer}
use Rattle.chain_book.specs.declared.book.PacketAnswer.TheVariants as answers
use Rattle.chain_book.specs.declared.shape.Shape.{Shape}
use Rattle.flat_list.specs.declared.command.Command.{Command}
use Rattle.flat_list.specs.declared.command.Reply.{Reply}
use Rattle.flat_list.specs.Script.{Script}
use Rattle.socket_list.specs.Listing.{Listing}
use Rattle.sock_script.specs.declared.parse.Mode.TheVariants as modes
use Rattle.sock_script.specs.Grammar.{IsScript, capture_bytes, capture_device, capture_namespace}
use Rattle.sock_script.specs.Output.{answer_with, dev_text, whole_card_with, label_in, lines_text, events_from, issued_from, cut_text}
use Rattle.race_book.specs.declared.lives.Life.{Life}
use Rattle.race_book.specs.Listed.{lives_of}
use Rattle.race_record.specs.declared.record.Looked.{Looked}
use Rattle.race_record.specs.declared.record.Looked.TheVariants as looks
use Rattle.race_record.specs.Record.{Race, commands_of, replies_of, listings_of}
use Rattle.race_record.specs.Lawful.{Lawful}

-- what is written of a race: the replies of all sections, one section after the other, what they listed, how many
-- entries each journal has, the changes, and what came of each item
pub record Told : Type 0 where
  pub lookers : ℕ
  pub passes : ℕ
  pub shape : Shape
  pub seed : ℕ
  pub replies : List Reply
  pub listings : List Listing
  pub journals : List ℕ
  pub book : List Change
  pub looked : List Looked
  pub cut : Bool
  pub clock : ℕ

abbrev pub race_line : ℕ → ℕ → List ℕ
race_line lookers passes = codes "race lookers " ++ decimal lookers ++ codes " passes " ++ decimal passes ++ codes "\n"

-- the shape of the tables, and the seed of their hashes
abbrev pub shape_line : Shape → ℕ → List ℕ
shape_line shape seed =
    codes "shape " ++ decimal shape.slots ++ codes " " ++ decimal shape.bind ++ codes " " ++ decimal shape.hash
    ++ codes " " ++ decimal shape.listen ++ codes " seed " ++ decimal seed ++ codes "\n"

abbrev pub clock_line : ℕ → List ℕ
clock_line clock = codes "clock " ++ decimal clock ++ codes "\n"

-- the line of the journal of that bucket, which has so many entries; an empty one has none
abbrev pub journal_line : ℕ → ℕ → List ℕ
journal_line bucket count =
    if count == 0 then []
    else codes "journal " ++ decimal bucket ++ codes " " ++ decimal count ++ codes "\n"

-- the lines of the journals, where the first is that of this bucket
abbrev pub journal_lines : ℕ → List ℕ → List ℕ
journal_lines bucket [] = []
journal_lines bucket (count ∷ rest) = journal_line bucket count ++ journal_lines (bucket + 1) rest

-- the end of a life's line
abbrev pub unhash_text : Option Change → List ℕ
unhash_text None = codes "unhash -"
unhash_text (Some u) = codes "unhash " ++ decimal u.begin ++ codes " " ++ decimal u.end

-- the stamps of a life
abbrev pub span_text : Life → List ℕ
span_text l =
    codes "hash " ++ decimal l.hash.begin ++ codes " " ++ decimal l.hash.end ++ codes " " ++ unhash_text l.unhash

-- how a pass ended that gave no answer
abbrev pub pass_end_text : PassEnd → List ℕ
pass_end_text (ends.Foreign bucket) = codes "foreign " ++ decimal bucket
pass_end_text (ends.Dead slot) = codes "dead " ++ decimal slot
pass_end_text (ends.Changed slot) = codes "changed " ++ decimal slot
pass_end_text (ends.Long n) = codes "long " ++ decimal n

abbrev pub packet_text : Packet → List ℕ
packet_text p =
    codes "from " ++ end_text p.src p.sport ++ codes " to " ++ end_text p.dst p.dport ++ dev_text p.dev p.net

-- `label_of`: the label of each name
module _ (label_of : ℕ → List ℕ) where
  -- a card's kind, with the section and the label of its name
  abbrev pub card_text : Card → List ℕ
  card_text card = answer_with (label_of card.name) (Some card)

  -- a card with its ends, its device and its namespace
  abbrev pub whole_card_text : Card → List ℕ
  whole_card_text card = whole_card_with (label_of card.name) card

  abbrev pub life_line : Life → List ℕ
  life_line l =
      codes "life " ++ decimal l.hash.bucket ++ codes " " ++ decimal l.hash.slot ++ codes " "
      ++ whole_card_text l.hash.card
      ++ codes " " ++ span_text l ++ codes "\n"

  abbrev pub answer_text : PacketAnswer → List ℕ
  answer_text (answers.Found card) = card_text card
  answer_text answers.None = codes "none"
  answer_text (answers.Again bucket end) = codes "again " ++ pass_end_text end ++ codes " in " ++ decimal bucket

  abbrev pub looked_text : Looked → List ℕ
  looked_text (looks.Answered r) =
      answer_text r.answer ++ codes " t0 " ++ decimal r.t0 ++ codes " t1 " ++ decimal r.t1
      ++ codes " " ++ packet_text r.packet
  looked_text looks.Skip = codes "skip"
  looked_text looks.Short = codes "short"

  -- the line of the capture's item of that number
  abbrev pub looked_line : ℕ → Looked → List ℕ
  looked_line number looked = codes "packet " ++ decimal number ++ codes " " ++ looked_text looked ++ codes "\n"

  -- the lines of items, where the first has that number
  abbrev pub looked_lines : ℕ → List Looked → List ℕ
  looked_lines number [] = []
  looked_lines number (looked ∷ rest) = looked_line number looked ++ looked_lines (number + 1) rest

-- the lines that `run` writes for the commands of these sections, with these replies and listings
abbrev pub command_lines : List (List Command) → List Reply → List Listing → List ℕ
command_lines sections replies listings =
    lines_text sections 1 (events_from [] (issued_from 1 sections)) replies listings

-- the whole text of what is reported of a race of these sections
abbrev pub told_text : List (List Command) → Told → List ℕ
told_text sections t =
    race_line t.lookers t.passes ++ shape_line t.shape t.seed ++ command_lines sections t.replies t.listings
    ++ journal_lines 0 t.journals
    ++ flat_map (life_line (label_in sections)) (lives_of t.book) ++ looked_lines (label_in sections) 1 t.looked
    ++ cut_text t.cut ++ clock_line t.clock

-- what is reported of a race
abbrev pub told : Race → Told
told race =
    record {
      lookers = race.lookers;
      passes = race.passes;
      shape = race.shape;
      seed = race.seed;
      replies = flat_map (λ replies. replies) (replies_of race);
      listings = listings_of race;
      journals = map length race.journals;
      book = race.book;
      looked = race.looked;
      cut = race.cut;
      clock = race.clock;
    }

-- the text of a race's record
unfoldable pub render : Race → List ℕ
render race = told_text (commands_of race) (told race)

-- the text is a script for a race, with that capture
pub record HasRace (input : List ℕ) (script : Script) (capture : Capture) : Type 0 where
  pub script_is : IsScript modes.Race input script
  pub capture_is :
      IsCapture (capture_device script.capture) (capture_namespace script.capture)
      (capture_bytes script.capture input) capture

-- what is written for a text that is a script for a race, by so many lookers with so many passes: some lawful record
-- of it
abbrev pub RaceOut : ℕ → ℕ → List ℕ → List ℕ → Type 0
RaceOut lookers passes input out =
    (script : Script) × (capture : Capture) × (race : Race) × HasRace input script capture × Lawful script capture race
    × (race.lookers ≡ lookers) × (race.passes ≡ passes) × (out ≡ render race)

-- the text that is written of the script's commands and of what is reported of a lawful race is the race's
abbrev pub LawfulText : Type 0
LawfulText =
    (script : Script) (capture : Capture) (race : Race) → Lawful script capture race
    → told_text script.sections (told race) ≡ render race
