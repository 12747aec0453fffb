-- The lines of a race's text, and their words.
use Rattle.std.proofs.Common.{ℕ, ◌+◌, ◌/◌, ◌^◌, ◌==◌, Bool, true, false, List, [], ◌∷◌, ◌++◌, length, map, codes, decimal, Option, None, Some, if◌then◌else◌}
use Rattle.std.specs.Option.{option_map}
use Rattle.std.specs.List.{flat_map}
use Rattle.inet_io.specs.Texts.{end_text}
use Rattle.sock_card.specs.declared.card.Card.{Card}
use Rattle.chain_book.specs.declared.book.PacketAnswer.{PacketAnswer}
use Rattle.chain_book.specs.declared.book.PacketAnswer.TheVariants as answers
use Rattle.chain_book.specs.declared.book.Receipt.{Receipt}
use Rattle.flat_list.specs.declared.command.Command.{Command}
use Rattle.flat_list.specs.declared.command.Command.TheVariants as commands
use Rattle.flat_list.specs.declared.command.Reply.{Reply}
use Rattle.flat_list.specs.declared.command.Reply.TheVariants as replies
use Rattle.socket_list.specs.Listing.{Listing}
use Rattle.socket_list.specs.declared.listing.Span.{Span}
use Rattle.sock_script.specs.Output.{label_in}
use Rattle.race_book.specs.declared.lives.Life.{Life}
use Rattle.race_book.specs.Listed.{lives_of}
use Rattle.race_record.specs.declared.record.Looked.{Looked}
use Rattle.race_record.specs.declared.record.Looked.TheVariants as looks
use Rattle.race_record.specs.Laws.{drew_for}
use Rattle.race_record.specs.Record.{Race, Step}
use Rattle.record_reader.specs.declared.line.Name.{Name}
use Rattle.record_reader.specs.declared.line.Answer.{Answer}
use Rattle.record_reader.specs.declared.line.Answer.TheVariants as told
use Rattle.record_reader.specs.declared.line.LookLine.{LookLine}
use Rattle.record_reader.specs.declared.line.ItemLine.{ItemLine}
use Rattle.record_reader.specs.declared.line.ItemLine.TheVariants as items
use Rattle.record_reader.specs.declared.line.LifeLine.{LifeLine}
use Rattle.record_reader.specs.declared.line.Line.{Line}
use Rattle.record_reader.specs.declared.line.Line.TheVariants as lines
use Rattle.record_reader.specs.Names.{name_of}
use Rattle.record_reader.specs.Forms.{card_words, line_words}
use Rattle.race_laws.proofs.audits.Printed.{told_end}
use Rattle.race_laws.proofs.audits.Rows.{Row}
use Rattle.book_audit.proofs.Lives.{span_of}

-- the row of a line, with its words
abbrev pub row : Line → Row
row line = record { words = line_words line; line = line }

-- what a line says of a command
abbrev pub subject_words : Command → List (List ℕ)
subject_words (commands.Socket label options) = codes "socket" ∷ label ∷ []
subject_words (commands.Bind label end) = codes "bind" ∷ label ∷ []
subject_words (commands.Listen label) = codes "listen" ∷ label ∷ []
subject_words (commands.Connect label from to) = codes "connect" ∷ label ∷ []
subject_words (commands.Accept listener label from at) = codes "accept" ∷ label ∷ []
subject_words (commands.Syn listener label from at) = codes "syn" ∷ label ∷ []
subject_words (commands.Ack request label) = codes "ack" ∷ label ∷ []
subject_words (commands.Close label) = codes "close" ∷ label ∷ []
subject_words (commands.Drop label) = codes "drop" ∷ label ∷ []
subject_words (commands.At moment) = codes "at" ∷ decimal moment ∷ []
subject_words commands.Reap = codes "reap" ∷ []
subject_words (commands.Look query) = codes "look" ∷ []
subject_words (commands.Packets count) = codes "packets" ∷ []
subject_words commands.Dump = codes "dump" ∷ []

-- and of a reply
abbrev pub reply_words : Reply → List (List ℕ)
reply_words replies.Ok = codes "ok" ∷ []
reply_words (replies.Port port) = codes "ok" ∷ decimal port ∷ []
reply_words (replies.End end) = codes "ok" ∷ end_text end.addr end.port ∷ []
reply_words replies.TimeWait = codes "ok" ∷ codes "time-wait" ∷ []
reply_words (replies.NoSlot owned held) = codes "ok" ∷ codes "no-slot" ∷ decimal owned ∷ decimal held ∷ []
reply_words (replies.Count count) = codes "ok" ∷ decimal count ∷ []
reply_words (replies.Found answer) = []
reply_words replies.Skip = []
reply_words replies.Short = []
reply_words replies.Ebadf = codes "EBADF" ∷ []
reply_words replies.Einval = codes "EINVAL" ∷ []
reply_words replies.Eisconn = codes "EISCONN" ∷ []
reply_words replies.Eaddrinuse = codes "EADDRINUSE" ∷ []
reply_words replies.Eaddrnotavail = codes "EADDRNOTAVAIL" ∷ []
reply_words replies.Emfile = codes "EMFILE" ∷ []
reply_words (replies.Enfile owned held) = codes "ENFILE" ∷ decimal owned ∷ decimal held ∷ []

-- and of the clock round a list
abbrev pub loads_words : Option Span → List (List ℕ)
loads_words None = []
loads_words (Some span) = codes "t0" ∷ decimal span.t0 ∷ codes "t1" ∷ decimal span.t1 ∷ []

-- the sockets that a step lists
abbrev pub listed_cards : Step → List Card
listed_cards s = flat_map (λ (l : Listing). l.cards) s.listings

-- what came of a command: how many sockets a `dump` lists, or a reply
abbrev pub outcome_words : Command → Step → List (List ℕ)
outcome_words commands.Dump s = decimal (length (listed_cards s)) ∷ flat_map (λ (l : Listing). loads_words l.span) s.listings
outcome_words _ s = reply_words s.reply

-- a step's own line
abbrev pub row_as : Command → ℕ → Step → Row
row_as c n s =
    record { words = decimal n ∷ (subject_words c ++ outcome_words c s); line = lines.Reply (drew_for s.reply) }

-- that line, and one for each socket that the step lists
abbrev pub step_lines : Step → List Line
step_lines s = lines.Reply (drew_for s.reply) ∷ map (λ (c : Card). lines.Reply false) (listed_cards s)

abbrev pub reply_lines : List (List Step) → List Line
reply_lines [] = []
reply_lines (steps ∷ rest) = flat_map step_lines steps ++ reply_lines rest

-- the lines of journals, where the first is that of this bucket
abbrev pub journals_from : ℕ → List ℕ → List Line
journals_from bucket [] = []
journals_from bucket (count ∷ rest) =
    if count == 0 then journals_from (bucket + 1) rest else lines.Journal bucket count ∷ journals_from (bucket + 1) rest

abbrev pub cut_lines : Bool → List Line
cut_lines false = []
cut_lines true = lines.Cut ∷ []

module _ (sections : List (List Command)) where
  abbrev pub told_name : ℕ → Name
  told_name name = name_of (name / 2 ^ 56) (label_in sections name)

  -- a socket that section n lists
  abbrev pub item_row : ℕ → Card → Row
  item_row n c =
      record { words = decimal n ∷ codes "item" ∷ card_words (told_name c.name) c; line = lines.Reply false }

  -- a step of section n: its own row, and that of each socket that it lists
  abbrev pub step_rows : Command → ℕ → Step → List Row
  step_rows c n s = row_as c n s ∷ map (item_row n) (listed_cards s)

  abbrev pub steps_rows : ℕ → List Step → List Row
  steps_rows n steps = flat_map (λ (s : Step). step_rows s.command n s) steps

  -- the steps of sections, where the first has that number
  abbrev pub reply_rows : ℕ → List (List Step) → List Row
  reply_rows n [] = []
  reply_rows n (steps ∷ rest) = steps_rows n steps ++ reply_rows (n + 1) rest

  abbrev pub card_line : Card → Card
  card_line c = record c { name = 0; extra = 0; mark = 0 }

  abbrev pub life_line : Life → LifeLine
  life_line l =
      record {
        bucket = l.hash.bucket;
        slot = l.hash.slot;
        name = told_name l.hash.card.name;
        card = card_line l.hash.card;
        hash = span_of l.hash;
        unhash = option_map span_of l.unhash;
      }

  abbrev pub answer_line : PacketAnswer → Answer
  answer_line (answers.Found card) = told.Found card.kind (told_name card.name)
  answer_line answers.None = told.None
  answer_line (answers.Again bucket end) = told.Again bucket (told_end end)

  abbrev pub look_line : Receipt → LookLine
  look_line r = record { answer = answer_line r.answer; t0 = r.t0; t1 = r.t1; packet = r.packet }

  abbrev pub item_line : Looked → ItemLine
  item_line (looks.Answered r) = items.Looked (look_line r)
  item_line looks.Skip = items.Skip
  item_line looks.Short = items.Short

  abbrev pub life_lines : List Life → List Line
  life_lines lives = map (λ l. lines.Life (life_line l)) lives

  -- the lines of items, where the first has that number
  abbrev pub packets_from : ℕ → List Looked → List Line
  packets_from number [] = []
  packets_from number (looked ∷ rest) = lines.Packet number (item_line looked) ∷ packets_from (number + 1) rest

  -- behind the replies
  abbrev pub later_lines : Race → List Line
  later_lines race =
      journals_from 0 (map length race.journals)
      ++ (life_lines (lives_of race.book) ++ (packets_from 1 race.looked ++ (cut_lines race.cut ++ lines.Clock race.clock ∷ [])))

  -- all lines of a race
  abbrev pub race_lines : Race → List Line
  race_lines race =
      lines.Race race.lookers race.passes ∷ lines.Shape race.shape race.seed ∷ (reply_lines race.sections ++ later_lines race)

  abbrev pub race_rows : Race → List Row
  race_rows race =
      row (lines.Race race.lookers race.passes) ∷ row (lines.Shape race.shape race.seed)
      ∷ (reply_rows 1 race.sections ++ map row (later_lines race))
