-- The text of a lawful race is a record of its lines, and each verdict on it is yes.
use Rattle.std.proofs.Common.{◌≡◌, ℕ, suc, ◌+◌, ◌-◌, ◌<◌, ◌≤◌, ◌^◌, false, List, [], ◌∷◌, ◌++◌, append_assoc, append-nil, length, length-drop, map, slice_get, Option, None, Some, Result, Ok, Err, refl, sym, ap, ◌∙◌, subst, arith}
use Rattle.std.proofs.lemmas.List.{length-map}
use Rattle.std.specs.List.{flat_map, slice_index_or}
use Rattle.std.proofs.lemmas.Grind.{flat_map-append}
use Rattle.std.proofs.lemmas.List.{map-append}
use Rattle.list_words.specs.Lists.{Each}
use Rattle.list_words.proofs.EachLemmas.{each_append, each_weaken, each_map}
use Rattle.turn_table.specs.declared.note.Note.{Note}
use Rattle.bind_buckets.specs.declared.request.Entry.{Entry}
use Rattle.sock_card.specs.declared.card.Card.{Card}
use Rattle.capture_reader.specs.Captures.{Capture}
use Rattle.capture_reader.specs.declared.packet.Item.{Item}
use Rattle.capture_reader.proofs.Wholes.{fits_drop}
use Rattle.flat_list.specs.declared.script.CapturePlace.{CapturePlace}
use Rattle.sock_script.specs.Forms.{CommandFits}
use Rattle.sock_script.specs.Grammar.{capture_bytes}
use Rattle.sock_script.specs.Output.{events_from, issued_from, cut_text, label_in, lines_text}
use Rattle.chain_book.specs.Shapes.{ShapeFits}
use Rattle.list_words.proofs.EachLemmas.{each_both}
use Rattle.capture_reader.specs.Numbers.{AreBytes}
use Rattle.chain_book.specs.declared.book.Act.TheVariants as acts
use Rattle.chain_book.specs.declared.book.Change.{Change}
use Rattle.chain_book.specs.declared.shape.Shape.{Shape}
use Rattle.flat_list.specs.declared.header.Header.{Header}
use Rattle.flat_list.specs.declared.command.Command.{Command}
use Rattle.flat_list.specs.Script.{Script}
use Rattle.table_model.specs.Own.{Own, new_own}
use Rattle.race_book.specs.Among.{Among}
use Rattle.race_book.specs.Laws.{BeginApart}
use Rattle.race_book.specs.Listed.{lives_of}
use Rattle.race_book.proofs.Listing.{begin_apart}
use Rattle.race_book.proofs.Joined.{each_flat, each_unflat}
use Rattle.race_record.specs.declared.record.Looked.{Looked}
use Rattle.race_record.specs.Headline.{NumbersTell}
use Rattle.race_record.specs.Record.{Race, Step, steps_of, commands_of}
use Rattle.race_record.specs.Laws.{drew_for}
use Rattle.race_record.specs.Lawful.{AreAnswered, AreSectionsOf, AreStepsOf, Lawful, Lists}
use Rattle.race_record.proofs.Drawn.{numbers_tell}
use Rattle.race_record.proofs.Says.{same_count}
use Rattle.race_text.specs.Render.{clock_line, command_lines, journal_lines, life_line, looked_lines, race_line, render, shape_line, told, told_text}
use Rattle.race_text.proofs.Commands.{all_commands}
use Rattle.book_audit.specs.declared.printed.Printed.{Printed}
use Rattle.book_audit.specs.declared.printed.Finding.TheVariants as findings
use Rattle.book_audit.specs.declared.printed.Why.{Why}
use Rattle.book_audit.specs.Findings.{Passes}
use Rattle.book_audit.proofs.Verdicts.{one_finding}
use Rattle.record_reader.specs.declared.audit.Verdict.{Verdict}
use Rattle.record_reader.specs.declared.audit.Verdict.TheVariants as verdicts
use Rattle.record_reader.specs.declared.line.Name.{Name}
use Rattle.record_reader.specs.declared.line.Line.{Line}
use Rattle.record_reader.specs.declared.line.Line.TheVariants as lines
use Rattle.record_reader.specs.declared.read.ReadEnd.{ReadEnd}
use Rattle.record_reader.specs.declared.read.ReadEnd.TheVariants as ends
use Rattle.record_reader.specs.Forms.{ItemFits}
use Rattle.record_reader.specs.Record.{AreInOrder, IsFirstOutside, IsRecord}
use Rattle.record_reader.specs.Told as spec
use Rattle.record_reader.specs.Told.{names_of}
use Rattle.record_reader.specs.Names.{number_in}
use Rattle.record_reader.specs.Verdicts.{Answers, IsVerdict}
use Rattle.record_reader.proofs.Reading.{last_is, one_record}
use Rattle.record_reader.proofs.OneAnswer.{excludes_records}
use Rattle.race_laws.specs.Laws.{IsAnswer, IsLawfulOf, IsYesOrMemory, LawfulIsRecord, LawfulIsYes, LawfulPasses, SaysYes, WrittenPasses, yes_of}
use Rattle.race_laws.proofs.audits.Ascending.{up_lives}
use Rattle.race_laws.proofs.audits.Bounds.{DoesFew, IsShort, clock_below, journals_below}
use Rattle.race_laws.proofs.audits.Captures.{capture_few, capture_in}
use Rattle.race_laws.proofs.audits.Dumps.{ListsTold, sections_list}
use Rattle.race_laws.proofs.audits.Forms.{IsInRange, line_row, line_rows}
use Rattle.race_laws.proofs.audits.Judged.{Tells, passes_each}
use Rattle.race_laws.proofs.audits.Lines.{cut_lines, item_line, item_row, journals_from, later_lines, life_lines, listed_cards, packets_from, race_lines, race_rows, reply_lines, reply_rows, row, step_lines, step_rows, steps_rows}
use Rattle.race_laws.proofs.audits.Order.{lines_end, lines_order}
use Rattle.race_laws.proofs.audits.Ranges.{LookedFits, cut_in, journals_in, lives_in, lives_labelled, looked_in, packets_in}
use Rattle.race_laws.proofs.audits.Replies.{IsFine, are_reply_rows, commands_text, rows_append}
use Rattle.race_laws.proofs.audits.Rows.{EachIsRow, is_record, line_of, row_text, rows_text}
use Rattle.race_laws.proofs.audits.Scripts.{RaceCommand, ScriptTold, script_told}
use Rattle.race_laws.proofs.audits.Steps.{CardTold, StepTold, all_told, book_told, sections_told, vains_fit}
use Rattle.race_laws.proofs.audits.Texts.{LookedLabelled, clock_text, cut_is, journals_text, lives_text, looked_text, race_text, shape_text}
use Rattle.race_laws.proofs.audits.Told.{lives_told, numbered, packets_told, vain_told}

-- the commands of steps are the section's
module _ (header : Header) (In : Change → Type 0) where
  steps_count : (own : Own) (cs : List Command) (steps : List Step) → AreStepsOf header In own cs steps → length steps ≡ length cs
  steps_count own [] [] a = refl
  steps_count own (c ∷ cs) (s ∷ steps) a = omega (arith, steps_count a.0 cs steps a.2)
  steps_count own [] (s ∷ steps) a = absurd a
  steps_count own (c ∷ cs) [] a = absurd a

  all_short : (n : ℕ) (scripts : List (List Command)) (sections : List (List Step)) → AreSectionsOf header In n scripts sections → Each (λ (cs : List Command). length cs < 2 ^ 24) scripts → Each IsShort sections
  all_short n [] [] a h = tt
  all_short n (cs ∷ scripts) (steps ∷ sections) a h =
      (omega (arith, steps_count (new_own header n) cs steps a.0, h.0), all_short (n + 1) scripts sections a.1 h.1)
  all_short n [] (s ∷ sections) a h = absurd a
  all_short n (cs ∷ scripts) [] a h = absurd a

  -- what is known of each command is known of each step's
  steps_each : (P : Command → Type 0) (own : Own) (cs : List Command) (steps : List Step) → AreStepsOf header In own cs steps → Each P cs → Each (λ (s : Step). P s.command) steps
  steps_each P own [] [] a h = tt
  steps_each P own (c ∷ cs) (s ∷ steps) a h = (subst P (sym a.1.command_is) h.0, steps_each P a.0 cs steps a.2 h.1)
  steps_each P own [] (s ∷ steps) a h = absurd a
  steps_each P own (c ∷ cs) [] a h = absurd a

  all_each : (P : Command → Type 0) (n : ℕ) (scripts : List (List Command)) (sections : List (List Step)) → AreSectionsOf header In n scripts sections → Each (Each P) scripts → Each (Each (λ (s : Step). P s.command)) sections
  all_each P n [] [] a h = tt
  all_each P n (cs ∷ scripts) (steps ∷ sections) a h = (steps_each P (new_own header n) cs steps a.0 h.0, all_each P (n + 1) scripts sections a.1 h.1)
  all_each P n [] (s ∷ sections) a h = absurd a
  all_each P n (cs ∷ scripts) [] a h = absurd a

abbrev IsStepOfRace : Step → Type 0
IsStepOfRace s = RaceCommand s.command

abbrev StepLists : List (List Command) → Step → Type 0
StepLists sections s = ListsTold sections s.command s

fine_steps : (sections : List (List Command)) (steps : List Step) → Each (StepTold sections) steps → Each IsStepOfRace steps → Each (StepLists sections) steps → Each (IsFine sections) steps
fine_steps sections [] t r l = tt
fine_steps sections (s ∷ steps) t r l =
    (record { told = t.0; allowed = r.0.allowed; lists = l.0 }, fine_steps sections steps t.1 r.1 l.1)

all_fine : (sections : List (List Command)) (all : List (List Step)) → Each (Each (StepTold sections)) all → Each (Each IsStepOfRace) all → Each (Each (StepLists sections)) all → Each (Each (IsFine sections)) all
all_fine sections [] t r l = tt
all_fine sections (steps ∷ rest) t r l = (fine_steps sections steps t.0 r.0 l.0, all_fine sections rest t.1 r.1 l.1)

-- the rows of a race are of its lines
rows_lines : (all : List Line) → map line_of (map row all) ≡ all
rows_lines [] = refl
rows_lines (line ∷ rest) = ap (λ ls. line ∷ ls) (rows_lines rest)

module _ (sections : List (List Command)) where
  items_lines : (n : ℕ) (cards : List Card) → map line_of (map (item_row sections n) cards) ≡ map (λ (c : Card). lines.Reply false) cards
  items_lines n [] = refl
  items_lines n (c ∷ cards) = ap (λ ls. lines.Reply false ∷ ls) (items_lines n cards)

  steps_lines : (n : ℕ) (steps : List Step) → map line_of (steps_rows sections n steps) ≡ flat_map step_lines steps
  steps_lines n [] = refl
  steps_lines n (s ∷ steps) =
      map-append line_of (step_rows sections s.command n s) (steps_rows sections n steps)
      ∙ λ i. lines.Reply (drew_for s.reply) ∷ (items_lines n (listed_cards s) i ++ steps_lines n steps i)

  replies_lines : (n : ℕ) (all : List (List Step)) → map line_of (reply_rows sections n all) ≡ reply_lines all
  replies_lines n [] = refl
  replies_lines n (steps ∷ rest) =
      map-append line_of (steps_rows sections n steps) (reply_rows sections (n + 1) rest) ∙ λ i. steps_lines n steps i ++ replies_lines (n + 1) rest i

all_lines : (sections : List (List Command)) (race : Race) → map line_of (race_rows sections race) ≡ race_lines sections race
all_lines sections race =
    ap (λ ls. lines.Race race.lookers race.passes ∷ lines.Shape race.shape race.seed ∷ ls)
    (map-append line_of (reply_rows sections 1 race.sections) (map row (later_lines sections race)) ∙ λ i. replies_lines sections 1 race.sections i ++ rows_lines (later_lines sections race) i)

rows_both : (xs ys : List Line) → rows_text (map row (xs ++ ys)) ≡ rows_text (map row xs) ++ rows_text (map row ys)
rows_both xs ys = ap rows_text (map-append row xs ys) ∙ flat_map-append row_text (map row xs) (map row ys)

regrouped : (a b c d e f g h : List ℕ) → a ++ b ++ c ++ d ++ e ++ f ++ g ++ h ≡ a ++ (b ++ (c ++ (d ++ (e ++ (f ++ (g ++ h))))))
regrouped a b c d e f g h = simp append_assoc

bytes_of : (input : List ℕ) (o : Option CapturePlace) → AreBytes input → AreBytes (capture_bytes o input)
bytes_of input None h = λ i. omega arith
bytes_of input (Some place) h = fits_drop place.first input h

few_bytes : (input : List ℕ) (o : Option CapturePlace) → length (capture_bytes o input) ≤ length input
few_bytes input None = omega arith
few_bytes input (Some place) = omega (arith, length-drop place.first input)

answered_count : (In : Change → Type 0) (shape : Shape) (seed clock : ℕ) (all : List Item) (looked : List Looked) → AreAnswered In shape seed clock all looked → length looked ≡ length all
answered_count In shape seed clock [] [] a = refl
answered_count In shape seed clock (item ∷ all) (x ∷ looked) a = omega (arith, answered_count In shape seed clock all looked a.1)
answered_count In shape seed clock [] (x ∷ looked) a = absurd a
answered_count In shape seed clock (item ∷ all) [] a = absurd a

abbrev count_of : List (Note Entry) → ℕ
count_of journal = length journal

module _ (input : List ℕ) (script : Script) (capture : Capture) (race : Race) (w : IsLawfulOf input script capture race) where
  abbrev sections : List (List Command)
  sections = script.sections

  abbrev In : Change → Type 0
  In = Among race.book

  l : Lawful script capture race
  l = w.lawful

  st : ScriptTold script
  st = script_told input script w.room w.has.script_is

  shape_fits : ShapeFits race.shape
  shape_fits = subst ShapeFits (sym l.shape) st.shape

  scripts_fit : Each (λ cs. Each CommandFits cs × (length cs < 2 ^ 24)) sections
  scripts_fit = each_weaken (λ cs. Each RaceCommand cs × (length cs < 2 ^ 24)) (λ cs. Each CommandFits cs × (length cs < 2 ^ 24)) sections
      (λ cs h. (each_weaken RaceCommand CommandFits cs (λ c r. r.fits) h.0, h.1))
      (each_both (Each RaceCommand) (λ (cs : List Command). length cs < 2 ^ 24) sections st.commands st.small.commands)

  steps_are_told : Each (Each (StepTold sections)) race.sections
  steps_are_told = sections_told script.header st.range In sections 1 sections race.sections l.sections (omega arith) (omega (arith, st.small.sections))
      (λ i. let e : suc i ≡ 1 + i = omega arith in ap (λ k. slice_index_or ([] ∷ sections) k []) e) scripts_fit (vains_fit race (omega (arith, shape_fits.slots.1)) l.slots)

  cards : (c : Change) → In c → c.act ≡ acts.Hash → CardTold sections c.card
  cards = book_told sections race.book _ l.book.each_once (all_told sections race steps_are_told)

  numbers : NumbersTell race
  numbers = numbers_tell script capture race l

  few_each : Each DoesFew (steps_of race)
  few_each = each_flat DoesFew (λ steps. steps) race.sections (each_weaken (Each (StepTold sections)) (Each DoesFew) race.sections (λ steps h. each_weaken (StepTold sections) DoesFew steps (λ s t. t.few) h) steps_are_told)

  short : Each IsShort race.sections
  short = all_short script.header In 1 sections race.sections l.sections st.small.commands

  few_sections : length race.sections ≤ 64
  few_sections = omega (arith, same_count script.header In 1 sections race.sections l.sections, st.small.sections)

  clock_fits : race.clock < 2 ^ 64
  clock_fits = clock_below race few_each short few_sections l.book numbers

  distinct : BeginApart race.book
  distinct = begin_apart race.book numbers.distinct

  lists_told : Each (Each (StepLists sections)) race.sections
  lists_told = sections_list sections race clock_fits distinct (omega (arith, clock_fits, numbers.count)) cards race.sections l.spans (each_unflat (Lists race) (λ steps. steps) race.sections l.dumps)

  fine : Each (Each (IsFine sections)) race.sections
  fine = all_fine sections race.sections steps_are_told (all_each script.header In RaceCommand 1 sections race.sections l.sections st.commands) lists_told

  few_looked : length race.looked ≤ 2 ^ 24
  few_looked = omega (
    arith,
    answered_count In race.shape race.seed race.clock capture.items race.looked l.items,
    capture_few _ _ st.device st.net (capture_bytes script.capture input) capture w.has.capture_is,
    few_bytes input script.capture,
    w.room,
  )

  looked_fit : Each (LookedFits race.shape shape_fits race.seed race.clock sections race.book clock_fits l.serial.homes l.book.slots numbers.below cards) race.looked
  looked_fit = looked_in race.shape shape_fits race.seed race.clock sections race.book clock_fits l.serial.homes l.book.slots numbers.below cards capture.items race.looked l.items
      (capture_in _ _ st.device st.net (capture_bytes script.capture input) capture (bytes_of input script.capture w.bytes) w.has.capture_is)

  later_in : Each IsInRange (later_lines sections race)
  later_in =
      each_append IsInRange (journals_from 0 (map length race.journals)) _
      (journals_in 0 (map length race.journals) (omega (arith, length-map race.journals count_of, l.journals.count, shape_fits.bind.1)) (each_map (λ (n : ℕ). n < 2 ^ 64) length race.journals (each_weaken (λ (journal : List (Note Entry)). length journal ≤ 2 ^ 56) (λ (journal : List (Note Entry)). length journal < 2 ^ 64) race.journals (λ journal le. omega (arith, le)) (journals_below race few_each short few_sections l.journals))))
      (each_append IsInRange (life_lines sections (lives_of race.book)) _
      (lives_in race.shape shape_fits race.seed race.clock sections race.book clock_fits l.serial.homes l.book.slots numbers.below cards)
      (each_append IsInRange (packets_from sections 1 race.looked) _
      (packets_in sections 1 race.looked (omega (arith, few_looked)) (each_weaken _ (λ x. ItemFits (item_line sections x)) race.looked (λ x h. h.0) looked_fit))
      (each_append IsInRange (cut_lines race.cut) (lines.Clock race.clock ∷ []) (cut_in race.cut) ((tt, clock_fits), tt))))

  rows_are : EachIsRow (race_rows sections race)
  rows_are = (
    line_row (lines.Race race.lookers race.passes) tt (w.lookers, w.passes),
    (
      line_row (lines.Shape race.shape race.seed) tt (shape_fits, subst (λ n. n < 2 ^ 32) (sym l.seed) st.seed),
      rows_append sections (reply_rows sections 1 race.sections) (map row (later_lines sections race))
          (are_reply_rows sections 1 race.sections (omega arith) (omega (arith, same_count script.header In 1 sections race.sections l.sections, st.small.sections)) fine)
          (line_rows (later_lines sections race) later_in),
    ),
  )

  commands_are : commands_of race ≡ sections
  commands_are = all_commands script.header In 1 sections race.sections l.sections

  replies_are : lines_text sections 1 (events_from [] (issued_from 1 sections)) (told race).replies (told race).listings ≡ rows_text (reply_rows sections 1 race.sections)
  replies_are =
      ap (λ cs. lines_text sections 1 (events_from [] (issued_from 1 cs)) (told race).replies (told race).listings) (sym commands_are)
      ∙ commands_text sections 1 race.sections fine

  rows_apart : rows_text (race_rows sections race)
      ≡ row_text (row (lines.Race race.lookers race.passes)) ++ (row_text (row (lines.Shape race.shape race.seed)) ++ (rows_text (reply_rows sections 1 race.sections) ++ (rows_text (map row (journals_from 0 (map length race.journals)))
      ++ (rows_text (map row (life_lines sections (lives_of race.book))) ++ (rows_text (map row (packets_from sections 1 race.looked)) ++ (rows_text (map row (cut_lines race.cut)) ++ row_text (row (lines.Clock race.clock))))))))
  rows_apart =
      let a = row_text (row (lines.Race race.lookers race.passes)) in
      let b = row_text (row (lines.Shape race.shape race.seed)) in
      let clock = lines.Clock race.clock ∷ [] in
      let cut = cut_lines race.cut in
      let packets = packets_from sections 1 race.looked in
      let lives = life_lines sections (lives_of race.book) in
      let counts = journals_from 0 (map length race.journals) in
      ap (λ t. a ++ (b ++ t)) (flat_map-append row_text (reply_rows sections 1 race.sections) (map row (later_lines sections race))
      ∙ ap (λ t. rows_text (reply_rows sections 1 race.sections) ++ t) (rows_both counts (lives ++ (packets ++ (cut ++ clock)))
      ∙ ap (λ t. rows_text (map row counts) ++ t) (rows_both lives (packets ++ (cut ++ clock))
      ∙ ap (λ t. rows_text (map row lives) ++ t) (rows_both packets (cut ++ clock)
      ∙ ap (λ t. rows_text (map row packets) ++ t) (rows_both cut clock
      ∙ ap (λ t. rows_text (map row cut) ++ t) (append-nil (row_text (row (lines.Clock race.clock)))))))))

  told_is : told_text sections (told race) ≡ rows_text (race_rows sections race)
  told_is =
      regrouped (race_line race.lookers race.passes) (shape_line race.shape race.seed) (command_lines sections (told race).replies (told race).listings) (journal_lines 0 (told race).journals)
      (flat_map (life_line (label_in sections)) (lives_of race.book)) (looked_lines (label_in sections) 1 race.looked) (cut_text race.cut) (clock_line race.clock)
      ∙ (λ i. race_text race.lookers race.passes i ++ (shape_text race.shape race.seed i ++ (replies_are i ++ (journals_text 0 (map length race.journals) i
      ++ (lives_text sections (lives_of race.book) (lives_labelled race.shape shape_fits race.seed race.clock sections race.book clock_fits l.serial.homes l.book.slots numbers.below cards) i
      ++ (looked_text sections 1 race.looked (each_weaken _ (LookedLabelled sections) race.looked (λ x h. h.1) looked_fit) i ++ (cut_is race.cut i ++ clock_text race.clock i)))))))
      ∙ sym rows_apart

  text_is : render race ≡ rows_text (race_rows sections race)
  unfolding render
  text_is = ap (λ cs. told_text cs (told race)) commands_are ∙ told_is

  abbrev all : List Line
  all = race_lines sections race

  last_line : slice_get all (length all - 1) ≡ Some (lines.Clock race.clock)
  last_line = last_is all ∙ lines_end sections race

  -- the text is a record of the race's lines
  pub is_a_record : IsRecord (render race) all
  is_a_record =
      let same : map line_of (race_rows sections race) ≡ all = all_lines sections race in
      subst (λ t. IsRecord t all) (sym text_is) (subst (IsRecord (rows_text (race_rows sections race))) same
      (is_record (race_rows sections race) race.clock rows_are
      (subst (AreInOrder None) (sym same) (lines_order sections race (up_lives race.book distinct)))
      (subst (λ ls. slice_get ls (length ls - 1) ≡ Some (lines.Clock race.clock)) (sym same) last_line)))

  abbrev number : Name → ℕ
  number = number_in (names_of all)

  told_race : (p : Printed) → spec.Tells all p → Tells (numbered number sections) race p
  told_race p t =
      let shape : Some (lines.Shape race.shape race.seed) ≡ Some (lines.Shape p.shape p.seed) = t.shape in
      let clock : Some (lines.Clock race.clock) ≡ Some (lines.Clock p.clock) = sym last_line ∙ t.clock in record {
        shape = cc;
        seed = cc;
        lives = t.lives ∙ lives_told number sections race;
        packets = t.packets ∙ packets_told number sections race;
        vain = t.vain ∙ vain_told sections race;
        clock = cc;
      }

  yes_by : (v : Verdict) (p : Printed) → Tells (numbered number sections) race p → Answers all p v → v ≡ yes_of race
  yes_by (verdicts.Yes lives packets clock) p t a =
      let first : lives ≡ length (lives_of race.book) = a.1 ∙ ap length t.lives ∙ length-map (lives_of race.book) _ in
      let second : packets ≡ length race.looked = a.2 ∙ ap length t.packets ∙ length-map race.looked _ in
      let third : clock ≡ race.clock = a.3 ∙ t.clock in
      λ i. verdicts.Yes (first i) (second i) (third i)
  yes_by (verdicts.No line why) p t a =
      let sound : (x : Why) → Passes p x = passes_each script capture race l (numbered number sections) p t in
      let e : findings.Sound ≡ findings.Wrong why a.0 = one_finding p findings.Sound (findings.Wrong why a.0) sound a.1 in
      absurd (cc)

  pub is_yes : (v : Verdict) → IsVerdict (render race) v → v ≡ yes_of race
  is_yes v iv =
      let same : iv.record_lines ≡ all = one_record (render race) iv.record_lines all iv.reads.is is_a_record in
      yes_by v iv.printed (told_race iv.printed (subst (λ ls. spec.Tells ls iv.printed) same iv.reads.told)) (subst (λ ls. Answers ls iv.printed v) same iv.answers)

  pub none_outside : (n : ℕ) → IsFirstOutside (render race) n → ⊥
  none_outside n o = excludes_records (render race) n all o is_a_record

  answer_by : (answer r : Result Verdict ReadEnd) → IsAnswer (render race) answer → answer ≡ r → IsYesOrMemory (yes_of race) r
  answer_by answer (Ok v) a e = is_yes v (a.verdict v e)
  answer_by answer (Err ends.Memory) a e = tt
  answer_by answer (Err (ends.BadLine n)) a e = none_outside n (a.bad n e)

  pub is_answered : (answer : Result Verdict ReadEnd) → IsAnswer (render race) answer → IsYesOrMemory (yes_of race) answer
  is_answered answer a = answer_by answer answer a refl

pub lawful_is_yes : LawfulIsYes
lawful_is_yes = is_yes

pub lawful_is_record : LawfulIsRecord
lawful_is_record = none_outside

pub lawful_passes : LawfulPasses
lawful_passes = is_answered

says_by : (race : Race) (v : Verdict) → v ≡ yes_of race → SaysYes (Ok v)
says_by race v e = subst (λ (x : Verdict). SaysYes (Ok x)) (sym e) tt

says_yes : (race : Race) (answer : Result Verdict ReadEnd) → IsYesOrMemory (yes_of race) answer → SaysYes answer
says_yes race (Ok v) h = says_by race v h
says_yes race (Err ends.Memory) h = tt
says_yes race (Err (ends.BadLine n)) h = absurd h

pub written_passes : WrittenPasses
written_passes lookers passes input out fl fp bytes room o answer a =
    let race : Race = o.2 in
    let w : IsLawfulOf input o.0 o.1 race =
    record { bytes = bytes; room = room; has = o.3; lawful = o.4; lookers = subst (λ (n : ℕ). n < 2 ^ 64) (sym o.5) fl; passes = subst (λ (n : ℕ). n < 2 ^ 64) (sym o.6) fp } in
    says_yes race answer (lawful_passes input o.0 o.1 race w answer (subst (λ t. IsAnswer t answer) o.7 a))
