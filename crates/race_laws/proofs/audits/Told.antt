-- What the judge gets from the lines of a race.
use Rattle.std.proofs.Common.{◌≡◌, ℕ, ◌+◌, ◌==◌, Bool, true, false, cond, List, [], ◌∷◌, ◌++◌, length, append-nil, map, filter, count_by, Option, None, if◌then◌else◌, refl, sym, ap, ◌∙◌, arith}
use Rattle.std.specs.List.{filter_map, flat_map}
use Rattle.std.proofs.lemmas.List.Elements.{filter_map-append}
use Rattle.std.proofs.lemmas.List.Sums.{length-filter}
use Rattle.list_words.specs.Lists.{Each}
use Rattle.list_words.proofs.EachLemmas.{each_append}
use Rattle.sock_card.specs.declared.card.Card.{Card}
use Rattle.chain_book.specs.declared.book.PacketAnswer.{PacketAnswer}
use Rattle.chain_book.specs.declared.book.PacketAnswer.TheVariants as answers
use Rattle.flat_list.specs.declared.command.Command.{Command}
use Rattle.race_book.specs.declared.lives.Life.{Life}
use Rattle.race_book.specs.Listed.{lives_of}
use Rattle.book_audit.specs.declared.printed.PrintedPacket.TheVariants as packets
use Rattle.race_record.specs.declared.record.Looked.{Looked}
use Rattle.race_record.specs.declared.record.Looked.TheVariants as looks
use Rattle.race_record.specs.Laws.{drew_for, drew_in_vain}
use Rattle.race_record.specs.Record.{Race, Step, steps_of}
use Rattle.race_record.proofs.Weights.{kept_join}
use Rattle.record_reader.specs.declared.line.Name.{Name}
use Rattle.record_reader.specs.declared.line.Line.{Line}
use Rattle.record_reader.specs.declared.line.Line.TheVariants as lines
use Rattle.record_reader.specs.Record.{rank}
use Rattle.record_reader.specs.Told.{answer_told, is_vain, item_told, life_in, packet_in}
use Rattle.race_laws.proofs.audits.Printed.{told_answer, told_life, told_lives, told_item}
use Rattle.race_laws.proofs.audits.Lines.{answer_line, cut_lines, item_line, journals_from, later_lines, life_lines, listed_cards, packets_from, race_lines, reply_lines, step_lines, told_name}

-- all lines are of that kind
abbrev AreOf : ℕ → List Line → Type 0
AreOf k all = Each (λ line. rank line ≡ k) all

-- the lines of listed sockets
abbrev items_of : List Card → List Line
items_of cards = map (λ (c : Card). lines.Reply false) cards

items_are : (cards : List Card) → AreOf 2 (items_of cards)
items_are [] = tt
items_are (c ∷ cards) = (refl, items_are cards)

steps_are : (steps : List Step) → AreOf 2 (flat_map step_lines steps)
steps_are [] = tt
steps_are (s ∷ steps) =
    (refl, each_append (λ line. rank line ≡ 2) (items_of (listed_cards s)) (flat_map step_lines steps) (items_are (listed_cards s)) (steps_are steps))

replies_are : (sections : List (List Step)) → AreOf 2 (reply_lines sections)
replies_are [] = tt
replies_are (steps ∷ rest) = each_append (λ line. rank line ≡ 2) (flat_map step_lines steps) (reply_lines rest) (steps_are steps) (replies_are rest)

journals_by : (b : Bool) (bucket count : ℕ) (rest : List Line) → AreOf 3 rest → AreOf 3 (if b then rest else lines.Journal bucket count ∷ rest)
journals_by true bucket count rest h = h
journals_by false bucket count rest h = (refl, h)

journals_are : (bucket : ℕ) (counts : List ℕ) → AreOf 3 (journals_from bucket counts)
journals_are bucket [] = tt
journals_are bucket (count ∷ rest) = journals_by (count == 0) bucket count (journals_from (bucket + 1) rest) (journals_are (bucket + 1) rest)

lives_are : (sections : List (List Command)) (lives : List Life) → AreOf 4 (life_lines sections lives)
lives_are sections [] = tt
lives_are sections (l ∷ rest) = (refl, lives_are sections rest)

packets_are : (sections : List (List Command)) (n : ℕ) (looked : List Looked) → AreOf 5 (packets_from sections n looked)
packets_are sections n [] = tt
packets_are sections n (looked ∷ rest) = (refl, packets_are sections (n + 1) rest)

cut_are : (cut : Bool) → AreOf 6 (cut_lines cut)
cut_are true = (refl, tt)
cut_are false = tt

-- lines from which nothing is taken
nothing_told : {X : Type 0} (f : Line → Option X) (k : ℕ) → ((line : Line) → rank line ≡ k → f line ≡ None) → (all : List Line) → AreOf k all → filter_map f all ≡ []
nothing_told f k none [] h = refl
nothing_told f k none (line ∷ rest) h = rw (none line h.0) (nothing_told f k none rest h.1)

none_passes : (test : Line → Bool) (k : ℕ) → ((line : Line) → rank line ≡ k → test line ≡ false) → (all : List Line) → AreOf k all → filter test all ≡ []
none_passes test k none [] h = refl
none_passes test k none (line ∷ rest) h = rw (none line h.0) (none_passes test k none rest h.1)

module _ (number : Name → ℕ) where
  life_none : (k : ℕ) → (k ≡ 4 → ⊥) → (line : Line) → rank line ≡ k → life_in number line ≡ None
  life_none k apart (lines.Life l) e = absurd (apart (sym e))
  life_none k apart (lines.Race m n) e = refl
  life_none k apart (lines.Shape s n) e = refl
  life_none k apart (lines.Reply v) e = refl
  life_none k apart (lines.Journal b c) e = refl
  life_none k apart (lines.Packet n i) e = refl
  life_none k apart lines.Cut e = refl
  life_none k apart (lines.Clock c) e = refl

  packet_none : (k : ℕ) → (k ≡ 5 → ⊥) → (line : Line) → rank line ≡ k → packet_in number line ≡ None
  packet_none k apart (lines.Packet n i) e = absurd (apart (sym e))
  packet_none k apart (lines.Race m n) e = refl
  packet_none k apart (lines.Shape s n) e = refl
  packet_none k apart (lines.Reply v) e = refl
  packet_none k apart (lines.Journal b c) e = refl
  packet_none k apart (lines.Life l) e = refl
  packet_none k apart lines.Cut e = refl
  packet_none k apart (lines.Clock c) e = refl

  module _ (sections : List (List Command)) where
    -- the number that stands for a name
    abbrev pub numbered : ℕ → ℕ
    numbered name = number (told_name sections name)

    own_lives : (lives : List Life) → filter_map (life_in number) (life_lines sections lives) ≡ map (told_life numbered) lives
    own_lives [] = refl
    own_lives (l ∷ rest) = ap (λ ls. told_life numbered l ∷ ls) (own_lives rest)

    answer_is : (a : PacketAnswer) → answer_told number (answer_line sections a) ≡ told_answer numbered a
    answer_is (answers.Found card) = refl
    answer_is answers.None = refl
    answer_is (answers.Again bucket end) = refl

    item_is : (looked : Looked) → item_told number (item_line sections looked) ≡ told_item numbered looked
    item_is (looks.Answered r) = ap (λ a. packets.Looked (record { packet = r.packet; answer = a; t0 = r.t0; t1 = r.t1 })) (answer_is r.answer)
    item_is looks.Skip = refl
    item_is looks.Short = refl

    own_packets : (n : ℕ) (looked : List Looked) → filter_map (packet_in number) (packets_from sections n looked) ≡ map (told_item numbered) looked
    own_packets n [] = refl
    own_packets n (looked ∷ rest) = λ i. item_is looked i ∷ own_packets (n + 1) rest i

    behind_lives : (race : Race) → filter_map (life_in number) (packets_from sections 1 race.looked ++ (cut_lines race.cut ++ lines.Clock race.clock ∷ [])) ≡ []
    behind_lives race =
        filter_map-append (life_in number) (packets_from sections 1 race.looked) (cut_lines race.cut ++ lines.Clock race.clock ∷ [])
        ∙ ap (λ ls. ls ++ filter_map (life_in number) (cut_lines race.cut ++ lines.Clock race.clock ∷ []))
        (nothing_told (life_in number) 5 (life_none 5 (λ e. omega (arith, e))) (packets_from sections 1 race.looked) (packets_are sections 1 race.looked))
        ∙ filter_map-append (life_in number) (cut_lines race.cut) (lines.Clock race.clock ∷ [])
        ∙ ap (λ ls. ls ++ []) (nothing_told (life_in number) 6 (life_none 6 (λ e. omega (arith, e))) (cut_lines race.cut) (cut_are race.cut))

    -- the lives that the lines give
    pub lives_told : (race : Race) → filter_map (life_in number) (race_lines sections race) ≡ told_lives numbered race.book
    lives_told race =
        let lives = life_lines sections (lives_of race.book) in
        let behind = packets_from sections 1 race.looked ++ (cut_lines race.cut ++ lines.Clock race.clock ∷ []) in
        let counts = journals_from 0 (map length race.journals) in
        filter_map-append (life_in number) (reply_lines race.sections) (later_lines sections race)
        ∙ ap (λ ls. ls ++ filter_map (life_in number) (later_lines sections race)) (nothing_told (life_in number) 2 (life_none 2 (λ e. omega (arith, e))) (reply_lines race.sections) (replies_are race.sections))
        ∙ filter_map-append (life_in number) counts (lives ++ behind)
        ∙ ap (λ ls. ls ++ filter_map (life_in number) (lives ++ behind)) (nothing_told (life_in number) 3 (life_none 3 (λ e. omega (arith, e))) counts (journals_are 0 (map length race.journals)))
        ∙ filter_map-append (life_in number) lives behind
        ∙ (λ i. own_lives (lives_of race.book) i ++ behind_lives race i)
        ∙ append-nil (map (told_life numbered) (lives_of race.book))

    behind_packets : (race : Race) → filter_map (packet_in number) (cut_lines race.cut ++ lines.Clock race.clock ∷ []) ≡ []
    behind_packets race =
        filter_map-append (packet_in number) (cut_lines race.cut) (lines.Clock race.clock ∷ [])
        ∙ ap (λ ls. ls ++ []) (nothing_told (packet_in number) 6 (packet_none 6 (λ e. omega (arith, e))) (cut_lines race.cut) (cut_are race.cut))

    -- and the packets
    pub packets_told : (race : Race) → filter_map (packet_in number) (race_lines sections race) ≡ map (told_item numbered) race.looked
    packets_told race =
        let lives = life_lines sections (lives_of race.book) in
        let behind = cut_lines race.cut ++ lines.Clock race.clock ∷ [] in
        let packets = packets_from sections 1 race.looked in
        let counts = journals_from 0 (map length race.journals) in
        filter_map-append (packet_in number) (reply_lines race.sections) (later_lines sections race)
        ∙ ap (λ ls. ls ++ filter_map (packet_in number) (later_lines sections race)) (nothing_told (packet_in number) 2 (packet_none 2 (λ e. omega (arith, e))) (reply_lines race.sections) (replies_are race.sections))
        ∙ filter_map-append (packet_in number) counts (lives ++ (packets ++ behind))
        ∙ ap (λ ls. ls ++ filter_map (packet_in number) (lives ++ (packets ++ behind))) (nothing_told (packet_in number) 3 (packet_none 3 (λ e. omega (arith, e))) counts (journals_are 0 (map length race.journals)))
        ∙ filter_map-append (packet_in number) lives (packets ++ behind)
        ∙ ap (λ ls. ls ++ filter_map (packet_in number) (packets ++ behind)) (nothing_told (packet_in number) 4 (packet_none 4 (λ e. omega (arith, e))) lives (lives_are sections (lives_of race.book)))
        ∙ filter_map-append (packet_in number) packets behind
        ∙ (λ i. own_packets 1 race.looked i ++ behind_packets race i)
        ∙ append-nil (map (told_item numbered) race.looked)

not_vain : (k : ℕ) → (k ≡ 2 → ⊥) → (line : Line) → rank line ≡ k → is_vain line ≡ false
not_vain k apart (lines.Reply v) e = absurd (apart (sym e))
not_vain k apart (lines.Race m n) e = refl
not_vain k apart (lines.Shape s n) e = refl
not_vain k apart (lines.Journal b c) e = refl
not_vain k apart (lines.Life l) e = refl
not_vain k apart (lines.Packet n i) e = refl
not_vain k apart lines.Cut e = refl
not_vain k apart (lines.Clock c) e = refl

step_by : (b : Bool) (line : Line) (s : Step) (xs : List Line) (ys : List Step) → length xs ≡ length ys → length (cond b (line ∷ xs) xs) ≡ length (cond b (s ∷ ys) ys)
step_by true line s xs ys e = omega (arith, e)
step_by false line s xs ys e = e

items_vain : (cards : List Card) → length (filter is_vain (items_of cards)) ≡ 0
items_vain [] = refl
items_vain (c ∷ cards) = items_vain cards

steps_vain : (steps : List Step) → length (filter is_vain (flat_map step_lines steps)) ≡ length (filter drew_in_vain steps)
steps_vain [] = refl
steps_vain (s ∷ steps) =
    let items = items_of (listed_cards s) in
    let behind = flat_map step_lines steps in
    step_by (drew_for s.reply) (lines.Reply (drew_for s.reply)) s (filter is_vain (items ++ behind)) (filter drew_in_vain steps)
    (omega (arith, kept_join is_vain items behind, items_vain (listed_cards s), steps_vain steps))

replies_vain : (sections : List (List Step)) → length (filter is_vain (reply_lines sections)) ≡ length (filter drew_in_vain (flat_map (λ steps. steps) sections))
replies_vain [] = refl
replies_vain (steps ∷ rest) = omega (
  arith,
  kept_join is_vain (flat_map step_lines steps) (reply_lines rest),
  kept_join drew_in_vain steps (flat_map (λ ss. ss) rest),
  steps_vain steps,
  replies_vain rest,
)

no_vain : (k : ℕ) → (k ≡ 2 → ⊥) → (all : List Line) → AreOf k all → length (filter is_vain all) ≡ 0
no_vain k apart all h = ap length (none_passes is_vain k (not_vain k apart) all h)

-- and how many replies drew a number in vain
pub vain_told : (sections : List (List Command)) (race : Race) → count_by is_vain (race_lines sections race) ≡ length (filter drew_in_vain (steps_of race))
vain_told sections race =
    let lives = life_lines sections (lives_of race.book) in
    let packets = packets_from sections 1 race.looked in
    let counts = journals_from 0 (map length race.journals) in
    let cut = cut_lines race.cut in
    let end = lines.Clock race.clock ∷ [] in
    omega (
      arith,
      length-filter is_vain (race_lines sections race),
      kept_join is_vain (reply_lines race.sections) (later_lines sections race),
      kept_join is_vain counts (lives ++ (packets ++ (cut ++ end))),
      kept_join is_vain lives (packets ++ (cut ++ end)),
      kept_join is_vain packets (cut ++ end),
      kept_join is_vain cut end,
      replies_vain race.sections,
      no_vain 3 (λ e. omega (arith, e)) counts (journals_are 0 (map length race.journals)),
      no_vain 4 (λ e. omega (arith, e)) lives (lives_are sections (lives_of race.book)),
      no_vain 5 (λ e. omega (arith, e)) packets (packets_are sections 1 race.looked),
      no_vain 6 (λ e. omega (arith, e)) cut (cut_are race.cut),
    )
