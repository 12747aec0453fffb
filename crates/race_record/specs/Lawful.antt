-- Which records of a race are lawful: our own. Each field of `Lawful` is one fact of a record.
--
-- To be read from `Lawful`, at the end: what its fields cite stands above it, in their order.
use Rattle.std.specs.Prelude.{◌≡◌, ◌≢◌, ℕ, ◌+◌, ◌/◌, ◌^◌, ◌<◌, ◌≤◌, true, IsTrue, None, List, [], ◌∷◌, ◌++◌, length, map, Some}
use Rattle.std.specs.List.{flat_map, slice_index_or}
use Rattle.list_words.specs.Lists.{Each, Pairs, SameItems}
use Rattle.sock_card.specs.declared.card.Kind.TheVariants as kinds
use Rattle.sock_card.specs.TimeWait.{expired}
use Rattle.turn_table.specs.declared.note.Note.{Note}
use Rattle.turn_table.specs.declared.note.Placed.{Placed}
use Rattle.turn_table.specs.Journals.{by_caller, notes_at, numbers_below}
use Rattle.turn_table.specs.Values.{all_placed}
use Rattle.bind_buckets.specs.declared.request.Entry.{Entry}
use Rattle.bind_buckets.specs.Journal.{IsLegal}
use Rattle.capture_reader.specs.declared.packet.Item.{Item}
use Rattle.capture_reader.specs.declared.packet.Item.TheVariants as items
use Rattle.capture_reader.specs.Captures.{Capture}
use Rattle.chain_book.specs.declared.book.Change.{Change}
use Rattle.chain_book.specs.declared.book.Receipt.{Receipt}
use Rattle.chain_book.specs.declared.shape.Shape.{Shape}
use Rattle.sock_card.specs.declared.card.Card.{Card}
use Rattle.sock_card.specs.declared.card.Packet.{Packet}
use Rattle.socket_list.specs.Order.{ascending}
use Rattle.socket_list.specs.declared.listing.Span.{Span}
use Rattle.chain_book.specs.Tuples.{keeps_from, waits_at}
use Rattle.flat_list.specs.declared.command.Command.{Command}
use Rattle.flat_list.specs.declared.command.Command.TheVariants as commands
use Rattle.flat_list.specs.declared.header.Header.{Header}
use Rattle.flat_list.specs.Script.{Script}
use Rattle.table_model.specs.Own.{Own, new_own}
use Rattle.table_model.specs.Commands.{answers, plan}
use Rattle.race_book.specs.Among.{Among}
use Rattle.race_book.specs.Lives.{IsLife, Stood, Throughout, Leaves}
use Rattle.race_book.specs.Listed.{FitSlots}
use Rattle.race_book.specs.Explained.{IsExplained, NamesItsBucket}
use Rattle.race_book.specs.Serial.{IsSerial}
use Rattle.race_record.specs.declared.record.Looked.{Looked}
use Rattle.race_record.specs.declared.record.Looked.TheVariants as looks
use Rattle.race_record.specs.Deeds.{Given, Taken, Vain, entries_in, changes_in, given_in, taken_in, vain_in, drawn_in}
use Rattle.race_record.specs.Goes.{Goes}
use Rattle.race_record.specs.Stages.{IsInStages, IsOfItsTime}
use Rattle.race_record.specs.Record.{Race, Step, Sighting, steps_of, deeds_of, all_deeds}

-- a fact of each item and of its number, where the first has that number
abbrev pub EachFrom : {A : Type 0} → (ℕ → A → Type 0) → ℕ → List A → Type 0
EachFrom P n [] = Unit {0}
EachFrom P n (x ∷ xs) = P n x × EachFrom P (n + 1) xs

-- each TIME_WAIT that this section left, and that has lasted its minute at the section's moment, is on its way out
-- before that number
abbrev pub ExpiredLeave : (Change → Type 0) → Own → ℕ → Type 0
ExpiredLeave In own to =
    (h : Change) → IsLife In h → h.card.kind ≡ kinds.TimeWait → h.card.name / 2 ^ 56 ≡ own.number
    → IsTrue (expired h.card.extra own.moment) → Leaves In h to

-- so after a `reap`
abbrev pub ReapsAll : (Change → Type 0) → Own → ℕ → Command → Type 0
ReapsAll In own to commands.Reap = ExpiredLeave In own to
ReapsAll In own to _ = Unit {0}

-- The step is the command's: by its plan, from what the section knows of itself, what was done leads to the reply and
-- to what the section knows then.
pub record IsStepOf (header : Header) (In : Change → Type 0) (own next : Own) (command : Command)
    (step : Step) : Type 0 where
  pub command_is : step.command ≡ command
  pub goes : Goes (plan header own command) step.deeds (answers next step.reply)
  pub reaps : ReapsAll In own step.to command

-- one step for each command, in their order
abbrev pub AreStepsOf : Header → (Change → Type 0) → Own → List Command → List Step → Type 0
AreStepsOf header In own [] [] = Unit {0}
AreStepsOf header In own (command ∷ cs) (step ∷ steps) =
    (next : Own) × IsStepOf header In own next command step × AreStepsOf header In next cs steps
AreStepsOf header In own _ _ = ⊥

-- each section's steps, where the first section has that number
abbrev pub AreSectionsOf : Header → (Change → Type 0) → ℕ → List (List Command) → List (List Step) → Type 0
AreSectionsOf header In n [] [] = Unit {0}
AreSectionsOf header In n (cs ∷ scripts) (steps ∷ sections) =
    AreStepsOf header In (new_own header n) cs steps × AreSectionsOf header In (n + 1) scripts sections
AreSectionsOf header In n _ _ = ⊥

-- A step lies between its two numbers: it drew its own between them, one after the other.
pub record IsSpanned (clock : ℕ) (s : Step) : Type 0 where
  pub order : s.from ≤ s.to
  pub most : s.to ≤ clock
  pub within : Each (λ (n : ℕ). (s.from ≤ n) × (n < s.to)) (drawn_in s.deeds)
  pub ascend : Pairs (λ (n m : ℕ). n < m) (drawn_in s.deeds)

-- A later step of the section begins with what its worker has seen by then: no less than the end of the step before.
abbrev pub Precedes : Step → Step → Type 0
Precedes s later = s.to ≤ later.from

-- the steps of one section come one after the other
pub record AreInOrder (clock : ℕ) (steps : List Step) : Type 0 where
  pub each : Each (IsSpanned clock) steps
  pub pairs : Pairs Precedes steps

abbrev pub entry_in : Note Entry → Entry
entry_in note = note.entry

abbrev pub itself : List (Note Entry) → List (Note Entry)
itself journal = journal

abbrev pub IsLegalJournal : ℕ → List (Note Entry) → Type 0
IsLegalJournal number journal = IsLegal number (map entry_in journal)

abbrev pub IsCalledBy : ℕ → Placed Entry → Type 0
IsCalledBy n p = p.note.caller ≡ n

-- of section n's entries each is its own, and each journal has them in the section's order
pub record IsEnteredBy (buckets : ℕ) (journals : List (List (Note Entry))) (n : ℕ) (steps : List Step) : Type 0 where
  pub callers : Each (IsCalledBy n) (entries_in buckets (deeds_of steps))
  pub in_order :
      EachFrom (λ place journal. by_caller n journal ≡ notes_at place (entries_in buckets (deeds_of steps))) 0 journals

-- the journals are legal, each for its bucket's number, and have the steps' entries, each once,
-- those of one section in its order
pub record AreJournalsOf (race : Race) : Type 0 where
  pub count : length race.journals ≡ race.shape.bind
  pub legal : EachFrom IsLegalJournal 0 race.journals
  pub each_once : SameItems (all_placed itself 0 race.journals) (entries_in race.shape.bind (all_deeds race))
  pub sections : EachFrom (IsEnteredBy race.shape.bind race.journals) 1 race.sections

-- The book has what the steps changed, each change once and of one of the slots. The numbers that were drawn, for
-- changes and in vain, are those below the clock, each once.
pub record IsBookOf (race : Race) : Type 0 where
  pub each_once : SameItems race.book (changes_in (all_deeds race))
  pub slots : FitSlots race.shape.slots race.book
  pub numbers : SameItems (drawn_in (all_deeds race)) (numbers_below race.clock)

module _ (In : Change → Type 0) where
  -- the life stood at that number of the clock: it had been hashed, and nobody had begun to unhash it
  abbrev pub StandsAt : Change → ℕ → Type 0
  StandsAt h number = Throughout In h number number

  -- in the slot of who gave way one of its card stood as the newcomer's hash began
  pub record GaveWay (g : Given) (unhash : Change) : Type 0 where
    pub life : Change
    pub is : IsLife In life
    pub slot_is : life.slot ≡ unhash.slot
    pub card_is : life.card ≡ unhash.card
    pub stands : StandsAt life g.hash.begin

  -- As the newcomer's hash began, nobody stood in its chain that keeps the four-tuple, and no TIME_WAIT of the
  -- four-tuple did unless one gave way.
  pub record WasFree (g : Given) : Type 0 where
    pub unkept : (h : Change) → IsLife In h → h.bucket ≡ g.hash.bucket
        → keeps_from g.wish.card g.wish.moment g.wish.rule h.card ≡ true → ¬ (StandsAt h g.hash.begin)
    pub unwaited : g.replaced ≡ None → (h : Change) → IsLife In h → h.bucket ≡ g.hash.bucket
        → waits_at g.wish.card h.card ≡ true → ¬ (StandsAt h g.hash.begin)
    pub gave : (unhash : Change) → g.replaced ≡ Some unhash → GaveWay g unhash

module _ (In : Change → Type 0) (from to : ℕ) where
  -- at some number between the two a socket of that name stood that keeps the four-tuple
  pub record WasKept (t : Taken) : Type 0 where
    pub life : Change
    pub is : IsLife In life
    pub name : life.card.name ≡ t.name
    pub keeps : keeps_from t.wish.card t.wish.moment t.wish.rule life.card ≡ true
    pub number : ℕ
    pub since : from ≤ number
    pub until : number ≤ to
    pub stands : StandsAt In life number

  -- a life stood in that slot between the two numbers
  pub record WasOwned (slot : ℕ) : Type 0 where
    pub life : Change
    pub is : IsLife In life
    pub slot_is : life.slot ≡ slot
    pub stood : Stood In life from to

  -- the slot was read as only held between the two numbers
  pub record WasHeld (sightings : List Sighting) (slot : ℕ) : Type 0 where
    pub sighting : Sighting
    pub there : Among sightings sighting
    pub slot_is : sighting.slot ≡ slot
    pub since : from ≤ sighting.since
    pub until : sighting.until ≤ to

  -- no slot was free: each was owned, as lives show, or else only held, which needs somebody who took counts
  pub record NoneWasFree (slots counts : ℕ) (sightings : List Sighting) (v : Vain) : Type 0 where
    pub owned : List ℕ
    pub held : List ℕ
    pub all : length owned + length held ≡ slots
    pub owned_count : length owned ≡ v.owned
    pub held_count : length held ≡ v.held
    pub distinct : Pairs (λ (a b : ℕ). a ≢ b) (owned ++ held)
    pub below : Each (λ (slot : ℕ). slot < slots) (owned ++ held)
    pub owned_each : Each WasOwned owned
    pub held_each : Each (WasHeld sightings) held
    pub counted : 0 < v.held → 0 < counts

-- each four-tuple that a step was refused was kept from it
abbrev pub TakenWereKept : Race → Step → Type 0
TakenWereKept race s = Each (WasKept (Among race.book) s.from s.to) (taken_in s.deeds)

-- each four-tuple that a step was given was free
abbrev pub GivenWereFree : Race → Step → Type 0
GivenWereFree race s = Each (WasFree (Among race.book)) (given_in s.deeds)

-- each slot that a step sought in vain was owned or held, since the number was drawn for the search
abbrev pub SlotsWereUsed : Race → Step → Type 0
SlotsWereUsed race s =
    Each (λ (v : Vain). NoneWasFree (Among race.book) v.number s.to race.shape.slots race.counts race.sightings v)
    (vain_in s.deeds)

-- in one slot of one bucket's chain
abbrev pub HaveOnePlace : Change → Change → Type 0
HaveOnePlace g h = (g.bucket ≡ h.bucket) × (g.slot ≡ h.slot)

-- What was listed between two numbers of a step: each chain as it was at one number between the two loads of the
-- clock, and none earlier than a chain before it. Each card is that of a life that stood at its chain's number, no two
-- of them of lives in one place, and of each life that stood then the card is among them.
pub record IsListed (In : Change → Type 0) (from to : ℕ) (cards : List Card) (span : Span) : Type 0 where
  pub begins : from ≤ span.t0
  pub order : span.t0 ≤ span.t1
  pub ends : span.t1 ≤ to
  pub sorted : cards ≡ ascending cards
  pub number : ℕ → ℕ
  pub since : (bucket : ℕ) → span.t0 ≤ number bucket
  pub until : (bucket : ℕ) → number bucket ≤ span.t1
  pub ascend : (b c : ℕ) → b ≤ c → number b ≤ number c
  pub lives : List Change
  pub cards_are : SameItems cards (map (λ (h : Change). h.card) lives)
  pub stood : Each (λ h. IsLife In h × Stood In h span.t0 span.t1) lives
  pub stands : Each (λ h. StandsAt In h (number h.bucket)) lives
  pub apart : Pairs (λ g h. ¬ (HaveOnePlace g h)) lives
  pub all : (h : Change) → IsLife In h → StandsAt In h (number h.bucket) → Among cards h.card

-- what a step of that command listed: a `dump` one listing, between two loads of the clock, any other command nothing
abbrev pub ListsAs : Race → Command → Step → Type 0
ListsAs race commands.Dump s =
    (cards : List Card) × (span : Span) × (s.listings ≡ record { cards = cards; span = Some span } ∷ [])
    × IsListed (Among race.book) s.from s.to cards span
ListsAs race _ s = s.listings ≡ []

abbrev pub Lists : Race → Step → Type 0
Lists race s = ListsAs race s.command s

-- a packet's receipt: by the seed, between two loads of the clock, explained by the changes, as a whole and each of
-- its three lookups; what was found was there at that time; and where it was given up, it names the bucket
pub record IsReceiptOf (In : Change → Type 0) (shape : Shape) (seed clock : ℕ) (packet : Packet)
    (r : Receipt) : Type 0 where
  pub packet_is : r.packet ≡ packet
  pub seed_is : r.seed ≡ seed
  pub order : r.t0 ≤ r.t1
  pub most : r.t1 ≤ clock
  pub explained : IsExplained In shape r
  pub stages : IsInStages In shape seed packet r.t0 r.t1 r.answer
  pub life : IsOfItsTime In r.t0 r.t1 r.answer
  pub bucket : NamesItsBucket shape seed packet r.answer

module _ (In : Change → Type 0) (shape : Shape) (seed clock : ℕ) where
  -- what came of an item: the receipt of its packet, or that it is no packet
  abbrev pub Answers : Item → Looked → Type 0
  Answers (items.Packet packet) (looks.Answered r) = IsReceiptOf In shape seed clock packet r
  Answers items.Skip looks.Skip = Unit {0}
  Answers items.Short looks.Short = Unit {0}
  Answers _ _ = ⊥

  -- one answer for each item, in their order
  abbrev pub AreAnswered : List Item → List Looked → Type 0
  AreAnswered [] [] = Unit {0}
  AreAnswered (item ∷ left) (looked ∷ rest) = Answers item looked × AreAnswered left rest
  AreAnswered _ _ = ⊥

-- what came of one item, and of a later one that the same looker took: its lookup began with what it had seen by then
abbrev pub Follows : Looked → Looked → Type 0
Follows (looks.Answered r) (looks.Answered later) = r.t1 ≤ later.t0
Follows _ _ = Unit {0}

abbrev pub looked_at : List Looked → ℕ → Looked
looked_at looked i = slice_index_or looked i looks.Skip

-- a looker took its items in their order, one lookup after the other
pub record AreTakenInTurn (looked : List Looked) (mine : List ℕ) : Type 0 where
  pub ascend : Pairs (λ (i j : ℕ). i < j) mine
  pub turns : Pairs (λ (i j : ℕ). Follows (looked_at looked i) (looked_at looked j)) mine

-- each item was taken by one looker
pub record AreSharesOf (race : Race) : Type 0 where
  pub count : length race.shares ≡ race.lookers
  pub each_once : SameItems (flat_map (λ mine. mine) race.shares) (numbers_below (length race.looked))
  pub turns : Each (AreTakenInTurn race.looked) race.shares

-- an item of which nothing can be looked up
abbrev pub IsNoPacket : Item → Type 0
IsNoPacket (items.Packet packet) = ⊥
IsNoPacket _ = Unit {0}

-- The record is one of a race of that script with that capture.
pub record Lawful (script : Script) (capture : Capture) (race : Race) : Type 0 where
  -- the tables are the script's
  pub shape : race.shape ≡ script.header.shape
  pub seed : race.seed ≡ script.header.seed
  -- each section has a step for each of its commands, by the command's plan
  pub sections : AreSectionsOf script.header (Among race.book) 1 script.sections race.sections
  -- the steps of a section come one after the other
  pub spans : Each (AreInOrder race.clock) race.sections
  -- the journals are legal, and hold what the steps entered
  pub journals : AreJournalsOf race
  -- the book holds what the steps changed, and no number of the clock is without its use
  pub book : IsBookOf race
  pub serial : IsSerial (Among race.book) race.shape race.seed
  -- whoever is reported to have kept a four-tuple stood then
  pub taken : Each (TakenWereKept race) (steps_of race)
  -- and none who does stood as the hash began to which one was given
  pub given : Each (GivenWereFree race) (steps_of race)
  -- no slot was free where none was reported to be
  pub slots : Each (SlotsWereUsed race) (steps_of race)
  -- no count was taken where no packet was looked up: so no slot was only held
  pub counted : Each IsNoPacket capture.items → race.counts ≡ 0
  -- each dump lists exactly what stood in each chain, at one number for each
  pub dumps : Each (Lists race) (steps_of race)
  -- each item of the capture has its answer, which the book explains
  pub items : AreAnswered (Among race.book) race.shape race.seed race.clock capture.items race.looked
  pub shares : AreSharesOf race
  pub cut : race.cut ≡ capture.cut
