-- What a race leaves once all workers are joined, and the record that it is: our own.
--
-- To be read from `HasEnded`, which says what the workers left, and `race_by`, which is the record.
use Rattle.std.specs.Prelude.{◌≡◌, ℕ, ◌+◌, ◌<◌, ◌≤◌, Bool, List, [], ◌∷◌, length, map, ◌^◌}
use Rattle.std.specs.List.{flat_map, range_with_len}
use Rattle.std.specs.Global.{Box}
use Rattle.list_words.specs.Lists.{Each, SameItems}
use Rattle.turn_table.specs.Ends.{HoldsWhatWasGiven, IsInTheOrderOfEach}
use Rattle.bind_buckets.specs.Bucket.{Bucket}
use Rattle.bind_buckets.specs.Closed.{AreLeft, notes_in}
use Rattle.bind_buckets.specs.Turned.{View as BindView}
use Rattle.chain_book.specs.declared.book.Change.{Change}
use Rattle.flat_list.specs.declared.header.Header.{Header}
use Rattle.flat_list.specs.declared.command.Command.{Command}
use Rattle.table_rule.specs.Plays.{seeing}
use Rattle.table_rule.specs.Sole.{WholeBook}
use Rattle.table_rule.specs.declared.view.Sight.{Sight}
use Rattle.table_rule.specs.declared.view.View.{View}
use Rattle.table_model.specs.Own.{Own, new_own}
use Rattle.table_model.specs.Commands.{answers, plan}
use Rattle.race_book.specs.Among.{Among}
use Rattle.race_book.specs.Serial.{IsSerial}
use Rattle.race_record.specs.Goes.{Goes}
use Rattle.race_record.specs.Record.{Race, Step, Sighting, steps_of, replies_of, listings_of}
use Rattle.race_record.specs.Lawful.{AreSectionsOf, AreInOrder, AreJournalsOf, IsBookOf, ReapsAll, TakenWereKept, GivenWereFree, SlotsWereUsed, Lists}
use Rattle.race_record.specs.declared.record.Looked.{Looked}
use Rattle.sock_ops.specs.Sides.{change_of}
use Rattle.sock_ops.specs.Sizes.{IsSized}
use Rattle.race_run.specs.Joins.{Part, Joined}
use Rattle.race_run.specs.Said.{Said, replied_in, listed_in}
use Rattle.race_run.specs.Sections.{HasDone, layout_in}

-- The clock was loaded by a pass that has all parts and nothing under way: what it knows then.
pub record IsWhole (y : View) (clock : ℕ) : Type 0 where
  pub parts : y.slot.parts ≡ 16384
  pub opened : y.book.opened ≡ []
  pub book : WholeBook y clock

-- a section was done from its first command to its last
pub record SectionDone (header : Header) (n : ℕ) (commands : List Command) (p : Part) (s : Said) : Type 0 where
  pub own : Own
  pub next : ℕ
  pub done : HasDone header n commands own p.turns (record { layout = layout_in header; view = p.chain; next = next }) s

-- so were all sections, of which the first has that number
abbrev pub AllDone : Header → (ℕ → Part) → ℕ → List (List Command) → List Said → Type 0
AllDone header part n [] [] = Unit {0}
AllDone header part n (cs ∷ scripts) (said ∷ says) =
    SectionDone header n cs (part n) said × AllDone header part (n + 1) scripts says
AllDone header part n _ _ = ⊥

-- their steps
abbrev pub steps_by :
    (header : Header) (part : ℕ → Part) (n : ℕ) (scripts : List (List Command)) (says : List Said)
    → AllDone header part n scripts says → List (List Step)
steps_by header part n [] [] d = []
steps_by header part n (cs ∷ scripts) (said ∷ says) d = d.0.done.steps ∷ steps_by header part (n + 1) scripts says d.1
steps_by header part n [] (said ∷ says) d = []
steps_by header part n (cs ∷ scripts) [] d = []

-- a worker that asked no bind bucket anything, and changed no chain
pub record HasOnlyLooked (p : Part) : Type 0 where
  pub mine : p.turns.mine ≡ []
  pub closed : p.chain.book.closed ≡ []
  pub lost : p.chain.book.lost ≡ []

-- each section and so many lookers were joined to the first worker, each once, whose passes then came to an end: by
-- the one the clock was loaded, and by the other the bind buckets were taken
pub record HasEnded (header : Header) (scripts : List (List Command)) (part : ℕ → Part) (lookers : ℕ) (v : BindView)
    (x : View) (values : List (Box Bucket)) (says : List Said) (clock : ℕ) : Type 0 where
  pub order : List ℕ
  pub each_once : SameItems order (range_with_len 1 (length scripts + lookers))
  pub joined : Joined part order v x
  pub done : AllDone header part 1 scripts says
  pub others : (m : ℕ) → length scripts < m → HasOnlyLooked (part m)
  pub layout : x.layout ≡ layout_in header
  pub sized : IsSized header.shape
  pub later : x.seen ≤ clock
  pub whole : IsWhole (seeing x clock) clock
  pub count : length values ≡ header.shape.bind
  pub left : AreLeft 0 header.shape.bind values
  pub given : HoldsWhatWasGiven notes_in v values
  pub in_order : IsInTheOrderOfEach notes_in v values

-- Of a section's steps that reaped, each did so to the end: said of all that the section may know of itself then.
abbrev pub AreReaped : Header → (Change → Type 0) → Own → List Command → List Step → Type 0
AreReaped header In own (command ∷ cs) (step ∷ steps) =
    ReapsAll In own step.to command
    × ((next : Own) → Goes (plan header own command) step.deeds (answers next step.reply)
    → AreReaped header In next cs steps)
AreReaped header In own _ _ = Unit {0}

abbrev pub AllReaped : Header → (Change → Type 0) → ℕ → List (List Command) → List (List Step) → Type 0
AllReaped header In n (cs ∷ scripts) (steps ∷ sections) =
    AreReaped header In (new_own header n) cs steps × AllReaped header In (n + 1) scripts sections
AllReaped header In n _ _ = Unit {0}

-- a section has fewer commands than a section can name labels
abbrev pub AreFew : List Command → Type 0
AreFew commands = length commands < 2 ^ 24

-- what the lookers have to report
pub record Looks : Type 0 where
  pub lookers : ℕ
  pub passes : ℕ
  pub looked : List Looked
  pub shares : List (List ℕ)
  pub cut : Bool

-- the slots that were read as held alone
abbrev pub held_in : Sight → List Sighting
held_in s = map (λ i. record { slot = i; since = s.since; until = s.until }) s.held

-- the book of what a pass closed
abbrev pub book_of : View → List Change
book_of y = map change_of y.book.closed

-- the record, by the pass into which all others were joined, and by the bind buckets
abbrev pub race_by : Header → Looks → List (List Step) → List (Box Bucket) → View → ℕ → Race
race_by header looks sections values y clock =
    record {
      lookers = looks.lookers;
      passes = looks.passes;
      shape = header.shape;
      seed = header.seed;
      sections = sections;
      journals = map notes_in values;
      book = book_of y;
      looked = looks.looked;
      shares = looks.shares;
      cut = looks.cut;
      counts = y.slot.taken;
      sightings = flat_map held_in y.sights;
      clock = clock;
    }

-- lawful, but for what is said of lookups
pub record IsLawfulBut (header : Header) (scripts : List (List Command)) (race : Race) : Type 0 where
  pub shape : race.shape ≡ header.shape
  pub seed : race.seed ≡ header.seed
  pub sections : AreSectionsOf header (Among race.book) 1 scripts race.sections
  pub spans : Each (AreInOrder race.clock) race.sections
  pub journals : AreJournalsOf race
  pub book : IsBookOf race
  pub serial : IsSerial (Among race.book) race.shape race.seed
  pub taken : Each (TakenWereKept race) (steps_of race)
  pub given : Each (GivenWereFree race) (steps_of race)
  pub slots : Each (SlotsWereUsed race) (steps_of race)
  pub dumps : Each (Lists race) (steps_of race)

-- its sections said that
pub record SaysSo (race : Race) (says : List Said) : Type 0 where
  pub replies : replies_of race ≡ map replied_in says
  pub listings : listings_of race ≡ flat_map listed_in says
