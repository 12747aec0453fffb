-- Laws of what workers did: our own.
--
-- Each definition is one law, which a function of src/laws.rt states. Of a whole race `Closes` says that its record is
-- lawful but for what is said of lookups, and `LooksToo` that it is lawful.
use Rattle.std.specs.Prelude.{◌≡◌, ℕ, ◌+◌, List, [], ◌∷◌, ◌++◌, length}
use Rattle.std.specs.List.{range_with_len}
use Rattle.std.specs.Global.{Box}
use Rattle.list_words.specs.Lists.{Each}
use Rattle.turn_table.specs.Views.{joined}
use Rattle.bind_buckets.specs.Bucket.{Bucket}
use Rattle.bind_buckets.specs.Turned.{View as BindView}
use Rattle.sock_card.specs.declared.card.Packet.{Packet}
use Rattle.chain_book.specs.declared.book.PacketAnswer.{PacketAnswer}
use Rattle.chain_book.specs.declared.book.Receipt.{Receipt}
use Rattle.capture_reader.specs.declared.packet.Item.{Item}
use Rattle.capture_reader.specs.declared.packet.Item.TheVariants as items
use Rattle.capture_reader.specs.Captures.{Capture}
use Rattle.flat_list.specs.Script.{Script}
use Rattle.flat_list.specs.declared.header.Header.{Header}
use Rattle.flat_list.specs.declared.command.Command.{Command}
use Rattle.flat_list.specs.declared.command.Reply.{Reply}
use Rattle.socket_list.specs.Listing.{Listing}
use Rattle.table_model.specs.Own.{Own, new_own}
use Rattle.table_rule.specs.Alone.{mine}
use Rattle.table_rule.specs.Explained.{IsExplained}
use Rattle.table_rule.specs.Plays.{Sat, both, seeing}
use Rattle.table_rule.specs.declared.view.Layout.{Layout}
use Rattle.table_rule.specs.declared.view.Receipt.{Receipt as Search}
use Rattle.table_rule.specs.declared.view.Whole.{Whole}
use Rattle.table_rule.specs.declared.view.View.{View}
use Rattle.reuseport_group.specs.declared.pass.GroupPasses.{GroupPasses}
use Rattle.demux.specs.Concludes.{ByOrder}
use Rattle.race_book.specs.Among.{Among}
use Rattle.race_book.specs.Explained.{NamesItsBucket}
use Rattle.race_record.specs.Deeds.{Deed}
use Rattle.race_record.specs.Lawful.{Lawful}
use Rattle.race_record.specs.declared.record.Looked.{Looked}
use Rattle.race_record.specs.declared.record.Looked.TheVariants as looks
use Rattle.sock_ops.specs.Sides.{Side}
use Rattle.sock_ops.specs.Made.{AllLeave}
use Rattle.section_machine.specs.Sections.{Did}
use Rattle.race_run.specs.declared.looker.Look.{Look}
use Rattle.race_run.specs.Dumped.{Listed}
use Rattle.race_run.specs.Joins.{Part, Joined, IsBlank}
use Rattle.race_run.specs.Lookers.{item_at, HasLooked, LookedUp, HasLookedNothingUp, looking, AllBefore, IsPassedOver, AllLooked, AreTold, looks_by}
use Rattle.race_run.specs.Made.{MadeAll, Loads, loaded}
use Rattle.race_run.specs.Races.{HasEnded, Looks, AreFew, AllReaped, IsLawfulBut, SaysSo, race_by, steps_by}
use Rattle.race_run.specs.Said.{Said, said_as, saying}
use Rattle.race_run.specs.Searches.{AnswersAfter}
use Rattle.race_run.specs.Sections.{HasDone, HasNothing}

-- deeds one after the other leave what all of them make
abbrev pub AllMade : Type 0
AllMade = (deeds : List Deed) (c d : Side) → AllLeave deeds c d → MadeAll deeds c d

-- a section begins
abbrev pub Begins : Type 0
Begins = (header : Header) (n : ℕ) (v : BindView) (c : Side) → HasNothing header n v c
    → HasDone header n [] (new_own header n) v c (said_as [] [])

-- one command more, what it listed, and a load of the clock
abbrev pub OneMore : Type 0
OneMore =
    (header : Header) (n : ℕ) (commands : List Command) (own next : Own) (v w : BindView) (c d e : Side) (number : ℕ)
    (said : Said) (command : Command) (reply : Reply) (listings : List Listing)
    → HasDone header n commands own v c said → Did header own command v w c d next reply
    → Listed command d e listings → Loads e number
    → HasDone header n (commands ++ command ∷ []) next w (loaded e number) (saying said reply listings)

-- the first worker, before any other is joined to it
abbrev pub JoinsNone : Type 0
JoinsNone = (part : ℕ → Part) (v : BindView) (x : View) → IsBlank v x → Joined part [] v x

-- and one worker more
abbrev pub JoinsMore : Type 0
JoinsMore =
    (part : ℕ → Part) (order : List ℕ) (v : BindView) (x : View) (m : ℕ) → Joined part order v x
    → Joined part (order ++ m ∷ []) (joined v (part m).turns) (both x (part m).chain)

-- each section reaped to the end: each TIME_WAIT that it left, and that was over at its moment, was on its way out
-- before the step ended
abbrev pub ReapsToTheEnd : Type 0
ReapsToTheEnd =
    (header : Header) (scripts : List (List Command)) (part : ℕ → Part) (lookers : ℕ) (v : BindView) (x : View)
    (values : List (Box Bucket)) (says : List Said) (clock : ℕ) (looks : Looks)
    → (e : HasEnded header scripts part lookers v x values says clock) → Each AreFew scripts
    → let race = race_by header looks (steps_by header part 1 scripts says e.done) values (seeing x clock) clock in
    AllReaped header (Among race.book) 1 scripts race.sections

-- the record of a race that has ended is lawful, but for what is said of lookups
abbrev pub Closes : Type 0
Closes =
    (header : Header) (scripts : List (List Command)) (part : ℕ → Part) (lookers : ℕ) (v : BindView) (x : View)
    (values : List (Box Bucket)) (says : List Said) (clock : ℕ) (looks : Looks)
    → (e : HasEnded header scripts part lookers v x values says clock) → Each AreFew scripts
    → let race = race_by header looks (steps_by header part 1 scripts says e.done) values (seeing x clock) clock in
    IsLawfulBut header scripts race × SaysSo race says

-- a pass's receipts are what came of the items, and with what the sections did that is a whole record
abbrev pub LooksToo : Type 0
LooksToo =
    (script : Script) (capture : Capture) (part : ℕ → Part) (tooks : List (List Look)) (looked : List Looked)
    (passes : ℕ)
    (v : BindView) (x : View) (values : List (Box Bucket)) (says : List Said) (clock : ℕ)
    → (e : HasEnded script.header script.sections part (length tooks) v x values says clock)
    → AllLooked script.header passes capture.items part (length script.sections + 1) tooks
    → AreTold capture.items tooks looked
    → Each AreFew script.sections
    → let race = race_by script.header (looks_by passes tooks looked capture)
    (steps_by script.header part 1 script.sections says e.done) values (seeing x clock) clock in
    Lawful script capture race × SaysSo race says

-- a looker begins
abbrev pub LooksNone : Type 0
LooksNone =
    (header : Header) (passes : ℕ) (all : List Item) (p : Part) → HasLookedNothingUp p
    → HasLooked header passes all p []

-- it looks one packet up
abbrev pub LooksMore : Type 0
LooksMore =
    (header : Header) (passes : ℕ) (all : List Item) (v : BindView) (took : List Look) (i : ℕ) (packet : Packet)
    (m n : Sat) (r : Receipt)
    → HasLooked header passes all (looking v m.0) took → item_at all i ≡ items.Packet packet → AllBefore i took
    → LookedUp header passes packet m n r
    → HasLooked header passes all (looking v n.0) (took ++ record { item = i; looked = looks.Answered r } ∷ [])

-- it passes over an item
abbrev pub LooksPast : Type 0
LooksPast =
    (header : Header) (passes : ℕ) (all : List Item) (p : Part) (took : List Look) (i : ℕ) (looked : Looked)
    → HasLooked header passes all p took → IsPassedOver (item_at all i) looked → AllBefore i took
    → HasLooked header passes all p (took ++ record { item = i; looked = looked } ∷ [])

-- once all are joined, all changes explain each search of a looker: so each pass of one that was given up met a change
abbrev pub SearchesMeetChanges : Type 0
SearchesMeetChanges =
    (header : Header) (scripts : List (List Command)) (part : ℕ → Part) (lookers : ℕ) (v : BindView) (x : View)
    (values : List (Box Bucket)) (says : List Said) (clock : ℕ)
    → HasEnded header scripts part lookers v x values says clock
    → Each (λ m. (s : Search) → Among (part m).chain.read.receipts s
    → IsExplained (mine (seeing x clock)) header.shape.slots s) (range_with_len (length scripts + 1) lookers)

-- a lookup that was given up names one of the buckets through which it went
abbrev pub NamesBuckets : Type 0
NamesBuckets =
    (slots groups : ℕ) (layout : Layout) (packet : Packet) (passes : ℕ) (m : Sat) (p p' : GroupPasses)
    (end : PacketAnswer)
    (from : ℕ) (c : Whole) (n : Sat)
    → ByOrder slots groups layout packet passes m p end p' from c n → NamesItsBucket layout.shape layout.seed packet end

-- the searches by which a lookup went, whose receipts its pass has then; where it was given up, it was after so many
-- passes
abbrev pub GivesUpAfter : Type 0
GivesUpAfter =
    (slots groups : ℕ) (layout : Layout) (packet : Packet) (passes : ℕ) (m : Sat) (p p' : GroupPasses)
    (end : PacketAnswer) (from : ℕ) (c : Whole) (n : Sat)
    → ByOrder slots groups layout packet passes m p end p' from c n
    → (searches : List Search) × (n.0.read.receipts ≡ m.0.read.receipts ++ searches)
    × AnswersAfter passes searches packet end
